use Rattle.std.specs.Prelude.{ℕ, List, [], ◌∷◌, map, Some, true}
use Rattle.clap.specs.Words.{App, Rule, new_app, new_rule}
use Rattle.clap.specs.declared.builder.action.ArgAction.TheVariants.{Set}
use Rattle.clap.specs.declared.builder.range.ValueRange.{ValueRange}
use Rattle.job_words.specs.Given.{Options}
use Rattle.job_words.specs.declared.options.Takes.{Takes}
use Rattle.job_words.specs.declared.options.Takes.TheVariants.{Value, Nothing}

-- the word that is no option
abbrev pub word_rule : Rule
word_rule = record (new_rule []) { action = Some Set }

-- how many values a use has
abbrev pub range_of : Takes → ValueRange
range_of Value = record { start_inclusive = 1; end_inclusive = 1 }
range_of Nothing = record { start_inclusive = 0; end_inclusive = 0 }

abbrev pub option_rule : List ℕ × Takes → Rule
option_rule option =
    record (new_rule option.0) { long = Some option.0; action = Some Set; range = Some (range_of option.1) }

abbrev pub rules_of : Options → List Rule
rules_of options = word_rule ∷ map option_rule options

abbrev pub command_of : (name : List ℕ) → Options → App
command_of name options =
    record (new_app name) {
      top = record ((new_app name).top) {
        rules = rules_of options;
        no_binary_name = true;
        disable_help_flag = true;
        disable_version_flag = true;
      };
    }

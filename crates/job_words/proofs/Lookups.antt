-- How clap finds the arguments of a command.
use Rattle.std.proofs.Common.{◌≡◌, ◌∙◌, ap, ap₂, sym, ℕ, Bool, true, false, not, ◌&&◌, ◌||◌, List, [], ◌∷◌, map, Option, Some, None, is_some, refl, rules, arith, cond}
use Rattle.std.specs.List.{find, list_any, list_all, count_by}
use Rattle.std.specs.Option.{option_map, option_map_or}
use Rattle.std.specs.Str.{bytes_eq}
use Rattle.std.proofs.lemmas.Slice.Eq.{bytes_eq-Decides}
use Rattle.clap.specs.Walk.{Rule, arg_by_id, arg_by_index, arg_by_long, is_early_multiple}
use Rattle.clap.specs.Simple.{Shape, App, new_shape, built, filled_from, is_simple, is_buildable, is_ready, is_ready_leaf}
use Rattle.clap.specs.Faults.{is_free_app}
use Rattle.clap.specs.Words.{is_simple_and_free}
use Rattle.clap.specs.declared.builder.value_parser.ValueParser.TheVariants as parser
use Rattle.job_words.specs.Given.{Options, takes_of}
use Rattle.job_words.specs.Code.Command.{word_rule, option_rule, rules_of, command_of}
use Rattle.job_words.specs.declared.options.Takes.{Takes}

-- the arguments as clap fills them in
abbrev pub built_word : Rule
built_word = record word_rule { parser = Some parser.String; range = Some (record { start_inclusive = 1; end_inclusive = 1 }); index = Some 1 }

abbrev pub built_option : List ℕ × Takes → Rule
built_option option = record (option_rule option) { parser = Some parser.String }

abbrev pub built_rules : Options → List Rule
built_rules options = built_word ∷ map built_option options

abbrev pub built_shape : List ℕ → Options → Shape
built_shape name options = record (new_shape name) {
  rules = built_rules options;
  no_binary_name = true;
  disable_help_flag = true;
  disable_help_subcommand = true;
  disable_version_flag = true;
  is_built = true;
}

filled_options : (i : ℕ) (options : Options) → filled_from i (map option_rule options) ≡ map built_option options
filled_options i [] = refl
filled_options i (x ∷ xs) = ap (λ rs. built_option x ∷ rs) (filled_options i xs)

pub built_command : (name : List ℕ) (options : Options) → built (command_of name options) ≡ record { top = built_shape name options; subs = [] }
built_command name options = ap (λ (rs : List Rule). record { top = record (built_shape name []) { rules = built_word ∷ rs }; subs = [] }) (filled_options 2 options)

pub and_false : (a : Bool) → (a && false) ≡ false
and_false true = refl
and_false false = refl

pub or_false : (a : Bool) → (a || false) ≡ a
or_false true = refl
or_false false = refl

-- each argument of a command is simple and free, and no early one takes several values
each_simple : (options : Options) → list_all (λ a. a.is_simple) (map built_option options) ≡ true
each_simple [] = refl
each_simple (x ∷ xs) = each_simple xs

each_free : (options : Options) → list_all (λ a. a.is_free) (map built_option options) ≡ true
each_free [] = refl
each_free (x ∷ xs) = each_free xs

unfilled_simple : (options : Options) → list_all (λ a. a.is_simple) (map option_rule options) ≡ true
unfilled_simple [] = refl
unfilled_simple (x ∷ xs) = unfilled_simple xs

none_early : (n : ℕ) (options : Options) → list_any (is_early_multiple n) (map built_option options) ≡ false
none_early n [] = refl
none_early n (x ∷ xs) = none_early n xs

pub simple_command : (name : List ℕ) (options : Options) → is_simple (command_of name options) ≡ true
simple_command name options =
    ap (λ (b : App). is_buildable (command_of name options) && (is_ready b.top && list_all is_ready_leaf b.subs)) (built_command name options)
    ∙ rw (unfilled_simple options, each_simple options) (rw (none_early (count_by (λ a. is_some a.index) (built_rules options)) options) refl)

pub simple_and_free : (name : List ℕ) (options : Options) → is_simple_and_free (command_of name options) ≡ true
simple_and_free name options =
    ap₂ (λ (simple : Bool) (b : App). simple && is_free_app b) (simple_command name options) (built_command name options) ∙ rw (each_free options) refl

-- ---- finding an argument

option_by_long : (options : Options) (name : List ℕ) → arg_by_long (map built_option options) name ≡ option_map (λ t. built_option (name, t)) (takes_of options name)
option_by_long [] name = refl
option_by_long (x ∷ xs) name = go (bytes_eq x.0 name) refl (option_by_long xs name)
  where
    go : (b : Bool) → bytes_eq x.0 name ≡ b → arg_by_long (map built_option xs) name ≡ option_map (λ t. built_option (name, t)) (takes_of xs name)
        → arg_by_long (map built_option (x ∷ xs)) name ≡ option_map (λ t. built_option (name, t)) (takes_of (x ∷ xs) name)
    go true e rest =
        let same : x.0 ≡ name = (bytes_eq-Decides x.0 name).0 e in
        rw e (ap (λ n. Some (built_option (n, x.1))) same)
    go false e rest = rw e rest

pub by_long : (options : Options) (name : List ℕ) → arg_by_long (built_rules options) name ≡ option_map (λ t. built_option (name, t)) (takes_of options name)
by_long options name = option_by_long options name

option_by_id : (options : Options) (name : List ℕ) → arg_by_id (map built_option options) name ≡ option_map (λ t. built_option (name, t)) (takes_of options name)
option_by_id [] name = refl
option_by_id (x ∷ xs) name = go (bytes_eq x.0 name) refl (option_by_id xs name)
  where
    go : (b : Bool) → bytes_eq x.0 name ≡ b → arg_by_id (map built_option xs) name ≡ option_map (λ t. built_option (name, t)) (takes_of xs name)
        → arg_by_id (map built_option (x ∷ xs)) name ≡ option_map (λ t. built_option (name, t)) (takes_of (x ∷ xs) name)
    go true e rest =
        let same : x.0 ≡ name = (bytes_eq-Decides x.0 name).0 e in
        rw e (ap (λ n. Some (built_option (n, x.1))) same)
    go false e rest = rw e rest

pub by_id : (options : Options) (name : List ℕ) → bytes_eq [] name ≡ false → arg_by_id (built_rules options) name ≡ option_map (λ t. built_option (name, t)) (takes_of options name)
by_id options name named = rw named (option_by_id options name)

option_by_index : (i : ℕ) (options : Options) → arg_by_index (map built_option options) i ≡ None
option_by_index i [] = refl
option_by_index i (x ∷ xs) = option_by_index i xs

pub second_index : (options : Options) → arg_by_index (built_rules options) 2 ≡ None
second_index options = option_by_index 2 options

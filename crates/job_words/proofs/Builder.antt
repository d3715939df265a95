-- One more option of a command.
use Rattle.std.proofs.Common.{◌≡◌, ◌∙◌, ◌+◌, ◌<◌, ap, sym, ℕ, List, [], ◌∷◌, ◌++◌, map, take, length, slice_index_or}
use Rattle.std.specs.Borrow.{Bor}
use Rattle.std.proofs.lemmas.List.{map-append, take_more}
use Rattle.clap.specs.Simple.{App, with_rule}
use Rattle.clap.specs.Walk.{Rule}
use Rattle.job_words.specs.Code.Answers.{named}
use Rattle.job_words.specs.Code.Command.{command_of, option_rule, word_rule}
use Rattle.job_words.specs.declared.options.Takes.{Takes}

abbrev Entry : Type 0
Entry = Bor (List ℕ) × Takes

pub one_more : (name : List ℕ) (entries : List Entry) (i : ℕ) (d : Entry) (old new : App) → i < length entries → old ≡ command_of name (map named (take i entries))
    → new ≡ with_rule old (option_rule (named (slice_index_or entries i d))) → new ≡ command_of name (map named (take (i + 1) entries))
one_more name entries i d old new lt so_far is =
    let names : map named (take (i + 1) entries) ≡ map named (take i entries) ++ named (slice_index_or entries i d) ∷ [] =
    ap (map named) (take_more entries i d lt) ∙ map-append named (take i entries) (slice_index_or entries i d ∷ []) in
    is ∙ ap (λ a. with_rule a (option_rule (named (slice_index_or entries i d)))) so_far
    ∙ ap (λ (rules : List Rule). record (command_of name []) { top = record ((command_of name []).top) { rules = word_rule ∷ rules } })
    (sym (map-append option_rule (map named (take i entries)) (named (slice_index_or entries i d) ∷ [])) ∙ sym (ap (map option_rule) names))

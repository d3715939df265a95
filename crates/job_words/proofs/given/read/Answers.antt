use Rattle.std.proofs.Common.{◌≡◌, ◌∙◌, ap, sym, subst, rules, ℕ, List, [], map, string_bytes, Some, inl, inr}
use Rattle.clap.specs.Words.{App, HasKind, IsAmong, app_of, fault_of, found_of, is_simple, is_simple_and_free, kind_of, matches_of}
use Rattle.job_words.specs.Command.{shown}
use Rattle.job_words.specs.Code.Command.{command_of}
use Rattle.job_words.specs.Given.{Options}
use Rattle.job_words.specs.Code.Answers.{named}
use Rattle.job_words.proofs.CommandLaw.{refused, taken, unlawful}
use Rattle.job_words.proofs.Lookups.{simple_and_free, simple_command}
use Rattle.job_words.proofs.given.read.Goals as goal

pub returns-then-not-are_lawful : goal.returns-then-not-are_lawful
returns-then-not-are_lawful c = unlawful (map named c.args.options.now) (map string_bytes c.args.words.now) (sym c.are_lawful.ensures ∙ c.if-not-are_lawful.true)

pub returns-in-Ok : goal.returns-in-Ok
returns-in-Ok c =
    let name = c.args.name.now in
    let options : Options = map named c.args.options.now in
    let words : List (List ℕ) = map string_bytes c.args.words.now in
    let app_is = c.in_ok-command.ensures in
    let fault : fault_of (command_of name options) words ≡ [] =
    sym (ap (λ a. fault_of a words) app_is) ∙ c.in-Ok.ensures.kinds (ap is_simple_and_free app_is ∙ simple_and_free name options) in
    let rows = (c.in-Ok.ensures.matches (ap is_simple app_is ∙ simple_command name options)).0 in
    taken name options words (search rules) fault ∙ ap (λ rs. Some (map shown rs)) (sym (rows ∙ ap (λ a. matches_of a words) app_is))

pub returns : goal.returns
returns c =
    let name = c.args.name.now in
    let options : Options = map named c.args.options.now in
    let words : List (List ℕ) = map string_bytes c.args.words.now in
    let app_is = c.in_ok-command.ensures in
    let kinds : HasKind (fault_of (app_of c.in_ok-command.command) words) c.in-Err.error = c.in-Err.ensures.kinds (ap is_simple_and_free app_is ∙ simple_and_free name options) in
    elim kinds [
      | inl memory ↦ absurd (search rules)
      | inr among ↦ refused name options words (kind_of c.in-Err.error) (search rules) (subst (λ (a : App). IsAmong (kind_of c.in-Err.error) (fault_of a words)) app_is among)
    ]

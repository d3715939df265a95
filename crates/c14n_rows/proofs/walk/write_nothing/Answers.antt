use Rattle.std.proofs.Common.{ℕ}
use Rattle.node_sets.specs.View.{in_view}
use Rattle.c14n_text.specs.Canon.{opening, closing}
use Rattle.c14n_text.proofs.ProgressLemmas.{nothing}
use Rattle.c14n_text.proofs.QuietRows.{no_opening, no_closing}
use Rattle.c14n_rows.specs.Rules.{rule_of}
use Rattle.c14n_rows.proofs.walk.write_nothing.Goals as goal

pub returns : goal.returns
returns g c =
    let rows = c.args.doc.now in let set = in_view c.args.set in let rule = rule_of c.args.method in
    let w = c.rows-rows.ensures.shaped in let quiet = c.requires.quiet in
    nothing rows w (opening rows set rule c.args.comments) (closing rows set) _ _ _ c.args.sink.now (λ (x : ℕ). no_opening rows w set rule c.args.comments x (quiet x)) (λ (x : ℕ). no_closing rows w set rule c.args.comments x (quiet x))

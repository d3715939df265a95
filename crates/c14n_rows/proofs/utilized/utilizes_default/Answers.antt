use Rattle.std.proofs.Common.{ℕ, List, length, eqb, ap, sym, ◌∙◌}
use Rattle.node_sets.specs.View.{in_view}
use Rattle.c14n_rows.proofs.UtilizedLemmas.{default_utilized}
use Rattle.c14n_rows.proofs.utilized.utilizes_default.Goals as goal

pub returns : goal.returns
returns c = c.is_empty.ensures ∙ ap (λ (p : List ℕ). eqb (length p) 0) c.prefix_text.ensures ∙ sym (default_utilized c.args.doc.now (in_view c.args.set) c.args.e)

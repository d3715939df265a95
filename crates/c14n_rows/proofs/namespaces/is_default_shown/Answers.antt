use Rattle.std.proofs.Common.{[], ap, sym, ◌∙◌}
use Rattle.std.specs.List.{find}
use Rattle.std.specs.Prelude.{is_some}
use Rattle.node_sets.specs.View.{in_view}
use Rattle.c14n_text.specs.Rows.{above}
use Rattle.c14n_text.specs.Namespaces.{renders}
use Rattle.c14n_rows.specs.Rules.{rule_of}
use Rattle.c14n_rows.proofs.StackLemmas.{has_default-named_in}
use Rattle.c14n_rows.proofs.namespaces.is_default_shown.Goals as goal

pub returns : goal.returns
returns c =
    let rows = c.args.doc.now in let set = in_view c.args.set in
    c.is_some.ensures ∙ ap is_some c.requires.frame.default_is
    ∙ sym (has_default-named_in rows set (find (renders rows set (rule_of c.args.method) []) (above rows c.args.x)))

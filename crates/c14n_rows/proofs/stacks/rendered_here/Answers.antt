use Rattle.std.proofs.Common.{◌≡◌, ℕ, Bool, true, false, List, cond, Some, sym, ap, ◌∙◌, arith}
use Rattle.std.specs.List.{find}
use Rattle.xml_doc.specs.Shape.{row_at}
use Rattle.node_sets.specs.View.{in_view}
use Rattle.c14n_text.specs.Rows.{parent_of}
use Rattle.c14n_text.specs.Namespaces.{renders}
use Rattle.c14n_rows.specs.Rules.{rule_of}
use Rattle.c14n_rows.specs.Stacks.{upwards}
use Rattle.c14n_rows.specs.Code.Stacks.{named_in, rendered}
use Rattle.c14n_rows.proofs.StackLemmas.{named_itself, rendered-more}
use Rattle.c14n_rows.proofs.stacks.rendered_here.Goals as goal

pub returns-then-renders-clause-value : goal.returns-then-renders-clause-value
returns-then-renders-clause-value c =
    let rows = c.args.doc.now in let w = c.rows-rows.ensures.shaped in let set = in_view c.args.set in let rule = rule_of c.args.method in let x = c.args.x in
    let p = (row_at rows c.args.y).local_name in
    let pos = c.requires.below in
    let counts : renders rows set rule p x ≡ true = sym c.if-renders.ensures in
    c.if_in_set.ensures.value
    ∙ sym (rendered-more rows set rule p w x (λ (z : x ≡ 0). omega arith) c.requires.here
    ∙ ap (λ (t : Bool). named_in rows set p (cond t (Some x) (find (renders rows set rule p) (upwards rows (parent_of rows x))))) counts
    ∙ named_itself rows w set x c.args.y c.requires.here c.requires.row c.requires.namespace)

pub returns-else-renders-clause-value : goal.returns-else-renders-clause-value
returns-else-renders-clause-value c =
    let rows = c.args.doc.now in let w = c.rows-rows.ensures.shaped in let set = in_view c.args.set in let rule = rule_of c.args.method in let x = c.args.x in
    let p = (row_at rows c.args.y).local_name in
    let pos = c.requires.below in
    let counts : renders rows set rule p x ≡ false = sym c.if-renders.ensures in
    c.rendered_above.ensures.value ∙ ap (λ (q : List ℕ). rendered rows set rule q (parent_of rows x)) c.local_name.ensures
    ∙ sym (rendered-more rows set rule p w x (λ (z : x ≡ 0). omega arith) c.requires.here
    ∙ ap (λ (t : Bool). named_in rows set p (cond t (Some x) (find (renders rows set rule p) (upwards rows (parent_of rows x))))) counts)

use Rattle.std.proofs.Common.{◌≡◌, Bool, [], cond, Some, sym, ap, ◌∙◌, arith}
use Rattle.std.specs.List.{find}
use Rattle.node_sets.specs.View.{in_view}
use Rattle.c14n_text.specs.Rows.{parent_of}
use Rattle.c14n_text.specs.Namespaces.{renders}
use Rattle.c14n_rows.specs.Rules.{rule_of}
use Rattle.c14n_rows.specs.Stacks.{upwards}
use Rattle.c14n_rows.specs.Code.Stacks.{is_named, named_in}
use Rattle.c14n_rows.proofs.StackLemmas.{rendered-more}
use Rattle.c14n_rows.proofs.stacks.default_here.Goals as goal

pub returns-then-renders_default-clause-value : goal.returns-then-renders_default-clause-value
returns-then-renders_default-clause-value c =
    let rows = c.args.doc.now in let set = in_view c.args.set in let rule = rule_of c.args.method in let x = c.args.x in
    let pos = c.requires.below in
    c.default_row.ensures.value ∙ ap (find (is_named rows set [])) (sym c.requires.own.namespaces)
    ∙ sym (rendered-more rows set rule [] c.rows-rows.ensures.shaped x (λ (z : x ≡ 0). omega arith) c.requires.here
    ∙ ap (λ (t : Bool). named_in rows set [] (cond t (Some x) (find (renders rows set rule []) (upwards rows (parent_of rows x))))) (sym c.if-renders_default.ensures))

pub returns-else-renders_default-clause-value : goal.returns-else-renders_default-clause-value
returns-else-renders_default-clause-value c =
    let rows = c.args.doc.now in let set = in_view c.args.set in let rule = rule_of c.args.method in let x = c.args.x in
    let pos = c.requires.below in
    c.requires.above_is
    ∙ sym (rendered-more rows set rule [] c.rows-rows.ensures.shaped x (λ (z : x ≡ 0). omega arith) c.requires.here
    ∙ ap (λ (t : Bool). named_in rows set [] (cond t (Some x) (find (renders rows set rule []) (upwards rows (parent_of rows x))))) (sym c.if-renders_default.ensures))

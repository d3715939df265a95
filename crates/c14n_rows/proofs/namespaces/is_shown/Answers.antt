use Rattle.std.proofs.Common.{ℕ, List, length, ap, sym, ◌∙◌}
use Rattle.std.specs.Str.{bytes_eq}
use Rattle.node_sets.specs.View.{in_view}
use Rattle.c14n_text.specs.Rows.{parent_of}
use Rattle.c14n_text.specs.Namespaces.{renders, nearest}
use Rattle.c14n_rows.specs.Rules.{rule_of}
use Rattle.c14n_rows.proofs.Chains.{parent_there}
use Rattle.c14n_rows.proofs.StackLemmas.{find_chain-there, has_binding-named_in, shown_by}
use Rattle.c14n_rows.proofs.namespaces.is_shown.Goals as goal

pub returns-in-Some : goal.returns-in-Some
returns-in-Some c =
    let rows = c.args.doc.now in let w = c.rows-rows.ensures.shaped in let x = c.args.x in let set = in_view c.args.set in let rule = rule_of c.args.method in let p = c.args.prefix.now in let name = c.args.name.now in
    let there = find_chain-there rows w (renders rows set rule p) (length rows) (parent_of rows x) (parent_there rows w x c.requires.element) in
    c.eq.ensures ∙ ap (λ (v : List ℕ). bytes_eq v name) c.value.ensures ∙ ap (shown_by rows name) c.in-Some.ensures.value
    ∙ sym (has_binding-named_in rows w set p name (nearest rows set rule p x) there)

pub returns-in-None : goal.returns-in-None
returns-in-None c =
    let rows = c.args.doc.now in let w = c.rows-rows.ensures.shaped in let x = c.args.x in let set = in_view c.args.set in let rule = rule_of c.args.method in let p = c.args.prefix.now in let name = c.args.name.now in
    let there = find_chain-there rows w (renders rows set rule p) (length rows) (parent_of rows x) (parent_there rows w x c.requires.element) in
    ap (shown_by rows name) c.in-None.ensures.value ∙ sym (has_binding-named_in rows w set p name (nearest rows set rule p x) there)

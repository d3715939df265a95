use Rattle.std.proofs.Common.{ap, sym, ◌∙◌}
use Rattle.xml_doc.specs.Kinds.{is_element}
use Rattle.c14n_rows.specs.declared.renderer.Counted.{Counted}
use Rattle.c14n_rows.specs.Code.Stacks.{counted_of}
use Rattle.c14n_rows.proofs.EntryLemmas.{count_element, counted_other}
use Rattle.c14n_rows.proofs.renderer.count_of.Goals as goal

pub returns-then-not-is_element : goal.returns-then-not-is_element
returns-then-not-is_element c = counted_other c.args.doc.now c.rows-rows.ensures.shaped c.args.counted c.args.x (ap is_element (sym c.kind.ensures) ∙ sym c.if-not-is_element.ensures)

pub returns-in-Entries : goal.returns-in-Entries
returns-in-Entries c =
    count_element c.args.doc.now c.args.x c.own_rows-own.result.first_attribute c.own_rows-own.result.first_child (ap is_element (sym c.kind.ensures) ∙ sym c.if-not-is_element.ensures) c.own_rows-own.ensures
    ∙ ap (λ (k : Counted). counted_of k c.args.doc.now c.args.x) (sym c.in-Entries.is)

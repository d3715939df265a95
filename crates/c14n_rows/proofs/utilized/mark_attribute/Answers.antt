use Rattle.std.proofs.Common.{◌≡◌, ℕ, ◌<◌, List, [], refl, ap, sym, ◌∙◌}
use Rattle.std.specs.List.{list_any}
use Rattle.xml_doc.specs.Fields.{namespace_rows}
use Rattle.xml_doc.specs.Shape.{row_at}
use Rattle.node_sets.specs.View.{in_view}
use Rattle.c14n_rows.specs.Code.Stacks.{is_of}
use Rattle.c14n_rows.specs.Code.Utilized.{marks_of}
use Rattle.c14n_rows.proofs.StackLemmas.{when_empty, when_some}
use Rattle.c14n_rows.proofs.UtilizedLemmas.{none_found, none_marked, one_found, outside, without_prefix}
use Rattle.c14n_rows.proofs.utilized.mark_attribute.Goals as goal
use Rattle.c14n_rows.proofs.utilized.mark_attribute.Goals.{then-not-contains-via-then-not-contains, then-not-contains-via-else-not-contains+then-is_empty}

pub returns-then-not-contains-clause-marked : goal.returns-then-not-contains-clause-marked
returns-then-not-contains-clause-marked c =
    let rows = c.args.doc.now in let set = in_view c.args.set in let a = c.args.a in
    λ (before : List ℕ) (are : c.args.marks.now.items ≡ marks_of rows set c.args.e before).
    none_marked rows set c.args.e c.args.until c.requires.rows before a c.args.marks.now.items are
    (λ (z : ℕ) (above : c.args.e < z) (lt : z < c.args.until). elim c.then-not-contains.branch [
      | then-not-contains-via-then-not-contains w ↦ outside rows set a (row_at rows z).local_name (sym w.if-not-contains.ensures)
      | then-not-contains-via-else-not-contains+then-is_empty w ↦ without_prefix rows set a (row_at rows z).local_name (sym c.prefix_text-prefix.ensures ∙ when_empty c.prefix_text-prefix.result.now (sym w.is_empty.ensures ∙ w.if-is_empty.true))
    ])

pub returns-in-Some-clause-marked : goal.returns-in-Some-clause-marked
returns-in-Some-clause-marked c =
    let rows = c.args.doc.now in let set = in_view c.args.set in let a = c.args.a in
    let some = when_some c.prefix_text-prefix.result.now (sym c.is_empty.ensures ∙ c.if-is_empty.false) in
    let found = c.in-Some.ensures in
    λ (before : List ℕ) (are : c.args.marks.now.items ≡ marks_of rows set c.args.e before).
    one_found rows set c.args.e c.args.until c.requires.rows before a c.rows-rows.ensures.shaped c.requires.behind c.requires.within (sym c.if-not-contains.ensures)
    (λ (none : (row_at rows a).prefix_text ≡ []). some (c.prefix_text-prefix.ensures ∙ none))
    c.args.marks.now.items c.in-Some.z _ are found.0 found.1 refl (found.2 ∙ c.prefix_text-prefix.ensures)

pub returns-in_default-clause-marked : goal.returns-in_default-clause-marked
returns-in_default-clause-marked c =
    let rows = c.args.doc.now in let set = in_view c.args.set in let a = c.args.a in
    λ (before : List ℕ) (are : c.args.marks.now.items ≡ marks_of rows set c.args.e before).
    none_found rows set c.args.e c.args.until c.requires.rows before a c.args.marks.now.items are
    (ap (λ (p : List ℕ). list_any (is_of rows p) (namespace_rows rows c.args.e)) (sym c.prefix_text-prefix.ensures) ∙ c.in_default.ensures)

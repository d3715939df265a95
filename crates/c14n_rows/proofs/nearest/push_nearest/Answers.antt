use Rattle.std.proofs.Common.{◌≡◌, ◌<◌, ◌++◌, ℕ, List, true, length, reverse, ap, ◌∙◌, arith, length-append}
use Rattle.std.specs.List.{between, filter}
use Rattle.std.proofs.lemmas.List.{length-drop}
use Rattle.std.proofs.lemmas.List.Elements.{All-append, All-filter, All-same}
use Rattle.std.proofs.lemmas.Slice.{between_to_end}
use Rattle.c14n_text.specs.Attributes.{is_xml}
use Rattle.c14n_rows.specs.Rules.{rule_of}
use Rattle.c14n_rows.specs.Code.Order.{may_import}
use Rattle.c14n_rows.proofs.ImportLemmas.{first_run, second_run, merged_runs}
use Rattle.c14n_rows.proofs.NearestLemmas.{all_kept, few_kept, imports_all, imports_stand, part_few}
use Rattle.c14n_rows.proofs.OrderLaws.{order_again}
use Rattle.c14n_rows.proofs.XmlLemmas.{few_filtered}
use Rattle.c14n_rows.proofs.nearest.push_nearest.Goals as goal

pub push_kept-requires-clause-fit : goal.push_kept-requires-clause-fit
push_kept-requires-clause-fit c =
    all_kept c.args.doc.now (rule_of c.args.method) c.args.xml.now c.args.nearest.now c.requires.nearest c.last_part-part.result c.last_part-part.ensures c.deref.result.now c.deref.ensures.value
    (λ a. a < length c.args.doc.now) c.requires.xml_fit

pub push_kept-requires-clause-are : goal.push_kept-requires-clause-are
push_kept-requires-clause-are c =
    all_kept c.args.doc.now (rule_of c.args.method) c.args.xml.now c.args.nearest.now c.requires.nearest c.last_part-part.result c.last_part-part.ensures c.deref.result.now c.deref.ensures.value
    (λ a. is_xml c.args.doc.now a ≡ true) c.requires.xml_are

pub push_kept-requires-clause-room : goal.push_kept-requires-clause-room
push_kept-requires-clause-room c =
    let xml = c.args.xml.now in let part = c.last_part-part.result in
    let few = few_kept c.args.doc.now (rule_of c.args.method) xml c.args.nearest.now c.requires.nearest part c.last_part-part.ensures c.deref.result.now c.deref.ensures.value in
    let within = part_few c.args.doc.now (rule_of c.args.method) xml c.args.nearest.now c.requires.nearest part c.last_part-part.ensures c.deref.result.now c.deref.ensures.value in
    let pushed = c.push_imports.ensures.few in
    let e = ap (length {A = ℕ}) (between_to_end xml part.count (length xml) (omega arith)) in let n = length-drop part.count xml in
    let room = c.requires.room in let kept = c.push_imports.ensures.attributes_kept in
    omega arith

pub merge-requires-clause-fit : goal.merge-requires-clause-fit
merge-requires-clause-fit c =
    let P : ℕ → Type 0 = λ a. a < length c.args.doc.now in
    All-same P c.push_kept.new.attributes.items _ c.push_kept.ensures.items
    (All-append P c.push_imports.new.ordered.attributes.items _ c.push_imports.ensures.fit
    (All-filter (may_import c.args.doc.now (rule_of c.args.method) c.args.x) P _
    (all_kept c.args.doc.now (rule_of c.args.method) c.args.xml.now c.args.nearest.now c.requires.nearest c.last_part-part.result c.last_part-part.ensures c.deref.result.now c.deref.ensures.value P c.requires.xml_fit)))

pub merge-requires-clause-first : goal.merge-requires-clause-first
merge-requires-clause-first c =
    first_run c.args.doc.now c.args.ordered.now.attributes.items _ _ c.push_imports.new.ordered.attributes.items c.push_kept.new.attributes.items c.push_imports.ensures.attributes c.push_kept.ensures.items
    c.len-start.result c.len-middle.result (omega arith) (omega arith)
    (order_again c.args.doc.now (filter (may_import c.args.doc.now (rule_of c.args.method) c.args.x) (reverse (between c.last_part-part.result.count (length c.args.xml.now) c.args.xml.now))))

pub merge-requires-clause-second : goal.merge-requires-clause-second
merge-requires-clause-second c =
    second_run c.args.doc.now c.args.ordered.now.attributes.items _ _ c.push_imports.new.ordered.attributes.items c.push_kept.new.attributes.items c.push_imports.ensures.attributes c.push_kept.ensures.items
    c.len-start.result c.len-middle.result (omega arith) (omega arith)
    (imports_stand c.args.doc.now (rule_of c.args.method) c.args.xml.now c.args.nearest.now c.requires.nearest c.last_part-part.result c.last_part-part.ensures c.deref.result.now c.deref.ensures.value c.args.x)

pub merge-requires-clause-spare : goal.merge-requires-clause-spare
merge-requires-clause-spare c =
    let xml = c.args.xml.now in let part = c.last_part-part.result in let p = may_import c.args.doc.now (rule_of c.args.method) c.args.x in
    let few = few_kept c.args.doc.now (rule_of c.args.method) xml c.args.nearest.now c.requires.nearest part c.last_part-part.ensures c.deref.result.now c.deref.ensures.value in
    let within = part_few c.args.doc.now (rule_of c.args.method) xml c.args.nearest.now c.requires.nearest part c.last_part-part.ensures c.deref.result.now c.deref.ensures.value in
    let pushed = c.push_imports.ensures.few in
    let e = ap (length {A = ℕ}) (between_to_end xml part.count (length xml) (omega arith)) in let n = length-drop part.count xml in
    let less = few_filtered p (between part.from part.until c.deref.result.now) in
    let k = ap (length {A = ℕ}) c.push_kept.ensures.items in let m = length-append c.push_imports.new.ordered.attributes.items (filter p (between part.from part.until c.deref.result.now)) in
    let spare = c.requires.spare in let kept = c.push_imports.ensures.spare_kept in
    omega arith

pub returns-clause-attributes : goal.returns-clause-attributes
returns-clause-attributes c =
    let rows = c.args.doc.now in let old = c.args.ordered.now.attributes.items in
    merged_runs rows old _ _ c.push_imports.new.ordered.attributes.items c.push_kept.new.attributes.items c.push_imports.ensures.attributes c.push_kept.ensures.items
    c.len-start.result c.len-middle.result (omega arith) (omega arith) c.merge.new.ordered.attributes.items c.merge.ensures.attributes
    ∙ ap (λ (l : List ℕ). old ++ l)
    (imports_all rows (rule_of c.args.method) c.args.xml.now c.args.nearest.now c.requires.nearest c.last_part-part.result c.last_part-part.ensures c.deref.result.now c.deref.ensures.value c.args.x)

pub returns-clause-few : goal.returns-clause-few
returns-clause-few c =
    let xml = c.args.xml.now in let part = c.last_part-part.result in let p = may_import c.args.doc.now (rule_of c.args.method) c.args.x in
    let few = few_kept c.args.doc.now (rule_of c.args.method) xml c.args.nearest.now c.requires.nearest part c.last_part-part.ensures c.deref.result.now c.deref.ensures.value in
    let within = part_few c.args.doc.now (rule_of c.args.method) xml c.args.nearest.now c.requires.nearest part c.last_part-part.ensures c.deref.result.now c.deref.ensures.value in
    let pushed = c.push_imports.ensures.few in
    let e = ap (length {A = ℕ}) (between_to_end xml part.count (length xml) (omega arith)) in let n = length-drop part.count xml in
    let less = few_filtered p (between part.from part.until c.deref.result.now) in
    let k = ap (length {A = ℕ}) c.push_kept.ensures.items in let m = length-append c.push_imports.new.ordered.attributes.items (filter p (between part.from part.until c.deref.result.now)) in
    let merged = c.merge.ensures.few in
    omega arith

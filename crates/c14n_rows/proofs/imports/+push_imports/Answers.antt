use Rattle.std.proofs.Common.{ℕ, List, ◌/◌, ◌++◌, length, reverse, take, ap, ◌∙◌, arith}
use Rattle.std.specs.List.{between, filter}
use Rattle.std.proofs.lemmas.List.{length-drop, length-take-le}
use Rattle.std.proofs.lemmas.Slice.{between_to_end}
use Rattle.c14n_text.specs.Attributes.{in_order}
use Rattle.c14n_rows.specs.Rules.{rule_of}
use Rattle.c14n_rows.specs.Code.Order.{may_import}
use Rattle.c14n_rows.proofs.ImportLemmas.{first_run, second_run, merged_runs, halves}
use Rattle.c14n_rows.proofs.OrderLaws.{order_again}
use Rattle.c14n_rows.proofs.imports.+push_imports.Goals as goal

pub merge-requires-clause-first : goal.merge-requires-clause-first
merge-requires-clause-first t c =
    first_run c.args.doc.now c.args.ordered.now.attributes.items _ _ c.push_imports.new.ordered.attributes.items c.push_imports-2.new.ordered.attributes.items c.push_imports.ensures.attributes c.push_imports-2.ensures.attributes
    c.len-start.result c.len-middle.result (omega arith) (omega arith) (order_again c.args.doc.now (filter (may_import c.args.doc.now (rule_of c.args.method) c.args.x) (reverse (between (length c.args.xml.now / 2) (length c.args.xml.now) c.args.xml.now))))

pub merge-requires-clause-second : goal.merge-requires-clause-second
merge-requires-clause-second t c =
    second_run c.args.doc.now c.args.ordered.now.attributes.items _ _ c.push_imports.new.ordered.attributes.items c.push_imports-2.new.ordered.attributes.items c.push_imports.ensures.attributes c.push_imports-2.ensures.attributes
    c.len-start.result c.len-middle.result (omega arith) (omega arith) (order_again c.args.doc.now (filter (may_import c.args.doc.now (rule_of c.args.method) c.args.x) (reverse (take (length c.args.xml.now / 2) c.args.xml.now))))

pub returns-clause-attributes : goal.returns-clause-attributes
returns-clause-attributes t c =
    let rows = c.args.doc.now in let xml = c.args.xml.now in let p = may_import rows (rule_of c.args.method) c.args.x in let old = c.args.ordered.now.attributes.items in
    merged_runs rows old _ _ c.push_imports.new.ordered.attributes.items c.push_imports-2.new.ordered.attributes.items c.push_imports.ensures.attributes c.push_imports-2.ensures.attributes
    c.len-start.result c.len-middle.result (omega arith) (omega arith) c.merge.new.ordered.attributes.items c.merge.ensures.attributes
    ∙ ap (λ (l : List ℕ). old ++ in_order rows (in_order rows (filter p (reverse l)) ++ in_order rows (filter p (reverse (take (length xml / 2) xml))))) (between_to_end xml (length xml / 2) (length xml) (omega arith))
    ∙ ap (λ (l : List ℕ). old ++ l) (halves rows (rule_of c.args.method) c.args.x (length xml / 2) xml)

pub returns-clause-few : goal.returns-clause-few
returns-clause-few t c =
    let xml = c.args.xml.now in
    let near = c.push_imports.ensures.few in let far = c.push_imports-2.ensures.few in let merged = c.merge.ensures.few in
    let e = ap (length {A = ℕ}) (between_to_end xml (length xml / 2) (length xml) (omega arith)) in let n = length-drop (length xml / 2) xml in
    let m = length-take-le (length xml / 2) xml (omega arith) in
    omega arith

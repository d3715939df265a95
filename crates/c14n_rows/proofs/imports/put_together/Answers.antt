use Rattle.std.proofs.Common.{◌<◌, ◌-◌, ℕ, List, [], ◌++◌, length, reverse, refl, ap, sym, ◌∙◌, arith}
use Rattle.std.specs.List.{filter, range_with_len}
use Rattle.std.proofs.lemmas.List.Elements.{All-nil}
use Rattle.std.proofs.lemmas.List.FromFn.{length-range_with_len}
use Rattle.node_sets.specs.View.{in_view}
use Rattle.c14n_text.specs.Attributes.{imported, in_order}
use Rattle.c14n_text.specs.Bases.{base_place, is_own}
use Rattle.c14n_rows.specs.Rules.{rule_of}
use Rattle.c14n_rows.specs.Code.Joined.{base_of}
use Rattle.c14n_rows.specs.Code.Order.{may_import}
use Rattle.c14n_rows.proofs.ImportLemmas.{few_own, first_run, second_run, merged_runs, own_stands, stack_xml, together}
use Rattle.c14n_rows.proofs.OrderLaws.{order_again}
use Rattle.c14n_rows.proofs.imports.put_together.Goals as goal

pub push_own-requires-clause-fit : goal.push_own-requires-clause-fit
push_own-requires-clause-fit c = rw c.clear.ensures.items (All-nil (λ a. a < length c.args.doc.now))

pub push_own-requires-clause-room : goal.push_own-requires-clause-room
push_own-requires-clause-room c =
    let own = c.own_rows-own.result in
    let n = ap (length {A = ℕ}) c.clear.ensures.items in let m = ap (length {A = ℕ}) c.own_rows-own.ensures.attributes in
    let k = length-range_with_len own.first_attribute (own.first_child - own.first_attribute) in
    let room = c.requires.room in let l = c.clear.ensures.capacity in
    omega arith

pub push_nearest-requires-clause-xml_are : goal.push_nearest-requires-clause-xml_are
push_nearest-requires-clause-xml_are c = rw c.requires.xml_are (stack_xml c.args.doc.now (rule_of c.args.method) c.args.x)

pub push_nearest-requires-clause-room : goal.push_nearest-requires-clause-room
push_nearest-requires-clause-room c =
    let own = c.own_rows-own.result in let p = is_own c.args.doc.now (in_view c.args.set) (base_of c.args.base) in
    let few = few_own p c.clear.new.self.items c.push_own.new.attributes.items own.first_attribute (own.first_child - own.first_attribute) c.push_own.ensures.items in
    let n = ap (length {A = ℕ}) c.clear.ensures.items in let m = ap (length {A = ℕ}) c.own_rows-own.ensures.attributes in
    let k = length-range_with_len own.first_attribute (own.first_child - own.first_attribute) in
    let room = c.requires.room in let l = c.clear.ensures.capacity in let j = c.push_own.ensures.capacity in
    omega arith

pub push_nearest-requires-clause-spare : goal.push_nearest-requires-clause-spare
push_nearest-requires-clause-spare c =
    let own = c.own_rows-own.result in let p = is_own c.args.doc.now (in_view c.args.set) (base_of c.args.base) in
    let few = few_own p c.clear.new.self.items c.push_own.new.attributes.items own.first_attribute (own.first_child - own.first_attribute) c.push_own.ensures.items in
    let n = ap (length {A = ℕ}) c.clear.ensures.items in let m = ap (length {A = ℕ}) c.own_rows-own.ensures.attributes in
    let k = length-range_with_len own.first_attribute (own.first_child - own.first_attribute) in
    let spare = c.requires.spare in
    omega arith

pub merge-requires-clause-first : goal.merge-requires-clause-first
merge-requires-clause-first c =
    let rows = c.args.doc.now in let own = c.own_rows-own.result in let p = is_own rows (in_view c.args.set) (base_of c.args.base) in
    let written = filter p (range_with_len own.first_attribute (own.first_child - own.first_attribute)) in
    first_run rows [] written _ c.push_own.new.attributes.items c.push_nearest.new.ordered.attributes.items (c.push_own.ensures.items ∙ ap (λ (l : List ℕ). l ++ written) c.clear.ensures.items) c.push_nearest.ensures.attributes 0 c.len-middle.result refl (omega arith)
    (own_stands rows c.rows-rows.ensures.shaped c.args.x own.first_attribute own.first_child c.own_rows-own.ensures.ordered c.own_rows-own.ensures.within c.own_rows-own.ensures.attributes p)

pub merge-requires-clause-second : goal.merge-requires-clause-second
merge-requires-clause-second c =
    let rows = c.args.doc.now in let own = c.own_rows-own.result in let p = is_own rows (in_view c.args.set) (base_of c.args.base) in
    let written = filter p (range_with_len own.first_attribute (own.first_child - own.first_attribute)) in
    second_run rows [] written _ c.push_own.new.attributes.items c.push_nearest.new.ordered.attributes.items (c.push_own.ensures.items ∙ ap (λ (l : List ℕ). l ++ written) c.clear.ensures.items) c.push_nearest.ensures.attributes 0 c.len-middle.result refl (omega arith)
    (order_again rows (filter (may_import rows (rule_of c.args.method) c.args.x) (reverse c.args.xml.now)))

pub merge-requires-clause-room : goal.merge-requires-clause-room
merge-requires-clause-room c =
    let own = c.own_rows-own.result in let p = is_own c.args.doc.now (in_view c.args.set) (base_of c.args.base) in
    let few = few_own p c.clear.new.self.items c.push_own.new.attributes.items own.first_attribute (own.first_child - own.first_attribute) c.push_own.ensures.items in
    let n = ap (length {A = ℕ}) c.clear.ensures.items in let m = ap (length {A = ℕ}) c.own_rows-own.ensures.attributes in
    let k = length-range_with_len own.first_attribute (own.first_child - own.first_attribute) in
    let room = c.requires.room in let l = c.clear.ensures.capacity in let j = c.push_own.ensures.capacity in
    let more = c.push_nearest.ensures.few in let i = c.push_nearest.ensures.attributes_kept in
    omega arith

pub merge-requires-clause-spare : goal.merge-requires-clause-spare
merge-requires-clause-spare c =
    let own = c.own_rows-own.result in let p = is_own c.args.doc.now (in_view c.args.set) (base_of c.args.base) in
    let few = few_own p c.clear.new.self.items c.push_own.new.attributes.items own.first_attribute (own.first_child - own.first_attribute) c.push_own.ensures.items in
    let n = ap (length {A = ℕ}) c.clear.ensures.items in let m = ap (length {A = ℕ}) c.own_rows-own.ensures.attributes in
    let k = length-range_with_len own.first_attribute (own.first_child - own.first_attribute) in
    let spare = c.requires.spare in let more = c.push_nearest.ensures.few in let i = c.push_nearest.ensures.spare_kept in
    omega arith

pub push_base-requires-clause-stand : goal.push_base-requires-clause-stand
push_base-requires-clause-stand c =
    let rows = c.args.doc.now in let own = c.own_rows-own.result in let p = is_own rows (in_view c.args.set) (base_of c.args.base) in
    let written = filter p (range_with_len own.first_attribute (own.first_child - own.first_attribute)) in
    let e = merged_runs rows [] written _ c.push_own.new.attributes.items c.push_nearest.new.ordered.attributes.items (c.push_own.ensures.items ∙ ap (λ (l : List ℕ). l ++ written) c.clear.ensures.items) c.push_nearest.ensures.attributes 0 c.len-middle.result refl (omega arith) c.merge.new.ordered.attributes.items c.merge.ensures.attributes in
    ap (in_order rows) e ∙ order_again rows (written ++ in_order rows (filter (may_import rows (rule_of c.args.method) c.args.x) (reverse c.args.xml.now))) ∙ sym e

pub push_base-requires-clause-room : goal.push_base-requires-clause-room
push_base-requires-clause-room c =
    let own = c.own_rows-own.result in let p = is_own c.args.doc.now (in_view c.args.set) (base_of c.args.base) in
    let few = few_own p c.clear.new.self.items c.push_own.new.attributes.items own.first_attribute (own.first_child - own.first_attribute) c.push_own.ensures.items in
    let n = ap (length {A = ℕ}) c.clear.ensures.items in let m = ap (length {A = ℕ}) c.own_rows-own.ensures.attributes in
    let k = length-range_with_len own.first_attribute (own.first_child - own.first_attribute) in
    let room = c.requires.room in let l = c.clear.ensures.capacity in let j = c.push_own.ensures.capacity in
    let more = c.push_nearest.ensures.few in let i = c.push_nearest.ensures.attributes_kept in let less = c.merge.ensures.few in let h = c.merge.ensures.kept.attributes in
    omega arith

pub push_base-requires-clause-spare : goal.push_base-requires-clause-spare
push_base-requires-clause-spare c =
    let own = c.own_rows-own.result in let p = is_own c.args.doc.now (in_view c.args.set) (base_of c.args.base) in
    let few = few_own p c.clear.new.self.items c.push_own.new.attributes.items own.first_attribute (own.first_child - own.first_attribute) c.push_own.ensures.items in
    let n = ap (length {A = ℕ}) c.clear.ensures.items in let m = ap (length {A = ℕ}) c.own_rows-own.ensures.attributes in
    let k = length-range_with_len own.first_attribute (own.first_child - own.first_attribute) in
    let spare = c.requires.spare in
    let more = c.push_nearest.ensures.few in let i = c.push_nearest.ensures.spare_kept in let less = c.merge.ensures.few in let h = c.merge.ensures.kept.spare in
    omega arith

pub returns-clause-attributes : goal.returns-clause-attributes
returns-clause-attributes c =
    let rows = c.args.doc.now in let rule = rule_of c.args.method in let own = c.own_rows-own.result in let p = is_own rows (in_view c.args.set) (base_of c.args.base) in let place = base_place (base_of c.args.base) in
    let written = filter p (range_with_len own.first_attribute (own.first_child - own.first_attribute)) in
    let e = merged_runs rows [] written _ c.push_own.new.attributes.items c.push_nearest.new.ordered.attributes.items (c.push_own.ensures.items ∙ ap (λ (l : List ℕ). l ++ written) c.clear.ensures.items) c.push_nearest.ensures.attributes 0 c.len-middle.result refl (omega arith) c.merge.new.ordered.attributes.items c.merge.ensures.attributes in
    c.push_base.ensures.attributes
    ∙ ap (λ (l : List ℕ). in_order rows (l ++ place)) e
    ∙ together rows rule c.args.x written c.args.xml.now place c.requires.xml_are
    ∙ ap (λ (ks : List ℕ). in_order rows (filter p ks ++ imported rows rule c.args.x ++ place)) (sym c.own_rows-own.ensures.attributes)

pub returns-clause-kept : goal.returns-clause-kept
returns-clause-kept c = record {
  attributes = let l = c.clear.ensures.capacity in let j = c.push_own.ensures.capacity in let i = c.push_nearest.ensures.attributes_kept in let h = c.merge.ensures.kept.attributes in let g = c.push_base.ensures.kept.attributes in omega arith;
  spare = let i = c.push_nearest.ensures.spare_kept in let h = c.merge.ensures.kept.spare in let g = c.push_base.ensures.kept.spare in omega arith;
}

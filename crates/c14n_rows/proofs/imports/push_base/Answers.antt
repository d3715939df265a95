use Rattle.std.proofs.Common.{ℕ, ◌<◌, List, [], ◌∷◌, ◌++◌, length, refl, ap, sym, ◌∙◌, arith, append-nil, length-append}
use Rattle.std.proofs.lemmas.List.Elements.{All-push}
use Rattle.c14n_text.specs.Attributes.{in_order}
use Rattle.c14n_rows.proofs.ImportLemmas.{first_run, second_run, merged_runs}
use Rattle.c14n_rows.proofs.StacksLemmas.{keeps_ordered-all}
use Rattle.c14n_rows.proofs.imports.push_base.Goals as goal

pub push_row-requires : goal.push_row-requires
push_row-requires c = let n = ap (length {A = ℕ}) c.in-Some.ensures.value in let room = c.requires.room in omega arith

pub merge-requires-clause-fit : goal.merge-requires-clause-fit
merge-requires-clause-fit c = rw c.push_row.ensures.items (All-push (λ b. b < length c.args.doc.now) c.args.ordered.now.attributes.items _ c.requires.fit c.in-Some.ensures.there)

pub merge-requires-clause-first : goal.merge-requires-clause-first
merge-requires-clause-first c =
    first_run c.args.doc.now [] c.args.ordered.now.attributes.items _ c.args.ordered.now.attributes.items c.push_row.new.xml.items refl c.push_row.ensures.items 0 c.len-end.result refl (omega arith) c.requires.stand

pub merge-requires-clause-second : goal.merge-requires-clause-second
merge-requires-clause-second c =
    second_run c.args.doc.now [] c.args.ordered.now.attributes.items _ c.args.ordered.now.attributes.items c.push_row.new.xml.items refl c.push_row.ensures.items 0 c.len-end.result refl (omega arith) refl

pub merge-requires-clause-room : goal.merge-requires-clause-room
merge-requires-clause-room c =
    let n = ap (length {A = ℕ}) c.in-Some.ensures.value in let m = ap (length {A = ℕ}) c.push_row.ensures.items in let l = length-append c.args.ordered.now.attributes.items (c.in-Some.place ∷ []) in
    let room = c.requires.room in let k = c.push_row.ensures.capacity in
    omega arith

pub merge-requires-clause-spare : goal.merge-requires-clause-spare
merge-requires-clause-spare c =
    let n = ap (length {A = ℕ}) c.in-Some.ensures.value in let m = ap (length {A = ℕ}) c.push_row.ensures.items in let l = length-append c.args.ordered.now.attributes.items (c.in-Some.place ∷ []) in
    let spare = c.requires.spare in
    omega arith

pub returns-in-Some-clause-attributes : goal.returns-in-Some-clause-attributes
returns-in-Some-clause-attributes c =
    merged_runs c.args.doc.now [] c.args.ordered.now.attributes.items _ c.args.ordered.now.attributes.items c.push_row.new.xml.items refl c.push_row.ensures.items 0 c.len-end.result refl (omega arith) c.merge.new.ordered.attributes.items c.merge.ensures.attributes
    ∙ ap (λ (l : List ℕ). in_order c.args.doc.now (c.args.ordered.now.attributes.items ++ l)) (sym c.in-Some.ensures.value)

pub returns-in-Some-clause-kept : goal.returns-in-Some-clause-kept
returns-in-Some-clause-kept c = record {
  attributes = let k = c.push_row.ensures.capacity in let m = c.merge.ensures.kept.attributes in omega arith;
  spare = let m = c.merge.ensures.kept.spare in omega arith;
}

pub returns-in_default-clause-attributes : goal.returns-in_default-clause-attributes
returns-in_default-clause-attributes c =
    let items = c.args.ordered.now.attributes.items in
    sym c.requires.stand ∙ ap (in_order c.args.doc.now) (sym (append-nil items)) ∙ ap (λ (l : List ℕ). in_order c.args.doc.now (items ++ l)) (sym c.in_default.ensures.value)

pub returns-in_default-clause-kept : goal.returns-in_default-clause-kept
returns-in_default-clause-kept c = keeps_ordered-all c.args.ordered.now

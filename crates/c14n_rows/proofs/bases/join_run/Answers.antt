use Rattle.std.proofs.Common.{◌≡◌, ◌-◌, ℕ, List, Some, true, false, length, take, refl, ap, sym, ◌∙◌, arith}
use Rattle.std.proofs.lemmas.List.{take_all}
use Rattle.xml_doc.specs.Kinds.{is_element}
use Rattle.c14n_bases.specs.Join.{join}
use Rattle.c14n_bases.specs.Joined.{base_at}
use Rattle.c14n_bases.proofs.LengthLemmas.{join_length}
use Rattle.c14n_text.specs.Rows.{kind_of}
use Rattle.c14n_text.specs.Bases.{with_bases}
use Rattle.c14n_rows.specs.Joined.{weights}
use Rattle.c14n_rows.specs.Code.Stacks.{run_on, values_on}
use Rattle.c14n_rows.proofs.BaseLemmas.{run-more, run-stops, run_on-none}
use Rattle.c14n_rows.proofs.ValueLemmas.{base_on_top}
use Rattle.c14n_rows.proofs.bases.join_run.Goals as goal

pub loop-i-init : goal.loop-i-init
loop-i-init c =
    let rows = c.args.doc.now in let runs = c.args.runs.now in
    let all : take (length runs) runs ≡ runs = take_all (length runs) runs (omega arith) in
    let w = ap (λ (l : List ℕ). weights rows (run_on rows l)) all in
    record {
      within = omega arith;
      few = c.requires.count;
      bases = c.requires.prepared ∙ sym (ap (values_on rows) all);
      rest = λ (place : ℕ). ap (λ (l : List ℕ). with_bases rows (Some (place, c.args.joined.now.value)) (run_on rows l)) all;
      enough = omega arith;
      room = refl;
      capacity = omega arith;
    }

pub join_prepared-requires-clause-base : goal.join_prepared-requires-clause-base
join_prepared-requires-clause-base c =
    let rows = c.args.doc.now in let inv = c.loop-i.invariant in
    let inner : is_element (kind_of rows _) ≡ false = ap is_element (sym c.kind.ensures) ∙ sym c.is_element.ensures ∙ c.if-is_element.false in
    let top = base_on_top rows c.args.runs.now c.args.prepared.now.bases c.loop-i.i c.loop-i.k _ c.loop-i-test.true inv.within inv.few refl inner inv.bases in
    let some = top.0 in let few = inv.few in
    omega arith

pub join_prepared-requires-clause-room : goal.join_prepared-requires-clause-room
join_prepared-requires-clause-room c =
    let rows = c.args.doc.now in let inv = c.loop-i.invariant in
    let inner : is_element (kind_of rows _) ≡ false = ap is_element (sym c.kind.ensures) ∙ sym c.is_element.ensures ∙ c.if-is_element.false in
    let top = base_on_top rows c.args.runs.now c.args.prepared.now.bases c.loop-i.i c.loop-i.k _ c.loop-i-test.true inv.within inv.few refl inner inv.bases in
    let w = ap (weights rows) (run-more rows c.args.runs.now c.loop-i.i _ c.loop-i-test.true inv.within refl inner) in
    let n = ap (length {A = ℕ}) top.1 in
    let e = inv.enough in let s = inv.room in let r = c.requires.room in
    omega arith

pub join_prepared-requires-clause-spare : goal.join_prepared-requires-clause-spare
join_prepared-requires-clause-spare c =
    let rows = c.args.doc.now in let inv = c.loop-i.invariant in
    let inner : is_element (kind_of rows _) ≡ false = ap is_element (sym c.kind.ensures) ∙ sym c.is_element.ensures ∙ c.if-is_element.false in
    let w = ap (weights rows) (run-more rows c.args.runs.now c.loop-i.i _ c.loop-i-test.true inv.within refl inner) in
    let e = inv.enough in let s = inv.capacity in let r = c.requires.spare in
    omega arith

pub loop-i-preserved : goal.loop-i-preserved
loop-i-preserved c =
    let rows = c.args.doc.now in let i = c.loop-i.i in let k = c.loop-i.k in let inv = c.loop-i.invariant in
    let inner : is_element (kind_of rows _) ≡ false = ap is_element (sym c.kind.ensures) ∙ sym c.is_element.ensures ∙ c.if-is_element.false in
    let more = run-more rows c.args.runs.now i _ c.loop-i-test.true inv.within refl inner in
    let top = base_on_top rows c.args.runs.now c.args.prepared.now.bases i k _ c.loop-i-test.true inv.within inv.few refl inner inv.bases in
    let w = ap (weights rows) more in
    let v = ap (length {A = ℕ}) top.1 in
    let e = inv.enough in let within = inv.within in let below = inv.few in
    let n = ap (length {A = ℕ}) c.join_prepared.ensures.value in
    let few = join_length (base_at c.args.prepared.now.bases (k - 1)) c.loop-i.joined.value in
    let left = run_on rows (take (i - 1) c.args.runs.now) in
    record {
      within = omega arith;
      few = omega arith;
      bases = top.2;
      rest = λ (place : ℕ).
          ap (λ (l : List ℕ). with_bases rows (Some (place, l)) left) (c.join_prepared.ensures.value ∙ ap (λ (b : List ℕ). join b c.loop-i.joined.value) top.1)
          ∙ ap (with_bases rows (Some (place, c.loop-i.joined.value))) (sym more) ∙ inv.rest place;
      enough = omega arith;
      room = c.join_prepared.ensures.room ∙ inv.room;
      capacity = let s = inv.capacity in let j = c.join_prepared.ensures.capacity in omega arith;
    }

pub returns-then-is_element-clause-joined : goal.returns-then-is_element-clause-joined
returns-then-is_element-clause-joined c = λ (place : ℕ).
    let rows = c.args.doc.now in let i = c.loop-i.i in
    let outer : is_element (kind_of rows _) ≡ true = ap is_element (sym c.kind.ensures) ∙ sym c.is_element.ensures ∙ c.if-is_element.true in
    let none = run-stops rows c.args.runs.now i _ c.loop-i-test.true c.loop-i.invariant.within refl outer in
    sym (ap (with_bases rows (Some (place, c.loop-i.joined.value))) none) ∙ c.loop-i.invariant.rest place

pub returns-clause-joined : goal.returns-clause-joined
returns-clause-joined c = λ (place : ℕ).
    let rows = c.args.doc.now in
    let z : c.loop-i.i ≡ 0 = let t = c.loop-i-test.false in omega arith in
    let none = ap (λ (n : ℕ). run_on rows (take n c.args.runs.now)) z ∙ run_on-none rows c.args.runs.now in
    sym (ap (with_bases rows (Some (place, c.loop-i.joined.value))) none) ∙ c.loop-i.invariant.rest place

use Rattle.std.proofs.Common.{ℕ, List, Option, Some, None, refl, ap, sym, ◌∙◌, arith, inl, inr}
use Rattle.std.specs.List.{filter}
use Rattle.c14n_text.specs.Bases.{bases, is_base, with_bases}
use Rattle.c14n_rows.specs.Joined.{weights}
use Rattle.c14n_rows.specs.Code.Joined.{with_value, filled}
use Rattle.c14n_rows.specs.Code.Stacks.{run_on}
use Rattle.c14n_rows.proofs.BaseLemmas.{with_bases-append}
use Rattle.c14n_rows.proofs.bases.join_element.Goals as goal

pub join_attributes-own-requires-clause-room : goal.join_attributes-own-requires-clause-room
join_attributes-own-requires-clause-room c =
    let e = ap (λ (ys : List ℕ). weights c.args.doc.now (filter (is_base c.args.doc.now) ys)) c.own_rows-rows.ensures.attributes in
    let enough = c.requires.fit.own in
    omega arith

pub join_attributes-own-requires-clause-spare : goal.join_attributes-own-requires-clause-spare
join_attributes-own-requires-clause-spare c =
    let e = ap (λ (ys : List ℕ). weights c.args.doc.now (filter (is_base c.args.doc.now) ys)) c.own_rows-rows.ensures.attributes in
    let enough = c.requires.fit.spare in
    omega arith

pub join_nearest-requires-clause-fit : goal.join_nearest-requires-clause-fit
join_nearest-requires-clause-fit c = record {
  run = let f = c.requires.fit.run in omega arith;
  own = let f = c.requires.fit.own in let r = c.join_attributes-own.ensures.room in omega arith;
  spare = let f = c.requires.fit.spare in let s = c.join_attributes-own.ensures.capacity in omega arith;
}

pub join_run-requires-clause-room : goal.join_run-requires-clause-room
join_run-requires-clause-room c =
    let e = ap (λ (ys : List ℕ). weights c.args.doc.now (filter (is_base c.args.doc.now) ys)) c.own_rows-rows.ensures.attributes in
    let enough = c.requires.fit.own in let few = c.join_attributes-own.ensures.few in
    let f = ap (λ (o : Option ℕ). filled o c.join_attributes-own.new.own.value) c.in-Some.is in
    let r = c.join_attributes-own.ensures.room in
    omega arith

pub join_run-requires-clause-spare : goal.join_run-requires-clause-spare
join_run-requires-clause-spare c =
    let e = ap (λ (ys : List ℕ). weights c.args.doc.now (filter (is_base c.args.doc.now) ys)) c.own_rows-rows.ensures.attributes in
    let enough = c.requires.fit.spare in let few = c.join_attributes-own.ensures.few in
    let f = ap (λ (o : Option ℕ). filled o c.join_attributes-own.new.own.value) c.in-Some.is in
    let s = c.join_attributes-own.ensures.capacity in
    omega arith

pub returns-in-None-clause-value : goal.returns-in-None-clause-value
returns-in-None-clause-value c =
    let rows = c.args.doc.now in let run = run_on rows c.args.runs.now in
    let own =
    ap (λ (o : Option ℕ). with_value o c.join_attributes-own.new.own.value) (sym c.in-None.is) ∙ c.join_attributes-own.ensures.value
    ∙ ap (λ (ys : List ℕ). with_bases rows None (filter (is_base rows) ys)) (sym c.own_rows-rows.ensures.attributes) in
    c.join_nearest.ensures.joined.is ∙ ap (λ o. with_bases rows o run) own ∙ sym (with_bases-append rows None (bases rows c.args.x) run)

pub returns-in-None-clause-joined : goal.returns-in-None-clause-joined
returns-in-None-clause-joined c = inl (c.join_nearest.ensures.nearest, c.join_nearest.ensures.joined)

pub returns-in-Some-clause-value : goal.returns-in-Some-clause-value
returns-in-Some-clause-value c =
    let rows = c.args.doc.now in let run = run_on rows c.args.runs.now in
    let own =
    ap (λ (o : Option ℕ). with_value o c.join_attributes-own.new.own.value) (sym c.in-Some.is) ∙ c.join_attributes-own.ensures.value
    ∙ ap (λ (ys : List ℕ). with_bases rows None (filter (is_base rows) ys)) (sym c.own_rows-rows.ensures.attributes) in
    ap (λ (v : List ℕ). Some (c.in-Some.place, v)) c.settle.ensures.value ∙ c.join_run.ensures.joined c.in-Some.place ∙ ap (λ o. with_bases rows o run) own ∙ sym (with_bases-append rows None (bases rows c.args.x) run)

pub returns-in-Some-clause-joined : goal.returns-in-Some-clause-joined
returns-in-Some-clause-joined c = inr (refl, refl)

pub returns-in-None-clause-kept : goal.returns-in-None-clause-kept
returns-in-None-clause-kept c = record {
  run = c.join_nearest.ensures.kept.run;
  own = let r = c.join_attributes-own.ensures.room in let k = c.join_nearest.ensures.kept.own in omega arith;
  spare = let s = c.join_attributes-own.ensures.capacity in let k = c.join_nearest.ensures.kept.spare in omega arith;
}

pub returns-in-Some-clause-kept : goal.returns-in-Some-clause-kept
returns-in-Some-clause-kept c = record {
  run = omega arith;
  own = let r = c.join_attributes-own.ensures.room in let k = c.join_run.ensures.room in omega arith;
  spare = let s = c.join_attributes-own.ensures.capacity in let k = c.join_run.ensures.capacity in omega arith;
}

use Rattle.std.proofs.Common.{◌≡◌, ℕ, Bool, suc, ◌<◌, ◌-◌, ◌++◌, List, length, take, sym, ap, subst, ◌∙◌, arith}
use Rattle.std.specs.List.{All, filter}
use Rattle.std.proofs.lemmas.List.Elements.{All-filter, All-take}
use Rattle.xml_doc.specs.Axes.{axis_rows}
use Rattle.xml_doc.specs.Shape.{row_at}
use Rattle.xpath_eval.specs.NodeTests.{passes}
use Rattle.xpath_eval.proofs.Rows.{axis_within, filter_all, filter_enough, filter_past, filter_turn}
use Rattle.xpath_eval.proofs.node_test.tested.Goals as goal

pub loop-left-init : goal.loop-left-init
loop-left-init c =
    let Within : List ℕ → Type 0 = All (λ y. y < length c.args.doc.now) in
    let p : ℕ → Bool = λ y. passes c.axis_of-axis.result c.args.test.now (row_at c.args.doc.now y) in
    record {
      within = subst Within (sym c.axis-walk.ensures.rows) (axis_within _ c.args.doc.now c.args.x);
      value = ap (λ (t : List ℕ). t ++ take c.args.most (filter p c.axis-walk.result)) c.new-ys.ensures
          ∙ ap (λ (t : List ℕ). take c.args.most (filter p t)) c.axis-walk.ensures.rows;
    }

pub loop-left-preserved : goal.loop-left-preserved
loop-left-preserved c =
    let Within : List ℕ → Type 0 = All (λ y. y < length c.args.doc.now) in
    let p : ℕ → Bool = λ y. passes c.axis_of-axis.result c.args.test.now (row_at c.args.doc.now y) in
    let all = subst Within c.in-Some.ensures.steps c.loop-left.invariant.within in
    record {
      within = λ k d h. all (suc k) d (omega (arith, h));
      value = filter_past p c.loop-left.left c.loop-left.ys _ c.loop-left.walk c.next.new.self c.in-Some.y c.in-Some.ensures.steps c.loop-left.invariant.value (sym c.passes.ensures ∙ c.if-passes.false);
    }

pub loop-left-preserved-then-passes : goal.loop-left-preserved-then-passes
loop-left-preserved-then-passes c =
    let Within : List ℕ → Type 0 = All (λ y. y < length c.args.doc.now) in
    let p : ℕ → Bool = λ y. passes c.axis_of-axis.result c.args.test.now (row_at c.args.doc.now y) in
    let all = subst Within c.in-Some.ensures.steps c.loop-left.invariant.within in
    let fewer = c.loop-left.left - 1 in
    record {
      within = λ k d h. all (suc k) d (omega (arith, h));
      value = ap (λ (t : List ℕ). t ++ take fewer (filter p c.next.new.self)) c.in_ok-push.ensures.ok
          ∙ filter_turn p c.loop-left.left c.loop-left.ys _ c.loop-left.walk c.next.new.self c.in-Some.y c.in-Some.ensures.steps c.loop-left.invariant.value
          fewer (omega (arith, c.loop-left-test.true)) (sym c.passes.ensures ∙ c.if-passes.true);
    }

pub returns-in_default-clause-rows : goal.returns-in_default-clause-rows
returns-in_default-clause-rows c =
    let Below : ℕ → Type 0 = λ y. y < length c.args.doc.now in
    let Within : List ℕ → Type 0 = All Below in
    let p : ℕ → Bool = λ y. passes c.axis_of-axis.result c.args.test.now (row_at c.args.doc.now y) in
    let rows = axis_rows c.axis_of-axis.result c.args.doc.now c.args.x in
    subst Within (sym (filter_all p c.loop-left.left c.loop-left.ys _ c.loop-left.walk c.in_default.ensures.steps.0 c.loop-left.invariant.value))
    (All-take Below c.args.most (filter p rows) (All-filter p Below rows (axis_within _ c.args.doc.now c.args.x)))

pub returns-clause-rows : goal.returns-clause-rows
returns-clause-rows c =
    let Below : ℕ → Type 0 = λ y. y < length c.args.doc.now in
    let Within : List ℕ → Type 0 = All Below in
    let p : ℕ → Bool = λ y. passes c.axis_of-axis.result c.args.test.now (row_at c.args.doc.now y) in
    let rows = axis_rows c.axis_of-axis.result c.args.doc.now c.args.x in
    subst Within (sym (filter_enough p c.loop-left.left c.loop-left.ys _ c.loop-left.walk (omega (arith, c.loop-left-test.false)) c.loop-left.invariant.value))
    (All-take Below c.args.most (filter p rows) (All-filter p Below rows (axis_within _ c.args.doc.now c.args.x)))

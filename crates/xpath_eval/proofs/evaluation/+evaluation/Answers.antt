use Rattle.std.proofs.Common.{◌≡◌, ℕ, ◌<◌, ◌≤◌, ◌+◌, List, [], ◌∷◌, ◌++◌, length, map, drop, get_or, ◌||◌, refl, sym, ap, subst, ◌∙◌, append-nil, arith, rules}
use Rattle.std.specs.List.{All}
use Rattle.std.proofs.lemmas.List.Elements.{All-push}
use Rattle.std.proofs.lemmas.Result.{err_from_is_err_and}
use Rattle.xml_doc.specs.Shape.{row_at}
use Rattle.xpath_eval.specs.declared.found.Found.{Found}
use Rattle.xpath_eval.specs.Context.{context_of, is_in}
use Rattle.xpath_eval.specs.Code.Context.{IsOver}
use Rattle.xpath_eval.specs.Code.Gathering.{holds_row}
use Rattle.xpath_eval.specs.Code.Outcome.{Answers}
use Rattle.xpath_eval.specs.NodeTests.{axis_of, passes, tested}
use Rattle.xpath_eval.specs.Steps.{filtered, gathered, holds, kept}
use Rattle.xpath_eval.proofs.Rows.{few_pass}
use Rattle.xpath_eval.proofs.Steps.{joined_from}
use Rattle.xpath_eval.specs.Meaning.{arguments_in, meaning}
use Rattle.xpath_eval.specs.Code.Meaning.{meaning_of_step}
use Rattle.xpath_eval.proofs.Outcomes.{with_front}
use Rattle.xpath_eval.proofs.Turns.{arguments_turn, arguments_refused, arguments_all, stepped_turn, stepped_refused, stepped_all, kept_turn, stepped_one, stepped_one_refused, kept_refused, kept_all, kept_rows}
use Rattle.xpath_eval.proofs.evaluation.+evaluation.Goals.{holding-then-holds+in_ok-push, holding-else-holds}
use Rattle.xpath_syntax.specs.declared.expr.Expr.{size-Expr, the_lemmas}
use Rattle.xpath_eval.specs.declared.waiting.Waiting.{Waiting}
use Rattle.xpath_eval.specs.Found.{Outcome}
use Rattle.std.proofs.lemmas.List.Elements.{All-nil}
use Rattle.xpath_eval.proofs.Spine.{holds_before, holds_of_last, unwound, unwound_last, unwound_one, unwound_none, unwound_refused}
use Rattle.xpath_eval.proofs.evaluation.+evaluation.Goals as goal

-- ---- the left sides
pub evaluate-loop-lowest-init : goal.evaluate-loop-lowest-init
evaluate-loop-lowest-init t c =
    record {
      value = unwound_none (context_of c.args.scene.now) c.new-waiting.result.items _ c.new-waiting.ensures.items;
      below = omega arith;
      sides = let P : List Waiting → Type 0 = λ l. All (λ (w : Waiting). size-Expr w.right.now < size-Expr c.args.expr.now) l in
          subst P (sym c.new-waiting.ensures.items) (All-nil (λ (w : Waiting). size-Expr w.right.now < size-Expr c.args.expr.now));
    }

pub evaluate-loop-lowest-preserved : goal.evaluate-loop-lowest-preserved
evaluate-loop-lowest-preserved t c =
    let ctx = context_of c.args.scene.now in
    let w : Waiting = record { op = c.in-Binary.op; right = c.get.result } in
    let P : Waiting → Type 0 = λ v. size-Expr v.right.now < size-Expr c.args.expr.now in
    let All-P : List Waiting → Type 0 = All P in
    let is : c.push.new.self.items ≡ c.loop-lowest.waiting.items ++ (w ∷ []) = c.in_ok-push.ensures.items in
    let step : meaning c.loop-lowest.lowest.now ctx ≡ unwound_one ctx w (meaning c.get-lowest.result.now ctx) = search (rules, the_lemmas) in
    let falls : size-Expr c.get-lowest.result.now < size-Expr c.loop-lowest.lowest.now = search (rules, the_lemmas) in
    let right_falls : size-Expr c.get.result.now < size-Expr c.loop-lowest.lowest.now = search (rules, the_lemmas) in
    record {
      value = unwound_last ctx c.push.new.self.items c.loop-lowest.waiting.items w _ is
          ∙ ap (λ (r : Outcome Found). unwound ctx c.loop-lowest.waiting.items r) (sym step) ∙ c.loop-lowest.invariant.value;
      below = omega (arith, falls, c.loop-lowest.invariant.below);
      sides = subst All-P (sym is) (All-push P c.loop-lowest.waiting.items w c.loop-lowest.invariant.sides (omega (arith, right_falls, c.loop-lowest.invariant.below)));
    }

pub evaluate-operation-requires : goal.evaluate-operation-requires
evaluate-operation-requires t c =
    let is : c.loop-next.waiting.items ≡ c.pop.new.self.items ++ (c.in-Some.next ∷ []) = c.in-Some.ensures.items in
    let below : size-Expr c.in-Some.next.right.now < size-Expr c.args.expr.now =
    holds_of_last (λ (w : Waiting). size-Expr w.right.now < size-Expr c.args.expr.now) c.loop-next.waiting.items c.pop.new.self.items c.in-Some.next is c.loop-next.invariant.sides in
    search (rules, below)

pub evaluate-returns-in_err-x-clause-value : goal.evaluate-returns-in_err-x-clause-value
evaluate-returns-in_err-x-clause-value t c =
    let p = err_from_is_err_and c.from_residual-in_err-x.result c.from_residual-in_err-x.ensures.1 in
    rw (p.1, p.2) (unwound_refused (context_of c.args.scene.now) c.loop-lowest.waiting.items _ _ _ c.loop-lowest.invariant.value c.in_err-x.ensures.value)

pub evaluate-returns-in_err-x-2-clause-value : goal.evaluate-returns-in_err-x-2-clause-value
evaluate-returns-in_err-x-2-clause-value t c =
    let p = err_from_is_err_and c.from_residual-in_err-x-2.result c.from_residual-in_err-x-2.ensures.1 in
    let is : c.loop-next.waiting.items ≡ c.pop.new.self.items ++ (c.in-Some.next ∷ []) = c.in-Some.ensures.items in
    let so_far = sym (unwound_last (context_of c.args.scene.now) c.loop-next.waiting.items c.pop.new.self.items c.in-Some.next _ is) ∙ c.loop-next.invariant.value in
    rw (p.1, p.2) (unwound_refused (context_of c.args.scene.now) c.pop.new.self.items _ _ _ so_far c.in_err-x-2.ensures.value)

pub evaluate-loop-next-preserved : goal.evaluate-loop-next-preserved
evaluate-loop-next-preserved t c =
    let ctx = context_of c.args.scene.now in
    let is : c.loop-next.waiting.items ≡ c.pop.new.self.items ++ (c.in-Some.next ∷ []) = c.in-Some.ensures.items in
    record {
      value = ap (λ (r : Outcome Found). unwound ctx c.pop.new.self.items r) (sym c.in_ok-x-2.ensures.value)
          ∙ sym (unwound_last ctx c.loop-next.waiting.items c.pop.new.self.items c.in-Some.next _ is) ∙ c.loop-next.invariant.value;
      sides = holds_before (λ (w : Waiting). size-Expr w.right.now < size-Expr c.args.expr.now) c.loop-next.waiting.items c.pop.new.self.items c.in-Some.next is c.loop-next.invariant.sides;
      rows = c.in_ok-x-2.ensures.rows;
    }

pub evaluate-returns-clause-value : goal.evaluate-returns-clause-value
evaluate-returns-clause-value t c =
    let none : c.loop-next.waiting.items ≡ [] = search rules in
    sym c.loop-next.invariant.value ∙ unwound_none (context_of c.args.scene.now) c.loop-next.waiting.items _ none

-- ---- lists of parts
pub arguments-returns-in_err-evaluate-clause-value : goal.arguments-returns-in_err-evaluate-clause-value
arguments-returns-in_err-evaluate-clause-value t c =
    let lt : c.loop-arg.arg-index < length c.args.args.now = omega (arith, c.loop-arg-test.true) in
    let p = err_from_is_err_and c.from_residual.result c.from_residual.ensures.1 in
    rw (p.1, p.2) (arguments_refused c.args.args.now c.loop-arg.arg-index c.arg-item.result (context_of c.args.scene.now) c.loop-arg.given lt c.arg-item.is c.loop-arg.invariant.value _ c.in_err-evaluate.ensures.value)

pub arguments-loop-arg-preserved : goal.arguments-loop-arg-preserved
arguments-loop-arg-preserved t c =
    let lt : c.loop-arg.arg-index < length c.args.args.now = omega (arith, c.loop-arg-test.true) in
    let Over : List Found → Type 0 = All (IsOver c.args.scene.now.doc.now) in
    record {
      value = ap (λ (g : List Found). with_front g (arguments_in (map meaning (drop (c.loop-arg.arg-index + 1) c.args.args.now)) (context_of c.args.scene.now))) c.in_ok-push.ensures.ok
          ∙ arguments_turn c.args.args.now c.loop-arg.arg-index c.arg-item.result (context_of c.args.scene.now) c.loop-arg.given lt c.arg-item.is c.loop-arg.invariant.value c.in_ok-evaluate.field-0 c.in_ok-evaluate.ensures.value;
      rows = subst Over (sym c.in_ok-push.ensures.ok) (All-push (IsOver c.args.scene.now.doc.now) c.loop-arg.given c.in_ok-evaluate.field-0 c.loop-arg.invariant.rows c.in_ok-evaluate.ensures.rows);
    }

pub arguments-returns-clause-value : goal.arguments-returns-clause-value
arguments-returns-clause-value t c =
    arguments_all c.args.args.now c.loop-arg.arg-index (context_of c.args.scene.now) c.loop-arg.given (omega (arith, c.loop-arg-test.false)) c.loop-arg.invariant.value

pub holding-returns-in_err-value-clause-value : goal.holding-returns-in_err-value-clause-value
holding-returns-in_err-value-clause-value t c =
    let ys = c.args.ys.now in
    let i = c.loop-y.y-index in
    let lt : i < length ys = omega (arith, c.loop-y-test.true) in
    let p = err_from_is_err_and c.from_residual.result c.from_residual.ensures.1 in
    rw (p.1, p.2) (kept_refused (meaning c.args.predicate.now) (context_of c.args.scene.now) (length ys) (c.loop-y.place + 1) c.loop-y.kept ys i (get_or ys i 0) 0 _ lt refl c.loop-y.invariant.value
    (context_of c.at.result) c.at.ensures.context _ c.in_err-value.ensures.value)

pub holding-loop-y-preserved : goal.holding-loop-y-preserved
holding-loop-y-preserved t c =
    let ys = c.args.ys.now in
    let i = c.loop-y.y-index in
    let y = get_or ys i 0 in
    let v = c.in_ok-value.value in
    let place = c.loop-y.place + 1 in
    let n = length c.args.scene.now.doc.now in
    let lt : i < length ys = omega (arith, c.loop-y-test.true) in
    let Within : List ℕ → Type 0 = All (λ z. z < n) in
    let grown : c.if-holds.kept ≡ c.loop-y.kept ++ kept (holds v place) y [] = elim c.if-holds.branch [
      | holding-then-holds+in_ok-push w ↦ w.kept-is ∙ w.in_ok-push.ensures.ok ∙ ap (λ b. c.loop-y.kept ++ kept b y []) (sym w.if-holds.true ∙ c.holds.ensures)
      | holding-else-holds w ↦ w.kept-is ∙ sym (append-nil c.loop-y.kept) ∙ ap (λ b. c.loop-y.kept ++ kept b y []) (sym w.if-holds.false ∙ c.holds.ensures)
    ] in
    record {
      place = ap (λ k. k + 1) c.loop-y.invariant.place;
      value = kept_turn (meaning c.args.predicate.now) (context_of c.args.scene.now) (length ys) place c.loop-y.kept ys i y 0 _ lt refl c.loop-y.invariant.value
          (context_of c.at.result) c.at.ensures.context (place + 1) c.if-holds.kept v (omega arith) c.in_ok-value.ensures.value grown;
      rows = subst Within (sym grown) (kept_rows n (holds v place) c.loop-y.kept y c.loop-y.invariant.rows (c.requires.from i 0 lt));
    }

pub holding-returns-clause-value : goal.holding-returns-clause-value
holding-returns-clause-value t c =
    kept_all (meaning c.args.predicate.now) (context_of c.args.scene.now) (length c.args.ys.now) (c.loop-y.place + 1) c.loop-y.kept c.args.ys.now c.loop-y.y-index _ c.loop-y-test.false c.loop-y.invariant.value

pub stepped-returns-in_err-found-clause-value : goal.stepped-returns-in_err-found-clause-value
stepped-returns-in_err-found-clause-value t c =
    let p = err_from_is_err_and c.from_residual.result c.from_residual.ensures.1 in
    rw (p.1, p.2) (stepped_one_refused (meaning_of_step c.args.step.now) (context_of c.args.scene.now) c.args.xs.now (get_or c.args.xs.now 0 0) 0 _ (omega (arith, c.if-xs-eq1.true)) refl c.in_err-found.ensures.value)

pub stepped-returns-then-xs-eq1-clause-value : goal.stepped-returns-then-xs-eq1-clause-value
stepped-returns-then-xs-eq1-clause-value t c =
    stepped_one (meaning_of_step c.args.step.now) (context_of c.args.scene.now) c.args.xs.now (get_or c.args.xs.now 0 0) 0 c.in_ok-found.found c.in_ok-ordered.field-0 (omega (arith, c.if-xs-eq1.true)) refl
    c.in_ok-found.ensures.value c.in_ok-ordered.ensures.value

pub stepped-returns-in_err-ys-clause-value : goal.stepped-returns-in_err-ys-clause-value
stepped-returns-in_err-ys-clause-value t c =
    let xs = c.args.xs.now in
    let i = c.loop-x.x-index in
    let lt : i < length xs = omega (arith, c.loop-x-test.true) in
    let p = err_from_is_err_and c.from_residual-in_err-ys.result c.from_residual-in_err-ys.ensures.1 in
    rw (p.1, p.2) (stepped_refused c.args.scene.now.doc.now (meaning_of_step c.args.step.now) (context_of c.args.scene.now) (holds_row c.loop-x.gathering) xs i (get_or xs i 0) 0 _ lt refl c.loop-x.invariant.value _ c.in_err-ys.ensures.value)

pub stepped-loop-x-init : goal.stepped-loop-x-init
stepped-loop-x-init t c =
    record {
      value = joined_from c.args.scene.now.doc.now (holds_row c.nothing-gathering.result) (gathered (meaning_of_step c.args.step.now) (context_of c.args.scene.now) c.args.xs.now) c.nothing-gathering.ensures.members;
      rows = c.nothing-gathering.ensures.rows c.args.scene.now.doc.now;
    }

pub stepped-loop-x-preserved : goal.stepped-loop-x-preserved
stepped-loop-x-preserved t c =
    let xs = c.args.xs.now in
    let i = c.loop-x.x-index in
    let lt : i < length xs = omega (arith, c.loop-x-test.true) in
    record {
      value = stepped_turn c.args.scene.now.doc.now (meaning_of_step c.args.step.now) (context_of c.args.scene.now) (holds_row c.loop-x.gathering) xs i (get_or xs i 0) 0 _ lt refl c.loop-x.invariant.value
          (holds_row c.in_ok-gathering.gathering) c.in_ok-ys.ys c.in_ok-ys.ensures.value
          (λ k. c.in_ok-gathering.ensures.members k ∙ ap (λ (zs : List ℕ). is_in zs k || holds_row c.loop-x.gathering k) c.as_slice.ensures);
      rows = c.in_ok-gathering.ensures.rows;
    }

pub stepped-returns-clause-value : goal.stepped-returns-clause-value
stepped-returns-clause-value t c =
    let rows = c.args.scene.now.doc.now in
    stepped_all rows rows (meaning_of_step c.args.step.now) (context_of c.args.scene.now) (holds_row c.loop-x.gathering) c.args.xs.now c.in_ok-gathered_rows.field-0 c.loop-x.x-index _
    c.loop-x-test.false c.loop-x.invariant.value (c.in_ok-gathered_rows.ensures.value rows c.loop-x.invariant.rows) refl

pub step_from-returns-clause-value : goal.step_from-returns-clause-value
step_from-returns-clause-value t c =
    let rows = c.args.scene.now.doc.now in
    let ctx = context_of c.args.scene.now in
    let step = c.args.step.now in
    let all : List ℕ = tested rows step.axis step.test c.args.x in
    let few : length all ≤ length rows = few_pass (axis_of step.axis) rows c.args.x (λ y. passes (axis_of step.axis) step.test (row_at rows y)) in
    let count = c.rows.ensures.count in
    let each = map meaning step.predicates in
    let is : meaning_of_step step ctx c.args.x ≡ filtered each ctx all = search (rules, the_lemmas) in
    let same : filtered each ctx c.in_ok-ys.ys ≡ meaning_of_step step ctx c.args.x = ap (filtered each ctx) c.in_ok-ys.ensures.value ∙ c.enough-most.ensures ctx all (omega (arith, few, count)) ∙ sym is in
    let P : Outcome (List ℕ) → Type 0 = λ o. Answers c.filtered.result o in
    subst P same c.filtered.ensures.value

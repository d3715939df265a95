use Rattle.std.proofs.Common.{◌≡◌, ◌+◌, ◌<◌, ◌≤◌, vec_len, length, map, drop}
use Rattle.std.specs.List.{All}
use Rattle.std.specs.Prelude.{Ok}
use Rattle.xpath_syntax.specs.declared.expr.Expr.{size-Expr}
use Rattle.xpath_eval.specs.declared.waiting.Waiting.{Waiting}
use Rattle.xpath_eval.specs.Context.{context_of}
use Rattle.xpath_eval.specs.Code.Context.{AreRows, IsOver}
use Rattle.xpath_eval.specs.Code.Gathering.{Gathers, holds_row}
use Rattle.xpath_eval.specs.Meaning.{arguments_in}
use Rattle.xpath_eval.specs.Meaning.{meaning}
use Rattle.xpath_eval.specs.Code.Meaning.{meaning_of_step}
use Rattle.xpath_eval.specs.Steps.{along, filtered, gathered, holding, holding_from, stepped}
use Rattle.xpath_eval.proofs.Outcomes.{with_front}
use Rattle.xpath_eval.proofs.Spine.{unwound}
use Rattle.xpath_eval.proofs.Steps.{joined}
use Rattle.xpath_eval.proofs.evaluation.+evaluation.Given as goal

abbrev pub invariant-arguments-loop-arg : goal.invariant-arguments-loop-arg
invariant-arguments-loop-arg l = record {
  value : with_front l.given (arguments_in (map meaning (drop l.arg-index l.args)) (context_of l.scene)) ≡ arguments_in (map meaning l.args) (context_of l.scene);
  rows : All (IsOver l.scene.doc.now) l.given;
}

abbrev pub invariant-along-loop-step : goal.invariant-along-loop-step
invariant-along-loop-step l = record {
  value : along (map meaning_of_step (drop l.step-index l.steps)) (context_of l.scene) l.xs ≡ along (map meaning_of_step l.steps) (context_of l.scene) l.fn.from;
  rows : AreRows l.scene.doc.now l.xs;
}

abbrev pub invariant-stepped-loop-x : goal.invariant-stepped-loop-x
invariant-stepped-loop-x l = record {
  value : joined l.scene.doc.now (holds_row l.gathering) (gathered (meaning_of_step l.step) (context_of l.scene) (drop l.x-index l.xs)) ≡ stepped (meaning_of_step l.step) (context_of l.scene) l.xs;
  rows : Gathers l.scene.doc.now l.gathering;
}

abbrev pub invariant-filtered-loop-predicate : goal.invariant-filtered-loop-predicate
invariant-filtered-loop-predicate l = record {
  value : filtered (map meaning (drop l.predicate-index l.predicates)) (context_of l.scene) l.ys ≡ filtered (map meaning l.predicates) (context_of l.scene) l.fn.from;
  rows : AreRows l.scene.doc.now l.ys;
}

abbrev pub invariant-holding-loop-y : goal.invariant-holding-loop-y
invariant-holding-loop-y l = record {
  place : l.place ≡ l.y-index;
  value : with_front l.kept (holding_from (meaning l.predicate) (context_of l.scene) (length l.ys) (l.place + 1) (drop l.y-index l.ys)) ≡ holding (meaning l.predicate) (context_of l.scene) l.ys;
  rows : AreRows l.scene.doc.now l.kept;
}

abbrev pub invariant-evaluate-loop-lowest : goal.invariant-evaluate-loop-lowest
invariant-evaluate-loop-lowest l = record {
  value : unwound (context_of l.scene) l.waiting.items (meaning l.lowest (context_of l.scene)) ≡ meaning l.expr (context_of l.scene);
  below : size-Expr l.lowest ≤ size-Expr l.expr;
  sides : All (λ (w : Waiting). size-Expr w.right.now < size-Expr l.expr) l.waiting.items;
}

abbrev pub invariant-evaluate-loop-next : goal.invariant-evaluate-loop-next
invariant-evaluate-loop-next l = record {
  value : unwound (context_of l.scene) l.waiting.items (Ok l.x) ≡ meaning l.expr (context_of l.scene);
  sides : All (λ (w : Waiting). size-Expr w.right.now < size-Expr l.expr) l.waiting.items;
  rows : IsOver l.scene.doc.now l.x;
}

abbrev pub decreases-evaluate-loop-next : goal.decreases-evaluate-loop-next
decreases-evaluate-loop-next l = vec_len l.waiting

use Rattle.std.proofs.Common.{◌≡◌, ◌<◌, Bool, true, false, ◌||◌, refl, sym, ◌∙◌, arith, rules}
use Rattle.xpath_syntax.specs.declared.expr.Expr.{size-Expr, the_lemmas}
use Rattle.xpath_eval.specs.Reads.{reads_context}
use Rattle.xpath_eval.proofs.reads.+reading.Goals as goal

or_true : (a b : Bool) → true ≡ b → true ≡ (a || b)
or_true true b e = refl
or_true false b e = e

or_false : (a b : Bool) → false ≡ b → (a || b) ≡ a
or_false true b e = refl
or_false false b e = sym e

pub reads_context-returns-then-reads_context : goal.reads_context-returns-then-reads_context
reads_context-returns-then-reads_context t c =
    let layer : reads_context c.loop-lowest.lowest.now ≡ (reads_context c.in-Binary.left || reads_context c.get.result.now) = search (rules, the_lemmas) in
    or_true (reads_context c.in-Binary.left) (reads_context c.get.result.now) (sym c.if-reads_context.true ∙ c.reads_context.ensures) ∙ sym layer ∙ sym c.loop-lowest.invariant.value

pub reads_context-loop-lowest-preserved : goal.reads_context-loop-lowest-preserved
reads_context-loop-lowest-preserved t c =
    let layer : reads_context c.loop-lowest.lowest.now ≡ (reads_context c.get-lowest.result.now || reads_context c.get.result.now) = search (rules, the_lemmas) in
    let falls : size-Expr c.get-lowest.result.now < size-Expr c.loop-lowest.lowest.now = search (rules, the_lemmas) in
    record {
      value = c.loop-lowest.invariant.value ∙ layer ∙ or_false (reads_context c.get-lowest.result.now) (reads_context c.get.result.now) (sym c.if-reads_context.false ∙ c.reads_context.ensures);
      below = omega (arith, falls, c.loop-lowest.invariant.below);
    }

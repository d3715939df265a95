use Rattle.std.proofs.Common.{◌++◌, ℕ, List, drop, ap, sym, ◌∙◌, arith}
use Rattle.std.specs.Prelude.{codes}
use Rattle.c14n_bases.proofs.UpwardsLemmas.{climbs-first}
use Rattle.c14n_bases.proofs.joined.put_upwards.Goals as goal

pub loop-preserved : goal.loop-preserved
loop-preserved c =
    let inv = c.loop.invariant in let put = c.put_before-begin.ensures.begin in let begin = inv.begin in
    record {
      value = c.put_before-begin.ensures.value ∙ ap (λ (l : List ℕ). codes "../" ++ l) inv.value
          ∙ sym (climbs-first c.loop.counter (drop c.args.from c.args.buffer.now));
      begin = omega arith;
    }

use Rattle.std.proofs.Common.{◌∙◌, ◌==◌, ap, ◌&&◌, not, arith}
use Rattle.node_sets.specs.Members.{has}
use Rattle.node_sets.proofs.WordLemmas.{range_at_end, range_without}
use Rattle.node_sets.proofs.bits.Bits.remove_range.Goals as goal

pub loop-i-preserved : goal.loop-i-preserved
loop-i-preserved c = record {
  size = c.remove.ensures.size ∙ c.loop-i.invariant.size;
  members = λ k.
      c.remove.ensures.members k ∙ ap (λ t. not (k == c.loop-i.i) && t) (c.loop-i.invariant.members k)
      ∙ range_without c.args.from c.loop-i.i k (has c.args.self.now k) (omega arith);
}

pub returns-clause-members : goal.returns-clause-members
returns-clause-members c = λ k.
    c.loop-i.invariant.members k
    ∙ ap (λ t. has c.args.self.now k && not t)
    (range_at_end c.args.from c.args.until c.loop-i.i k (omega arith) (c.loop-i.auto.i-end c.requires.ordered))

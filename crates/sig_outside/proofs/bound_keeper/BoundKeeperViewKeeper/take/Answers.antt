use Rattle.std.proofs.Common.{◌≡◌, ◌∙◌, ap, sym, arith}
use Rattle.sig_outside.specs.Bounds.{octets_of}
use Rattle.sig_outside.proofs.BoundLaws.{none-kept, octets-kept}
use Rattle.sig_outside.proofs.bound_keeper.BoundKeeperViewKeeper.take.Goals as goal

pub invariant_of-self-in-Done : goal.invariant_of-self-in-Done
invariant_of-self-in-Done c =
    let counted = octets-kept (c.args.name.now, c.args.bytes.now) c.self.inside.keeper.pairs c.take-kept.new.self.pairs c.in-Done.ensures.pairs in
    let before = c.self.invariant.0 in
    (omega arith, omega arith, c.in-Done.ensures.same ∙ c.self.invariant.2)

pub invariant_of-self-in_default : goal.invariant_of-self-in_default
invariant_of-self-in_default c =
    let pairs = none-kept c.take-kept.result (c.args.name.now, c.args.bytes.now) c.self.inside.keeper.pairs c.take-kept.new.self.pairs c.in_default.not-Done c.take-kept.ensures.pairs in
    (c.self.invariant.0 ∙ ap octets_of (sym pairs), c.self.invariant.1, c.take-kept.ensures.same ∙ c.self.invariant.2)

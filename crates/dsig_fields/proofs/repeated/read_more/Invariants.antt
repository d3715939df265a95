use Rattle.std.proofs.Common.{◌≡◌, ◌-◌, length}
use Rattle.dsig_fields.specs.Code.Cursor.{with_front}
use Rattle.dsig_fields.specs.Reading.{many}
use Rattle.dsig_fields.proofs.repeated.read_more.Given as goal

abbrev pub invariant-loop-y : goal.invariant-loop-y
invariant-loop-y g l =
    with_front l.members (many g.T.Repeated.excess l.doc g.T.Repeated.NAME (g.T.Repeated.outcome l.doc) (g.T.Repeated.LIMIT - length l.members) l.children)
    ≡ with_front l.initial.members (many g.T.Repeated.excess l.doc g.T.Repeated.NAME (g.T.Repeated.outcome l.doc) (g.T.Repeated.LIMIT - length l.initial.members) l.initial.children)

abbrev pub decreases-loop-y : goal.decreases-loop-y
decreases-loop-y g l = length l.children

use Rattle.sig_outside.proofs.Known.{taken_more, taken_more_of, taken_still, taken_part}
use Rattle.sig_outside.proofs.stream_sink.write_whole.Goals as goal

pub returns-in_default : goal.returns-in_default
returns-in_default g c = taken_part _ _ _ _ (taken_still _ _ _ _ _ c.loop-rest.invariant c.in_default.ensures.bytes)

pub returns-then-count-eq0 : goal.returns-then-count-eq0
returns-then-count-eq0 g c = taken_part _ _ _ _ (taken_more _ _ _ _ _ _ c.loop-rest.invariant c.in-Ok.ensures.bytes)

pub loop-rest-preserved : goal.loop-rest-preserved
loop-rest-preserved g c = taken_more_of _ _ _ _ _ _ c.loop-rest.invariant c.in-Ok.ensures.bytes

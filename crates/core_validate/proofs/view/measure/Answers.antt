use Rattle.core_validate.proofs.view.measure.Goals as goal

pub returns-then-keep-clause-measured : goal.returns-then-keep-clause-measured
returns-then-keep-clause-measured g c = λ files tells. rw c.if-keep.true (c.measure_kept.ensures.measured files tells)

pub returns-then-keep-clause-shape : goal.returns-then-keep-clause-shape
returns-then-keep-clause-shape g c = rw c.if-keep.true c.measure_kept.ensures.shape

pub returns-else-keep-clause-measured : goal.returns-else-keep-clause-measured
returns-else-keep-clause-measured g c = λ files tells. rw c.if-keep.false (c.measure_dropped.ensures.measured files tells)

pub returns-else-keep-clause-shape : goal.returns-else-keep-clause-shape
returns-else-keep-clause-shape g c = rw c.if-keep.false c.measure_dropped.ensures.shape

use Rattle.std.proofs.lemmas.Result.{err_from_is_err_and}
use Rattle.std.specs.String.{string_bytes}
use Rattle.uri_refs.proofs.NameLaws.{bad_part, last_part, next_part}
use Rattle.uri_refs.proofs.names.name_of.Goals as goal

pub returns-in_err-add_part : goal.returns-in_err-add_part
returns-in_err-add_part c =
    let p = err_from_is_err_and c.from_residual.result c.from_residual.ensures.1 in
    let left = rw c.first_segment.ensures.segments at c.loop-name.invariant in
    rw (p.1, p.2) (bad_part _ _ _ _ _ left c.in_err-add_part.ensures)

pub loop-name-preserved : goal.loop-name-preserved
loop-name-preserved c =
    let left = rw (c.first_segment.ensures.segments, c.in-Some.is) at c.loop-name.invariant in
    let part = c.in_ok-add_part.ensures in
    rw (c.in-Ok.ensures.bytes, part.2) (next_part (string_bytes c.loop-name.name) part.0 c.first_segment.result.0.now c.in-Some.path.now _ left part.1)

pub returns-in-None : goal.returns-in-None
returns-in-None c =
    let left = rw (c.first_segment.ensures.segments, c.in-None.is) at c.loop-name.invariant in
    let part = c.in_ok-add_part.ensures in
    rw part.2 (last_part _ part.0 _ _ left part.1)

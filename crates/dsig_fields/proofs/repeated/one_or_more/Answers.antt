use Rattle.std.proofs.lemmas.Result.{err_from_is_err_and}
use Rattle.dsig_fields.specs.Reading.{one_or_more}
use Rattle.dsig_fields.proofs.repeated.one_or_more.Goals as goal

pub returns-in_err-read_more : goal.returns-in_err-read_more
unfolding one_or_more
returns-in_err-read_more g c =
    let p = err_from_is_err_and c.from_residual-in_err-read_more.result c.from_residual-in_err-read_more.ensures.1 in
    rw (p.1, p.2, rw c.NAME.ensures at c.in_ok-first.ensures.reads, c.in_ok-read.ensures) (rw (c.in_ok-push.ensures.ok, c.new-members.ensures) at c.in_err-read_more.ensures)

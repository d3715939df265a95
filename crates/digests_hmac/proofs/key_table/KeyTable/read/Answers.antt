use Rattle.std.proofs.Common.{rules, ◌≤◌, length, arith, refl}
use Rattle.std.proofs.lemmas.Result.{err_from_is_err_and}
use Rattle.sig_base.proofs.LineLaws.{line-read, line-refused, lines-end}
use Rattle.digests_hmac.specs.Keys.{keys_of, line_read, Refuses}
use Rattle.digests_hmac.proofs.KeyLaws.{refused_alike}
use Rattle.digests_hmac.proofs.key_table.KeyTable.read.Goals as goal

pub loop-rest-init : goal.loop-rest-init
unfolding keys_of
loop-rest-init c = record { number = omega arith; reads = rw c.new-keys.ensures.items refl }

pub returns-in_err-read_line : goal.returns-in_err-read_line
returns-in_err-read_line c =
    let p = err_from_is_err_and c.from_residual.result c.from_residual.ensures.1 in
    let reads = rw c.first_line.ensures.lines at c.loop-rest.invariant.reads in
    rw (p.1, p.2) (line-refused line_read Refuses refused_alike _ c.loop-rest.number _ _ _ _ reads c.in_err-read_line.ensures)

pub loop-rest-preserved : goal.loop-rest-preserved
loop-rest-preserved c =
    let reads = rw c.first_line.ensures.lines at c.loop-rest.invariant.reads in
    record {
      number = omega (arith, c.first_line.ensures.shorter);
      reads = line-read line_read c.loop-rest.number _ _ _ _ _ c.in_ok-read_line.ensures reads;
    }

pub returns : goal.returns
returns c =
    let none : length c.loop-rest.rest.now ≤ 0 = search rules in
    lines-end line_read c.loop-rest.number c.loop-rest.rest.now _ _ none c.loop-rest.invariant.reads

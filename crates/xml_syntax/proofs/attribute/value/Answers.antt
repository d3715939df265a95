use Rattle.std.proofs.Common.{sym, refl, []}
use Rattle.std.proofs.lemmas.Result.{err_from_is_err_and}
use Rattle.xml_syntax.proofs.RunLaws.{part_and_run, value_behind, value_run, value_read, value_stops}
use Rattle.xml_syntax.proofs.Turns.{value_turn}
use Rattle.xml_syntax.proofs.attribute.value.Goals as goal

pub returns-then-begins : goal.returns-then-begins
returns-then-begins c = rw c.next.ensures.rest (value_read _ _ _ _ (sym c.if-begins.ensures) (value_behind _ _ _ _ [] _ c.requires c.run-run.ensures refl refl))

pub loop-quote-init : goal.loop-quote-init
loop-quote-init c = value_behind _ _ _ _ _ _ c.requires c.run-run.ensures c.new-value.ensures.bytes c.in_ok-push_str.ensures.bytes

pub loop-quote-smaller : goal.loop-quote-smaller
loop-quote-smaller c = part_and_run _ _ _ _ _ _ _ _ c.in_ok-value_part.ensures c.run-run-in-loop-quote.ensures

pub loop-quote-preserved : goal.loop-quote-preserved
loop-quote-preserved c =
    rw c.in_ok-push_str-2.ensures.bytes (value_run _ _ _ _ _ _ c.requires c.run-run-in-loop-quote.ensures (value_turn _ _ _ _ _ _ (sym c.loop-quote-test.ensures) c.loop-quote.invariant c.in_ok-value_part.ensures))

pub returns-in_err-value_part : goal.returns-in_err-value_part
returns-in_err-value_part c =
    let p = err_from_is_err_and c.from_residual-in_err-value_part.result c.from_residual-in_err-value_part.ensures.1 in
    rw (p.1, p.2) (value_stops _ _ _ _ _ (sym c.loop-quote-test.ensures) c.loop-quote.invariant c.in_err-value_part.ensures)

pub returns : goal.returns
returns c = rw c.next-2.ensures.rest (value_read _ _ _ _ (sym c.loop-quote-test.ensures) c.loop-quote.invariant)

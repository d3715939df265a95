use Rattle.std.proofs.Common.{ℕ, ◌+◌, ◌-◌, ◌/◌, ◌≤◌, ◌<◌, sym, arith}
use Rattle.c14n_rows.proofs.OrderLemmas.{between-begin, between-behind, between-before, between-end}
use Rattle.c14n_rows.proofs.imports.first_behind.Goals as goal

pub loop-low-init : goal.loop-low-init
loop-low-init c = between-begin c.args.doc.now c.rows-rows.ensures.shaped c.args.x c.args.from c.args.until c.requires.ordered c.requires.within c.requires.rows c.args.last

pub loop-low-preserved-then-is_behind : goal.loop-low-preserved-then-is_behind
loop-low-preserved-then-is_behind c =
    let middle : ℕ = c.loop-low.low + (c.loop-low.high - c.loop-low.low) / 2 in
    let lt = c.loop-low-test.true in
    let from : c.loop-low.low ≤ middle = omega arith in
    let under : middle < c.loop-low.high = omega arith in
    between-behind c.args.doc.now c.rows-rows.ensures.shaped c.args.x c.args.from c.args.until c.requires.ordered c.requires.within c.requires.rows c.args.last c.loop-low.low c.loop-low.high middle c.loop-low.invariant from under (sym c.if-is_behind.ensures)

pub loop-low-preserved : goal.loop-low-preserved
loop-low-preserved c =
    let middle : ℕ = c.loop-low.low + (c.loop-low.high - c.loop-low.low) / 2 in
    let lt = c.loop-low-test.true in
    let from : c.loop-low.low ≤ middle = omega arith in
    let under : middle < c.loop-low.high = omega arith in
    between-before c.args.doc.now c.rows-rows.ensures.shaped c.args.x c.args.from c.args.until c.requires.ordered c.requires.within c.requires.rows c.args.last c.loop-low.low c.loop-low.high middle c.loop-low.invariant from under (sym c.if-is_behind.ensures)

pub returns : goal.returns
returns c = between-end c.args.doc.now c.rows-rows.ensures.shaped c.args.x c.args.from c.args.until c.requires.ordered c.requires.within c.requires.rows c.args.last c.loop-low.low c.loop-low.high c.loop-low.invariant c.loop-low-test.false

use Rattle.std.proofs.Common.{◌≤◌, length, arith}
use Rattle.c14n_rows.proofs.Range.{start_there, quiet_before, quiet_behind, quiet_everywhere}
use Rattle.c14n_rows.proofs.walk.walked_range.Goals as goal

pub returns-then-from-span : goal.returns-then-from-span
returns-then-from-span c =
    let rows = c.doc-doc.result.now in
    let within = c.span-span.ensures.within in
    let fits : c.span-span.result.until ≤ length rows = rw c.doc-doc.ensures within in
    let some = c.if-from-span.true in
    let there = start_there rows c.rows-rows.ensures.shaped c.args.set.set.now.members c.span-span.result.from c.span-span.result.until c.max-from.result c.span-span.ensures.members c.max-from.ensures fits some in
    let near = there.1 in
    rw (← c.doc-doc.ensures) (rw c.bearer-start.ensures (record {
      behind_root = there.0;
      ordered = omega arith;
      within = fits;
      quiet_before = quiet_before rows c.rows-rows.ensures.shaped c.args.set.set.now.members c.span-span.result.from c.span-span.result.until c.max-from.result c.span-span.ensures.members c.max-from.ensures fits some;
      quiet_behind = quiet_behind rows c.rows-rows.ensures.shaped c.args.set.set.now.members c.span-span.result.from c.span-span.result.until c.max-from.result c.span-span.ensures.members c.max-from.ensures fits;
    }))

pub returns-else-from-span : goal.returns-else-from-span
returns-else-from-span c =
    let rows = c.doc-doc.result.now in
    let within = c.span-span.ensures.within in
    let fits : c.span-span.result.until ≤ length rows = rw c.doc-doc.ensures within in
    rw (← c.doc-doc.ensures) (record {
      quiet = quiet_everywhere rows c.rows-rows.ensures.shaped c.args.set.set.now.members c.span-span.result.from c.span-span.result.until c.max-from.result c.span-span.ensures.members c.max-from.ensures fits c.if-from-span.false;
    })

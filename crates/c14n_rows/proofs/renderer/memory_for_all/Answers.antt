use Rattle.std.proofs.Common.{arith}
use Rattle.c14n_text.specs.Namespaces.{eleven}
use Rattle.c14n_rows.proofs.StacksLemmas.{room-if_none, ordered-if_none}
use Rattle.c14n_rows.proofs.renderer.memory_for_all.Goals as goal

pub returns-then-rows-gt1-clause-room : goal.returns-then-rows-gt1-clause-room
returns-then-rows-gt1-clause-room c = rw (← c.rows-rows.ensures.count) c.memory_for.ensures.room

pub returns-then-rows-gt1-clause-ordered_room : goal.returns-then-rows-gt1-clause-ordered_room
returns-then-rows-gt1-clause-ordered_room c = rw (← c.rows-rows.ensures.count) c.memory_for.ensures.ordered_room

pub returns-else-rows-gt1-clause-room : goal.returns-else-rows-gt1-clause-room
returns-else-rows-gt1-clause-room c =
    let n = c.rows-rows.ensures.count in let few = c.if-rows-gt1.false in
    room-if_none c.args.doc.now eleven c.take_memory.result (omega arith)

pub returns-else-rows-gt1-clause-ordered_room : goal.returns-else-rows-gt1-clause-ordered_room
returns-else-rows-gt1-clause-ordered_room c =
    let n = c.rows-rows.ensures.count in let few = c.if-rows-gt1.false in
    ordered-if_none c.args.doc.now c.take_memory.result (omega arith)

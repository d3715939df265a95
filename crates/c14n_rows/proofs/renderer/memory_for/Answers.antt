use Rattle.c14n_rows.specs.Rules.{rule_of}
use Rattle.c14n_rows.proofs.StacksLemmas.{room-if_taken, ordered-if_taken}
use Rattle.c14n_rows.proofs.renderer.memory_for.Goals as goal

pub returns-clause-room : goal.returns-clause-room
returns-clause-room c =
    room-if_taken c.args.doc.now (rule_of c.args.method) c.args.start c.args.until c.in_ok-entries.entries c.in_ok-octets.octets c.take_memory.result c.in_ok-entries.ensures c.in_ok-octets.ensures c.take_memory.ensures.stacks

pub returns-clause-ordered_room : goal.returns-clause-ordered_room
returns-clause-ordered_room c = ordered-if_taken c.args.doc.now c.args.start c.args.until c.in_ok-entries.entries c.take_memory.result c.in_ok-entries.ensures c.take_memory.ensures.ordered

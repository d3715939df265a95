use Rattle.c14n_rows.proofs.StackLemmas.{marks_room}
use Rattle.c14n_rows.proofs.utilized.mark_utilized.Goals as goal

pub mark_attributes-requires-clause-room : goal.mark_attributes-requires-clause-room
mark_attributes-requires-clause-room c = marks_room c.args.doc.now c.rows-rows.ensures.shaped c.args.e _ c.requires.here c.requires.room

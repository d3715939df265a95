use Rattle.c14n_rows.specs.Rules.{rule_of}
use Rattle.c14n_rows.proofs.StacksLemmas.{keeps-all, keeps_ordered-all, ordered_in-less, room_in-less}
use Rattle.c14n_rows.proofs.walk.write_rows.Goals as goal

pub write_walked-requires-clause-walked : goal.write_walked-requires-clause-walked
write_walked-requires-clause-walked g c = rw c.doc-doc.ensures c.in-Some.ensures

pub write_nothing-requires : goal.write_nothing-requires
write_nothing-requires g c = rw c.doc-doc.ensures c.in-None.ensures

pub write_walked-requires-clause-room : goal.write_walked-requires-clause-room
write_walked-requires-clause-room g c =
    let walked = c.in-Some.ensures in
    rw c.doc-doc.ensures (room_in-less _ (rule_of c.args.method) 1 _ _ _ c.args.stacks.now walked.behind_root walked.within c.requires.room)

pub returns-in-None-clause-puts : goal.returns-in-None-clause-puts
returns-in-None-clause-puts g c = rw (← c.doc-doc.ensures) c.write_nothing.ensures

pub returns-in-None-clause-kept : goal.returns-in-None-clause-kept
returns-in-None-clause-kept g c = keeps-all c.args.stacks.now

pub returns-in-Some-clause-puts : goal.returns-in-Some-clause-puts
returns-in-Some-clause-puts g c = rw (← c.doc-doc.ensures) c.write_walked.ensures.puts

pub write_walked-requires-clause-ordered_room : goal.write_walked-requires-clause-ordered_room
write_walked-requires-clause-ordered_room g c =
    let walked = c.in-Some.ensures in
    rw c.doc-doc.ensures (ordered_in-less _ 1 _ _ _ c.args.ordered.now walked.behind_root walked.within c.requires.ordered_room)

pub returns-in-None-clause-ordered_kept : goal.returns-in-None-clause-ordered_kept
returns-in-None-clause-ordered_kept g c = keeps_ordered-all c.args.ordered.now

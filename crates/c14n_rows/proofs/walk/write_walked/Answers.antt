use Rattle.std.proofs.Common.{◌<◌, length, arith}
use Rattle.c14n_rows.specs.Rules.{rule_of}
use Rattle.c14n_rows.proofs.Chains.{parent_there}
use Rattle.c14n_rows.proofs.StacksLemmas.{keeps-then, room-above, room_in-kept}
use Rattle.c14n_rows.proofs.walk.write_walked.Goals as goal

pub enter_all-requires-clause-here : goal.enter_all-requires-clause-here
enter_all-requires-clause-here g c =
    let ordered = c.requires.walked.ordered in let within = c.requires.walked.within in
    rw c.above.ensures (parent_there c.args.doc.now c.rows-rows.ensures.shaped c.args.range.start (omega arith))

pub enter_all-requires-clause-room : goal.enter_all-requires-clause-room
enter_all-requires-clause-room g c =
    let rows = c.args.doc.now in let w = c.rows-rows.ensures.shaped in let start = c.args.range.start in
    let pos = c.requires.walked.behind_root in let ordered = c.requires.walked.ordered in let within = c.requires.walked.within in
    let lt : start < length rows = omega arith in
    let before = w.nesting.parent_before start pos lt in let last = w.nesting.last_within start lt in let own = w.nesting.last_from start lt in
    rw c.above.ensures (room-above rows (rule_of c.args.method) w _ start c.args.stacks.now (omega arith) (omega arith) lt (c.requires.room.at start (omega arith) ordered))

pub write_range-requires-clause-room : goal.write_range-requires-clause-room
write_range-requires-clause-room g c = room_in-kept c.args.doc.now (rule_of c.args.method) c.args.range.start c.args.range.until c.args.stacks.now _ c.enter_all.ensures.kept c.requires.room

pub returns-clause-kept : goal.returns-clause-kept
returns-clause-kept g c = keeps-then c.args.stacks.now _ _ c.enter_all.ensures.kept c.write_range.ensures.kept

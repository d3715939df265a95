use Rattle.std.proofs.Common.{◌≡◌, ℕ, ◌<◌, ◌≤◌, length, true, sym, arith}
use Rattle.node_sets.specs.View.{in_view}
use Rattle.c14n_rows.specs.Rules.{rule_of}
use Rattle.c14n_text.specs.Rows.{is_child}
use Rattle.c14n_text.specs.Canon.{opening, closing}
use Rattle.c14n_text.proofs.ProgressLemmas.{begins_at, opens, passes, stops_opening, next_is_below}
use Rattle.c14n_text.proofs.QuietRows.{no_opening, no_closing}
use Rattle.c14n_text.proofs.TreeLemmas.{parent-is_open}
use Rattle.c14n_text.proofs.RowTree.{tree_of}
use Rattle.c14n_rows.proofs.Chains.{parent_there}
use Rattle.c14n_rows.proofs.StacksLemmas.{keeps-all, keeps-then, keeps_ordered-all, keeps_ordered-then, ordered_in-kept, room-kept}
use Rattle.c14n_rows.proofs.walk.write_range.Goals as goal
use Rattle.c14n_rows.proofs.walk.write_range.Goals.{then-is_child+in_default-open_row, else-is_child}

pub loop-next-init : goal.loop-next-init
loop-next-init g c =
    let rows = c.args.doc.now in let set = in_view c.args.set in let rule = rule_of c.args.method in
    let w = c.rows-rows.ensures.shaped in
    let before = c.requires.quiet_before in
    let there : c.args.start < length rows = let order = c.requires.ordered in let within = c.requires.within in omega arith in
    rw c.above-opened.ensures (record {
      here = parent_there rows w c.args.start there;
      stacks = c.requires.stacks;
      kept = keeps-all c.args.stacks.now;
      ordered_kept = keeps_ordered-all c.args.ordered.now;
      walked = begins_at rows w (opening rows set rule c.args.comments) (closing rows set) _ _ _ c.args.sink.now c.args.start c.requires.behind_root there
          (λ (x : ℕ) (lt : x < c.args.start). no_opening rows w set rule c.args.comments x (before x lt)) (λ (x : ℕ) (lt : x < c.args.start). no_closing rows w set rule c.args.comments x (before x lt));
    })

pub returns-in-Refused-clause-puts : goal.returns-in-Refused-clause-puts
returns-in-Refused-clause-puts g c =
    c.in-Refused.ensures.walked c.args.sink.now (opening c.args.doc.now (in_view c.args.set) (rule_of c.args.method) c.args.comments) c.loop-next.invariant.walked

pub returns-in-Refused-open_row-clause-puts : goal.returns-in-Refused-open_row-clause-puts
returns-in-Refused-open_row-clause-puts g c =
    let rows = c.args.doc.now in let set = in_view c.args.set in let o = opening rows set (rule_of c.args.method) c.args.comments in let next = c.loop-next.next in
    let w = c.rows-rows.ensures.shaped in
    let closed = c.in_default.ensures.walked c.args.sink.now o c.loop-next.invariant.walked in
    let lt : next < length rows = omega (arith, c.loop-next-test.true, c.requires.within) in
    let below = next_is_below rows w o (closing rows set) _ _ _ _ next closed.0 lt closed.1 in
    let is_counted : is_child rows next ≡ true = sym c.if-is_child.ensures in
    stops_opening rows w o (closing rows set) _ _ _ _ next closed.0 lt below is_counted c.in-Refused-open_row.ensures.puts.by

pub loop-next-preserved : goal.loop-next-preserved
loop-next-preserved g c =
    let rows = c.args.doc.now in let set = in_view c.args.set in let o = opening rows set (rule_of c.args.method) c.args.comments in let next = c.loop-next.next in
    let w = c.rows-rows.ensures.shaped in
    let closed = c.in_default.ensures.walked c.args.sink.now o c.loop-next.invariant.walked in
    let lt : next < length rows = omega (arith, c.loop-next-test.true, c.requires.within) in
    let below = next_is_below rows w o (closing rows set) _ _ _ _ next closed.0 lt closed.1 in
    elim c.if-is_child.branch [
      | then-is_child+in_default-open_row b ↦
          rw (b.sink-is, b.opened-is, b.stacks-is, b.ordered-is) (record { here = lt; ordered_kept = keeps_ordered-then c.args.ordered.now c.loop-next.ordered _ c.loop-next.invariant.ordered_kept b.in_default-open_row.ensures.ordered_kept; stacks = b.in_default-open_row.ensures.stacks; kept = keeps-then c.args.stacks.now c.close_ended.new.stacks _ (keeps-then c.args.stacks.now c.loop-next.stacks c.close_ended.new.stacks c.loop-next.invariant.kept c.in_default.ensures.kept) b.in_default-open_row.ensures.kept; walked = opens rows w o (closing rows set) _ _ _ _ next closed.0 lt below (sym b.if-is_child.ensures) b.in_default-open_row.ensures.puts.by })
      | else-is_child b ↦
          rw (b.sink-is, b.opened-is, b.stacks-is, b.ordered-is) (record { ordered_kept = c.loop-next.invariant.ordered_kept; stacks = c.in_default.ensures.stacks; kept = keeps-then c.args.stacks.now c.loop-next.stacks c.close_ended.new.stacks c.loop-next.invariant.kept c.in_default.ensures.kept; here = let begun = closed.0.stands.begun in omega arith; walked = passes rows w o (closing rows set) _ _ _ _ next closed.0 lt below (sym b.if-is_child.ensures) })
    ]

pub returns-clause-puts : goal.returns-clause-puts
returns-clause-puts g c =
    let rows = c.args.doc.now in let set = in_view c.args.set in let rule = rule_of c.args.method in let o = opening rows set rule c.args.comments in
    let w = c.rows-rows.ensures.shaped in
    let behind = c.requires.quiet_behind in
    let at_end : c.loop-next.next ≡ c.args.until = let order = c.requires.ordered in omega (arith, c.loop-next-test.false, c.loop-next.auto.next-end) in
    let p = c.loop-next.invariant.walked in
    c.close_all.ensures.walked c.args.sink.now o
    (λ (x : ℕ) (le : c.args.until ≤ x). no_opening rows w set rule c.args.comments x (behind x le)) (λ (x : ℕ) (le : c.args.until ≤ x). no_closing rows w set rule c.args.comments x (behind x le))
    (rw at_end at p)

-- the innermost open row is the parent of the next one
pub open_row-requires-clause-stacks : goal.open_row-requires-clause-stacks
open_row-requires-clause-stacks g c =
    let rows = c.args.doc.now in let set = in_view c.args.set in let rule = rule_of c.args.method in let o = opening rows set rule c.args.comments in let next = c.loop-next.next in
    let w = c.rows-rows.ensures.shaped in
    let closed = c.in_default.ensures.walked c.args.sink.now o c.loop-next.invariant.walked in
    let lt : next < length rows = omega (arith, c.loop-next-test.true, c.requires.within) in
    let below = next_is_below rows w o (closing rows set) _ _ _ _ next closed.0 lt closed.1 in
    let up = parent-is_open _ _ _ _ _ _ (tree_of rows w) c.close_ended.new.opened next closed.0.written closed.0.stands lt below in
    rw up c.in_default.ensures.stacks

pub open_row-requires-clause-room : goal.open_row-requires-clause-room
open_row-requires-clause-room g c =
    let next = c.loop-next.next in
    room-kept c.args.doc.now (rule_of c.args.method) next c.args.stacks.now c.close_ended.new.stacks (keeps-then c.args.stacks.now c.loop-next.stacks c.close_ended.new.stacks c.loop-next.invariant.kept c.in_default.ensures.kept)
    (c.requires.room.at next c.loop-next.auto.next c.loop-next-test.true)

pub returns-in-Refused-clause-kept : goal.returns-in-Refused-clause-kept
returns-in-Refused-clause-kept g c = keeps-then c.args.stacks.now c.loop-next.stacks _ c.loop-next.invariant.kept c.in-Refused.ensures.kept

pub returns-in-Refused-open_row-clause-kept : goal.returns-in-Refused-open_row-clause-kept
returns-in-Refused-open_row-clause-kept g c =
    keeps-then c.args.stacks.now c.close_ended.new.stacks _ (keeps-then c.args.stacks.now c.loop-next.stacks c.close_ended.new.stacks c.loop-next.invariant.kept c.in_default.ensures.kept) c.in-Refused-open_row.ensures.kept

pub open_row-requires-clause-ordered_room : goal.open_row-requires-clause-ordered_room
open_row-requires-clause-ordered_room g c =
    let kept = ordered_in-kept c.args.doc.now c.args.start c.args.until c.args.ordered.now c.loop-next.ordered c.loop-next.invariant.ordered_kept c.requires.ordered_room in
    kept.at c.loop-next.next c.loop-next.auto.next c.loop-next-test.true

pub returns-in-Refused-open_row-clause-ordered_kept : goal.returns-in-Refused-open_row-clause-ordered_kept
returns-in-Refused-open_row-clause-ordered_kept g c = keeps_ordered-then c.args.ordered.now c.loop-next.ordered _ c.loop-next.invariant.ordered_kept c.in-Refused-open_row.ensures.ordered_kept

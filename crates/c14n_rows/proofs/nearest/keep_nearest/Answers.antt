use Rattle.std.proofs.Common.{refl, arith}
use Rattle.c14n_rows.specs.Rules.{rule_of}
use Rattle.c14n_rows.proofs.NearestLemmas.{last_stands}
use Rattle.c14n_rows.proofs.StacksLemmas.{keeps_ordered-all, keeps_ordered-then}
use Rattle.c14n_rows.proofs.nearest.keep_nearest.Goals as goal

pub loop-count-init : goal.loop-count-init
loop-count-init c = record { nearest = c.requires.nearest; kept = keeps_ordered-all c.args.ordered.now }

pub next_count-requires-clause-used : goal.next_count-requires-clause-used
next_count-requires-clause-used c = c.loop-count.invariant.nearest.used

pub next_count-requires-clause-ordered : goal.next_count-requires-clause-ordered
next_count-requires-clause-ordered c = (last_stands c.args.doc.now (rule_of c.args.method) c.args.xml.now c.loop-count.nearest c.loop-count.invariant.nearest).ordered

pub next_count-requires-clause-few : goal.next_count-requires-clause-few
next_count-requires-clause-few c = (last_stands c.args.doc.now (rule_of c.args.method) c.args.xml.now c.loop-count.nearest c.loop-count.invariant.nearest).few

pub keep_part-requires-clause-nearest : goal.keep_part-requires-clause-nearest
keep_part-requires-clause-nearest c = c.loop-count.invariant.nearest

pub keep_part-requires-clause-room : goal.keep_part-requires-clause-room
keep_part-requires-clause-room c = let room = c.requires.room in let kept = c.loop-count.invariant.kept.attributes in omega arith

pub keep_part-requires-clause-spare : goal.keep_part-requires-clause-spare
keep_part-requires-clause-spare c = let spare = c.requires.spare in let kept = c.loop-count.invariant.kept.spare in omega arith

pub returns-then-not-keep_part-clause-kept : goal.returns-then-not-keep_part-clause-kept
returns-then-not-keep_part-clause-kept c = keeps_ordered-then c.args.ordered.now c.loop-count.ordered _ c.loop-count.invariant.kept c.keep_part.ensures.kept

pub loop-count-smaller : goal.loop-count-smaller
loop-count-smaller c =
    let last = c.if-not-keep_part.ensures.last refl in
    let more = c.in-Some.ensures.more in let few = c.in-Some.ensures.few in
    omega arith

pub loop-count-preserved : goal.loop-count-preserved
loop-count-preserved c = record {
  nearest = c.keep_part.ensures.nearest;
  kept = keeps_ordered-then c.args.ordered.now c.loop-count.ordered _ c.loop-count.invariant.kept c.keep_part.ensures.kept;
}

pub returns-clause-nearest : goal.returns-clause-nearest
returns-clause-nearest c = c.loop-count.invariant.nearest

pub returns-clause-kept : goal.returns-clause-kept
returns-clause-kept c = c.loop-count.invariant.kept

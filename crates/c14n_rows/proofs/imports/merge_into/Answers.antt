use Rattle.std.proofs.Common.{◌≤◌, ◌<◌, length, refl, sym, arith}
use Rattle.std.proofs.lemmas.Slice.{between_to_end}
use Rattle.c14n_rows.proofs.ImportLemmas.{few_pushed, step_less, step_equal, step_greater, step_end}
use Rattle.c14n_rows.proofs.imports.merge_into.Goals as goal
use Rattle.c14n_rows.proofs.imports.merge_into.Goals.{then-loop-i-test+else-j-second, else-loop-i-test}

pub loop-i-preserved-in-Less : goal.loop-i-preserved-in-Less
loop-i-preserved-in-Less c =
    let first = c.loop-i-test.true in
    rw c.push_row.ensures.items (record {
      first_within = omega arith;
      second_within = c.loop-i.invariant.second_within;
      so_far = step_less c.args.doc.now c.args.first.now c.args.second.now c.requires.first_stands c.requires.second_stands c.loop-i.i c.loop-i.j _ _ c.loop-i-test.true c.if-j-second.true refl refl c.loop-i.merged.items _ c.loop-i.invariant.so_far (sym c.in-Less.ensures);
      few = few_pushed _ _ _ _ c.loop-i.invariant.few (omega arith);
      kept = let k = c.loop-i.invariant.kept in omega (arith, c.push_row.ensures.capacity);
    })

pub loop-i-preserved-in-Equal : goal.loop-i-preserved-in-Equal
loop-i-preserved-in-Equal c =
    let second = c.if-j-second.true in let few = c.loop-i.invariant.few in
    record {
      first_within = c.loop-i.invariant.first_within;
      second_within = omega arith;
      so_far = step_equal c.args.doc.now c.args.first.now c.args.second.now c.requires.first_stands c.requires.second_stands c.loop-i.i c.loop-i.j _ _ c.loop-i-test.true c.if-j-second.true refl refl c.loop-i.merged.items _ c.loop-i.invariant.so_far (sym c.in-Equal.ensures);
      few = omega arith;
      kept = c.loop-i.invariant.kept;
    }

pub loop-i-preserved : goal.loop-i-preserved
loop-i-preserved c =
    let second = c.if-j-second.true in
    rw c.push_row-in-Greater.ensures.items (record {
      first_within = c.loop-i.invariant.first_within;
      second_within = omega arith;
      so_far = step_greater c.args.doc.now c.args.first.now c.args.second.now c.requires.first_stands c.requires.second_stands c.loop-i.i c.loop-i.j _ _ c.loop-i-test.true c.if-j-second.true refl refl c.loop-i.merged.items _ c.loop-i.invariant.so_far (sym c.in-Greater.ensures);
      few = few_pushed _ _ _ _ c.loop-i.invariant.few (omega arith);
      kept = let k = c.loop-i.invariant.kept in omega (arith, c.push_row-in-Greater.ensures.capacity);
    })

pub returns-clause-items : goal.returns-clause-items
returns-clause-items c =
    let over : c.loop-i.i < length c.args.first.now → length c.args.second.now ≤ c.loop-i.j = elim c.loop-i-test.branch [
      | then-loop-i-test+else-j-second w ↦ λ (lt : c.loop-i.i < length c.args.first.now). omega (arith, w.if-j-second.false)
      | else-loop-i-test w ↦ λ (lt : c.loop-i.i < length c.args.first.now). absurd (omega (arith, w.loop-i-test.false))
    ] in
    rw (c.append-2.ensures.items, c.append.ensures.items, between_to_end c.args.first.now c.loop-i.i (length c.args.first.now) (omega arith), between_to_end c.args.second.now c.loop-i.j (length c.args.second.now) (omega arith))
    (step_end c.args.doc.now c.args.first.now c.args.second.now c.requires.first_stands c.requires.second_stands c.loop-i.i c.loop-i.j over c.loop-i.merged.items _ c.loop-i.invariant.so_far)

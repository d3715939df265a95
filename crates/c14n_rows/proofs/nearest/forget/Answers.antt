use Rattle.std.proofs.Common.{ℕ, List, length, refl, ap, arith}
use Rattle.xml_doc.specs.Rows.{RowOf}
use Rattle.c14n_text.specs.Namespaces.{Rule}
use Rattle.c14n_rows.specs.declared.nearest.Part.{Part}
use Rattle.c14n_rows.specs.Code.Nearest.{NearestAt}
use Rattle.c14n_rows.proofs.NearestLemmas.{nearest-fewer, nearest-taken, some_part}
use Rattle.c14n_rows.proofs.nearest.forget.Goals as goal

pub loop-nearest-init : goal.loop-nearest-init
loop-nearest-init c = record { fewer = omega arith; rows = refl; parts = refl }

pub last_part-requires : goal.last_part-requires
last_part-requires c =
    let n = ap (length {A = Part}) c.loop-nearest.invariant.parts in let few = c.loop-nearest.invariant.fewer in let used = c.requires in
    omega arith

pub loop-nearest-smaller : goal.loop-nearest-smaller
loop-nearest-smaller c =
    let e = ap (λ (p : Part). p.count) c.last_part.ensures in
    let some = some_part c.loop-nearest.nearest c.args.count (omega (arith, e, c.loop-nearest-test.true)) in
    omega arith

pub loop-nearest-preserved : goal.loop-nearest-preserved
loop-nearest-preserved c =
    let few = c.loop-nearest.invariant.fewer in
    record { fewer = omega arith; rows = c.loop-nearest.invariant.rows; parts = c.loop-nearest.invariant.parts }

pub returns : goal.returns
returns c = λ (rows : List RowOf) (rule : Rule) (xml : List ℕ) (h : NearestAt rows rule xml c.args.nearest.now).
    let e = ap (λ (p : Part). p.count) c.last_part.ensures in
    nearest-taken rows rule xml c.loop-nearest.nearest c.args.count
    (nearest-fewer rows rule xml c.args.nearest.now c.loop-nearest.nearest h c.loop-nearest.invariant.fewer c.loop-nearest.invariant.rows c.loop-nearest.invariant.parts)
    (omega (arith, e, c.loop-nearest-test.false))

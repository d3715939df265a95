use Rattle.std.proofs.Common.{ℕ, ◌+◌, ◌-◌, ◌/◌, ◌≤◌, ◌<◌, List, sym, ap, ◌∙◌, arith}
use Rattle.std.specs.Cmp.Lexicographic.{slice_cmp}
use Rattle.std.specs.Ordering.{nat_cmp, is_eq}
use Rattle.std.proofs.lemmas.Map.Text.{is_eq-slice_cmp}
use Rattle.std.proofs.lemmas.Slice.Eq.{bytes_eq-Decides}
use Rattle.xml_doc.specs.Shape.{row_at}
use Rattle.c14n_rows.proofs.NameLemmas.{halved-begin, halved-less, halved-greater, halved-none}
use Rattle.c14n_rows.proofs.names.row_named.Goals as goal

pub loop-low-init : goal.loop-low-init
loop-low-init c = halved-begin c.args.doc.now c.rows-rows.ensures.shaped c.args.e c.args.until c.requires.behind c.requires.within c.requires.rows c.args.prefix.now

pub loop-low-preserved-in-Less : goal.loop-low-preserved-in-Less
loop-low-preserved-in-Less c =
    let middle : ℕ = c.loop-low.low + (c.loop-low.high - c.loop-low.low) / 2 in
    let lt = c.loop-low-test.true in
    let from : c.loop-low.low ≤ middle = omega arith in
    let under : middle < c.loop-low.high = omega arith in
    halved-less c.args.doc.now c.rows-rows.ensures.shaped c.args.e c.args.until c.requires.behind c.requires.within c.requires.rows c.args.prefix.now
    c.loop-low.low c.loop-low.high middle c.loop-low.invariant from under
    (ap (λ (n : List ℕ). slice_cmp nat_cmp n c.args.prefix.now) (sym c.local_name.ensures) ∙ sym c.in-Less.ensures)

pub returns-in-Equal : goal.returns-in-Equal
returns-in-Equal c =
    let middle : ℕ = c.loop-low.low + (c.loop-low.high - c.loop-low.low) / 2 in
    let lt = c.loop-low-test.true in
    let from = c.loop-low.invariant.from in
    let until = c.loop-low.invariant.until in
    let name = (row_at c.args.doc.now middle).local_name in
    let same = ap (λ (n : List ℕ). slice_cmp nat_cmp n c.args.prefix.now) (sym c.local_name.ensures) ∙ sym c.in-Equal.ensures in
    (omega arith, omega arith, (bytes_eq-Decides name c.args.prefix.now).0 (sym (is_eq-slice_cmp name c.args.prefix.now) ∙ ap is_eq same))

pub loop-low-preserved : goal.loop-low-preserved
loop-low-preserved c =
    let middle : ℕ = c.loop-low.low + (c.loop-low.high - c.loop-low.low) / 2 in
    let lt = c.loop-low-test.true in
    let from : c.loop-low.low ≤ middle = omega arith in
    let under : middle < c.loop-low.high = omega arith in
    halved-greater c.args.doc.now c.rows-rows.ensures.shaped c.args.e c.args.until c.requires.behind c.requires.within c.requires.rows c.args.prefix.now
    c.loop-low.low c.loop-low.high middle c.loop-low.invariant from under
    (ap (λ (n : List ℕ). slice_cmp nat_cmp n c.args.prefix.now) (sym c.local_name.ensures) ∙ sym c.in-Greater.ensures)

pub returns : goal.returns
returns c =
    halved-none c.args.doc.now c.rows-rows.ensures.shaped c.args.e c.args.until c.requires.behind c.requires.within c.requires.rows c.args.prefix.now
    c.loop-low.low c.loop-low.high c.loop-low.invariant c.loop-low-test.false

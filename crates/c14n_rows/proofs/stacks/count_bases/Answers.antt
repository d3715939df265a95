use Rattle.std.proofs.Common.{arith}
use Rattle.c14n_text.specs.Bases.{is_base}
use Rattle.c14n_rows.proofs.XmlLemmas.{counted-one, counted-none, count-end}
use Rattle.c14n_rows.proofs.stacks.count_bases.Goals as goal
use Rattle.c14n_rows.proofs.stacks.count_bases.Goals.{then-is_base, else-is_base}

pub loop-a-preserved : goal.loop-a-preserved
loop-a-preserved c =
    let p = is_base c.args.doc.now in let i = c.loop-a.invariant in
    elim c.if-is_base.branch [
      | then-is_base b ↦ let both = counted-one p c.loop-a.a c.args.until c.loop-a.count _ c.args.from c.loop-a-test.true b.if-is_base.ensures i.few i.counted in rw b.count-is (record { few = both.0; counted = both.1 })
      | else-is_base b ↦ let both = counted-none p c.loop-a.a c.args.until c.loop-a.count _ c.args.from c.loop-a-test.true b.if-is_base.ensures i.few i.counted in rw b.count-is (record { few = both.0; counted = both.1 })
    ]

pub returns : goal.returns
returns c =
    let n = count-end (is_base c.args.doc.now) c.loop-a.a c.args.until c.loop-a-test.false in
    let counted = c.loop-a.invariant.counted in
    omega arith

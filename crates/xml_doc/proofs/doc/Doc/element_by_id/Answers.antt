use Rattle.std.proofs.Common.{◌≡◌, ◌≢◌, length, sym, ◌∙◌, arith}
use Rattle.xml_doc.specs.Shape.{row_at}
use Rattle.xml_doc.proofs.IdLemmas.{so_far-past, so_far-first, so_far-again, answer-nobody, answer-one, answer-several}
use Rattle.xml_doc.proofs.doc.Doc.element_by_id.Goals as goal
use Rattle.xml_doc.proofs.doc.Doc.element_by_id.Goals.{then-gives_id+in-None, then-gives_id+in-Some+else-e-bearer, else-gives_id}

pub returns-then-e-bearer : goal.returns-then-e-bearer
returns-then-e-bearer c =
    let up : (row_at c.args.self.now c.loop-k.k).parent ≡ c.above-bearer.result = sym c.above-bearer.ensures in
    let apart : c.in-Some.e ≢ (row_at c.args.self.now c.loop-k.k).parent = λ e. c.if-e-bearer.true (e ∙ up) in
    rw (← up) (answer-several c.args.self.now c.rows-k-end.ensures.shaped c.args.id.now c.loop-k.k c.in-Some.e (omega arith) (sym c.gives_id.ensures ∙ c.if-gives_id.true) apart (rw c.in-Some.is at c.loop-k.invariant))

pub loop-k-preserved : goal.loop-k-preserved
loop-k-preserved c =
    let rows = c.args.self.now in
    let id = c.args.id.now in
    let k = c.loop-k.k in
    elim c.if-gives_id.branch [
      | then-gives_id+in-None w ↦ rw (w.first-is, w.above-bearer.ensures) (so_far-first rows id k (sym c.gives_id.ensures ∙ w.if-gives_id.true) (rw w.in-None.is at c.loop-k.invariant))
      | then-gives_id+in-Some+else-e-bearer w ↦ rw (w.first-is) (so_far-again rows id k w.in-Some.e (w.if-e-bearer.false ∙ w.above-bearer.ensures) (rw w.in-Some.is at c.loop-k.invariant))
      | else-gives_id w ↦ rw (w.first-is) (so_far-past rows id k c.loop-k.first (sym c.gives_id.ensures ∙ w.if-gives_id.false) c.loop-k.invariant)
    ]

pub returns-in-Some-first : goal.returns-in-Some-first
returns-in-Some-first c =
    let done : c.loop-k.k ≡ length c.args.self.now = omega arith in
    answer-one c.args.self.now c.rows-k-end.ensures.shaped c.args.id.now c.in-Some-first.e (rw (done, c.in-Some-first.is) at c.loop-k.invariant)

pub returns-in-None-first : goal.returns-in-None-first
returns-in-None-first c =
    let done : c.loop-k.k ≡ length c.args.self.now = omega arith in
    answer-nobody c.args.self.now c.rows-k-end.ensures.shaped c.args.id.now (rw (done, c.in-None-first.is) at c.loop-k.invariant)

use Rattle.std.proofs.Common.{◌∙◌, ℕ, List, [], ap, sym, subst, arith}
use Rattle.sig_base.specs.Outcomes as outcomes
use Rattle.xml_read.specs.ReadOutcome.{read_outcome}
use Rattle.signer.specs.Code.Reading.{seen_template}
use Rattle.signer.specs.Code.Refusals.{Stops}
use Rattle.signer.specs.Code.Sealing.{seal_of}
use Rattle.signer.specs.declared.sealing.Seal.{Seal}
use Rattle.signer.proofs.Stands.{info_stands, orders, unsigned_is}
use Rattle.signer.proofs.signing.seal.Goals as goal

pub filled-requires-clause-order : goal.filled-requires-clause-order
filled-requires-clause-order c = orders c.args.bytes.now c.args.doc.now (seen_template c.args.template.now) c.requires.template c.args.views.now [] (λ i. omega arith)

pub seal_octets-requires-clause-stands : goal.seal_octets-requires-clause-stands
seal_octets-requires-clause-stands c = λ rows e.
    let t = c.args.template.now in
    let is = c.bytes.ensures ∙ c.in_ok-one.ensures ∙ unsigned_is c.args.bytes.now c.args.doc.now t.fields c.args.views.now in
    info_stands c.args.bytes.now c.args.doc.now (seen_template t) c.requires.template c.args.views.now rows (ap read_outcome (sym is) ∙ e)

pub returns : goal.returns
returns c =
    let t = c.args.template.now in
    let is = c.bytes.ensures ∙ c.in_ok-one.ensures ∙ unsigned_is c.args.bytes.now c.args.doc.now t.fields c.args.views.now in
    let P : List ℕ → Type 0 = λ o. outcomes.Gives {T = Seal} Stops (λ seal. seal) c.seal_octets.result (seal_of o t.fields t.key.now) in
    subst P is c.seal_octets.ensures

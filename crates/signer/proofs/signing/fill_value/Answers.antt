use Rattle.std.proofs.Common.{◌∙◌, ℕ, List, Ok, ap, sym, subst}
use Rattle.base64.specs.GeneralPurpose.{IsBytes}
use Rattle.xml_read.specs.ReadOutcome.{read_outcome}
use Rattle.signer.specs.Code.Comparing.{TellsMade, made_outcome}
use Rattle.signer.specs.Code.Reading.{seen_template}
use Rattle.signer.specs.Code.Signing.{outcome_of_seal}
use Rattle.signer.specs.Signed.{signed, unsigned}
use Rattle.signer.proofs.Refusing.{refuses_on}
use Rattle.signer.proofs.SealLaws.{seal_bytes}
use Rattle.signer.proofs.SigningLaws.{seal_done, seal_refused}
use Rattle.signer.proofs.Stands.{orders, signature_stands, tells_made}
use Rattle.signer.proofs.signing.fill_value.Goals as goal

pub filled-requires-clause-order : goal.filled-requires-clause-order
filled-requires-clause-order g c =
    let t = seen_template c.args.template.now in
    let bytes = seal_bytes (unsigned c.args.bytes.now c.args.doc.now t.fields c.args.views.now) t.fields t.key c.args.seal.now c.requires.seal in
    orders c.args.bytes.now c.args.doc.now t c.requires.template c.args.views.now c.bytes.result.now (subst IsBytes (sym c.bytes.ensures) bytes)

pub compare_octets-requires : goal.compare_octets-requires
compare_octets-requires g c =
    let t = seen_template c.args.template.now in let seal = c.args.seal.now in
    let bytes = seal_bytes (unsigned c.args.bytes.now c.args.doc.now t.fields c.args.views.now) t.fields t.key seal c.requires.seal in
    let is = c.bytes-2.ensures ∙ c.in-Ok.ensures ∙ ap (signed c.args.bytes.now c.args.doc.now t.fields c.args.views.now) c.bytes.ensures in
    record { stands = λ rows e. signature_stands c.args.bytes.now c.args.doc.now t c.requires.template c.args.views.now seal.value bytes rows (ap read_outcome (sym is) ∙ e) }

pub returns-in-Ok-compare_octets-clause-outcome : goal.returns-in-Ok-compare_octets-clause-outcome
returns-in-Ok-compare_octets-clause-outcome g c = λ files tells.
    let octets = c.args.bytes.now in let rows = c.args.doc.now in let t = seen_template c.args.template.now in let seal = c.args.seal.now in let views = c.args.views.now in let place = c.args.place.now in
    let bytes = seal_bytes (unsigned octets rows t.fields views) t.fields t.key seal c.requires.seal in
    let made = c.in-Ok.ensures ∙ ap (signed octets rows t.fields views) c.bytes.ensures in
    let is = c.bytes-2.ensures ∙ made in
    let P : List ℕ → Type 0 = λ o. TellsMade place o t.signature (g.F.Folder.held c.args.folder.now) files in
    let done = c.in-Ok-compare_octets.ensures.outcome files (subst P (sym is) (tells_made octets rows t c.requires.template views place seal.value bytes _ files tells)) in
    seal_done octets rows t place files views seal (ap (λ (o : List ℕ). made_outcome t.signature place files o seal.fits views) (sym is) ∙ done) ∙ ap Ok (sym made)

pub returns-in-Err-clause-outcome : goal.returns-in-Err-clause-outcome
returns-in-Err-clause-outcome g c = λ files tells.
    let octets = c.args.bytes.now in let rows = c.args.doc.now in let t = seen_template c.args.template.now in let seal = c.args.seal.now in let views = c.args.views.now in let place = c.args.place.now in
    let bytes = seal_bytes (unsigned octets rows t.fields views) t.fields t.key seal c.requires.seal in
    let is = c.bytes-2.ensures ∙ c.in-Ok.ensures ∙ ap (signed octets rows t.fields views) c.bytes.ensures in
    let P : List ℕ → Type 0 = λ o. TellsMade place o t.signature (g.F.Folder.held c.args.folder.now) files in
    let refused = c.in-Err.ensures.outcome files (subst P (sym is) (tells_made octets rows t c.requires.template views place seal.value bytes _ files tells)) in
    refuses_on c.in-Err.cause (made_outcome t.signature place files c.bytes-2.result.now seal.fits views) (outcome_of_seal octets rows t place files views seal)
    (λ e. seal_refused octets rows t place files views seal c.in-Err.cause (ap (λ (o : List ℕ). made_outcome t.signature place files o seal.fits views) (sym is) ∙ e))
    refused

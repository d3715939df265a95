use Rattle.std.proofs.Common.{◌≡◌, ℕ, suc, ◌<◌, ◌-◌, ◌+◌, length, ap, sym, ◌∙◌, arith}
use Rattle.std.specs.Prelude.{slice_get}
use Rattle.xml_doc.specs.Searches.{passing}
use Rattle.dsig_fields.specs.Reading.{is_named}
use Rattle.dsig_fields.specs.declared.names.ElementName.TheVariants.{Signature}
use Rattle.dsig_fields.proofs.SignatureLaws.{wanted_found, wanted_behind, wanted_past}
use Rattle.dsig_fields.proofs.signatures.nth_signature.Goals as goal
use Rattle.dsig_fields.proofs.signatures.nth_signature.Goals.{then-is_named+else-wanted-eq1, else-is_named}

pub returns-then-wanted-eq1-clause-row : goal.returns-then-wanted-eq1-clause-row
returns-then-wanted-eq1-clause-row c =
    let p = is_named c.args.doc.now Signature in
    let one : c.loop-y.wanted - 1 ≡ 0 = omega (arith, c.if-wanted-eq1.true) in
    sym (wanted_found p c.loop-y.y (length c.args.doc.now) (omega (arith, c.loop-y-test.true)) (sym c.if-is_named.ensures))
    ∙ ap (slice_get (passing p c.loop-y.y (length c.args.doc.now))) (sym one)
    ∙ c.loop-y.invariant.1

pub loop-y-preserved : goal.loop-y-preserved
loop-y-preserved c =
    let p = is_named c.args.doc.now Signature in
    let n = length c.args.doc.now in
    let within : c.loop-y.y < n = omega (arith, c.loop-y-test.true) in
    elim c.if-is_named.branch [
      | then-is_named+else-wanted-eq1 w ↦
          let more : c.loop-y.wanted - 1 ≡ suc (c.if-is_named.wanted - 1) = omega (arith, w) in
          (omega (arith, w), sym (wanted_behind p c.loop-y.y n within (c.if-is_named.wanted - 1) (sym c.is_named.ensures ∙ w.if-is_named.true)) ∙ ap (slice_get (passing p c.loop-y.y n)) (sym more) ∙ c.loop-y.invariant.1)
      | else-is_named w ↦
          let same : c.if-is_named.wanted ≡ c.loop-y.wanted = w.wanted-is in
          (omega (arith, w), ap (λ (k : ℕ). slice_get (passing p (c.loop-y.y + 1) n) (k - 1)) same ∙ sym (wanted_past p c.loop-y.y n within (c.loop-y.wanted - 1) (sym c.is_named.ensures ∙ w.if-is_named.false)) ∙ c.loop-y.invariant.1)
    ]

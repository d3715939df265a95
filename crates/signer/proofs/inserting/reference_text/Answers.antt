use Rattle.std.proofs.Common.{◌∙◌, ℕ, Vec, Global, ap}
use Rattle.std.specs.Prelude.{codes}
use Rattle.signer.specs.Template.{algorithm_element, reference_text}
use Rattle.signer.proofs.InsertLaws.{ok_by, parts4}
use Rattle.signer.proofs.inserting.reference_text.Goals as goal

pub returns : goal.returns
returns c =
    ok_by (λ (o : Vec ℕ Global). o.items) c.joined.result _ (reference_text c.args.options.now) c.joined.ensures
    (parts4 c.as_slice.ensures (c.as_slice-2.ensures.value ∙ c.in_ok-transforms.ensures)
    (c.as_slice-3.ensures.value ∙ c.in_ok-method.ensures ∙ ap (algorithm_element (codes "DigestMethod")) c.digest_identifier.ensures) c.as_slice-4.ensures)

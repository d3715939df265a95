use Rattle.std.proofs.Common.{◌∙◌, ℕ, Vec, Global, ap}
use Rattle.std.specs.Prelude.{codes}
use Rattle.signer.specs.Template.{algorithm_element, signed_info_text}
use Rattle.signer.proofs.InsertLaws.{ok_by, parts5}
use Rattle.signer.proofs.inserting.signed_info_text.Goals as goal

pub returns : goal.returns
returns c =
    ok_by (λ (o : Vec ℕ Global). o.items) c.joined.result _ (signed_info_text c.args.options.now) c.joined.ensures
    (parts5 c.as_slice.ensures (c.as_slice-2.ensures.value ∙ c.in_ok-canon.ensures)
    (c.as_slice-3.ensures.value ∙ c.in_ok-mac.ensures ∙ ap (algorithm_element (codes "SignatureMethod")) c.mac_identifier.ensures)
    (c.as_slice-4.ensures.value ∙ c.in_ok-reference.ensures) c.as_slice-5.ensures)

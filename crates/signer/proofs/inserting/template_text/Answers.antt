use Rattle.std.proofs.Common.{◌∙◌}
use Rattle.signer.proofs.InsertLaws.{parts7}
use Rattle.signer.proofs.inserting.template_text.Goals as goal

pub returns : goal.returns
returns c =
    c.in_ok-text.ensures
    ∙ parts7 c.as_slice.ensures c.as_bytes.ensures.value c.as_slice-2.ensures (c.as_slice-3.ensures.value ∙ c.in_ok-info.ensures)
    c.as_slice-4.ensures (c.as_slice-5.ensures.value ∙ c.in_ok-key.ensures) c.as_slice-6.ensures

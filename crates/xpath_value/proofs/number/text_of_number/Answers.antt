use Rattle.std.proofs.Common.{◌≡◌, ap, sym, ◌∙◌, rules}
use Rattle.std.specs.Str.{chars}
use Rattle.std.specs.Fmt.{signed_decimal}
use Rattle.std.specs.String.{string_bytes}
use Rattle.std.proofs.lemmas.Int.{to_z-of_z}
use mir.Syntax.{w64}
use mir.Val.{SFits}
use Rattle.xpath_value.specs.Numbers.{text_of}
use Rattle.xpath_value.proofs.Characters.{ok_same}
use Rattle.xpath_value.proofs.Digits.{text_of_nan, text_of_whole}
use Rattle.xpath_value.proofs.number.text_of_number.Goals as goal

pub returns-in_ok-digits-in-Whole : goal.returns-in_ok-digits-in-Whole
returns-in_ok-digits-in-Whole c =
    let fits : SFits w64 c.in-Whole.value = search rules in
    let written : string_bytes c.in_ok-digits-in-Whole.digits ≡ signed_decimal c.in-Whole.value =
    c.in_ok-digits-in-Whole.ensures.ok ∙ ap signed_decimal (to_z-of_z w64 c.in-Whole.value fits) in
    ok_same c.from_str.result _ _
    (ap chars (c.as_str.ensures.value ∙ written) ∙ text_of_whole c.in-Whole.value fits.sfits ∙ ap text_of (sym c.in-Whole.is))
    c.from_str.ensures

pub returns-in-Nan : goal.returns-in-Nan
returns-in-Nan c = ok_same c.from_str-in-Nan.result _ _ (text_of_nan ∙ ap text_of (sym c.in-Nan.is)) c.from_str-in-Nan.ensures

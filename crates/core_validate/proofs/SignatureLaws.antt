-- Signature validation: the canonical SignedInfo, the bits of the value, and what each of them makes of the signature.
use Rattle.std.proofs.Common.{◌≡◌, ℕ, ◌*◌, ◌%◌, ◌<◌, ◌≤◌, Bool, true, false, List, length, map, not, Option, Some, None, Result, Ok, Err, refl, ap, sym, ◌∙◌, arith, encode_utf8_all}
use Rattle.std.specs.Prelude.{nat_le, if◌then◌else◌}
use Rattle.std.proofs.Math.Path.{fun_ext}
use Rattle.std.proofs.lemmas.Bool.{and_parts, le-leb, leb-true, lt-leb}
use Rattle.sig_base.specs.declared.method.MacMethod.{MacMethod}
use Rattle.sig_base.specs.declared.method.MacMethod.TheVariants.{HmacSha1, HmacSha224, HmacSha256, HmacSha384, HmacSha512}
use Rattle.xml_doc.specs.Rows.{RowOf}
use Rattle.node_sets.specs.Members.{SetOf, has, in_subtree}
use Rattle.c14n_methods.specs.Methods.{canonical_form}
use Rattle.digests_hmac.specs.Hash.{digest_size, hash_of}
use Rattle.dsig_fields.specs.Holds.{is_long_enough, is_mac_value, value_bits}
use Rattle.dsig_fields.specs.Lengths.{may_keep}
use Rattle.dsig_fields.specs.declared.fields.Fields.{Fields}
use Rattle.sig_base.specs.Outcomes.{and_then}
use Rattle.transforms.specs.Outcome.{canonical_signed_info}
use Rattle.transforms.specs.Steps.{octet_limit}
use Rattle.core_validate.specs.Code.Signature.{failure_by, signature_failure, value_stands}
use Rattle.transforms.specs.declared.outcome.ValidateRefusal.{ValidateRefusal}
use Rattle.transforms.specs.declared.outcome.ValidateRefusal.TheVariants as refusal
use Rattle.transforms.specs.declared.outcome.Report.{Report}
use Rattle.transforms.specs.declared.outcome.Report.TheVariants as report

-- the canonical form of the rows of SignedInfo
pub form_of_set : (rows : List RowOf) (fields : Fields) (set : SetOf) → set.rows ≡ rows → ((k : ℕ) → has set.members k ≡ in_subtree rows fields.signed_info k)
    → canonical_form fields.canon (map encode_utf8_all fields.prefixes) set.rows (has set.members) ≡ canonical_signed_info rows fields
form_of_set rows fields set p q =
    ap (λ (d : List RowOf). canonical_form fields.canon (map encode_utf8_all fields.prefixes) d (has set.members)) p
    ∙ ap (canonical_form fields.canon (map encode_utf8_all fields.prefixes) rows) (fun_ext q)

-- the bits of the value are whole octets of the HMAC, and no more than it has
whole_output : (mac : MacMethod) → (8 * digest_size (hash_of mac)) % 8 ≡ 0
whole_output HmacSha1 = refl
whole_output HmacSha224 = refl
whole_output HmacSha256 = refl
whole_output HmacSha384 = refl
whole_output HmacSha512 = refl

pub bits_within : (mac : MacMethod) (bits : Option ℕ) → ((n : ℕ) → bits ≡ Some n → may_keep mac n ≡ true) → value_bits mac bits ≤ 8 * digest_size (hash_of mac)
bits_within mac None may = omega arith
bits_within mac (Some n) may = leb-true n (8 * digest_size (hash_of mac)) (and_parts _ _ (may n refl)).1

module _ (rows : List RowOf) (fields : Fields) (key : List ℕ) where
  abbrev octets : List ℕ
  octets = canonical_signed_info rows fields

  abbrev bits : ℕ
  bits = value_bits fields.mac fields.bits

  abbrev is_value : Bool
  is_value = is_mac_value fields.mac bits key octets fields.value

  -- the failure, by whether the bits are enough
  abbrev behind_bits : Bool → Result (Option Report) ValidateRefusal
  behind_bits long = if not long then Ok (Some (report.ShortTruncation bits)) else and_then (value_stands rows fields key) (λ s. Ok (failure_by s))

  pub info_too_long : octet_limit < length octets → value_stands rows fields key ≡ Err refusal.OctetsTooLong
  unfolding value_stands
  info_too_long long = ap (λ (b : Bool). if not b then Err refusal.OctetsTooLong else Ok is_value) (lt-leb (length octets) octet_limit long)

  pub info_within : (stands : Bool) → length octets ≤ octet_limit → stands ≡ is_value → value_stands rows fields key ≡ Ok stands
  unfolding value_stands
  info_within stands short e = ap (λ (b : Bool). if not b then Err refusal.OctetsTooLong else Ok is_value) (le-leb (length octets) octet_limit short) ∙ ap Ok (sym e)

  pub too_few_bits : is_long_enough fields.mac bits ≡ false → signature_failure rows fields key ≡ Ok (Some (report.ShortTruncation bits))
  unfolding signature_failure
  too_few_bits e = ap behind_bits e

  pub by_value : (stands : Result Bool ValidateRefusal) → is_long_enough fields.mac bits ≡ true → value_stands rows fields key ≡ stands
      → signature_failure rows fields key ≡ and_then stands (λ s. Ok (failure_by s))
  unfolding signature_failure
  by_value stands e f = ap behind_bits e ∙ ap (λ (r : Result Bool ValidateRefusal). and_then r (λ s. Ok (failure_by s))) f

-- The signature value: the canonical SignedInfo, its HMAC, and the bits that are kept of it.
use Rattle.std.proofs.Common.{◌≡◌, ◌∙◌, ℕ, ◌*◌, ◌≤◌, Bool, true, List, length, map, Option, Some, None, Result, Ok, Err, refl, ap, sym, subst, arith, encode_utf8_all}
use Rattle.std.specs.Prelude.{nat_le}
use Rattle.std.proofs.Math.Path.{fun_ext}
use Rattle.std.proofs.lemmas.Bool.{and_parts, leb-true}
use Rattle.sig_base.specs.Outcomes.{and_then, with_cause}
use Rattle.sig_base.specs.declared.method.MacMethod.{MacMethod}
use Rattle.xml_doc.specs.Rows.{RowOf}
use Rattle.xml_read.specs.ReadOutcome as reading
use Rattle.xml_read.specs.ReadOutcome.{read_outcome}
use Rattle.xml_read.specs.declared.read.ReadRefusal.{ReadRefusal}
use Rattle.node_sets.specs.Members.{SetOf, has, in_subtree}
use Rattle.c14n_methods.specs.Methods.{canonical_form}
use Rattle.digests_hmac.specs.Hash.{digest_size, hash_of, hmac_of, kept}
use Rattle.dsig_fields.specs.Holds.{value_bits}
use Rattle.dsig_fields.specs.Lengths.{may_keep}
use Rattle.dsig_fields.specs.declared.fields.Fields.{Fields}
use Rattle.transforms.specs.Outcome.{canonical_signed_info}
use Rattle.transforms.specs.Steps.{octet_limit}
use Rattle.signer.specs.Signed.{value_under}
use Rattle.signer.specs.Code.Refusals.{Stops, filled_cause}
use Rattle.signer.specs.Code.Sealing.{seal_by, seal_of}
use Rattle.signer.specs.declared.refusal.SignRefusal.TheVariants as refusal
use Rattle.signer.specs.declared.sealing.Seal.{Seal}
use Rattle.base64.specs.GeneralPurpose.{IsBytes}
use Rattle.signer.proofs.Octets.{kept_bytes}
use Rattle.signer.proofs.SigningLaws.{filled_stops}

-- the canonical form of the rows of SignedInfo
pub form_of_set : (rows : List RowOf) (fields : Fields) (set : SetOf) → set.rows ≡ rows → ((k : ℕ) → has set.members k ≡ in_subtree rows fields.signed_info k)
    → canonical_form fields.canon (map encode_utf8_all fields.prefixes) set.rows (has set.members) ≡ canonical_signed_info rows fields
form_of_set rows fields set p q =
    ap (λ (d : List RowOf). canonical_form fields.canon (map encode_utf8_all fields.prefixes) d (has set.members)) p
    ∙ ap (canonical_form fields.canon (map encode_utf8_all fields.prefixes) rows) (fun_ext q)

-- the bits of the value are no more than the HMAC has
pub bits_within : (mac : MacMethod) (bits : Option ℕ) → ((n : ℕ) → bits ≡ Some n → may_keep mac n ≡ true) → value_bits mac bits ≤ 8 * digest_size (hash_of mac)
bits_within mac None may = omega arith
bits_within mac (Some n) may = leb-true n (8 * digest_size (hash_of mac)) (and_parts _ _ (may n refl)).1

abbrev sealed : List ℕ → Bool → Seal
sealed value fits = record { value = value; fits = fits }

pub seal_is : (rows : List RowOf) (fields : Fields) (key form mac value : List ℕ) (bits : ℕ) (fits : Bool) → form ≡ canonical_signed_info rows fields → mac ≡ hmac_of fields.mac key form
    → bits ≡ value_bits fields.mac fields.bits → value ≡ kept mac bits → fits ≡ nat_le (length form) octet_limit → sealed value fits ≡ seal_by rows fields key
seal_is rows fields key form mac value bits fits a b c d e =
    ap (λ (v : List ℕ). sealed v fits) (d ∙ ap (λ (m : List ℕ). kept m bits) (b ∙ ap (hmac_of fields.mac key) a) ∙ ap (kept (hmac_of fields.mac key (canonical_signed_info rows fields))) c)
    ∙ ap (sealed (value_under rows fields key)) (e ∙ ap (λ (f : List ℕ). nat_le (length f) octet_limit) a)

-- octets that are read
pub seal_read : (octets : List ℕ) (rows : List RowOf) (fields : Fields) (key : List ℕ) (seal : Seal) → read_outcome octets ≡ Ok rows → seal ≡ seal_by rows fields key → seal_of octets fields key ≡ Ok seal
unfolding seal_of
seal_read octets rows fields key seal e f =
    ap (λ (r : Result (List RowOf) ReadRefusal). and_then (with_cause refusal.Filled r) (λ rs. Ok (seal_by rs fields key))) e ∙ ap Ok (sym f)

-- octets that can't be read
pub seal_stops : (octets : List ℕ) (fields : Fields) (key : List ℕ) (cause : ReadRefusal) → reading.Refuses cause (read_outcome octets) → Stops (filled_cause cause) (seal_of octets fields key)
unfolding seal_of
seal_stops octets fields key cause e = filled_stops (read_outcome octets) (λ rows. Ok (seal_by rows fields key)) cause e

-- the value is a list of octets
pub seal_bytes : (octets : List ℕ) (fields : Fields) (key : List ℕ) (seal : Seal) → seal_of octets fields key ≡ Ok seal → IsBytes seal.value
unfolding seal_of
seal_bytes octets fields key seal e = go (read_outcome octets) e
  where
    go : (r : Result (List RowOf) ReadRefusal) → and_then (with_cause refusal.Filled r) (λ rows. Ok (seal_by rows fields key)) ≡ Ok seal → IsBytes seal.value
    go (Ok rows) k =
        let same : seal_by rows fields key ≡ seal = cc in
        subst (λ (s : Seal). IsBytes s.value) same (kept_bytes fields.mac key (canonical_signed_info rows fields) (value_bits fields.mac fields.bits))
    go (Err cause) k = absurd cc

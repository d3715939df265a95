use Rattle.std.proofs.Common.{◌≡◌, ◌∙◌, ◌*◌, ◌≤◌, ℕ, List, length, min, ap, arith}
use Rattle.std.specs.Prelude.{bytes_eq}
use Rattle.std.proofs.lemmas.Bool.Decides.{same_from_decides}
use Rattle.std.proofs.lemmas.Slice.Eq.{bytes_eq-Decides}
use Rattle.digests_hmac.specs.Hash.{digest_size, hash_of, hmac_of, kept}
use Rattle.digests_hmac.proofs.Lengths.{length-hmac_of}
use Rattle.dsig_fields.specs.Holds.{is_mac_value, value_bits}
use Rattle.transforms.specs.Outcome.{canonical_signed_info}
use Rattle.core_validate.proofs.SignatureLaws.{bits_within, form_of_set, info_too_long, info_within}
use Rattle.core_validate.proofs.signature.value_stands.Goals as goal

pub returns-then-form-gt-OCTET_LIMIT : goal.returns-then-form-gt-OCTET_LIMIT
returns-then-form-gt-OCTET_LIMIT c =
    let rows = c.args.doc.now in let fields = c.args.fields.now in
    let form = form_of_set rows fields c.in_ok-set.set c.in_ok-set.ensures.document c.in_ok-set.ensures.members in
    let size : c.in_ok-form.form.length ≡ min (length (canonical_signed_info rows fields)) 18446744073709551615 =
    c.in_ok-form.ensures.length ∙ ap (λ (t : List ℕ). min (length t) 18446744073709551615) form in
    info_too_long rows fields c.args.key.now (omega arith)

pub hmac_matches-requires-clause-fits : goal.hmac_matches-requires-clause-fits
hmac_matches-requires-clause-fits c =
    let fields = c.args.fields.now in
    let size : length c.in_ok-form.form.mac ≡ digest_size (hash_of fields.mac) = ap (λ (t : List ℕ). length t) c.in_ok-form.ensures.mac ∙ length-hmac_of fields.mac _ _ in
    let within : value_bits fields.mac fields.bits ≤ 8 * digest_size (hash_of fields.mac) = bits_within fields.mac fields.bits c.requires.fit.bits in
    let bits : c.value_bits-bits.result ≡ value_bits fields.mac fields.bits = c.value_bits-bits.ensures in
    omega arith

pub returns : goal.returns
returns c =
    let rows = c.args.doc.now in let fields = c.args.fields.now in let key = c.args.key.now in
    let form = form_of_set rows fields c.in_ok-set.set c.in_ok-set.ensures.document c.in_ok-set.ensures.members in
    let size : c.in_ok-form.form.length ≡ min (length (canonical_signed_info rows fields)) 18446744073709551615 =
    c.in_ok-form.ensures.length ∙ ap (λ (t : List ℕ). min (length t) 18446744073709551615) form in
    let full : c.in_ok-form.form.mac ≡ hmac_of fields.mac key (canonical_signed_info rows fields) = c.in_ok-form.ensures.mac ∙ ap (hmac_of fields.mac key) form in
    let matches = same_from_decides c.hmac_matches.result _ c.hmac_matches.ensures (bytes_eq-Decides c.bytes.result.now (kept c.in_ok-form.form.mac c.value_bits-bits.result)) in
    let stands : c.hmac_matches.result ≡ is_mac_value fields.mac (value_bits fields.mac fields.bits) key (canonical_signed_info rows fields) fields.value =
    matches
    ∙ ap (λ (t : List ℕ). bytes_eq t (kept c.in_ok-form.form.mac c.value_bits-bits.result)) c.bytes.ensures
    ∙ ap (λ (t : List ℕ). bytes_eq fields.value (kept t c.value_bits-bits.result)) full
    ∙ ap (λ (n : ℕ). bytes_eq fields.value (kept (hmac_of fields.mac key (canonical_signed_info rows fields)) n)) c.value_bits-bits.ensures in
    info_within rows fields key c.hmac_matches.result (omega arith) stands

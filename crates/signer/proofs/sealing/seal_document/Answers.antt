use Rattle.std.proofs.Common.{◌≡◌, ◌∙◌, ◌*◌, ◌≤◌, ℕ, List, length, map, ap, arith, encode_utf8_all}
use Rattle.node_sets.specs.Members.{has}
use Rattle.c14n_methods.specs.Methods.{canonical_form}
use Rattle.digests_hmac.specs.Hash.{digest_size, hash_of}
use Rattle.digests_hmac.proofs.Lengths.{length-hmac_of}
use Rattle.dsig_fields.specs.Holds.{value_bits}
use Rattle.signer.proofs.SealLaws.{bits_within, form_of_set, seal_is}
use Rattle.signer.proofs.sealing.seal_document.Goals as goal

pub kept-requires : goal.kept-requires
kept-requires c =
    let fields = c.args.fields.now in
    let size : length c.in_ok-mac.mac ≡ digest_size (hash_of fields.mac) = ap (λ (t : List ℕ). length t) c.in_ok-mac.ensures ∙ length-hmac_of fields.mac _ _ in
    let within : value_bits fields.mac fields.bits ≤ 8 * digest_size (hash_of fields.mac) = bits_within fields.mac fields.bits c.requires.bits in
    let bits : c.value_bits.result ≡ value_bits fields.mac fields.bits = c.value_bits.ensures in
    omega (arith, size, within, bits)

pub returns : goal.returns
returns c =
    let rows = c.args.doc.now in let fields = c.args.fields.now in let set = c.in_ok-set.set in
    let form = canonical_form fields.canon (map encode_utf8_all fields.prefixes) set.rows (has set.members) in
    seal_is rows fields c.args.key.now form c.in_ok-mac.mac c.in_ok-value.value c.value_bits.result c.in_ok-fits.fits
    (form_of_set rows fields set c.in_ok-set.ensures.document c.in_ok-set.ensures.members)
    c.in_ok-mac.ensures c.value_bits.ensures c.in_ok-value.ensures c.in_ok-fits.ensures

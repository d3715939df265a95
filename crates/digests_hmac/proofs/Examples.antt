-- Examples of the definitions, computed: a wrong pad, a wrong order or a wrong digit does not check.
use Rattle.std.proofs.Common.{◌≡◌, [], ◌∷◌, ◌++◌, Ok, Err, codes, refl}
use Rattle.sha1.specs.Sha1.{first_words, schedule, rounds, compress, hash_after, digest_bytes, sha1}
use Rattle.sig_base.specs.declared.MacMethod.TheVariants.{HmacSha1}
use Rattle.std.specs.Str.{chars, is_utf8}
use Rattle.std.specs.Char.{encode_utf8}
use Rattle.digests_hmac.specs.Hash.{hmac_of}
use Rattle.digests_hmac.specs.KeyLines.{octets_of_digits}
use Rattle.sig_base.specs.Lines.{lines_of, lines_read}
use Rattle.digests_hmac.specs.Keys.{keys_of, line_read}
use Rattle.digests_hmac.specs.declared.key_table.KeyFault.TheVariants.{BadLine, Repeated}

-- the second test case of RFC 2202 section 3
pub hmac_of_nothing : hmac_of HmacSha1 (codes "Jefe") (codes "what do ya want for nothing?") ≡ 239 ∷ 252 ∷ 223 ∷ 106 ∷ 229 ∷ 235 ∷ 47 ∷ 162 ∷ 210 ∷ 116 ∷ 22 ∷ 213 ∷ 241 ∷ 132 ∷ 223 ∷ 156 ∷ 37 ∷ 154 ∷ 124 ∷ 121 ∷ []
unfolding first_words schedule rounds compress hash_after digest_bytes sha1 hmac_of
hmac_of_nothing = refl

-- a comment line is counted, and a line that has no name is refused
pub key_files : (keys_of (codes "# k" ++ 10 ∷ codes "4a k" ++ 13 ∷ 10 ∷ []) ≡ Ok (record { line = 2; name = codes "k"; octets = 74 ∷ [] } ∷ []))
    × (keys_of (codes "4a" ++ 10 ∷ []) ≡ Err (BadLine 1)) × (keys_of (codes "4a k" ++ 10 ∷ codes "4b k") ≡ Err (Repeated 2 1))
unfolding chars is_utf8 encode_utf8 keys_of lines_of lines_read line_read octets_of_digits
key_files = (refl, refl, refl)

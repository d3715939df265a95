-- Verdicts, computed.
use Rattle.std.proofs.Common.{◌≡◌, refl, ℕ, true, false, List, [], ◌∷◌, Some}
use Rattle.std.specs.Prelude.{codes}
use Rattle.sig_base.specs.declared.method.CanonMethod.TheVariants.{C10}
use Rattle.sig_base.specs.declared.method.MacMethod.TheVariants.{HmacSha256}
use Rattle.dsig_fields.specs.Holds.{digest_holds}
use Rattle.dsig_fields.specs.Verdicts.{ShortTruncation, DigestsDiffer, Valid, differing, verdict_by, verdict_on_digests}
use Rattle.dsig_fields.specs.declared.fields.Reference.{Reference}

-- of three digests the second differs
module _ (one two three : Reference) (a b c : List ℕ)
    (first : digest_holds one.digest a one.expected ≡ true) (second : digest_holds two.digest b two.expected ≡ false) (third : digest_holds three.digest c three.expected ≡ true) where
  numbers : differing 1 (one ∷ two ∷ three ∷ []) (a ∷ b ∷ c ∷ []) ≡ 2 ∷ []
  unfolding differing
  numbers = rw (first, second, third) refl

-- where a digest differs no view is handed on
digests : (verdict_on_digests (codes "ab" ∷ [] ∷ []) [] ≡ Valid (codes "ab" ∷ [] ∷ [])) × (verdict_on_digests (codes "ab" ∷ [] ∷ []) (2 ∷ []) ≡ DigestsDiffer (2 ∷ []))
digests = (refl, refl)

-- 40 bits of an HMAC-SHA256 are too few, whatever the value is
short : verdict_by (record { canon = C10; prefixes = []; mac = HmacSha256; bits = Some 40; references = [] }) [] [] [] [] ≡ ShortTruncation 40
short = refl

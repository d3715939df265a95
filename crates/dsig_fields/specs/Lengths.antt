-- The content of HMACOutputLength: XML Signature 1.1, section 4.4.2, and an integer of XML Schema, part 2, section 3.3.13, without a sign.
use Rattle.std.specs.Prelude.{ℕ, ◌+◌, ◌-◌, ◌*◌, ◌%◌, ◌==◌, Bool, ◌&&◌, nat_le, nat_lt, List, [], ◌∷◌, length, reverse, Option, Some, None, if◌then◌else◌}
use Rattle.std.specs.List.{list_all}
use Rattle.sig_base.specs.Space.{is_space}
use Rattle.sig_base.specs.declared.method.MacMethod.{MacMethod}
use Rattle.digests_hmac.specs.Hash.{hash_of, digest_size}

-- the text from its first octet that is no white space on
unfoldable pub behind_space : List ℕ → List ℕ
behind_space [] = []
behind_space (c ∷ rest) = if is_space c then behind_space rest else c ∷ rest

-- the text without the white space at both ends
abbrev pub trimmed : List ℕ → List ℕ
trimmed text = reverse (behind_space (reverse (behind_space text)))

abbrev pub is_digit : ℕ → Bool
is_digit c = nat_le 48 c && nat_le c 57

-- the number that decimal digits spell behind a number that is read already
unfoldable pub number_behind : ℕ → List ℕ → ℕ
number_behind n [] = n
number_behind n (c ∷ rest) = number_behind (10 * n + (c - 48)) rest

-- the number that a text of one or more decimal digits spells
abbrev pub decimal_in : List ℕ → Option ℕ
decimal_in text = if nat_lt 0 (length text) && list_all is_digit text then Some (number_behind 0 text) else None

-- so many bits may be kept of an HMAC: whole octets, and no more than it has
abbrev pub may_keep : MacMethod → ℕ → Bool
may_keep mac bits = (bits % 8 == 0) && nat_le bits (8 * digest_size (hash_of mac))

abbrev pub kept_if : MacMethod → Option ℕ → Option ℕ
kept_if mac None = None
kept_if mac (Some bits) = if may_keep mac bits then Some bits else None

-- the bits that the content gives
unfoldable pub length_in : MacMethod → List ℕ → Option ℕ
length_in mac text = kept_if mac (decimal_in (trimmed text))

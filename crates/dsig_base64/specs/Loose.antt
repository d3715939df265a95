-- Base64 (RFC 4648 section 4) as functions on lists of octets: written without white space, and read with it
use Rattle.std.specs.Prelude.{◌≡◌, ◌↔◌, ℕ, not, List, filter, Option, Some}
use Rattle.base64.specs.Engines.{standard}
use Rattle.base64.specs.GeneralPurpose.{encode_of, decoded_of}
use Rattle.sig_base.specs.Space.{is_space}

-- the text less its white space
abbrev pub without_space : List ℕ → List ℕ
without_space text = filter (λ octet. not (is_space octet)) text

-- the base64 of the octets, with full padding (RFC 4648 section 4)
unfoldable pub base64_of : List ℕ → List ℕ
base64_of octets = encode_of standard octets

-- the octets that a text spells, its white space left out; none where what is left is not base64 with full padding and
-- zero spare bits (RFC 4648 sections 3.2, 3.5 and 4)
unfoldable pub octets_in : List ℕ → Option (List ℕ)
octets_in text = decoded_of standard (without_space text)

-- a text of octets spells octets exactly where it is their base64, white space aside (RFC 4648 section 4)
abbrev pub SpellsExactly : List ℕ → List ℕ → Type 0
SpellsExactly text octets = (octets_in text ≡ Some octets) ↔ (without_space text ≡ base64_of octets)

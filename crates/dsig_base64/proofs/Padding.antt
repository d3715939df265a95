use Rattle.std.proofs.Common.{◌≡◌, ℕ, ◌+◌, ◌*◌, ◌%◌, ◌/◌, List, length, replicate, ap, ◌∙◌, arith, length-append}
use Rattle.std.proofs.lemmas.List.{length-replicate}
use Rattle.base64.specs.Engines.{standard}
use Rattle.base64.specs.GeneralPurpose.{encode_of}
use Rattle.base64.specs.Rfc4648.{encode_symbols, unpadded_len, padding_len}
use Rattle.base64.proofs.RoundTrip.{length-encode_symbols}
use Rattle.dsig_base64.specs.Loose.{base64_of}

pub length-encode_of : (b : List ℕ) → length (encode_of standard b) ≡ unpadded_len (length b) + padding_len (length b)
length-encode_of b =
    length-append (encode_symbols standard.encode_table b) (replicate {A = ℕ} (padding_len (length b)) 61)
    ∙ ap (λ (n : ℕ). n + length (replicate {A = ℕ} (padding_len (length b)) 61)) (length-encode_symbols standard.encode_table b)
    ∙ ap (λ (n : ℕ). unpadded_len (length b) + n) (length-replicate (padding_len (length b)) 61)

-- a text with full padding has groups of four
pub in_fours : (b : List ℕ) → length (encode_of standard b) % 4 ≡ 0
in_fours b = let size = length-encode_of b in omega arith

-- four octets for each begun group of three
pub length-base64_of : (b : List ℕ) → length (base64_of b) ≡ 4 * ((length b + 2) / 3)
unfolding base64_of
length-base64_of b = let size = length-encode_of b in omega arith

-- Lines of a key file: the key in hexadecimal digits, one space, the key's name
use Rattle.std.specs.Prelude.{◌==◌, ℕ, ◌+◌, ◌-◌, ◌*◌, ◌%◌, Bool, ◌&&◌, nat_le, List, [], ◌∷◌, length, Option, Some, None, is_some, if◌then◌else◌}
use Rattle.std.specs.Option.{option_map_or}
use Rattle.std.specs.List.{list_all, before_first, after_first}
use Rattle.sig_base.specs.Lines.{has_blank, have_no_controls, is_blank}

-- a number from one to another
abbrev pub is_between : ℕ → ℕ → ℕ → Bool
is_between low high n = nat_le low n && nat_le n high

-- the value of a hexadecimal digit, of either case (RFC 4648 section 8, read without regard to case)
abbrev pub digit_value : ℕ → Option ℕ
digit_value c =
    if is_between 48 57 c then Some (c - 48)
    else (if is_between 65 70 c then Some (c - 55)
    else (if is_between 97 102 c then Some (c - 87) else None))

-- a hexadecimal digit
abbrev pub is_digit : ℕ → Bool
is_digit c = is_some (digit_value c)

-- the value of a digit, and 0 of what is none
abbrev pub value_of : ℕ → ℕ
value_of c = option_map_or (λ v. v) (digit_value c) 0

-- the octets that pairs of digits spell, the high digit first (RFC 4648 section 8)
unfoldable pub octets_of_digits : List ℕ → List ℕ
octets_of_digits [] = []
octets_of_digits (high ∷ []) = []
octets_of_digits (high ∷ low ∷ rest) = (16 * value_of high + value_of low) ∷ octets_of_digits rest

-- a key is 1 to 4,096 octets, two digits each
abbrev pub is_key_digits : List ℕ → Bool
is_key_digits digits = is_between 2 8192 (length digits) && ((length digits % 2 == 0) && list_all is_digit digits)

-- a name is 1 to 256 octets, none of them a control character below the space
abbrev pub is_key_name : List ℕ → Bool
is_key_name name = is_between 1 256 (length name) && have_no_controls name

-- digits, one space, a name
abbrev pub is_key_line : List ℕ → Bool
is_key_line line = has_blank line && (is_key_digits (before_first is_blank line) && is_key_name (after_first is_blank line))

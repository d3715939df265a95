-- NCNames and QNames (Namespaces in XML 1.0 §3 and §4), of texts as UTF-8 octets.
use Rattle.std.specs.Prelude.{◌≡◌, ◌↔◌, ◌⊎◌, ◌++◌, ℕ, Bool, true, false, ◌&&◌, ◌==◌, not, List, [], ◌∷◌, Option, Some, None, if◌then◌else◌, length}
use Rattle.std.specs.List.{list_all, position_or_len, before_first, after_first}
use Rattle.std.specs.Str.{chars}
use Rattle.xml_names.specs.Characters.{is_name_start, is_name_char}

-- the colon
abbrev pub is_colon : ℕ → Bool
is_colon c = c == 58

-- a NameChar other than the colon
abbrev pub is_part_char : ℕ → Bool
is_part_char c = is_name_char c && not (is_colon c)

-- a NameStartChar other than the colon
abbrev pub is_part_start : ℕ → Bool
is_part_start c = is_name_start c && not (is_colon c)

-- the first character is such a one
abbrev pub begins_part : List ℕ → Bool
begins_part [] = false
begins_part (c ∷ cs) = is_part_start c

-- an NCName, that is a Name without a colon (Namespaces in XML 1.0 §3)
unfoldable pub is_ncname : List ℕ → Bool
is_ncname text = begins_part (chars text) && list_all is_part_char (chars text)

-- the prefix and the local name of a QName, cut at the first colon (Namespaces in XML 1.0 §4)
unfoldable pub qname_of : List ℕ → Option (List ℕ × List ℕ)
qname_of text =
    if position_or_len is_colon text == length text then (if is_ncname text then Some ([], text) else None)
    else (if is_ncname (before_first is_colon text) && is_ncname (after_first is_colon text)
    then Some (before_first is_colon text, after_first is_colon text) else None)

-- the text is an NCName, without a prefix
pub record IsUnprefixed (text prefix local : List ℕ) : Type 0 where
  pub no_prefix : prefix ≡ []
  pub whole : text ≡ local
  pub local_part : is_ncname local ≡ true

-- the text is two NCNames with one colon between them
pub record IsPrefixed (text prefix local : List ℕ) : Type 0 where
  pub joined : text ≡ prefix ++ 58 ∷ local
  pub prefix_part : is_ncname prefix ≡ true
  pub local_part : is_ncname local ≡ true

-- the text is a QName of that prefix and that local name (Namespaces in XML 1.0 §4)
abbrev pub IsQName : List ℕ → List ℕ → List ℕ → Type 0
IsQName text prefix local = IsUnprefixed text prefix local ⊎ IsPrefixed text prefix local

-- a text is split just as it is a QName
abbrev pub SplitsQNames : List ℕ → Type 0
SplitsQNames text = (prefix local : List ℕ) → (qname_of text ≡ Some (prefix, local)) ↔ IsQName text prefix local

-- What a value spells. This project's own command line.
use Rattle.std.specs.Prelude.{◌&&◌, ◌==◌, ℕ, Bool, false, nat_le, nat_lt, List, [], ◌∷◌, length, Option, Some, None, if◌then◌else◌, codes, bytes_eq, find}
use Rattle.std.specs.Char.{digit_value}
use Rattle.std.specs.List.{list_all}
use Rattle.std.specs.Str.{chars}
use Rattle.std.specs.Str.Parse.{digits_value}
use Rattle.sig_base.specs.Methods.{identified}
use Rattle.sig_base.specs.declared.method.CanonMethod.{CanonMethod}
use Rattle.sig_base.specs.declared.method.CanonMethod.TheVariants.{C10, C10Comments, C11, C11Comments, Exc, ExcComments}
use Rattle.sig_base.specs.declared.method.DigestMethod.{DigestMethod}
use Rattle.sig_base.specs.declared.method.DigestMethod.TheVariants.{Sha1, Sha224, Sha256, Sha384, Sha512}
use Rattle.sig_base.specs.declared.method.MacMethod.{MacMethod}
use Rattle.sig_base.specs.declared.method.MacMethod.TheVariants.{HmacSha1, HmacSha224, HmacSha256, HmacSha384, HmacSha512}
use Rattle.xml_names.specs.Characters.{is_char}

-- ---- numbers

abbrev pub between : (least most n : ℕ) → Option ℕ
between least most n = if nat_le least n && nat_le n most then Some n else None

abbrev pub begins_above_zero : List ℕ → Bool
begins_above_zero [] = false
begins_above_zero (c ∷ rest) = nat_le 49 c && nat_le c 57

abbrev pub is_digit : ℕ → Bool
is_digit c = nat_lt (digit_value c) 10

-- a decimal number without a sign or a leading zero, in a range
abbrev pub number_between : (least most : ℕ) → List ℕ → Option ℕ
number_between least most text = if begins_above_zero text && list_all is_digit text then between least most (digits_value 10 text)
    else None

-- ---- names

-- the name of a key: at most 256 octets, of characters that XML permits (XML 1.0, section 2.2)
abbrev pub is_key_name : List ℕ → Bool
is_key_name text = nat_le (length text) 256 && list_all is_char (chars text)

abbrev pub key_name : List ℕ → Option (List ℕ)
key_name text = if is_key_name text then Some (chars text) else None

-- ---- methods

abbrev pub canon_word : CanonMethod → List ℕ
canon_word C10 = codes "c14n10"
canon_word C10Comments = codes "c14n10-comments"
canon_word C11 = codes "c14n11"
canon_word C11Comments = codes "c14n11-comments"
canon_word Exc = codes "exc"
canon_word ExcComments = codes "exc-comments"

abbrev pub mac_word : MacMethod → List ℕ
mac_word HmacSha1 = codes "hmac-sha1"
mac_word HmacSha224 = codes "hmac-sha224"
mac_word HmacSha256 = codes "hmac-sha256"
mac_word HmacSha384 = codes "hmac-sha384"
mac_word HmacSha512 = codes "hmac-sha512"

abbrev pub digest_word : DigestMethod → List ℕ
digest_word Sha1 = codes "sha1"
digest_word Sha224 = codes "sha224"
digest_word Sha256 = codes "sha256"
digest_word Sha384 = codes "sha384"
digest_word Sha512 = codes "sha512"

abbrev pub canon_named : List ℕ → Option CanonMethod
canon_named text = identified canon_word text (C10 ∷ C10Comments ∷ C11 ∷ C11Comments ∷ Exc ∷ ExcComments ∷ [])

abbrev pub mac_named : List ℕ → Option MacMethod
mac_named text = identified mac_word text (HmacSha1 ∷ HmacSha224 ∷ HmacSha256 ∷ HmacSha384 ∷ HmacSha512 ∷ [])

abbrev pub digest_named : List ℕ → Option DigestMethod
digest_named text = identified digest_word text (Sha1 ∷ Sha224 ∷ Sha256 ∷ Sha384 ∷ Sha512 ∷ [])

-- NCNames of ASCII characters.
use Rattle.std.proofs.Common.{◌≡◌, ℕ, ◌<◌, ◌⊎◌, inl, inr, Bool, true, false, ◌||◌, List, [], ◌∷◌, refl, subst, arith}
use Rattle.std.specs.Prelude.{◌==◌}
use Rattle.std.specs.List.{list_all}
use Rattle.std.specs.Str.{chars, IsAscii}
use Rattle.std.proofs.lemmas.Bool.{and_parts}
use Rattle.std.proofs.lemmas.Bool.Decides.{nat_tests}
use Rattle.std.proofs.lemmas.Str.{chars-IsAscii}
use Rattle.std.proofs.lemmas.Str.Ascii.{IsAscii-cons, IsAscii-nil}
use Rattle.xml_names.specs.Characters.{Range, one, span, in_range, in_some, more_name_ranges, is_name_char, is_name_start}
use Rattle.xml_names.specs.Names.{is_part_char, is_part_start, is_ncname}
use Rattle.xml_names.specs.Code.Names.{ascii_starts, ascii_parts, is_ascii_ncname}

or_right : (a b : Bool) → b ≡ true → (a || b) ≡ true
or_right true b h = refl
or_right false b h = h

or_true : (a b : Bool) → (a || b) ≡ true → (a ≡ true) ⊎ (b ≡ true)
or_true true b e = inl refl
or_true false b e = inr e

in_first : (r : Range) (rs : List Range) (c : ℕ) → in_range r c ≡ true → in_some (r ∷ rs) c ≡ true
in_first r rs c h = rw h refl

in_later : (r : Range) (rs : List Range) (c : ℕ) → in_some rs c ≡ true → in_some (r ∷ rs) c ≡ true
in_later r rs c h = or_right (in_range r c) (in_some rs c) h

-- the ranges above the ASCII characters
abbrev high_starts : List Range
high_starts = span 192 214 ∷ span 216 246 ∷ span 248 767 ∷ span 880 893 ∷ span 895 8191 ∷ span 8204 8205 ∷ span 8304 8591 ∷ span 11264 12271 ∷ span 12289 55295 ∷ span 63744 64975 ∷ span 65008 65533 ∷ span 65536 983039 ∷ []

abbrev high_more : List Range
high_more = one 183 ∷ span 768 879 ∷ span 8255 8256 ∷ []

either : (P : Type 0) (r : Range) (rs : List Range) (c : ℕ) → (in_range r c ≡ true → P) → (in_some rs c ≡ true → P) → in_some (r ∷ rs) c ≡ true → P
either P r rs c f g h =
    elim (or_true (in_range r c) (in_some rs c) h) [
      | inl a ↦ f a
      | inr b ↦ g b
    ]

capital : (c : ℕ) → in_range (span 65 90) c ≡ true → is_name_start c ≡ true
unfolding is_name_start
capital c h = in_later (one 58) (span 65 90 ∷ one 95 ∷ span 97 122 ∷ high_starts) c (in_first (span 65 90) (one 95 ∷ span 97 122 ∷ high_starts) c h)

low_line : (c : ℕ) → in_range (one 95) c ≡ true → is_name_start c ≡ true
unfolding is_name_start
low_line c h = in_later (one 58) (span 65 90 ∷ one 95 ∷ span 97 122 ∷ high_starts) c (in_later (span 65 90) (one 95 ∷ span 97 122 ∷ high_starts) c (in_first (one 95) (span 97 122 ∷ high_starts) c h))

small : (c : ℕ) → in_range (span 97 122) c ≡ true → is_name_start c ≡ true
unfolding is_name_start
small c h = in_later (one 58) (span 65 90 ∷ one 95 ∷ span 97 122 ∷ high_starts) c (in_later (span 65 90) (one 95 ∷ span 97 122 ∷ high_starts) c (in_later (one 95) (span 97 122 ∷ high_starts) c (in_first (span 97 122) high_starts c h)))

start_goes_on : (c : ℕ) → is_name_start c ≡ true → is_name_char c ≡ true
unfolding is_name_char
start_goes_on c h = rw h refl

goes_on : (c : ℕ) → in_some more_name_ranges c ≡ true → is_name_char c ≡ true
unfolding is_name_char
goes_on c h = or_right (is_name_start c) (in_some more_name_ranges c) h

hyphen : (c : ℕ) → in_range (one 45) c ≡ true → is_name_char c ≡ true
hyphen c h = goes_on c (in_first (one 45) (one 46 ∷ span 48 57 ∷ high_more) c h)

full_stop : (c : ℕ) → in_range (one 46) c ≡ true → is_name_char c ≡ true
full_stop c h = goes_on c (in_later (one 45) (one 46 ∷ span 48 57 ∷ high_more) c (in_first (one 46) (span 48 57 ∷ high_more) c h))

digit : (c : ℕ) → in_range (span 48 57) c ≡ true → is_name_char c ≡ true
digit c h = goes_on c (in_later (one 45) (one 46 ∷ span 48 57 ∷ high_more) c (in_later (one 46) (span 48 57 ∷ high_more) c (in_first (span 48 57) high_more c h)))

none : (P : Type 0) (c : ℕ) → in_some [] c ≡ true → P
none P c h = absurd cc

starts : (c : ℕ) → in_some ascii_starts c ≡ true → is_name_start c ≡ true
starts c h =
    let P = is_name_start c ≡ true in
    either P (span 65 90) (one 95 ∷ span 97 122 ∷ []) c (capital c)
    (either P (one 95) (span 97 122 ∷ []) c (low_line c)
    (either P (span 97 122) [] c (small c) (none P c))) h

parts : (c : ℕ) → in_some ascii_parts c ≡ true → is_name_char c ≡ true
parts c h =
    let P = is_name_char c ≡ true in
    either P (span 65 90) (one 95 ∷ span 97 122 ∷ one 45 ∷ one 46 ∷ span 48 57 ∷ []) c (λ a. start_goes_on c (capital c a))
    (either P (one 95) (span 97 122 ∷ one 45 ∷ one 46 ∷ span 48 57 ∷ []) c (λ a. start_goes_on c (low_line c a))
    (either P (span 97 122) (one 45 ∷ one 46 ∷ span 48 57 ∷ []) c (λ a. start_goes_on c (small c a))
    (either P (one 45) (one 46 ∷ span 48 57 ∷ []) c (hyphen c)
    (either P (one 46) (span 48 57 ∷ []) c (full_stop c)
    (either P (span 48 57) [] c (digit c) (none P c)))))) h

part_ascii : (c : ℕ) → in_some ascii_parts c ≡ true → c < 128
part_ascii c h = grind (arith, nat_tests)

start_ascii : (c : ℕ) → in_some ascii_starts c ≡ true → c < 128
start_ascii c h = grind (arith, nat_tests)

part_no_colon : (c : ℕ) → in_some ascii_parts c ≡ true → (c == 58) ≡ false
part_no_colon c h = grind (arith, nat_tests)

start_no_colon : (c : ℕ) → in_some ascii_starts c ≡ true → (c == 58) ≡ false
start_no_colon c h = grind (arith, nat_tests)

part_char : (c : ℕ) → in_some ascii_parts c ≡ true → is_part_char c ≡ true
part_char c h = rw (parts c h, part_no_colon c h) refl

start_char : (c : ℕ) → in_some ascii_starts c ≡ true → is_part_start c ≡ true
start_char c h = rw (starts c h, start_no_colon c h) refl

start_part : (c : ℕ) → in_some ascii_starts c ≡ true → is_part_char c ≡ true
start_part c h = rw (start_goes_on c (starts c h), start_no_colon c h) refl

all_ascii : (cs : List ℕ) → list_all (in_some ascii_parts) cs ≡ true → IsAscii cs
all_ascii [] h = IsAscii-nil
all_ascii (c ∷ cs) h = let p = and_parts _ _ h in IsAscii-cons c cs (part_ascii c p.0) (all_ascii cs p.1)

all_parts : (cs : List ℕ) → list_all (in_some ascii_parts) cs ≡ true → list_all is_part_char cs ≡ true
all_parts [] h = refl
all_parts (c ∷ cs) h = let p = and_parts _ _ h in rw (part_char c p.0, all_parts cs p.1) refl

ascii_is : (bs : List ℕ) → is_ascii_ncname bs ≡ true → true ≡ is_ncname bs
unfolding is_ncname
ascii_is [] h = absurd cc
ascii_is (c ∷ cs) h =
    let p = and_parts _ _ h in
    let characters : chars (c ∷ cs) ≡ c ∷ cs = chars-IsAscii (c ∷ cs) (IsAscii-cons c cs (start_ascii c p.0) (all_ascii cs p.1)) in
    rw (characters, start_char c p.0, start_part c p.0, all_parts cs p.1) refl

pub ascii_ncname : (text octets : List ℕ) → octets ≡ text → is_ascii_ncname octets ≡ true → true ≡ is_ncname text
ascii_ncname text octets same h = subst (λ t. true ≡ is_ncname t) same (ascii_is octets h)

-- A joined value is a text where its base and the value below are texts: values are cut beside octets of ASCII alone.
use Rattle.std.proofs.Common.{◌≡◌, ℕ, zero, suc, ◌+◌, ◌<◌, ◌≤◌, Bool, true, false, not, ◌&&◌, eqb, ltb, List, [], ◌∷◌, ◌++◌, length, take, drop, get_or, reverse, Option, Some, None, refl, sym, ap, subst, ◌∙◌, arith, inl, inr, take-append-drop, take_at, length-append, length-drop}
use Rattle.std.specs.Prelude.{codes, if◌then◌else◌, is_some}
use Rattle.std.specs.List.{list_all, flat_map, position_or_len}
use Rattle.std.specs.Str.{chars, IsUtf8, IsCharBoundary}
use lib.Utf8.{scalar, scalars}
use Rattle.std.proofs.lemmas.Bool.{cases_lt, false≢true, and_parts, and_from, eqb-true, ltb-true}
use Rattle.std.proofs.lemmas.Str.{IsUtf8-take, IsUtf8-drop, IsCharBoundary-end, IsCharBoundary-before_ascii, IsCharBoundary-after_ascii, chars-append, encodes-chars}
use Rattle.std.proofs.lemmas.List.Sums.{passes_at_first, prefix_len-le-length}
use Rattle.std.proofs.Math.ListN.{get_or-append}
use Rattle.std.proofs.Math.Seq.{get_or-append_seam}
use mathlib.Core.List.{reverse_aux}
use Rattle.xml_names.specs.Characters.{is_char}
use Rattle.xml_syntax.specs.Characters.{Passes}
use Rattle.xml_syntax.proofs.Runs.{or_true}
use Rattle.c14n_bases.specs.Join.{is_one_of, before, from_first, begins, has_scheme, scheme_of, behind_scheme, authority_of, behind_authority, query_of, Parts, cut, is_slash, segments, is_same, is_up, upwards, add, added, after_slash, between_slashes, path_of, last_segment, directory, is_absolute, is_open, clean, is_dots, base_path, relative_path, joined_path, first_some, joined_query, below, scheme_octets, authority_octets, query_octets, cleaned_value, join, is_empty}
use Rattle.c14n_bases.proofs.SegmentLemmas.{segments_one, segments_first, directory-last, directory-form}
use Rattle.c14n_listing.specs.Tidy.{letters, IsText}
use Rattle.c14n_listing.proofs.Letters.{zeros, utf8_zeros, char_scalar}
use Rattle.c14n_listing.proofs.Again.{text_both}

-- ---- a text that is cut

scalars_passed : (cs : List ℕ) → Passes is_char (zeros cs) → scalars cs ≡ true
scalars_passed [] h = refl
scalars_passed (c ∷ cs) h = and_from (scalar c) (scalars cs) (char_scalar c h.0) (scalars_passed cs h.1)

pub text_utf8 : (w : List ℕ) → IsText w → IsUtf8 w
text_utf8 w h = (chars w, (scalars_passed (chars w) h.0, sym (h.1 ∙ utf8_zeros (chars w))))

utf8_text : (w : List ℕ) → IsUtf8 w → Passes is_char (letters w) → IsText w
utf8_text w u h = (h, sym (utf8_zeros (chars w) ∙ encodes-chars w u))

front_passes : (a b : List ℕ) → Passes is_char (zeros (a ++ b)) → Passes is_char (zeros a)
front_passes [] b h = tt
front_passes (c ∷ a) b h = (h.0, front_passes a b h.1)

rest_passes : (a b : List ℕ) → Passes is_char (zeros (a ++ b)) → Passes is_char (zeros b)
rest_passes [] b h = h
rest_passes (c ∷ a) b h = rest_passes a b h.1

text_parts : (a b : List ℕ) → IsUtf8 a → IsUtf8 b → IsText (a ++ b) → IsText a × IsText b
text_parts a b u v h =
    let p : Passes is_char (zeros (chars a ++ chars b)) = subst (λ (cs : List ℕ). Passes is_char (zeros cs)) (chars-append a b u) h.0 in
    (utf8_text a u (front_passes (chars a) (chars b) p), utf8_text b v (rest_passes (chars a) (chars b) p))

cut_at : (w : List ℕ) (i : ℕ) → IsText w → IsCharBoundary w i → IsText (take i w) × IsText (drop i w)
cut_at w i h k =
    let u = text_utf8 w h in
    text_parts (take i w) (drop i w) (IsUtf8-take w i u k) (IsUtf8-drop w i u k) (subst IsText (sym (take-append-drop i w)) h)

cut_behind : (w : List ℕ) (i : ℕ) → IsText w → i < length w → get_or w i 0 < 128 → IsText (take (i + 1) w) × IsText (drop (i + 1) w)
cut_behind w i h lt low = cut_at w (i + 1) h (IsCharBoundary-after_ascii w i (text_utf8 w h) lt low)

-- ---- octets at which values are cut

abbrev are_low : List ℕ → Bool
are_low stops = list_all (λ s. ltb s 128) stops

low_stop : (stops : List ℕ) (c : ℕ) → are_low stops ≡ true → is_one_of stops c ≡ true → c < 128
low_stop [] c low e = absurd (false≢true e)
low_stop (s ∷ stops) c low e =
    let p = and_parts (ltb s 128) (are_low stops) low in
    elim (or_true (eqb s c) (is_one_of stops c) e) [
      | inl here ↦ omega (arith, eqb-true s c here, ltb-true s 128 p.0)
      | inr later ↦ low_stop stops c p.1 later
    ]

first_boundary : (stops w : List ℕ) → are_low stops ≡ true → IsCharBoundary w (position_or_len (is_one_of stops) w)
first_boundary stops w low = elim (cases_lt (position_or_len (is_one_of stops) w) (length w)) [
  | inl within ↦ IsCharBoundary-before_ascii w (position_or_len (is_one_of stops) w) within
      (low_stop stops (get_or w (position_or_len (is_one_of stops) w) 0) low (passes_at_first (is_one_of stops) w 0 within))
  | inr past ↦
      let n : position_or_len (is_one_of stops) w ≡ length w = omega (arith, prefix_len-le-length (λ (c : ℕ). not (is_one_of stops c)) w) in
      subst (IsCharBoundary w) (sym n) (IsCharBoundary-end w)
]

-- what stands before the first of some octets, and from it on
before_text : (stops w : List ℕ) → are_low stops ≡ true → IsText w → IsText (before stops w)
before_text stops w low h = (cut_at w (position_or_len (is_one_of stops) w) h (first_boundary stops w low)).0

from_text : (stops w : List ℕ) → are_low stops ≡ true → IsText w → IsText (from_first stops w)
from_text stops w low h = (cut_at w (position_or_len (is_one_of stops) w) h (first_boundary stops w low)).1

-- what stands behind an octet, or two
behind_one : (c : ℕ) (w : List ℕ) → c < 128 → begins (c ∷ []) w ≡ true → IsText w → IsText (drop 1 w)
behind_one c [] low e h = absurd (false≢true e)
behind_one c (x ∷ w) low e h = let p = and_parts (eqb c x) true e in let same = eqb-true c x p.0 in (cut_behind (x ∷ w) 0 h (omega arith) (omega arith)).1

and_no : (b : Bool) → (b && false) ≡ false
and_no true = refl
and_no false = refl

behind_two : (w : List ℕ) → begins (codes "//") w ≡ true → IsText w → IsText (drop 2 w)
behind_two [] e h = absurd (false≢true e)
behind_two (x ∷ []) e h = absurd (false≢true (sym (and_no (eqb 47 x)) ∙ e))
behind_two (x ∷ (y ∷ w)) e h =
    let p = and_parts (eqb 47 x) (eqb 47 y && true) e in
    let q = and_parts (eqb 47 y) true p.1 in
    let same = eqb-true 47 y q.0 in
    (cut_behind (x ∷ (y ∷ w)) 1 h (omega arith) (omega arith)).1

-- ---- the parts of a value

abbrev IsMaybe : Option (List ℕ) → Type 0
IsMaybe None = Unit {0}
IsMaybe (Some w) = IsText w

record AreTexts (p : Parts) : Type 0 where
  scheme : IsMaybe p.scheme
  authority : IsMaybe p.authority
  path : IsText p.path
  query : IsMaybe p.query

scheme_text : (w : List ℕ) → IsText w → IsMaybe (scheme_of w)
scheme_text w h = by (has_scheme w)
  where
    by : (b : Bool) → IsMaybe (if b then Some (before (codes ":/?#") w) else None)
    by true = before_text (codes ":/?#") w refl h
    by false = tt

behind_scheme_text : (w : List ℕ) → IsText w → IsText (behind_scheme w)
behind_scheme_text w h = by (has_scheme w) refl
  where
    by : (b : Bool) → has_scheme w ≡ b → IsText (if b then drop 1 (from_first (codes ":/?#") w) else w)
    by true e =
        let p = and_parts (not (is_empty (before (codes ":/?#") w))) (begins (codes ":") (from_first (codes ":/?#") w)) e in
        behind_one 58 (from_first (codes ":/?#") w) (omega arith) p.1 (from_text (codes ":/?#") w refl h)
    by false e = h

authority_text : (w : List ℕ) → IsText w → IsMaybe (authority_of w)
authority_text w h = by (begins (codes "//") w) refl
  where
    by : (b : Bool) → begins (codes "//") w ≡ b → IsMaybe (if b then Some (before (codes "/?#") (drop 2 w)) else None)
    by true e = before_text (codes "/?#") (drop 2 w) refl (behind_two w e h)
    by false e = tt

behind_authority_text : (w : List ℕ) → IsText w → IsText (behind_authority w)
behind_authority_text w h = by (begins (codes "//") w) refl
  where
    by : (b : Bool) → begins (codes "//") w ≡ b → IsText (if b then from_first (codes "/?#") (drop 2 w) else w)
    by true e = from_text (codes "/?#") (drop 2 w) refl (behind_two w e h)
    by false e = h

query_text : (w : List ℕ) → IsText w → IsMaybe (query_of w)
query_text w h = by (begins (codes "?") w) refl
  where
    by : (b : Bool) → begins (codes "?") w ≡ b → IsMaybe (if b then Some (before (codes "#") (drop 1 w)) else None)
    by true e = before_text (codes "#") (drop 1 w) refl (behind_one 63 w (omega arith) e h)
    by false e = tt

cut_text : (w : List ℕ) → IsText w → AreTexts (cut w)
cut_text w h =
    let behind = behind_scheme_text w h in
    let rest = behind_authority_text (behind_scheme w) behind in
    record {
      scheme = scheme_text w h;
      authority = authority_text (behind_scheme w) behind;
      path = before_text (codes "?#") (behind_authority (behind_scheme w)) refl rest;
      query = query_text (from_first (codes "?#") (behind_authority (behind_scheme w))) (from_text (codes "?#") (behind_authority (behind_scheme w)) refl rest);
    }

-- ---- a path that is cleaned

abbrev Texts : List (List ℕ) → Type 0
Texts [] = Unit {0}
Texts (s ∷ more) = IsText s × Texts more

slash_low : (c : ℕ) → is_slash c ≡ true → c < 128
slash_low c e = low_stop (codes "/") c refl e

-- the first segment, and what stands behind it
first_segment : (w : List ℕ) → IsText w → position_or_len is_slash w < length w
    → IsText (take (position_or_len is_slash w) w) × IsText (drop (position_or_len is_slash w + 1) w)
first_segment w h within =
    let low = slash_low (get_or w (position_or_len is_slash w) 0) (passes_at_first is_slash w 0 within) in (
      (cut_at w (position_or_len is_slash w) h (IsCharBoundary-before_ascii w (position_or_len is_slash w) within low)).0,
      (cut_behind w (position_or_len is_slash w) h within low).1,
    )

segments_text : (fuel : ℕ) (w : List ℕ) → length w ≤ fuel → IsText w → Texts (segments w)
segments_text zero w le h = subst Texts (sym (segments_one w (omega arith))) (h, tt)
segments_text (suc fuel) w le h = elim (cases_lt (position_or_len is_slash w) (length w)) [
  | inr past ↦ subst Texts (sym (segments_one w (omega arith))) (h, tt)
  | inl within ↦
      let parts = first_segment w h within in
      subst Texts (sym (segments_first w (position_or_len is_slash w) refl within))
      (parts.0, segments_text fuel (drop (position_or_len is_slash w + 1) w) (omega (arith, length-drop (position_or_len is_slash w + 1) w)) parts.1)
]

slash_text : IsText (codes "/")
unfolding chars is_char lib.Utf8.encode
slash_text = ((refl, tt), refl)

up_text : IsText (codes "..")
unfolding chars is_char lib.Utf8.encode
up_text = ((refl, (refl, tt)), refl)

colon_text : IsText (codes ":")
unfolding chars is_char lib.Utf8.encode
colon_text = ((refl, tt), refl)

slashes_text : IsText (codes "//")
unfolding chars is_char lib.Utf8.encode
slashes_text = ((refl, (refl, tt)), refl)

question_text : IsText (codes "?")
unfolding chars is_char lib.Utf8.encode
question_text = ((refl, tt), refl)

nothing_text : IsText []
unfolding chars
nothing_text = (tt, refl)

upwards_text : (absolute : Bool) (kept : List (List ℕ)) → Texts kept → Texts (upwards absolute kept)
upwards_text true [] h = tt
upwards_text false [] h = (up_text, tt)
upwards_text absolute (s ∷ kept) h = by (is_up s) absolute
  where
    by : (b a : Bool) → Texts (if b then (if a then s ∷ kept else codes ".." ∷ s ∷ kept) else kept)
    by true true = h
    by true false = (up_text, h)
    by false a = h.1

add_text : (absolute : Bool) (kept : List (List ℕ)) (s : List ℕ) → Texts kept → IsText s → Texts (add absolute kept s)
add_text absolute kept s h k = by (is_same s) (is_up s)
  where
    by : (a b : Bool) → Texts (if a then kept else (if b then upwards absolute kept else s ∷ kept))
    by true b = h
    by false true = upwards_text absolute kept h
    by false false = (k, h)

added_text : (absolute : Bool) (kept segs : List (List ℕ)) → Texts kept → Texts segs → Texts (added absolute kept segs)
added_text absolute kept [] h k = h
added_text absolute kept (s ∷ more) h k = added_text absolute (add absolute kept s) more (add_text absolute kept s h k.0) k.1

reversed_onto : (segs done : List (List ℕ)) → Texts segs → Texts done → Texts (reverse_aux segs done)
reversed_onto [] done h k = k
reversed_onto (s ∷ more) done h k = reversed_onto more (s ∷ done) h.1 (h.0, k)

reversed_text : (segs : List (List ℕ)) → Texts segs → Texts (reverse segs)
reversed_text segs h = reversed_onto segs [] h tt

after_slash_text : (segs : List (List ℕ)) → Texts segs → IsText (flat_map after_slash segs)
after_slash_text [] h = nothing_text
after_slash_text (s ∷ more) h =
    text_both (after_slash s) (flat_map after_slash more) (text_both (codes "/") s slash_text h.0) (after_slash_text more h.1)

maybe_slash : (b : Bool) → IsText (if b then codes "/" else [])
maybe_slash true = slash_text
maybe_slash false = nothing_text

path_text : (absolute closing : Bool) (segs : List (List ℕ)) → Texts segs → IsText (path_of absolute closing segs)
path_text absolute closing [] h = maybe_slash absolute
path_text absolute closing (s ∷ more) h =
    let between = text_both s (flat_map after_slash more) h.0 (after_slash_text more h.1) in
    text_both ((if absolute then codes "/" else []) ++ between_slashes (s ∷ more)) (if closing then codes "/" else [])
    (text_both (if absolute then codes "/" else []) (between_slashes (s ∷ more)) (maybe_slash absolute) between) (maybe_slash closing)

clean_text : (w : List ℕ) → IsText w → IsText (clean w)
clean_text w h =
    path_text (is_absolute w) (is_open w) (reverse (added (is_absolute w) [] (segments w)))
    (reversed_text (added (is_absolute w) [] (segments w)) (added_text (is_absolute w) [] (segments w) tt (segments_text (length w) w (omega arith) h)))

-- ---- a value below a base

-- up to and with a `/`
front_text : (front rest : List ℕ) → IsText ((front ++ 47 ∷ []) ++ rest) → IsText (front ++ 47 ∷ [])
front_text front rest h =
    let w : List ℕ = (front ++ 47 ∷ []) ++ rest in
    let size : length (front ++ 47 ∷ []) ≡ length front + 1 = length-append front (47 ∷ []) in
    let here : get_or w (length front) 0 ≡ 47 = get_or-append (front ++ 47 ∷ []) rest 0 (length front) (omega arith) ∙ get_or-append_seam front 47 [] 0 in
    let cut : IsText (take (length front + 1) w) = (cut_behind w (length front) h (omega (arith, length-append (front ++ 47 ∷ []) rest)) (omega arith)).0 in
    subst IsText (take_at (front ++ 47 ∷ []) rest (length front + 1) (omega arith)) cut

directory_text : (w : List ℕ) → IsText w → IsText (directory w)
directory_text w h = elim (directory-form w) [
  | inl none ↦ subst IsText (sym none) nothing_text
  | inr some ↦ subst IsText (sym some.1) (front_text some.0 (last_segment w) (subst IsText (sym (directory-last w) ∙ ap (λ (d : List ℕ). d ++ last_segment w) some.1) h))
]

base_text : (w : List ℕ) → IsText w → IsText (base_path w)
base_text w h = by (is_dots (last_segment w))
  where
    by : (b : Bool) → IsText (if b then w ++ codes "/" else w)
    by true = text_both w (codes "/") h slash_text
    by false = h

relative_text : (base : Parts) (path : List ℕ) → AreTexts base → IsText path → IsText (relative_path base path)
relative_text base path h k = by (is_some base.authority && is_empty base.path)
  where
    by : (b : Bool) → IsText (if b then codes "/" ++ path else directory (base_path base.path) ++ path)
    by true = text_both (codes "/") path slash_text k
    by false = text_both (directory (base_path base.path)) path (directory_text (base_path base.path) (base_text base.path h.path)) k

joined_path_text : (base own : Parts) → AreTexts base → AreTexts own → IsText (joined_path base own)
joined_path_text base own h k = by (is_empty own.path) (is_absolute own.path)
  where
    by : (a b : Bool) → IsText (if a then base_path base.path else (if b then own.path else relative_path base own.path))
    by true b = base_text base.path h.path
    by false true = k.path
    by false false = relative_text base own.path h k.path

joined_query_text : (base own : Parts) → AreTexts base → AreTexts own → IsMaybe (joined_query base own)
joined_query_text base own h k = by (is_empty own.path) own.query k.query
  where
    by : (a : Bool) (q : Option (List ℕ)) → IsMaybe q → IsMaybe (if a then first_some q base.query else q)
    by true None m = h.query
    by true (Some q) m = m
    by false q m = m

below_text : (base own : Parts) → AreTexts base → AreTexts own → AreTexts (below base own)
below_text base own h k = by (is_some own.scheme) (is_some own.authority)
  where
    by : (a b : Bool) → AreTexts (if a then own
        else (if b then record { scheme = base.scheme; authority = own.authority; path = own.path; query = own.query }
        else record { scheme = base.scheme; authority = base.authority; path = joined_path base own; query = joined_query base own }))
    by true b = k
    by false true = record { scheme = h.scheme; authority = k.authority; path = k.path; query = k.query }
    by false false = record { scheme = h.scheme; authority = h.authority; path = joined_path_text base own h k; query = joined_query_text base own h k }

scheme_whole : (s : Option (List ℕ)) → IsMaybe s → IsText (scheme_octets s)
scheme_whole (Some s) h = text_both s (codes ":") h colon_text
scheme_whole None h = nothing_text

authority_whole : (a : Option (List ℕ)) → IsMaybe a → IsText (authority_octets a)
authority_whole (Some a) h = text_both (codes "//") a slashes_text h
authority_whole None h = nothing_text

query_whole : (q : Option (List ℕ)) → IsMaybe q → IsText (query_octets q)
query_whole (Some q) h = text_both (codes "?") q question_text h
query_whole None h = nothing_text

whole_text : (p : Parts) → AreTexts p → IsText (cleaned_value p)
whole_text p h =
    let front = text_both (scheme_octets p.scheme) (authority_octets p.authority) (scheme_whole p.scheme h.scheme) (authority_whole p.authority h.authority) in
    text_both ((scheme_octets p.scheme ++ authority_octets p.authority) ++ clean p.path) (query_octets p.query)
    (text_both (scheme_octets p.scheme ++ authority_octets p.authority) (clean p.path) front (clean_text p.path h.path)) (query_whole p.query h.query)

pub join_text : (base own : List ℕ) → IsText base → IsText own → IsText (join base own)
join_text base own h k = whole_text (below (cut base) (cut own)) (below_text (cut base) (cut own) (cut_text base h) (cut_text own k))

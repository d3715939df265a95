-- Properties of characters that look at codes and not at offsets.
use Rattle.std.proofs.Common.{◌≡◌, ℕ, ◌+◌, Bool, true, false, cond, ◌&&◌, ◌||◌, ⊎_elim, not, eqb, leb, ltb, List, [], ◌∷◌, ◌++◌, map, refl, sym, ap, ◌∙◌, arith, le_trans}
use Rattle.std.specs.Prelude.{encode_utf8_all}
use Rattle.std.specs.Char.{len_utf8}
use lib.Utf8.{scalar, scalars, low_scalar}
use Rattle.std.proofs.lemmas.Bool.{false≢true, and_parts, and_from, eqb-true, leb-true, le-leb, lt-ltb, not-true}
use Rattle.xml_names.specs.Characters.{Range, in_range, in_some, char_ranges, name_start_ranges, more_name_ranges, is_char, is_name_start, is_name_char}
use Rattle.xml_syntax.specs.Characters.{Placed, mark, placed, characters, utf8, begins_with, Passes, Stops, Lacks}
use Rattle.xml_syntax.specs.Code.Characters.{EndsWithout}
use Rattle.xml_syntax.specs.Classes.{is_space}
use Rattle.xml_syntax.specs.Grammar.{SpellsName}
use Rattle.xml_syntax.proofs.Runs.{or_true}
use Rattle.xml_syntax.proofs.NameLaws.{space_no_name, start_goes_on}
use Rattle.c14n_listing.specs.Tidy.{is_no_return}

-- ---- characters in a row from an offset on, without CR

abbrev pub run : ℕ → List ℕ → List Placed
run at [] = []
run at (c ∷ cs) = mark c at ∷ run (at + len_utf8 c) cs

abbrev pub size : List ℕ → ℕ
size [] = 0
size (c ∷ cs) = len_utf8 c + size cs

pub run_append : (at : ℕ) (a b : List ℕ) → run at (a ++ b) ≡ run at a ++ run (at + size a) b
run_append at [] b = ap (λ (n : ℕ). run n b) (omega arith)
run_append at (c ∷ a) b =
    let e : at + len_utf8 c + size a ≡ at + (len_utf8 c + size a) = omega arith in
    ap (λ (u : List Placed). mark c at ∷ u) (run_append (at + len_utf8 c) a b ∙ ap (λ (n : ℕ). run (at + len_utf8 c) a ++ run n b) e)

-- each is a Char and not CR
abbrev pub Clean : List ℕ → Type 0
Clean [] = Unit {0}
Clean (c ∷ cs) = (is_char c ≡ true) × (eqb c 13 ≡ false) × Clean cs

pub clean_append : (a b : List ℕ) → Clean a → Clean b → Clean (a ++ b)
clean_append [] b p q = q
clean_append (c ∷ a) b p q = (p.0, p.1, clean_append a b p.2 q)

-- the test for it
abbrev pub all_clean : List ℕ → Bool
all_clean [] = true
all_clean (c ∷ cs) = is_char c && (not (eqb c 13) && all_clean cs)

pub clean_by : (cs : List ℕ) → all_clean cs ≡ true → Clean cs
clean_by [] e = tt
clean_by (c ∷ cs) e =
    let p = and_parts (is_char c) (not (eqb c 13) && all_clean cs) e in
    let q = and_parts (not (eqb c 13)) (all_clean cs) p.1 in
    (p.0, not-true (eqb c 13) q.0, clean_by cs q.1)

and_no : (b : Bool) → (b && false) ≡ false
and_no true = refl
and_no false = refl

first_clean : (c at : ℕ) (cs : List ℕ) → eqb c 13 ≡ false → placed false at (c ∷ cs) ≡ mark c at ∷ placed false (at + len_utf8 c) cs
first_clean c at cs e = rw (e, and_no (eqb c 10)) refl

placed_clean : (cs : List ℕ) (at : ℕ) → Clean cs → placed false at cs ≡ run at cs
placed_clean [] at p = refl
placed_clean (c ∷ cs) at p = first_clean c at cs p.1 ∙ ap (λ (u : List Placed). mark c at ∷ u) (placed_clean cs (at + len_utf8 c) p.2)

pub characters_clean : (cs : List ℕ) (at : ℕ) → Clean cs → characters at cs ≡ run at cs
characters_clean cs at p = placed_clean cs at p

-- ---- ranges of characters that lie in others

abbrev Covers : Range → Range → Bool
Covers r s = leb s.from r.from && leb r.until s.until

abbrev some_covers : Range → List Range → Bool
some_covers r [] = false
some_covers r (s ∷ ss) = Covers r s || some_covers r ss

abbrev all_covered : List Range → List Range → Bool
all_covered [] ss = true
all_covered (r ∷ rs) ss = some_covers r ss && all_covered rs ss

or_left : (a b : Bool) → a ≡ true → (a || b) ≡ true
or_left a b e = ap (λ (x : Bool). x || b) e

or_right : (a b : Bool) → b ≡ true → (a || b) ≡ true
or_right true b e = refl
or_right false b e = e

in_wider : (r s : Range) (c : ℕ) → Covers r s ≡ true → in_range r c ≡ true → in_range s c ≡ true
in_wider r s c e i =
    let p = and_parts (leb s.from r.from) (leb r.until s.until) e in
    let q = and_parts (leb r.from c) (leb c r.until) i in
    and_from (leb s.from c) (leb c s.until)
    (le-leb s.from c (le_trans (leb-true s.from r.from p.0) (leb-true r.from c q.0)))
    (le-leb c s.until (le_trans (leb-true c r.until q.1) (leb-true r.until s.until p.1)))

in_covered : (r : Range) (ss : List Range) (c : ℕ) → some_covers r ss ≡ true → in_range r c ≡ true → in_some ss c ≡ true
in_covered r [] c e i = absurd (false≢true e)
in_covered r (s ∷ ss) c e i =
    ⊎_elim (λ (h : Covers r s ≡ true). or_left (in_range s c) (in_some ss c) (in_wider r s c h i))
    (λ (h : some_covers r ss ≡ true). or_right (in_range s c) (in_some ss c) (in_covered r ss c h i))
    (or_true (Covers r s) (some_covers r ss) e)

in_all_covered : (rs ss : List Range) (c : ℕ) → all_covered rs ss ≡ true → in_some rs c ≡ true → in_some ss c ≡ true
in_all_covered [] ss c e i = absurd (false≢true i)
in_all_covered (r ∷ rs) ss c e i =
    let p = and_parts (some_covers r ss) (all_covered rs ss) e in
    ⊎_elim (λ (h : in_range r c ≡ true). in_covered r ss c p.0 h)
    (λ (h : in_some rs c ≡ true). in_all_covered rs ss c p.1 h)
    (or_true (in_range r c) (in_some rs c) i)

start_char : (c : ℕ) → is_name_start c ≡ true → is_char c ≡ true
unfolding is_name_start is_char
start_char c e = in_all_covered name_start_ranges char_ranges c refl e

more_char : (c : ℕ) → in_some more_name_ranges c ≡ true → is_char c ≡ true
unfolding is_char
more_char c e = in_all_covered more_name_ranges char_ranges c refl e

pub name_char : (c : ℕ) → is_name_char c ≡ true → is_char c ≡ true
unfolding is_name_char
name_char c e = ⊎_elim (λ (h : is_name_start c ≡ true). start_char c h) (λ (h : in_some more_name_ranges c ≡ true). more_char c h) (or_true (is_name_start c) (in_some more_name_ranges c) e)

abbrev low : Range
low = record { from = 0; until = 55295 }

abbrev high : Range
high = record { from = 57344; until = 1114111 }

scalar_low : (c : ℕ) → in_range low c ≡ true → scalar c ≡ true
scalar_low c e = low_scalar c (omega (arith, leb-true c 55295 (and_parts (leb 0 c) (leb c 55295) e).1))

high_bits : (a b d : Bool) → b ≡ true → d ≡ true → cond a true (b && d) ≡ true
high_bits true b d e f = refl
high_bits false b d e f = and_from b d e f

scalar_high : (c : ℕ) → in_range high c ≡ true → scalar c ≡ true
scalar_high c e =
    let p = and_parts (leb 57344 c) (leb c 1114111) e in
    high_bits (ltb c 55296) (leb 57344 c) (ltb c 1114112) p.0 (lt-ltb c 1114112 (omega (arith, leb-true c 1114111 p.1)))

scalar_in : (c : ℕ) → in_some (low ∷ high ∷ []) c ≡ true → scalar c ≡ true
scalar_in c e =
    ⊎_elim (λ (h : in_range low c ≡ true). scalar_low c h)
    (λ (h : (in_range high c || false) ≡ true). ⊎_elim (λ (g : in_range high c ≡ true). scalar_high c g) (λ (g : false ≡ true). absurd (false≢true g)) (or_true (in_range high c) false h))
    (or_true (in_range low c) (in_range high c || false) e)

pub char_scalar : (c : ℕ) → is_char c ≡ true → scalar c ≡ true
unfolding is_char
char_scalar c e = scalar_in c (in_all_covered char_ranges (low ∷ high ∷ []) c refl e)

pub scalars_clean : (cs : List ℕ) → Clean cs → scalars cs ≡ true
scalars_clean [] p = refl
scalars_clean (c ∷ cs) p = and_from (scalar c) (scalars cs) (char_scalar c p.0) (scalars_clean cs p.2)

-- ---- at one offset and at another

abbrev pub zeros : List ℕ → List Placed
zeros cs = map (λ (c : ℕ). mark c 0) cs

pub codes_zeros : (cs : List ℕ) → map (λ (x : Placed). x.code) (zeros cs) ≡ cs
codes_zeros [] = refl
codes_zeros (c ∷ cs) = ap (λ (u : List ℕ). c ∷ u) (codes_zeros cs)

pub codes_run : (at : ℕ) (cs : List ℕ) → map (λ (x : Placed). x.code) (run at cs) ≡ cs
codes_run at [] = refl
codes_run at (c ∷ cs) = ap (λ (u : List ℕ). c ∷ u) (codes_run (at + len_utf8 c) cs)

pub utf8_run : (at : ℕ) (cs : List ℕ) → utf8 (run at cs) ≡ encode_utf8_all cs
utf8_run at cs = ap encode_utf8_all (codes_run at cs)

pub utf8_zeros : (cs : List ℕ) → utf8 (zeros cs) ≡ encode_utf8_all cs
utf8_zeros cs = ap encode_utf8_all (codes_zeros cs)

pub passes_run : (p : ℕ → Bool) (at : ℕ) (cs : List ℕ) → Passes p (zeros cs) → Passes p (run at cs)
passes_run p at [] h = tt
passes_run p at (c ∷ cs) h = (h.0, passes_run p (at + len_utf8 c) cs h.1)

pub stops_run : (p : ℕ → Bool) (at : ℕ) (cs : List ℕ) → Stops p (zeros cs) → Stops p (run at cs)
stops_run p at [] h = tt
stops_run p at (c ∷ cs) h = h

begins_run : (w : List ℕ) (at : ℕ) (cs : List ℕ) → begins_with w (run at cs) ≡ begins_with w (zeros cs)
begins_run [] at cs = refl
begins_run (d ∷ w) at [] = refl
begins_run (d ∷ w) at (c ∷ cs) = ap (λ (b : Bool). cond (eqb c d) b false) (begins_run w (at + len_utf8 c) cs)

pub lacks_run : (w : List ℕ) (at : ℕ) (cs : List ℕ) → Lacks w (zeros cs) → Lacks w (run at cs)
lacks_run w at [] h = tt
lacks_run w at (c ∷ cs) h = (begins_run w at (c ∷ cs) ∙ h.0, lacks_run w (at + len_utf8 c) cs h.1)

pub ends_run : (d at : ℕ) (cs : List ℕ) → EndsWithout d (zeros cs) → EndsWithout d (run at cs)
ends_run d at [] h = tt
ends_run d at (c ∷ []) h = h
ends_run d at (c ∷ (b ∷ cs)) h = ends_run d (at + len_utf8 c) (b ∷ cs) h

pub name_run : (at : ℕ) (cs w : List ℕ) → SpellsName (zeros cs) w → SpellsName (run at cs) w
name_run at [] w h = h
name_run at (c ∷ cs) w h = (h.0, passes_run is_name_char (at + len_utf8 c) cs h.1, h.2 ∙ utf8_zeros (c ∷ cs) ∙ sym (utf8_run at (c ∷ cs)))

pub clean_of : (cs : List ℕ) → Passes is_char (zeros cs) → Passes is_no_return (zeros cs) → Clean cs
clean_of [] p q = tt
clean_of (c ∷ cs) p q = (p.0, not-true (eqb c 13) q.0, clean_of cs p.1 q.1)

name_no_return : (c : ℕ) → is_name_char c ≡ true → eqb c 13 ≡ false
name_no_return c n = by (eqb c 13) refl
  where
    by : (b : Bool) → eqb c 13 ≡ b → b ≡ false
    by false e = refl
    by true e = absurd (false≢true (sym (space_no_name c (ap is_space (eqb-true c 13 e))) ∙ n))

names_clean : (cs : List ℕ) → Passes is_name_char (zeros cs) → Clean cs
names_clean [] p = tt
names_clean (c ∷ cs) p = (name_char c p.0, name_no_return c p.0, names_clean cs p.1)

pub name_clean : (cs w : List ℕ) → SpellsName (zeros cs) w → Clean cs
name_clean [] w h = absurd h
name_clean (c ∷ cs) w h = names_clean (c ∷ cs) (start_goes_on c h.0, h.1)

pub name_octets : (cs w : List ℕ) → SpellsName (zeros cs) w → encode_utf8_all cs ≡ w
name_octets [] w h = absurd h
name_octets (c ∷ cs) w h = sym (h.2 ∙ utf8_zeros (c ∷ cs))

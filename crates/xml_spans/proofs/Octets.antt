-- The octets that characters are read from: a document may be cut where a tag ends or begins.
use Rattle.std.proofs.Common.{◌≡◌, ℕ, ◌+◌, ◌<◌, ◌≤◌, Bool, true, false, ◌&&◌, eqb, List, [], ◌∷◌, ◌++◌, length, map, refl, sym, ap, subst, ◌∙◌, arith, length-append}
use Rattle.std.specs.Prelude.{encode_utf8, encode_utf8_all}
use Rattle.std.specs.Char.{len_utf8}
use lib.Utf8.{scalars, scalar}
use Rattle.std.proofs.lemmas.Bool.{eqb-true, false≢true, and_from, and_parts}
use Rattle.std.proofs.lemmas.Str.{length-encode, encode_ascii}
use Rattle.xml_syntax.specs.Characters.{Placed, mark, placed}
use Rattle.xml_spans.specs.Moved.{shift}
use Rattle.xml_spans.specs.Code.Moved.{moved}
use Rattle.xml_spans.proofs.Moves.{Steps}

-- how many octets these characters are
abbrev pub size : List ℕ → ℕ
size cs = length (encode_utf8_all cs)

pub size_cons : (c : ℕ) (cs : List ℕ) → size (c ∷ cs) ≡ len_utf8 c + size cs
size_cons c cs = length-append (encode_utf8 c) (encode_utf8_all cs) ∙ ap (λ (n : ℕ). n + size cs) (length-encode c)

pub encode_cons : (c : ℕ) (cs : List ℕ) → c < 128 → encode_utf8_all (c ∷ cs) ≡ c ∷ encode_utf8_all cs
encode_cons c cs lt = ap (λ (u : List ℕ). u ++ encode_utf8_all cs) (encode_ascii c lt)

-- ---- one character

pub placed_cr : (d at : ℕ) (ds : List ℕ) (st : Bool) → eqb d 13 ≡ true → placed st at (d ∷ ds) ≡ mark 10 at ∷ placed true (at + 1) ds
placed_cr d at ds st e = rw e refl

pub placed_lf : (d at : ℕ) (ds : List ℕ) (st : Bool) → eqb d 13 ≡ false → (eqb d 10 && st) ≡ true → placed st at (d ∷ ds) ≡ placed false (at + 1) ds
placed_lf d at ds st e f = rw (e, f) refl

pub placed_other : (d at : ℕ) (ds : List ℕ) (st : Bool) → eqb d 13 ≡ false → (eqb d 10 && st) ≡ false → placed st at (d ∷ ds) ≡ mark d at ∷ placed false (at + len_utf8 d) ds
placed_other d at ds st e f = rw (e, f) refl

pub placed_plain : (d at : ℕ) (ds : List ℕ) (st : Bool) → eqb d 13 ≡ false → eqb d 10 ≡ false → placed st at (d ∷ ds) ≡ mark d at ∷ placed false (at + len_utf8 d) ds
placed_plain d at ds st e f = placed_other d at ds st e (rw f refl)

cr_size : (d : ℕ) → eqb d 13 ≡ true → len_utf8 d ≡ 1
cr_size d e = ap len_utf8 (eqb-true d 13 e)

lf_first : (a b : Bool) → (a && b) ≡ true → a ≡ true
lf_first true b e = refl
lf_first false b e = e

lf_size : (d : ℕ) (st : Bool) → (eqb d 10 && st) ≡ true → len_utf8 d ≡ 1
lf_size d st e = ap len_utf8 (eqb-true d 10 (lf_first (eqb d 10) st e))

-- ---- cut before a character that is no line end

pub record Cut (cs : List ℕ) (st : Bool) (at : ℕ) (front : List Placed) (c b : ℕ) (tail : List Placed) : Type 0 where
  pub first : List ℕ
  pub others : List ℕ
  pub parts : cs ≡ first ++ (c ∷ others)
  pub front_is : placed st at first ≡ front
  pub at_is : b ≡ at + size first
  pub tail_is : tail ≡ placed false (b + len_utf8 c) others

abbrev CutAll : List ℕ → Type 0
CutAll cs = (st : Bool) (at : ℕ) (front : List Placed) (c b : ℕ) (tail : List Placed) → eqb c 10 ≡ false → placed st at cs ≡ front ++ (mark c b ∷ tail) → Cut cs st at front c b tail

same_codes : (x y : Placed) → x ≡ y → x.code ≡ y.code
same_codes x y e = ap (λ (p : Placed). p.code) e

no_lf : (c at b : ℕ) → eqb c 10 ≡ false → mark 10 at ≡ mark c b → ⊥
no_lf c at b n e = let is : 10 ≡ c = ap (λ (p : Placed). p.code) e in false≢true (sym n ∙ ap (λ (k : ℕ). eqb k 10) (sym is))

cons_is : (x y : Placed) (xs ys : List Placed) → x ∷ xs ≡ y ∷ ys → (x ≡ y) × (xs ≡ ys)
cons_is x y xs ys e = (cc, cc)

cut_cr : (d : ℕ) (ds : List ℕ) → CutAll ds → eqb d 13 ≡ true → CutAll (d ∷ ds)
cut_cr d ds ih r st at [] c b tail n e =
    absurd (no_lf c at b n (cons_is (mark 10 at) (mark c b) (placed true (at + 1) ds) tail (sym (placed_cr d at ds st r) ∙ e)).0)
cut_cr d ds ih r st at (y ∷ front) c b tail n e =
    let i = cons_is (mark 10 at) y (placed true (at + 1) ds) (front ++ (mark c b ∷ tail)) (sym (placed_cr d at ds st r) ∙ e) in
    let t = ih true (at + 1) front c b tail n i.1 in
    record {
      first = d ∷ t.first;
      others = t.others;
      parts = ap (λ (u : List ℕ). d ∷ u) t.parts;
      front_is = placed_cr d at t.first st r ∙ ap (λ (u : List Placed). mark 10 at ∷ u) t.front_is ∙ ap (λ (x : Placed). x ∷ front) i.0;
      at_is = omega (arith, t.at_is, size_cons d t.first, cr_size d r);
      tail_is = t.tail_is;
    }

cut_lf : (d : ℕ) (ds : List ℕ) → CutAll ds → (st : Bool) → eqb d 13 ≡ false → (eqb d 10 && st) ≡ true → (at : ℕ) (front : List Placed) (c b : ℕ) (tail : List Placed) → eqb c 10 ≡ false → placed st at (d ∷ ds) ≡ front ++ (mark c b ∷ tail) → Cut (d ∷ ds) st at front c b tail
cut_lf d ds ih st r q at front c b tail n e =
    let t = ih false (at + 1) front c b tail n (sym (placed_lf d at ds st r q) ∙ e) in
    record {
      first = d ∷ t.first;
      others = t.others;
      parts = ap (λ (u : List ℕ). d ∷ u) t.parts;
      front_is = placed_lf d at t.first st r q ∙ t.front_is;
      at_is = omega (arith, t.at_is, size_cons d t.first, lf_size d st q);
      tail_is = t.tail_is;
    }

cut_other : (d : ℕ) (ds : List ℕ) → CutAll ds → (st : Bool) → eqb d 13 ≡ false → (eqb d 10 && st) ≡ false → (at : ℕ) (front : List Placed) (c b : ℕ) (tail : List Placed) → eqb c 10 ≡ false → placed st at (d ∷ ds) ≡ front ++ (mark c b ∷ tail) → Cut (d ∷ ds) st at front c b tail
cut_other d ds ih st r q at [] c b tail n e =
    let i = cons_is (mark d at) (mark c b) (placed false (at + len_utf8 d) ds) tail (sym (placed_other d at ds st r q) ∙ e) in
    let code-is : d ≡ c = ap (λ (p : Placed). p.code) i.0 in
    let at-is : at ≡ b = ap (λ (p : Placed). p.at) i.0 in
    record {
      first = [];
      others = ds;
      parts = ap (λ (x : ℕ). x ∷ ds) code-is;
      front_is = refl;
      at_is = omega (arith, at-is);
      tail_is = sym i.1 ∙ ap (λ (x : ℕ). placed false (x + len_utf8 d) ds) at-is ∙ ap (λ (x : ℕ). placed false (b + len_utf8 x) ds) code-is;
    }
cut_other d ds ih st r q at (y ∷ front) c b tail n e =
    let i = cons_is (mark d at) y (placed false (at + len_utf8 d) ds) (front ++ (mark c b ∷ tail)) (sym (placed_other d at ds st r q) ∙ e) in
    let t = ih false (at + len_utf8 d) front c b tail n i.1 in
    record {
      first = d ∷ t.first;
      others = t.others;
      parts = ap (λ (u : List ℕ). d ∷ u) t.parts;
      front_is = placed_other d at t.first st r q ∙ ap (λ (u : List Placed). mark d at ∷ u) t.front_is ∙ ap (λ (x : Placed). x ∷ front) i.0;
      at_is = omega (arith, t.at_is, size_cons d t.first);
      tail_is = t.tail_is;
    }

cut_step : (d : ℕ) (ds : List ℕ) → CutAll ds → CutAll (d ∷ ds)
cut_step d ds ih st at front c b tail n e = by (eqb d 13) (eqb d 10 && st) refl refl
  where
    by : (p q : Bool) → eqb d 13 ≡ p → (eqb d 10 && st) ≡ q → Cut (d ∷ ds) st at front c b tail
    by true q r s = cut_cr d ds ih r st at front c b tail n e
    by false true r s = cut_lf d ds ih st r s at front c b tail n e
    by false false r s = cut_other d ds ih st r s at front c b tail n e

no_cut : (front : List Placed) (x : Placed) (tail : List Placed) → [] ≡ front ++ (x ∷ tail) → ⊥
no_cut [] x tail e = cc
no_cut (y ∷ front) x tail e = cc

pub cut : (cs : List ℕ) → CutAll cs
cut [] = λ st at front c b tail n e. absurd (no_cut front (mark c b) tail e)
cut (d ∷ ds) = cut_step d ds (cut ds)

-- ---- joined

pub joined : (first : List ℕ) (st : Bool) (at c b : ℕ) (others : List ℕ) → eqb c 13 ≡ false → eqb c 10 ≡ false → b ≡ at + size first
    → placed st at (first ++ (c ∷ others)) ≡ placed st at first ++ (mark c b ∷ placed false (b + len_utf8 c) others)
joined [] st at c b others r n is =
    let at-is : at ≡ b = omega (arith, is) in
    placed_plain c at others st r n ∙ ap (λ (x : ℕ). mark c x ∷ placed false (x + len_utf8 c) others) at-is
joined (d ∷ first) st at c b others r n is = by (eqb d 13) (eqb d 10 && st) refl refl (λ st' at'. joined first st' at' c b others r n)
  where
    by : (p q : Bool) → eqb d 13 ≡ p → (eqb d 10 && st) ≡ q → ((st' : Bool) (at' : ℕ) → b ≡ at' + size first → placed st' at' (first ++ (c ∷ others)) ≡ placed st' at' first ++ (mark c b ∷ placed false (b + len_utf8 c) others))
        → placed st at (d ∷ (first ++ (c ∷ others))) ≡ placed st at (d ∷ first) ++ (mark c b ∷ placed false (b + len_utf8 c) others)
    by true q e f ih =
        placed_cr d at (first ++ (c ∷ others)) st e ∙ ap (λ (u : List Placed). mark 10 at ∷ u) (ih true (at + 1) (omega (arith, is, size_cons d first, cr_size d e)))
        ∙ ap (λ (u : List Placed). u ++ (mark c b ∷ placed false (b + len_utf8 c) others)) (sym (placed_cr d at first st e))
    by false true e f ih =
        placed_lf d at (first ++ (c ∷ others)) st e f ∙ ih false (at + 1) (omega (arith, is, size_cons d first, lf_size d st f))
        ∙ ap (λ (u : List Placed). u ++ (mark c b ∷ placed false (b + len_utf8 c) others)) (sym (placed_lf d at first st e f))
    by false false e f ih =
        placed_other d at (first ++ (c ∷ others)) st e f ∙ ap (λ (u : List Placed). mark d at ∷ u) (ih false (at + len_utf8 d) (omega (arith, is, size_cons d first)))
        ∙ ap (λ (u : List Placed). u ++ (mark c b ∷ placed false (b + len_utf8 c) others)) (sym (placed_other d at first st e f))

-- ---- moved

shift_on : (old new at n : ℕ) → old ≤ at → shift old new (at + n) ≡ shift old new at + n
shift_on old new at n le = omega arith

pub placed_moves : (old new : ℕ) (cs : List ℕ) (st : Bool) (at : ℕ) → old ≤ at → placed st (shift old new at) cs ≡ moved (shift old new) (placed st at cs)
placed_moves old new [] st at le = refl
placed_moves old new (d ∷ ds) st at le = by (eqb d 13) (eqb d 10 && st) refl refl (λ st' at' le'. placed_moves old new ds st' at' le')
  where
    by : (p q : Bool) → eqb d 13 ≡ p → (eqb d 10 && st) ≡ q → ((st' : Bool) (at' : ℕ) → old ≤ at' → placed st' (shift old new at') ds ≡ moved (shift old new) (placed st' at' ds))
        → placed st (shift old new at) (d ∷ ds) ≡ moved (shift old new) (placed st at (d ∷ ds))
    by true q e f ih =
        placed_cr d (shift old new at) ds st e ∙ ap (λ (k : ℕ). mark 10 (shift old new at) ∷ placed true k ds) (sym (shift_on old new at 1 le))
        ∙ ap (λ (u : List Placed). mark 10 (shift old new at) ∷ u) (ih true (at + 1) (omega arith)) ∙ ap (moved (shift old new)) (sym (placed_cr d at ds st e))
    by false true e f ih =
        placed_lf d (shift old new at) ds st e f ∙ ap (λ (k : ℕ). placed false k ds) (sym (shift_on old new at 1 le))
        ∙ ih false (at + 1) (omega arith) ∙ ap (moved (shift old new)) (sym (placed_lf d at ds st e f))
    by false false e f ih =
        placed_other d (shift old new at) ds st e f ∙ ap (λ (k : ℕ). mark d (shift old new at) ∷ placed false k ds) (sym (shift_on old new at (len_utf8 d) le))
        ∙ ap (λ (u : List Placed). mark d (shift old new at) ∷ u) (ih false (at + len_utf8 d) (omega arith)) ∙ ap (moved (shift old new)) (sym (placed_other d at ds st e f))

pub placed_steps : (old new : ℕ) (cs : List ℕ) (st : Bool) (at : ℕ) → old ≤ at → Steps (shift old new) (placed st at cs)
placed_steps old new [] st at le = tt
placed_steps old new (d ∷ ds) st at le = by (eqb d 13) (eqb d 10 && st) refl refl (λ st' at' le'. placed_steps old new ds st' at' le')
  where
    by : (p q : Bool) → eqb d 13 ≡ p → (eqb d 10 && st) ≡ q → ((st' : Bool) (at' : ℕ) → old ≤ at' → Steps (shift old new) (placed st' at' ds)) → Steps (shift old new) (placed st at (d ∷ ds))
    by true q e f ih = subst (Steps (shift old new)) (sym (placed_cr d at ds st e)) (shift_on old new at 1 le, ih true (at + 1) (omega arith))
    by false true e f ih = subst (Steps (shift old new)) (sym (placed_lf d at ds st e f)) (ih false (at + 1) (omega arith))
    by false false e f ih = subst (Steps (shift old new)) (sym (placed_other d at ds st e f)) (shift_on old new at 1 le, ih false (at + len_utf8 d) (omega arith))

-- ---- characters that can be encoded

pub scalars_parts : (a b : List ℕ) → scalars (a ++ b) ≡ true → (scalars a ≡ true) × (scalars b ≡ true)
scalars_parts [] b e = (refl, e)
scalars_parts (c ∷ a) b e =
    let h = and_parts (scalar c) (scalars (a ++ b)) e in
    let t = scalars_parts a b h.1 in
    (and_from (scalar c) (scalars a) h.0 t.0, t.1)

pub scalars_join : (a b : List ℕ) → scalars a ≡ true → scalars b ≡ true → scalars (a ++ b) ≡ true
scalars_join [] b e f = f
scalars_join (c ∷ a) b e f =
    let h = and_parts (scalar c) (scalars a) e in
    and_from (scalar c) (scalars (a ++ b)) h.0 (scalars_join a b h.1 f)

abbrev pub code_list : List Placed → List ℕ
code_list xs = map (λ (x : Placed). x.code) xs

pub scalars_placed : (cs : List ℕ) (st : Bool) (at : ℕ) → scalars cs ≡ true → scalars (code_list (placed st at cs)) ≡ true
scalars_placed [] st at e = refl
scalars_placed (d ∷ ds) st at e = by (eqb d 13) (eqb d 10 && st) refl refl (λ st' at'. scalars_placed ds st' at' (and_parts (scalar d) (scalars ds) e).1)
  where
    P : List Placed → Type 0
    P xs = scalars (code_list xs) ≡ true

    by : (p q : Bool) → eqb d 13 ≡ p → (eqb d 10 && st) ≡ q → ((st' : Bool) (at' : ℕ) → scalars (code_list (placed st' at' ds)) ≡ true) → scalars (code_list (placed st at (d ∷ ds))) ≡ true
    by true q r f ih = subst P (sym (placed_cr d at ds st r)) (and_from true (scalars (code_list (placed true (at + 1) ds))) refl (ih true (at + 1)))
    by false true r f ih = subst P (sym (placed_lf d at ds st r f)) (ih false (at + 1))
    by false false r f ih = subst P (sym (placed_other d at ds st r f)) (and_from (scalar d) (scalars (code_list (placed false (at + len_utf8 d) ds))) (and_parts (scalar d) (scalars ds) e).0 (ih false (at + len_utf8 d)))

pub codes_append : (a b : List Placed) → code_list (a ++ b) ≡ code_list a ++ code_list b
codes_append [] b = refl
codes_append (x ∷ a) b = ap (λ (u : List ℕ). x.code ∷ u) (codes_append a b)

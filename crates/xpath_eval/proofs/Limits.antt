-- Predicates that hold at no position behind some number.
use Rattle.std.proofs.Common.{◌≡◌, ℕ, ℤ, pos, zero, suc, ◌<◌, ◌≤◌, ◌≤ℤ◌, ◌<ℤ◌, ◌+◌, Bool, true, false, ◌&&◌, int_le, List, [], ◌∷◌, length, map, take, T, refl, sym, ap, subst, ◌∙◌, arith}
use lib.Signed.{le_z_yes}
use Rattle.std.specs.Prelude.{Ok, Some, slice_get}
use Rattle.std.proofs.lemmas.Int.{ints}
use Rattle.std.proofs.lemmas.List.{take_all}
use Rattle.xpath_value.specs.declared.number.Number.{Number}
use Rattle.xpath_value.specs.declared.number.Number.TheVariants.{Whole, Nan}
use Rattle.xpath_syntax.specs.declared.expr.Expr.{Expr}
use Rattle.xpath_eval.specs.declared.found.Found.{Found}
use Rattle.xpath_eval.specs.declared.found.Found.TheVariants.{Num, Truth}
use Rattle.xpath_eval.specs.Context.{Context, at}
use Rattle.xpath_eval.specs.Found.{Outcome, ◌>>=◌}
use Rattle.xpath_eval.specs.Meaning.{meaning}
use Rattle.xpath_eval.specs.Steps.{Meaning, filtered, holding, holding_from, holds, is_place, kept}
use Rattle.xpath_eval.specs.Code.Enough.{Enough, EnoughForEach}

-- at positions behind `last`, up to `all`, it comes to something that doesn't hold, and the size is not asked
pub record EndsAt (p : Meaning) (last all : ℕ) : Type 0 where
  pub value : Context → ℕ → Found
  pub is : (c : Context) (y place size : ℕ) → p (at c y place size) ≡ Ok (value c place)
  pub ends : (c : Context) (place : ℕ) → last < place → place ≤ all → holds (value c place) place ≡ false

module _ (p : Meaning) (last all : ℕ) (e : EndsAt p last all) where
  past : (c : Context) (size place : ℕ) (ys : List ℕ) → last < place → length ys + place ≤ suc all → holding_from p c size place ys ≡ Ok []
  unfolding holding_from
  past c size place [] lt h = refl
  past c size place (y ∷ ys) lt h =
      rw (e.is c y place size, e.ends c place lt (omega (arith, h)), past c size (suc place) ys (omega (arith, lt)) (omega (arith, h))) refl

  first_ones : (c : Context) (size size' place k : ℕ) (ys : List ℕ) → k + place ≡ suc last → length ys + place ≤ suc all → holding_from p c size place (take k ys) ≡ holding_from p c size' place ys
  unfolding holding_from
  first_ones c size size' place zero ys h g = sym (past c size' place ys (omega (arith, h)) g)
  first_ones c size size' place (suc k) [] h g = refl
  first_ones c size size' place (suc k) (y ∷ ys) h g =
      rw (e.is c y place size, e.is c y place size', first_ones c size size' (suc place) k ys (omega (arith, h)) (omega (arith, g))) refl

  pub enough_where_it_ends : Enough last all p
  enough_where_it_ends c ys h = first_ones c (length (take last ys)) (length ys) 1 last ys (omega arith) (omega (arith, h))

-- all are enough
pub all_enough : (all : ℕ) (p : Meaning) → Enough all all p
all_enough all p c ys h = ap (holding p c) (take_all all ys h)

pub none_asked : (all : ℕ) (ps : List Meaning) → ps ≡ [] → EnoughForEach all all ps
none_asked all ps none c ys h = ap (filtered ps c) (take_all all ys h)

pub first_asked : (most all : ℕ) (p : Meaning) (ps : List Meaning) → Enough most all p → EnoughForEach most all (p ∷ ps)
unfolding filtered
first_asked most all p ps e c ys h = ap (λ (o : Outcome (List ℕ)). o >>= filtered ps c) (e c ys h)

-- ---- numbers
at_most : (a b : ℤ) → int_le a b ≡ true → a ≤ℤ b
at_most a b e = le_z_yes (subst T (sym e) tt)

not_all : (a b : Bool) → b ≡ false → (a && b) ≡ false
not_all true b e = e
not_all false b e = refl

pub no_place : (a : ℤ) (place : ℕ) → a <ℤ pos place → is_place (Whole a) place ≡ false
no_place a place lt = not_all (int_le a (pos place)) (int_le (pos place) a) (go (int_le (pos place) a) refl)
  where
    go : (b : Bool) → int_le (pos place) a ≡ b → b ≡ false
    go false e = refl
    go true e = let le = at_most (pos place) a e in absurd (omega (arith, ints, lt, le))

-- ---- a predicate that is a number
pub number_ends : (p : Meaning) (n : Number) (last all : ℕ) → ((c : Context) → p c ≡ Ok (Num n)) → ((place : ℕ) → last < place → place ≤ all → is_place n place ≡ false) → EndsAt p last all
number_ends p n last all is ends = record {
  value = λ c place. Num n;
  is = λ c y place size. is (at c y place size);
  ends = λ c place. ends place;
}

-- ---- the first predicate decides
first_of : (most all : ℕ) (ps : List Expr) (f : Expr) → Some f ≡ slice_get ps 0 → Enough most all (meaning f) → EnoughForEach most all (map meaning ps)
first_of most all [] f h e = absurd cc
first_of most all (p ∷ ps) f h e =
    let same : f ≡ p = cc in
    let P : Expr → Type 0 = λ q. EnoughForEach most all (meaning q ∷ map meaning ps) in
    subst P same (first_asked most all (meaning f) (map meaning ps) e)

pub first_enough : (most all : ℕ) (ps qs : List Expr) (f : Expr) → qs ≡ ps → Some f ≡ slice_get qs 0 → Enough most all (meaning f) → EnoughForEach most all (map meaning ps)
first_enough most all ps qs f same h e = first_of most all ps f (h ∙ ap (λ (l : List Expr). slice_get l 0) same) e

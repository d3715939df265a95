-- The numbers that pass a test, where a walk begins, goes on and ends.
use Rattle.std.proofs.Common.{◌≡◌, ℕ, suc, ◌<◌, ◌≤◌, ◌-◌, ◌+◌, Bool, List, [], ◌∷◌, ◌++◌, length, Option, Some, None, sym, ◌∙◌, ap, arith, inl, inr, append-nil}
use Rattle.std.specs.Iterator.{YieldsFirst, MakesProgress, item_count}
use Rattle.std.specs.List.{filter, range_with_len}
use Rattle.std.proofs.lemmas.Bool.{cases_lt, cases_Bool}
use Rattle.std.proofs.lemmas.List.FromFn.{length-range_with_len}
use Rattle.xml_doc.specs.Searches.{passing, NonePass, IsFirst, IsLast}
use Rattle.xml_doc.proofs.Numbers.{passing-cut, passing_none, passing-first}

pub none_between : (p : ℕ → Bool) (a b : ℕ) → NonePass p a b → passing p a b ≡ []
none_between p a b h = passing_none p a (b - a) (λ k l m. h k l (omega arith))

-- from b on there is nothing before b
empty_between : (p : ℕ → Bool) (a b : ℕ) → b ≤ a → passing p a b ≡ []
empty_between p a b h = none_between p a b (λ z l m. absurd (omega arith))

-- a walk may begin behind numbers of which none passes
pub skip_front : (p : ℕ → Bool) (a m b : ℕ) → a ≤ m → NonePass p a m → passing p a b ≡ passing p m b
skip_front p a m b h none = elim (cases_lt m b) [
  | inl l ↦ passing-cut p a m b h (omega arith) ∙ ap (λ t. t ++ passing p m b) (none_between p a m none)
  | inr l ↦ none_between p a b (λ z l1 l2. none z l1 (omega arith)) ∙ sym (empty_between p m b l)
]

-- and end before such
pub skip_back : (p : ℕ → Bool) (a m b : ℕ) → m ≤ b → NonePass p m b → passing p a b ≡ passing p a m
skip_back p a m b h none = elim (cases_lt a m) [
  | inl l ↦ passing-cut p a m b (omega arith) h ∙ ap (λ t. passing p a m ++ t) (none_between p m b none) ∙ append-nil (passing p a m)
  | inr l ↦ none_between p a b (λ z l1 l2. none z (omega arith) l2) ∙ sym (empty_between p a m l)
]

-- the first, and those from m on
pub from_first : (p : ℕ → Bool) (a b y m : ℕ) → IsFirst p a b y → y < m → NonePass p (y + 1) m → passing p a b ≡ y ∷ passing p m b
from_first p a b y m first h none =
    skip_front p a y b first.from first.none_before
    ∙ passing-first p y b first.until first.passes
    ∙ ap (λ t. y ∷ t) (skip_front p (y + 1) m b (omega arith) none)

-- those before m, and the last
pub up_to_last : (p : ℕ → Bool) (a b y m : ℕ) → IsLast p a b y → m ≤ y → NonePass p m y → passing p a b ≡ passing p a m ++ y ∷ []
up_to_last p a b y m last h none =
    passing-cut p a y b last.from (let u = last.until in omega arith)
    ∙ ap (λ t. t ++ passing p y b) (skip_back p a m y h none)
    ∙ ap (λ t. passing p a m ++ t) (passing-first p y b last.until last.passes ∙ ap (λ t. y ∷ t) (none_between p (y + 1) b (λ z l1 l2. last.none_behind z (omega arith) l2)))

-- no more of them than there are numbers
few_kept : (q : ℕ → Bool) (xs : List ℕ) → length (filter q xs) ≤ length xs
few_kept q [] = omega arith
few_kept q (x ∷ xs) = let h = few_kept q xs in elim (cases_Bool (q x)) [ inl e ↦ rw e (omega arith) | inr e ↦ rw e (omega arith) ]

pub few_passing : (p : ℕ → Bool) (a b : ℕ) → length (passing p a b) ≤ b
few_passing p a b =
    let h = few_kept p (range_with_len a (b - a)) in
    let l = length-range_with_len a (b - a) in
    omega arith

-- what `next` gives of a list of what is still to come
pub none_gives : (s : List ℕ) (r : Option ℕ) → r ≡ None → s ≡ [] → YieldsFirst {S = List ℕ} {A = ℕ} (λ t. t) s r s
none_gives s r e h = rw e (h, h)

pub first_gives : (s t : List ℕ) (y : ℕ) → s ≡ y ∷ t → MakesProgress {S = List ℕ} {A = ℕ} (λ _. Unit {0}) (item_count (λ t. t)) s (Some y) t
first_gives s t y e = let l : length s ≡ suc (length t) = ap length e in record { on = λ _. (tt, tt, omega arith); keeps = tt; rests = λ _. tt }

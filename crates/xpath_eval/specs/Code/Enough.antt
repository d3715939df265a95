use Rattle.std.specs.Prelude.{◌≡◌, ℕ, ◌≤◌, List, length, take}
use Rattle.xpath_eval.specs.Context.{Context}
use Rattle.xpath_eval.specs.Steps.{Meaning, filtered, holding}

-- the first rows, so many of them, are enough for a predicate, where there are no more than that of all
abbrev pub Enough : ℕ → ℕ → Meaning → Type 0
Enough most all p = (c : Context) (ys : List ℕ) → length ys ≤ all → holding p c (take most ys) ≡ holding p c ys

-- the same for predicate after predicate
abbrev pub EnoughForEach : ℕ → ℕ → List Meaning → Type 0
EnoughForEach most all ps = (c : Context) (ys : List ℕ) → length ys ≤ all → filtered ps c (take most ys) ≡ filtered ps c ys

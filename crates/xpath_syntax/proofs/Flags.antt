-- Whether terminals nested too deep, over the terminals of several parts.
use Rattle.std.proofs.Common.{◌≡◌, ℕ, max, nat_lt, Bool, true, false, ◌||◌, refl, ap, ◌∙◌, arith}
use Rattle.xpath_syntax.specs.Nesting.{limit}

-- it was so before, or a terminal nests so deep
abbrev pub noted : Bool → ℕ → Bool
noted deep n = deep || nat_lt limit n

join : (deep : Bool) (a b : ℕ) → noted (noted deep a) b ≡ noted deep (max a b)
join true a b = refl
join false a b = grind arith

pub two : (deep : Bool) (a b n : ℕ) → max a b ≡ n → noted (noted deep a) b ≡ noted deep n
two deep a b n h = join deep a b ∙ ap (noted deep) h

pub three : (deep : Bool) (a b c n : ℕ) → max (max a b) c ≡ n → noted (noted (noted deep a) b) c ≡ noted deep n
three deep a b c n h = ap (λ (e : Bool). noted e c) (join deep a b) ∙ two deep (max a b) c n h

pub four : (deep : Bool) (a b c d n : ℕ) → max (max (max a b) c) d ≡ n → noted (noted (noted (noted deep a) b) c) d ≡ noted deep n
four deep a b c d n h = ap (λ (e : Bool). noted (noted e c) d) (join deep a b) ∙ three deep (max a b) c d n h

-- The definitions, computed on examples that were worked by hand. A keeper is a name and its count of faults.
use Rattle.std.proofs.Common.{◌≡◌, refl, ℕ, List, [], ◌∷◌}
use Rattle.std.specs.Prelude.{codes}
use Rattle.signed_views.specs.Stood.{stood, stood_of}

abbrev Named : Type 0
Named = List ℕ × ℕ

abbrev count : Named → ℕ
count keeper = keeper.1

-- the second failed, the count of the fourth was set back, and the others stay in their order
those_that_stood : stood_of count ((codes "a", 2) ∷ (codes "b", 1) ∷ (codes "c", 0) ∷ (codes "d", 3) ∷ []) (2 ∷ 0 ∷ 0 ∷ 4 ∷ []) ≡ (codes "a", 2) ∷ (codes "c", 0) ∷ []
those_that_stood = refl

-- two that failed are both left out, and so is the last
each_that_failed : stood_of count ((codes "a", 1) ∷ (codes "b", 1) ∷ []) (0 ∷ 0 ∷ []) ≡ []
each_that_failed = refl

-- a count is looked for beside its own keeper alone
beside : stood count (((codes "a", 0), 1) ∷ ((codes "b", 1), 0) ∷ []) ≡ []
beside = refl

-- The keepers that have not failed since their faults were counted.
use Rattle.std.specs.Prelude.{◌==◌, ℕ, List, filter, map, zip}

-- those whose count is the one beside them
abbrev pub stood : {K : Type 0} (faults : K → ℕ) → List (K × ℕ) → List K
stood faults pairs = map (λ pair. pair.0) (filter (λ pair. faults pair.0 == pair.1) pairs)

-- the same of keepers and their counts before, in order
abbrev pub stood_of : {K : Type 0} (faults : K → ℕ) → List K → List ℕ → List K
stood_of faults keepers before = stood faults (zip keepers before)

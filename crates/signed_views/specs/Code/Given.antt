use Rattle.std.specs.Prelude.{◌<◌, ◌-◌, ℕ, List, [], ◌∷◌, length, take, nat_lt, if◌then◌else◌}
use Rattle.signed_views.specs.Handing.{Pair, RoseAt}
use Rattle.signed_views.specs.declared.handing.Given.{Given}
use Rattle.signed_views.specs.declared.handing.Given.TheVariants.{All, Failed, NoMemory}

-- the pair for each keeper before this place, and nothing for the others
abbrev pub before_place : Pair → ℕ → ℕ → List Pair
before_place pair place k = if nat_lt k place then pair ∷ [] else []

-- what of one pair the keeper at place k was given
abbrev pub given_to : Pair → Given → ℕ → List Pair
given_to pair All k = pair ∷ []
given_to pair (Failed place) k = before_place pair place k
given_to pair (NoMemory place) k = before_place pair place k

-- a place that is named is a keeper's, and with Failed its count rose
abbrev pub GivenCause : {K : Type 0} (faults : K → ℕ) → Given → List K → List K → Type 0
GivenCause faults All old new = Unit {0}
GivenCause faults (Failed place) old new = RoseAt faults place old new
GivenCause faults (NoMemory place) old new = place < length old

-- the first n views for each keeper
abbrev pub first_views : List Pair → ℕ → ℕ → List Pair
first_views all n k = take n all

-- What handing one pair on leaves, and what handing all on leaves.
use Rattle.std.specs.Prelude.{◌<◌, ◌≤◌, ◌+◌, ◌-◌, ℕ, List, length, take, nat_lt, if◌then◌else◌}
use Rattle.signed_views.specs.Handing.{Pair, RoseAt}
use Rattle.signed_views.specs.declared.handing.Given.TheVariants.{Failed}
use Rattle.signed_views.specs.declared.handing.Handed as handed
use Rattle.signed_views.specs.declared.handing.Handed.TheVariants as handed_is

-- the views before this one for all keepers, this one for those before the keeper, counted from 1
abbrev pub up_to : List Pair → ℕ → ℕ → ℕ → List Pair
up_to all view keeper k = take (if nat_lt (k + 1) keeper then view else view - 1) all

-- what the keeper at place k, counted from 0, was given
abbrev pub handed_to : List Pair → handed.Handed → ℕ → List Pair
handed_to all handed_is.Done k = all
handed_to all (handed_is.Failed view keeper) k = up_to all view keeper k
handed_to all (handed_is.Memory view keeper) k = up_to all view keeper k

-- the numbers name a view and a keeper
pub record Numbered (view keeper views keepers : ℕ) : Type 0 where
  pub view_from : 0 < view
  pub view_to : view ≤ views
  pub keeper_from : 0 < keeper
  pub keeper_to : keeper ≤ keepers

-- with Failed the named keeper's count rose
abbrev pub HandedCause : {K : Type 0} (faults : K → ℕ) → ℕ → handed.Handed → List K → List K → Type 0
HandedCause faults views handed_is.Done old new = Unit {0}
HandedCause faults views (handed_is.Failed view keeper) old new = Numbered view keeper views (length old)
    × RoseAt faults (keeper - 1) old new
HandedCause faults views (handed_is.Memory view keeper) old new = Numbered view keeper views (length old)

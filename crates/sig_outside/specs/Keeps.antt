-- What the answers of a keeper mean.
use Rattle.std.specs.Prelude.{◌≡◌, ◌≤◌, ◌∷◌, [], ℕ, List, Option}
use Rattle.sig_base.specs.Counts.{Rose}
use Rattle.sig_outside.specs.Told.{Grew}
use Rattle.sig_outside.specs.declared.keeper.Kept.{Kept}
use Rattle.sig_outside.specs.declared.keeper.Kept.TheVariants.{Done, Failed, NoMemory}

-- the pair joins the list with Done alone
abbrev pub Keeps : List ℕ × List ℕ → Kept → Option (List (List ℕ × List ℕ)) → Option (List (List ℕ × List ℕ)) → Type 0
Keeps pair Done old new = Grew old new (pair ∷ [])
Keeps pair Failed old new = Grew old new []
Keeps pair NoMemory old new = Grew old new []

-- the count moves only with Failed
abbrev pub KeepCounts : Kept → ℕ → ℕ → Type 0
KeepCounts Failed before now = (before ≤ now) × Rose before now
KeepCounts other before now = now ≡ before

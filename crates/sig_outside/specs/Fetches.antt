-- What the answers of a folder mean.
use Rattle.std.specs.Prelude.{◌≡◌, ◌⊎◌, ◌<◌, ◌≤◌, ◌++◌, ℕ, List, [], ◌∷◌, length, Option, Some, None, IsSomeAnd}
use Rattle.sig_base.specs.Counts.{Rose}
use Rattle.sig_outside.specs.declared.folder.Fetch.{Fetch}
use Rattle.sig_outside.specs.declared.folder.Fetch.TheVariants.{Found, Absent, TooLong, Failed, NoMemory}

-- the answer fits what is held under the name, and the limit
abbrev pub FetchAnswer : Option (List ℕ) → ℕ → Fetch → List ℕ → Type 0
FetchAnswer file limit Found into = (file ≡ Some into) × (length into ≤ limit)
FetchAnswer file limit Absent into = file ≡ None
FetchAnswer file limit TooLong into = IsSomeAnd file (λ bytes. limit < length bytes)
FetchAnswer file limit Failed into = Unit {0}
FetchAnswer file limit NoMemory into = Unit {0}

-- only Found writes into the caller's list
abbrev pub Replaces : Fetch → List ℕ → List ℕ → Type 0
Replaces Found old new = Unit {0}
Replaces Absent old new = new ≡ old
Replaces TooLong old new = new ≡ old
Replaces Failed old new = new ≡ old
Replaces NoMemory old new = new ≡ old

-- the name joins those asked for; for want of memory it may be left out
abbrev pub Asks : List ℕ → Fetch → List (List ℕ) → List (List ℕ) → Type 0
Asks name NoMemory old new = (new ≡ old ++ name ∷ []) ⊎ (new ≡ old)
Asks name other old new = new ≡ old ++ name ∷ []

-- the count moves only with Failed
abbrev pub FetchCounts : Fetch → ℕ → ℕ → Type 0
FetchCounts Failed before now = (before ≤ now) × Rose before now
FetchCounts other before now = now ≡ before

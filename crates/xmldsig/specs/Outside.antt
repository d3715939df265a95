-- What stands outside of a run, at one moment.
use Rattle.std.specs.Prelude.{◌≡◌, ◌⊎◌, ℕ, List, Option, Some}

-- a sink: what it has received, where it tells that, and how often it has failed
pub record Stream : Type 0 where
  pub told : Option (List ℕ)
  pub faults : ℕ

abbrev pub stream : {S : Type 0} → (written : S → Option (List ℕ)) → (faults : S → ℕ) → S → Stream
stream written faults sink = record { told = written sink; faults = faults sink }

-- a folder: the names that it was asked for, and how often it has failed
pub record Asking : Type 0 where
  pub names : List (List ℕ)
  pub faults : ℕ

abbrev pub asking : {F : Type 0} → (asked : F → List (List ℕ)) → (faults : F → ℕ) → F → Asking
asking asked faults folder = record { names = asked folder; faults = faults folder }

-- all of it
pub record Outside (K : Type 0) : Type 0 where
  pub folder : Asking
  pub keepers : List K
  pub out : Stream
  pub err : Stream

abbrev pub outside : {K : Type 0} → Asking → List K → (out err : Stream) → Outside K
outside folder keepers out err = record { folder = folder; keepers = keepers; out = out; err = err }

-- a sink that tells what it has received grew, or its count moved
abbrev pub Moved : (old new : Stream) → Type 0
Moved old new = (¬ (new.faults ≡ old.faults)) ⊎ ((told : List ℕ) × (old.told ≡ Some told) × ¬ (new.told ≡ Some told))

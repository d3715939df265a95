-- Bases that are prepared, as they stand in buffers one behind another.
use Rattle.std.specs.Prelude.{◌≡◌, ℕ, ◌-◌, ◌≤◌, List, [], ◌∷◌, drop, length, take}
use Rattle.c14n_bases.specs.Join.{cut}
use Rattle.c14n_bases.specs.Code.Below.{IsKnown}
use Rattle.c14n_bases.specs.declared.bases.Ends.{Ends}
use Rattle.c14n_bases.specs.declared.bases.Prepared.{Prepared}

-- what stands there between two places
abbrev pub between : ℕ → ℕ → List ℕ → List ℕ
between from until xs = take (until - from) (drop from xs)

-- the base itself
abbrev pub base_of : List ℕ → Prepared → List ℕ
base_of raw p = between p.from.raw p.until.raw raw

-- what was prepared of it stands there
pub record IsPrepared (octets values places : List ℕ) (p : Prepared) : Type 0 where
  pub raw_up : p.from.raw ≤ p.until.raw
  pub texts_up : p.from.texts ≤ p.until.texts
  pub starts_up : p.from.starts ≤ p.until.starts
  pub known : IsKnown (cut (base_of octets p)) p.shape (between p.from.texts p.until.texts values) (between p.from.starts p.until.starts places)

-- the buffers end there
pub record EndAt (octets values places : List ℕ) (ends : Ends) : Type 0 where
  pub raw : ends.raw ≡ length octets
  pub texts : ends.texts ≡ length values
  pub starts : ends.starts ≡ length places

-- bases stand in the buffers from there to their ends
abbrev pub StandFrom : (raw texts starts : List ℕ) → Ends → List Prepared → Type 0
StandFrom raw texts starts from [] = EndAt raw texts starts from
StandFrom raw texts starts from (p ∷ more) = (p.from ≡ from) × IsPrepared raw texts starts p × StandFrom raw texts starts p.until more

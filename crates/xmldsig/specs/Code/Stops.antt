use Rattle.std.specs.Prelude.{◌≡◌, ◌≤◌, ◌++◌, ℕ, List, take, Result, Ok, Err}
use Rattle.sig_base.specs.Counts.{Rose}
use Rattle.xmldsig.specs.declared.ending.Refusal.{Refusal}
use Rattle.xmldsig.specs.declared.stop.Stop.{Stop}
use Rattle.xmldsig.specs.declared.stop.Stop.TheVariants as stop

-- an answer is the outcome, unless it is a fault or want of memory
abbrev pub Answers : {A : Type 0} → Result A Stop → Result A Refusal → Type 0
Answers (Ok x) outcome = outcome ≡ Ok x
Answers (Err (stop.Refused cause)) outcome = outcome ≡ Err cause
Answers (Err stop.ReadFault) outcome = Unit {0}
Answers (Err stop.Memory) outcome = Unit {0}

-- all of the names were asked for; with a fault or want of memory the first ones
abbrev pub AsksAll : {A : Type 0} → Result A Stop → (names old new : List (List ℕ)) → Type 0
AsksAll (Ok x) names old new = new ≡ old ++ names
AsksAll (Err (stop.Refused cause)) names old new = new ≡ old ++ names
AsksAll (Err stop.ReadFault) names old new = (n : ℕ) × (new ≡ old ++ take n names)
AsksAll (Err stop.Memory) names old new = (n : ℕ) × (new ≡ old ++ take n names)

-- the folder's count of faults moves only with a fault
abbrev pub StopCounts : {A : Type 0} → Result A Stop → (before now : ℕ) → Type 0
StopCounts (Ok x) before now = now ≡ before
StopCounts (Err (stop.Refused cause)) before now = now ≡ before
StopCounts (Err stop.ReadFault) before now = (before ≤ now) × Rose before now
StopCounts (Err stop.Memory) before now = now ≡ before

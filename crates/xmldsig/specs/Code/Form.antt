use Rattle.std.specs.Prelude.{◌≡◌, ℕ, Bool, Result, Ok, Err}
use Rattle.node_sets.specs.Members.{SetOf, has}
use Rattle.xmldsig.specs.declared.ending.Refusal.{Refusal}
use Rattle.xmldsig.specs.declared.stop.Stop.{Stop}
use Rattle.xmldsig.specs.declared.stop.Stop.TheVariants as stop

-- a set of these rows, as its definition tests their numbers; an answer is no fault of the folder
abbrev pub Selects : Result SetOf Stop → Result (ℕ → Bool) Refusal → Type 0
Selects (Ok set) outcome = outcome ≡ Ok (has set.members)
Selects (Err (stop.Refused cause)) outcome = outcome ≡ Err cause
Selects (Err stop.ReadFault) outcome = Unit {0}
Selects (Err stop.Memory) outcome = Unit {0}

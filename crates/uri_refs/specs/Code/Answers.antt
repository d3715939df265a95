use Rattle.std.specs.Prelude.{◌≡◌, ℕ, List, ◌++◌, Result, Ok, Err}
use Rattle.uri_refs.specs.declared.refusal.UriRefusal.{UriRefusal}
use Rattle.uri_refs.specs.Answers.{Refuses}

-- the same of a call that adds to a text what the outcome gives
abbrev pub Adds : Result (Unit {0}) UriRefusal → (old new : List ℕ) → Result (List ℕ) UriRefusal → Type 0
Adds (Ok done) old new outcome = (part : List ℕ) × (outcome ≡ Ok part) × (new ≡ old ++ part)
Adds (Err refusal) old new outcome = Refuses refusal outcome

-- How answers on a URI stand to what it refers to.
use Rattle.std.specs.Prelude.{◌≡◌, Result, Err}
use Rattle.sig_base.specs.Outcomes as outcomes
use Rattle.uri_refs.specs.declared.refusal.UriRefusal.{UriRefusal}
use Rattle.uri_refs.specs.declared.refusal.UriRefusal.TheVariants.{Memory}

-- an outcome is this refusal; want of memory may come at any URI
abbrev pub Refuses : {A : Type 0} → UriRefusal → Result A UriRefusal → Type 0
Refuses Memory outcome = Unit {0}
Refuses refusal outcome = outcome ≡ Err refusal

-- an answer is the outcome, unless it is want of memory
abbrev pub Gives : {T A : Type 0} → (T → A) → Result T UriRefusal → Result A UriRefusal → Type 0
Gives view result outcome = outcomes.Gives Refuses view result outcome

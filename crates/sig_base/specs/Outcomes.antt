-- Steps one behind the other, each of which may be refused, and how an answer stands to what they come to.
use Rattle.std.specs.Prelude.{◌≡◌, Result, Ok, Err}

-- a step behind a step, unless the first is refused
abbrev pub and_then : {A B R : Type 0} → Result A R → (A → Result B R) → Result B R
and_then (Ok x) f = f x
and_then (Err refusal) f = Err refusal

-- the same, with its refusal told as one of what stands around it
abbrev pub with_cause : {A B C : Type 0} → (B → C) → Result A B → Result A C
with_cause outer (Ok x) = Ok x
with_cause outer (Err cause) = Err (outer cause)

-- an answer, seen by `view`, is the outcome; `refuses` says of each refusal what it tells of the outcome
abbrev pub Gives : {T A R : Type 0} → (refuses : R → Result A R → Type 0) → (view : T → A) → Result T R → Result A R → Type 0
Gives refuses view (Ok x) outcome = outcome ≡ Ok (view x)
Gives refuses view (Err refusal) outcome = refuses refusal outcome

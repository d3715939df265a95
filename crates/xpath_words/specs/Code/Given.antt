use Rattle.std.specs.Prelude.{◌≡◌, ℕ, List, ◌++◌, Option, Some, None, Result, Ok, Err}
use Rattle.xpath_words.specs.declared.fault.TokensFault.{TokensFault}
use Rattle.xpath_words.specs.Given.{Fails}

-- A call gives what is read.
abbrev pub Gives : {X : Type 0} → Result X TokensFault → Option X → Type 0
Gives (Ok x) read = read ≡ Some x
Gives (Err e) read = Fails e read

-- A call gives what is read, and leaves the characters behind it.
abbrev pub Takes : {X : Type 0} → Result X TokensFault → List ℕ → Option (X × List ℕ) → Type 0
Takes (Ok x) left read = read ≡ Some (x, left)
Takes (Err e) left read = Fails e read

-- what is read, behind what was there before
abbrev pub with_front : {X : Type 0} → List X → Option (List X) → Option (List X)
with_front before None = None
with_front before (Some xs) = Some (before ++ xs)

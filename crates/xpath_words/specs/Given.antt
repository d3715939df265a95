-- What calls have to say that may want memory.
use Rattle.std.specs.Prelude.{◌≡◌, List, Option, Some, None, Result, Ok, Err, Vec}
use Rattle.xpath_words.specs.declared.fault.TokensFault.{TokensFault}
use Rattle.xpath_words.specs.declared.fault.TokensFault.TheVariants as faults

-- A call fails where nothing is read, or where memory is wanting.
abbrev pub Fails : {Y : Type 0} → TokensFault → Option Y → Type 0
Fails faults.NotXPath read = read ≡ None
Fails faults.Memory read = Unit {0}

-- A call gives the list that is read.
abbrev pub Collects : {X A : Type 0} → Result (Vec X A) TokensFault → Option (List X) → Type 0
Collects (Ok xs) read = read ≡ Some xs.items
Collects (Err e) read = Fails e read

-- How a reading of words answers.
use Rattle.std.specs.Prelude.{◌≡◌, Option, Some, None, Result, Ok, Err}
use Rattle.job_words.specs.declared.fault.WordsFault.{WordsFault}
use Rattle.job_words.specs.declared.fault.WordsFault.TheVariants.{Usage, Memory}

-- an answer is what there is, and `Usage` comes where there is nothing. Want of memory is free
abbrev pub Answers : {A : Type 0} → Result A WordsFault → Option A → Type 0
Answers (Ok x) o = o ≡ Some x
Answers (Err Usage) o = o ≡ None
Answers (Err Memory) o = Unit {0}

use Rattle.std.specs.Prelude.{ℕ, List}
use Rattle.std.specs.Borrow.{Bor}
use Rattle.job_words.specs.declared.options.Takes.{Takes}

-- an option's name, and what it takes
abbrev pub named : Bor (List ℕ) × Takes → List ℕ × Takes
named option = (option.0.now, option.1)

use Rattle.std.specs.Prelude.{◌≡◌, ℕ, ◌≤◌, ◌<◌, List, Result, Ok, Err}
use Rattle.std.specs.Str.Parse.{digits_value}
use Rattle.xpath_value.specs.declared.number.NumberFault.{NumberFault}
use Rattle.xpath_value.specs.declared.number.NumberFault.TheVariants.{NumberRange}
use Rattle.xpath_value.specs.Numbers.{greatest}

-- the value of digits, which is at most the greatest number, or the refusal where it is above that
abbrev pub IsValue : List ℕ → Result ℕ NumberFault → Type 0
IsValue digits (Ok value) = (value ≤ greatest) × (value ≡ digits_value 10 digits)
IsValue digits (Err fault) = (greatest < digits_value 10 digits) × (fault ≡ NumberRange)

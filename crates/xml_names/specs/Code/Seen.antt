use Rattle.std.specs.Prelude.{ℕ, List, Option, Some, None, option_and_then}
use Rattle.std.specs.List.{slice_get}
use Rattle.std.specs.String.{string_bytes}
use Rattle.xml_names.specs.declared.scope.Step.{Step}
use Rattle.xml_names.specs.declared.scope.Step.TheVariants as steps

-- the name that a step declares
abbrev pub name_in : Step → Option (List ℕ)
name_in steps.Enter = None
name_in (steps.Declare prefix uri) = Some (string_bytes uri)

-- the name that is declared at a place, with the oldest step at place 0
abbrev pub declared_at : List Step → ℕ → Option (List ℕ)
declared_at steps place = option_and_then name_in (slice_get steps place)

use Rattle.std.specs.Prelude.{ℕ, List, [], Option, Some, None}
use Rattle.uri_refs.specs.Cuts.{segments}

abbrev pub segments_behind : Option (List ℕ) → List (List ℕ)
segments_behind None = []
segments_behind (Some path) = segments path

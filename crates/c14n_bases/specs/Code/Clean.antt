-- Values that are joined already, and what they begin with.
use Rattle.std.specs.Prelude.{◌≡◌, ℕ, Option, Some, None, List, is_some, if◌then◌else◌}
use Rattle.c14n_bases.specs.Join.{Parts, is_empty, is_absolute, cut, cleaned_value}
use Rattle.c14n_bases.specs.declared.kind.Kind.{Kind}
use Rattle.c14n_bases.specs.declared.kind.Kind.TheVariants.{Scheme, Authority, Absolute, Empty, Relative}

-- put together again from its parts, and with its path cleaned, the value stays as it is
abbrev pub IsClean : List ℕ → Type 0
IsClean value = cleaned_value (cut value) ≡ value

-- what the first of its parts is
abbrev pub kind_of : Parts → Kind
kind_of p =
    if is_some p.scheme then Scheme
    else (if is_some p.authority then Authority
    else (if is_absolute p.path then Absolute else (if is_empty p.path then Empty else Relative)))

-- what is known of a value
abbrev pub Fits : Option Kind → List ℕ → Type 0
Fits None value = Unit {0}
Fits (Some kind) value = IsClean value × (kind ≡ kind_of (cut value))

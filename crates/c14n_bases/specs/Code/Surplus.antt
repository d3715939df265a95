-- Which segments of a path are kept, seen from the end: those that no `..` behind them takes away.
use Rattle.std.specs.Prelude.{ℕ, ◌-◌, ◌==◌, Bool, true, false, not, ◌&&◌, List, [], ◌∷◌, ◌++◌, suc, if◌then◌else◌, codes}
use Rattle.c14n_bases.specs.Join.{is_same, is_up, between_slashes}

-- how many `..` of a path no segment before them in it meets, where so many come behind the path
abbrev pub surplus : ℕ → List (List ℕ) → ℕ
surplus behind [] = behind
surplus behind (s ∷ more) = if is_same s then surplus behind more
    else (if is_up s then suc (surplus behind more) else surplus behind more - 1)

-- whether a segment is kept before these, but where it is `..`
abbrev pub is_name_kept : ℕ → List ℕ → List (List ℕ) → Bool
is_name_kept behind s more = not (is_same s) && (not (is_up s) && (surplus behind more == 0))

-- the segments that are kept, but for these `..`
abbrev pub names_kept : ℕ → List (List ℕ) → List (List ℕ)
names_kept behind [] = []
names_kept behind (s ∷ more) = if is_name_kept behind s more then s ∷ names_kept behind more else names_kept behind more

-- a segment behind what leads to it: nothing before the first one, and `/` before another
abbrev pub led : (begun : Bool) → List (List ℕ) → List ℕ
led begun [] = []
led begun (s ∷ more) = if begun then codes "/" ++ between_slashes (s ∷ more) else between_slashes (s ∷ more)

-- some segment is there
abbrev pub is_any : List (List ℕ) → Bool
is_any [] = false
is_any (s ∷ more) = true

-- Values in a buffer, and what is known of them.
use Rattle.std.specs.Prelude.{◌≡◌, ℕ, ◌+◌, ◌*◌, ◌≤◌, ◌++◌, List, [], None, codes, drop, length, if◌then◌else◌}
use Rattle.c14n_bases.specs.Join.{cleaned_value, cut, has_scheme}
use Rattle.c14n_bases.specs.declared.front.Front.{Front}
use Rattle.c14n_bases.specs.declared.kind.Kind.{Kind}
use Rattle.c14n_bases.specs.declared.kind.Kind.TheVariants.{Relative}
use Rattle.c14n_bases.specs.declared.place.Place.{Place}
use Rattle.c14n_bases.specs.declared.place.Start.{Start}
use Rattle.c14n_bases.specs.Code.Clean.{Fits, kind_of}
use Rattle.c14n_bases.specs.Code.Climbs.{climbs}

-- the value that begins there
abbrev pub value_at : Start → List ℕ → List ℕ
value_at start buffer = climbs start.upwards ++ drop start.from buffer

-- it is in the buffer, which has room for the `../`, and what was seen there is so
pub record Starts (start : Start) (buffer : List ℕ) : Type 0 where
  pub within : start.from ≤ length buffer
  pub room : 3 * start.upwards ≤ start.from
  pub seen : start.is_scheme ≡ has_scheme (drop start.from buffer)

-- a value begins there, and what is known of it is so
pub record Stands (place : Place) (buffer : List ℕ) : Type 0 where
  pub starts : Starts place.start buffer
  pub fits : Fits place.kind (value_at place.start buffer)
  pub raw : place.kind ≡ None → place.start.upwards ≡ 0

-- cleaned by itself, the text is so many `../`, which only a relative one has, and this behind them
pub record CleansTo (text : List ℕ) (kind : Kind) (upwards : ℕ) (tail : List ℕ) : Type 0 where
  pub is : climbs upwards ++ tail ≡ cleaned_value (cut text)
  pub by_parts : kind ≡ kind_of (cut text)
  pub only : (kind ≡ Relative → ⊥) → upwards ≡ 0

-- the cleaned value of a text begins there, and the buffer has room for it below a base
pub record HasRoom (base : List ℕ) (kind : Kind) (start : Start) (buffer : List ℕ) : Type 0 where
  pub text : List ℕ
  pub cleans : CleansTo text kind start.upwards (drop start.from buffer)
  pub room : length base + length text + 4 ≤ length buffer

-- what stands before a value below a base
abbrev pub front_octets : Front → List ℕ
front_octets f = f.roots.now ++ (if f.absolute then codes "/" else []) ++ climbs f.upwards ++ f.names.now

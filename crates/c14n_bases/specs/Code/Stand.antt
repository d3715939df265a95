-- What `Bases` holds.
use Rattle.std.specs.Prelude.{◌≤◌, map, vec_capacity}
use Rattle.c14n_bases.specs.Joined.{PreparedBases}
use Rattle.c14n_bases.specs.Code.Prepared.{base_of, StandFrom}
use Rattle.c14n_bases.specs.declared.bases.Bases.TheInside.{Inside}

abbrev pub prepared_bases : Inside → PreparedBases
prepared_bases b = record { bases = map (base_of b.raw.items) b.places.items; count = b.count; room = b.room }

pub record Stand (b : Inside) : Type 0 where
  pub stand : StandFrom b.raw.items b.texts.items b.starts.items (record { raw = 0; texts = 0; starts = 0 }) b.places.items
  pub raw : b.room ≤ vec_capacity b.raw
  pub texts : b.room ≤ vec_capacity b.texts
  pub starts : b.room ≤ vec_capacity b.starts
  pub places : b.count ≤ vec_capacity b.places

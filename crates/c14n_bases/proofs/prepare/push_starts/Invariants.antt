use Rattle.std.proofs.Common.{◌≡◌, ◌≤◌, ◌-◌, ◌+◌, ◌++◌, length, drop}
use Rattle.std.specs.Prelude.{vec_capacity}
use Rattle.c14n_bases.specs.Code.Below.{behind_slashes}
use Rattle.c14n_bases.proofs.prepare.push_starts.Given as goal

abbrev pub invariant-loop-i : goal.invariant-loop-i
invariant-loop-i l = record {
  items : l.starts.items ++ behind_slashes l.i (drop l.i l.text) ≡ l.initial.starts.items ++ behind_slashes l.fn.from (drop l.fn.from l.text);
  room : length l.starts.items + (length l.text - l.i) ≤ vec_capacity l.starts;
  capacity : vec_capacity l.initial.starts ≤ vec_capacity l.starts;
}

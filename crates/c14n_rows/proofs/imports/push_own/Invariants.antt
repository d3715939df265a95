use Rattle.std.proofs.Common.{◌≡◌, ◌<◌, ◌≤◌, ◌+◌, ◌++◌, length, vec_capacity}
use Rattle.std.specs.List.{All, filter}
use Rattle.node_sets.specs.View.{in_view}
use Rattle.c14n_text.specs.Bases.{is_own}
use Rattle.c14n_rows.specs.Code.Joined.{base_of}
use Rattle.xml_doc.proofs.Ranges.{numbers}
use Rattle.c14n_rows.proofs.imports.push_own.Given as goal

abbrev pub invariant-loop-a : goal.invariant-loop-a
invariant-loop-a l = record {
  so_far : l.attributes.items ++ filter (is_own l.doc (in_view l.set) (base_of l.base)) (numbers l.a l.until) ≡ l.initial.attributes.items ++ filter (is_own l.doc (in_view l.set) (base_of l.base)) (numbers l.from l.until);
  fit : All (λ a. a < length l.doc) l.attributes.items;
  few : length l.attributes.items + l.from ≤ length l.initial.attributes.items + l.a;
  kept : vec_capacity l.initial.attributes ≤ vec_capacity l.attributes;
}

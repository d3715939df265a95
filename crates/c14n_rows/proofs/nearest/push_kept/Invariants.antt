use Rattle.std.proofs.Common.{◌≡◌, ◌≤◌, ◌++◌, take, vec_capacity}
use Rattle.std.specs.List.{filter}
use Rattle.c14n_rows.specs.Rules.{rule_of}
use Rattle.c14n_rows.specs.Code.Order.{may_import}
use Rattle.c14n_rows.proofs.nearest.push_kept.Given as goal

abbrev pub invariant-loop-a : goal.invariant-loop-a
invariant-loop-a l = record {
  items : l.attributes.items ≡ l.initial.attributes.items ++ filter (may_import l.doc (rule_of l.method) l.x) (take l.a-index l.kept);
  kept : vec_capacity l.initial.attributes ≤ vec_capacity l.attributes;
}

use Rattle.std.proofs.Common.{◌≡◌, ◌≤◌, ◌++◌, string_bytes}
use Rattle.self_test.specs.Document.{for_each, reference}
use Rattle.self_test.proofs.document.push_references.Given as goal

abbrev pub invariant-loop-place : goal.invariant-loop-place
invariant-loop-place l = record {
  written : string_bytes l.text ≡ string_bytes l.initial.text ++ for_each reference l.place;
  within : l.place ≤ l.count;
}

use Rattle.std.proofs.Common.{◌≡◌, ◌≤◌, ◌++◌, string_bytes}
use Rattle.self_test.specs.Document.{for_each, paragraph}
use Rattle.self_test.proofs.document.push_paragraphs.Given as goal

abbrev pub invariant-loop-place : goal.invariant-loop-place
invariant-loop-place l = record {
  written : string_bytes l.text ≡ string_bytes l.initial.text ++ for_each paragraph l.place;
  within : l.place ≤ l.count;
}

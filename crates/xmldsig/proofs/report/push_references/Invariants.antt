use Rattle.std.proofs.Common.{◌≡◌, ◌++◌, ◌+◌, drop, string_bytes}
use Rattle.xmldsig.specs.Texts.{reference_lines}
use Rattle.xmldsig.proofs.report.push_references.Given as goal

abbrev pub invariant-loop-place : goal.invariant-loop-place
invariant-loop-place l =
    string_bytes l.text ++ reference_lines (l.place + 1)
    (drop l.place l.lengths) ≡ string_bytes l.initial.text ++ reference_lines 1 l.lengths

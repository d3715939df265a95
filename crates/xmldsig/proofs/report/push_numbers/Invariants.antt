use Rattle.std.proofs.Common.{◌≡◌, ◌++◌, drop, string_bytes}
use Rattle.std.specs.List.{flat_map}
use Rattle.xmldsig.specs.Texts.{number_word}
use Rattle.xmldsig.proofs.report.push_numbers.Given as goal

abbrev pub invariant-loop-number : goal.invariant-loop-number
invariant-loop-number l =
    string_bytes l.text ++ flat_map number_word
    (drop l.number-index l.number-items) ≡ string_bytes l.initial.text ++ flat_map number_word l.number-items

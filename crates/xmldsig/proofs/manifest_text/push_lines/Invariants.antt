use Rattle.std.proofs.Common.{◌≡◌, ◌++◌, ◌-◌, drop, length, string_bytes}
use Rattle.std.specs.List.{flat_map}
use Rattle.xmldsig.specs.Texts.{manifest_line}
use Rattle.xmldsig.proofs.manifest_text.push_lines.Given as goal

abbrev pub invariant-loop-line : goal.invariant-loop-line
invariant-loop-line l =
    string_bytes l.text ++ flat_map manifest_line (drop l.k l.lines) ≡ string_bytes l.fn.text ++ flat_map manifest_line l.lines

abbrev pub decreases-loop-line : goal.decreases-loop-line
decreases-loop-line l = length l.lines - l.k

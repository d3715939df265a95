use Rattle.std.proofs.Common.{◌≡◌, ◌+◌, ◌≤◌, length}
use Rattle.sig_base.specs.Lines.{lines_of, lines_read}
use Rattle.digests_hmac.specs.Keys as spec
use Rattle.digests_hmac.proofs.key_table.KeyTable.read.Given as goal

abbrev pub invariant-loop-rest : goal.invariant-loop-rest
invariant-loop-rest l = record {
  number : l.number + length l.rest ≤ length l.bytes + 1;
  reads : lines_read spec.line_read l.number (lines_of l.rest) l.keys.items ≡ spec.keys_of l.bytes;
}

abbrev pub decreases-loop-rest : goal.decreases-loop-rest
decreases-loop-rest l = length l.rest

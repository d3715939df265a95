-- The exit status of the program.
use Rattle.std.specs.Prelude.{ℕ}
use Rattle.xmldsig.specs.declared.ending.Status.{Status}
use Rattle.xmldsig.specs.declared.ending.Status.TheVariants as status

abbrev pub exit_code : Status → ℕ
exit_code status.Done = 0
exit_code status.Valid = 0
exit_code status.Invalid = 1
exit_code status.Refused = 2
exit_code status.Usage = 3
exit_code status.ReadFault = 4
exit_code status.WriteFault = 5
exit_code status.ViewFault = 6
exit_code status.Memory = 7

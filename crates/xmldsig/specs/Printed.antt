-- What is printed about an ending, and how printing can fail.
use Rattle.std.specs.Prelude.{◌≡◌, ◌⊎◌, ◌≤◌, ℕ, List, [], take}
use Rattle.sig_base.specs.Counts.{Rose}
use Rattle.sig_outside.specs.Told.{Grew}
use Rattle.transforms.specs.declared.outcome.Report.{Report}
use Rattle.transforms.specs.declared.outcome.Report.TheVariants.{SignatureDiffers, ShortTruncation, Valid, DigestsDiffer}
use Rattle.xmldsig.specs.Outside.{Stream}
use Rattle.xmldsig.specs.Texts.{usage_line, read_fault_line, view_fault_line, write_fault_line, memory_line}
use Rattle.xmldsig.specs.declared.ending.Ending.{Ending}
use Rattle.xmldsig.specs.declared.ending.Ending.TheVariants as ending
use Rattle.xmldsig.specs.declared.ending.Status.{Status}
use Rattle.xmldsig.specs.declared.ending.Status.TheVariants as status

abbrev pub report_status : Report → Status
report_status SignatureDiffers = status.Invalid
report_status (ShortTruncation bits) = status.Invalid
report_status (DigestsDiffer numbers) = status.Invalid
report_status (Valid views) = status.Valid

-- the status of an ending, where it can be told
abbrev pub status_of : Ending → Status
status_of ending.Usage = status.Usage
status_of ending.ReadFault = status.ReadFault
status_of ending.Memory = status.Memory
status_of (ending.ViewFault view keeper) = status.ViewFault
status_of (ending.Refused refusal line) = status.Refused
status_of (ending.Reported told text) = report_status told.report
status_of (ending.Written octets) = status.Done

-- the line on err
abbrev pub err_of : Ending → List ℕ
err_of ending.Usage = usage_line
err_of ending.ReadFault = read_fault_line
err_of ending.Memory = memory_line
err_of (ending.ViewFault view keeper) = view_fault_line view keeper
err_of (ending.Refused refusal line) = line
err_of (ending.Reported told text) = []
err_of (ending.Written octets) = []

-- a sink has received just these octets, and didn't fail
pub record Received (octets : List ℕ) (old new : Stream) : Type 0 where
  pub told : Grew old.told new.told octets
  pub calm : new.faults ≡ old.faults

-- a sink failed, behind a prefix of these octets
pub record Broke (octets : List ℕ) (old new : Stream) : Type 0 where
  pub kept : ℕ
  pub told : Grew old.told new.told (take kept octets)
  pub later : old.faults ≤ new.faults
  pub rose : Rose old.faults new.faults

-- all was written
pub record AllSaid (text line : List ℕ) (intended result : Status) (out out' err err' : Stream) : Type 0 where
  pub status : result ≡ intended
  pub on_out : Received text out out'
  pub on_err : Received line err err'

-- out failed, where nothing was to be said on err, and the fault was tried on err
pub record OutFailed (text line : List ℕ) (result : Status) (out out' err err' : Stream) : Type 0 where
  pub status : result ≡ status.WriteFault
  pub silent : line ≡ []
  pub on_out : Broke text out out'
  pub on_err : Received write_fault_line err err' ⊎ Broke write_fault_line err err'

-- err failed, where nothing was to be said on out
pub record ErrFailed (text line : List ℕ) (result : Status) (out out' err err' : Stream) : Type 0 where
  pub status : result ≡ status.WriteFault
  pub none : text ≡ []
  pub on_out : Received [] out out'
  pub on_err : Broke line err err'

-- a text on out and a line on err, of which one at most is not empty, and the status that is meant
abbrev pub Said : (text line : List ℕ) (intended result : Status) (out out' err err' : Stream) → Type 0
Said text line intended result out out' err err' =
    AllSaid text line intended result out out' err err'
    ⊎ (OutFailed text line result out out' err err' ⊎ ErrFailed text line result out out' err err')

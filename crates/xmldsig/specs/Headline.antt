-- What the top call answers and what it leaves, by its status.
use Rattle.std.specs.Prelude.{◌≡◌, ◌≢◌, ◌⊎◌, ◌<◌, ◌≤◌, ◌++◌, ◌-◌, ℕ, true, List, [], length, take, slice_index_or, Option, Some, None, IsSome, Result, Ok, Err}
use Rattle.std.specs.Option.{ForSome}
use Rattle.sig_base.specs.Counts.{Rose}
use Rattle.sig_outside.specs.Told.{Grew, Held}
use Rattle.signed_views.specs.Given.{handed_to}
use Rattle.signed_views.specs.Handing.{Pair, CountsStand, EachGrew, RoseAt}
use Rattle.signed_views.specs.declared.handing.Handed.TheVariants as handed
use Rattle.job_words.specs.declared.job.Job.{Job}
use Rattle.xmldsig.specs.Agreed.{IsAgreed}
use Rattle.xmldsig.specs.Ending.{GrewTowards, everywhere}
use Rattle.xmldsig.specs.Outcome.{Answer, IsValidOutcome, gives_octets, is_validation, names_for, run_outcome, views_of, wanted}
use Rattle.xmldsig.specs.Outcome.{OfReport, OfOctets}
use Rattle.xmldsig.specs.Outside.{Moved, Outside, Stream}
use Rattle.xmldsig.specs.Printed.{Broke, Received, report_status}
use Rattle.xmldsig.specs.Texts.{out_text, err_text, usage_line, read_fault_line, view_fault_line, write_fault_line, memory_line}
use Rattle.xmldsig.specs.declared.ending.Refusal.{Refusal}
use Rattle.xmldsig.specs.declared.ending.Status.{Status}
use Rattle.xmldsig.specs.declared.ending.Status.TheVariants as status

-- ---- the answer

-- the status of an outcome
abbrev pub outcome_status : Result Answer Refusal → Status
outcome_status (Ok (OfReport told)) = report_status told.report
outcome_status (Ok (OfOctets octets)) = status.Done
outcome_status (Err cause) = status.Refused

-- the statuses that an outcome permits: its own, a fault, or want of memory
abbrev pub Agrees : (views : Option (List ℕ)) → Result Answer Refusal → Status → Type 0
Agrees views outcome status.Usage = ⊥
Agrees views outcome status.ReadFault = Unit {0}
Agrees views outcome status.WriteFault = Unit {0}
Agrees views outcome status.ViewFault = IsSome views × IsValidOutcome outcome
Agrees views outcome status.Memory = Unit {0}
Agrees views outcome other = outcome_status outcome ≡ other

-- the statuses that words permit over every folder: words that name no job are Usage, unless a write fails or memory is wanting, and
-- others never are
abbrev pub UsageBy : Option Job → Status → Type 0
UsageBy None status.Usage = Unit {0}
UsageBy None status.WriteFault = Unit {0}
UsageBy None status.Memory = Unit {0}
UsageBy None other = ⊥
UsageBy (Some named) status.Done = gives_octets named ≡ true
UsageBy (Some named) status.Valid = is_validation named ≡ true
UsageBy (Some named) status.Invalid = is_validation named ≡ true
UsageBy (Some named) status.Usage = ⊥
UsageBy (Some named) status.ViewFault = (is_validation named ≡ true) × IsSome (views_of named)
UsageBy (Some named) other = Unit {0}

-- ---- the folder

-- its count rises only with ReadFault, or where a write failed behind one
abbrev pub FolderBy : Status → (before now : ℕ) → Type 0
FolderBy status.ReadFault before now = (before ≤ now) × Rose before now
FolderBy status.WriteFault before now = before ≤ now
FolderBy other before now = now ≡ before

-- the names that were asked for: all, or with a fault or want of memory the first ones
abbrev pub AskedBy : Status → (names old new : List (List ℕ)) → Type 0
AskedBy status.ReadFault names old new = (n : ℕ) × (new ≡ old ++ take n names)
AskedBy status.WriteFault names old new = (n : ℕ) × (new ≡ old ++ take n names)
AskedBy status.Memory names old new = (n : ℕ) × (new ≡ old ++ take n names)
AskedBy other names old new = new ≡ old ++ names

-- ---- out and err

-- the count of out or that of err rises exactly with WriteFault
abbrev pub SinksBy : Status → (out out' err err' : Stream) → Type 0
SinksBy status.WriteFault out out' err err' =
    (out.faults ≤ out'.faults) × (err.faults ≤ err'.faults) × (Rose out.faults out'.faults ⊎ Rose err.faults err'.faults)
SinksBy other out out' err err' = (out'.faults ≡ out.faults) × (err'.faults ≡ err.faults)

-- what is printed on out and on err where nothing fails
abbrev pub text_for : Option Job → Held → List ℕ
text_for None files = []
text_for (Some named) files = out_text (run_outcome named files)

abbrev pub line_for : Option Job → Held → List ℕ
line_for None files = usage_line
line_for (Some named) files = err_text (run_outcome named files)

-- out has received the text, with a failed write a prefix of it, and else nothing
abbrev pub OutBy : (text : List ℕ) → Status → (old new : Option (List ℕ)) → Type 0
OutBy text status.Done old new = Grew old new text
OutBy text status.Valid old new = Grew old new text
OutBy text status.Invalid old new = Grew old new text
OutBy text status.Refused old new = Grew old new text
OutBy text status.WriteFault old new = (n : ℕ) × Grew old new (take n text)
OutBy text other old new = Grew old new []

-- a line that was to be printed on err: that of the outcome, or of a fault behind which there is none
abbrev pub IsLine : (line told : List ℕ) → Type 0
IsLine line told =
    (told ≡ line) ⊎ ((told ≡ read_fault_line) ⊎ ((told ≡ memory_line) ⊎ ((view : ℕ) × (keeper : ℕ) × (told ≡ view_fault_line view keeper))))

-- out failed, and `fault write` is on err, or a prefix of it where err failed too
pub record OutBroke (out out' err err' : Stream) : Type 0 where
  pub rose : Rose out.faults out'.faults
  pub told : Received write_fault_line err err' ⊎ Broke write_fault_line err err'

-- out did not fail, and err failed behind a prefix of its line
pub record ErrBroke (line : List ℕ) (out out' err err' : Stream) : Type 0 where
  pub calm : out'.faults ≡ out.faults
  pub meant : List ℕ
  pub is_line : IsLine line meant
  pub told : Broke meant err err'

-- err has received the line of the status
abbrev pub ErrBy : (line : List ℕ) → Status → (out out' err err' : Stream) → Type 0
ErrBy line status.Usage out out' err err' = Grew err.told err'.told usage_line
ErrBy line status.ReadFault out out' err err' = Grew err.told err'.told read_fault_line
ErrBy line status.WriteFault out out' err err' = OutBroke out out' err err' ⊎ ErrBroke line out out' err err'
ErrBy line status.ViewFault out out' err err' = (view : ℕ) × (keeper : ℕ) × Grew err.told err'.told (view_fault_line view keeper)
ErrBy line status.Memory out out' err err' = Grew err.told err'.told memory_line
ErrBy line other out out' err err' = Grew err.told err'.told line

-- ---- the keepers

-- what they have received: all of the pairs, nothing, or some first of them. Of an invalid document and of a
-- canonical form there are no pairs
abbrev pub KeepersBy : {K : Type 0} → List Pair → Status → (K → Option (List Pair)) → (old new : List K) → Type 0
KeepersBy all status.Done pairs old new = EachGrew pairs (everywhere all) old new
KeepersBy all status.Valid pairs old new = EachGrew pairs (everywhere all) old new
KeepersBy all status.Invalid pairs old new = EachGrew pairs (everywhere all) old new
KeepersBy all status.WriteFault pairs old new = GrewTowards pairs all old new
KeepersBy all status.ViewFault pairs old new = GrewTowards pairs all old new
KeepersBy all status.Memory pairs old new = GrewTowards pairs all old new
KeepersBy all other pairs old new = EachGrew pairs (everywhere []) old new

-- a keeper failed: err's line names the view and the keeper, and the keepers have what was handed on before
pub record ViewFailed {K : Type 0} (all : List Pair) (pairs : K → Option (List Pair)) (old new : List K) (err err' : Stream) : Type 0 where
  pub view : ℕ
  pub keeper : ℕ
  pub told : Grew err.told err'.told (view_fault_line view keeper)
  pub have : EachGrew pairs (handed_to all (handed.Failed view keeper)) old new

abbrev pub ViewFailedBy : {K : Type 0} → List Pair → Status → (K → Option (List Pair)) → (old new : List K) → (err err' : Stream) → Type 0
ViewFailedBy all status.ViewFault pairs old new err err' = ViewFailed all pairs old new err err'
ViewFailedBy all other pairs old new err err' = Unit {0}

-- the same over every folder: the keeper on err's line is one whose count rose
pub record KeeperFailed {K : Type 0} (faults : K → ℕ) (old new : List K) (err err' : Stream) : Type 0 where
  pub view : ℕ
  pub keeper : ℕ
  pub told : Grew err.told err'.told (view_fault_line view keeper)
  pub rose : RoseAt faults (keeper - 1) old new

abbrev pub KeeperCause : {K : Type 0} → (K → ℕ) → Status → (old new : List K) → (err err' : Stream) → Type 0
KeeperCause faults status.ViewFault old new err err' = KeeperFailed faults old new err err'
KeeperCause faults other old new err err' = Unit {0}

-- ---- all together

-- no count of faults rose
pub record NoFault {K : Type 0} (faults : K → ℕ) (old new : Outside K) : Type 0 where
  pub folder : ¬ Rose old.folder.faults new.folder.faults
  pub keepers :
      (k : ℕ) (d : K) → k < length old.keepers → ¬ Rose (faults (slice_index_or old.keepers k d)) (faults (slice_index_or new.keepers k d))
  pub out : ¬ Rose old.out.faults new.out.faults
  pub err : ¬ Rose old.err.faults new.err.faults

-- over a folder that tells its files
pub record Truth {K : Type 0} (pairs : K → Option (List Pair)) (faults : K → ℕ) (named : Option Job) (files : Held) (result : Status)
    (old new : Outside K) : Type 0 where
  -- the answer is that of the outcome, and no other where nothing fails and memory isn't wanting
  pub verdict : ForSome named (λ job. Agrees (views_of job) (run_outcome job files) result)
  pub exactly : ForSome named (λ job. NoFault faults old new → result ≢ status.Memory → result ≡ outcome_status (run_outcome job files))
  -- a report is the verdict on the octets that were signed, the signature value, the key and the views
  pub agreed : ForSome named (λ job. IsAgreed job files)
  pub asked : AskedBy result (names_for named files) old.folder.names new.folder.names
  pub printed : OutBy (text_for named files) result old.out.told new.out.told
  pub told : ErrBy (line_for named files) result old.out new.out old.err new.err
  -- each keeper receives just the octets whose digests were compared, in the order of the References, before anything is printed;
  -- nothing, unless the outcome is valid and views are asked for
  pub keepers : KeepersBy (wanted named files) result pairs old.keepers new.keepers
  pub failed : ViewFailedBy (wanted named files) result pairs old.keepers new.keepers old.err new.err
  pub handed : Moved old.out new.out → EachGrew pairs (everywhere (wanted named files)) old.keepers new.keepers

-- over every folder, keeper and sink
pub record Headline {K : Type 0} (pairs : K → Option (List Pair)) (faults : K → ℕ) (named : Option Job) (held : Option Held)
    (result : Status)
    (old new : Outside K) : Type 0 where
  pub usage : UsageBy named result
  pub folder : FolderBy result old.folder.faults new.folder.faults
  pub sinks : SinksBy result old.out new.out old.err new.err
  pub number : length new.keepers ≡ length old.keepers
  pub counts : CountsStand faults old.keepers new.keepers
  pub cause : KeeperCause faults result old.keepers new.keepers old.err new.err
  pub truth : ForSome held (λ files. Truth pairs faults named files result old new)

use Rattle.std.specs.Prelude.{◌≡◌, ◌≤◌, ◌++◌, ◌-◌, ℕ, true, List, [], length, take, Option, Some, None, IsSome, Result, Ok, Err}
use Rattle.std.specs.Option.{ForSome}
use Rattle.sig_base.specs.Counts.{Rose}
use Rattle.sig_outside.specs.Told.{Held}
use Rattle.signed_views.specs.Given.{handed_to}
use Rattle.signed_views.specs.Handing.{Pair, CountsStand, EachGrew, RoseAt}
use Rattle.signed_views.specs.declared.handing.Handed.TheVariants as handed
use Rattle.job_words.specs.declared.job.Job.{Job}
use Rattle.xmldsig.specs.Outcome.{Answer, IsValid, IsValidOutcome, gives_octets, is_validation, names_for, run_outcome, views_of, wanted}
use Rattle.xmldsig.specs.Outcome.{OfReport, OfOctets}
use Rattle.xmldsig.specs.Outside.{Asking}
use Rattle.xmldsig.specs.Texts.{refusal_line, validated_text}
use Rattle.xmldsig.specs.declared.ending.Refusal.{Refusal}
use Rattle.xmldsig.specs.declared.ending.Ending.{Ending}
use Rattle.xmldsig.specs.declared.ending.Ending.TheVariants as ending
use Rattle.xmldsig.specs.declared.ending.Validated.{Validated}
use Rattle.xmldsig.specs.declared.stop.Stop.{Stop}
use Rattle.xmldsig.specs.declared.stop.Stop.TheVariants as stop
use Rattle.xmldsig.specs.Ending.{everywhere, GrewTowards}

-- the endings that words permit over every folder
abbrev pub EndsWords : Option Job → Ending → Type 0
EndsWords None ending.Usage = Unit {0}
EndsWords None ending.Memory = Unit {0}
EndsWords None other = ⊥
EndsWords (Some named) ending.Usage = ⊥
EndsWords (Some named) (ending.ViewFault view keeper) = (is_validation named ≡ true) × IsSome (views_of named)
EndsWords (Some named) (ending.Reported told text) = is_validation named ≡ true
EndsWords (Some named) (ending.Written octets) = gives_octets named ≡ true
EndsWords (Some named) other = Unit {0}

-- how a job with this outcome ends
abbrev pub Settles : (views : Option (List ℕ)) → Result Answer Refusal → Ending → Type 0
Settles views outcome ending.Usage = ⊥
Settles views outcome ending.ReadFault = Unit {0}
Settles views outcome ending.Memory = Unit {0}
Settles views outcome (ending.ViewFault view keeper) = IsSome views × IsValidOutcome outcome
Settles views outcome (ending.Refused refusal line) = (outcome ≡ Err refusal) × (line ≡ refusal_line refusal)
Settles views outcome (ending.Reported told text) = (outcome ≡ Ok (OfReport told)) × (text ≡ validated_text told)
Settles views outcome (ending.Written octets) = outcome ≡ Ok (OfOctets octets)

abbrev pub SettlesWords : Option Job → Held → Ending → Type 0
SettlesWords None files x = Unit {0}
SettlesWords (Some named) files x = Settles (views_of named) (run_outcome named files) x

-- the names that were asked for
abbrev pub AsksBy : Ending → (names old new : List (List ℕ)) → Type 0
AsksBy ending.ReadFault names old new = (n : ℕ) × (new ≡ old ++ take n names)
AsksBy ending.Memory names old new = (n : ℕ) × (new ≡ old ++ take n names)
AsksBy other names old new = new ≡ old ++ names

-- the folder's count moves only with a read fault
abbrev pub FolderCounts : Ending → (before now : ℕ) → Type 0
FolderCounts ending.ReadFault before now = (before ≤ now) × Rose before now
FolderCounts other before now = now ≡ before

-- what the keepers have received, of which all is what they are to receive
abbrev pub KeepersHave : {K : Type 0} → List Pair → Ending → (K → Option (List Pair)) → (old new : List K) → Type 0
KeepersHave all ending.Memory pairs old new = GrewTowards pairs all old new
KeepersHave all (ending.ViewFault view keeper) pairs old new = EachGrew pairs (handed_to all (handed.Failed view keeper)) old new
KeepersHave all (ending.Reported told text) pairs old new = EachGrew pairs (everywhere all) old new
KeepersHave all (ending.Written octets) pairs old new = EachGrew pairs (everywhere all) old new
KeepersHave all other pairs old new = EachGrew pairs (everywhere []) old new

-- a view fault names a keeper whose count rose
abbrev pub ViewCause : {K : Type 0} → (K → ℕ) → Ending → (old new : List K) → Type 0
ViewCause faults (ending.ViewFault view keeper) old new = RoseAt faults (keeper - 1) old new
ViewCause faults other old new = Unit {0}

-- how delivering a refusal ends, and how delivering a report with the lines beside it does
abbrev pub RefusalEnds : Refusal → Ending → Type 0
RefusalEnds cause ending.Memory = Unit {0}
RefusalEnds cause (ending.Refused refusal line) = (refusal ≡ cause) × (line ≡ refusal_line refusal)
RefusalEnds cause other = ⊥

abbrev pub ReportEnds : (views : Option (List ℕ)) → Validated → Ending → Type 0
ReportEnds views found ending.Memory = Unit {0}
ReportEnds views found (ending.ViewFault view keeper) = IsSome views × IsValid found.report
ReportEnds views found (ending.Reported told text) = (told ≡ found) × (text ≡ validated_text found)
ReportEnds views found other = ⊥

-- how delivering octets ends, or why there are none
abbrev pub OctetsEnd : Result (List ℕ) Stop → Ending → Type 0
OctetsEnd (Ok octets) x = x ≡ ending.Written octets
OctetsEnd (Err (stop.Refused cause)) x = RefusalEnds cause x
OctetsEnd (Err stop.ReadFault) x = x ≡ ending.ReadFault
OctetsEnd (Err stop.Memory) x = x ≡ ending.Memory

-- over a folder that tells its files: what the words come to, what was asked for, and what the keepers have
pub record SettledOver {K : Type 0} (pairs : K → Option (List Pair)) (named : Option Job) (files : Held) (x : Ending) (old new : Asking)
    (keepers keepers' : List K) : Type 0 where
  pub outcome : SettlesWords named files x
  pub asked : AsksBy x (names_for named files) old.names new.names
  pub have : KeepersHave (wanted named files) x pairs keepers keepers'

-- what the words come to, and what is done to the folder and the keepers until then
pub record Settled {K : Type 0} (pairs : K → Option (List Pair)) (faults : K → ℕ) (named : Option Job) (held : Option Held) (x : Ending)
    (old new : Asking) (keepers keepers' : List K) : Type 0 where
  pub words : EndsWords named x
  pub folder : FolderCounts x old.faults new.faults
  pub number : length keepers' ≡ length keepers
  pub counts : CountsStand faults keepers keepers'
  pub cause : ViewCause faults x keepers keepers'
  pub over : ForSome held (λ files. SettledOver pairs named files x old new keepers keepers')

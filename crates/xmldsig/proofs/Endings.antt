-- What the words come to, by their endings.
use Rattle.std.proofs.Common.{◌≡◌, ◌+◌, ◌-◌, ◌++◌, ◌∙◌, ap, sym, refl, arith, ℕ, true, List, [], length, take, cond, nat_lt, Option, Some, None, Result, Ok, Err, encode_utf8_all}
use Rattle.std.specs.Option.{ForSome}
use Rattle.std.proofs.lemmas.List.{take_all, append-nil}
use Rattle.sig_base.specs.declared.lists.Views.{Views}
use Rattle.sig_outside.specs.Told.{Held}
use Rattle.signed_views.specs.Handing.{CountsStand, Pair, EachGrew, pairs_of}
use Rattle.signed_views.specs.Given.{handed_to}
use Rattle.signed_views.specs.Names.{view_names}
use Rattle.signed_views.specs.declared.handing.Handed.{Handed}
use Rattle.signed_views.specs.declared.handing.Handed.TheVariants as handed
use Rattle.transforms.specs.declared.outcome.Report.{Report}
use Rattle.transforms.specs.declared.outcome.Report.TheVariants.{SignatureDiffers, ShortTruncation, Valid, DigestsDiffer}
use Rattle.job_words.specs.declared.job.Job.{Job}
use Rattle.xmldsig.specs.Ending.{GrewTowards, everywhere}
use Rattle.xmldsig.specs.Code.Stops.{Answers, AsksAll, StopCounts}
use Rattle.xmldsig.specs.Code.Ending.{AsksBy, EndsWords, FolderCounts, KeepersHave, OctetsEnd, RefusalEnds, ReportEnds, Settled, Settles, SettlesWords, ViewCause}
use Rattle.xmldsig.specs.Outcome.{Answer, gives_octets, is_validation, names_asked, pairs_by, pairs_for, reported, run_outcome, views_of, written}
use Rattle.xmldsig.specs.Outcome.{OfReport, OfOctets}
use Rattle.xmldsig.specs.Outside.{Asking}
use Rattle.xmldsig.specs.Texts.{validated_text}
use Rattle.xmldsig.specs.declared.ending.Refusal.{Refusal}
use Rattle.xmldsig.specs.declared.stop.Stop.{Stop}
use Rattle.xmldsig.specs.declared.stop.Stop.TheVariants as stop
use Rattle.xmldsig.specs.declared.ending.Ending.{Ending}
use Rattle.xmldsig.specs.declared.ending.Ending.TheVariants as ending
use Rattle.xmldsig.specs.declared.ending.Validated.{Validated}

-- ---- keepers

-- keepers that weren't touched
pub have_nothing : {K : Type 0} (pairs : K → Option (List Pair)) (keepers : List K) → EachGrew pairs (everywhere []) keepers keepers
have_nothing pairs keepers = record { number = refl; each = λ k d lt told is. rw append-nil is }

pub have_prefix : {K : Type 0} (pairs : K → Option (List Pair)) (keepers : List K) (all : List Pair) → GrewTowards pairs all keepers keepers
have_prefix pairs keepers all = (λ k. 0, record { number = refl; each = λ k d lt told is. rw append-nil is })

pub have_none : {K : Type 0} (pairs : K → Option (List Pair)) (keepers : List K) (all : List Pair) → all ≡ []
    → EachGrew pairs (everywhere all) keepers keepers
have_none pairs keepers all e = record { number = refl; each = λ k d lt told is. rw (e, append-nil) is }

pub counts_same : {K : Type 0} (faults : K → ℕ) (keepers : List K) → CountsStand faults keepers keepers
counts_same faults keepers = λ k d lt. omega arith

-- all of the pairs are some first of them
pub have_all : {K : Type 0} (pairs : K → Option (List Pair)) (old new : List K) (all : List Pair) → EachGrew pairs (everywhere all) old new
    → GrewTowards pairs all old new
have_all pairs old new all grew = (
  λ k. length all,
  record {
    number = grew.number;
    each = λ k d lt. rw (take_all (length all) all (omega arith)) (grew.each k d lt);
  },
)

-- what was handed on is for each keeper some first of the pairs
pub have_handed : {K : Type 0} (pairs : K → Option (List Pair)) (old new : List K) (all : List Pair) (h : Handed)
    → EachGrew pairs (handed_to all h) old new → GrewTowards pairs all old new
have_handed pairs old new all handed.Done grew = have_all pairs old new all grew
have_handed pairs old new all (handed.Failed view keeper) grew = (λ k. cond (nat_lt (k + 1) keeper) view (view - 1), grew)
have_handed pairs old new all (handed.Memory view keeper) grew = (λ k. cond (nat_lt (k + 1) keeper) view (view - 1), grew)

-- the pairs that are handed on are those of the report
pub pairs_are : (views : Option (List ℕ)) (report : Report) (dir bytes : List ℕ) (kept : Views) (names : List (List ℕ)) → views ≡ Some dir
    → report ≡ Valid kept → bytes ≡ encode_utf8_all dir
    → names ≡ view_names bytes (length kept.octets) → pairs_of names kept.octets ≡ pairs_for views report
pairs_are views report dir bytes kept names v r b n = rw (v, r, n, b) refl

pub have_handed_pairs : {K : Type 0} (pairs : K → Option (List Pair)) (old new : List K) (views : Option (List ℕ)) (report : Report)
    (all : List Pair) (h : Handed)
    → all ≡ pairs_for views report → EachGrew pairs (handed_to all h) old new → EachGrew pairs
    (handed_to (pairs_for views report) h) old new
have_handed_pairs pairs old new views report all h same grew = rw (← same) grew

pub no_views : (views : Option (List ℕ)) (report : Report) → views ≡ None → pairs_for views report ≡ []
no_views None report e = refl
no_views (Some dir) report e = cc

pub not_valid : (views : Option (List ℕ)) (report : Report) → ((kept : Views) → report ≡ Valid kept → ⊥) → pairs_for views report ≡ []
not_valid None report other = refl
not_valid (Some dir) SignatureDiffers other = refl
not_valid (Some dir) (ShortTruncation bits) other = refl
not_valid (Some dir) (DigestsDiffer numbers) other = refl
not_valid (Some dir) (Valid kept) other = absurd (other kept refl)

-- ---- from what is answered to what the words come to

-- all names are some of them
pub some_names : (names old new : List (List ℕ)) → new ≡ old ++ names → (n : ℕ) × (new ≡ old ++ take n names)
some_names names old new is = (length names, is ∙ ap (λ ns. old ++ ns) (sym (take_all (length names) names (omega arith))))

pub asks_by : (x : Ending) (names old new : List (List ℕ)) → new ≡ old ++ names → AsksBy x names old new
asks_by ending.Usage names old new is = is
asks_by ending.ReadFault names old new is = some_names names old new is
asks_by ending.Memory names old new is = some_names names old new is
asks_by (ending.ViewFault view keeper) names old new is = is
asks_by (ending.Refused refusal line) names old new is = is
asks_by (ending.Reported told text) names old new is = is
asks_by (ending.Written octets) names old new is = is

-- a refusal of a job
pub refusal_settled : {K : Type 0} (pairs : K → Option (List Pair)) (faults : K → ℕ) (named : Job) (held : Option Held) (x : Ending)
    (old new : Asking) (keepers : List K) (cause : Refusal)
    → RefusalEnds cause x → new.faults ≡ old.faults → ForSome held (λ files. run_outcome named files ≡ Err cause) → ForSome held
    (λ files. new.names ≡ old.names ++ names_asked named files)
    → Settled pairs faults (Some named) held x old new keepers keepers
refusal_settled pairs faults named held ending.Usage old new keepers cause d calm outcome asked = absurd d
refusal_settled pairs faults named held ending.ReadFault old new keepers cause d calm outcome asked = absurd d
refusal_settled pairs faults named held ending.Memory old new keepers cause d calm outcome asked = record {
  words = tt;
  folder = calm;
  number = refl;
  counts = counts_same faults keepers;
  cause = tt;
  over = λ files e. record { outcome = tt; asked = some_names _ _ _ (asked files e); have = have_prefix pairs keepers _ };
}
refusal_settled pairs faults named held (ending.ViewFault view keeper) old new keepers cause d calm outcome asked = absurd d
refusal_settled pairs faults named held (ending.Refused refusal line) old new keepers cause d calm outcome asked = record {
  words = tt;
  folder = calm;
  number = refl;
  counts = counts_same faults keepers;
  cause = tt;
  over = λ files e. record { outcome = (outcome files e ∙ ap Err (sym d.0), d.1); asked = asked files e; have = have_nothing pairs keepers };
}
refusal_settled pairs faults named held (ending.Reported told text) old new keepers cause d calm outcome asked = absurd d
refusal_settled pairs faults named held (ending.Written octets) old new keepers cause d calm outcome asked = absurd d

-- a fault of the folder, or want of memory for what it gives
pub fault_settled : {K : Type 0} (pairs : K → Option (List Pair)) (faults : K → ℕ) (named : Job) (held : Option Held) (old new : Asking)
    (keepers : List K)
    → FolderCounts ending.ReadFault old.faults new.faults → ForSome held
    (λ files. AsksBy ending.ReadFault (names_asked named files) old.names new.names)
    → Settled pairs faults (Some named) held ending.ReadFault old new keepers keepers
fault_settled pairs faults named held old new keepers rose asked = record {
  words = tt;
  folder = rose;
  number = refl;
  counts = counts_same faults keepers;
  cause = tt;
  over = λ files e. record { outcome = tt; asked = asked files e; have = have_nothing pairs keepers };
}

pub memory_settled : {K : Type 0} (pairs : K → Option (List Pair)) (faults : K → ℕ) (named : Job) (held : Option Held) (old new : Asking)
    (keepers : List K)
    → new.faults ≡ old.faults → ForSome held (λ files. AsksBy ending.Memory (names_asked named files) old.names new.names)
    → Settled pairs faults (Some named) held ending.Memory old new keepers keepers
memory_settled pairs faults named held old new keepers calm asked = record {
  words = tt;
  folder = calm;
  number = refl;
  counts = counts_same faults keepers;
  cause = tt;
  over = λ files e. record { outcome = tt; asked = asked files e; have = have_prefix pairs keepers _ };
}

-- octets
pub octets_settled : {K : Type 0} (pairs : K → Option (List Pair)) (faults : K → ℕ) (named : Job) (held : Option Held) (old new : Asking)
    (keepers : List K) (octets : List ℕ)
    → gives_octets named ≡ true → new.faults ≡ old.faults → ForSome held (λ files. run_outcome named files ≡ Ok (OfOctets octets))
    → ForSome held (λ files. new.names ≡ old.names ++ names_asked named files)
    → Settled pairs faults (Some named) held (ending.Written octets) old new keepers keepers
octets_settled pairs faults named held old new keepers octets gives calm outcome asked = record {
  words = gives;
  folder = calm;
  number = refl;
  counts = counts_same faults keepers;
  cause = tt;
  over = λ files e. record { outcome = outcome files e; asked = asked files e; have = have_none pairs keepers _ (ap (pairs_by (views_of named)) (outcome files e)) };
}

-- a report
report_words : (named : Job) (views : Option (List ℕ)) (found : Validated) (x : Ending) → is_validation named ≡ true → views_of named ≡ views
    → ReportEnds views found x → EndsWords (Some named) x
report_words named views found ending.Usage v same d = d
report_words named views found ending.ReadFault v same d = absurd d
report_words named views found ending.Memory v same d = tt
report_words named views found (ending.ViewFault view keeper) v same d = (v, rw same d.0)
report_words named views found (ending.Refused refusal line) v same d = tt
report_words named views found (ending.Reported told text) v same d = v
report_words named views found (ending.Written octets) v same d = absurd d

report_counts : (views : Option (List ℕ)) (found : Validated) (x : Ending) (before now : ℕ) → ReportEnds views found x → now ≡ before
    → FolderCounts x before now
report_counts views found ending.Usage before now d is = is
report_counts views found ending.ReadFault before now d is = absurd d
report_counts views found ending.Memory before now d is = is
report_counts views found (ending.ViewFault view keeper) before now d is = is
report_counts views found (ending.Refused refusal line) before now d is = is
report_counts views found (ending.Reported told text) before now d is = is
report_counts views found (ending.Written octets) before now d is = is

report_settles : (views : Option (List ℕ)) (outcome : Result Answer Refusal) (found : Validated) (x : Ending) → ReportEnds views found x
    → outcome ≡ Ok (OfReport found) → Settles views outcome x
report_settles views outcome found ending.Usage d is = d
report_settles views outcome found ending.ReadFault d is = tt
report_settles views outcome found ending.Memory d is = tt
report_settles views outcome found (ending.ViewFault view keeper) d is = rw is d
report_settles views outcome found (ending.Refused refusal line) d is = absurd d
report_settles views outcome found (ending.Reported told text) d is =
    (is ∙ ap (λ v. Ok (OfReport v)) (sym d.0), d.1 ∙ ap validated_text (sym d.0))
report_settles views outcome found (ending.Written octets) d is = absurd d

pub report_settled : {K : Type 0} (pairs : K → Option (List Pair)) (faults : K → ℕ) (named : Job) (views : Option (List ℕ))
    (held : Option Held) (x : Ending) (old new : Asking) (keepers keepers' : List K) (found : Validated)
    → is_validation named ≡ true → views_of named ≡ views → ReportEnds views found x → KeepersHave
    (pairs_for views found.report) x pairs keepers keepers'
    → length keepers' ≡ length keepers → CountsStand faults keepers keepers' → ViewCause faults x keepers keepers'
    → new.faults ≡ old.faults → ForSome held (λ files. run_outcome named files ≡ Ok (OfReport found)) → ForSome held
    (λ files. new.names ≡ old.names ++ names_asked named files)
    → Settled pairs faults (Some named) held x old new keepers keepers'
report_settled pairs faults named views held x old new keepers keepers' found is_job same d have number counts cause calm outcome asked =
    record {
      words = report_words named views found x is_job same d;
      folder = report_counts views found x old.faults new.faults d calm;
      number = number;
      counts = counts;
      cause = cause;
      over = λ files e. record {
        outcome = rw same (report_settles views (run_outcome named files) found x d (outcome files e));
        asked = asks_by x (names_asked named files) old.names new.names (asked files e);
        have = rw (same, outcome files e) have;
      };
    }

-- ---- from the steps of a job to its outcome

pub reported_ok : (outcome : Result Validated Refusal) (found : Validated) → outcome ≡ Ok found → reported outcome ≡ Ok (OfReport found)
reported_ok outcome found e = ap reported e

pub reported_err : (outcome : Result Validated Refusal) (cause : Refusal) → outcome ≡ Err cause → reported outcome ≡ Err cause
reported_err outcome cause e = ap reported e

pub written_ok : (outcome : Result (List ℕ) Refusal) (octets : List ℕ) → outcome ≡ Ok octets → written outcome ≡ Ok (OfOctets octets)
written_ok outcome octets e = ap written e

pub written_err : (outcome : Result (List ℕ) Refusal) (cause : Refusal) → outcome ≡ Err cause → written outcome ≡ Err cause
written_err outcome cause e = ap written e

-- what a command comes to that gives octets
pub found_settled : {K : Type 0} (pairs : K → Option (List Pair)) (faults : K → ℕ) (named : Job) (held : Option Held)
    (outcome : Held → Result (List ℕ) Refusal) (found : Result (List ℕ) Stop) (x : Ending) (old new : Asking) (keepers : List K)
    → gives_octets named ≡ true → ((files : Held) → run_outcome named files ≡ written (outcome files))
    → OctetsEnd found x → ForSome held (λ files. Answers found (outcome files))
    → ForSome held (λ files. AsksAll found (names_asked named files) old.names new.names) → StopCounts found old.faults new.faults
    → Settled pairs faults (Some named) held x old new keepers keepers
found_settled pairs faults named held outcome (Ok octets) x old new keepers gives is ends answers asks counts =
    rw ends
    (octets_settled pairs faults named held old new keepers octets gives counts (λ files e. is files ∙ written_ok _ _ (answers files e)) asks)
found_settled pairs faults named held outcome (Err (stop.Refused cause)) x old new keepers gives is ends answers asks counts =
    refusal_settled pairs faults named held x old new keepers cause ends counts
    (λ files e. is files ∙ written_err _ _ (answers files e)) asks
found_settled pairs faults named held outcome (Err stop.ReadFault) x old new keepers gives is ends answers asks counts =
    rw ends (fault_settled pairs faults named held old new keepers counts asks)
found_settled pairs faults named held outcome (Err stop.Memory) x old new keepers gives is ends answers asks counts =
    rw ends (memory_settled pairs faults named held old new keepers counts asks)

-- ---- words that name no job, and want of memory for them

pub usage_settled : {K : Type 0} (pairs : K → Option (List Pair)) (faults : K → ℕ) (held : Option Held) (old : Asking) (keepers : List K)
    → Settled pairs faults None held ending.Usage old old keepers keepers
usage_settled pairs faults held old keepers = record {
  words = tt;
  folder = refl;
  number = refl;
  counts = counts_same faults keepers;
  cause = tt;
  over = λ files e. record { outcome = tt; asked = sym (append-nil old.names); have = have_nothing pairs keepers };
}

memory_words : (named : Option Job) → EndsWords named ending.Memory
memory_words None = tt
memory_words (Some job) = tt

memory_settles : (named : Option Job) (files : Held) → SettlesWords named files ending.Memory
memory_settles None files = tt
memory_settles (Some job) files = tt

pub words_memory_settled : {K : Type 0} (pairs : K → Option (List Pair)) (faults : K → ℕ) (named : Option Job) (held : Option Held)
    (old : Asking) (keepers : List K)
    → Settled pairs faults named held ending.Memory old old keepers keepers
words_memory_settled pairs faults named held old keepers = record {
  words = memory_words named;
  folder = refl;
  number = refl;
  counts = counts_same faults keepers;
  cause = tt;
  over = λ files e. record { outcome = memory_settles named files; asked = (0, sym (append-nil old.names)); have = have_prefix pairs keepers _ };
}

-- What a job comes to over the files that a folder holds, and the names that it asks for.
use Rattle.std.specs.Prelude.{ℕ, Bool, true, false, List, [], ◌∷◌, length, is_some, encode_utf8_all, Option, Some, None, Result, Ok, Err}
use Rattle.sig_base.specs.Outcomes.{and_then}
use Rattle.sig_outside.specs.Told.{Held}
use Rattle.signed_views.specs.Handing.{Pair, pairs_of}
use Rattle.signed_views.specs.Names.{view_names}
use Rattle.transforms.specs.declared.outcome.Report.{Report}
use Rattle.transforms.specs.declared.outcome.Report.TheVariants as verdict
use Rattle.job_words.specs.declared.job.Job.{Job}
use Rattle.job_words.specs.declared.job.Job.TheVariants as job
use Rattle.xmldsig.specs.Form.{form_outcome}
use Rattle.xmldsig.specs.SelfTest.{line_outcome}
use Rattle.xmldsig.specs.Sign.{signing_names, signing_outcome}
use Rattle.xmldsig.specs.Template.{options_for, template_outcome}
use Rattle.xmldsig.specs.Validation.{validation_names, validation_outcome}
use Rattle.xmldsig.specs.declared.ending.Refusal.{Refusal}
use Rattle.xmldsig.specs.declared.ending.Validated.{Validated}

-- what a command comes to where it isn't refused: the report of a validation and the lines of Manifests beside it, or octets
pub data Answer : Type 0 where
  OfReport : Validated → Answer
  OfOctets : List ℕ → Answer

-- ---- which of the two a job gives

abbrev pub is_validation : Job → Bool
is_validation (job.Validate asked views manifests) = true
is_validation other = false

abbrev pub gives_octets : Job → Bool
gives_octets (job.Validate asked views manifests) = false
gives_octets other = true

-- ---- what a job comes to

abbrev pub reported : Result Validated Refusal → Result Answer Refusal
reported outcome = and_then outcome (λ v. Ok (OfReport v))

abbrev pub written : Result (List ℕ) Refusal → Result Answer Refusal
written outcome = and_then outcome (λ octets. Ok (OfOctets octets))

-- the answer of a job, or its first refusal
abbrev pub run_outcome : Job → Held → Result Answer Refusal
run_outcome (job.Validate asked views manifests) files = reported (validation_outcome asked (is_some views) manifests files)
run_outcome (job.Canon doc method id xpath prefixes) files = written (form_outcome doc method id xpath prefixes files)
run_outcome (job.Sign asked) files = written (signing_outcome asked files)
run_outcome (job.Template doc mac digest key) files = written (template_outcome doc (options_for mac digest key) files)
run_outcome (job.SelfTest paragraphs) files = written (line_outcome paragraphs)

-- the names that a job asks for, up to its first refusal
abbrev pub names_asked : Job → Held → List (List ℕ)
names_asked (job.Validate asked views manifests) files = validation_names asked (is_some views) manifests files
names_asked (job.Canon doc method id xpath prefixes) files = encode_utf8_all doc ∷ []
names_asked (job.Sign asked) files = signing_names asked files
names_asked (job.Template doc mac digest key) files = encode_utf8_all doc ∷ []
names_asked (job.SelfTest paragraphs) files = []

-- ---- the views

-- the folder for the views, where they are asked for
abbrev pub views_of : Job → Option (List ℕ)
views_of (job.Validate asked views manifests) = views
views_of other = None

-- the views of a valid report, under their names, in the order of the References, where they are asked for
abbrev pub pairs_for : Option (List ℕ) → Report → List Pair
pairs_for (Some dir) (verdict.Valid views) = pairs_of (view_names (encode_utf8_all dir) (length views.octets)) views.octets
pairs_for (Some dir) other = []
pairs_for None other = []

abbrev pub pairs_by : Option (List ℕ) → Result Answer Refusal → List Pair
pairs_by views (Ok (OfReport told)) = pairs_for views told.report
pairs_by views (Ok (OfOctets octets)) = []
pairs_by views (Err cause) = []

-- ---- the same of words, which may name no job

abbrev pub names_for : Option Job → Held → List (List ℕ)
names_for None files = []
names_for (Some named) files = names_asked named files

-- what each keeper is to receive: nothing, unless the answer is valid and views are asked for
abbrev pub wanted : Option Job → Held → List Pair
wanted None files = []
wanted (Some named) files = pairs_by (views_of named) (run_outcome named files)

abbrev pub IsValid : Report → Type 0
IsValid (verdict.Valid views) = Unit {0}
IsValid other = ⊥

abbrev pub IsValidOutcome : Result Answer Refusal → Type 0
IsValidOutcome (Ok (OfReport told)) = IsValid told.report
IsValidOutcome (Ok (OfOctets octets)) = ⊥
IsValidOutcome (Err cause) = ⊥

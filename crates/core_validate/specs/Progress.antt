-- What is known behind some References of a SignedInfo, and what one more makes of it.
use Rattle.std.specs.Prelude.{◌≡◌, ℕ, ◌+◌, ◌≤◌, Bool, List, [], ◌∷◌, ◌++◌, length, Option, Some, None, Result, Ok, Err, if◌then◌else◌}
use Rattle.sig_base.specs.Outcomes.{and_then, with_cause}
use Rattle.sig_outside.specs.Told.{Held}
use Rattle.xml_doc.specs.Rows.{RowOf}
use Rattle.uri_refs.specs.declared.target.Place.{Place}
use Rattle.dsig_fields.specs.Verdicts.{differing}
use Rattle.dsig_fields.specs.declared.fields.Reference.{Reference}
use Rattle.transforms.specs.Outcome.{Sources, kept_if, last_step, next_view, total_limit, within_total}
use Rattle.transforms.specs.Steps.{octet_limit}
use Rattle.transforms.specs.declared.outcome.Report.{Report}
use Rattle.transforms.specs.declared.outcome.Report.TheVariants as report
use Rattle.transforms.specs.declared.outcome.ValidateRefusal.{ValidateRefusal}
use Rattle.transforms.specs.declared.outcome.ValidateRefusal.TheVariants as refusal
use Rattle.transforms.specs.declared.refusal.RefRefusal.TheVariants.{FetchFailed, Memory}
use Rattle.core_validate.specs.Answers.{IsOwnCause}
use Rattle.core_validate.specs.declared.progress.Progress.{Progress}

abbrev pub sources_of : List RowOf → (signature : ℕ) → Place → Held → Sources
sources_of rows signature place files = record { rows = rows; signature = signature; place = place; files = files }

-- nothing is known yet
abbrev pub no_progress : Bool → Progress
no_progress keep = record { keep = keep; total = 0; views = record { lengths = []; octets = [] }; differing = [] }

-- with the octets of one more view, if there are any
abbrev pub with_octets : Option (List ℕ) → Progress → Progress
with_octets None p = p
with_octets (Some octets) p = record {
  keep = p.keep;
  total = p.total;
  views = record { lengths = p.views.lengths; octets = p.views.octets ++ octets ∷ [] };
  differing = p.differing;
}

-- with the length of one more view, whose Reference has this number and whose digest holds, or doesn't
abbrev pub noted : (number length : ℕ) → (holds : Bool) → Progress → Progress
noted number length holds p = record {
  keep = p.keep;
  total = p.total + length;
  views = record { lengths = p.views.lengths ++ length ∷ []; octets = p.views.octets };
  differing = p.differing ++ (if holds then [] else number ∷ []);
}

-- with the view of one more Reference, of this number
abbrev pub with_view : (number : ℕ) → Reference → List ℕ → Progress → Progress
with_view number reference view p = record {
  keep = p.keep;
  total = p.total + length view;
  views = record { lengths = p.views.lengths ++ length view ∷ []; octets = p.views.octets ++ kept_if p.keep (view ∷ []) };
  differing = p.differing ++ differing number (reference ∷ []) (view ∷ []);
}

-- the same, unless the views together are too long
abbrev pub with_limited : (number : ℕ) → Reference → (view : List ℕ) → Progress → Result Progress ValidateRefusal
with_limited number reference view p =
    and_then (with_cause (refusal.Reference number) (within_total p.total (last_step reference) view))
    (λ v. Ok (with_view number reference v p))

-- with one more Reference, of this number, unless it is refused
unfoldable pub with_reference : Sources → (number : ℕ) → Reference → Progress → Result Progress ValidateRefusal
with_reference sources number reference p =
    and_then (with_cause (refusal.Reference number) (next_view sources p.total reference)) (λ view. Ok (with_view number reference view p))

-- a view within the limits was added
pub record Advances (number : ℕ) (reference : Reference) (old new : Progress) : Type 0 where
  pub view : List ℕ
  pub within : length view ≤ octet_limit
  pub fits : old.total + length view ≤ total_limit
  pub is : new ≡ with_view number reference view old

-- the report of these lengths, views and numbers
abbrev pub report_with : (lengths : List ℕ) → (octets : List (List ℕ)) → (differ : List ℕ) → Report
report_with lengths octets [] = report.Valid (record { lengths = lengths; octets = octets })
report_with lengths octets (number ∷ more) = report.DigestsDiffer (number ∷ more)

-- the same of one Reference
abbrev pub IsOwnStop : {A : Type 0} → Result A ValidateRefusal → Type 0
IsOwnStop (Ok done) = Unit {0}
IsOwnStop (Err (refusal.Reference number cause)) = IsOwnCause cause
IsOwnStop (Err refusal.FetchFailed) = Unit {0}
IsOwnStop (Err refusal.Memory) = Unit {0}
IsOwnStop (Err other) = ⊥

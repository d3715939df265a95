-- References one behind the other: what the code knows behind some of them, and the report that the rest makes of it.
use Rattle.std.proofs.Common.{◌≡◌, ℕ, ◌+◌, ◌<◌, ◌≤◌, Bool, true, false, List, [], ◌∷◌, ◌++◌, length, map, sum, Option, Some, None, Result, Ok, Err, refl, ap, sym, subst, ◌∙◌, arith, append_assoc}
use Rattle.std.specs.Prelude.{if◌then◌else◌}
use Rattle.std.specs.List.{All}
use Rattle.std.proofs.lemmas.Bool.{le-leb, lt-leb}
use Rattle.std.proofs.lemmas.List.{append-nil, length_push, map-append}
use Rattle.std.proofs.lemmas.List.Elements.{All-push}
use Rattle.std.proofs.lemmas.List.Sums.{fold_push}
use Rattle.sig_base.specs.Outcomes as outcomes
use Rattle.sig_base.specs.Outcomes.{and_then, with_cause}
use Rattle.dsig_fields.specs.Holds.{digest_holds}
use Rattle.dsig_fields.specs.Verdicts.{differing}
use Rattle.dsig_fields.specs.declared.fields.Reference.{Reference}
use Rattle.transforms.specs.Answers.{names_of}
use Rattle.transforms.specs.Answers as views
use Rattle.transforms.specs.Asked.{names_behind, or_nothing}
use Rattle.transforms.specs.Outcome.{Sources, kept_if, last_step, next_view, references_report, report_by, total_limit, views_behind, within_total}
use Rattle.transforms.specs.Steps.{octet_limit}
use Rattle.transforms.specs.Values.{origin_of}
use Rattle.transforms.specs.Views.{target_in, view_of}
use Rattle.transforms.specs.declared.outcome.Report.{Report}
use Rattle.transforms.specs.declared.outcome.ValidateRefusal.{ValidateRefusal}
use Rattle.transforms.specs.declared.outcome.ValidateRefusal.TheVariants as refusal
use Rattle.transforms.specs.declared.refusal.RefRefusal.{RefRefusal}
use Rattle.transforms.specs.declared.refusal.RefRefusal.TheVariants as reason
use Rattle.transforms.specs.declared.refusal.RefRefusal.TheVariants.{OctetsTooLong}
use Rattle.core_validate.specs.Answers.{Gives, Refuses, Stops}
use Rattle.core_validate.specs.Measures.{measure_of}
use Rattle.core_validate.specs.Code.Measures.{Measures}
use Rattle.core_validate.specs.Progress.{Advances, no_progress, noted, report_with, with_limited, with_octets, with_reference, with_view}
use Rattle.core_validate.specs.Code.Progress.{reference_cause}
use Rattle.core_validate.specs.declared.progress.Progress.{Progress}
use Rattle.core_validate.specs.declared.view.Measured.{Measured}

-- ---- one view
module _ (number : ℕ) (reference : Reference) (view : List ℕ) (p : Progress) where
  abbrev limited_by : Bool → Result Progress ValidateRefusal
  limited_by b =
      and_then (with_cause (refusal.Reference number) (if b then Ok view else Err (OctetsTooLong (last_step reference)))) (λ v. Ok (with_view number reference v p))

  pub too_long : total_limit < p.total + length view → with_limited number reference view p ≡ Err (refusal.Reference number (OctetsTooLong (last_step reference)))
  too_long long = ap limited_by (lt-leb (p.total + length view) total_limit long)

  pub taken : p.total + length view ≤ total_limit → with_limited number reference view p ≡ Ok (with_view number reference view p)
  taken fits = ap limited_by (le-leb (p.total + length view) total_limit fits)

  abbrev with_kept : List (List ℕ) → Progress
  with_kept octets = record {
    keep = p.keep;
    total = p.total + length view;
    views = record { lengths = p.views.lengths ++ length view ∷ []; octets = octets };
    differing = p.differing ++ (if digest_holds reference.digest view reference.expected then [] else number ∷ []);
  }

  -- what is noted of a view, and of its octets where they are kept, is that view
  pub noted_view : (holds : Bool) → holds ≡ digest_holds reference.digest view reference.expected
      → noted number (length view) holds (with_octets (if p.keep then Some view else None) p) ≡ with_view number reference view p
  unfolding differing
  noted_view holds e = rw e (go p.keep)
    where
      go : (keep : Bool) → noted number (length view) (digest_holds reference.digest view reference.expected) (with_octets (if keep then Some view else None) p) ≡ with_kept (p.views.octets ++ kept_if keep (view ∷ []))
      go true = refl
      go false = ap with_kept (sym (append-nil p.views.octets))

pub noted_is : (number : ℕ) (reference : Reference) (p q r : Progress) (measured : Measured) (view : List ℕ) (holds : Bool)
    → measured ≡ measure_of p.keep reference.digest view → holds ≡ digest_holds reference.digest view reference.expected
    → q ≡ with_octets measured.octets p → r ≡ noted number measured.length holds q → r ≡ with_view number reference view p
noted_is number reference p q r measured view holds e f g h =
    h ∙ ap (λ (x : Progress). noted number measured.length holds x) g
    ∙ ap (λ (m : Measured). noted number m.length holds (with_octets m.octets p)) e
    ∙ noted_view number reference view p holds f

-- ---- one Reference
module _ (sources : Sources) (number : ℕ) (reference : Reference) (p : Progress) where
  abbrev viewed : Result (List ℕ) RefRefusal → Result Progress ValidateRefusal
  viewed r =
      and_then (with_cause (refusal.Reference number) (and_then r (within_total p.total (last_step reference)))) (λ view. Ok (with_view number reference view p))

  by_view : with_reference sources number reference p ≡ viewed (view_of (origin_of sources.rows (Some sources.signature)) sources.place sources.files reference)
  unfolding with_reference next_view
  by_view = refl

  pub with_its_view : (view : List ℕ) → view_of (origin_of sources.rows (Some sources.signature)) sources.place sources.files reference ≡ Ok view
      → with_reference sources number reference p ≡ with_limited number reference view p
  with_its_view view e = by_view ∙ ap viewed e

  -- a Reference that has no view
  pub without_view : (why : RefRefusal) (keep : Bool) → Measures keep reference.digest (Err why) (view_of (origin_of sources.rows (Some sources.signature)) sources.place sources.files reference)
      → Refuses (reference_cause number why) (with_reference sources number reference p)
  without_view why keep m = go why m
    where
      stops : (w : RefRefusal) → view_of (origin_of sources.rows (Some sources.signature)) sources.place sources.files reference ≡ Err w → with_reference sources number reference p ≡ Err (refusal.Reference number w)
      stops w e = by_view ∙ ap viewed e

      go : (w : RefRefusal) → Measures keep reference.digest (Err w) (view_of (origin_of sources.rows (Some sources.signature)) sources.place sources.files reference) → Refuses (reference_cause number w) (with_reference sources number reference p)
      go (reason.Uri uri) e = stops (reason.Uri uri) e
      go reason.NoSuchId e = stops reason.NoSuchId e
      go (reason.AmbiguousId i j) e = stops (reason.AmbiguousId i j) e
      go reason.Absent e = stops reason.Absent e
      go reason.TooLong e = stops reason.TooLong e
      go (reason.Read step read) e = stops (reason.Read step read) e
      go (reason.NotBase64 step) e = stops (reason.NotBase64 step) e
      go (reason.Syntax step part why) e = stops (reason.Syntax step part why) e
      go (reason.Eval step part why) e = stops (reason.Eval step part why) e
      go (reason.EnvelopedElsewhere step) e = stops (reason.EnvelopedElsewhere step) e
      go (reason.OctetsTooLong step) e = stops (reason.OctetsTooLong step) e
      go reason.FetchFailed e = tt
      go reason.SinkRefused e = tt
      go reason.Memory e = tt

-- what a step says that asks no folder
pub gives_by : {T A : Type 0} (view : T → A) (result : Result T ValidateRefusal) (one other : Result A ValidateRefusal) → other ≡ one
    → outcomes.Gives Stops view result one → Gives view result other
gives_by {T} {A} view (Ok x) one other e g = e ∙ g
gives_by {T} {A} view (Err refusal.NoSignature) one other e g = e ∙ g
gives_by {T} {A} view (Err (refusal.Fields field)) one other e g = e ∙ g
gives_by {T} {A} view (Err refusal.NoKey) one other e g = e ∙ g
gives_by {T} {A} view (Err refusal.UnknownKey) one other e g = e ∙ g
gives_by {T} {A} view (Err refusal.OctetsTooLong) one other e g = e ∙ g
gives_by {T} {A} view (Err (refusal.Reference number why)) one other e g = e ∙ g
gives_by {T} {A} view (Err refusal.FetchFailed) one other e g = tt
gives_by {T} {A} view (Err refusal.Memory) one other e g = tt

-- ---- within the limits
pub record IsWithin (keep : Bool) (count : ℕ) (p : Progress) : Type 0 where
  pub keeps : p.keep ≡ keep
  pub many : length p.views.lengths ≡ count
  pub each : All (λ (n : ℕ). n ≤ octet_limit) p.views.lengths
  pub sums : p.total ≡ sum p.views.lengths
  pub within : p.total ≤ total_limit
  pub octets : map length p.views.octets ≡ (if keep then p.views.lengths else [])

pub nothing_within : (keep : Bool) → IsWithin keep 0 (no_progress keep)
nothing_within keep = record {
  keeps = refl;
  many = refl;
  each = λ k d h. absurd (omega (arith, h));
  sums = refl;
  within = omega arith;
  octets = none keep;
}
  where
    none : (b : Bool) → ◌≡◌ {A = List ℕ} [] (if b then [] else [])
    none true = refl
    none false = refl

kept_lengths : (keep : Bool) (octets : List (List ℕ)) (lengths view : List ℕ) → map length octets ≡ (if keep then lengths else [])
    → map length (octets ++ kept_if keep (view ∷ [])) ≡ (if keep then lengths ++ length view ∷ [] else [])
kept_lengths true octets lengths view e = map-append length octets (view ∷ []) ∙ ap (λ (t : List ℕ). t ++ length view ∷ []) e
kept_lengths false octets lengths view e = ap (map length) (append-nil octets) ∙ e

pub advanced : (keep : Bool) (count number : ℕ) (reference : Reference) (p q : Progress) → IsWithin keep count p → Advances number reference p q → IsWithin keep (count + 1) q
advanced keep count number reference p q h a =
    let P : Progress → Type 0 = IsWithin keep (count + 1) in
    subst P (sym a.is)
    (record {
      keeps = h.keeps;
      many = length_push p.views.lengths (length a.view) ∙ ap (λ (n : ℕ). n + 1) h.many;
      each = All-push (λ (n : ℕ). n ≤ octet_limit) p.views.lengths (length a.view) h.each a.within;
      sums = ap (λ (n : ℕ). n + length a.view) h.sums ∙ sym (fold_push (λ (t x : ℕ). t + x) 0 p.views.lengths (length a.view));
      within = a.fits;
      octets =
          ap (λ (b : Bool). map length (p.views.octets ++ kept_if b (a.view ∷ []))) h.keeps
          ∙ kept_lengths keep p.views.octets p.views.lengths a.view h.octets;
    })

-- ---- the References that are left
-- the report that References, of which the first has this number, make behind those of which this is known
abbrev pub behind : Sources → Progress → (number : ℕ) → List Reference → Result Report ValidateRefusal
behind sources p number references =
    and_then (views_behind sources p.total number references)
    (λ views. Ok (report_with (p.views.lengths ++ map length views) (p.views.octets ++ kept_if p.keep views) (p.differing ++ differing number references views)))

same_report : (keep : Bool) (views : List (List ℕ)) (differ : List ℕ) → report_with (map length views) (kept_if keep views) differ ≡ report_by keep views differ
same_report keep views [] = refl
same_report keep views (number ∷ more) = refl

all_reported : (keep : Bool) (references : List Reference) (r : Result (List (List ℕ)) ValidateRefusal)
    → and_then r (λ views. Ok (report_with (map length views) (kept_if keep views) (differing 1 references views)))
    ≡ and_then r (λ views. Ok (report_by keep views (differing 1 references views)))
all_reported keep references (Ok views) = ap Ok (same_report keep views (differing 1 references views))
all_reported keep references (Err cause) = refl

-- before the first Reference
pub behind_nothing : (sources : Sources) (keep : Bool) (references : List Reference)
    → behind sources (no_progress keep) 1 references ≡ references_report sources keep references
unfolding references_report
behind_nothing sources keep references = all_reported keep references (views_behind sources 0 1 references)

kept-none : (keep : Bool) → kept_if keep [] ≡ []
kept-none true = refl
kept-none false = refl

-- behind the last one
pub behind_all : (sources : Sources) (p : Progress) (number : ℕ) → behind sources p number [] ≡ Ok (report_with p.views.lengths p.views.octets p.differing)
unfolding views_behind differing
behind_all sources p number =
    ap (λ (xs : List ℕ). Ok (report_with xs (p.views.octets ++ kept_if p.keep []) (p.differing ++ []))) (append-nil p.views.lengths)
    ∙ ap (λ (xs : List (List ℕ)). Ok (report_with p.views.lengths xs (p.differing ++ []))) (ap (λ (xs : List (List ℕ)). p.views.octets ++ xs) (kept-none p.keep) ∙ append-nil p.views.octets)
    ∙ ap (λ (xs : List ℕ). Ok (report_with p.views.lengths p.views.octets xs)) (append-nil p.differing)

kept-cons : (keep : Bool) (before : List (List ℕ)) (view : List ℕ) (others : List (List ℕ))
    → before ++ kept_if keep (view ∷ others) ≡ (before ++ kept_if keep (view ∷ [])) ++ kept_if keep others
kept-cons true before view others = sym (append_assoc before (view ∷ []) others)
kept-cons false before view others = sym (append-nil (before ++ []))

differing-cons : (before : List ℕ) (number : ℕ) (reference : Reference) (rest : List Reference) (view : List ℕ) (others : List (List ℕ))
    → before ++ differing number (reference ∷ rest) (view ∷ others)
    ≡ (before ++ differing number (reference ∷ []) (view ∷ [])) ++ differing (number + 1) rest others
unfolding differing
differing-cons before number reference rest view others = go (digest_holds reference.digest view reference.expected)
  where
    go : (b : Bool) → before ++ (if b then differing (number + 1) rest others else number ∷ differing (number + 1) rest others) ≡ (before ++ (if b then [] else number ∷ [])) ++ differing (number + 1) rest others
    go true = ap (λ (xs : List ℕ). xs ++ differing (number + 1) rest others) (sym (append-nil before))
    go false = sym (append_assoc before (number ∷ []) (differing (number + 1) rest others))

module _ (sources : Sources) (number : ℕ) (reference : Reference) (rest : List Reference) (p : Progress) where
  -- the report, by all views from this Reference on
  abbrev reported : List (List ℕ) → Result Report ValidateRefusal
  reported views =
      Ok (report_with (p.views.lengths ++ map length views) (p.views.octets ++ kept_if p.keep views) (p.differing ++ differing number (reference ∷ rest) views))

  -- the views from this one on
  abbrev views_from : List ℕ → Result (List (List ℕ)) ValidateRefusal
  views_from view = and_then (views_behind sources (p.total + length view) (number + 1) rest) (λ others. Ok (view ∷ others))

  reported-cons : (view : List ℕ) (others : List (List ℕ))
      → reported (view ∷ others)
      ≡ (Ok (report_with ((p.views.lengths ++ length view ∷ []) ++ map length others) ((p.views.octets ++ kept_if p.keep (view ∷ [])) ++ kept_if p.keep others)
      ((p.differing ++ differing number (reference ∷ []) (view ∷ [])) ++ differing (number + 1) rest others)))
  reported-cons view others =
      rw (sym (append_assoc p.views.lengths (length view ∷ []) (map length others)), kept-cons p.keep p.views.octets view others, differing-cons p.differing number reference rest view others)

  joined : (view : List ℕ) (r : Result (List (List ℕ)) ValidateRefusal)
      → and_then (and_then r (λ others. Ok (view ∷ others))) reported
      ≡ and_then r (λ others. Ok (report_with ((p.views.lengths ++ length view ∷ []) ++ map length others) ((p.views.octets ++ kept_if p.keep (view ∷ [])) ++ kept_if p.keep others)
      ((p.differing ++ differing number (reference ∷ []) (view ∷ [])) ++ differing (number + 1) rest others)))
  joined view (Ok others) = reported-cons view others
  joined view (Err cause) = refl

  one_taken : (q : Progress) (r : Result (List ℕ) RefRefusal)
      → and_then (with_cause (refusal.Reference number) r) (λ view. Ok (with_view number reference view p)) ≡ Ok q
      → and_then (and_then (with_cause (refusal.Reference number) r) views_from) reported ≡ behind sources q (number + 1) rest
  one_taken q (Ok view) e =
      let same : with_view number reference view p ≡ q = cc in
      joined view (views_behind sources (p.total + length view) (number + 1) rest) ∙ ap (λ (x : Progress). behind sources x (number + 1) rest) same
  one_taken q (Err cause) e = cc

  one_refused : (cause : ValidateRefusal) (r : Result (List ℕ) RefRefusal)
      → and_then (with_cause (refusal.Reference number) r) (λ view. Ok (with_view number reference view p)) ≡ Err cause
      → and_then (and_then (with_cause (refusal.Reference number) r) views_from) reported ≡ Err cause
  one_refused cause (Ok view) e = cc
  one_refused cause (Err first) e = let same : refusal.Reference number first ≡ cause = cc in ap Err same

  -- what is left behind one more Reference
  pub behind_one : (q : Progress) → with_reference sources number reference p ≡ Ok q
      → behind sources p number (reference ∷ rest) ≡ behind sources q (number + 1) rest
  unfolding with_reference views_behind
  behind_one q e = one_taken q (next_view sources p.total reference) e

  -- the first that is refused decides
  pub behind_refused : (cause : ValidateRefusal) → with_reference sources number reference p ≡ Err cause → behind sources p number (reference ∷ rest) ≡ Err cause
  unfolding with_reference views_behind
  behind_refused cause e = one_refused cause (next_view sources p.total reference) e

-- ---- the names that are asked for
abbrev pub next_of : Sources → Progress → Reference → Result (List ℕ) RefRefusal
next_of sources p reference = next_view sources p.total reference

module _ (sources : Sources) (number : ℕ) (reference : Reference) (rest : List Reference) (p : Progress) where
  abbrev pub named : Result (List ℕ) RefRefusal → List (List ℕ)
  named r = or_nothing r (λ view. names_behind sources (p.total + length view) rest)

  one_named : (q : Progress) (r : Result (List ℕ) RefRefusal)
      → and_then (with_cause (refusal.Reference number) r) (λ view. Ok (with_view number reference view p)) ≡ Ok q → named r ≡ names_behind sources q.total rest
  one_named q (Ok view) e =
      let same : with_view number reference view p ≡ q = cc in
      ap (λ (x : Progress). names_behind sources x.total rest) same
  one_named q (Err why) e = cc

  none_named : (why : ValidateRefusal) (r : Result (List ℕ) RefRefusal)
      → and_then (with_cause (refusal.Reference number) r) (λ view. Ok (with_view number reference view p)) ≡ Err why → named r ≡ []
  none_named why (Ok view) e = cc
  none_named why (Err first) e = refl

  pub names_split : names_behind sources p.total (reference ∷ rest) ≡ names_of (target_in sources.place reference) ++ named (next_view sources p.total reference)
  unfolding names_behind
  names_split = refl

  -- behind one more Reference
  pub names_one : (q : Progress) → with_reference sources number reference p ≡ Ok q
      → names_behind sources p.total (reference ∷ rest) ≡ names_of (target_in sources.place reference) ++ names_behind sources q.total rest
  unfolding with_reference
  names_one q e = names_split ∙ ap (λ (t : List (List ℕ)). names_of (target_in sources.place reference) ++ t) (one_named q (next_view sources p.total reference) e)

  -- the first that is refused ends the names
  pub names_last : (why : ValidateRefusal) → with_reference sources number reference p ≡ Err why
      → names_behind sources p.total (reference ∷ rest) ≡ names_of (target_in sources.place reference)
  unfolding with_reference
  names_last why e =
      names_split ∙ ap (λ (t : List (List ℕ)). names_of (target_in sources.place reference) ++ t) (none_named why (next_view sources p.total reference) e)
      ∙ append-nil (names_of (target_in sources.place reference))

pub names_none : (sources : Sources) (total : ℕ) → names_behind sources total [] ≡ []
unfolding names_behind
names_none sources total = refl

-- a refusal of one outcome that makes another one refused so is one of the other
pub refuses_on : {A B : Type 0} (cause : ValidateRefusal) (one : Result A ValidateRefusal) (other : Result B ValidateRefusal)
    → (one ≡ Err cause → other ≡ Err cause) → Refuses cause one → Refuses cause other
refuses_on refusal.NoSignature one other f e = f e
refuses_on (refusal.Fields field) one other f e = f e
refuses_on refusal.NoKey one other f e = f e
refuses_on refusal.UnknownKey one other f e = f e
refuses_on refusal.OctetsTooLong one other f e = f e
refuses_on (refusal.Reference number reference) one other f e = f e
refuses_on refusal.FetchFailed one other f e = tt
refuses_on refusal.Memory one other f e = tt

-- the same of steps that ask no folder
pub stops_on : {A B : Type 0} (cause : ValidateRefusal) (one : Result A ValidateRefusal) (other : Result B ValidateRefusal)
    → (one ≡ Err cause → other ≡ Err cause) → Stops cause one → Stops cause other
stops_on refusal.NoSignature one other f e = f e
stops_on (refusal.Fields field) one other f e = f e
stops_on refusal.NoKey one other f e = f e
stops_on refusal.UnknownKey one other f e = f e
stops_on refusal.OctetsTooLong one other f e = f e
stops_on (refusal.Reference number reference) one other f e = f e
stops_on refusal.FetchFailed one other f e = absurd e
stops_on refusal.Memory one other f e = tt

-- and where the other may ask one
pub refuses_from : {A B : Type 0} (cause : ValidateRefusal) (one : Result A ValidateRefusal) (other : Result B ValidateRefusal)
    → (one ≡ Err cause → other ≡ Err cause) → Stops cause one → Refuses cause other
refuses_from refusal.NoSignature one other f e = f e
refuses_from (refusal.Fields field) one other f e = f e
refuses_from refusal.NoKey one other f e = f e
refuses_from refusal.UnknownKey one other f e = f e
refuses_from refusal.OctetsTooLong one other f e = f e
refuses_from (refusal.Reference number reference) one other f e = f e
refuses_from refusal.FetchFailed one other f e = absurd e
refuses_from refusal.Memory one other f e = tt

-- The views of References one behind the other: what the code knows behind some of them, and what the rest makes of it.
use Rattle.std.proofs.Common.{◌≡◌, ◌∙◌, ℕ, ◌+◌, List, [], ◌∷◌, ◌++◌, length, Some, Result, Ok, Err, refl, ap, sym, subst, inl, inr, append_assoc, append-nil}
use Rattle.std.specs.Prelude.{◌⊎◌, Option, slice_get}
use Rattle.std.specs.List.{All}
use Rattle.std.proofs.lemmas.List.Elements.{All-get_or}
use Rattle.std.proofs.lemmas.Option.{get_or_from_slice_get, slice_get_within}
use Rattle.sig_base.specs.Outcomes as outcomes
use Rattle.sig_base.specs.Outcomes.{and_then, with_cause}
use Rattle.sig_outside.specs.Told.{Held}
use Rattle.uri_refs.specs.declared.target.Place.{Place}
use Rattle.uri_refs.specs.declared.target.Target.{Target}
use Rattle.uri_refs.specs.declared.target.Target.TheVariants as target
use Rattle.dsig_fields.specs.declared.fields.Reference.{Reference}
use Rattle.transforms.specs.Answers as views
use Rattle.transforms.specs.Answers.{Tells, names_of}
use Rattle.transforms.specs.Asked.{names_behind, or_nothing}
use Rattle.transforms.specs.Outcome.{Sources, last_step, next_view, within_total}
use Rattle.transforms.specs.Values.{origin_of}
use Rattle.transforms.specs.Views.{target_in, view_of}
use Rattle.transforms.specs.declared.refusal.RefRefusal.{RefRefusal}
use Rattle.transforms.specs.declared.refusal.RefRefusal.TheVariants as reason
use Rattle.transforms.proofs.AskLaws.{grew_all}
use Rattle.core_validate.specs.Answers.{IsNoFile}
use Rattle.signer.specs.Answers.{AsksAll, FaultCounts, Gives, Refuses}
use Rattle.signer.specs.Outcome.{views_from}
use Rattle.signer.specs.Code.Refusals.{IsOwnStop, reference_cause}
use Rattle.signer.specs.Code.Views.{Limits, Shows, TellsEach, nothing_gathered, with_limited, with_reference, with_view}
use Rattle.signer.specs.declared.refusal.SignRefusal.{SignRefusal}
use Rattle.signer.specs.declared.refusal.SignRefusal.TheVariants as refusal
use Rattle.signer.specs.declared.views.Gathered.{Gathered}

-- ---- members
-- what holds of all members holds of that one
pub all_at : {X : Type 0} (P : X → Type 0) (xs : List X) (k : ℕ) (x : X) → All P xs → Some x ≡ slice_get xs k → P x
all_at P xs k x all e = subst P (get_or_from_slice_get xs k x x (sym e)) (All-get_or P xs k x (slice_get_within xs k x (sym e)) all)

-- a Reference that refers to a file has the files told
pub tells_one : (place : Place) (reference : Reference) (told : Option Held) (files : Held) → (told ≡ Some files) ⊎ IsNoFile (target_in place reference) → Tells (target_in place reference) told files
tells_one place reference told files either = go (target_in place reference) either
  where
    go : (t : Result Target RefRefusal) → (told ≡ Some files) ⊎ IsNoFile t → Tells t told files
    go (Ok (target.Named name)) (inl e) = e
    go (Ok (target.Named name)) (inr h) = absurd h
    go (Ok (target.Whole comments)) h = tt
    go (Ok (target.Element id comments)) h = tt
    go (Err cause) h = tt

pub tells_at : (place : Place) (references : List Reference) (now told : Option Held) (files : Held) (k : ℕ) (r : Reference) → now ≡ told → TellsEach place references told files → Some r ≡ slice_get references k
    → Tells (target_in place r) now files
tells_at place references now told files k r e (inl h) at = tells_one place r now files (inl (e ∙ h))
tells_at place references now told files k r e (inr none) at = tells_one place r now files (inr (all_at (λ (s : Reference). IsNoFile (target_in place s)) references k r none at))

-- ---- one Reference
module _ (sources : Sources) (number : ℕ) (reference : Reference) (g : Gathered) where
  abbrev viewed : Result (List ℕ) RefRefusal → Result Gathered SignRefusal
  viewed r = and_then (with_cause (refusal.Reference number) (and_then r (within_total g.total (last_step reference)))) (λ view. Ok (with_view view g))

  by_view : with_reference sources number reference g ≡ viewed (view_of (origin_of sources.rows (Some sources.signature)) sources.place sources.files reference)
  unfolding with_reference next_view
  by_view = refl

  pub with_its_view : (view : List ℕ) → view_of (origin_of sources.rows (Some sources.signature)) sources.place sources.files reference ≡ Ok view
      → with_reference sources number reference g ≡ with_limited number reference view g
  with_its_view view e = by_view ∙ ap viewed e

  stops : (w : RefRefusal) → view_of (origin_of sources.rows (Some sources.signature)) sources.place sources.files reference ≡ Err w → with_reference sources number reference g ≡ Err (refusal.Reference number w)
  stops w e = by_view ∙ ap viewed e

  pub without_view : (why : RefRefusal) → Shows (Err why) (view_of (origin_of sources.rows (Some sources.signature)) sources.place sources.files reference)
      → Refuses (reference_cause number why) (with_reference sources number reference g)
  without_view (reason.Uri uri) e = stops (reason.Uri uri) e
  without_view reason.NoSuchId e = stops reason.NoSuchId e
  without_view (reason.AmbiguousId i j) e = stops (reason.AmbiguousId i j) e
  without_view reason.Absent e = stops reason.Absent e
  without_view reason.TooLong e = stops reason.TooLong e
  without_view (reason.Read step why_read) e = stops (reason.Read step why_read) e
  without_view (reason.NotBase64 step) e = stops (reason.NotBase64 step) e
  without_view (reason.Syntax step part why_not) e = stops (reason.Syntax step part why_not) e
  without_view (reason.Eval step part why_not) e = stops (reason.Eval step part why_not) e
  without_view (reason.EnvelopedElsewhere step) e = stops (reason.EnvelopedElsewhere step) e
  without_view (reason.OctetsTooLong step) e = stops (reason.OctetsTooLong step) e
  without_view reason.FetchFailed e = tt
  without_view reason.SinkRefused e = tt
  without_view reason.Memory e = tt

-- what a step says that asks no folder
pub limits_give : {T A : Type 0} (view : T → A) (result : Result T SignRefusal) (one other : Result A SignRefusal) → other ≡ one → outcomes.Gives Limits view result one → Gives view result other
limits_give {T} {A} view (Ok x) one other e g = e ∙ g
limits_give {T} {A} view (Err (refusal.Read why_read)) one other e g = absurd g
limits_give {T} {A} view (Err refusal.NoSignature) one other e g = absurd g
limits_give {T} {A} view (Err (refusal.Fields field)) one other e g = absurd g
limits_give {T} {A} view (Err refusal.NoKey) one other e g = absurd g
limits_give {T} {A} view (Err refusal.UnknownKey) one other e g = absurd g
limits_give {T} {A} view (Err (refusal.ShortTruncation bits)) one other e g = absurd g
limits_give {T} {A} view (Err (refusal.NotText row)) one other e g = absurd g
limits_give {T} {A} view (Err (refusal.Reference n cause)) one other e g = e ∙ g
limits_give {T} {A} view (Err (refusal.Filled why_read)) one other e g = absurd g
limits_give {T} {A} view (Err refusal.OctetsTooLong) one other e g = absurd g
limits_give {T} {A} view (Err (refusal.CoversItself n)) one other e g = absurd g
limits_give {T} {A} view (Err refusal.FetchFailed) one other e g = absurd g
limits_give {T} {A} view (Err refusal.Memory) one other e g = tt

pub asked_as : (number : ℕ) (why : RefRefusal) (names old new : List (List ℕ))
    → views.AsksAll {A = Unit {0}} (Err why) names old new → AsksAll {A = Unit {0}} (Err (reference_cause number why)) names old new
asked_as number (reason.Uri uri) names old new e = e
asked_as number reason.NoSuchId names old new e = e
asked_as number (reason.AmbiguousId i j) names old new e = e
asked_as number reason.Absent names old new e = e
asked_as number reason.TooLong names old new e = e
asked_as number (reason.Read step why_read) names old new e = e
asked_as number (reason.NotBase64 step) names old new e = e
asked_as number (reason.Syntax step part why_not) names old new e = e
asked_as number (reason.Eval step part why_not) names old new e = e
asked_as number (reason.EnvelopedElsewhere step) names old new e = e
asked_as number (reason.OctetsTooLong step) names old new e = e
asked_as number reason.FetchFailed names old new e = e
asked_as number reason.SinkRefused names old new e = grew_all names old new e
asked_as number reason.Memory names old new e = e

pub counted_as : (number : ℕ) (why : RefRefusal) (before now : ℕ)
    → views.FaultCounts {A = Unit {0}} (Err why) before now → FaultCounts {A = Unit {0}} (Err (reference_cause number why)) before now
counted_as number (reason.Uri uri) before now e = e
counted_as number reason.NoSuchId before now e = e
counted_as number (reason.AmbiguousId i j) before now e = e
counted_as number reason.Absent before now e = e
counted_as number reason.TooLong before now e = e
counted_as number (reason.Read step why_read) before now e = e
counted_as number (reason.NotBase64 step) before now e = e
counted_as number (reason.Syntax step part why_not) before now e = e
counted_as number (reason.Eval step part why_not) before now e = e
counted_as number (reason.EnvelopedElsewhere step) before now e = e
counted_as number (reason.OctetsTooLong step) before now e = e
counted_as number reason.FetchFailed before now e = e
counted_as number reason.SinkRefused before now e = e
counted_as number reason.Memory before now e = e

pub own_cause : (number : ℕ) (why : RefRefusal) → IsOwnStop {A = Unit {0}} (Err (reference_cause number why))
own_cause number (reason.Uri uri) = tt
own_cause number reason.NoSuchId = tt
own_cause number (reason.AmbiguousId i j) = tt
own_cause number reason.Absent = tt
own_cause number reason.TooLong = tt
own_cause number (reason.Read step why_read) = tt
own_cause number (reason.NotBase64 step) = tt
own_cause number (reason.Syntax step part why_not) = tt
own_cause number (reason.Eval step part why_not) = tt
own_cause number (reason.EnvelopedElsewhere step) = tt
own_cause number (reason.OctetsTooLong step) = tt
own_cause number reason.FetchFailed = tt
own_cause number reason.SinkRefused = tt
own_cause number reason.Memory = tt

-- ---- the References that are left
-- the views of all, where these are known and these References are left, of which the first has this number
abbrev pub behind : Sources → Gathered → (number : ℕ) → List Reference → Result (List (List ℕ)) SignRefusal
behind sources g number references = and_then (views_from sources g.total number references) (λ others. Ok (g.views ++ others))

pub behind_nothing : (sources : Sources) (references : List Reference) → behind sources nothing_gathered 1 references ≡ views_from sources 0 1 references
behind_nothing sources references = go (views_from sources 0 1 references)
  where
    go : (r : Result (List (List ℕ)) SignRefusal) → and_then r (λ others. Ok ([] ++ others)) ≡ r
    go (Ok others) = refl
    go (Err cause) = refl

pub behind_all : (sources : Sources) (g : Gathered) (number : ℕ) → behind sources g number [] ≡ Ok g.views
unfolding views_from
behind_all sources g number = ap Ok (append-nil g.views)

module _ (sources : Sources) (number : ℕ) (reference : Reference) (rest : List Reference) (g : Gathered) where
  joined : (view : List ℕ) (r : Result (List (List ℕ)) SignRefusal)
      → and_then (and_then r (λ others. Ok (view ∷ others))) (λ others. Ok (g.views ++ others)) ≡ and_then r (λ others. Ok ((g.views ++ view ∷ []) ++ others))
  joined view (Ok others) = ap Ok (sym (append_assoc g.views (view ∷ []) others))
  joined view (Err cause) = refl

  abbrev views_after : List ℕ → Result (List (List ℕ)) SignRefusal
  views_after view = and_then (views_from sources (g.total + length view) (number + 1) rest) (λ others. Ok (view ∷ others))

  one_taken : (q : Gathered) (r : Result (List ℕ) RefRefusal) → and_then (with_cause (refusal.Reference number) r) (λ view. Ok (with_view view g)) ≡ Ok q
      → and_then (and_then (with_cause (refusal.Reference number) r) views_after) (λ others. Ok (g.views ++ others)) ≡ behind sources q (number + 1) rest
  one_taken q (Ok view) e =
      let same : with_view view g ≡ q = cc in
      joined view (views_from sources (g.total + length view) (number + 1) rest) ∙ ap (λ (x : Gathered). behind sources x (number + 1) rest) same
  one_taken q (Err cause) e = cc

  one_refused : (cause : SignRefusal) (r : Result (List ℕ) RefRefusal) → and_then (with_cause (refusal.Reference number) r) (λ view. Ok (with_view view g)) ≡ Err cause
      → and_then (and_then (with_cause (refusal.Reference number) r) views_after) (λ others. Ok (g.views ++ others)) ≡ Err cause
  one_refused cause (Ok view) e = cc
  one_refused cause (Err first) e = let same : refusal.Reference number first ≡ cause = cc in ap Err same

  -- what is left behind one more Reference
  pub behind_one : (q : Gathered) → with_reference sources number reference g ≡ Ok q → behind sources g number (reference ∷ rest) ≡ behind sources q (number + 1) rest
  unfolding with_reference views_from
  behind_one q e = one_taken q (next_view sources g.total reference) e

  -- the first that is refused decides
  pub behind_refused : (cause : SignRefusal) → with_reference sources number reference g ≡ Err cause → behind sources g number (reference ∷ rest) ≡ Err cause
  unfolding with_reference views_from
  behind_refused cause e = one_refused cause (next_view sources g.total reference) e

  -- ---- the names that are asked for
  abbrev pub named : Result (List ℕ) RefRefusal → List (List ℕ)
  named r = or_nothing r (λ view. names_behind sources (g.total + length view) rest)

  one_named : (q : Gathered) (r : Result (List ℕ) RefRefusal) → and_then (with_cause (refusal.Reference number) r) (λ view. Ok (with_view view g)) ≡ Ok q → named r ≡ names_behind sources q.total rest
  one_named q (Ok view) e = let same : with_view view g ≡ q = cc in ap (λ (x : Gathered). names_behind sources x.total rest) same
  one_named q (Err why) e = cc

  none_named : (why : SignRefusal) (r : Result (List ℕ) RefRefusal) → and_then (with_cause (refusal.Reference number) r) (λ view. Ok (with_view view g)) ≡ Err why → named r ≡ []
  none_named why (Ok view) e = cc
  none_named why (Err first) e = refl

  pub names_split : names_behind sources g.total (reference ∷ rest) ≡ names_of (target_in sources.place reference) ++ named (next_view sources g.total reference)
  unfolding names_behind
  names_split = refl

  -- behind one more Reference
  pub names_one : (q : Gathered) → with_reference sources number reference g ≡ Ok q
      → names_behind sources g.total (reference ∷ rest) ≡ names_of (target_in sources.place reference) ++ names_behind sources q.total rest
  unfolding with_reference
  names_one q e = names_split ∙ ap (λ (t : List (List ℕ)). names_of (target_in sources.place reference) ++ t) (one_named q (next_view sources g.total reference) e)

  -- the first that is refused ends the names
  pub names_last : (why : SignRefusal) → with_reference sources number reference g ≡ Err why → names_behind sources g.total (reference ∷ rest) ≡ names_of (target_in sources.place reference)
  unfolding with_reference
  names_last why e =
      names_split ∙ ap (λ (t : List (List ℕ)). names_of (target_in sources.place reference) ++ t) (none_named why (next_view sources g.total reference) e)
      ∙ append-nil (names_of (target_in sources.place reference))

abbrev pub next_of : Sources → Gathered → Reference → Result (List ℕ) RefRefusal
next_of sources g reference = next_view sources g.total reference

pub names_none : (sources : Sources) (total : ℕ) → names_behind sources total [] ≡ []
unfolding names_behind
names_none sources total = refl

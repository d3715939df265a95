-- The views of a template and those of the document that is made of it.
use Rattle.std.proofs.Common.{◌≡◌, ◌∙◌, ℕ, ◌+◌, Bool, true, false, List, [], ◌∷◌, ◌++◌, drop, Option, Some, None, Result, Ok, Err, refl, ap, sym, inl, inr, append-nil}
use Rattle.std.specs.Prelude.{IfOk, if◌then◌else◌}
use Rattle.sig_base.specs.Outcomes.{and_then, with_cause}
use Rattle.sig_outside.specs.Told.{Held}
use Rattle.xml_doc.specs.Rows.{RowOf}
use Rattle.xml_read.specs.ReadOutcome as reading
use Rattle.xml_read.specs.ReadOutcome.{read_outcome}
use Rattle.xml_read.specs.declared.read.ReadRefusal.{ReadRefusal}
use Rattle.uri_refs.specs.declared.target.Place.{Place}
use Rattle.dsig_fields.specs.Fields.{fields_of}
use Rattle.dsig_fields.specs.declared.fields.Fields.{Fields}
use Rattle.dsig_fields.specs.declared.fields.Reference.{Reference}
use Rattle.dsig_fields.specs.declared.refusal.FieldRefusal.{FieldRefusal}
use Rattle.transforms.specs.Answers as views
use Rattle.transforms.specs.Answers.{names_of}
use Rattle.transforms.specs.Asked.{or_nothing}
use Rattle.transforms.specs.Outcome.{Sources}
use Rattle.transforms.specs.Values.{origin_of}
use Rattle.transforms.specs.Views.{target_in, view_of}
use Rattle.transforms.specs.declared.refusal.RefRefusal.{RefRefusal}
use Rattle.transforms.specs.declared.refusal.RefRefusal.TheVariants as reason
use Rattle.transforms.proofs.AskLaws.{grew_all}
use Rattle.core_validate.specs.Progress.{sources_of}
use Rattle.signer.specs.Answers.{AsksAll, FaultCounts}
use Rattle.signer.specs.Asked.{names_compared}
use Rattle.signer.specs.Outcome.{first_changed, is_view, references_of, unless}
use Rattle.signer.specs.Code.Comparing.{TellsAgain, TellsMade, compared, made_outcome, names_made, names_of_comparison, not_had}
use Rattle.signer.specs.Code.Filling.{AreThrough, BeginWith}
use Rattle.signer.specs.Code.Refusals.{IsOutside, Stops, filled_cause}
use Rattle.signer.specs.Code.Sealing.{if_fits}
use Rattle.signer.specs.Code.Views.{Shows, TellsEach}
use Rattle.signer.specs.declared.refusal.SignRefusal.TheVariants as refusal
use Rattle.signer.proofs.SigningLaws.{filled_stops}

-- ---- a Reference that has no view
pub not_had_same : (why : RefRefusal) (outcome : Result (List ℕ) RefRefusal) (view : List ℕ) → Shows (Err why) outcome → IfOk (not_had why) (λ same. same ≡ is_view outcome view)
not_had_same (reason.Uri uri) outcome view e = sym (ap (λ (r : Result (List ℕ) RefRefusal). is_view r view) e)
not_had_same reason.NoSuchId outcome view e = sym (ap (λ (r : Result (List ℕ) RefRefusal). is_view r view) e)
not_had_same (reason.AmbiguousId i j) outcome view e = sym (ap (λ (r : Result (List ℕ) RefRefusal). is_view r view) e)
not_had_same reason.Absent outcome view e = sym (ap (λ (r : Result (List ℕ) RefRefusal). is_view r view) e)
not_had_same reason.TooLong outcome view e = sym (ap (λ (r : Result (List ℕ) RefRefusal). is_view r view) e)
not_had_same (reason.Read step why_read) outcome view e = sym (ap (λ (r : Result (List ℕ) RefRefusal). is_view r view) e)
not_had_same (reason.NotBase64 step) outcome view e = sym (ap (λ (r : Result (List ℕ) RefRefusal). is_view r view) e)
not_had_same (reason.Syntax step part why_not) outcome view e = sym (ap (λ (r : Result (List ℕ) RefRefusal). is_view r view) e)
not_had_same (reason.Eval step part why_not) outcome view e = sym (ap (λ (r : Result (List ℕ) RefRefusal). is_view r view) e)
not_had_same (reason.EnvelopedElsewhere step) outcome view e = sym (ap (λ (r : Result (List ℕ) RefRefusal). is_view r view) e)
not_had_same (reason.OctetsTooLong step) outcome view e = sym (ap (λ (r : Result (List ℕ) RefRefusal). is_view r view) e)
not_had_same reason.FetchFailed outcome view e = tt
not_had_same reason.SinkRefused outcome view e = tt
not_had_same reason.Memory outcome view e = tt

pub not_had_outside : (why : RefRefusal) → IsOutside (not_had why)
not_had_outside (reason.Uri uri) = tt
not_had_outside reason.NoSuchId = tt
not_had_outside (reason.AmbiguousId i j) = tt
not_had_outside reason.Absent = tt
not_had_outside reason.TooLong = tt
not_had_outside (reason.Read step why_read) = tt
not_had_outside (reason.NotBase64 step) = tt
not_had_outside (reason.Syntax step part why_not) = tt
not_had_outside (reason.Eval step part why_not) = tt
not_had_outside (reason.EnvelopedElsewhere step) = tt
not_had_outside (reason.OctetsTooLong step) = tt
not_had_outside reason.FetchFailed = tt
not_had_outside reason.SinkRefused = tt
not_had_outside reason.Memory = tt

pub not_had_asks : (why : RefRefusal) (names old new : List (List ℕ)) → views.AsksAll {A = Unit {0}} (Err why) names old new → AsksAll (not_had why) names old new
not_had_asks (reason.Uri uri) names old new e = e
not_had_asks reason.NoSuchId names old new e = e
not_had_asks (reason.AmbiguousId i j) names old new e = e
not_had_asks reason.Absent names old new e = e
not_had_asks reason.TooLong names old new e = e
not_had_asks (reason.Read step why_read) names old new e = e
not_had_asks (reason.NotBase64 step) names old new e = e
not_had_asks (reason.Syntax step part why_not) names old new e = e
not_had_asks (reason.Eval step part why_not) names old new e = e
not_had_asks (reason.EnvelopedElsewhere step) names old new e = e
not_had_asks (reason.OctetsTooLong step) names old new e = e
not_had_asks reason.FetchFailed names old new e = e
not_had_asks reason.SinkRefused names old new e = grew_all names old new e
not_had_asks reason.Memory names old new e = e

pub not_had_counts : (why : RefRefusal) (before now : ℕ) → views.FaultCounts {A = Unit {0}} (Err why) before now → FaultCounts (not_had why) before now
not_had_counts (reason.Uri uri) before now e = e
not_had_counts reason.NoSuchId before now e = e
not_had_counts (reason.AmbiguousId i j) before now e = e
not_had_counts reason.Absent before now e = e
not_had_counts reason.TooLong before now e = e
not_had_counts (reason.Read step why_read) before now e = e
not_had_counts (reason.NotBase64 step) before now e = e
not_had_counts (reason.Syntax step part why_not) before now e = e
not_had_counts (reason.Eval step part why_not) before now e = e
not_had_counts (reason.EnvelopedElsewhere step) before now e = e
not_had_counts (reason.OctetsTooLong step) before now e = e
not_had_counts reason.FetchFailed before now e = e
not_had_counts reason.SinkRefused before now e = e
not_had_counts reason.Memory before now e = e

-- ---- the References that are left
module _ (sources : Sources) where
  abbrev pub had : Reference → Result (List ℕ) RefRefusal
  had reference = view_of (origin_of sources.rows (Some sources.signature)) sources.place sources.files reference

  pub changed_none : (number : ℕ) (rs : List Reference) (vs : List (List ℕ)) → AreThrough rs vs → first_changed sources number rs vs ≡ None
  unfolding first_changed
  changed_none number [] vs h = refl
  changed_none number (r ∷ rs) [] h = refl
  changed_none number (r ∷ rs) (v ∷ vs) h = absurd h

  pub compared_none : (rs : List Reference) (vs : List (List ℕ)) → AreThrough rs vs → names_compared sources rs vs ≡ []
  unfolding names_compared
  compared_none [] vs h = refl
  compared_none (r ∷ rs) [] h = refl
  compared_none (r ∷ rs) (v ∷ vs) h = absurd h

  module _ (references : List Reference) (others : List (List ℕ)) (k : ℕ) (r : Reference) (v : List ℕ) (b : BeginWith k references others r v) where
    split : (number : ℕ) → first_changed sources number (drop k references) (drop k others)
        ≡ (if is_view (had r) v then first_changed sources (number + 1) (drop (k + 1) references) (drop (k + 1) others) else Some number)
    unfolding first_changed
    split number = ap (λ rs. first_changed sources number rs (drop k others)) b.references_are ∙ ap (first_changed sources number (r ∷ drop (k + 1) references)) b.views_are

    pub same_next : (number : ℕ) → is_view (had r) v ≡ true → first_changed sources number (drop k references) (drop k others) ≡ first_changed sources (number + 1) (drop (k + 1) references) (drop (k + 1) others)
    same_next number e = split number ∙ ap (λ (t : Bool). if t then first_changed sources (number + 1) (drop (k + 1) references) (drop (k + 1) others) else Some number) e

    pub changed_here : (number : ℕ) → is_view (had r) v ≡ false → first_changed sources number (drop k references) (drop k others) ≡ Some number
    changed_here number e = split number ∙ ap (λ (t : Bool). if t then first_changed sources (number + 1) (drop (k + 1) references) (drop (k + 1) others) else Some number) e

    abbrev pub more_names : Bool → List (List ℕ)
    more_names same = if same then names_compared sources (drop (k + 1) references) (drop (k + 1) others) else []

    pub names_split : names_compared sources (drop k references) (drop k others) ≡ names_of (target_in sources.place r) ++ more_names (is_view (had r) v)
    unfolding names_compared
    names_split = ap (λ rs. names_compared sources rs (drop k others)) b.references_are ∙ ap (names_compared sources (r ∷ drop (k + 1) references)) b.views_are

    pub names_next : is_view (had r) v ≡ true → names_compared sources (drop k references) (drop k others) ≡ names_of (target_in sources.place r) ++ names_compared sources (drop (k + 1) references) (drop (k + 1) others)
    names_next e = names_split ∙ ap (λ (t : Bool). names_of (target_in sources.place r) ++ more_names t) e

    pub names_here : is_view (had r) v ≡ false → names_compared sources (drop k references) (drop k others) ≡ names_of (target_in sources.place r)
    names_here e = names_split ∙ ap (λ (t : Bool). names_of (target_in sources.place r) ++ more_names t) e ∙ append-nil (names_of (target_in sources.place r))

-- ---- a document that is read
module _ (rows : List RowOf) (signature : ℕ) (place : Place) (others : List (List ℕ)) (fields : Fields) (is : fields_of rows signature ≡ Ok fields) where
  pub compared_by : (files : Held) (o : Option ℕ) → o ≡ first_changed (sources_of rows signature place files) 1 fields.references others → compared (sources_of rows signature place files) others ≡ unless refusal.CoversItself o
  compared_by files o e =
      ap (λ (r : Result Fields FieldRefusal). unless refusal.CoversItself (first_changed (sources_of rows signature place files) 1 (references_of r) others)) is
      ∙ ap (unless refusal.CoversItself) (sym e)

  pub comparison_by : (files : Held) → names_of_comparison (sources_of rows signature place files) others ≡ names_compared (sources_of rows signature place files) fields.references others
  comparison_by files = ap (λ (r : Result Fields FieldRefusal). names_compared (sources_of rows signature place files) (references_of r) others) is

  pub tells_again : (told : Option Held) (files : Held) → TellsAgain place rows signature told files → TellsEach place fields.references told files
  tells_again told files (inl e) = inl e
  tells_again told files (inr none) = inr (none fields is)

-- ---- octets that are read
module _ (signature : ℕ) (place : Place) (made : List ℕ) (fits : Bool) (others : List (List ℕ)) where
  pub tells_read : (rows : List RowOf) (told : Option Held) (files : Held) → read_outcome made ≡ Ok rows → TellsMade place made signature told files → TellsAgain place rows signature told files
  tells_read rows told files is (inl e) = inl e
  tells_read rows told files is (inr none) = inr (λ fields e. none rows fields is e)

  module _ (files : Held) where
    made_at : (r : Result (List RowOf) ReadRefusal) → read_outcome made ≡ r → made_outcome signature place files made fits others
        ≡ and_then (with_cause refusal.Filled r) (λ rows. and_then (if_fits fits) (λ within. compared (sources_of rows signature place files) others))
    unfolding made_outcome
    made_at r e = ap (λ (o : Result (List RowOf) ReadRefusal). and_then (with_cause refusal.Filled o) (λ rows. and_then (if_fits fits) (λ within. compared (sources_of rows signature place files) others))) e

    made_names_at : (r : Result (List RowOf) ReadRefusal) → read_outcome made ≡ r → names_made signature place files made fits others
        ≡ or_nothing r (λ rows. or_nothing (if_fits fits) (λ within. names_of_comparison (sources_of rows signature place files) others))
    unfolding names_made
    made_names_at r e = ap (λ (o : Result (List RowOf) ReadRefusal). or_nothing o (λ rows. or_nothing (if_fits fits) (λ within. names_of_comparison (sources_of rows signature place files) others))) e

    pub made_too_long : (rows : List RowOf) → read_outcome made ≡ Ok rows → fits ≡ false → made_outcome signature place files made fits others ≡ Err refusal.OctetsTooLong
    made_too_long rows e f = made_at (Ok rows) e ∙ ap (λ (b : Bool). and_then (if_fits b) (λ within. compared (sources_of rows signature place files) others)) f

    pub names_too_long : (rows : List RowOf) → read_outcome made ≡ Ok rows → fits ≡ false → names_made signature place files made fits others ≡ []
    names_too_long rows e f = made_names_at (Ok rows) e ∙ ap (λ (b : Bool). or_nothing (if_fits b) (λ within. names_of_comparison (sources_of rows signature place files) others)) f

    pub made_fits : (rows : List RowOf) → read_outcome made ≡ Ok rows → fits ≡ true → made_outcome signature place files made fits others ≡ compared (sources_of rows signature place files) others
    made_fits rows e f = made_at (Ok rows) e ∙ ap (λ (b : Bool). and_then (if_fits b) (λ within. compared (sources_of rows signature place files) others)) f

    pub names_fit : (rows : List RowOf) → read_outcome made ≡ Ok rows → fits ≡ true → names_made signature place files made fits others ≡ names_of_comparison (sources_of rows signature place files) others
    names_fit rows e f = made_names_at (Ok rows) e ∙ ap (λ (b : Bool). or_nothing (if_fits b) (λ within. names_of_comparison (sources_of rows signature place files) others)) f

    pub made_stops : (cause : ReadRefusal) → reading.Refuses cause (read_outcome made) → Stops (filled_cause cause) (made_outcome signature place files made fits others)
    unfolding made_outcome
    made_stops cause e = filled_stops (read_outcome made) (λ rows. and_then (if_fits fits) (λ within. compared (sources_of rows signature place files) others)) cause e

    pub names_stop : (why : ReadRefusal) → read_outcome made ≡ Err why → names_made signature place files made fits others ≡ []
    names_stop why e = made_names_at (Err why) e

-- The views of a template and those of the document that is made of it.
use Rattle.std.specs.Prelude.{◌≡◌, ◌⊎◌, ℕ, Bool, false, List, Option, Some, Result, Ok, Err}
use Rattle.std.specs.List.{All}
use Rattle.sig_base.specs.Outcomes.{and_then, with_cause}
use Rattle.sig_outside.specs.Told.{Held}
use Rattle.xml_doc.specs.Rows.{RowOf}
use Rattle.xml_read.specs.ReadOutcome.{read_outcome}
use Rattle.uri_refs.specs.declared.target.Place.{Place}
use Rattle.dsig_fields.specs.Fields.{fields_of}
use Rattle.dsig_fields.specs.declared.fields.Fields.{Fields}
use Rattle.dsig_fields.specs.declared.fields.Reference.{Reference}
use Rattle.transforms.specs.Asked.{or_nothing}
use Rattle.transforms.specs.Outcome.{Sources}
use Rattle.transforms.specs.Views.{target_in}
use Rattle.transforms.specs.declared.refusal.RefRefusal.{RefRefusal}
use Rattle.transforms.specs.declared.refusal.RefRefusal.TheVariants as reason
use Rattle.core_validate.specs.Answers.{IsNoFile}
use Rattle.core_validate.specs.Progress.{sources_of}
use Rattle.signer.specs.Asked.{names_compared}
use Rattle.signer.specs.Outcome.{first_changed, references_of, unless}
use Rattle.signer.specs.Code.Sealing.{if_fits}
use Rattle.signer.specs.declared.refusal.SignRefusal.{SignRefusal}
use Rattle.signer.specs.declared.refusal.SignRefusal.TheVariants as refusal

-- a Reference that has no view hasn't the one that is compared, unless the folder failed or memory wasn't given
abbrev pub not_had : RefRefusal → Result Bool SignRefusal
not_had reason.FetchFailed = Err refusal.FetchFailed
not_had reason.SinkRefused = Err refusal.Memory
not_had reason.Memory = Err refusal.Memory
not_had cause = Ok false

-- the folder tells these files, or none of the References that are read again refers to one
abbrev pub TellsAgain : Place → List RowOf → (signature : ℕ) → Option Held → Held → Type 0
TellsAgain place rows signature told files =
    (told ≡ Some files)
    ⊎ ((fields : Fields) → fields_of rows signature ≡ Ok fields
    → All (λ (reference : Reference). IsNoFile (target_in place reference)) fields.references)

-- the comparison in a document that is read again, and the files for which it asks
abbrev pub compared : Sources → (views : List (List ℕ)) → Result (Unit {0}) SignRefusal
compared sources views =
    unless refusal.CoversItself (first_changed sources 1 (references_of (fields_of sources.rows sources.signature)) views)

abbrev pub names_of_comparison : Sources → (views : List (List ℕ)) → List (List ℕ)
names_of_comparison sources views = names_compared sources (references_of (fields_of sources.rows sources.signature)) views

-- the same of octets that have to be read
abbrev pub TellsMade : Place → (made : List ℕ) → (signature : ℕ) → Option Held → Held → Type 0
TellsMade place made signature told files =
    (told ≡ Some files)
    ⊎ ((rows : List RowOf) (fields : Fields) → read_outcome made ≡ Ok rows → fields_of rows signature ≡ Ok fields
    → All (λ (reference : Reference). IsNoFile (target_in place reference)) fields.references)

-- what is made, once it is read again
unfoldable pub made_outcome : (signature : ℕ) → Place → Held → (made : List ℕ) → (fits : Bool) → (views : List (List ℕ)) → Result (Unit {0}) SignRefusal
made_outcome signature place files made fits views =
    and_then (with_cause refusal.Filled (read_outcome made))
    (λ rows. and_then (if_fits fits) (λ within. compared (sources_of rows signature place files) views))

-- the files for which that asks
unfoldable pub names_made : (signature : ℕ) → Place → Held → (made : List ℕ) → (fits : Bool) → (views : List (List ℕ)) → List (List ℕ)
names_made signature place files made fits views =
    or_nothing (read_outcome made)
    (λ rows. or_nothing (if_fits fits) (λ within. names_of_comparison (sources_of rows signature place files) views))

-- What is known behind some References of a template, and what one more makes of it.
use Rattle.std.specs.Prelude.{◌≡◌, ◌⊎◌, ◌+◌, ℕ, List, [], ◌∷◌, ◌++◌, length, Option, Some, Result, Ok, Err}
use Rattle.std.specs.List.{All}
use Rattle.sig_base.specs.Outcomes.{and_then, with_cause}
use Rattle.sig_outside.specs.Told.{Held}
use Rattle.uri_refs.specs.declared.target.Place.{Place}
use Rattle.dsig_fields.specs.declared.fields.Reference.{Reference}
use Rattle.transforms.specs.Code.Answers as ref
use Rattle.transforms.specs.Outcome.{Sources, last_step, next_view, within_total}
use Rattle.transforms.specs.Views.{target_in}
use Rattle.transforms.specs.declared.refusal.RefRefusal.{RefRefusal}
use Rattle.transforms.specs.declared.refusal.RefRefusal.TheVariants as reason
use Rattle.core_validate.specs.Answers.{IsNoFile}
use Rattle.signer.specs.declared.refusal.SignRefusal.{SignRefusal}
use Rattle.signer.specs.declared.refusal.SignRefusal.TheVariants as refusal
use Rattle.signer.specs.declared.views.Gathered.{Gathered}

-- the view of a Reference, unless the folder failed or memory wasn't given
abbrev pub Shows : Result (List ℕ) RefRefusal → Result (List ℕ) RefRefusal → Type 0
Shows (Ok view) outcome = outcome ≡ Ok view
Shows (Err reason.FetchFailed) outcome = Unit {0}
Shows (Err cause) outcome = ref.Refuses cause outcome

-- a refusal of a step that asks no folder: the views together are too long, or memory wasn't given
abbrev pub Limits : {A : Type 0} → SignRefusal → Result A SignRefusal → Type 0
Limits (refusal.Reference number cause) outcome = outcome ≡ Err (refusal.Reference number cause)
Limits refusal.Memory outcome = Unit {0}
Limits other outcome = ⊥

-- nothing is known yet
abbrev pub nothing_gathered : Gathered
nothing_gathered = record { total = 0; views = [] }

-- with one more view
abbrev pub with_view : List ℕ → Gathered → Gathered
with_view view g = record { total = g.total + length view; views = g.views ++ view ∷ [] }

-- the same, unless the views together are too long
abbrev pub with_limited : (number : ℕ) → Reference → (view : List ℕ) → Gathered → Result Gathered SignRefusal
with_limited number reference view g =
    and_then (with_cause (refusal.Reference number) (within_total g.total (last_step reference) view)) (λ v. Ok (with_view v g))

-- with one more Reference, of this number, unless it is refused
unfoldable pub with_reference : Sources → (number : ℕ) → Reference → Gathered → Result Gathered SignRefusal
with_reference sources number reference g =
    and_then (with_cause (refusal.Reference number) (next_view sources g.total reference)) (λ view. Ok (with_view view g))

-- the folder tells these files, or none of these References refers to one
abbrev pub TellsEach : Place → List Reference → Option Held → Held → Type 0
TellsEach place references told files =
    (told ≡ Some files) ⊎ All (λ (reference : Reference). IsNoFile (target_in place reference)) references

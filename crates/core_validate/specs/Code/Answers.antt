use Rattle.std.specs.Prelude.{◌≡◌, ◌⊎◌, List, Option, Some}
use Rattle.std.specs.List.{All}
use Rattle.sig_outside.specs.Told.{Held}
use Rattle.uri_refs.specs.declared.target.Place.{Place}
use Rattle.dsig_fields.specs.declared.fields.Reference.{Reference}
use Rattle.transforms.specs.Views.{target_in}
use Rattle.core_validate.specs.Answers.{IsNoFile}

-- the folder tells these files, or none of these References refers to one
abbrev pub TellsEach : Place → List Reference → Option Held → Held → Type 0
TellsEach place references told files =
    (told ≡ Some files) ⊎ All (λ (reference : Reference). IsNoFile (target_in place reference)) references

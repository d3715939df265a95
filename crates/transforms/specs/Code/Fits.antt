-- What holds of the steps of a Reference that is read from a document.
use Rattle.std.specs.Prelude.{◌≡◌, ◌<◌, ◌≤◌, ℕ, List, length, Option, Some}
use Rattle.std.specs.List.{All}
use Rattle.dsig_fields.specs.Fits.{StepFits}
use Rattle.dsig_fields.specs.declared.fields.Step.{Step}
use Rattle.xml_doc.specs.Rows.{RowOf}

-- the steps fit the document, and the Signature that contains them, if one does, is a row of it
pub record ChainFits (rows : List RowOf) (signature : Option ℕ) (steps : List Step) : Type 0 where
  pub row : (g : ℕ) → signature ≡ Some g → g < length rows
  pub few : length steps ≤ 16
  pub fit : All (StepFits rows) steps

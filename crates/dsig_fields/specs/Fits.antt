-- What holds of the fields that are read from a document, beyond what they say: each row that they name is an element of it, and
-- they keep within the limits.
use Rattle.std.specs.Prelude.{◌≡◌, ℕ, ◌+◌, ◌<◌, ◌≤◌, true, false, List, [], ◌∷◌, length, map, Some}
use Rattle.std.specs.List.{All}
use Rattle.sig_base.specs.Methods.{is_exclusive}
use Rattle.sig_base.specs.declared.method.CanonMethod.{CanonMethod}
use Rattle.xml_doc.specs.Rows.{RowOf}
use Rattle.dsig_fields.specs.Lengths.{may_keep}
use Rattle.dsig_fields.specs.Reading.{is_element_at}
use Rattle.dsig_fields.specs.declared.fields.Filter.{Filter}
use Rattle.dsig_fields.specs.declared.fields.Step.{Step}
use Rattle.dsig_fields.specs.declared.fields.Step.TheVariants as step
use Rattle.dsig_fields.specs.declared.fields.Reference.{Reference}
use Rattle.dsig_fields.specs.declared.fields.Info.{Info}
use Rattle.dsig_fields.specs.declared.fields.Fields.{Fields}

-- row x is an element
pub record IsElement (rows : List RowOf) (x : ℕ) : Type 0 where
  pub within : x < length rows
  pub element : is_element_at rows x ≡ true

-- a method that isn't exclusive has no PrefixList
abbrev pub PrefixesFit : CanonMethod → List (List ℕ) → Type 0
PrefixesFit method prefixes = is_exclusive method ≡ false → prefixes ≡ []

abbrev pub FilterFits : List RowOf → Filter → Type 0
FilterFits rows filter = IsElement rows filter.row

abbrev pub StepFits : List RowOf → Step → Type 0
StepFits rows (step.Canon method prefixes) = PrefixesFit method prefixes
StepFits rows step.Base64 = Unit {0}
StepFits rows (step.XPath row text) = IsElement rows row
StepFits rows (step.Filters filters) = (length filters ≤ 16) × All (FilterFits rows) filters
StepFits rows step.Enveloped = Unit {0}

pub record ReferenceFits (rows : List RowOf) (reference : Reference) : Type 0 where
  pub row : IsElement rows reference.row
  pub digest_row : IsElement rows reference.digest_row
  pub few : length reference.steps ≤ 16
  pub steps : All (StepFits rows) reference.steps

pub record InfoFits (rows : List RowOf) (info : Info) : Type 0 where
  pub prefixes : PrefixesFit info.canon info.prefixes
  pub bits : (n : ℕ) → info.bits ≡ Some n → may_keep info.mac n ≡ true
  pub few : length info.references ≤ 256
  pub references : All (ReferenceFits rows) info.references

-- numbers that rise, from this one on
abbrev pub Rises : ℕ → List ℕ → Type 0
Rises from [] = Unit {0}
Rises from (x ∷ rest) = (from ≤ x) × Rises (x + 1) rest

pub record FieldsFit (rows : List RowOf) (fields : Fields) : Type 0 where
  pub signed_info : IsElement rows fields.signed_info
  pub value_row : IsElement rows fields.value_row
  pub prefixes : PrefixesFit fields.canon fields.prefixes
  pub bits : (n : ℕ) → fields.bits ≡ Some n → may_keep fields.mac n ≡ true
  pub few : length fields.references ≤ 256
  pub references : All (ReferenceFits rows) fields.references
  -- in document order: the DigestValues stand one behind the other, behind SignedInfo, and SignatureValue behind them all
  pub digest_rows : Rises (fields.signed_info + 1) (map (λ (r : Reference). r.digest_row) fields.references)
  pub value_behind : All (λ (r : Reference). r.digest_row < fields.value_row) fields.references

-- The fields of a signature in a document whose rows stand for those of another one.
use Rattle.std.specs.Prelude.{◌≡◌, ℕ, Bool, true, false, ◌||◌, List, [], ◌∷◌, Ok}
use Rattle.xml_doc.specs.Rows.{RowOf}
use Rattle.xml_doc.specs.Shape.{row_at}
use Rattle.dsig_fields.specs.Reading.{attribute, children, is_named}
use Rattle.dsig_fields.specs.Simple.{simple_octets}
use Rattle.dsig_fields.specs.declared.names.ElementName.TheVariants.{DigestValue, SignatureValue}
use Rattle.dsig_fields.specs.declared.fields.Filter.{Filter}
use Rattle.dsig_fields.specs.declared.fields.Step.{Step}
use Rattle.dsig_fields.specs.declared.fields.Step.TheVariants as step
use Rattle.dsig_fields.specs.declared.fields.Reference.{Reference}
use Rattle.dsig_fields.specs.declared.fields.Fields.{Fields}

-- lists of one length, whose members belong together one by one
abbrev pub Pairwise : {A B : Type 0} → (A → B → Type 0) → List A → List B → Type 0
Pairwise R [] [] = Unit {0}
Pairwise R [] (y ∷ ys) = ⊥
Pairwise R (x ∷ xs) [] = ⊥
Pairwise R (x ∷ xs) (y ∷ ys) = R x y × Pairwise R xs ys

-- an element whose content is a digest or the signature value (XML Signature 1.1 §4.3, §4.4.3.6)
abbrev pub is_value : List RowOf → ℕ → Bool
is_value rows x = is_named rows DigestValue x || is_named rows SignatureValue x

-- row x is kept, and y is the number that it has now
abbrev pub moved_by : (number : ℕ → ℕ) (kept : ℕ → Bool) → ℕ → ℕ → Type 0
moved_by number kept x y = (kept x ≡ true) × (y ≡ number x)

-- Row y of the others stands for row x, where `moves x y`: it is the same node, its attributes say the same, its children stand
-- for those of x. Where x is a digest or the signature value, its octets are what `content` makes of those of x.
pub record StandsFor (moves : ℕ → ℕ → Type 0) (content : ℕ → List ℕ → List ℕ) (rows others : List RowOf) : Type 0 where
  pub kind : (x y : ℕ) → moves x y → (row_at others y).kind ≡ (row_at rows x).kind
  pub local_name : (x y : ℕ) → moves x y → (row_at others y).local_name ≡ (row_at rows x).local_name
  pub uri : (x y : ℕ) → moves x y → (row_at others y).uri ≡ (row_at rows x).uri
  pub value : (x y : ℕ) → moves x y → (row_at others y).value ≡ (row_at rows x).value
  pub attributes : (x y : ℕ) → moves x y → (name : List ℕ) → attribute others y name ≡ attribute rows x name
  pub children : (x y : ℕ) → moves x y → is_value rows x ≡ false → Pairwise moves (children rows x) (children others y)
  pub octets : (x y : ℕ) → moves x y → is_value rows x ≡ true → (octets : List ℕ) → simple_octets rows x ≡ Ok octets
      → simple_octets others y ≡ Ok (content x octets)

pub record FilterMoves (moves : ℕ → ℕ → Type 0) (f g : Filter) : Type 0 where
  pub kind : f.kind ≡ g.kind
  pub row : moves f.row g.row
  pub text : f.text ≡ g.text

abbrev pub StepMoves : (moves : ℕ → ℕ → Type 0) → Step → Step → Type 0
StepMoves moves (step.XPath row text) (step.XPath row' text') = moves row row' × (text ≡ text')
StepMoves moves (step.Filters filters) (step.Filters filters') = Pairwise (FilterMoves moves) filters filters'
StepMoves moves s t = s ≡ t

pub record ReferenceMoves (moves : ℕ → ℕ → Type 0) (content : ℕ → List ℕ → List ℕ) (r s : Reference) : Type 0 where
  pub row : moves r.row s.row
  pub uri : r.uri ≡ s.uri
  pub manifest : r.manifest ≡ s.manifest
  pub steps : Pairwise (StepMoves moves) r.steps s.steps
  pub digest : r.digest ≡ s.digest
  pub digest_row : moves r.digest_row s.digest_row
  pub expected : s.expected ≡ content r.digest_row r.expected

pub record FieldsMove (moves : ℕ → ℕ → Type 0) (content : ℕ → List ℕ → List ℕ) (f g : Fields) : Type 0 where
  pub signature : moves f.signature g.signature
  pub signed_info : moves f.signed_info g.signed_info
  pub value_row : moves f.value_row g.value_row
  pub canon : f.canon ≡ g.canon
  pub prefixes : f.prefixes ≡ g.prefixes
  pub mac : f.mac ≡ g.mac
  pub bits : f.bits ≡ g.bits
  pub references : Pairwise (ReferenceMoves moves content) f.references g.references
  pub value : g.value ≡ content f.value_row f.value
  pub key_name : f.key_name ≡ g.key_name

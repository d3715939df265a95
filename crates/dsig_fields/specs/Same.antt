-- SignedInfo elements that say the same, row numbers aside: XML Signature 1.1, section 4.4. They may stand in two documents, of which
-- one leaves out the comments of the other. A text that a comment splits there is one text here, so texts are compared octet by octet.
use Rattle.std.specs.Prelude.{◌≡◌, ℕ, zero, suc, List, [], ◌∷◌, ◌++◌, map, Ok}
use Rattle.xml_doc.specs.Rows.{RowOf}
use Rattle.xml_doc.specs.Shape.{row_at}
use Rattle.xml_doc.specs.declared.row.Kind.{Kind}
use Rattle.xml_doc.specs.declared.row.Kind.TheVariants.{Text, Comment, Instruction}
use Rattle.dsig_fields.specs.Fields.{info_fields}
use Rattle.dsig_fields.specs.Reading.{attribute, children}
use Rattle.dsig_fields.specs.declared.fields.Filter.{Filter}
use Rattle.dsig_fields.specs.declared.fields.Info.{Info}
use Rattle.dsig_fields.specs.declared.fields.Reference.{Reference}
use Rattle.dsig_fields.specs.declared.fields.Step.{Step}
use Rattle.dsig_fields.specs.declared.fields.Step.TheVariants as step

-- ---- what children say
-- what stands between two tags: an octet of a text, an instruction, or an element by its row (a row that is no child in any document
-- is told as an element is, and differs by its kind)
pub data Item : Type 0 where
  Octet : ℕ → Item
  Aside : Item
  Inner : ℕ → Item

-- what child y says, before what is said behind it. A comment says nothing
abbrev pub told_before : ℕ → Kind → List ℕ → List Item → List Item
told_before y Text value rest = map Octet value ++ rest
told_before y Comment value rest = rest
told_before y Instruction value rest = Aside ∷ rest
told_before y other value rest = Inner y ∷ rest

abbrev pub items : List RowOf → List ℕ → List Item
items rows [] = []
items rows (y ∷ ys) = told_before y (row_at rows y).kind (row_at rows y).value (items rows ys)

-- ---- elements that say the same
-- lists of one length, whose members belong together one by one
abbrev pub Pairwise : {A : Type 0} → (A → A → Type 0) → List A → List A → Type 0
Pairwise R [] [] = Unit {0}
Pairwise R [] (y ∷ ys) = ⊥
Pairwise R (x ∷ xs) [] = ⊥
Pairwise R (x ∷ xs) (y ∷ ys) = R x y × Pairwise R xs ys

-- `alike` tells which rows below say the same
abbrev pub SameItem : (alike : ℕ → ℕ → Type 0) → Item → Item → Type 0
SameItem alike (Octet c) (Octet d) = c ≡ d
SameItem alike Aside Aside = Unit {0}
SameItem alike (Inner x) (Inner z) = alike x z
SameItem alike one other = ⊥

abbrev pub SameItems : (alike : ℕ → ℕ → Type 0) → List Item → List Item → Type 0
SameItems alike = Pairwise (SameItem alike)

-- Row z of the others says what row x says: it is a node of the same kind and name, with the same attributes in no namespace, and
-- what stands in it is alike. Attributes in a namespace and namespace nodes may differ
pub record SaysTheSame (alike : ℕ → ℕ → Type 0) (rows others : List RowOf) (x z : ℕ) : Type 0 where
  pub kind : (row_at others z).kind ≡ (row_at rows x).kind
  pub local_name : (row_at others z).local_name ≡ (row_at rows x).local_name
  pub uri : (row_at others z).uri ≡ (row_at rows x).uri
  pub attributes : (name : List ℕ) → attribute others z name ≡ attribute rows x name
  pub content : SameItems alike (items rows (children rows x)) (items others (children others z))

-- so many levels deep
abbrev pub SameTo : (depth : ℕ) → (rows others : List RowOf) → (x z : ℕ) → Type 0
SameTo zero rows others x z = Unit {0}
SameTo (suc depth) rows others x z = SaysTheSame (SameTo depth rows others) rows others x z

-- however deep
abbrev pub SameElement : (rows : List RowOf) → (x : ℕ) → (others : List RowOf) → (z : ℕ) → Type 0
SameElement rows x others z = (depth : ℕ) → SameTo depth rows others x z

-- ---- what is read of them
pub record SameFilter (one other : Filter) : Type 0 where
  pub kind : one.kind ≡ other.kind
  pub text : one.text ≡ other.text

abbrev pub SameStep : Step → Step → Type 0
SameStep (step.XPath row text) (step.XPath row' text') = text ≡ text'
SameStep (step.Filters filters) (step.Filters filters') = Pairwise SameFilter filters filters'
SameStep one other = one ≡ other

pub record SameReference (one other : Reference) : Type 0 where
  pub uri : one.uri ≡ other.uri
  pub manifest : one.manifest ≡ other.manifest
  pub steps : Pairwise SameStep one.steps other.steps
  pub digest : one.digest ≡ other.digest
  pub expected : one.expected ≡ other.expected

pub record SameInfo (one other : Info) : Type 0 where
  pub canon : one.canon ≡ other.canon
  pub prefixes : one.prefixes ≡ other.prefixes
  pub mac : one.mac ≡ other.mac
  pub bits : one.bits ≡ other.bits
  pub references : Pairwise SameReference one.references other.references

-- where the fields of a SignedInfo can be read, those of one that says the same can be read too, and are the same
abbrev pub InfoSaysTheSame : Type 0
InfoSaysTheSame =
    (rows others : List RowOf) (x z : ℕ) (f : Info) → SameElement rows x others z → info_fields rows x ≡ Ok f
    → (g : Info) × (info_fields others z ≡ Ok g) × SameInfo f g

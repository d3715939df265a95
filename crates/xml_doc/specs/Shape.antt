-- When a list of rows is that of a document: XPath 1.0, section 5.
use Rattle.std.specs.Prelude.{◌≡◌, ◌≢◌, ℕ, ◌<◌, ◌≤◌, ◌+◌, true, List, length, [], slice_index_or, codes}
use Rattle.std.specs.Cmp.Lexicographic.{slice_cmp}
use Rattle.std.specs.declared.cmp.Ordering.TheVariants.{Less}
use Rattle.std.specs.Ordering.{nat_cmp, ordering_then}
pub use Rattle.sig_base.specs.Names.{xml_name}
use Rattle.xml_doc.specs.Kinds.{is_element, is_field, is_inner}
use Rattle.xml_doc.specs.Fits.{fields_fit}
use Rattle.xml_doc.specs.Rows.{RowOf, plain_row}
use Rattle.xml_doc.specs.declared.row.Kind.TheVariants.{Root, Element, Namespace, Attribute, Text}

-- what stands past the end of a list, of which nothing is said
abbrev pub no_row : RowOf
no_row = plain_row Root 0 0

-- the row of that number
abbrev pub row_at : List RowOf → ℕ → RowOf
row_at rows i = slice_index_or rows i no_row

-- Each row but the root stands behind its parent, and its subtree lies in that of its parent. So a subtree that began behind
-- the parent has ended. Only the root and elements have rows below them. Document order: XPath 1.0, section 5
pub record IsNested (rows : List RowOf) : Type 0 where
  pub parent_before : (i : ℕ) → 0 < i → i < length rows → (row_at rows i).parent < i
  pub last_from : (i : ℕ) → i < length rows → i ≤ (row_at rows i).last
  pub last_within : (i : ℕ) → i < length rows → (row_at rows i).last ≤ (row_at rows (row_at rows i).parent).last
  pub ended : (i j : ℕ) → i < length rows → (row_at rows i).parent < j → j < i → (row_at rows j).last < i
  pub parent_inner : (i : ℕ) → i < length rows → is_inner (row_at rows (row_at rows i).parent).kind ≡ true

-- Only elements have namespace and attribute rows, which stand between the element and its children: XPath 1.0, sections 5
-- and 5.1 to 5.4. The namespace rows come first, in order of prefix, and then the attribute rows, in order of namespace name
-- and local name: Canonical XML 1.0, section 2.2
pub record FieldsStand (rows : List RowOf) : Type 0 where
  pub field_of_element : (i : ℕ)
      → i < length rows → is_field (row_at rows i).kind ≡ true → is_element (row_at rows (row_at rows i).parent).kind ≡ true
  pub fields_first : (i j : ℕ) → i < length rows → is_field (row_at rows i).kind ≡ true
      → (row_at rows i).parent < j → j < i → is_field (row_at rows j).kind ≡ true
  pub namespaces_first : (i j : ℕ) → i < length rows → (row_at rows i).kind ≡ Namespace
      → (row_at rows i).parent < j → j < i → (row_at rows j).kind ≡ Namespace
  pub namespace_order : (i : ℕ) → i + 1 < length rows
      → (row_at rows i).kind ≡ Namespace → (row_at rows (i + 1)).kind ≡ Namespace → (row_at rows i).parent ≡ (row_at rows (i + 1)).parent
      → slice_cmp nat_cmp (row_at rows i).local_name (row_at rows (i + 1)).local_name ≡ Less
  pub attribute_order : (i : ℕ) → i + 1 < length rows
      → (row_at rows i).kind ≡ Attribute → (row_at rows (i + 1)).kind ≡ Attribute → (row_at rows i).parent ≡ (row_at rows (i + 1)).parent
      → ordering_then
      (slice_cmp nat_cmp (row_at rows i).uri (row_at rows (i + 1)).uri)
      (slice_cmp nat_cmp (row_at rows i).local_name (row_at rows (i + 1)).local_name)
      ≡ Less

-- element e has a namespace row of this prefix
abbrev pub HasNamespace : List RowOf → ℕ → List ℕ → Type 0
HasNamespace rows e prefix =
    (k : ℕ) × (k < length rows) × ((row_at rows k).kind ≡ Namespace) × ((row_at rows k).parent ≡ e) × ((row_at rows k).local_name ≡ prefix)

-- element e has a namespace row that binds `xml` to its own name
abbrev pub HasXml : List RowOf → ℕ → Type 0
HasXml rows e =
    (k : ℕ) × (k < length rows) × ((row_at rows k).kind ≡ Namespace) × ((row_at rows k).parent ≡ e)
    × ((row_at rows k).local_name ≡ codes "xml") × ((row_at rows k).value ≡ xml_name)

-- An element has a namespace row of every prefix but the default that its parent has, and one of `xml`; a default that was
-- undeclared has no row: XPath 1.0, section 5.4, and Namespaces in XML 1.0, section 6.1
pub record NamespacesStand (rows : List RowOf) : Type 0 where
  pub inherits : (j e : ℕ) → e < length rows → (row_at rows e).kind ≡ Element
      → j < length rows → (row_at rows j).kind ≡ Namespace
      → (row_at rows j).parent ≡ (row_at rows e).parent → (row_at rows j).local_name ≢ []
      → HasNamespace rows e (row_at rows j).local_name
  pub xml_bound : (e : ℕ) → e < length rows → (row_at rows e).kind ≡ Element → HasXml rows e
  pub default_named : (i : ℕ)
      → i < length rows → (row_at rows i).kind ≡ Namespace → (row_at rows i).local_name ≡ [] → (row_at rows i).value ≢ []

-- A text has at least one character and stands in an element, and texts that would stand side by side are one row: XPath 1.0,
-- section 5.7
pub record TextsStand (rows : List RowOf) : Type 0 where
  pub text_some : (i : ℕ) → i < length rows → (row_at rows i).kind ≡ Text → (row_at rows i).value ≢ []
  pub text_in_element : (i : ℕ)
      → i < length rows → (row_at rows i).kind ≡ Text → is_element (row_at rows (row_at rows i).parent).kind ≡ true
  pub texts_apart : (i : ℕ) → i + 1 < length rows
      → (row_at rows i).kind ≡ Text → (row_at rows (i + 1)).kind ≡ Text → (row_at rows i).parent ≢ (row_at rows (i + 1)).parent

-- the root has one child that is an element, the document element: XML 1.0, section 2.1
pub record HasDocumentElement (rows : List RowOf) : Type 0 where
  pub element : ℕ
  pub within : element < length rows
  pub kind : (row_at rows element).kind ≡ Element
  pub parent : (row_at rows element).parent ≡ 0
  pub only : (i : ℕ) → i < length rows → (row_at rows i).kind ≡ Element → (row_at rows i).parent ≡ 0 → i ≡ element

-- The rows are those of a document. The first row is the root, its own parent; all rows are in its subtree, and no other row
-- is a root: XPath 1.0, section 5.1. A row says nothing but what a node of its kind has: XPath 1.0, sections 5.1 to 5.7
pub record IsWellShaped (rows : List RowOf) : Type 0 where
  pub some : 0 < length rows
  pub root_kind : (row_at rows 0).kind ≡ Root
  pub root_parent : (row_at rows 0).parent ≡ 0
  pub root_last : (row_at rows 0).last + 1 ≡ length rows
  pub one_root : (i : ℕ) → 0 < i → i < length rows → (row_at rows i).kind ≢ Root
  pub document_element : HasDocumentElement rows
  pub nesting : IsNested rows
  pub fields : FieldsStand rows
  pub namespaces : NamespacesStand rows
  pub texts : TextsStand rows
  pub fit : (i : ℕ) → i < length rows → fields_fit (row_at rows i) ≡ true

-- The canonical form of a SignedInfo element, read again (XML Signature 1.1, sections 3.2.2, 4.3 and 4.4; Canonical XML 1.0,
-- section 2.3).
use Rattle.std.specs.Prelude.{◌≡◌, ℕ, ◌<◌, Bool, List, [], length, map, Some, Ok, encode_utf8_all}
use Rattle.std.specs.Str.{chars}
use Rattle.xml_doc.specs.Rows.{RowOf}
use Rattle.xml_doc.specs.Shape.{row_at}
use Rattle.xml_doc.specs.declared.row.Kind.TheVariants.{Element}
use Rattle.xml_syntax.specs.Characters.{characters}
use Rattle.xml_syntax.specs.Grammar.{SpellsDocument}
use Rattle.xml_syntax.specs.Tree.{Content}
use Rattle.xml_resolve.specs.Resolve.{Resolved, resolve}
use Rattle.xml_resolve.specs.Rows.{rows_of}
use Rattle.xml_read.specs.Spelled.{Spells}
use Rattle.node_sets.specs.Members.{in_subtree}
use Rattle.c14n_text.specs.Namespaces.{Rule}
use Rattle.c14n_text.specs.Canon.{canon}
use Rattle.c14n_methods.specs.Methods.{canonical_form}
use Rattle.dsig_fields.specs.Fields.{fields_of, info_fields}
use Rattle.dsig_fields.specs.Same.{SameElement, SameInfo}
use Rattle.dsig_fields.specs.declared.fields.Fields.{Fields}
use Rattle.dsig_fields.specs.declared.fields.Info.{Info}

-- the canonical form of an element of a document, read again, says what the element says. Row 1 is the document element: nothing
-- stands before it
abbrev pub ElementsSayTheSame : Type 0
ElementsSayTheSame =
    (rule : Rule) (comments : Bool) (at : ℕ) (text : List ℕ) (t u : Content) (r s : Resolved) (x : ℕ)
    → SpellsDocument (characters at text) t → resolve [] t ≡ Some r
    → x < length (rows_of r) → (row_at (rows_of r) x).kind ≡ Element
    → SpellsDocument (characters 0 (chars (canon rule comments (rows_of r) (in_subtree (rows_of r) x)))) u → resolve [] u ≡ Some s
    → SameElement (rows_of r) x (rows_of s) 1

-- what a signature has of its SignedInfo
abbrev pub info_of : Fields → Info
info_of fields = record {
  canon = fields.canon;
  prefixes = fields.prefixes;
  mac = fields.mac;
  bits = fields.bits;
  references = fields.references;
}

-- the octets that were signed: the canonical form of SignedInfo by its own CanonicalizationMethod
abbrev pub signed_octets : List RowOf → Fields → List ℕ
signed_octets rows fields = canonical_form fields.canon (map encode_utf8_all fields.prefixes) rows (in_subtree rows fields.signed_info)

-- these octets are read as rows of which the first element says the same of all that a SignedInfo says
pub record FixTheFields (octets : List ℕ) (fields : Fields) : Type 0 where
  pub others : List RowOf
  pub spelled : Spells octets others
  pub fixed : (read : List RowOf) → Spells octets read → (g : Info) × (info_fields read 1 ≡ Ok g) × SameInfo (info_of fields) g

-- the octets that were signed do so, for each signature that can be read
abbrev pub SignedOctetsFixTheFields : Type 0
SignedOctetsFixTheFields =
    (octets : List ℕ) (rows : List RowOf) (x : ℕ) (fields : Fields) → Spells octets rows → fields_of rows x ≡ Ok fields
    → FixTheFields (signed_octets rows fields) fields

-- A template that is filled in: XML Signature 1.1, sections 3.1.1 and 3.1.2.
use Rattle.std.specs.Prelude.{◌≡◌, ℕ, ◌&&◌, true, List, [], ◌∷◌, ◌++◌, length, Some, Ok}
use Rattle.digests_hmac.specs.Hash.{hash, hmac_of, kept}
use Rattle.dsig_base64.specs.Loose.{base64_of}
use Rattle.xml_doc.specs.Rows.{RowOf}
use Rattle.xml_read.specs.Spelled.{Spells}
use Rattle.dsig_fields.specs.Fields.{fields_of}
use Rattle.dsig_fields.specs.Holds.{signature_holds, value_bits}
use Rattle.dsig_fields.specs.Signatures.{nth_signature}
use Rattle.dsig_fields.specs.declared.fields.Fields.{Fields}
use Rattle.dsig_fields.specs.declared.fields.Reference.{Reference}
use Rattle.transforms.specs.Outcome.{canonical_signed_info}
use Rattle.core_validate.specs.Laws.{references_hold}
use Rattle.row_fills.specs.Fillings.{Filling, filling, filled_in}

-- the digest of a view, as the content of its DigestValue (section 4.4.3.6)
abbrev pub digest_filling : Reference → List ℕ → Filling
digest_filling reference view = filling reference.digest_row (base64_of (hash reference.digest view)) (hash reference.digest view)

abbrev pub digest_fillings : List Reference → List (List ℕ) → List Filling
digest_fillings [] views = []
digest_fillings (reference ∷ more) [] = []
digest_fillings (reference ∷ more) (view ∷ others) = digest_filling reference view ∷ digest_fillings more others

-- the template with the digests filled in, and nothing in its SignatureValue
abbrev pub unsigned : List ℕ → List RowOf → Fields → (views : List (List ℕ)) → List ℕ
unsigned octets rows fields views = filled_in octets rows (digest_fillings fields.references views ++ filling fields.value_row [] [] ∷ [])

-- the same with this signature value (section 4.3)
abbrev pub signed : List ℕ → List RowOf → Fields → (views : List (List ℕ)) → (value : List ℕ) → List ℕ
signed octets rows fields views value = filled_in octets rows
    (digest_fillings fields.references views ++ filling fields.value_row (base64_of value) value ∷ [])

-- the signature value under a key: the kept bits of the HMAC over canonical SignedInfo of the unsigned document
abbrev pub value_under : (unsigned_rows : List RowOf) → Fields → (key : List ℕ) → List ℕ
value_under rows fields key = kept (hmac_of fields.mac key (canonical_signed_info rows fields)) (value_bits fields.mac fields.bits)

-- in the signed document the signature is found where it was, its fields are read, its canonical SignedInfo is that of the unsigned
-- document, and both validations hold (section 3.2)
pub record Holds (unsigned_rows rows : List RowOf) (index x : ℕ) (fields : Fields) (views : List (List ℕ)) (key : List ℕ) : Type 0 where
  pub read : Fields
  pub found : nth_signature rows index ≡ Some x
  pub fields_are : fields_of rows x ≡ Ok read
  pub key_name : fields.key_name ≡ read.key_name
  pub count : length read.references ≡ length fields.references
  pub info : canonical_signed_info rows read ≡ canonical_signed_info unsigned_rows fields
  pub holds : (signature_holds read.mac read.bits key (canonical_signed_info rows read) read.value
      && references_hold read.references views) ≡ true

-- both documents are spelled, whatever the key is
pub record AreSpelled (octets : List ℕ) (rows : List RowOf) (fields : Fields) (views : List (List ℕ)) : Type 0 where
  pub one : List RowOf
  pub before : Spells (unsigned octets rows fields views) one
  pub two : (key : List ℕ) → List RowOf
  pub after : (key : List ℕ) → Spells (signed octets rows fields views (value_under one fields key)) (two key)

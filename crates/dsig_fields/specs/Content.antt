-- The content of a Signature element, told without an order of reading: XML Signature 1.1, section 4.1.
use Rattle.std.specs.Prelude.{◌≡◌, ◌↔◌, ℕ, true, not, List, ◌∷◌, ◌++◌, Option, Ok}
use Rattle.std.specs.List.{All, filter}
use Rattle.std.specs.Option.{option_to_list}
use Rattle.xml_doc.specs.Rows.{RowOf}
use Rattle.dsig_fields.specs.Fields.{fields_of, info_fields, key_info_if}
use Rattle.dsig_fields.specs.Reading.{children, is_named, is_passed}
use Rattle.dsig_fields.specs.Simple.{simple_octets}
use Rattle.dsig_fields.specs.declared.fields.Fields.{Fields}
use Rattle.dsig_fields.specs.declared.names.ElementName.{ElementName}
use Rattle.dsig_fields.specs.declared.names.ElementName.TheVariants as element

-- the members that aren't passed over: no comment, no instruction, no text of white space alone
abbrev pub standing : List RowOf → List ℕ → List ℕ
standing rows ys = filter (λ y. not (is_passed rows y)) ys

abbrev pub AreNamed : List RowOf → ElementName → List ℕ → Type 0
AreNamed rows name ys = All (λ (y : ℕ). is_named rows name y ≡ true) ys

-- SignedInfo, SignatureValue, an optional KeyInfo, and any number of Objects
pub record IsContent (rows : List RowOf) (ys : List ℕ) (signed_info value_row : ℕ) (key_info : Option ℕ) : Type 0 where
  pub objects : List ℕ
  pub are : ys ≡ signed_info ∷ (value_row ∷ (option_to_list key_info ++ objects))
  pub first : is_named rows element.SignedInfo signed_info ≡ true
  pub second : is_named rows element.SignatureValue value_row ≡ true
  pub third : AreNamed rows element.KeyInfo (option_to_list key_info)
  pub others : AreNamed rows element.Object objects

-- this is the content of element x, and each part can be read
pub record CanBeRead (rows : List RowOf) (x : ℕ) (fields : Fields) : Type 0 where
  pub key_info : Option ℕ
  pub content : IsContent rows (standing rows (children rows x)) fields.signed_info fields.value_row key_info
  pub signature : fields.signature ≡ x
  pub info :
      info_fields rows fields.signed_info
      ≡ Ok (record {
        canon = fields.canon;
        prefixes = fields.prefixes;
        mac = fields.mac;
        bits = fields.bits;
        references = fields.references;
      })
  pub value : simple_octets rows fields.value_row ≡ Ok fields.value
  pub key_name : key_info_if rows key_info ≡ Ok fields.key_name

-- the fields of an element are read exactly where that is its content, and its parts can be read
abbrev pub ReadExactly : Type 0
ReadExactly = (rows : List RowOf) (x : ℕ) (fields : Fields) → (fields_of rows x ≡ Ok fields) ↔ CanBeRead rows x fields

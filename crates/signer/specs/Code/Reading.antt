-- What is read of a template before the folder is asked for anything.
use Rattle.std.specs.Prelude.{◌≡◌, ◌<◌, ℕ, List, length, true, Some, None, Result, Ok}
use Rattle.sig_base.specs.Outcomes.{and_then, with_cause}
use Rattle.xml_doc.specs.Rows.{RowOf}
use Rattle.xml_read.specs.ReadOutcome.{read_outcome}
use Rattle.dsig_fields.specs.Fields.{fields_of}
use Rattle.dsig_fields.specs.Fits.{FieldsFit}
use Rattle.dsig_fields.specs.Holds.{is_long_enough, value_bits}
use Rattle.dsig_fields.specs.Keys.{QuestionOf, key_of}
use Rattle.dsig_fields.specs.Signatures.{nth_signature}
use Rattle.dsig_fields.specs.declared.fields.Fields.{Fields}
use Rattle.signer.specs.Outcome.{choice_refusal, enough_bits, not_text, or_no_signature, unless}
use Rattle.signer.specs.declared.reading.Template.{Template}
use Rattle.signer.specs.declared.refusal.SignRefusal.{SignRefusal}
use Rattle.signer.specs.declared.refusal.SignRefusal.TheVariants as refusal

-- the Signature, what is read of it, and the octets of its key
pub record TemplateOf : Type 0 where
  pub signature : ℕ
  pub fields : Fields
  pub key : List ℕ

abbrev pub seen_template : Template → TemplateOf
seen_template t = record { signature = t.signature; fields = t.fields; key = t.key.now }

-- the HMAC has enough bits, and texts alone stand where something is filled in
unfoldable pub can_be_signed : List RowOf → Fields → Result (Unit {0}) SignRefusal
can_be_signed rows fields = and_then (enough_bits fields) (λ enough. unless refusal.NotText (not_text rows fields))

abbrev pub template_under_key : List RowOf → (signature : ℕ) → Fields → (key : List ℕ) → Result TemplateOf SignRefusal
template_under_key rows signature fields key =
    and_then (can_be_signed rows fields) (λ can. Ok (record { signature = signature; fields = fields; key = key }))

unfoldable pub template_of_fields : List RowOf → QuestionOf → (signature : ℕ) → Fields → Result TemplateOf SignRefusal
template_of_fields rows question signature fields =
    and_then (with_cause choice_refusal (key_of fields.key_name question)) (λ key. template_under_key rows signature fields key.octets)

-- all of it, or the first refusal
unfoldable pub template_of : List RowOf → QuestionOf → Result TemplateOf SignRefusal
template_of rows question =
    and_then (or_no_signature (nth_signature rows question.index))
    (λ x. and_then (with_cause refusal.Fields (fields_of rows x)) (template_of_fields rows question x))

-- the template of a document that can be read
pub record IsTemplate (octets : List ℕ) (rows : List RowOf) (t : TemplateOf) : Type 0 where
  pub read : read_outcome octets ≡ Ok rows
  pub index : ℕ
  pub found : nth_signature rows index ≡ Some t.signature
  pub fields_are : fields_of rows t.signature ≡ Ok t.fields
  pub long : is_long_enough t.fields.mac (value_bits t.fields.mac t.fields.bits) ≡ true
  pub texts : not_text rows t.fields ≡ None
  pub fit : FieldsFit rows t.fields
  pub within : t.signature < length rows

-- it fits the document
pub record Fits (rows : List RowOf) (t : Template) : Type 0 where
  pub fit : FieldsFit rows t.fields
  pub within : t.signature < length rows

-- A template of an enveloped signature, and where it is put: this project's own template, in the element grammar of XML Signature 1.1,
-- section 4.
use Rattle.std.specs.Prelude.{ℕ, List, [], ◌∷◌, ◌++◌, codes, encode_utf8_all, Option, Some, None, Result, Ok, if◌then◌else◌}
use Rattle.sig_base.specs.Methods.{canon_identifier, digest_identifier, mac_identifier}
use Rattle.sig_base.specs.Outcomes.{and_then, with_cause}
use Rattle.sig_base.specs.declared.method.CanonMethod.TheVariants.{Exc}
use Rattle.c14n_text.specs.Escapes.{text_octets}
use Rattle.xml_doc.specs.Rows.{RowOf}
use Rattle.xml_doc.specs.Shape.{row_at}
use Rattle.xml_doc.specs.Top.{document_element}
use Rattle.xml_read.specs.ReadOutcome.{read_outcome}
use Rattle.row_spans.specs.RowSpans.{Span, written}
use Rattle.row_spans.specs.Code.RowSpans.{span_of}
use Rattle.signer.specs.declared.template.TemplateOptions.{TemplateOptions}
use Rattle.signer.specs.declared.template.TemplateRefusal.{TemplateRefusal}
use Rattle.signer.specs.declared.template.TemplateRefusal.TheVariants as refusal

-- ---- the text of the template
abbrev pub signature_namespace : List ℕ
signature_namespace = codes "http://www.w3.org/2000/09/xmldsig#"

-- an empty-element tag of this name with this Algorithm
abbrev pub algorithm_element : (name identifier : List ℕ) → List ℕ
algorithm_element name identifier = codes "<ds:" ++ name ++ codes " Algorithm=\"" ++ identifier ++ codes "\"/>"

-- the two Transforms: the signature is left out, and what remains gets its exclusive canonical form (sections 6.6.4 and 6.5.3)
abbrev pub transforms_text : List ℕ
transforms_text = codes "<ds:Transforms>"
    ++ algorithm_element (codes "Transform") (signature_namespace ++ codes "enveloped-signature")
    ++ algorithm_element (codes "Transform") (canon_identifier Exc)
    ++ codes "</ds:Transforms>"

-- one Reference, to the whole document
abbrev pub reference_text : TemplateOptions → List ℕ
reference_text options = codes "<ds:Reference URI=\"\">" ++ transforms_text
    ++ algorithm_element (codes "DigestMethod") (digest_identifier options.digest)
    ++ codes "<ds:DigestValue/></ds:Reference>"

abbrev pub signed_info_text : TemplateOptions → List ℕ
signed_info_text options = codes "<ds:SignedInfo>"
    ++ algorithm_element (codes "CanonicalizationMethod") (canon_identifier Exc)
    ++ algorithm_element (codes "SignatureMethod") (mac_identifier options.mac)
    ++ reference_text options ++ codes "</ds:SignedInfo>"

-- the name of the key, if one is given
abbrev pub key_info_text : Option (List ℕ) → List ℕ
key_info_text None = []
key_info_text (Some name) = codes "<ds:KeyInfo><ds:KeyName>" ++ text_octets (encode_utf8_all name) ++ codes "</ds:KeyName></ds:KeyInfo>"

abbrev pub template_text : TemplateOptions → List ℕ
template_text options = codes "<ds:Signature xmlns:ds=\"" ++ signature_namespace ++ codes "\">" ++ signed_info_text options
    ++ codes "<ds:SignatureValue/>" ++ key_info_text options.key_name ++ codes "</ds:Signature>"

-- ---- its place
-- behind the content of the element; an empty-element tag is opened
abbrev pub insertion : RowOf → List ℕ → Span
insertion r text = if r.empty_tag then span_of r text else record { from = r.body_until; until = r.body_until; new = text }

abbrev pub insertions : List RowOf → List ℕ → Option ℕ → List Span
insertions rows text None = []
insertions rows text (Some e) = insertion (row_at rows e) text ∷ []

-- the document with the template in front of the end tag of its document element, or why it can't be read
abbrev pub template_outcome : List ℕ → TemplateOptions → Result (List ℕ) TemplateRefusal
template_outcome octets options = and_then (with_cause refusal.Read (read_outcome octets))
    (λ rows. Ok (written octets (insertions rows (template_text options) (document_element rows))))

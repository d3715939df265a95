-- Worked examples of the definitions: the text of a template and its place.
use Rattle.std.proofs.Common.{◌≡◌, ℕ, Bool, List, [], ◌∷◌, true, false, None, Some, refl}
use Rattle.std.specs.Prelude.{codes}
use Rattle.sig_base.specs.declared.method.DigestMethod.TheVariants.{Sha1}
use Rattle.sig_base.specs.declared.method.MacMethod.TheVariants.{HmacSha256}
use Rattle.xml_doc.specs.Rows.{RowOf, plain_row}
use Rattle.xml_doc.specs.Top.{document_element}
use Rattle.xml_doc.specs.declared.row.Kind.TheVariants.{Element, Root}
use Rattle.row_spans.specs.RowSpans.{written}
use Rattle.signer.specs.Template.{insertions, key_info_text, template_text}

-- without the name of a key
text_is : template_text (record { mac = HmacSha256; digest = Sha1; key_name = None })
    ≡ codes "<ds:Signature xmlns:ds=\"http://www.w3.org/2000/09/xmldsig#\"><ds:SignedInfo><ds:CanonicalizationMethod Algorithm=\"http://www.w3.org/2001/10/xml-exc-c14n#\"/><ds:SignatureMethod Algorithm=\"http://www.w3.org/2001/04/xmldsig-more#hmac-sha256\"/><ds:Reference URI=\"\"><ds:Transforms><ds:Transform Algorithm=\"http://www.w3.org/2000/09/xmldsig#enveloped-signature\"/><ds:Transform Algorithm=\"http://www.w3.org/2001/10/xml-exc-c14n#\"/></ds:Transforms><ds:DigestMethod Algorithm=\"http://www.w3.org/2000/09/xmldsig#sha1\"/><ds:DigestValue/></ds:Reference></ds:SignedInfo><ds:SignatureValue/></ds:Signature>"
text_is = refl

-- with one, whose characters are escaped
key_is : key_info_text (Some (codes "a&b")) ≡ codes "<ds:KeyInfo><ds:KeyName>a&amp;b</ds:KeyName></ds:KeyInfo>"
unfolding lib.Utf8.encode
key_is = refl

-- the rows of `<a/>`, and of `<a>b</a>`
abbrev element : (from until : ℕ) → Bool → RowOf
element from until empty = record {
  kind = Element;
  parent = 0;
  last = 1;
  prefix_text = [];
  local_name = codes "a";
  uri = [];
  value = [];
  tag_from = 0;
  body_from = from;
  body_until = until;
  empty_tag = empty;
}

abbrev rows_of : RowOf → List RowOf
rows_of r = plain_row Root 0 0 ∷ r ∷ []

-- an empty-element tag is opened
in_empty : written (codes "<a/>") (insertions (rows_of (element 2 4 true)) (codes "T") (document_element (rows_of (element 2 4 true)))) ≡ codes "<a>T</a>"
in_empty = refl

-- and else the text stands in front of the end tag
in_content : written (codes "<a>b</a>") (insertions (rows_of (element 3 4 false)) (codes "T") (document_element (rows_of (element 3 4 false)))) ≡ codes "<a>bT</a>"
in_content = refl

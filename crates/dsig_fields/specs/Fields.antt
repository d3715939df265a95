-- The grammar of a signature's elements, one definition for each element: XML Signature 1.1, section 4. The steps of each are its
-- attributes, then its children in order.
use Rattle.std.specs.Prelude.{ℕ, Bool, false, List, [], ◌∷◌, Option, Some, None, Result, Ok, Err, if◌then◌else◌, codes, bytes_eq}
use Rattle.std.specs.List.{list_any}
use Rattle.std.specs.Str.{chars}
use Rattle.sig_base.specs.Methods.{canon_method_of, digest_method_of, mac_method_of, is_exclusive}
use Rattle.sig_base.specs.declared.method.CanonMethod.{CanonMethod}
use Rattle.sig_base.specs.declared.method.DigestMethod.{DigestMethod}
use Rattle.sig_base.specs.declared.method.FilterKind.{FilterKind}
use Rattle.sig_base.specs.declared.method.FilterKind.TheVariants.{Intersect, Subtract, Union}
use Rattle.sig_base.specs.declared.method.MacMethod.{MacMethod}
use Rattle.xml_doc.specs.Rows.{RowOf}
use Rattle.dsig_fields.specs.Reading.{◌>>=◌, or_refusal, attribute, children, required, optional, optional_if, at_end, one_or_more, behind_all, is_named, is_element_at, is_passed}
use Rattle.dsig_fields.specs.Simple.{simple_text, simple_octets}
use Rattle.dsig_fields.specs.Lengths.{length_in}
use Rattle.dsig_fields.specs.Prefixes.{names_in_list}
use Rattle.dsig_fields.specs.declared.names.ElementName.TheVariants as element
use Rattle.dsig_fields.specs.declared.refusal.FieldRefusal.{FieldRefusal}
use Rattle.dsig_fields.specs.declared.refusal.FieldRefusal.TheVariants.{Extra, NoAlgorithm, UnknownMethod, Xslt, PublicKey, BadLength, BadFilter, NoUri, TooManyReferences, TooManyTransforms, TooManyFilters}
use Rattle.dsig_fields.specs.declared.fields.Canonicalization.{Canonicalization}
use Rattle.dsig_fields.specs.declared.fields.Authentication.{Authentication}
use Rattle.dsig_fields.specs.declared.fields.Filter.{Filter}
use Rattle.dsig_fields.specs.declared.fields.Step.{Step}
use Rattle.dsig_fields.specs.declared.fields.Step.TheVariants as step
use Rattle.dsig_fields.specs.declared.fields.Reference.{Reference}
use Rattle.dsig_fields.specs.declared.fields.Info.{Info}
use Rattle.dsig_fields.specs.declared.fields.Fields.{Fields}

abbrev pub algorithm : List RowOf → ℕ → Result (List ℕ) FieldRefusal
algorithm rows x = or_refusal (NoAlgorithm x) (attribute rows x (codes "Algorithm"))

-- the PrefixList of an InclusiveNamespaces element, if there is one; its content is passed over
abbrev pub prefix_list : List RowOf → Option ℕ → List (List ℕ)
prefix_list rows None = []
prefix_list rows (Some x) = names_in_list (attribute rows x (codes "PrefixList"))

-- the children of an element that names this canonicalization method: of an exclusive one InclusiveNamespaces may stand there, of
-- another nothing (Exclusive XML Canonicalization 1.0, section 4)
unfoldable pub inner_prefixes : List RowOf → CanonMethod → ℕ → Result (List (List ℕ)) FieldRefusal
inner_prefixes rows method x = do
  list ← optional_if (is_exclusive method) rows element.InclusiveNamespaces (children rows x)
  nothing ← at_end rows list.1
  Ok (prefix_list rows list.0)

-- CanonicalizationMethod: section 4.4.1
unfoldable pub canonicalization_method : List RowOf → ℕ → Result Canonicalization FieldRefusal
canonicalization_method rows x = do
  uri ← algorithm rows x
  method ← or_refusal (UnknownMethod x) (canon_method_of uri)
  prefixes ← inner_prefixes rows method x
  Ok (record { method = method; prefixes = prefixes })

-- the methods with public keys that are known by name: section 6.4, and RFC 6931, sections 2.3.2 to 2.3.6
abbrev pub public_key_methods : List (List ℕ)
public_key_methods =
    codes "http://www.w3.org/2000/09/xmldsig#dsa-sha1"
    ∷ codes "http://www.w3.org/2000/09/xmldsig#rsa-sha1"
    ∷ codes "http://www.w3.org/2001/04/xmldsig-more#rsa-sha256"
    ∷ codes "http://www.w3.org/2001/04/xmldsig-more#rsa-sha384"
    ∷ codes "http://www.w3.org/2001/04/xmldsig-more#rsa-sha512"
    ∷ codes "http://www.w3.org/2001/04/xmldsig-more#ecdsa-sha256"
    ∷ codes "http://www.w3.org/2001/04/xmldsig-more#ecdsa-sha384"
    ∷ codes "http://www.w3.org/2001/04/xmldsig-more#ecdsa-sha512"
    ∷ []

-- why an identifier is none of an HMAC method
abbrev pub mac_refusal : ℕ → List ℕ → FieldRefusal
mac_refusal x uri = if list_any (bytes_eq uri) public_key_methods then PublicKey x else UnknownMethod x

-- HMACOutputLength, if there is one
abbrev pub output_length : List RowOf → MacMethod → Option ℕ → Result (Option ℕ) FieldRefusal
output_length rows mac None = Ok None
output_length rows mac (Some x) = do
  text ← simple_text rows x
  bits ← or_refusal (BadLength x) (length_in mac text)
  Ok (Some bits)

-- SignatureMethod: section 4.4.2
unfoldable pub signature_method : List RowOf → ℕ → Result Authentication FieldRefusal
signature_method rows x = do
  uri ← algorithm rows x
  mac ← or_refusal (mac_refusal x uri) (mac_method_of uri)
  length ← optional rows element.HmacOutputLength (children rows x)
  bits ← output_length rows mac length.0
  nothing ← at_end rows length.1
  Ok (record { mac = mac; bits = bits })

-- a Transform without children
unfoldable pub bare_step : List RowOf → ℕ → Step → Result Step FieldRefusal
bare_step rows x work = do
  nothing ← at_end rows (children rows x)
  Ok work

-- a Transform that canonicalizes: section 6.6.1
unfoldable pub canonicalizing_step : List RowOf → ℕ → CanonMethod → Result Step FieldRefusal
canonicalizing_step rows x method = do
  prefixes ← inner_prefixes rows method x
  Ok (step.Canon method prefixes)

-- XPath filtering: section 6.6.3
unfoldable pub xpath_step : List RowOf → ℕ → Result Step FieldRefusal
xpath_step rows x = do
  expression ← required rows element.XPath (children rows x)
  text ← simple_text rows expression.0
  nothing ← at_end rows expression.1
  Ok (step.XPath expression.0 (chars text))

-- what the Filter attribute says: XPath Filter 2.0, section 3.3
abbrev pub filter_kind_in : Option (List ℕ) → Option FilterKind
filter_kind_in None = None
filter_kind_in (Some text) =
    if bytes_eq text (codes "intersect") then Some Intersect
    else (if bytes_eq text (codes "subtract") then Some Subtract
    else (if bytes_eq text (codes "union") then Some Union else None))

unfoldable pub filter_at : List RowOf → ℕ → Result Filter FieldRefusal
filter_at rows x = do
  kind ← or_refusal (BadFilter x) (filter_kind_in (attribute rows x (codes "Filter")))
  text ← simple_text rows x
  Ok (record { kind = kind; row = x; text = chars text })

-- XPath Filter 2.0: one or more filters
unfoldable pub filters_step : List RowOf → ℕ → Result Step FieldRefusal
filters_step rows x = do
  filters ← one_or_more TooManyFilters rows element.FilterXPath (filter_at rows) 16 (children rows x)
  nothing ← at_end rows filters.1
  Ok (step.Filters filters.0)

-- a Transform that doesn't canonicalize, by its identifier: section 6.6
abbrev pub other_step : List RowOf → ℕ → List ℕ → Result Step FieldRefusal
other_step rows x uri =
    if bytes_eq uri (codes "http://www.w3.org/2000/09/xmldsig#base64") then bare_step rows x step.Base64
    else (if bytes_eq uri (codes "http://www.w3.org/2000/09/xmldsig#enveloped-signature") then bare_step rows x step.Enveloped
    else (if bytes_eq uri (codes "http://www.w3.org/TR/1999/REC-xpath-19991116") then xpath_step rows x
    else (if bytes_eq uri (codes "http://www.w3.org/2002/06/xmldsig-filter2") then filters_step rows x
    else (if bytes_eq uri (codes "http://www.w3.org/TR/1999/REC-xslt-19991116") then Err (Xslt x) else Err (UnknownMethod x)))))

abbrev pub step_by : List RowOf → ℕ → List ℕ → Option CanonMethod → Result Step FieldRefusal
step_by rows x uri (Some method) = canonicalizing_step rows x method
step_by rows x uri None = other_step rows x uri

-- Transform: section 4.4.3.4
unfoldable pub transform : List RowOf → ℕ → Result Step FieldRefusal
transform rows x = do
  uri ← algorithm rows x
  step_by rows x uri (canon_method_of uri)

-- Transforms: one or more
unfoldable pub transforms : List RowOf → ℕ → Result (List Step) FieldRefusal
transforms rows x = do
  steps ← one_or_more TooManyTransforms rows element.Transform (transform rows) 16 (children rows x)
  nothing ← at_end rows steps.1
  Ok steps.0

-- the Transforms element, if there is one
abbrev pub transforms_if : List RowOf → Option ℕ → Result (List Step) FieldRefusal
transforms_if rows None = Ok []
transforms_if rows (Some x) = transforms rows x

-- DigestMethod: section 4.4.3.5
unfoldable pub digest_method : List RowOf → ℕ → Result DigestMethod FieldRefusal
digest_method rows x = do
  uri ← algorithm rows x
  method ← or_refusal (UnknownMethod x) (digest_method_of uri)
  nothing ← at_end rows (children rows x)
  Ok method

-- the Type of a Reference to a Manifest: section 5.1
abbrev pub names_manifest : Option (List ℕ) → Bool
names_manifest None = false
names_manifest (Some text) = bytes_eq text (codes "http://www.w3.org/2000/09/xmldsig#Manifest")

-- Reference: section 4.4.3
unfoldable pub reference : List RowOf → ℕ → Result Reference FieldRefusal
reference rows x = do
  uri ← or_refusal (NoUri x) (attribute rows x (codes "URI"))
  before ← optional rows element.Transforms (children rows x)
  steps ← transforms_if rows before.0
  method ← required rows element.DigestMethod before.1
  digest ← digest_method rows method.0
  value ← required rows element.DigestValue method.1
  expected ← simple_octets rows value.0
  nothing ← at_end rows value.1
  Ok (record {
    row = x;
    uri = chars uri;
    manifest = names_manifest (attribute rows x (codes "Type"));
    steps = steps;
    digest = digest;
    digest_row = value.0;
    expected = expected;
  })

-- SignedInfo: section 4.4
unfoldable pub info_fields : List RowOf → ℕ → Result Info FieldRefusal
info_fields rows x = do
  first ← required rows element.CanonicalizationMethod (children rows x)
  canonicalization ← canonicalization_method rows first.0
  second ← required rows element.SignatureMethod first.1
  authentication ← signature_method rows second.0
  references ← one_or_more (λ y. TooManyReferences) rows element.Reference (reference rows) 256 second.1
  nothing ← at_end rows references.1
  Ok (record {
    canon = canonicalization.method;
    prefixes = canonicalization.prefixes;
    mac = authentication.mac;
    bits = authentication.bits;
    references = references.0;
  })

-- the contents of the KeyName elements, in order; other elements are passed over whole: section 4.5
unfoldable pub key_names : List RowOf → List ℕ → Result (List (List ℕ)) FieldRefusal
key_names rows [] = Ok []
key_names rows (y ∷ rest) =
    if is_named rows element.KeyName y then (do
      first ← simple_text rows y
      others ← key_names rows rest
      Ok (first ∷ others))
    else (if is_element_at rows y then key_names rows rest
    else (if is_passed rows y then key_names rows rest else Err (Extra y)))

abbrev pub first_of : List (List ℕ) → Option (List ℕ)
first_of [] = None
first_of (name ∷ others) = Some (chars name)

-- KeyInfo: the first KeyName, if there is one
unfoldable pub key_info : List RowOf → ℕ → Result (Option (List ℕ)) FieldRefusal
key_info rows x = do
  names ← key_names rows (children rows x)
  Ok (first_of names)

abbrev pub key_info_if : List RowOf → Option ℕ → Result (Option (List ℕ)) FieldRefusal
key_info_if rows None = Ok None
key_info_if rows (Some x) = key_info rows x

abbrev pub joined_fields : (signature signed_info value_row : ℕ) → Info → (value : List ℕ) → Option (List ℕ) → Fields
joined_fields signature signed_info value_row info value key_name =
    record {
      signature = signature;
      signed_info = signed_info;
      value_row = value_row;
      canon = info.canon;
      prefixes = info.prefixes;
      mac = info.mac;
      bits = info.bits;
      references = info.references;
      value = value;
      key_name = key_name;
    }

-- Signature: section 4.1
unfoldable pub fields_of : List RowOf → ℕ → Result Fields FieldRefusal
fields_of rows x = do
  first ← required rows element.SignedInfo (children rows x)
  info ← info_fields rows first.0
  second ← required rows element.SignatureValue first.1
  value ← simple_octets rows second.0
  third ← optional rows element.KeyInfo second.1
  key_name ← key_info_if rows third.0
  left ← behind_all rows element.Object third.1
  nothing ← at_end rows left
  Ok (joined_fields x first.0 second.0 info value key_name)

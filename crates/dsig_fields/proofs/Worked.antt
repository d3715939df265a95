-- The definitions at small documents, computed. All elements but one are in the namespace of signatures.
use Rattle.std.proofs.Common.{◌≡◌, ℕ, zero, suc, false, List, [], ◌∷◌, map, refl}
use Rattle.std.specs.Prelude.{Some, None, Ok, Err, codes}
use Rattle.std.specs.Str.{chars}
use Rattle.sig_base.specs.declared.method.CanonMethod.TheVariants.{Exc}
use Rattle.sig_base.specs.declared.method.MacMethod.TheVariants.{HmacSha1}
use Rattle.xml_doc.specs.Rows.{RowOf}
use Rattle.xml_doc.specs.declared.row.Kind.{Kind}
use Rattle.xml_doc.specs.declared.row.Kind.TheVariants.{Root, Element, Attribute, Text, Comment, Instruction}
use Rattle.dsig_fields.specs.Fields.{inner_prefixes, canonicalization_method, signature_method, digest_method, reference, key_names, key_info}
use Rattle.dsig_fields.specs.Lengths.{length_in, behind_space, number_behind}
use Rattle.dsig_fields.specs.Names.{signature_namespace}
use Rattle.sig_base.specs.Prefixes.{names_in}
use Rattle.dsig_fields.specs.Reading.{children, passed, required, optional, at_end, many, one_or_more}
use Rattle.dsig_fields.specs.Same.{Item, Octet, Aside, Inner, items, SameItems, SameTo, SameElement}
use Rattle.dsig_fields.specs.Simple.{joined}
use Rattle.dsig_fields.specs.declared.names.ElementName.TheVariants as element
use Rattle.dsig_fields.specs.declared.refusal.FieldRefusal.TheVariants.{Missing, Extra, NoAlgorithm, UnknownMethod, NoUri, TooManyReferences}

abbrev node : Kind → (parent last : ℕ) (local_name uri value : List ℕ) → RowOf
node kind parent last local_name uri value = record { kind = kind; parent = parent; last = last; prefix_text = []; local_name = local_name; uri = uri; value = value; tag_from = 0; body_from = 0; body_until = 0; empty_tag = false }

abbrev inner : (parent last : ℕ) (local_name : List ℕ) → RowOf
inner parent last local_name = node Element parent last local_name signature_namespace []

abbrev field : (parent own : ℕ) (local_name value : List ℕ) → RowOf
field parent own local_name value = node Attribute parent own local_name [] value

abbrev text : (parent own : ℕ) (value : List ℕ) → RowOf
text parent own value = node Text parent own [] [] value

-- <SignedInfo>
--   <CanonicalizationMethod Algorithm=".."><InclusiveNamespaces PrefixList=" a  b"/></CanonicalizationMethod>
--   <SignatureMethod Algorithm=".."><HMACOutputLength> 80</HMACOutputLength></SignatureMethod>
--   <!--a comment--><Reference/><Reference/>
-- </SignedInfo>
abbrev info : List RowOf
info =
    node Root 0 13 [] [] []
    ∷ inner 0 13 (codes "SignedInfo")
    ∷ inner 1 5 (codes "CanonicalizationMethod")
    ∷ field 2 3 (codes "Algorithm") (codes "http://www.w3.org/2001/10/xml-exc-c14n#")
    ∷ node Element 2 5 (codes "InclusiveNamespaces") (codes "http://www.w3.org/2001/10/xml-exc-c14n#") []
    ∷ field 4 5 (codes "PrefixList") (codes " a  b")
    ∷ inner 1 9 (codes "SignatureMethod")
    ∷ field 6 7 (codes "Algorithm") (codes "http://www.w3.org/2000/09/xmldsig#hmac-sha1")
    ∷ inner 6 9 (codes "HMACOutputLength")
    ∷ text 8 9 (codes " 80")
    ∷ node Comment 1 10 [] [] (codes "a comment")
    ∷ inner 1 11 (codes "Reference")
    ∷ inner 1 12 (codes "Reference")
    ∷ text 1 13 (codes "x")
    ∷ []

canonicalization : canonicalization_method info 2 ≡ Ok (record { method = Exc; prefixes = chars (codes "a") ∷ chars (codes "b") ∷ [] })
unfolding canonicalization_method inner_prefixes optional at_end passed names_in
canonicalization = refl

authentication : signature_method info 6 ≡ Ok (record { mac = HmacSha1; bits = Some 80 })
unfolding signature_method optional at_end passed joined length_in behind_space number_behind
authentication = refl

-- the method of another place, and its own parameter there
no_canonicalization : canonicalization_method info 6 ≡ Err (UnknownMethod 6)
unfolding canonicalization_method
no_canonicalization = refl

no_algorithm : digest_method info 11 ≡ Err (NoAlgorithm 11)
unfolding digest_method
no_algorithm = refl

no_uri : reference info 11 ≡ Err (NoUri 11)
unfolding reference
no_uri = refl

-- what stands in another's place, and what stands too much
another : required info element.SignatureMethod (2 ∷ 6 ∷ []) ≡ Err (Missing element.SignatureMethod)
unfolding required passed
another = refl

none : required info element.SignatureMethod (10 ∷ []) ≡ Err (Missing element.SignatureMethod)
unfolding required passed
none = refl

left_over : at_end info (10 ∷ 11 ∷ []) ≡ Err (Extra 11)
unfolding at_end passed
left_over = refl

two : one_or_more (λ y. TooManyReferences) info element.Reference (λ y. Ok y) 2 (10 ∷ 11 ∷ 12 ∷ []) ≡ Ok (11 ∷ 12 ∷ [], [])
unfolding one_or_more many required passed
two = refl

one_too_many : one_or_more (λ y. TooManyReferences) info element.Reference (λ y. Ok y) 1 (10 ∷ 11 ∷ 12 ∷ []) ≡ Err TooManyReferences
unfolding one_or_more many required passed
one_too_many = refl

other_text : one_or_more (λ y. TooManyReferences) info element.Reference (λ y. Ok y) 2 (11 ∷ 13 ∷ 12 ∷ []) ≡ Err (Extra 13)
unfolding one_or_more many required passed
other_text = refl

-- <KeyInfo>&#13;<KeyValue/><KeyName>k</KeyName><KeyName>l<!----></KeyName></KeyInfo>
abbrev keys : List RowOf
keys =
    node Root 0 8 [] [] []
    ∷ inner 0 8 (codes "KeyInfo")
    ∷ text 1 2 (13 ∷ [])
    ∷ inner 1 3 (codes "KeyValue")
    ∷ inner 1 5 (codes "KeyName")
    ∷ text 4 5 (codes "k")
    ∷ inner 1 8 (codes "KeyName")
    ∷ text 6 7 (codes "l")
    ∷ node Comment 6 8 [] [] []
    ∷ []

first_name : key_info keys 1 ≡ Ok (Some (chars (codes "k")))
unfolding key_info key_names joined
first_name = refl

no_name : key_info keys 3 ≡ Ok None
unfolding key_info key_names
no_name = refl

-- a text that a comment splits says what the joined text says, and an instruction is told
abbrev split : List RowOf
split =
    node Root 0 6 [] [] []
    ∷ inner 0 6 (codes "DigestValue")
    ∷ text 1 2 (codes "AQ")
    ∷ node Comment 1 3 [] [] (codes "a comment")
    ∷ text 1 4 (codes "ID")
    ∷ node Instruction 1 5 (codes "target") [] []
    ∷ inner 1 6 (codes "XPath")
    ∷ []

told : items split (children split 1) ≡ Octet 65 ∷ Octet 81 ∷ Octet 73 ∷ Octet 68 ∷ Aside ∷ Inner 6 ∷ []
told = refl

joined_text : items split (2 ∷ 3 ∷ 4 ∷ []) ≡ map Octet (codes "AQID")
joined_text = refl

-- an element says what it says
itself_each : (alike : ℕ → ℕ → Type 0) → ((x : ℕ) → alike x x) → (its : List Item) → SameItems alike its its
itself_each alike each [] = tt
itself_each alike each (Octet c ∷ its) = (refl, itself_each alike each its)
itself_each alike each (Aside ∷ its) = (tt, itself_each alike each its)
itself_each alike each (Inner x ∷ its) = (each x, itself_each alike each its)

itself_to : (rows : List RowOf) (depth x : ℕ) → SameTo depth rows rows x x
itself_to rows zero x = tt
itself_to rows (suc depth) x = record {
  kind = refl;
  local_name = refl;
  uri = refl;
  attributes = λ name. refl;
  content = itself_each (SameTo depth rows rows) (itself_to rows depth) (items rows (children rows x));
}

pub itself : (rows : List RowOf) (x : ℕ) → SameElement rows x rows x
itself rows x depth = itself_to rows depth x

-- <DigestValue>AQ<!--a comment-->ID</DigestValue> and <DigestValue>AQID</DigestValue>
abbrev commented : List RowOf
commented =
    node Root 0 4 [] [] []
    ∷ inner 0 4 (codes "DigestValue")
    ∷ text 1 2 (codes "AQ")
    ∷ node Comment 1 3 [] [] (codes "a comment")
    ∷ text 1 4 (codes "ID")
    ∷ []

abbrev whole : List RowOf
whole =
    node Root 0 2 [] [] []
    ∷ inner 0 2 (codes "DigestValue")
    ∷ text 1 2 (codes "AQID")
    ∷ []

comment_left_out : SameElement commented 1 whole 1
comment_left_out zero = tt
comment_left_out (suc depth) = record {
  kind = refl;
  local_name = refl;
  uri = refl;
  attributes = λ name. refl;
  content = (refl, (refl, (refl, (refl, tt))));
}

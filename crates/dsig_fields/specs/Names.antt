-- The elements of a signature, by name: XML Signature 1.1, section 4; Exclusive XML Canonicalization 1.0, section 3; XPath Filter 2.0,
-- section 3.3.
use Rattle.std.specs.Prelude.{ℕ, List, codes}
use Rattle.dsig_fields.specs.declared.names.ElementName.{ElementName}
use Rattle.dsig_fields.specs.declared.names.ElementName.TheVariants.{Signature, SignedInfo, SignatureValue, KeyInfo, KeyName, Object, CanonicalizationMethod, SignatureMethod, HmacOutputLength, Reference, Transforms, Transform, XPath, FilterXPath, DigestMethod, DigestValue, InclusiveNamespaces}

-- the namespace of signatures: XML Signature 1.1, section 1.3
abbrev pub signature_namespace : List ℕ
signature_namespace = codes "http://www.w3.org/2000/09/xmldsig#"

abbrev pub namespace_of : ElementName → List ℕ
namespace_of InclusiveNamespaces = codes "http://www.w3.org/2001/10/xml-exc-c14n#"
namespace_of FilterXPath = codes "http://www.w3.org/2002/06/xmldsig-filter2"
namespace_of other = signature_namespace

abbrev pub local_name : ElementName → List ℕ
local_name Signature = codes "Signature"
local_name SignedInfo = codes "SignedInfo"
local_name SignatureValue = codes "SignatureValue"
local_name KeyInfo = codes "KeyInfo"
local_name KeyName = codes "KeyName"
local_name Object = codes "Object"
local_name CanonicalizationMethod = codes "CanonicalizationMethod"
local_name SignatureMethod = codes "SignatureMethod"
local_name HmacOutputLength = codes "HMACOutputLength"
local_name Reference = codes "Reference"
local_name Transforms = codes "Transforms"
local_name Transform = codes "Transform"
local_name XPath = codes "XPath"
local_name FilterXPath = codes "XPath"
local_name DigestMethod = codes "DigestMethod"
local_name DigestValue = codes "DigestValue"
local_name InclusiveNamespaces = codes "InclusiveNamespaces"

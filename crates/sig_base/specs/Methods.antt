-- The identifiers of methods: XML Signature 1.1, section 6.
use Rattle.std.specs.Prelude.{List, [], ◌∷◌, ℕ, Bool, true, false, Option, find, codes, bytes_eq}
use Rattle.sig_base.specs.declared.method.CanonMethod.{CanonMethod}
use Rattle.sig_base.specs.declared.method.CanonMethod.TheVariants.{C10, C10Comments, C11, C11Comments, Exc, ExcComments}
use Rattle.sig_base.specs.declared.method.DigestMethod.{DigestMethod}
use Rattle.sig_base.specs.declared.method.DigestMethod.TheVariants.{Sha1, Sha224, Sha256, Sha384, Sha512}
use Rattle.sig_base.specs.declared.method.MacMethod.{MacMethod}
use Rattle.sig_base.specs.declared.method.MacMethod.TheVariants.{HmacSha1, HmacSha224, HmacSha256, HmacSha384, HmacSha512}

-- canonicalization methods: XML Signature 1.1, section 6.5
abbrev pub canon_identifier : CanonMethod → List ℕ
canon_identifier C10 = codes "http://www.w3.org/TR/2001/REC-xml-c14n-20010315"
canon_identifier C10Comments = codes "http://www.w3.org/TR/2001/REC-xml-c14n-20010315#WithComments"
canon_identifier C11 = codes "http://www.w3.org/2006/12/xml-c14n11"
canon_identifier C11Comments = codes "http://www.w3.org/2006/12/xml-c14n11#WithComments"
canon_identifier Exc = codes "http://www.w3.org/2001/10/xml-exc-c14n#"
canon_identifier ExcComments = codes "http://www.w3.org/2001/10/xml-exc-c14n#WithComments"

-- digest methods: XML Signature 1.1, section 6.2, and RFC 6931, section 2.1
abbrev pub digest_identifier : DigestMethod → List ℕ
digest_identifier Sha1 = codes "http://www.w3.org/2000/09/xmldsig#sha1"
digest_identifier Sha224 = codes "http://www.w3.org/2001/04/xmldsig-more#sha224"
digest_identifier Sha256 = codes "http://www.w3.org/2001/04/xmlenc#sha256"
digest_identifier Sha384 = codes "http://www.w3.org/2001/04/xmldsig-more#sha384"
digest_identifier Sha512 = codes "http://www.w3.org/2001/04/xmlenc#sha512"

-- methods of message authentication: XML Signature 1.1, section 6.3, and RFC 6931, section 2.2
abbrev pub mac_identifier : MacMethod → List ℕ
mac_identifier HmacSha1 = codes "http://www.w3.org/2000/09/xmldsig#hmac-sha1"
mac_identifier HmacSha224 = codes "http://www.w3.org/2001/04/xmldsig-more#hmac-sha224"
mac_identifier HmacSha256 = codes "http://www.w3.org/2001/04/xmldsig-more#hmac-sha256"
mac_identifier HmacSha384 = codes "http://www.w3.org/2001/04/xmldsig-more#hmac-sha384"
mac_identifier HmacSha512 = codes "http://www.w3.org/2001/04/xmldsig-more#hmac-sha512"

-- the method that has this identifier, octet by octet
abbrev pub identified : {M : Type 0} → (M → List ℕ) → List ℕ → List M → Option M
identified identifier uri methods = find (λ method. bytes_eq uri (identifier method)) methods

abbrev pub canon_method_of : List ℕ → Option CanonMethod
canon_method_of uri = identified canon_identifier uri (C10 ∷ C10Comments ∷ C11 ∷ C11Comments ∷ Exc ∷ ExcComments ∷ [])

abbrev pub digest_method_of : List ℕ → Option DigestMethod
digest_method_of uri = identified digest_identifier uri (Sha1 ∷ Sha224 ∷ Sha256 ∷ Sha384 ∷ Sha512 ∷ [])

abbrev pub mac_method_of : List ℕ → Option MacMethod
mac_method_of uri = identified mac_identifier uri (HmacSha1 ∷ HmacSha224 ∷ HmacSha256 ∷ HmacSha384 ∷ HmacSha512 ∷ [])

-- a canonicalization method that takes a PrefixList: Exclusive XML Canonicalization 1.0, section 4
abbrev pub is_exclusive : CanonMethod → Bool
is_exclusive C10 = false
is_exclusive C10Comments = false
is_exclusive C11 = false
is_exclusive C11Comments = false
is_exclusive Exc = true
is_exclusive ExcComments = true

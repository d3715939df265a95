-- The definitions of a self-test at examples.
use Rattle.std.proofs.Common.{◌≡◌, refl}
use Rattle.std.specs.Prelude.{codes}
use Rattle.std.specs.Fmt.{digits}
use Rattle.self_test.specs.Document.{document, reference_count}
use Rattle.self_test.specs.Outcome.{line}

worked_document : document 1
    ≡ codes "<doc><p Id=\"p1\">Paragraph 1.</p><Signature xmlns=\"http://www.w3.org/2000/09/xmldsig#\"><SignedInfo><CanonicalizationMethod Algorithm=\"http://www.w3.org/2001/10/xml-exc-c14n#\"/><SignatureMethod Algorithm=\"http://www.w3.org/2001/04/xmldsig-more#hmac-sha256\"/><Reference URI=\"#p1\"><DigestMethod Algorithm=\"http://www.w3.org/2001/04/xmlenc#sha256\"/><DigestValue/></Reference></SignedInfo><SignatureValue/></Signature></doc>"
unfolding digits
worked_document = refl

worked_count : (reference_count 1 ≡ 1) × (reference_count 1000 ≡ 64)
worked_count = (refl, refl)

worked_line : line 1000 1838 42122 ≡ codes "selftest 1000 references 64 octets 1838 bytes 42122 valid\n"
unfolding digits
worked_line = refl

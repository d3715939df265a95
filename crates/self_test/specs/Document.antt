-- The document of a self-test: paragraphs, and a template with a Reference to each of the first of them (XML Signature 1.1, section 4).
-- This project's own.
use Rattle.std.specs.Prelude.{ℕ, min, List, ◌++◌, codes, decimal}
use Rattle.std.specs.List.{flat_map, range_with_len}

abbrev pub paragraph : (number : ℕ) → List ℕ
paragraph number = codes "<p Id=\"p" ++ decimal number ++ codes "\">Paragraph " ++ decimal number ++ codes ".</p>"

abbrev pub reference : (number : ℕ) → List ℕ
reference number = codes "<Reference URI=\"#p" ++ decimal number
    ++ codes "\"><DigestMethod Algorithm=\"http://www.w3.org/2001/04/xmlenc#sha256\"/><DigestValue/></Reference>"

-- there is a Reference for each of the first 64 paragraphs
abbrev pub reference_count : (paragraphs : ℕ) → ℕ
reference_count paragraphs = min paragraphs 64

-- one for each number from 1
abbrev pub for_each : (ℕ → List ℕ) → (count : ℕ) → List ℕ
for_each piece count = flat_map piece (range_with_len 1 count)

abbrev pub signature_start : List ℕ
signature_start =
    codes "<Signature xmlns=\"http://www.w3.org/2000/09/xmldsig#\"><SignedInfo><CanonicalizationMethod Algorithm=\"http://www.w3.org/2001/10/xml-exc-c14n#\"/><SignatureMethod Algorithm=\"http://www.w3.org/2001/04/xmldsig-more#hmac-sha256\"/>"

abbrev pub document : (paragraphs : ℕ) → List ℕ
document paragraphs = codes "<doc>" ++ for_each paragraph paragraphs ++ signature_start ++ for_each reference (reference_count paragraphs)
    ++ codes "</SignedInfo><SignatureValue/></Signature></doc>"

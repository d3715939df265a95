-- The definitions, computed on a small document.
use Rattle.std.proofs.Common.{◌≡◌, List, [], ◌∷◌, Some, None, refl}
use Rattle.std.specs.Prelude.{codes}
use Rattle.sig_base.specs.declared.method.CanonMethod.TheVariants.{C10, ExcComments}
use Rattle.sig_base.specs.declared.method.MacMethod.TheVariants.{HmacSha256}
use Rattle.xml_doc.specs.declared.row.Kind.TheVariants.{Root, Element, Namespace, Attribute, Text, Comment}
use Rattle.xml_doc.specs.Rows.{RowOf}
use Rattle.xml_doc.specs.Shape.{xml_name}
use Rattle.c14n_text.proofs.WorkedExamples.{row}
use Rattle.dsig_fields.specs.Reading.{attribute, children}
use Rattle.dsig_fields.specs.Same.{Octet, items}
use Rattle.dsig_fields.specs.declared.fields.Fields.{Fields}
use Rattle.signed_info.specs.Signed.{signed_octets}

-- <s xmlns="urn:s" xml:lang="en"><i A="1">a<!--c-->b</i></s>, whose element i is row 5
abbrev whole : List RowOf
whole =
    row Root 0 11 [] [] [] []
    ∷ row Element 0 11 [] (codes "s") (codes "urn:s") []
    ∷ row Namespace 1 2 [] [] [] (codes "urn:s")
    ∷ row Namespace 1 3 [] (codes "xml") [] xml_name
    ∷ row Attribute 1 4 (codes "xml") (codes "lang") xml_name (codes "en")
    ∷ row Element 1 11 [] (codes "i") (codes "urn:s") []
    ∷ row Namespace 5 6 [] [] [] (codes "urn:s")
    ∷ row Namespace 5 7 [] (codes "xml") [] xml_name
    ∷ row Attribute 5 8 [] (codes "A") [] (codes "1")
    ∷ row Text 5 9 [] [] [] (codes "a")
    ∷ row Comment 5 10 [] [] [] (codes "c")
    ∷ row Text 5 11 [] [] [] (codes "b")
    ∷ []

-- a signature whose SignedInfo that element is
abbrev fields : Fields
fields = record { signature = 1; signed_info = 5; value_row = 0; canon = C10; prefixes = []; mac = HmacSha256; bits = Some 40; references = []; value = []; key_name = None }

-- the default namespace and `xml:lang` come from above, the comment is gone, and the texts are one
signed : signed_octets whole fields ≡ codes "<i xmlns=\"urn:s\" A=\"1\" xml:lang=\"en\">ab</i>"
signed = refl

exclusively : signed_octets whole (record fields { canon = ExcComments }) ≡ codes "<i xmlns=\"urn:s\" A=\"1\">a<!--c-->b</i>"
exclusively = refl

-- the first of these, read again
abbrev again : List RowOf
again =
    row Root 0 6 [] [] [] []
    ∷ row Element 0 6 [] (codes "i") (codes "urn:s") []
    ∷ row Namespace 1 2 [] [] [] (codes "urn:s")
    ∷ row Namespace 1 3 [] (codes "xml") [] xml_name
    ∷ row Attribute 1 4 [] (codes "A") [] (codes "1")
    ∷ row Attribute 1 5 (codes "xml") (codes "lang") xml_name (codes "en")
    ∷ row Text 1 6 [] [] [] (codes "ab")
    ∷ []

said : items whole (children whole 5) ≡ Octet 97 ∷ Octet 98 ∷ []
said = refl

said_again : items again (children again 1) ≡ items whole (children whole 5)
said_again = refl

own_attribute : attribute again 1 (codes "A") ≡ attribute whole 5 (codes "A")
own_attribute = refl

-- an attribute that comes from above isn't seen
imported_attribute : attribute again 1 (codes "lang") ≡ attribute whole 5 (codes "lang")
imported_attribute = refl

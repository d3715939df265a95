-- The joining of bases, computed.
use Rattle.std.specs.Prelude.{◌≡◌, ℕ, true, false, List, [], ◌∷◌, codes}
use Rattle.xml_doc.specs.declared.row.Kind.TheVariants.{Root, Element, Namespace, Attribute, Text}
use Rattle.xml_doc.specs.Rows.{RowOf}
use Rattle.c14n_text.specs.Namespaces.{inclusive, eleven}
use Rattle.c14n_text.specs.Canon.{canon}
use Rattle.c14n_text.proofs.WorkedExamples.{row, member, xml_attributes_above}
use Rattle.c14n_bases.specs.Join.{join}
use Rattle.std.proofs.Common.{refl}

pub beside : join (codes "http://h/a") (codes "../b") ≡ codes "http://h/b"
beside = refl

pub run_of_slashes : join (codes "a//b") (codes "c") ≡ codes "a/c"
run_of_slashes = refl

pub fragment : join (codes "a") (codes "#f") ≡ codes "a"
fragment = refl

pub above_the_root : join (codes "/x/") (codes "../../y") ≡ codes "/y"
above_the_root = refl

pub upwards_kept : join (codes "..") (codes "../y") ≡ codes "../../y"
upwards_kept = refl

pub below_a_folder : join (codes "a/b/") (codes "../c") ≡ codes "a/c"
below_a_folder = refl

pub own_scheme : join (codes "http://h/a") (codes "urn:x:y") ≡ codes "urn:x:y"
own_scheme = refl

pub own_authority : join (codes "http://h/a") (codes "//g/b/../c?q#f") ≡ codes "http://g/c?q"
own_authority = refl

pub empty_authority_path : join (codes "http://h") (codes "a") ≡ codes "http://h/a"
empty_authority_path = refl

pub own_query : join (codes "http://h/a?q") (codes "?r") ≡ codes "http://h/a?r"
own_query = refl

pub base_query : join (codes "http://h/a?q") [] ≡ codes "http://h/a?q"
base_query = refl

pub other_query : join (codes "http://h/a/b?q") (codes "c") ≡ codes "http://h/a/c"
other_query = refl

pub absolute_path : join (codes "http://h/a/b") (codes "/c/./d/..") ≡ codes "http://h/c/"
absolute_path = refl

pub nothing_left : join (codes "a/b") (codes "..") ≡ []
nothing_left = refl

pub root_left : join (codes "/a/b") (codes "..") ≡ codes "/"
root_left = refl

pub no_scheme_without_a_name : join (codes "a/b") (codes ":c") ≡ codes "a/:c"
no_scheme_without_a_name = refl

-- ---- in canonical forms
-- `xml:id` is not imported by Canonical XML 1.1
pub imports_two_names : canon eleven false xml_attributes_above (member (false ∷ false ∷ false ∷ false ∷ false ∷ false ∷ false ∷ false ∷ true ∷ true ∷ true ∷ true ∷ [])) ≡ codes "<e Id=\"k\" xml:lang=\"en\" xml:space=\"preserve\">t</e>"
imports_two_names = refl

abbrev xml : List ℕ
xml = codes "http://www.w3.org/XML/1998/namespace"

-- <r xml:base="a/b/"><e Id="k" xml:base="../c"/></r>
abbrev base_above : List RowOf
base_above =
    row Root 0 7 [] [] [] []
    ∷ row Element 0 7 [] (codes "r") [] []
    ∷ row Namespace 1 2 [] (codes "xml") [] xml
    ∷ row Attribute 1 3 (codes "xml") (codes "base") xml (codes "a/b/")
    ∷ row Element 1 7 [] (codes "e") [] []
    ∷ row Namespace 4 5 [] (codes "xml") [] xml
    ∷ row Attribute 4 6 [] (codes "Id") [] (codes "k")
    ∷ row Attribute 4 7 (codes "xml") (codes "base") xml (codes "../c")
    ∷ []

pub joined_in_the_form : canon eleven false base_above (member (false ∷ false ∷ false ∷ false ∷ true ∷ true ∷ true ∷ true ∷ [])) ≡ codes "<e Id=\"k\" xml:base=\"a/c\"></e>"
joined_in_the_form = refl

-- the element's own is joined also where it is outside the set
pub joined_from_outside : canon eleven false base_above (member (false ∷ false ∷ false ∷ false ∷ true ∷ true ∷ true ∷ false ∷ [])) ≡ codes "<e Id=\"k\" xml:base=\"a/c\"></e>"
joined_from_outside = refl

-- by Canonical XML 1.0 it stands as it is
pub own_by_the_first_edition : canon inclusive false base_above (member (false ∷ false ∷ false ∷ false ∷ true ∷ true ∷ true ∷ true ∷ [])) ≡ codes "<e Id=\"k\" xml:base=\"../c\"></e>"
own_by_the_first_edition = refl

-- nothing is joined where the parent is in the set
pub parent_in_the_set : canon eleven false base_above (member (false ∷ true ∷ true ∷ false ∷ true ∷ true ∷ true ∷ true ∷ [])) ≡ codes "<r><e Id=\"k\" xml:base=\"../c\"></e></r>"
parent_in_the_set = refl

-- <r xml:base="x/"><m xml:base="y//z"><n><e/></n></m></r>
abbrev run_of_three : List RowOf
run_of_three =
    row Root 0 10 [] [] [] []
    ∷ row Element 0 10 [] (codes "r") [] []
    ∷ row Namespace 1 2 [] (codes "xml") [] xml
    ∷ row Attribute 1 3 (codes "xml") (codes "base") xml (codes "x/")
    ∷ row Element 1 10 [] (codes "m") [] []
    ∷ row Namespace 4 5 [] (codes "xml") [] xml
    ∷ row Attribute 4 6 (codes "xml") (codes "base") xml (codes "y//z")
    ∷ row Element 4 10 [] (codes "n") [] []
    ∷ row Namespace 7 8 [] (codes "xml") [] xml
    ∷ row Element 7 10 [] (codes "e") [] []
    ∷ row Namespace 9 10 [] (codes "xml") [] xml
    ∷ []

pub joined_over_the_run : canon eleven false run_of_three (member (false ∷ false ∷ false ∷ false ∷ false ∷ false ∷ false ∷ false ∷ false ∷ true ∷ true ∷ [])) ≡ codes "<e xml:base=\"x/y/z\"></e>"
joined_over_the_run = refl

-- the run ends at an element of the set, and one value alone stays as it is
pub run_ends_at_the_set : canon eleven false run_of_three (member (false ∷ true ∷ true ∷ true ∷ false ∷ false ∷ false ∷ false ∷ false ∷ true ∷ true ∷ [])) ≡ codes "<r xml:base=\"x/\"><e xml:base=\"y//z\"></e></r>"
run_ends_at_the_set = refl

-- <r xml:base="a/b"><e xml:base=".."/></r>: an empty result isn't written
abbrev nothing_joined : List RowOf
nothing_joined =
    row Root 0 6 [] [] [] []
    ∷ row Element 0 6 [] (codes "r") [] []
    ∷ row Namespace 1 2 [] (codes "xml") [] xml
    ∷ row Attribute 1 3 (codes "xml") (codes "base") xml (codes "a/b")
    ∷ row Element 1 6 [] (codes "e") [] []
    ∷ row Namespace 4 5 [] (codes "xml") [] xml
    ∷ row Attribute 4 6 (codes "xml") (codes "base") xml (codes "..")
    ∷ []

pub empty_one_left_out : canon eleven false nothing_joined (member (false ∷ false ∷ false ∷ false ∷ true ∷ true ∷ true ∷ [])) ≡ codes "<e></e>"
empty_one_left_out = refl

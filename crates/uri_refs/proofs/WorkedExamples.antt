-- The definitions, computed on examples that were worked by hand. The base is https://folder.invalid/, the catalog empty.
use Rattle.std.proofs.Common.{◌≡◌, refl, List, ℕ, Result, Ok, Err}
use Rattle.std.specs.Prelude.{codes, None, Some, true, false, [], ◌∷◌}
use Rattle.url.proofs.OnLiterals.{url_on_literals}
use Rattle.url.specs.Parts.{Parts}
use Rattle.url.specs.Parser.{parse_url}
use Rattle.url.specs.declared.host.Host.TheVariants.{Domain}
use Rattle.xml_names.specs.Characters.{is_name_start, is_name_char}
use Rattle.sig_base.specs.Lines.{lines_of, lines_read}
use Rattle.uri_refs.specs.Catalogs.{catalog_of, line_read}
use Rattle.uri_refs.specs.Names.{name_of_segments}
use Rattle.uri_refs.specs.Targets.{target_of}
use Rattle.uri_refs.specs.declared.catalog.CatalogFault.TheVariants.{BadLine, Repeated}
use Rattle.uri_refs.specs.declared.refusal.UriRefusal.{UriRefusal}
use Rattle.uri_refs.specs.declared.refusal.UriRefusal.TheVariants.{UnknownPointer, NotUri, HasFragment, HasQuery, Foreign, BadSegment}
use Rattle.uri_refs.specs.declared.target.Target.{Target}
use Rattle.uri_refs.specs.declared.target.Target.TheVariants.{Whole, Element, Named}

abbrev base : Parts
base = record {
  scheme = codes "https";
  username = [];
  password = [];
  host = Some (Domain (codes "folder.invalid"));
  port = None;
  path = codes "/";
  query = None;
  fragment = None;
}

pub base_is : parse_url None (codes "https://folder.invalid/") ≡ Ok base
unfolding url_on_literals
base_is = refl

abbrev target : List ℕ → Result Target UriRefusal
target uri = target_of uri (record { base = base; catalog = [] })

pub same_document :
    (target [] ≡ Ok (Whole false)) × (target (codes "#k") ≡ Ok (Element (codes "k") false)) × (target (codes "#xpointer(/)") ≡ Ok (Whole true))
    × (target (codes "#xpointer(id('k'))") ≡ Ok (Element (codes "k") true)) × (target (codes "#xpointer(//a)") ≡ Err UnknownPointer)
    × (target (codes "#a:b") ≡ Err UnknownPointer) × (target (codes "#") ≡ Err UnknownPointer)
unfolding target_of is_name_start is_name_char url_on_literals
same_document = (refl, refl, refl, refl, refl, refl, refl)

pub files :
    (target (codes "../x") ≡ Ok (Named (codes "x"))) × (target (codes "%2e%2e/x") ≡ Ok (Named (codes "x"))) × (target (codes "a%20b") ≡ Ok (Named (codes "a b")))
    × (target (codes "a%2Fb") ≡ Err BadSegment) × (target (codes "a//b") ≡ Err BadSegment)
    × (target (codes "a#b") ≡ Err HasFragment) × (target (codes "a?") ≡ Err HasQuery)
    × (target (codes "http://other.example/a") ≡ Err Foreign) × (target (codes "https://[") ≡ Err NotUri)
unfolding target_of name_of_segments url_on_literals
files = (refl, refl, refl, refl, refl, refl, refl, refl, refl)

pub catalogs :
    (catalog_of (codes "x y") ≡ Err (BadLine 1))
    × (catalog_of (codes "#\nhttp://A:80/ x") ≡ Ok (record { line = 2; url = codes "http://a/"; name = codes "x" } ∷ []))
    × (catalog_of (codes "http://a/ x\n\nhttp://A y") ≡ Err (Repeated 3 1))
unfolding catalog_of lines_read line_read lines_of url_on_literals
catalogs = (refl, refl, refl)

-- What a URI refers to: XML Signature 1.1, sections 4.4.3.1 and 4.4.3.2.
use Rattle.std.specs.Prelude.{◌==◌, ℕ, List, length, codes, is_some, Option, Some, None, Result, Ok, Err, false, if◌then◌else◌}
use Rattle.std.specs.Str.{chars}
use Rattle.sig_base.specs.Outcomes.{and_then}
use Rattle.url.specs.Parts.{Parts, serialize}
use Rattle.url.specs.Parser.{parse_url}
use Rattle.url.specs.declared.error.ParseError.{ParseError}
use Rattle.uri_refs.specs.CatalogEntries.{CatalogEntry}
use Rattle.uri_refs.specs.Catalogs.{entry_of}
use Rattle.uri_refs.specs.Cuts.{behind, folder_part}
use Rattle.uri_refs.specs.Names.{name_of}
use Rattle.uri_refs.specs.Pointers.{fragment_target}
use Rattle.uri_refs.specs.declared.refusal.UriRefusal.{UriRefusal}
use Rattle.uri_refs.specs.declared.refusal.UriRefusal.TheVariants.{NotUri, HasFragment, HasQuery, Foreign}
use Rattle.uri_refs.specs.declared.target.Place.{Place}
use Rattle.uri_refs.specs.declared.target.Target.{Target}
use Rattle.uri_refs.specs.declared.target.Target.TheVariants.{Whole, Named}

-- the name of a file as characters
abbrev pub in_characters : Result (List ℕ) UriRefusal → Result (List ℕ) UriRefusal
in_characters name = and_then name (λ octets. Ok (chars octets))

abbrev pub name_behind : Option (List ℕ) → Result (List ℕ) UriRefusal
name_behind None = Err Foreign
name_behind (Some path) = in_characters (name_of path)

-- the file of a URL's path below the base
abbrev pub path_name : (base url : Parts) → Result (List ℕ) UriRefusal
path_name base url = name_behind (behind (folder_part (serialize base)) (serialize url))

-- the file of a URL: the one that the catalog gives for it, else that of its path
abbrev pub file_of : Option CatalogEntry → (base url : Parts) → Result (List ℕ) UriRefusal
file_of (Some entry) base url = Ok (chars entry.name)
file_of None base url = path_name base url

abbrev pub url_target : Place → Parts → Result Target UriRefusal
url_target place url =
    if is_some url.fragment then Err HasFragment
    else (if is_some url.query then Err HasQuery
    else and_then (file_of (entry_of (serialize url) place.catalog) place.base url) (λ name. Ok (Named name)))

abbrev pub joined_target : Place → Result Parts ParseError → Result Target UriRefusal
joined_target place (Ok url) = url_target place url
joined_target place (Err e) = Err NotUri

abbrev pub target_by : Option (List ℕ) → (uri : List ℕ) → Place → Result Target UriRefusal
target_by (Some fragment) uri place = fragment_target fragment
target_by None uri place = joined_target place (parse_url (Some place.base) uri)

-- what the octets of a URI refer to: the empty URI to this document without its comments (section 4.4.3.3)
unfoldable pub target_of : (uri : List ℕ) → Place → Result Target UriRefusal
target_of uri place = if length uri == 0 then Ok (Whole false) else target_by (behind (codes "#") uri) uri place

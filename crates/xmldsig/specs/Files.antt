-- What the files of a folder come to: a document, the keys of a key file, the entries of a catalog.
use Rattle.std.specs.Prelude.{ℕ, List, [], ◌∷◌, length, nat_le, if◌then◌else◌, encode_utf8_all, Option, Some, None, Result, Ok, Err}
use Rattle.sig_base.specs.Outcomes.{and_then, with_cause}
use Rattle.sig_outside.specs.Told.{Held}
use Rattle.digests_hmac.specs.KeyEntries.{KeyEntry}
use Rattle.digests_hmac.specs.Keys.{keys_of}
use Rattle.uri_refs.specs.CatalogEntries.{CatalogEntry}
use Rattle.uri_refs.specs.Catalogs.{catalog_of}
use Rattle.xml_read.specs.declared.read.ReadRefusal.TheVariants.{TooLarge}
use Rattle.xmldsig.specs.declared.ending.Refusal.{Refusal}
use Rattle.xmldsig.specs.declared.ending.Refusal.TheVariants as refusal

-- the octets of a file that is held, within a limit
abbrev pub file_outcome : Option (List ℕ) → (limit : ℕ) → (absent too_long : Refusal) → Result (List ℕ) Refusal
file_outcome None limit absent too_long = Err absent
file_outcome (Some bytes) limit absent too_long = if nat_le (length bytes) limit then Ok bytes else Err too_long

-- the octets of a document
abbrev pub document_outcome : (name : List ℕ) → Held → Result (List ℕ) Refusal
document_outcome name files = file_outcome (files (encode_utf8_all name)) 4194304 refusal.NoDocument (refusal.Read TooLarge)

-- the keys of a key file
abbrev pub keys_read : List ℕ → Result (List KeyEntry) Refusal
keys_read bytes = with_cause refusal.Keys (keys_of bytes)

abbrev pub keys_file : (name : List ℕ) → Held → Result (List ℕ) Refusal
keys_file name files = file_outcome (files (encode_utf8_all name)) 16777216 refusal.NoKeys refusal.KeysTooLarge

abbrev pub keys_outcome : (name : List ℕ) → Held → Result (List KeyEntry) Refusal
keys_outcome name files = and_then (keys_file name files) keys_read

-- the entries of a catalog: none, where no catalog is named
abbrev pub catalog_read : List ℕ → Result (List CatalogEntry) Refusal
catalog_read bytes = with_cause refusal.Catalog (catalog_of bytes)

abbrev pub catalog_file : (name : List ℕ) → Held → Result (List ℕ) Refusal
catalog_file name files = file_outcome (files (encode_utf8_all name)) 1048576 refusal.NoCatalog refusal.CatalogTooLarge

abbrev pub named_catalog : (name : List ℕ) → Held → Result (List CatalogEntry) Refusal
named_catalog name files = and_then (catalog_file name files) catalog_read

abbrev pub catalog_outcome : Option (List ℕ) → Held → Result (List CatalogEntry) Refusal
catalog_outcome None files = Ok []
catalog_outcome (Some name) files = named_catalog name files

-- the name of the catalog, where one is named
abbrev pub catalog_names : Option (List ℕ) → List (List ℕ)
catalog_names None = []
catalog_names (Some name) = encode_utf8_all name ∷ []

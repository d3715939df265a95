-- What a self-test asks: the only Signature, under the only key, with its views kept. Its URIs refer to no file.
use Rattle.std.specs.Prelude.{true, List, [], ◌∷◌, codes, Some, None}
use Rattle.std.specs.List.{range_with_len}
use Rattle.url.specs.Parts.{Parts}
use Rattle.url.specs.declared.host.Host.TheVariants.{Domain}
use Rattle.digests_hmac.specs.KeyEntries.{KeyEntry}
use Rattle.uri_refs.specs.declared.target.Place.{Place}
use Rattle.dsig_fields.specs.Keys.{QuestionOf}

-- a URL of no host (RFC 6761, section 6.4)
abbrev pub base : Parts
base = record {
  scheme = codes "https";
  username = [];
  password = [];
  host = Some (Domain (codes "folder.invalid"));
  port = None;
  path = codes "/";
  query = None;
  fragment = None;
}

abbrev pub place : Place
place = record { base = base; catalog = [] }

-- the key has the octets 0 to 31
abbrev pub keys : List KeyEntry
keys = record { line = 1; name = codes "selftest"; octets = range_with_len 0 32 } ∷ []

abbrev pub question : QuestionOf
question = record { index = 1; key_name = None; keys = keys; place = place; keep_views = true }

-- The base and the key are those that their texts spell.
use Rattle.std.proofs.Common.{◌≡◌, refl, [], codes, Ok}
use Rattle.std.specs.Char.{encode_utf8}
use Rattle.std.specs.Str.{chars, is_utf8}
use Rattle.url.proofs.OnLiterals.{url_on_literals}
use Rattle.sig_base.specs.Lines.{lines_of, lines_read}
use Rattle.digests_hmac.specs.KeyLines.{octets_of_digits}
use Rattle.digests_hmac.specs.Keys.{keys_of, line_read}
use Rattle.uri_refs.specs.Bases.{base_of}
use Rattle.uri_refs.specs.Catalogs.{catalog_of}
use Rattle.self_test.specs.Question.{base, keys}

pub base_is : base_of (codes "https://folder.invalid/") ≡ Ok base
unfolding url_on_literals
base_is = refl

pub keys_are : keys_of (codes "000102030405060708090a0b0c0d0e0f101112131415161718191a1b1c1d1e1f selftest\n") ≡ Ok keys
unfolding chars is_utf8 encode_utf8 keys_of lines_of lines_read line_read octets_of_digits
keys_are = refl

pub catalog_is : catalog_of [] ≡ Ok []
unfolding catalog_of lines_of lines_read
catalog_is = refl

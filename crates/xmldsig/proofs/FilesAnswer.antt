-- What a file comes to.
use Rattle.std.proofs.Common.{◌≡◌, ◌<◌, arith, ℕ, List, [], length, Option, Some, None, Ok, Err, IsSomeAnd, refl}
use Rattle.std.proofs.lemmas.Bool.Decides.{nat_tests}
use Rattle.sig_base.specs.Lines.{lines_of, lines_read}
use Rattle.uri_refs.specs.Catalogs.{catalog_of}
use Rattle.xmldsig.specs.Files.{catalog_read, file_outcome}
use Rattle.xmldsig.specs.declared.ending.Refusal.{Refusal}

too_long_at : (file : Option (List ℕ)) (limit : ℕ) (absent too_long : Refusal) → IsSomeAnd file (λ bytes. limit < length bytes)
    → file_outcome file limit absent too_long ≡ Err too_long
too_long_at None limit absent too_long h = absurd h
too_long_at (Some bytes) limit absent too_long h = grind (arith, nat_tests)

pub file_too_long : (files : List ℕ → Option (List ℕ)) (name text : List ℕ) (limit : ℕ) (absent too_long : Refusal) → text ≡ name
    → IsSomeAnd (files text) (λ bytes. limit < length bytes) → file_outcome (files name) limit absent too_long ≡ Err too_long
file_too_long files name text limit absent too_long e h = rw (← e) (too_long_at (files text) limit absent too_long h)

-- no octets are the empty catalog
pub no_catalog : catalog_read [] ≡ Ok []
unfolding catalog_of lines_of lines_read
no_catalog = refl

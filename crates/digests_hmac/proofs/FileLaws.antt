-- The first line of a key file that is refused decides.
use Rattle.std.proofs.Common.{ℕ, List, [], ◌∷◌, ◌++◌, length, Option, Some, None, refl, nat_lt, inl, inr}
use Rattle.std.proofs.lemmas.Bool.{cases_Bool}
use Rattle.sig_base.specs.LineFaults.{FileDecides}
use Rattle.sig_base.proofs.LineFaultLaws.{Agrees, line_agrees}
use Rattle.sig_base.proofs.LineFaultLaws as line
use Rattle.digests_hmac.specs.declared.key_table.KeyFault.TheVariants.{BadLine}
use Rattle.digests_hmac.specs.KeyEntries.{KeyEntry}
use Rattle.digests_hmac.specs.KeyLines.{is_key_line}
use Rattle.digests_hmac.specs.Keys.{added_unless, entry_of, key_limit, keys_of, line_read, named}
use Rattle.digests_hmac.specs.KeyFiles.{clash, fault_of, spelled}

key-agrees : (found : Option KeyEntry) (key : KeyEntry) (keys : List KeyEntry)
    → Agrees (clash found key keys) (added_unless found key keys) (keys ++ key ∷ [])
key-agrees (Some earlier) key keys = refl
key-agrees None key keys = elim (cases_Bool (nat_lt (length keys) key_limit)) [ inl room ↦ rw room refl | inr full ↦ rw full refl ]

agrees : (number : ℕ) (line : List ℕ) (keys : List KeyEntry)
    → Agrees (fault_of number line keys) (line_read number line keys) (keys ++ spelled number line)
unfolding line_read
agrees number line keys =
    line_agrees (BadLine number) line keys (entry_of number line ∷ []) _ _ (elim (cases_Bool (is_key_line line)) [
      | inr bad ↦ rw bad refl
      | inl good ↦ rw good (key-agrees (named (entry_of number line).name keys) (entry_of number line) keys)
    ])

pub file_decides : (file : List ℕ) → FileDecides spelled fault_of file (keys_of file)
unfolding keys_of
file_decides file = line.file_decides spelled fault_of line_read agrees file

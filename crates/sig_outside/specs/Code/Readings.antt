-- What reading a file to its end gives.
use Rattle.std.specs.Prelude.{◌≡◌, ◌≤◌, ◌<◌, ℕ, List, length, ⊤}
use Rattle.sig_outside.specs.declared.dir_folder.Reading.{Reading}
use Rattle.sig_outside.specs.declared.dir_folder.Reading.TheVariants.{Whole, Absent, TooLong, Failed, NoMemory}

-- the octets of a file came whole, or passed the limit; a failed read and want of memory tell nothing
abbrev pub ReadsWithin : List ℕ → ℕ → Reading → Type 0
ReadsWithin octets limit (Whole read) = (read.items ≡ octets) × (length octets ≤ limit)
ReadsWithin octets limit Absent = ⊥
ReadsWithin octets limit TooLong = limit < length octets
ReadsWithin octets limit Failed = ⊤
ReadsWithin octets limit NoMemory = ⊤

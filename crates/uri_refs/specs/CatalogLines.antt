-- Lines of a catalog: a URL, one space, the name of its file
use Rattle.std.specs.Prelude.{◌&&◌, ℕ, Bool, not, nat_le, List, length, is_some}
use Rattle.sig_base.specs.Lines.{have_no_controls}
use Rattle.url.specs.Parts.{Parts}

-- a name is 1 to 4,096 octets, none of them a control character below the space
abbrev pub is_file_name : List ℕ → Bool
is_file_name name = nat_le 1 (length name) && (nat_le (length name) 4096 && have_no_controls name)

-- a URL that an entry may have
abbrev pub is_entry_url : Parts → Bool
is_entry_url url = not (is_some url.fragment) && not (is_some url.query)

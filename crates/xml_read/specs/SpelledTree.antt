-- The tree that octets spell, however many they are and however large it is (XML 1.0 fifth edition).
use Rattle.std.specs.Prelude.{ℕ, Bool, not, ◌||◌, List, [], ◌∷◌, take, drop, Option, None, bytes_eq, if◌then◌else◌}
use Rattle.std.specs.Str.{chars, is_utf8}
use Rattle.xml_syntax.specs.Characters.{Placed, characters}
use Rattle.xml_syntax.specs.Tree.{Content}
use Rattle.xml_syntax.specs.Reading.{document_of}
use Rattle.xml_syntax.specs.Outcome.{names_other_encoding}

-- the byte order mark in UTF-8 (XML 1.0 section 4.3.3)
abbrev pub byte_order_mark : List ℕ
byte_order_mark = 0xef ∷ 0xbb ∷ 0xbf ∷ []

-- the length of the mark that the octets begin with: 3, or 0 where there is none
abbrev pub mark_length : List ℕ → ℕ
mark_length octets = if bytes_eq byte_order_mark (take 3 octets) then 3 else 0

-- the octets behind the mark
abbrev pub behind_mark : List ℕ → List ℕ
behind_mark octets = drop (mark_length octets) octets

-- the characters behind the mark, each with its offset
abbrev pub characters_of : List ℕ → List Placed
characters_of octets = characters (mark_length octets) (chars (behind_mark octets))

-- they aren't UTF-8, or the XML declaration names another encoding (XML 1.0 section 4.3.3)
abbrev pub has_other_encoding : List ℕ → Bool
has_other_encoding octets = not (is_utf8 (behind_mark octets)) || names_other_encoding (characters_of octets)

-- the tree that the octets spell (XML 1.0 section 2.1), or none
abbrev pub tree_of : List ℕ → Option Content
tree_of octets = if has_other_encoding octets then None else document_of (characters_of octets)

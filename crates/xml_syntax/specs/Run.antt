-- Octets that stand for themselves, which are read in runs.
use Rattle.std.specs.Prelude.{◌≡◌, ℕ, ◌<◌, Bool, true, false, ◌||◌, List, [], ◌∷◌, ◌==◌, codes, if◌then◌else◌}
use Rattle.xml_syntax.specs.declared.run.Run.{Run}
use Rattle.xml_syntax.specs.declared.run.Run.TheVariants.{Text, Value, Name, Inner}
use Rattle.xml_names.specs.Characters.{Range, one, span, in_some, is_name_char}
use Rattle.xml_syntax.specs.Characters.{Placed, begins, begins_with}
use Rattle.xml_syntax.specs.Classes.{is_between}

-- a printing ASCII character, a space or a DEL
abbrev pub is_shown : ℕ → Bool
is_shown c = is_between 32 127 c

-- the same, a tab or an LF
abbrev pub is_shown_or_space : ℕ → Bool
is_shown_or_space c = is_shown c || (c == 9) || (c == 10)

-- the ASCII characters of a name: the colon, letters, the low line, the hyphen, the full stop and digits
abbrev pub name_octets : List Range
name_octets = one 58 ∷ span 65 90 ∷ one 95 ∷ span 97 122 ∷ one 45 ∷ one 46 ∷ span 48 57 ∷ []

-- The octets of a run: in character data, in a value between quotes, in a name, and in a comment, a CDATA section or an
-- instruction. Each is an ASCII character and no CR, and begins none of what ends that place.
abbrev pub in_run : Run → ℕ → Bool
in_run Text c = if (c == 60) || (c == 38) || (c == 93) then false else is_shown_or_space c
in_run Value c = if (c == 34) || (c == 39) || (c == 60) || (c == 38) then false else is_shown c
in_run Name c = in_some name_octets c
in_run Inner c = if (c == 45) || (c == 93) || (c == 63) then false else is_shown_or_space c

-- what ends the run of a comment, a CDATA section or an instruction begins with a character that stands in none
abbrev pub ends_inner : List ℕ → Bool
ends_inner [] = false
ends_inner (c ∷ w) = (c == 45) || (c == 93) || (c == 63)

-- These octets are characters of a kind of run, and were taken from the front.
abbrev pub Takes : (ℕ → Bool) → List ℕ → List Placed → List Placed → Type 0
Takes p [] xs left = left ≡ xs
Takes p (c ∷ w) [] left = ⊥
Takes p (c ∷ w) (x ∷ xs) left = (x.code ≡ c) × (p c ≡ true) × Takes p w xs left

-- the longest front of NameChars (XML 1.0 §2.3)
unfoldable pub front_name : List ℕ → List ℕ
front_name [] = []
front_name (c ∷ cs) = if is_name_char c then c ∷ front_name cs else []

-- what is behind it
unfoldable pub behind_name : List ℕ → List ℕ
behind_name [] = []
behind_name (c ∷ cs) = if is_name_char c then behind_name cs else c ∷ cs

-- the octet behind the < of a start tag or an end tag, where it is ASCII
abbrev pub begins_tag : ℕ → Bool
begins_tag c = (c == 47) || in_run Name c

-- the octets begin with < and such an octet
abbrev pub IsTagBegin : List ℕ → Type 0
IsTagBegin [] = ⊥
IsTagBegin (a ∷ []) = ⊥
IsTagBegin (a ∷ (b ∷ bs)) = (a ≡ 60) × (begins_tag b ≡ true)

-- a small letter comes first
abbrev pub BeginsSmall : List ℕ → Type 0
BeginsSmall [] = ⊥
BeginsSmall (c ∷ cs) = is_between 97 122 c ≡ true

-- nothing comes, or an ASCII character that stands in no name
abbrev pub EndsName : List ℕ → Type 0
EndsName [] = Unit {0}
EndsName (c ∷ cs) = (c < 128) × (in_run Name c ≡ false)

-- A tag comes next, and no comment, CDATA section or instruction.
abbrev pub IsTagNext : List Placed → Type 0
IsTagNext xs = (begins 60 xs ≡ true) × (begins_with (codes "<![") xs ≡ false) × (begins_with (codes "<!") xs ≡ false)
    × (begins_with (codes "<?") xs ≡ false)

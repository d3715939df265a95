-- Which trees have a spelling at all: each rule of XML 1.0 (fifth edition) that limits names, texts and where nodes may stand,
-- said of the tree. Texts are octets, and have to be UTF-8.
use Rattle.std.specs.Prelude.{◌≡◌, ℕ, ◌==◌, Bool, true, false, not, List, [], ◌∷◌, map, codes}
use Rattle.std.specs.Str.{chars}
use Rattle.xml_names.specs.Characters.{is_char}
use Rattle.xml_syntax.specs.Characters.{Placed, mark, utf8, Passes, Stops, Lacks}
use Rattle.xml_syntax.specs.Code.Characters.{EndsWithout}
use Rattle.xml_syntax.specs.Classes.{is_space, is_in_any_case}
use Rattle.xml_syntax.specs.Tree.{Attribute, Content, nothing, text, comment, instruction, element}
use Rattle.xml_syntax.specs.Grammar.{SpellsName, are_apart}

-- octets as the characters that the grammar speaks of; where they stand doesn't matter, so each stands at offset 0
abbrev pub letters : List ℕ → List Placed
letters w = map (λ c. mark c 0) (chars w)

-- a Name (§2.3)
abbrev pub IsName : List ℕ → Type 0
IsName w = SpellsName (letters w) w

-- UTF-8 of Chars (§2.2)
abbrev pub IsText : List ℕ → Type 0
IsText w = Passes is_char (letters w) × (w ≡ utf8 (letters w))

-- not CR: a reader turns it into a line feed (§2.11), and comments and instructions hold no reference for it
abbrev pub is_no_return : ℕ → Bool
is_no_return c = not (c == 13)

-- the text of a comment (§2.5)
pub record IsComment (w : List ℕ) : Type 0 where
  pub is_text : IsText w
  pub no_return : Passes is_no_return (letters w)
  pub no_dashes : Lacks (codes "--") (letters w)
  pub no_dash_last : EndsWithout 45 (letters w)

-- an instruction, its target first (§2.6)
pub record IsInstruction (target w : List ℕ) : Type 0 where
  pub is_name : IsName target
  pub not_xml : is_in_any_case (codes "xml") target ≡ false
  pub is_text : IsText w
  pub no_return : Passes is_no_return (letters w)
  pub no_space_first : Stops is_space (letters w)
  pub no_close : Lacks (codes "?>") (letters w)

-- attributes one by one (§3.1)
abbrev pub AreAttributes : List Attribute → Type 0
AreAttributes [] = Unit {0}
AreAttributes (a ∷ more) = IsName a.name × IsText a.value × AreAttributes more

-- a tag: its name, its attributes, and that no name is there twice (§3.1)
pub record IsTag (name : List ℕ) (attributes : List Attribute) : Type 0 where
  pub is_name : IsName name
  pub are_attributes : AreAttributes attributes
  pub apart : are_apart attributes ≡ true

-- nodes that start with a text
abbrev pub begins_with_text : Content → Bool
begins_with_text nothing = false
begins_with_text (text w k) = true
begins_with_text (comment w k) = false
begins_with_text (instruction target w k) = false
begins_with_text (element tag inner until k) = false

-- there is something in the text, and what follows is no text
abbrev pub StandsAlone : List ℕ → Content → Type 0
StandsAlone [] k = ⊥
StandsAlone (c ∷ w) k = begins_with_text k ≡ false

-- a text node as large as can be (XPath 1.0 §5.7)
pub record IsWholeText (w : List ℕ) (k : Content) : Type 0 where
  pub is_text : IsText w
  pub alone : StandsAlone w k

-- each node of the content can be spelled
abbrev pub Tidy : Content → Type 0
Tidy nothing = Unit {0}
Tidy (text w k) = IsWholeText w k × Tidy k
Tidy (comment w k) = IsComment w × Tidy k
Tidy (instruction target w k) = IsInstruction target w × Tidy k
Tidy (element tag inner until k) = IsTag tag.name tag.attributes × Tidy inner × Tidy k

-- Misc, white space aside (§2.8)
abbrev pub AreMisc : Content → Type 0
AreMisc nothing = Unit {0}
AreMisc (text w k) = ⊥
AreMisc (comment w k) = AreMisc k
AreMisc (instruction target w k) = AreMisc k
AreMisc (element tag inner until k) = ⊥

-- the document element, and Misc before and behind it (§2.1)
abbrev pub HasOneElement : Content → Type 0
HasOneElement nothing = ⊥
HasOneElement (text w k) = ⊥
HasOneElement (comment w k) = HasOneElement k
HasOneElement (instruction target w k) = HasOneElement k
HasOneElement (element tag inner until k) = AreMisc k

-- the tree of a document that can be spelled
pub record TidyDocument (t : Content) : Type 0 where
  pub tidy : Tidy t
  pub one_element : HasOneElement t

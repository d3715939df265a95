-- Reading a document in the words of the grammar (XML 1.0 fifth edition, Namespaces in XML 1.0).
use Rattle.std.specs.Prelude.{◌≡◌, ℕ, ◌<◌, ◌≤◌, true, nat_lt, List, [], length, Some, None, Result, Ok, Err, if◌then◌else◌}
use Rattle.std.specs.Str.{is_utf8}
use Rattle.xml_doc.specs.Rows.{RowOf}
use Rattle.xml_syntax.specs.Tree.{Content}
use Rattle.xml_syntax.specs.Grammar.{SpellsDocument}
use Rattle.xml_syntax.specs.Outcome.{HasDocType, NamesOtherEncoding, SpellsNothing}
use Rattle.xml_resolve.specs.Depth.{depth}
use Rattle.xml_resolve.specs.Limits.{row_limit}
use Rattle.xml_resolve.specs.Resolve.{Resolved, resolve}
use Rattle.xml_resolve.specs.Rows.{rows_of}
use Rattle.xml_read.specs.ReadOutcome.{document_limit, depth_limit}
use Rattle.xml_read.specs.SpelledTree.{behind_mark, characters_of}
use Rattle.xml_read.specs.declared.read.ReadRefusal.{ReadRefusal}
use Rattle.xml_read.specs.declared.read.ReadRefusal.TheVariants.{TooLarge, Encoding, DocType, NotWellFormed, Namespaces, TooDeep, TooManyRows, Memory}

-- behind the mark the octets are UTF-8, and no XML declaration names another encoding (XML 1.0 section 4.3.3)
pub record AreUtf8 (octets : List ℕ) : Type 0 where
  pub utf8 : is_utf8 (behind_mark octets) ≡ true
  pub no_other : NamesOtherEncoding (characters_of octets) → ⊥

-- the octets spell this tree (XML 1.0 section 2.1)
pub record SpellsTree (octets : List ℕ) (tree : Content) : Type 0 where
  pub encoding : AreUtf8 octets
  pub spelled : SpellsDocument (characters_of octets) tree

-- they spell a tree whose names are resolved, which is nested within the limit, and these are its rows
pub record Spells (octets : List ℕ) (rows : List RowOf) : Type 0 where
  pub tree : Content
  pub resolved : Resolved
  pub spells : SpellsTree octets tree
  pub resolves : resolve [] tree ≡ Some resolved
  pub shallow : depth tree ≤ depth_limit
  pub rows_are : rows ≡ rows_of resolved

-- the rows, within the limits on octets and rows
abbrev pub limited : List ℕ → List RowOf → Result (List RowOf) ReadRefusal
limited octets rows =
    if nat_lt document_limit (length octets) then Err TooLarge
    else (if nat_lt row_limit (length rows) then Err TooManyRows
    else Ok rows)

-- why octets are refused: what each refusal says of them, and that no refusal before it holds
abbrev pub IsRefusedFor : ReadRefusal → List ℕ → Type 0
IsRefusedFor TooLarge octets = document_limit < length octets
IsRefusedFor Encoding octets = (length octets ≤ document_limit) × (AreUtf8 octets → ⊥)
IsRefusedFor DocType octets = (length octets ≤ document_limit) × AreUtf8 octets × HasDocType (characters_of octets)
IsRefusedFor NotWellFormed octets =
    (length octets ≤ document_limit) × AreUtf8 octets
    × (HasDocType (characters_of octets) → ⊥) × SpellsNothing (characters_of octets)
IsRefusedFor Namespaces octets =
    (length octets ≤ document_limit) × (tree : Content) × SpellsTree octets tree × (resolve [] tree ≡ None)
IsRefusedFor TooDeep octets =
    (length octets ≤ document_limit) × (tree : Content) × (resolved : Resolved)
    × SpellsTree octets tree × (resolve [] tree ≡ Some resolved) × (depth_limit < depth tree)
IsRefusedFor TooManyRows octets =
    (length octets ≤ document_limit) × (rows : List RowOf) × Spells octets rows × (row_limit < length rows)
IsRefusedFor Memory octets = ⊥

-- what an outcome says of the octets: a document is read exactly where one is spelled within the limits
abbrev pub IsOutcome : Result (List RowOf) ReadRefusal → List ℕ → Type 0
IsOutcome (Ok rows) octets = (length octets ≤ document_limit) × Spells octets rows × (length rows ≤ row_limit)
IsOutcome (Err refusal) octets = IsRefusedFor refusal octets

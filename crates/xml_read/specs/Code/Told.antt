-- What the passes over a document answer: its characters, and its events.
use Rattle.std.specs.Prelude.{◌≡◌, true, List, Result, Err, if◌then◌else◌}
use Rattle.xml_doc.specs.Rows.{RowOf}
use Rattle.xml_syntax.specs.Characters.{Placed}
use Rattle.xml_syntax.specs.Outcome.{names_other_encoding, has_doc_type}
use Rattle.xml_syntax.specs.Reading.{document_of}
use Rattle.xml_syntax.specs.Tree.{Content, Event, events}
use Rattle.xml_resolve.specs.Documents.{is_document}
use Rattle.xml_read.specs.ReadOutcome.{tree_outcome}
use Rattle.xml_read.specs.declared.read.ReadRefusal.{ReadRefusal}
use Rattle.xml_read.specs.declared.read.ReadRefusal.TheVariants.{Encoding, DocType, Namespaces, TooManyRows, Memory}
use Rattle.xml_resolve.specs.declared.fault.RowFault.{RowFault}
use Rattle.xml_resolve.specs.declared.fault.RowFault.TheVariants as rows

-- the characters of a document, each with its offset
abbrev pub characters_outcome : List Placed → Result (List RowOf) ReadRefusal
characters_outcome xs =
    if names_other_encoding xs then Err Encoding
    else (if has_doc_type xs then Err DocType
    else tree_outcome (document_of xs))

-- the events are those of a tree with one element below the root
pub record HasTree (told : List Event) : Type 0 where
  pub tree : Content
  pub whole : is_document tree ≡ true
  pub are : told ≡ events tree

-- the refusal where there are no rows
abbrev pub row_refusal : RowFault → ReadRefusal
row_refusal rows.Namespaces = Namespaces
row_refusal rows.TooManyRows = TooManyRows
row_refusal rows.Memory = Memory

-- The outcome of reading at small documents, computed.
use Rattle.std.proofs.Common.{◌≡◌, false, [], ◌∷◌, ◌++◌, Some, Ok, Err, refl}
use Rattle.std.specs.Prelude.{codes}
use Rattle.std.specs.Str.{chars, is_utf8}
use Rattle.xml_names.specs.Characters.{is_char, is_name_start, is_name_char}
use Rattle.xml_names.specs.Names.{qname_of, is_ncname}
use Rattle.xml_names.specs.Scopes.{xml_name, declared_fault}
use Rattle.xml_doc.specs.Rows.{plain_row}
use Rattle.xml_doc.specs.declared.row.Kind.TheVariants as kinds
use Rattle.xml_syntax.specs.Characters.{front, behind}
use Rattle.xml_syntax.specs.Tree.{nothing, text, element}
use Rattle.xml_syntax.specs.Reading.{name_of, attribute_of, attributes_of, end_of, empty_close_of, start_close_of, close_of, start_of, tag_of, plain_of, char_data_of, text_of, markup_of, item_of, left_of, behind_tag, element_of, misc_part_of, misc_of, declared_of, prolog_of, behind_prolog, document_of}
use Rattle.xml_syntax.specs.Outcome.{names_other_encoding, has_doc_type}
use Rattle.xml_resolve.specs.Resolve.{declared_in, found_above, bound_above, declared_by, element_name, named_by, resolve_tag, resolve}
use Rattle.xml_resolve.specs.Rows.{field_rows, rows_from, rows_of}
use Rattle.xml_read.specs.ReadOutcome.{read_outcome}
use Rattle.xml_read.specs.SpelledTree.{byte_order_mark, tree_of}
use Rattle.xml_read.specs.declared.read.ReadRefusal.TheVariants.{DocType, NotWellFormed, Namespaces}

-- behind a byte order mark, which counts in the offsets
a_tree : tree_of (byte_order_mark ++ codes "<a>x</a>")
    ≡ Some (element (record { name = codes "a"; attributes = []; from = 3; body_from = 6; is_empty = false }) (text (codes "x") nothing) 7 nothing)
unfolding names_other_encoding document_of prolog_of declared_of misc_of misc_part_of behind_prolog element_of tag_of start_of end_of name_of front behind attributes_of attribute_of close_of start_close_of empty_close_of behind_tag left_of item_of text_of char_data_of plain_of markup_of is_char is_name_start is_name_char chars is_utf8 lib.Utf8.encode
a_tree = refl

-- a document with a text
a_document : read_outcome (codes "<a>x</a>")
    ≡ Ok (plain_row kinds.Root 0 3
    ∷ (record (plain_row kinds.Element 0 3) { local_name = codes "a"; body_from = 3; body_until = 4 }
    ∷ (record (plain_row kinds.Namespace 1 2) { local_name = codes "xml"; value = xml_name }
    ∷ (record (plain_row kinds.Text 1 3) { value = codes "x" }
    ∷ []))))
unfolding read_outcome resolve resolve_tag declared_by element_name named_by bound_above found_above declared_in declared_fault qname_of is_ncname rows_of rows_from field_rows names_other_encoding has_doc_type document_of prolog_of declared_of misc_of misc_part_of behind_prolog element_of tag_of start_of end_of name_of front behind attributes_of attribute_of close_of start_close_of empty_close_of behind_tag left_of item_of text_of char_data_of plain_of markup_of is_char is_name_start is_name_char chars is_utf8 lib.Utf8.encode
a_document = refl

-- the refusals, of which the first that holds is the outcome
a_doc_type : read_outcome (codes "<!DOCTYPE a>") ≡ Err DocType
unfolding read_outcome names_other_encoding has_doc_type prolog_of declared_of misc_of misc_part_of front behind is_char is_name_start is_name_char chars is_utf8 lib.Utf8.encode
a_doc_type = refl

another_end : read_outcome (codes "<a></b>") ≡ Err NotWellFormed
unfolding read_outcome names_other_encoding has_doc_type document_of prolog_of declared_of misc_of misc_part_of behind_prolog element_of tag_of start_of end_of name_of front behind attributes_of attribute_of close_of start_close_of empty_close_of behind_tag left_of item_of text_of char_data_of plain_of markup_of is_char is_name_start is_name_char chars is_utf8 lib.Utf8.encode
another_end = refl

no_prefix : read_outcome (codes "<p:a/>") ≡ Err Namespaces
unfolding read_outcome resolve resolve_tag declared_by element_name named_by bound_above found_above declared_in declared_fault qname_of is_ncname names_other_encoding has_doc_type document_of prolog_of declared_of misc_of misc_part_of behind_prolog element_of tag_of start_of end_of name_of front behind attributes_of attribute_of close_of start_close_of empty_close_of behind_tag left_of item_of text_of char_data_of plain_of markup_of is_char is_name_start is_name_char chars is_utf8 lib.Utf8.encode
no_prefix = refl

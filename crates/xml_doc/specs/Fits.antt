-- What a row says of its node, by kind: XPath 1.0, sections 5.1 to 5.7.
use Rattle.std.specs.Prelude.{Bool, not, ◌&&◌, ◌==◌, []}
use Rattle.std.specs.Str.{bytes_eq}
use Rattle.xml_doc.specs.declared.row.Kind.{Kind}
use Rattle.xml_doc.specs.declared.row.Kind.TheVariants.{Root, Element, Namespace, Attribute, Text, Comment, Instruction}
use Rattle.xml_doc.specs.Rows.{RowOf}

-- the row has no namespace name and no prefix: only an element or an attribute may have them (XPath 1.0, sections 5.2
-- and 5.3)
abbrev pub is_unqualified : RowOf → Bool
is_unqualified r = bytes_eq r.prefix_text [] && bytes_eq r.uri []

-- the row has no tag: only an element has one (XML 1.0, section 3.1)
abbrev pub is_untagged : RowOf → Bool
is_untagged r = (r.tag_from == 0) && (r.body_from == 0) && (r.body_until == 0) && not r.empty_tag

-- what is left empty, 0 or false in a row of that kind
abbrev pub leaves_out : Kind → RowOf → Bool
leaves_out Root r = is_unqualified r && bytes_eq r.local_name [] && bytes_eq r.value [] && is_untagged r
leaves_out Element r = bytes_eq r.value []
leaves_out Namespace r = is_unqualified r && is_untagged r
leaves_out Attribute r = is_untagged r
leaves_out Text r = is_unqualified r && bytes_eq r.local_name [] && is_untagged r
leaves_out Comment r = is_unqualified r && bytes_eq r.local_name [] && is_untagged r
leaves_out Instruction r = is_unqualified r && is_untagged r

-- a row says only what a node of its kind has
abbrev pub fields_fit : RowOf → Bool
fields_fit r = leaves_out r.kind r

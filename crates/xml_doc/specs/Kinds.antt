-- Tests of a node's kind: XPath 1.0, section 5.
use Rattle.std.specs.Prelude.{Bool, true, false}
use Rattle.xml_doc.specs.declared.row.Kind.{Kind}
use Rattle.xml_doc.specs.declared.row.Kind.TheVariants.{Root, Element, Namespace, Attribute, Text, Comment, Instruction}

-- an element: XPath 1.0, section 5.2
abbrev pub is_element : Kind → Bool
is_element Root = false
is_element Element = true
is_element Namespace = false
is_element Attribute = false
is_element Text = false
is_element Comment = false
is_element Instruction = false

-- the root or an element, which alone have children: XPath 1.0, section 5
abbrev pub is_inner : Kind → Bool
is_inner Root = true
is_inner Element = true
is_inner Namespace = false
is_inner Attribute = false
is_inner Text = false
is_inner Comment = false
is_inner Instruction = false

-- an attribute: XPath 1.0, section 5.3
abbrev pub is_attribute : Kind → Bool
is_attribute Root = false
is_attribute Element = false
is_attribute Namespace = false
is_attribute Attribute = true
is_attribute Text = false
is_attribute Comment = false
is_attribute Instruction = false

-- a namespace node: XPath 1.0, section 5.4
abbrev pub is_namespace : Kind → Bool
is_namespace Root = false
is_namespace Element = false
is_namespace Namespace = true
is_namespace Attribute = false
is_namespace Text = false
is_namespace Comment = false
is_namespace Instruction = false

-- a namespace node or an attribute, which have a parent and are no children of it: XPath 1.0, sections 5.3 and 5.4
abbrev pub is_field : Kind → Bool
is_field Root = false
is_field Element = false
is_field Namespace = true
is_field Attribute = true
is_field Text = false
is_field Comment = false
is_field Instruction = false

-- a text: XPath 1.0, section 5.7
abbrev pub is_text : Kind → Bool
is_text Root = false
is_text Element = false
is_text Namespace = false
is_text Attribute = false
is_text Text = true
is_text Comment = false
is_text Instruction = false

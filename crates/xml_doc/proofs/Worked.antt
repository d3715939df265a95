-- The definitions at two documents, computed. The first is
--     <a xmlns:p="u:p" Id="k"><b id="k" p:id="n">x<!--z--></b>y</a>
use Rattle.std.proofs.Common.{◌≡◌, ℕ, false, List, [], ◌∷◌, refl}
use Rattle.std.specs.Prelude.{codes}
use Rattle.xml_doc.specs.Axes.{axis_rows}
use Rattle.xml_doc.specs.declared.axis.Axis.TheVariants.{Child, Descendant, Parent, Ancestor, FollowingSibling, PrecedingSibling, Following, Preceding, Attribute as AttributeAxis, Namespace as NamespaceAxis, SelfNode, DescendantOrSelf, AncestorOrSelf}
use Rattle.xml_doc.specs.declared.ids.IdAnswer.TheVariants.{None, Several}
use Rattle.xml_doc.specs.declared.row.Kind.{Kind}
use Rattle.xml_doc.specs.declared.row.Kind.TheVariants.{Root, Element, Namespace, Attribute, Text, Comment, Instruction}
use Rattle.xml_doc.specs.Fields.{namespace_rows, attribute_rows}
use Rattle.xml_doc.specs.Ids.{answer_of, bearers}
use Rattle.xml_doc.specs.Rows.{RowOf}
use Rattle.xml_doc.specs.Shape.{xml_name, IsWellShaped}
use Rattle.xml_doc.proofs.ShapeTests.{shaped_by_tests, text_some_by}
use Rattle.xml_doc.specs.Values.{string_value}

-- a row with nothing below it and no tag
abbrev leaf : Kind → (own parent : ℕ) (prefix_text local_name uri value : List ℕ) → RowOf
leaf kind own parent prefix_text local_name uri value = record { kind = kind; parent = parent; last = own; prefix_text = prefix_text; local_name = local_name; uri = uri; value = value; tag_from = 0; body_from = 0; body_until = 0; empty_tag = false }

abbrev element : (parent last : ℕ) (local_name : List ℕ) (tag_from body_from body_until : ℕ) → RowOf
element parent last local_name tag_from body_from body_until = record { kind = Element; parent = parent; last = last; prefix_text = []; local_name = local_name; uri = []; value = []; tag_from = tag_from; body_from = body_from; body_until = body_until; empty_tag = false }

abbrev small : List RowOf
small =
    record { kind = Root; parent = 0; last = 12; prefix_text = []; local_name = []; uri = []; value = []; tag_from = 0; body_from = 0; body_until = 0; empty_tag = false }
    ∷ element 0 12 (codes "a") 0 24 57
    ∷ leaf Namespace 2 1 [] (codes "p") [] (codes "u:p")
    ∷ leaf Namespace 3 1 [] (codes "xml") [] xml_name
    ∷ leaf Attribute 4 1 [] (codes "Id") [] (codes "k")
    ∷ element 1 11 (codes "b") 24 43 52
    ∷ leaf Namespace 6 5 [] (codes "p") [] (codes "u:p")
    ∷ leaf Namespace 7 5 [] (codes "xml") [] xml_name
    ∷ leaf Attribute 8 5 [] (codes "id") [] (codes "k")
    ∷ leaf Attribute 9 5 (codes "p") (codes "id") (codes "u:p") (codes "n")
    ∷ leaf Text 10 5 [] [] [] (codes "x")
    ∷ leaf Comment 11 5 [] [] [] (codes "z")
    ∷ leaf Text 12 1 [] [] [] (codes "y")
    ∷ []

is_shaped : IsWellShaped small
is_shaped = shaped_by_tests small record {
  root = refl;
  parent_before = refl;
  last = refl;
  ended = refl;
  parents = refl;
  fields_first = refl;
  one_root = refl;
  namespaces_first = refl;
  namespace_order = refl;
  attribute_order = refl;
  inherits = refl;
  xml_bound = refl;
  default_named = refl;
  document_element = refl;
  fit = refl;
  text_in_element = refl;
  texts_apart = refl;
} (text_some_by small refl)

namespaces_of_a : namespace_rows small 1 ≡ 2 ∷ 3 ∷ []
namespaces_of_a = refl

attributes_of_b : attribute_rows small 5 ≡ 8 ∷ 9 ∷ []
attributes_of_b = refl

value_of_root : string_value small 0 ≡ codes "xy"
value_of_root = refl

value_of_b : string_value small 5 ≡ codes "x"
value_of_b = refl

value_of_attribute : string_value small 9 ≡ codes "n"
value_of_attribute = refl

value_of_comment : string_value small 11 ≡ codes "z"
value_of_comment = refl

-- both elements bear `k`, and none bears the value of an attribute that is no ID
bearers_of_k : answer_of (bearers small (codes "k")) ≡ Several 1 5
bearers_of_k = refl

bearers_of_n : answer_of (bearers small (codes "n")) ≡ None
bearers_of_n = refl

-- The second, for the axes: <a><!--u--><?t v?><b k="w"><c>x</c>y</b>z<d></d></a>
abbrev for_axes : List RowOf
for_axes =
    record { kind = Root; parent = 0; last = 14; prefix_text = []; local_name = []; uri = []; value = []; tag_from = 0; body_from = 0; body_until = 0; empty_tag = false }
    ∷ element 0 14 (codes "a") 0 3 48
    ∷ leaf Namespace 2 1 [] (codes "xml") [] xml_name
    ∷ leaf Comment 3 1 [] [] [] (codes "u")
    ∷ leaf Instruction 4 1 [] (codes "t") [] (codes "v")
    ∷ element 1 11 (codes "b") 18 27 36
    ∷ leaf Namespace 6 5 [] (codes "xml") [] xml_name
    ∷ leaf Attribute 7 5 [] (codes "k") [] (codes "w")
    ∷ element 5 10 (codes "c") 27 30 31
    ∷ leaf Namespace 9 8 [] (codes "xml") [] xml_name
    ∷ leaf Text 10 8 [] [] [] (codes "x")
    ∷ leaf Text 11 5 [] [] [] (codes "y")
    ∷ leaf Text 12 1 [] [] [] (codes "z")
    ∷ element 1 14 (codes "d") 41 44 44
    ∷ leaf Namespace 14 13 [] (codes "xml") [] xml_name
    ∷ []

is_shaped_for_axes : IsWellShaped for_axes
is_shaped_for_axes = shaped_by_tests for_axes record {
  root = refl;
  parent_before = refl;
  last = refl;
  ended = refl;
  parents = refl;
  fields_first = refl;
  one_root = refl;
  namespaces_first = refl;
  namespace_order = refl;
  attribute_order = refl;
  inherits = refl;
  xml_bound = refl;
  default_named = refl;
  document_element = refl;
  fit = refl;
  text_in_element = refl;
  texts_apart = refl;
} (text_some_by for_axes refl)

-- from b
child_of_b : axis_rows Child for_axes 5 ≡ 8 ∷ 11 ∷ []
child_of_b = refl

descendant_of_b : axis_rows Descendant for_axes 5 ≡ 8 ∷ 10 ∷ 11 ∷ []
descendant_of_b = refl

parent_of_b : axis_rows Parent for_axes 5 ≡ 1 ∷ []
parent_of_b = refl

ancestor_of_b : axis_rows Ancestor for_axes 5 ≡ 1 ∷ 0 ∷ []
ancestor_of_b = refl

following_sibling_of_b : axis_rows FollowingSibling for_axes 5 ≡ 12 ∷ 13 ∷ []
following_sibling_of_b = refl

preceding_sibling_of_b : axis_rows PrecedingSibling for_axes 5 ≡ 4 ∷ 3 ∷ []
preceding_sibling_of_b = refl

following_of_b : axis_rows Following for_axes 5 ≡ 12 ∷ 13 ∷ []
following_of_b = refl

preceding_of_b : axis_rows Preceding for_axes 5 ≡ 4 ∷ 3 ∷ []
preceding_of_b = refl

attribute_of_b : axis_rows AttributeAxis for_axes 5 ≡ 7 ∷ []
attribute_of_b = refl

namespace_of_b : axis_rows NamespaceAxis for_axes 5 ≡ 6 ∷ []
namespace_of_b = refl

self_node_of_b : axis_rows SelfNode for_axes 5 ≡ 5 ∷ []
self_node_of_b = refl

descendant_or_self_of_b : axis_rows DescendantOrSelf for_axes 5 ≡ 5 ∷ 8 ∷ 10 ∷ 11 ∷ []
descendant_or_self_of_b = refl

ancestor_or_self_of_b : axis_rows AncestorOrSelf for_axes 5 ≡ 5 ∷ 1 ∷ 0 ∷ []
ancestor_or_self_of_b = refl

-- from the text in c: what b's siblings are to it, and neither its ancestors nor attribute and namespace nodes
following_of_text : axis_rows Following for_axes 10 ≡ 11 ∷ 12 ∷ 13 ∷ []
following_of_text = refl

preceding_of_text : axis_rows Preceding for_axes 10 ≡ 4 ∷ 3 ∷ []
preceding_of_text = refl

ancestor_or_self_of_text : axis_rows AncestorOrSelf for_axes 10 ≡ 10 ∷ 8 ∷ 5 ∷ 1 ∷ 0 ∷ []
ancestor_or_self_of_text = refl

-- from the attribute of b: no siblings, though b's content follows; it is its own descendant-or-self, and b is its parent
parent_of_attribute : axis_rows Parent for_axes 7 ≡ 5 ∷ []
parent_of_attribute = refl

following_sibling_of_attribute : axis_rows FollowingSibling for_axes 7 ≡ []
following_sibling_of_attribute = refl

preceding_sibling_of_attribute : axis_rows PrecedingSibling for_axes 7 ≡ []
preceding_sibling_of_attribute = refl

following_of_attribute : axis_rows Following for_axes 7 ≡ 8 ∷ 10 ∷ 11 ∷ 12 ∷ 13 ∷ []
following_of_attribute = refl

preceding_of_attribute : axis_rows Preceding for_axes 7 ≡ 4 ∷ 3 ∷ []
preceding_of_attribute = refl

descendant_or_self_of_attribute : axis_rows DescendantOrSelf for_axes 7 ≡ 7 ∷ []
descendant_or_self_of_attribute = refl

ancestor_or_self_of_attribute : axis_rows AncestorOrSelf for_axes 7 ≡ 7 ∷ 5 ∷ 1 ∷ 0 ∷ []
ancestor_or_self_of_attribute = refl

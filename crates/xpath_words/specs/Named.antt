-- Axes, node types and functions by their names.
use Rattle.std.specs.Prelude.{ℕ, List, [], ◌∷◌, Option, codes, find, bytes_eq}
use Rattle.xpath_words.specs.Functions.{function_name}
use Rattle.xpath_words.specs.declared.axis.AxisName.{AxisName}
use Rattle.xpath_words.specs.declared.axis.AxisName.TheVariants as axes
use Rattle.xpath_words.specs.declared.group.NodeType.{NodeType}
use Rattle.xpath_words.specs.declared.group.NodeType.TheVariants as types
use Rattle.xpath_words.specs.declared.function.Function.{Function}
use Rattle.xpath_words.specs.declared.function.Function.TheVariants as function

-- the axes by their names (XPath 1.0 §2.2)
abbrev pub axis_text : AxisName → List ℕ
axis_text axes.Child = codes "child"
axis_text axes.Descendant = codes "descendant"
axis_text axes.Parent = codes "parent"
axis_text axes.Ancestor = codes "ancestor"
axis_text axes.FollowingSibling = codes "following-sibling"
axis_text axes.PrecedingSibling = codes "preceding-sibling"
axis_text axes.Following = codes "following"
axis_text axes.Preceding = codes "preceding"
axis_text axes.Attribute = codes "attribute"
axis_text axes.Namespace = codes "namespace"
axis_text axes.SelfNode = codes "self"
axis_text axes.DescendantOrSelf = codes "descendant-or-self"
axis_text axes.AncestorOrSelf = codes "ancestor-or-self"

abbrev pub axes_all : List AxisName
axes_all =
    axes.Child ∷ axes.Descendant ∷ axes.Parent ∷ axes.Ancestor ∷ axes.FollowingSibling ∷ axes.PrecedingSibling ∷ axes.Following
    ∷ axes.Preceding ∷ axes.Attribute ∷ axes.Namespace ∷ axes.SelfNode ∷ axes.DescendantOrSelf ∷ axes.AncestorOrSelf ∷ []

-- the node types by their names (XPath 1.0 §3.7, NodeType)
abbrev pub type_text : NodeType → List ℕ
type_text types.Comment = codes "comment"
type_text types.Words = codes "text"
type_text types.Node = codes "node"
type_text types.Instruction = codes "processing-instruction"

abbrev pub types_all : List NodeType
types_all = types.Comment ∷ types.Words ∷ types.Node ∷ types.Instruction ∷ []

abbrev pub functions_all : List Function
functions_all =
    function.Last ∷ function.Position ∷ function.Count ∷ function.Id ∷ function.LocalName ∷ function.NamespaceUri ∷ function.Name
    ∷ function.String ∷ function.Concat ∷ function.StartsWith ∷ function.Contains ∷ function.SubstringBefore ∷ function.SubstringAfter
    ∷ function.Substring ∷ function.StringLength ∷ function.NormalizeSpace ∷ function.Translate ∷ function.Boolean ∷ function.Not
    ∷ function.True ∷ function.False ∷ function.Lang ∷ function.Number ∷ function.Sum ∷ function.Floor ∷ function.Ceiling
    ∷ function.Round ∷ function.Here ∷ []

-- the axis, the node type and the function of a name, given as UTF-8 octets
abbrev pub axis_named : List ℕ → Option AxisName
axis_named name = find (λ a. bytes_eq name (axis_text a)) axes_all

abbrev pub type_named : List ℕ → Option NodeType
type_named name = find (λ t. bytes_eq name (type_text t)) types_all

abbrev pub function_named : List ℕ → Option Function
function_named name = find (λ f. bytes_eq name (function_name f)) functions_all

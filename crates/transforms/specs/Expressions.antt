-- The expressions of XPath filtering and of XPath Filter 2.0: XML Signature 1.1, section 6.6.3, and XML-Signature XPath Filter 2.0,
-- section 3.
use Rattle.std.specs.Prelude.{ℕ, ◌+◌, Bool, List, [], ◌∷◌, map, Option, Some, None, Result, Ok, Err, encode_utf8_all, if◌then◌else◌}
use Rattle.sig_base.specs.Outcomes.{and_then, with_cause}
use Rattle.sig_base.specs.declared.method.FilterKind.{FilterKind}
use Rattle.xml_doc.specs.Fields.{namespace_rows}
use Rattle.xml_doc.specs.Rows.{RowOf}
use Rattle.xml_doc.specs.Shape.{row_at}
use Rattle.dsig_fields.specs.declared.fields.Filter.{Filter}
use Rattle.xpath_words.specs.Prefixes.{Pair}
use Rattle.xpath_syntax.specs.Outcome.{parse_outcome}
use Rattle.xpath_syntax.specs.declared.expr.Expr.{Expr}
use Rattle.xpath_eval.specs.Context.{is_in}
use Rattle.xpath_eval.specs.Value.{each_true}
use Rattle.xpath_eval.specs.declared.refusal.EvalRefusal.{EvalRefusal}
use Rattle.filter2.specs.Selections.{transformed}
use Rattle.filter2.specs.declared.transform.FilterRefusal.{FilterRefusal}
use Rattle.transforms.specs.Values.{Nodes, Value}
use Rattle.transforms.specs.Values.{OfNodes}
use Rattle.transforms.specs.declared.refusal.RefRefusal.{RefRefusal}
use Rattle.transforms.specs.declared.refusal.RefRefusal.TheVariants.{Syntax, Eval}

-- ---- expressions, and where they stand

-- a namespace node as a prefix and the namespace name for which it stands
abbrev pub binding : List RowOf → ℕ → Pair
binding rows y = ((row_at rows y).local_name, (row_at rows y).value)

-- the prefixes in scope of an element
abbrev pub prefixes_in_scope : List RowOf → ℕ → List Pair
prefixes_in_scope rows x = map (binding rows) (namespace_rows rows x)

-- the expression that an element has, as that part of the step of this number
abbrev pub expression_of : List RowOf → (number part row : ℕ) → (text : List ℕ) → Result Expr RefRefusal
expression_of rows number part row text =
    with_cause (Syntax number part) (parse_outcome (encode_utf8_all text) (prefixes_in_scope rows row))

-- `here()` is the element that has the expression, where the nodes are of the document in which that stands
abbrev pub here_in : (own : Bool) → (row : ℕ) → Option ℕ
here_in own row = if own then Some row else None

-- ---- XPath filtering: section 6.6.3

abbrev pub kept_nodes : Nodes → List ℕ → Value
kept_nodes nodes ys = OfNodes (record { own = nodes.own; rows = nodes.rows; set = is_in ys })

-- the nodes at which the expression is true
abbrev pub true_nodes : (number row : ℕ) → Nodes → Expr → Result Value RefRefusal
true_nodes number row nodes e =
    and_then (with_cause (Eval number 1) (each_true e nodes.rows nodes.set (here_in nodes.own row))) (λ ys. Ok (kept_nodes nodes ys))

abbrev pub xpath_filtered : List RowOf → (number row : ℕ) → (text : List ℕ) → Nodes → Result Value RefRefusal
xpath_filtered rows number row text nodes = and_then (expression_of rows number 1 row text) (true_nodes number row nodes)

-- ---- XPath Filter 2.0

-- the expressions of filters of which the first is this part; all are read before one is evaluated
unfoldable pub expressions_from : List RowOf → (number part : ℕ) → List Filter → Result (List (FilterKind × Expr)) RefRefusal
expressions_from rows number part [] = Ok []
expressions_from rows number part (f ∷ more) =
    and_then (expression_of rows number part f.row f.text)
    (λ e. and_then (expressions_from rows number (part + 1) more) (λ others. Ok ((f.kind, e) ∷ others)))

abbrev pub heres_in : (own : Bool) → List Filter → List (Option ℕ)
heres_in own filters = map (λ f. here_in own f.row) filters

abbrev pub unevaluated : (number : ℕ) → FilterRefusal → RefRefusal
unevaluated number r = Eval number r.part r.cause

abbrev pub nodes_among : Nodes → (ℕ → Bool) → Value
nodes_among nodes set = OfNodes (record { own = nodes.own; rows = nodes.rows; set = set })

abbrev pub filters_applied : (number : ℕ) → List Filter → Nodes → List (FilterKind × Expr) → Result Value RefRefusal
filters_applied number filters nodes es =
    and_then (with_cause (unevaluated number) (transformed nodes.rows es (heres_in nodes.own filters) nodes.set))
    (λ set. Ok (nodes_among nodes set))

abbrev pub nodes_filtered : List RowOf → (number : ℕ) → List Filter → Nodes → Result Value RefRefusal
nodes_filtered rows number filters nodes = and_then (expressions_from rows number 1 filters) (filters_applied number filters nodes)

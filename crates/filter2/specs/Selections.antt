-- What the expressions of the filters select (XML-Signature XPath Filter 2.0, section 3.2).
use Rattle.std.specs.Prelude.{◌≡◌, ℕ, ◌+◌, Bool, List, [], ◌∷◌, Option, Result, Ok, Err}
use Rattle.sig_base.specs.Outcomes.{and_then, with_cause}
use Rattle.sig_base.specs.declared.method.FilterKind.{FilterKind}
use Rattle.xml_doc.specs.Rows.{RowOf}
use Rattle.node_sets.specs.Members.{SetOf, has}
use Rattle.xpath_syntax.specs.declared.expr.Expr.{Expr}
use Rattle.xpath_eval.specs.Context.{is_in}
use Rattle.xpath_eval.specs.Found.{Outcome}
use Rattle.xpath_eval.specs.Meaning.{meaning, nodes_meant}
use Rattle.xpath_eval.specs.Value.{alone}
use Rattle.xpath_eval.specs.declared.refusal.EvalRefusal.{EvalRefusal}
use Rattle.xpath_eval.specs.declared.refusal.EvalRefusal.TheVariants.{Memory}
use Rattle.filter2.specs.Filters.{Filter, filtered, with_subtrees}
use Rattle.filter2.specs.declared.transform.FilterRefusal.{FilterRefusal}

-- the rows that an expression comes to, with the root as its context node
abbrev pub nodes_at_root : List RowOf → Expr → (here : Option ℕ) → Outcome (List ℕ)
nodes_at_root rows e here = nodes_meant (meaning e) (alone rows here 0)

-- the rows that it selects: these with their subtrees
abbrev pub selected : List RowOf → Expr → (here : Option ℕ) → Outcome (ℕ → Bool)
selected rows e here = and_then (nodes_at_root rows e here) (λ ys. Ok (with_subtrees rows (is_in ys)))

-- the refusal of the filter of this number
abbrev pub refused_at : (part : ℕ) → EvalRefusal → FilterRefusal
refused_at part cause = record { part = part; cause = cause }

-- the filters, of which the first has this number; the first whose expression is refused decides
unfoldable pub filters_from : List RowOf → (part : ℕ) → List (FilterKind × Expr) → (heres : List (Option ℕ))
    → Result (List Filter) FilterRefusal
filters_from rows part [] heres = Ok []
filters_from rows part (f ∷ more) [] = Ok []
filters_from rows part (f ∷ more) (here ∷ heres) =
    and_then (with_cause (refused_at part) (selected rows f.1 here))
    (λ nodes. and_then (filters_from rows (part + 1) more heres) (λ others. Ok (record { kind = f.0; nodes = nodes } ∷ others)))

-- what the transform gives of an input, or its first refusal: all expressions are evaluated before one filter is applied
abbrev pub transformed : List RowOf → List (FilterKind × Expr) → List (Option ℕ) → (input : ℕ → Bool) → Result (ℕ → Bool) FilterRefusal
transformed rows filters heres input = and_then (filters_from rows 1 filters heres) (λ fs. Ok (filtered rows fs input))

-- ---- answers

-- the answer is the outcome, unless memory ran out
abbrev pub RefusesBy : {A : Type 0} → (part : ℕ) → EvalRefusal → Result A FilterRefusal → Type 0
RefusesBy part Memory outcome = Unit {0}
RefusesBy part cause outcome = outcome ≡ Err (refused_at part cause)

abbrev pub Refuses : {A : Type 0} → FilterRefusal → Result A FilterRefusal → Type 0
Refuses r outcome = RefusesBy r.part r.cause outcome

-- the set has what the transform gives, or is as before, where it is refused
abbrev pub Applies : Result (Unit {0}) FilterRefusal → (old new : SetOf) → Result (ℕ → Bool) FilterRefusal → Type 0
Applies (Ok done) old new outcome = (outcome ≡ Ok (has new.members)) × (new.rows ≡ old.rows)
Applies (Err r) old new outcome = Refuses r outcome × (new ≡ old)

use Rattle.std.specs.Prelude.{◌≡◌, ℕ, Bool, List, map, Result, Ok, Err, Vec}
use Rattle.sig_base.specs.declared.method.FilterKind.{FilterKind}
use Rattle.xml_doc.specs.Rows.{RowOf}
use Rattle.node_sets.specs.Members.{SetOf, has}
use Rattle.xpath_eval.specs.Found.{Outcome}
use Rattle.xpath_eval.specs.Outcome as eval
use Rattle.xpath_eval.specs.Value.{HasRows}
use Rattle.xpath_eval.specs.declared.refusal.EvalRefusal.{EvalRefusal}
use Rattle.filter2.specs.Filters.{Filter}
use Rattle.filter2.specs.declared.transform.FilterRefusal.{FilterRefusal}
use Rattle.filter2.specs.declared.selections.Selected.{Selected}
use Rattle.filter2.specs.Selections.{Refuses}

-- a set of the rows of a node set
abbrev pub Finds : List RowOf → Result SetOf EvalRefusal → Outcome (List ℕ) → Type 0
Finds rows (Ok s) outcome = (ys : List ℕ) × (outcome ≡ Ok ys) × HasRows rows ys s
Finds rows (Err e) outcome = eval.Refuses e outcome

-- a set of the selected rows
abbrev pub Selects : Result SetOf EvalRefusal → Outcome (ℕ → Bool) → Type 0
Selects (Ok s) outcome = outcome ≡ Ok (has s.members)
Selects (Err e) outcome = eval.Refuses e outcome

-- a filter whose expression was evaluated
abbrev pub filter_of : Selected → Filter
filter_of s = record { kind = s.kind; nodes = has s.nodes.members }

-- a filter evaluated
abbrev pub Evaluates : (part : ℕ) → FilterKind → Result Selected FilterRefusal → Outcome (ℕ → Bool) → Type 0
Evaluates part kind (Ok s) outcome = (outcome ≡ Ok (has s.nodes.members)) × (s.kind ≡ kind)
Evaluates part kind (Err r) outcome = (r.part ≡ part) × eval.Refuses r.cause outcome

-- all of them
abbrev pub Collects : {A : Type 0} → Result (Vec Selected A) FilterRefusal → Result (List Filter) FilterRefusal → Type 0
Collects (Ok selections) outcome = outcome ≡ Ok (map filter_of selections.items)
Collects (Err r) outcome = Refuses r outcome

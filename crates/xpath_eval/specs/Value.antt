-- What a caller is given.
use Rattle.std.specs.Prelude.{◌≡◌, ℕ, Bool, List, [], ◌∷◌, length, Option, Result, Ok, Err}
use Rattle.std.specs.List.{filter, range_with_len}
use Rattle.node_sets.specs.Members.{SetOf, has}
use Rattle.xml_doc.specs.Rows.{RowOf}
use Rattle.xpath_syntax.specs.declared.expr.Expr.{Expr}
use Rattle.xpath_eval.specs.declared.found.Found.{Found}
use Rattle.xpath_eval.specs.declared.found.Found.TheVariants as found
use Rattle.xpath_eval.specs.declared.refusal.EvalRefusal.{EvalRefusal}
use Rattle.xpath_eval.specs.declared.value.Value.{Value}
use Rattle.xpath_eval.specs.declared.value.Value.TheVariants as value
use Rattle.xpath_eval.specs.Context.{Context, is_in}
use Rattle.xpath_eval.specs.Found.{Outcome, ◌>>=◌, truth_of}
use Rattle.xpath_eval.specs.Meaning.{meaning}
use Rattle.xpath_eval.specs.Outcome.{Refuses}
use Rattle.xpath_eval.specs.Steps.{kept}

-- the context of a whole expression: position and size are 1
abbrev pub alone : List RowOf → Option ℕ → ℕ → Context
alone rows h x = record { rows = rows; node = x; place = 1; size = 1; here = h }

-- a set over the document whose members are these rows
abbrev pub HasRows : List RowOf → List ℕ → SetOf → Type 0
HasRows rows ys s = ((k : ℕ) → has s.members k ≡ is_in ys k) × (s.rows ≡ rows)

-- the value is what was found
abbrev pub Shows : List RowOf → Found → Value → Type 0
Shows rows f (value.Truth b) = f ≡ found.Truth b
Shows rows f (value.Num n) = f ≡ found.Num n
Shows rows f (value.Words w) = f ≡ found.Words w
Shows rows f (value.Nodes s) = (ys : List ℕ) × (f ≡ found.Nodes ys) × HasRows rows ys s

-- the answer is what the expression comes to, unless memory ran out
abbrev pub Gives : List RowOf → Result Value EvalRefusal → Outcome Found → Type 0
Gives rows (Ok v) outcome = (f : Found) × (outcome ≡ Ok f) × Shows rows f v
Gives rows (Err e) outcome = Refuses e outcome

-- ---- for each row of a set

-- whether an expression is true as a boolean at a row
abbrev pub truth_at : Expr → List RowOf → Option ℕ → ℕ → Outcome Bool
truth_at e rows h y = meaning e (alone rows h y) >>= (λ v. Ok (truth_of v))

-- the rows at which it is true, up to the first refusal
unfoldable pub selected : (ℕ → Outcome Bool) → List ℕ → Outcome (List ℕ)
selected f [] = Ok []
selected f (y ∷ ys) = do
  b ← f y
  more ← selected f ys
  Ok (kept b y more)

-- the rows of a set, in document order
abbrev pub rows_in : List RowOf → (ℕ → Bool) → List ℕ
rows_in rows set = filter set (range_with_len 0 (length rows))

abbrev pub each_true : Expr → List RowOf → (set : ℕ → Bool) → Option ℕ → Outcome (List ℕ)
each_true e rows set h = selected (truth_at e rows h) (rows_in rows set)

-- the set has what was selected, or is as before, where the selection was refused
abbrev pub Keeps : Result (Unit {0}) EvalRefusal → SetOf → SetOf → Outcome (List ℕ) → Type 0
Keeps (Ok done) old new outcome = (ys : List ℕ) × (outcome ≡ Ok ys) × HasRows old.rows ys new
Keeps (Err e) old new outcome = Refuses e outcome × (new ≡ old)

-- What a lawful expression holds is lawful.
use Rattle.std.proofs.Common.{◌≡◌, true, List, [], ◌∷◌, ◌++◌, length, sym, ap, subst, ◌∙◌}
use Rattle.xpath_words.specs.declared.operator.BinaryOp.{BinaryOp}
use Rattle.xpath_words.specs.declared.function.Function.{Function}
use Rattle.xpath_words.specs.declared.axis.AxisName.{AxisName}
use Rattle.xpath_words.specs.declared.test.NodeTest.{NodeTest}
use Rattle.xpath_words.specs.Functions.{permits}
use Rattle.xpath_syntax.specs.Grammar.{step_with, filtered}
use Rattle.xpath_syntax.specs.declared.expr.Expr.{Expr, out-Expr, roll-Expr, out-roll-Expr}
use Rattle.xpath_syntax.specs.declared.expr.Expr.TheVariants as expr
use Rattle.xpath_syntax.specs.declared.expr.Expr.TheOpen.{Expr-F, PathStart-F, PathStep-F}
use Rattle.xpath_syntax.specs.declared.expr.PathStart.{PathStart, out-PathStart, roll-PathStart, out-roll-PathStart}
use Rattle.xpath_syntax.specs.declared.expr.PathStart.TheVariants as start
use Rattle.xpath_syntax.specs.declared.expr.PathStep.{PathStep, out-PathStep, out-roll-PathStep, roll-out-PathStep}
use Rattle.xpath_syntax.specs.Lawful.{Subject, One, All, Steps, Lawful, InsideStart, InsideLayer, Inside}
use Rattle.xpath_syntax.specs.Lawful as law

layer : (x : Expr) (l : Expr-F Expr PathStart PathStep) → roll-Expr l ≡ x → InsideLayer l → InsideLayer (out-Expr x)
layer x l e h = subst InsideLayer (sym (ap out-Expr (sym e) ∙ out-roll-Expr l)) h

begin : (s : PathStart) (l : PathStart-F Expr PathStart PathStep) → roll-PathStart l ≡ s → InsideStart l → InsideStart (out-PathStart s)
begin s l e h = subst InsideStart (sym (ap out-PathStart (sym e) ∙ out-roll-PathStart l)) h

-- What is lawful holds what is lawful.
pub inside : (s : Subject) → Lawful s → Inside s
inside s (law.literal w) = layer (expr.Literal w) (Expr-F.Literal w) (expr.rolls-Literal w) tt
inside s (law.number n) = layer (expr.Number n) (Expr-F.Number n) (expr.rolls-Number n) tt
inside s (law.negate x h) = layer (expr.Negate x) (Expr-F.Negate x) (expr.rolls-Negate x) h
inside s (law.binary o x y h i) = layer (expr.Binary o x y) (Expr-F.Binary o x y) (expr.rolls-Binary o x y) (h, i)
inside s (law.call g args h i) = layer (expr.Call g args) (Expr-F.Call g args) (expr.rolls-Call g args) (h, i)
inside s (law.filtered b ps h i) = layer (expr.Filtered b ps) (Expr-F.Filtered b ps) (expr.rolls-Filtered b ps) (h, i)
inside s (law.from_context ss h) =
    layer (expr.Path start.Context ss) (Expr-F.Path start.Context ss) (expr.rolls-Path start.Context ss) (begin start.Context PathStart-F.Context start.rolls-Context tt, h)
inside s (law.from_root ss h) = layer (expr.Path start.Root ss) (Expr-F.Path start.Root ss) (expr.rolls-Path start.Root ss) (begin start.Root PathStart-F.Root start.rolls-Root tt, h)
inside s (law.from_nodes x ss h i) =
    layer (expr.Path (start.From x) ss) (Expr-F.Path (start.From x) ss) (expr.rolls-Path (start.From x) ss) (begin (start.From x) (PathStart-F.From x) (start.rolls-From x) h, i)
inside s law.none = tt
inside s (law.one_more x xs h i) = (h, i)
inside s law.no_steps = tt
inside s (law.one_step_more d x ps ss h i) =
    let P : List Expr → Type 0 = λ us. Lawful (All us) in
    (subst P (sym (ap (λ (r : PathStep-F Expr PathStart PathStep). r.predicates) (out-roll-PathStep (record { axis = d; test = x; predicates = ps })))) h, i)

-- ---- one level, where it is known

opened : (x : Expr) (l : Expr-F Expr PathStart PathStep) → roll-Expr l ≡ x → Lawful (One x) → InsideLayer l
opened x l e h = subst InsideLayer (ap out-Expr (sym e) ∙ out-roll-Expr l) (inside (One x) h)

-- ---- lists that are joined

pub all_parted : (xs : List Expr) (x : Expr) → Lawful (All (xs ++ (x ∷ []))) → Lawful (All xs) × Lawful (One x)
all_parted [] x h = (law.none, (inside (All (x ∷ [])) h).0)
all_parted (y ∷ xs) x h =
    let w = inside (All (y ∷ (xs ++ (x ∷ [])))) h in
    let v = all_parted xs x w.1 in
    (law.one_more y xs w.0 v.0, v.1)

-- the predicates of a step
predicates_of : (d : AxisName) (x : NodeTest) (ps : List Expr) → Lawful (All (out-PathStep (step_with d x ps)).predicates) → Lawful (All ps)
predicates_of d x ps h =
    let P : List Expr → Type 0 = λ us. Lawful (All us) in
    subst P (ap (λ (r : PathStep-F Expr PathStart PathStep). r.predicates) (out-roll-PathStep (record { axis = d; test = x; predicates = ps }))) h

-- any step is one with its axis, its test and its predicates
one_step : (s : PathStep) (ss : List PathStep) → Lawful (All (out-PathStep s).predicates) → Lawful (Steps ss) → Lawful (Steps (s ∷ ss))
one_step s ss h i =
    let o = out-PathStep s in
    let P : PathStep → Type 0 = λ u. Lawful (Steps (u ∷ ss)) in
    subst P (roll-out-PathStep s) (law.one_step_more o.axis o.test o.predicates ss h i)

pub steps_parted : (ss : List PathStep) (d : AxisName) (x : NodeTest) (ps : List Expr) → Lawful (Steps (ss ++ (step_with d x ps ∷ []))) → Lawful (Steps ss) × Lawful (All ps)
steps_parted [] d x ps h = (law.no_steps, predicates_of d x ps (inside (Steps (step_with d x ps ∷ [])) h).0)
steps_parted (s ∷ ss) d x ps h =
    let w = inside (Steps (s ∷ (ss ++ (step_with d x ps ∷ [])))) h in
    let v = steps_parted ss d x ps w.1 in
    (one_step s ss w.0 v.0, v.1)

-- the primary expression and its predicates
pub filtered_parted : (b : Expr) (ps : List Expr) → Lawful (One (filtered b ps)) → Lawful (One b) × Lawful (All ps)
filtered_parted b [] h = (h, law.none)
filtered_parted b (p ∷ ps) h = opened (expr.Filtered b (p ∷ ps)) (Expr-F.Filtered b (p ∷ ps)) (expr.rolls-Filtered b (p ∷ ps)) h

pub start_of : (p : PathStart) (ss : List PathStep) → Lawful (One (expr.Path p ss)) → InsideStart (out-PathStart p) × Lawful (Steps ss)
start_of p ss h = opened (expr.Path p ss) (Expr-F.Path p ss) (expr.rolls-Path p ss) h

pub from_of : (x : Expr) → InsideStart (out-PathStart (start.From x)) → Lawful (One x)
from_of x h = subst InsideStart (ap out-PathStart (sym (start.rolls-From x)) ∙ out-roll-PathStart (PathStart-F.From x)) h

pub call_of : (g : Function) (args : List Expr) → Lawful (One (expr.Call g args)) → (permits g (length args) ≡ true) × Lawful (All args)
call_of g args h = opened (expr.Call g args) (Expr-F.Call g args) (expr.rolls-Call g args) h

pub operands_of : (o : BinaryOp) (x y : Expr) → Lawful (One (expr.Binary o x y)) → Lawful (One x) × Lawful (One y)
operands_of o x y h = opened (expr.Binary o x y) (Expr-F.Binary o x y) (expr.rolls-Binary o x y) h

pub operand_of : (x : Expr) → Lawful (One (expr.Negate x)) → Lawful (One x)
operand_of x h = opened (expr.Negate x) (Expr-F.Negate x) (expr.rolls-Negate x) h

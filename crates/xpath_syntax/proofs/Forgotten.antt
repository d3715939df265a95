-- Once the terminals nest too deep, what was read may be forgotten: the rest is refused or not as before.
use Rattle.std.proofs.Common.{◌≡◌, ℕ, Bool, true, false, cond, List, [], ◌∷◌, ◌++◌, Option, Some, None, option_map, refl, sym, ap, ◌∙◌}
use Rattle.sig_base.specs.Options.{◌>>=◌}
use Rattle.xpath_words.specs.declared.operator.BinaryOp.{BinaryOp}
use Rattle.xpath_words.specs.declared.terminal.Terminal.{Terminal}
use Rattle.xpath_words.specs.declared.terminal.Terminal.TheVariants as t
use Rattle.xpath_syntax.specs.declared.expr.Expr.{Expr}
use Rattle.xpath_syntax.specs.declared.expr.Expr.TheVariants as expr
use Rattle.xpath_syntax.specs.declared.expr.PathStart.{PathStart}
use Rattle.xpath_syntax.specs.declared.expr.PathStart.TheVariants as start
use Rattle.xpath_syntax.specs.declared.expr.PathStep.{PathStep}
use Rattle.xpath_syntax.specs.declared.frame.OpenStep.{OpenStep}
use Rattle.xpath_syntax.specs.declared.frame.Frame.{Frame}
use Rattle.xpath_syntax.specs.declared.frame.Frame.TheVariants as f
use Rattle.xpath_syntax.specs.declared.mode.Mode.{Mode}
use Rattle.xpath_syntax.specs.declared.mode.Mode.TheVariants as m
use Rattle.xpath_syntax.specs.Grammar.{operator_of, level, filtered}
use Rattle.xpath_syntax.specs.Reading.{wanted, binds, completed, reduced, State, steps_of, closed, bracket_closed, separated, with_operator, ended_by, continued_by, behind, step_begun, begins_step, primary_begun, called, behind_filter, behind_path, behind_step, step, whole, finish, run}
use Rattle.xpath_syntax.specs.Code.Forgetting.{leaf, bare_step, bare, kept, shallow}

-- ---- what is left of frames and of answers

-- whether there are arguments is still asked
abbrev bare_list : List Expr → List Expr
bare_list [] = []
bare_list (x ∷ xs) = leaf ∷ []

abbrev bare_frame : Frame → Frame
bare_frame f.Group = f.Group
bare_frame f.Negation = f.Negation
bare_frame (f.Left o x) = f.Left o leaf
bare_frame (f.Argument g args) = f.Argument g (bare_list args)
bare_frame (f.Predicate b ps) = f.Predicate leaf []
bare_frame (f.StepPredicate s) = f.StepPredicate bare_step

abbrev bare_frames : List Frame → List Frame
bare_frames [] = []
bare_frames (top ∷ k) = bare_frame top ∷ bare_frames k

abbrev bare_state : State → State
bare_state s = (bare_frames s.0, bare s.1)

abbrev forgotten : Option State → Option State
forgotten answer = option_map bare_state answer

list_twice : (xs : List Expr) → bare_list (bare_list xs) ≡ bare_list xs
list_twice [] = refl
list_twice (x ∷ xs) = refl

frame_twice : (top : Frame) → bare_frame (bare_frame top) ≡ bare_frame top
frame_twice (f.Argument g args) = ap (f.Argument g) (list_twice args)
frame_twice f.Group = refl
frame_twice f.Negation = refl
frame_twice (f.Left o x) = refl
frame_twice (f.Predicate b ps) = refl
frame_twice (f.StepPredicate s) = refl

twice : (k : List Frame) → bare_frames (bare_frames k) ≡ bare_frames k
twice [] = refl
twice (top ∷ k) = rw (frame_twice top, twice k) refl

mode_twice : (mode : Mode) → bare (bare mode) ≡ bare mode
mode_twice m.Wanted = refl
mode_twice (m.Filter b ps) = refl
mode_twice m.Root = refl
mode_twice (m.Leading s ss) = refl
mode_twice (m.Along s ss d) = refl
mode_twice (m.Stepping s) = refl
mode_twice (m.Located s ss) = refl

-- ---- an operand ends

wanted_bare : (k : List Frame) → wanted (bare_frames k) ≡ wanted k
wanted_bare [] = refl
wanted_bare (f.Group ∷ k) = refl
wanted_bare (f.Negation ∷ k) = refl
wanted_bare (f.Left o x ∷ k) = refl
wanted_bare (f.Argument g args ∷ k) = refl
wanted_bare (f.Predicate b ps ∷ k) = refl
wanted_bare (f.StepPredicate s ∷ k) = refl

binds_bare : (l : ℕ) (top : Frame) → binds l (bare_frame top) ≡ binds l top
binds_bare l f.Group = refl
binds_bare l f.Negation = refl
binds_bare l (f.Left o x) = refl
binds_bare l (f.Argument g args) = refl
binds_bare l (f.Predicate b ps) = refl
binds_bare l (f.StepPredicate s) = refl

-- the same frames are completed, whatever the operand is
reduced_bare : (l : ℕ) (k : List Frame) (x y : Expr) → (reduced l (bare_frames k) y).0 ≡ bare_frames (reduced l k x).0
unfolding reduced
reduced_bare l [] x y = refl
reduced_bare l (top ∷ k) x y =
    rw (binds_bare l top)
    (elim (binds l top) as (λ b. (cond b (reduced l (bare_frames k) (completed (bare_frame top) y)) (bare_frame top ∷ bare_frames k, y)).0 ≡ bare_frames (cond b (reduced l k (completed top x)) (top ∷ k, x)).0) [
      | true ↦ reduced_bare l k (completed top x) (completed (bare_frame top) y)
      | false ↦ refl
    ])

list_ends : (xs : List Expr) (x : Expr) → bare_list (xs ++ (x ∷ [])) ≡ leaf ∷ []
list_ends [] x = refl
list_ends (y ∷ xs) x = refl

closed_bare : (k : List Frame) (x y : Expr) → forgotten (closed (k, x)) ≡ forgotten (closed (bare_frames k, y))
closed_bare (f.Group ∷ k) x y = rw (twice k) refl
closed_bare (f.Argument g args ∷ k) x y = rw (twice k) refl
closed_bare [] x y = refl
closed_bare (f.Negation ∷ k) x y = refl
closed_bare (f.Left o z ∷ k) x y = refl
closed_bare (f.Predicate b ps ∷ k) x y = refl
closed_bare (f.StepPredicate s ∷ k) x y = refl

bracket_bare : (k : List Frame) (x y : Expr) → forgotten (bracket_closed (k, x)) ≡ forgotten (bracket_closed (bare_frames k, y))
bracket_bare (f.Predicate b ps ∷ k) x y = rw (twice k) refl
bracket_bare (f.StepPredicate s ∷ k) x y = rw (twice k) refl
bracket_bare [] x y = refl
bracket_bare (f.Group ∷ k) x y = refl
bracket_bare (f.Negation ∷ k) x y = refl
bracket_bare (f.Left o z ∷ k) x y = refl
bracket_bare (f.Argument g args ∷ k) x y = refl

separated_bare : (k : List Frame) (x y : Expr) → forgotten (separated (k, x)) ≡ forgotten (separated (bare_frames k, y))
separated_bare (f.Argument g args ∷ k) x y = rw (twice k, list_ends args x, list_ends (bare_list args) y) refl
separated_bare [] x y = refl
separated_bare (f.Group ∷ k) x y = refl
separated_bare (f.Negation ∷ k) x y = refl
separated_bare (f.Left o z ∷ k) x y = refl
separated_bare (f.Predicate b ps ∷ k) x y = refl
separated_bare (f.StepPredicate s ∷ k) x y = refl

-- what only looks at the frames that are left behind an operand does the same
behind_operand : {A : Type 0} (l : ℕ) (k : List Frame) (x y : Expr) (end : List Frame × Expr → A)
    → ((k : List Frame) (x y : Expr) → end (k, x) ≡ end (bare_frames k, y)) → end (reduced l k x) ≡ end (reduced l (bare_frames k) y)
behind_operand l k x y end h =
    let left = reduced l (bare_frames k) y in
    h (reduced l k x).0 (reduced l k x).1 left.1 ∙ ap (λ (u : List Frame). end (u, left.1)) (sym (reduced_bare l k x y))

ended_bare : (sign : Terminal) (k : List Frame) (x y : Expr) → forgotten (ended_by sign k x) ≡ forgotten (ended_by sign (bare_frames k) y)
ended_bare t.Close k x y = behind_operand 0 k x y (λ r. forgotten (closed r)) closed_bare
ended_bare t.CloseBracket k x y = behind_operand 0 k x y (λ r. forgotten (bracket_closed r)) bracket_bare
ended_bare t.Comma k x y = behind_operand 0 k x y (λ r. forgotten (separated r)) separated_bare
ended_bare _ k x y = refl

operator_bare : (o : BinaryOp) (k : List Frame) (x y : Expr) → forgotten (Some (with_operator o (k, x))) ≡ forgotten (Some (with_operator o (bare_frames k, y)))
operator_bare o k x y = rw (twice k) refl

continued_bare : (o : Option BinaryOp) (sign : Terminal) (k : List Frame) (x y : Expr) → forgotten (continued_by o sign k x) ≡ forgotten (continued_by o sign (bare_frames k) y)
continued_bare (Some o) sign k x y = behind_operand (level o) k x y (λ r. forgotten (Some (with_operator o r))) (operator_bare o)
continued_bare None sign k x y = ended_bare sign k x y

behind_bare : (sign : Terminal) (k : List Frame) (x y : Expr) → forgotten (behind sign k x) ≡ forgotten (behind sign (bare_frames k) y)
behind_bare sign k x y = continued_bare (operator_of sign) sign k x y

-- ---- one terminal

begun_step_bare : (sign : Terminal) (k : List Frame) (s s' : PathStart) (ss ss' : List PathStep) → forgotten (step_begun sign k s ss) ≡ forgotten (step_begun sign (bare_frames k) s' ss')
begun_step_bare t.Dot k s s' ss ss' = rw (twice k) refl
begun_step_bare t.DoubleDot k s s' ss ss' = rw (twice k) refl
begun_step_bare (t.Axis d) k s s' ss ss' = rw (twice k) refl
begun_step_bare (t.Test x) k s s' ss ss' = rw (twice k) refl
begun_step_bare _ k s s' ss ss' = refl

called_bare : (k : List Frame) → forgotten (called k) ≡ forgotten (called (bare_frames k))
called_bare (f.Argument g [] ∷ k) = rw (twice k) refl
called_bare (f.Argument g (x ∷ args) ∷ k) = refl
called_bare [] = refl
called_bare (f.Group ∷ k) = refl
called_bare (f.Negation ∷ k) = refl
called_bare (f.Left o z ∷ k) = refl
called_bare (f.Predicate b ps ∷ k) = refl
called_bare (f.StepPredicate s ∷ k) = refl

negated_bare : (b : Bool) (k : List Frame) → forgotten (cond b (Some (f.Negation ∷ k, m.Wanted)) None) ≡ forgotten (cond b (Some (f.Negation ∷ bare_frames k, m.Wanted)) None)
negated_bare true k = rw (twice k) refl
negated_bare false k = refl

primary_bare : (sign : Terminal) (k : List Frame) → forgotten (primary_begun sign k) ≡ forgotten (primary_begun sign (bare_frames k))
primary_bare (t.Literal w) k = rw (twice k) refl
primary_bare (t.Number n) k = rw (twice k) refl
primary_bare t.Open k = rw (twice k) refl
primary_bare t.Minus k = rw (wanted_bare k) (negated_bare _ k)
primary_bare (t.Call g) k = rw (twice k) refl
primary_bare t.Close k = called_bare k
primary_bare t.Slash k = rw (twice k) refl
primary_bare t.DoubleSlash k = rw (twice k) refl
primary_bare _ k = refl

-- either way, by whether the terminal begins a step
either_bare : (b : Bool) (o o' p p' : Option State) → forgotten o ≡ forgotten o' → forgotten p ≡ forgotten p' → forgotten (cond b o p) ≡ forgotten (cond b o' p')
either_bare true o o' p p' h i = h
either_bare false o o' p p' h i = i

filter_bare : (sign : Terminal) (k : List Frame) (b : Expr) (ps : List Expr) → forgotten (behind_filter sign k b ps) ≡ forgotten (behind_filter sign (bare_frames k) leaf [])
filter_bare t.OpenBracket k b ps = rw (twice k) refl
filter_bare t.Slash k b ps = rw (twice k) refl
filter_bare t.DoubleSlash k b ps = rw (twice k) refl
filter_bare sign k b ps = behind_bare sign k (filtered b ps) leaf

path_bare : (sign : Terminal) (k : List Frame) (s s' : PathStart) (ss ss' : List PathStep) → forgotten (behind_path sign k s ss) ≡ forgotten (behind_path sign (bare_frames k) s' ss')
path_bare t.Slash k s s' ss ss' = rw (twice k) refl
path_bare t.DoubleSlash k s s' ss ss' = rw (twice k) refl
path_bare sign k s s' ss ss' = behind_bare sign k (expr.Path s ss) (expr.Path s' ss')

open_step_bare : (sign : Terminal) (k : List Frame) (s : OpenStep) → forgotten (behind_step sign k s) ≡ forgotten (behind_step sign (bare_frames k) bare_step)
open_step_bare t.OpenBracket k s = rw (twice k) refl
open_step_bare sign k s = path_bare sign k s.start start.Context (steps_of s) (steps_of bare_step)

step_bare : (mode : Mode) (sign : Terminal) (k : List Frame) → forgotten (step k mode sign) ≡ forgotten (step (bare_frames k) (bare mode) sign)
step_bare m.Wanted sign k = either_bare (begins_step sign) _ _ _ _ (begun_step_bare sign k start.Context start.Context [] []) (primary_bare sign k)
step_bare (m.Filter b ps) sign k = filter_bare sign k b ps
step_bare m.Root sign k =
    either_bare (begins_step sign) _ _ _ _ (begun_step_bare sign k start.Root start.Root [] []) (behind_bare sign k (expr.Path start.Root []) (expr.Path start.Root []))
step_bare (m.Leading s ss) sign k = begun_step_bare sign k s start.Context ss []
step_bare (m.Along s ss d) (t.Test x) k = rw (twice k) refl
step_bare (m.Along s ss d) _ k = refl
step_bare (m.Stepping s) sign k = open_step_bare sign k s
step_bare (m.Located s ss) sign k = path_bare sign k s start.Context ss []

-- ---- the end, and whole runs

abbrev too_deep : Option Expr → Option (Expr × Bool)
too_deep read = read >>= (λ x. Some (x, true))

whole_bare : (k : List Frame) (x y : Expr) → shallow (too_deep (whole (k, x))) ≡ shallow (too_deep (whole (bare_frames k, y)))
whole_bare [] x y = refl
whole_bare (top ∷ k) x y = refl

operand_bare : (k : List Frame) (x y : Expr) → shallow (too_deep (whole (reduced 0 k x))) ≡ shallow (too_deep (whole (reduced 0 (bare_frames k) y)))
operand_bare k x y = behind_operand 0 k x y (λ r. shallow (too_deep (whole r))) whole_bare

finish_bare : (mode : Mode) (k : List Frame) → shallow (too_deep (finish k mode)) ≡ shallow (too_deep (finish (bare_frames k) (bare mode)))
finish_bare m.Wanted k = refl
finish_bare (m.Filter b ps) k = operand_bare k (filtered b ps) leaf
finish_bare m.Root k = operand_bare k (expr.Path start.Root []) (expr.Path start.Root [])
finish_bare (m.Leading s ss) k = refl
finish_bare (m.Along s ss d) k = refl
finish_bare (m.Stepping s) k = operand_bare k (expr.Path s.start (steps_of s)) (expr.Path start.Context (steps_of bare_step))
finish_bare (m.Located s ss) k = operand_bare k (expr.Path s ss) (expr.Path start.Context [])

-- what the terminals come to behind an answer
abbrev from : List Terminal → Option State → Option (Option Expr)
from more answer = shallow (answer >>= (λ s. run s.0 s.1 true more))

from_bare : (more : List Terminal) (answer : Option State) → ((k : List Frame) (mode : Mode) → shallow (run k mode true more) ≡ shallow (run (bare_frames k) (bare mode) true more))
    → from more answer ≡ from more (forgotten answer)
from_bare more None h = refl
from_bare more (Some s) h = h s.0 s.1

run_bare : (ts : List Terminal) (k : List Frame) (mode : Mode) → shallow (run k mode true ts) ≡ shallow (run (bare_frames k) (bare mode) true ts)
unfolding run
run_bare [] k mode = finish_bare mode k
run_bare (sign ∷ more) k mode =
    from_bare more (step k mode sign) (run_bare more)
    ∙ ap (from more) (step_bare mode sign k)
    ∙ sym (from_bare more (step (bare_frames k) (bare mode) sign) (run_bare more))

-- reading may go on with what is kept
pub run_kept : (deep : Bool) (k : List Frame) (mode : Mode) (ts : List Terminal) → shallow (run k (kept deep mode) deep ts) ≡ shallow (run k mode deep ts)
run_kept false k mode ts = refl
run_kept true k mode ts =
    run_bare ts k (bare mode) ∙ ap (λ (b : Mode). shallow (run (bare_frames k) b true ts)) (mode_twice mode) ∙ sym (run_bare ts k mode)

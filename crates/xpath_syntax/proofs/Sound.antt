-- What is read is spelled so.
use Rattle.std.proofs.Common.{◌≡◌, ℕ, zero, suc, ◌+◌, ◌-◌, ◌≤◌, nat_le, Bool, true, false, ◌||◌, cond, List, [], ◌∷◌, ◌++◌, Option, Some, None, refl, sym, ap, subst, ◌∙◌, append_assoc, append-nil, arith}
use Rattle.sig_base.proofs.OptionLemmas.{some_is, bind_some, cond_some}
use Rattle.xpath_words.specs.declared.operator.BinaryOp.{BinaryOp}
use Rattle.xpath_words.specs.declared.operator.BinaryOp.TheVariants as op
use Rattle.xpath_words.specs.declared.function.Function.{Function}
use Rattle.xpath_words.specs.declared.axis.AxisName.{AxisName}
use Rattle.xpath_words.specs.declared.axis.AxisName.TheVariants as axis
use Rattle.xpath_words.specs.declared.test.NodeTest.{NodeTest}
use Rattle.xpath_words.specs.declared.terminal.Terminal.{Terminal}
use Rattle.xpath_words.specs.declared.terminal.Terminal.TheVariants as t
use Rattle.xpath_syntax.specs.declared.expr.Expr.{Expr}
use Rattle.xpath_syntax.specs.declared.expr.Expr.TheVariants as expr
use Rattle.xpath_syntax.specs.declared.expr.PathStart.{PathStart}
use Rattle.xpath_syntax.specs.declared.expr.PathStart.TheVariants as start
use Rattle.xpath_syntax.specs.declared.expr.PathStep.{PathStep}
use Rattle.xpath_syntax.specs.declared.frame.OpenStep.{OpenStep}
use Rattle.xpath_syntax.specs.declared.frame.Frame.{Frame}
use Rattle.xpath_syntax.specs.declared.frame.Frame.TheVariants as f
use Rattle.xpath_syntax.specs.declared.mode.Mode.{Mode}
use Rattle.xpath_syntax.specs.declared.mode.Mode.TheVariants as m
use Rattle.xpath_syntax.specs.Grammar.{level, operator_of, filtered, anywhere, itself, parent, Part, Level, Filter, Passing, Leading, Stepping, Located, Spells, binary, tighter, negation, of_filter, of_path, root, literal, number, group, no_arguments, call, first_argument, next_argument, predicate, from_context, from_root, from_anywhere, from_filter, below_filter, further, below, dot, double_dot, child, along, step_predicate, stepped}
use Rattle.xpath_syntax.specs.Nesting.{own_levels}
use Rattle.xpath_syntax.specs.Reading.{wanted, reduced, State, steps_of, with_predicate, closed, bracket_closed, separated, with_operator, ended_by, continued_by, behind, step_begun, called, primary_begun, begun, behind_filter, behind_path, behind_step, behind_axis, begins_step, behind_root, step, whole, operand_of, finish, deepens, run, expression_of}

looser : (n l : ℕ) (a : List Terminal) (x : Expr) → Spells (Level (n + l) x) a → Spells (Level l x) a
looser zero l a x h = let P : ℕ → Type 0 = λ n. Spells (Level n x) a in subst P (omega arith) h
looser (suc n) l a x h = let P : ℕ → Type 0 = λ i. Spells (Level i x) a in looser n l a x (tighter (n + l) a x (subst P (omega arith) h))

at_most : (l i : ℕ) (a : List Terminal) (x : Expr) → l ≤ i → Spells (Level i x) a → Spells (Level l x) a
at_most l i a x h s =
    let P : ℕ → Type 0 = λ n. Spells (Level n x) a in
    looser (i - l) l a x (subst P (omega arith) s)

-- the tokens that were read before the part that is read now
data Holds : List Frame → List Terminal → Type 0 where
  nothing : Holds [] []
  a_group : (k : List Frame) (p : List Terminal) → Holds k p → Holds (f.Group ∷ k) (p ++ (t.Open ∷ []))
  a_negation : (k : List Frame) (p : List Terminal) → Holds k p → wanted k ≤ 6 → Holds (f.Negation ∷ k) (p ++ (t.Minus ∷ []))
  a_left : (k : List Frame) (p a : List Terminal) (sign : Terminal) (o : BinaryOp) (x : Expr) → Holds k p → wanted k ≤ level o → operator_of sign ≡ Some o → Spells (Level (level o) x) a
      → Holds (f.Left o x ∷ k) (p ++ (a ++ (sign ∷ [])))
  a_call : (k : List Frame) (p : List Terminal) (g : Function) → Holds k p → Holds (f.Argument g [] ∷ k) (p ++ (t.Call g ∷ []))
  an_argument : (k : List Frame) (p a : List Terminal) (g : Function) (args : List Expr) → Holds k p → Spells (Passing g args) a → Holds (f.Argument g args ∷ k) (p ++ (a ++ (t.Comma ∷ [])))
  a_predicate : (k : List Frame) (p a : List Terminal) (b : Expr) (ps : List Expr) → Holds k p → Spells (Filter b ps) a → Holds (f.Predicate b ps ∷ k) (p ++ (a ++ (t.OpenBracket ∷ [])))
  a_step_predicate : (k : List Frame) (p a : List Terminal) (o : OpenStep) → Holds k p → Spells (Stepping o.start o.steps o.axis o.test o.predicates) a
      → Holds (f.StepPredicate o ∷ k) (p ++ (a ++ (t.OpenBracket ∷ [])))

-- the tokens of the part that is read now
Held : Mode → List Terminal → Type 0
Held m.Wanted a = a ≡ []
Held (m.Filter b ps) a = Spells (Filter b ps) a
Held m.Root a = a ≡ t.Slash ∷ []
Held (m.Leading s ss) a = Spells (Leading s ss) a
Held (m.Along s ss d) a = (b : List Terminal) × Spells (Leading s ss) b × (a ≡ b ++ (t.Axis d ∷ []))
Held (m.Stepping o) a = Spells (Stepping o.start o.steps o.axis o.test o.predicates) a
Held (m.Located s ss) a = Spells (Located s ss) a

record Reaches (s : State) (c : List Terminal) : Type 0 where
  before : List Terminal
  now_read : List Terminal
  holds : Holds s.0 before
  held : Held s.1 now_read
  parts : c ≡ before ++ now_read

reaches : (s : State) (k : List Frame) (mode : Mode) (p a c : List Terminal) → ◌≡◌ {A = Option State} (Some (k, mode)) (Some s) → Holds k p → Held mode a → c ≡ p ++ a → Reaches s c
reaches s k mode p a c e holds held parts =
    let P : State → Type 0 = λ u. Reaches u c in
    subst P (some_is (k, mode) s e) (record { before = p; now_read = a; holds = holds; held = held; parts = parts })

-- a frame is pushed, and an operand is wanted
reaches_wanted : (s : State) (k : List Frame) (c : List Terminal) → ◌≡◌ {A = Option State} (Some (k, m.Wanted)) (Some s) → Holds k c → Reaches s c
unfolding Held
reaches_wanted s k c e holds = reaches s k m.Wanted c [] c e holds refl (sym (append-nil c))

record Settled (d : ℕ) (r : List Frame × Expr) (read : List Terminal) : Type 0 where
  before : List Terminal
  operand : List Terminal
  holds : Holds r.0 before
  spells : Spells (Level d r.1) operand
  fits : wanted r.0 ≤ d
  parts : read ≡ before ++ operand

regroup : (p a q b : List Terminal) → (p ++ (a ++ q)) ++ b ≡ p ++ (a ++ (q ++ b))
regroup p a q b = simp append_assoc

stays : (d l : ℕ) (k : List Frame) (p a : List Terminal) (y : Expr) → Holds k p → Spells (Level l y) a → d ≤ l → wanted k ≤ d → Settled d (k, y) (p ++ a)
stays d l k p a y holds spells at fits = record { before = p; operand = a; holds = holds; spells = at_most d l a y at spells; fits = fits; parts = refl }

reduced_sound : (d l : ℕ) (k : List Frame) (p a : List Terminal) (y : Expr) → Holds k p → Spells (Level l y) a → wanted k ≤ l → d ≤ l → Settled d (reduced d k y) (p ++ a)
unfolding reduced
reduced_sound d l k p a y nothing spells fits at = stays d l [] [] a y nothing spells at (omega arith)
reduced_sound d l k p a y (a_group k' p' more) spells fits at = stays d l k p a y (a_group k' p' more) spells at (omega arith)
reduced_sound d l k p a y (a_call k' p' g more) spells fits at = stays d l k p a y (a_call k' p' g more) spells at (omega arith)
reduced_sound d l k p a y (an_argument k' p' a' g args more passed) spells fits at = stays d l k p a y (an_argument k' p' a' g args more passed) spells at (omega arith)
reduced_sound d l k p a y (a_predicate k' p' a' b ps more base) spells fits at = stays d l k p a y (a_predicate k' p' a' b ps more base) spells at (omega arith)
reduced_sound d l k p a y (a_step_predicate k' p' a' o more base) spells fits at = stays d l k p a y (a_step_predicate k' p' a' o more base) spells at (omega arith)
reduced_sound d l k p a y (a_negation k' p' more fits') spells fits at =
    elim (nat_le d 6) as (λ b. nat_le d 6 ≡ b → Settled d (cond b (reduced d k' (expr.Negate y)) (f.Negation ∷ k', y)) ((p' ++ (t.Minus ∷ [])) ++ a)) [
      | true ↦ λ is.
          let P : List Terminal → Type 0 = λ u. Settled d (reduced d k' (expr.Negate y)) u in
          subst P (sym (append_assoc p' (t.Minus ∷ []) a)) (reduced_sound d 6 k' p' (t.Minus ∷ a) (expr.Negate y) more (negation a y (at_most 6 l a y fits spells)) fits' (grind arith))
      | false ↦ λ is. stays d l k p a y (a_negation k' p' more fits') spells at (grind arith)
    ] refl
reduced_sound d l k p a y (a_left k' p' a' sign o x more fits' is_sign left) spells fits at =
    elim (nat_le d (level o)) as (λ b. nat_le d (level o) ≡ b → Settled d (cond b (reduced d k' (expr.Binary o x y)) (f.Left o x ∷ k', y)) ((p' ++ (a' ++ (sign ∷ []))) ++ a)) [
      | true ↦ λ is.
          let P : List Terminal → Type 0 = λ u. Settled d (reduced d k' (expr.Binary o x y)) u in
          subst P (sym (regroup p' a' (sign ∷ []) a))
          (reduced_sound d (level o) k' p' (a' ++ (sign ∷ a)) (expr.Binary o x y) more (binary (level o) a' a sign o x y is_sign refl left (at_most (suc (level o)) l a y fits spells)) fits' (grind arith))
      | false ↦ λ is. stays d l k p a y (a_left k' p' a' sign o x more fits' is_sign left) spells at (grind arith)
    ] refl

-- ---- an argument

record Passed (k : List Frame) (g : Function) (args : List Expr) (c : List Terminal) : Type 0 where
  before : List Terminal
  spelled : List Terminal
  holds : Holds k before
  spells : Spells (Passing g args) spelled
  parts : c ≡ before ++ spelled

passed : (k : List Frame) (g : Function) (args : List Expr) (y : Expr) (p a : List Terminal) → Holds (f.Argument g args ∷ k) p → Spells (Level 0 y) a → Passed k g (args ++ (y ∷ [])) (p ++ a)
passed k g args y p a (a_call k' p' g' more) spells =
    record { before = p'; spelled = t.Call g ∷ a; holds = more; spells = first_argument a g y spells; parts = append_assoc p' (t.Call g ∷ []) a }
passed k g args y p a (an_argument k' p' a' g' args' more before) spells =
    record { before = p'; spelled = a' ++ (t.Comma ∷ a); holds = more; spells = next_argument a' a g args y before spells; parts = regroup p' a' (t.Comma ∷ []) a }

around : (p a q : List Terminal) → (p ++ a) ++ q ≡ p ++ (a ++ q)
around p a q = append_assoc p a q

with_end : (c p a q : List Terminal) → c ≡ p ++ a → c ++ q ≡ p ++ (a ++ q)
with_end c p a q e = ap (λ (u : List Terminal). u ++ q) e ∙ append_assoc p a q

in_group : (p a : List Terminal) → ((p ++ (t.Open ∷ [])) ++ a) ++ (t.Close ∷ []) ≡ p ++ (t.Open ∷ (a ++ (t.Close ∷ [])))
in_group p a = simp append_assoc

in_brackets : (p b a : List Terminal) → ((p ++ (b ++ (t.OpenBracket ∷ []))) ++ a) ++ (t.CloseBracket ∷ []) ≡ p ++ (b ++ (t.OpenBracket ∷ (a ++ (t.CloseBracket ∷ []))))
in_brackets p b a = simp append_assoc

ends : (c d q : List Terminal) → c ≡ d → c ++ q ≡ d ++ q
ends c d q e = ap (λ (u : List Terminal). u ++ q) e

group_closed : (k : List Frame) (y : Expr) (p a c : List Terminal) (s : State) → Holds (f.Group ∷ k) p → Spells (Level 0 y) a → c ≡ p ++ a
    → ◌≡◌ {A = Option State} (Some (k, m.Filter y [])) (Some s) → Reaches s (c ++ (t.Close ∷ []))
unfolding Held
group_closed k y p a c s (a_group k' p' more) spells parts e =
    reaches s k (m.Filter y []) p' (t.Open ∷ (a ++ (t.Close ∷ []))) (c ++ (t.Close ∷ [])) e more (group a y spells) (ends c (p ++ a) (t.Close ∷ []) parts ∙ in_group p' a)

call_closed : (k : List Frame) (g : Function) (args : List Expr) (y : Expr) (p a c : List Terminal) (s : State) → Holds (f.Argument g args ∷ k) p → Spells (Level 0 y) a → c ≡ p ++ a
    → ◌≡◌ {A = Option State} (Some (k, m.Filter (expr.Call g (args ++ (y ∷ []))) [])) (Some s) → Reaches s (c ++ (t.Close ∷ []))
unfolding Held
call_closed k g args y p a c s holds spells parts e =
    let w = passed k g args y p a holds spells in
    reaches s k (m.Filter (expr.Call g (args ++ (y ∷ []))) []) w.before (w.spelled ++ (t.Close ∷ [])) (c ++ (t.Close ∷ [])) e w.holds (call w.spelled g (args ++ (y ∷ [])) w.spells)
    (with_end c w.before w.spelled (t.Close ∷ []) (parts ∙ w.parts))

closed_sound : (r : List Frame × Expr) (read : List Terminal) (s : State) → Settled 0 r read → closed r ≡ Some s → Reaches s (read ++ (t.Close ∷ []))
closed_sound (f.Group ∷ k, y) read s h e = group_closed k y h.before h.operand read s h.holds h.spells h.parts e
closed_sound (f.Argument g args ∷ k, y) read s h e = call_closed k g args y h.before h.operand read s h.holds h.spells h.parts e
closed_sound (_, y) read s h e = absurd cc

predicate_closed : (k : List Frame) (b : Expr) (ps : List Expr) (y : Expr) (p a c : List Terminal) (s : State) → Holds (f.Predicate b ps ∷ k) p → Spells (Level 0 y) a → c ≡ p ++ a
    → ◌≡◌ {A = Option State} (Some (k, m.Filter b (ps ++ (y ∷ [])))) (Some s) → Reaches s (c ++ (t.CloseBracket ∷ []))
unfolding Held
predicate_closed k b ps y p a c s (a_predicate k' p' a' b' ps' more base) spells parts e =
    reaches s k (m.Filter b (ps ++ (y ∷ []))) p' (a' ++ (t.OpenBracket ∷ (a ++ (t.CloseBracket ∷ [])))) (c ++ (t.CloseBracket ∷ [])) e more (predicate a' a b ps y base spells)
    (ends c (p ++ a) (t.CloseBracket ∷ []) parts ∙ in_brackets p' a' a)

step_predicate_closed : (k : List Frame) (o : OpenStep) (y : Expr) (p a c : List Terminal) (s : State) → Holds (f.StepPredicate o ∷ k) p → Spells (Level 0 y) a → c ≡ p ++ a
    → ◌≡◌ {A = Option State} (Some (k, m.Stepping (with_predicate o y))) (Some s) → Reaches s (c ++ (t.CloseBracket ∷ []))
unfolding Held
step_predicate_closed k o y p a c s (a_step_predicate k' p' a' o' more base) spells parts e =
    reaches s k (m.Stepping (with_predicate o y)) p' (a' ++ (t.OpenBracket ∷ (a ++ (t.CloseBracket ∷ [])))) (c ++ (t.CloseBracket ∷ [])) e more
    (step_predicate a' a o.start o.steps o.axis o.test o.predicates y base spells)
    (ends c (p ++ a) (t.CloseBracket ∷ []) parts ∙ in_brackets p' a' a)

bracket_sound : (r : List Frame × Expr) (read : List Terminal) (s : State) → Settled 0 r read → bracket_closed r ≡ Some s → Reaches s (read ++ (t.CloseBracket ∷ []))
bracket_sound (f.Predicate b ps ∷ k, y) read s h e = predicate_closed k b ps y h.before h.operand read s h.holds h.spells h.parts e
bracket_sound (f.StepPredicate o ∷ k, y) read s h e = step_predicate_closed k o y h.before h.operand read s h.holds h.spells h.parts e
bracket_sound (_, y) read s h e = absurd cc

separated_sound : (r : List Frame × Expr) (read : List Terminal) (s : State) → Settled 0 r read → separated r ≡ Some s → Reaches s (read ++ (t.Comma ∷ []))
separated_sound (f.Argument g args ∷ k, y) read s h e =
    let w = passed k g args y h.before h.operand h.holds h.spells in
    let P : List Terminal → Type 0 = λ u. Reaches s u in
    subst P (sym (with_end read w.before w.spelled (t.Comma ∷ []) (h.parts ∙ w.parts)))
    (reaches_wanted s (f.Argument g (args ++ (y ∷ [])) ∷ k) (w.before ++ (w.spelled ++ (t.Comma ∷ []))) e (an_argument k w.before w.spelled g (args ++ (y ∷ [])) w.holds w.spells))
separated_sound (_, y) read s h e = absurd cc

-- ---- behind an operand

level_small : (o : BinaryOp) → level o ≤ 7
level_small op.Or = omega arith
level_small op.And = omega arith
level_small op.Equal = omega arith
level_small op.NotEqual = omega arith
level_small op.Less = omega arith
level_small op.LessEqual = omega arith
level_small op.Greater = omega arith
level_small op.GreaterEqual = omega arith
level_small op.Add = omega arith
level_small op.Subtract = omega arith
level_small op.Multiply = omega arith
level_small op.Mod = omega arith
level_small op.Union = omega arith

wanted_small : (k : List Frame) → wanted k ≤ 8
wanted_small [] = omega arith
wanted_small (f.Left o x ∷ k) = omega (arith, level_small o)
wanted_small (f.Negation ∷ k) = omega arith
wanted_small (_ ∷ k) = omega arith

left_sound : (o : BinaryOp) (sign : Terminal) (r : List Frame × Expr) (read : List Terminal) (s : State) → operator_of sign ≡ Some o → Settled (level o) r read
    → ◌≡◌ {A = Option State} (Some (with_operator o r)) (Some s) → Reaches s (read ++ (sign ∷ []))
left_sound o sign r read s is h e =
    let P : List Terminal → Type 0 = λ u. Reaches s u in
    subst P (sym (with_end read h.before h.operand (sign ∷ []) h.parts))
    (reaches_wanted s (f.Left o r.1 ∷ r.0) (h.before ++ (h.operand ++ (sign ∷ []))) e (a_left r.0 h.before h.operand sign o r.1 h.holds h.fits is h.spells))

ended_sound : (sign : Terminal) (k : List Frame) (p a : List Terminal) (y : Expr) (s : State) → Holds k p → Spells (Level 8 y) a → ended_by sign k y ≡ Some s → Reaches s ((p ++ a) ++ (sign ∷ []))
ended_sound t.Close k p a y s h spells e = closed_sound (reduced 0 k y) (p ++ a) s (reduced_sound 0 8 k p a y h spells (wanted_small k) (omega arith)) e
ended_sound t.CloseBracket k p a y s h spells e = bracket_sound (reduced 0 k y) (p ++ a) s (reduced_sound 0 8 k p a y h spells (wanted_small k) (omega arith)) e
ended_sound t.Comma k p a y s h spells e = separated_sound (reduced 0 k y) (p ++ a) s (reduced_sound 0 8 k p a y h spells (wanted_small k) (omega arith)) e
ended_sound _ k p a y s h spells e = absurd cc

continued_sound : (o : Option BinaryOp) (sign : Terminal) (k : List Frame) (p a : List Terminal) (y : Expr) (s : State) → operator_of sign ≡ o → Holds k p → Spells (Level 8 y) a
    → continued_by o sign k y ≡ Some s → Reaches s ((p ++ a) ++ (sign ∷ []))
continued_sound None sign k p a y s is h spells e = ended_sound sign k p a y s h spells e
continued_sound (Some o) sign k p a y s is h spells e =
    left_sound o sign (reduced (level o) k y) (p ++ a) s is (reduced_sound (level o) 8 k p a y h spells (wanted_small k) (omega (arith, level_small o))) e

behind_sound : (sign : Terminal) (k : List Frame) (p a : List Terminal) (y : Expr) (s : State) → Holds k p → Spells (Level 8 y) a → behind sign k y ≡ Some s → Reaches s ((p ++ a) ++ (sign ∷ []))
behind_sound sign k p a y s h spells e = continued_sound (operator_of sign) sign k p a y s refl h spells e

-- ---- one token

begun_step_sound : (sign : Terminal) (k : List Frame) (q : PathStart) (ss : List PathStep) (p a : List Terminal) (s : State) → Holds k p → Spells (Leading q ss) a → step_begun sign k q ss ≡ Some s
    → Reaches s ((p ++ a) ++ (sign ∷ []))
unfolding Held
begun_step_sound t.Dot k q ss p a s h spells e = reaches s k (m.Located q (ss ++ (itself ∷ []))) p (a ++ (t.Dot ∷ [])) ((p ++ a) ++ (t.Dot ∷ [])) e h (dot a q ss spells) (around p a (t.Dot ∷ []))
begun_step_sound t.DoubleDot k q ss p a s h spells e = reaches s k (m.Located q (ss ++ (parent ∷ []))) p (a ++ (t.DoubleDot ∷ [])) ((p ++ a) ++ (t.DoubleDot ∷ [])) e h (double_dot a q ss spells) (around p a (t.DoubleDot ∷ []))
begun_step_sound (t.Axis d) k q ss p a s h spells e = reaches s k (m.Along q ss d) p (a ++ (t.Axis d ∷ [])) ((p ++ a) ++ (t.Axis d ∷ [])) e h (a, spells, refl) (around p a (t.Axis d ∷ []))
begun_step_sound (t.Test x) k q ss p a s h spells e =
    reaches s k (m.Stepping (record { start = q; steps = ss; axis = axis.Child; test = x; predicates = [] })) p (a ++ (t.Test x ∷ [])) ((p ++ a) ++ (t.Test x ∷ [])) e h (child a q ss x spells) (around p a (t.Test x ∷ []))
begun_step_sound _ k q ss p a s h spells e = absurd cc

called_sound : (k : List Frame) (p : List Terminal) (s : State) → Holds k p → called k ≡ Some s → Reaches s (p ++ (t.Close ∷ []))
unfolding Held
called_sound k p s (a_call k' p' g more) e =
    reaches s k' (m.Filter (expr.Call g []) []) p' (t.Call g ∷ (t.Close ∷ [])) ((p' ++ (t.Call g ∷ [])) ++ (t.Close ∷ [])) e more (no_arguments g) (append_assoc p' (t.Call g ∷ []) (t.Close ∷ []))
called_sound k p s (an_argument k' p' a g [] more before) e = absurd (some_passed a g before)
  where
    no_items : (args : List Expr) (y : Expr) → args ++ (y ∷ []) ≡ [] → ⊥
    no_items [] y e = absurd cc
    no_items (x ∷ args) y e = absurd cc

    some_args : (part : Part) (a : List Terminal) (g : Function) → Spells part a → part ≡ Passing g [] → ⊥
    some_args part a g (first_argument a' g' x inner) e = absurd cc
    some_args part a g (next_argument a' b g' args x before inner) e = no_items args x cc
    some_args part a g _ e = absurd cc

    some_passed : (a : List Terminal) (g : Function) → Spells (Passing g []) a → ⊥
    some_passed a g h = some_args (Passing g []) a g h refl
called_sound k p s (an_argument k' p' a g (x ∷ args) more before) e = absurd cc
called_sound k p s _ e = absurd cc

primary_sound : (sign : Terminal) (k : List Frame) (p : List Terminal) (s : State) → Holds k p → primary_begun sign k ≡ Some s → Reaches s (p ++ (sign ∷ []))
unfolding Held
primary_sound (t.Literal w) k p s h e = reaches s k (m.Filter (expr.Literal w) []) p (t.Literal w ∷ []) (p ++ (t.Literal w ∷ [])) e h (literal w) refl
primary_sound (t.Number n) k p s h e = reaches s k (m.Filter (expr.Number n) []) p (t.Number n ∷ []) (p ++ (t.Number n ∷ [])) e h (number n) refl
primary_sound t.Open k p s h e = reaches_wanted s (f.Group ∷ k) (p ++ (t.Open ∷ [])) e (a_group k p h)
primary_sound t.Minus k p s h e =
    let c = cond_some (nat_le (wanted k) 6) (Some (f.Negation ∷ k, m.Wanted)) s e in
    reaches_wanted s (f.Negation ∷ k) (p ++ (t.Minus ∷ [])) c.1 (a_negation k p h (let w = c.0 in grind arith))
primary_sound (t.Call g) k p s h e = reaches_wanted s (f.Argument g [] ∷ k) (p ++ (t.Call g ∷ [])) e (a_call k p g h)
primary_sound t.Close k p s h e = called_sound k p s h e
primary_sound t.Slash k p s h e = reaches s k m.Root p (t.Slash ∷ []) (p ++ (t.Slash ∷ [])) e h refl refl
primary_sound t.DoubleSlash k p s h e = reaches s k (m.Leading start.Root (anywhere ∷ [])) p (t.DoubleSlash ∷ []) (p ++ (t.DoubleSlash ∷ [])) e h from_anywhere refl
primary_sound _ k p s h e = absurd cc

begun_sound : (sign : Terminal) (k : List Frame) (p : List Terminal) (s : State) → Holds k p → begun sign k ≡ Some s → Reaches s (p ++ (sign ∷ []))
begun_sound sign k p s h e =
    elim (begins_step sign) as (λ b. cond b (step_begun sign k start.Context []) (primary_begun sign k) ≡ Some s → Reaches s (p ++ (sign ∷ []))) [
      | true ↦ λ e.
          let P : List Terminal → Type 0 = λ u. Reaches s (u ++ (sign ∷ [])) in
          subst P (append-nil p) (begun_step_sound sign k start.Context [] p [] s h from_context e)
      | false ↦ λ e. primary_sound sign k p s h e
    ] e

filter_sound : (sign : Terminal) (k : List Frame) (b : Expr) (ps : List Expr) (p a : List Terminal) (s : State) → Holds k p → Spells (Filter b ps) a → behind_filter sign k b ps ≡ Some s → Reaches s ((p ++ a) ++ (sign ∷ []))
unfolding Held
filter_sound t.OpenBracket k b ps p a s h spells e =
    let P : List Terminal → Type 0 = λ u. Reaches s u in
    subst P (sym (around p a (t.OpenBracket ∷ []))) (reaches_wanted s (f.Predicate b ps ∷ k) (p ++ (a ++ (t.OpenBracket ∷ []))) e (a_predicate k p a b ps h spells))
filter_sound t.Slash k b ps p a s h spells e =
    reaches s k (m.Leading (start.From (filtered b ps)) []) p (a ++ (t.Slash ∷ [])) ((p ++ a) ++ (t.Slash ∷ [])) e h (from_filter a b ps spells) (around p a (t.Slash ∷ []))
filter_sound t.DoubleSlash k b ps p a s h spells e =
    reaches s k (m.Leading (start.From (filtered b ps)) (anywhere ∷ [])) p (a ++ (t.DoubleSlash ∷ [])) ((p ++ a) ++ (t.DoubleSlash ∷ [])) e h (below_filter a b ps spells) (around p a (t.DoubleSlash ∷ []))
filter_sound sign k b ps p a s h spells e = behind_sound sign k p a (filtered b ps) s h (of_filter a b ps spells) e

path_sound : (sign : Terminal) (k : List Frame) (q : PathStart) (ss : List PathStep) (p a : List Terminal) (s : State) → Holds k p → Spells (Located q ss) a → behind_path sign k q ss ≡ Some s → Reaches s ((p ++ a) ++ (sign ∷ []))
unfolding Held
path_sound t.Slash k q ss p a s h spells e =
    reaches s k (m.Leading q ss) p (a ++ (t.Slash ∷ [])) ((p ++ a) ++ (t.Slash ∷ [])) e h (further a q ss spells) (around p a (t.Slash ∷ []))
path_sound t.DoubleSlash k q ss p a s h spells e =
    reaches s k (m.Leading q (ss ++ (anywhere ∷ []))) p (a ++ (t.DoubleSlash ∷ [])) ((p ++ a) ++ (t.DoubleSlash ∷ [])) e h (below a q ss spells) (around p a (t.DoubleSlash ∷ []))
path_sound sign k q ss p a s h spells e = behind_sound sign k p a (expr.Path q ss) s h (of_path a q ss spells) e

located : (a : List Terminal) (o : OpenStep) → Spells (Stepping o.start o.steps o.axis o.test o.predicates) a → Spells (Located o.start (steps_of o)) a
located a o h = stepped a o.start o.steps o.axis o.test o.predicates h

open_step_sound : (sign : Terminal) (k : List Frame) (o : OpenStep) (p a : List Terminal) (s : State) → Holds k p → Spells (Stepping o.start o.steps o.axis o.test o.predicates) a → behind_step sign k o ≡ Some s
    → Reaches s ((p ++ a) ++ (sign ∷ []))
open_step_sound t.OpenBracket k o p a s h spells e =
    let P : List Terminal → Type 0 = λ u. Reaches s u in
    subst P (sym (around p a (t.OpenBracket ∷ []))) (reaches_wanted s (f.StepPredicate o ∷ k) (p ++ (a ++ (t.OpenBracket ∷ []))) e (a_step_predicate k p a o h spells))
open_step_sound sign k o p a s h spells e = path_sound sign k o.start (steps_of o) p a s h (located a o spells) e

behind_the_axis : (p b : List Terminal) (d : AxisName) (x : NodeTest) → (p ++ (b ++ (t.Axis d ∷ []))) ++ (t.Test x ∷ []) ≡ p ++ (b ++ (t.Axis d ∷ (t.Test x ∷ [])))
behind_the_axis p b d x = simp append_assoc

axis_sound : (sign : Terminal) (k : List Frame) (q : PathStart) (ss : List PathStep) (d : AxisName) (p b a : List Terminal) (s : State) → Holds k p → Spells (Leading q ss) b → a ≡ b ++ (t.Axis d ∷ [])
    → behind_axis sign k q ss d ≡ Some s → Reaches s ((p ++ a) ++ (sign ∷ []))
unfolding Held
axis_sound (t.Test x) k q ss d p b a s h spells parts e =
    reaches s k (m.Stepping (record { start = q; steps = ss; axis = d; test = x; predicates = [] })) p (b ++ (t.Axis d ∷ (t.Test x ∷ []))) ((p ++ a) ++ (t.Test x ∷ [])) e h (along b q ss d x spells)
    (ap (λ (u : List Terminal). (p ++ u) ++ (t.Test x ∷ [])) parts ∙ behind_the_axis p b d x)
axis_sound _ k q ss d p b a s h spells parts e = absurd cc

root_sound : (sign : Terminal) (k : List Frame) (p a : List Terminal) (s : State) → Holds k p → a ≡ t.Slash ∷ [] → behind_root sign k ≡ Some s → Reaches s ((p ++ a) ++ (sign ∷ []))
root_sound sign k p a s h parts e =
    let P : List Terminal → Type 0 = λ u. Reaches s ((p ++ u) ++ (sign ∷ [])) in
    subst P (sym parts)
    (elim (begins_step sign) as (λ b. cond b (step_begun sign k start.Root []) (behind sign k (expr.Path start.Root [])) ≡ Some s → Reaches s ((p ++ (t.Slash ∷ [])) ++ (sign ∷ []))) [
      | true ↦ λ e. begun_step_sound sign k start.Root [] p (t.Slash ∷ []) s h from_root e
      | false ↦ λ e. behind_sound sign k p (t.Slash ∷ []) (expr.Path start.Root []) s h root e
    ] e)

step_sound : (mode : Mode) (sign : Terminal) (k : List Frame) (p a : List Terminal) (s : State) → Holds k p → Held mode a → step k mode sign ≡ Some s → Reaches s ((p ++ a) ++ (sign ∷ []))
unfolding Held
step_sound m.Wanted sign k p a s h held e =
    let P : List Terminal → Type 0 = λ u. Reaches s (u ++ (sign ∷ [])) in
    subst P (sym (ap (λ (u : List Terminal). p ++ u) held ∙ append-nil p)) (begun_sound sign k p s h e)
step_sound (m.Filter b ps) sign k p a s h held e = filter_sound sign k b ps p a s h held e
step_sound m.Root sign k p a s h held e = root_sound sign k p a s h held e
step_sound (m.Leading q ss) sign k p a s h held e = begun_step_sound sign k q ss p a s h held e
step_sound (m.Along q ss d) sign k p a s h held e = axis_sound sign k q ss d p held.0 a s h held.1 held.2 e
step_sound (m.Stepping o) sign k p a s h held e = open_step_sound sign k o p a s h held e
step_sound (m.Located q ss) sign k p a s h held e = path_sound sign k q ss p a s h held e

-- ---- the end, and whole runs

all_read : (before operand read : List Terminal) (x : Expr) → Holds [] before → Spells (Level 0 x) operand → read ≡ before ++ operand → Spells (Level 0 x) read
all_read before operand read x nothing spells parts = let P : List Terminal → Type 0 = λ u. Spells (Level 0 x) u in subst P (sym parts) spells

whole_sound : (r : List Frame × Expr) (read : List Terminal) (x : Expr) → Settled 0 r read → whole r ≡ Some x → Spells (Level 0 x) read
whole_sound (top ∷ k, y) read x h e = absurd cc
whole_sound ([], y) read x h e =
    let P : Expr → Type 0 = λ u. Spells (Level 0 u) read in
    subst P (some_is y x e) (all_read h.before h.operand read y h.holds h.spells h.parts)

operand_sound : (mode : Mode) (a : List Terminal) (y : Expr) → Held mode a → operand_of mode ≡ Some y → Spells (Level 8 y) a
unfolding Held
operand_sound m.Wanted a y held e = absurd cc
operand_sound (m.Filter b ps) a y held e = let P : Expr → Type 0 = λ u. Spells (Level 8 u) a in subst P (some_is (filtered b ps) y e) (of_filter a b ps held)
operand_sound m.Root a y held e =
    let P : Expr → Type 0 = λ u. Spells (Level 8 u) a in
    let Q : List Terminal → Type 0 = λ u. Spells (Level 8 (expr.Path start.Root [])) u in
    subst P (some_is (expr.Path start.Root []) y e) (subst Q (sym held) root)
operand_sound (m.Leading q ss) a y held e = absurd cc
operand_sound (m.Along q ss d) a y held e = absurd cc
operand_sound (m.Stepping o) a y held e =
    let P : Expr → Type 0 = λ u. Spells (Level 8 u) a in
    subst P (some_is (expr.Path o.start (steps_of o)) y e) (of_path a o.start (steps_of o) (located a o held))
operand_sound (m.Located q ss) a y held e = let P : Expr → Type 0 = λ u. Spells (Level 8 u) a in subst P (some_is (expr.Path q ss) y e) (of_path a q ss held)

finish_sound : (mode : Mode) (k : List Frame) (p a : List Terminal) (x : Expr) → Holds k p → Held mode a → finish k mode ≡ Some x → Spells (Level 0 x) (p ++ a)
finish_sound mode k p a x h held e =
    let b = bind_some (operand_of mode) (λ y. whole (reduced 0 k y)) x e in
    whole_sound (reduced 0 k b.0) (p ++ a) x (reduced_sound 0 8 k p a b.0 h (operand_sound mode a b.0 held b.1) (wanted_small k) (omega arith)) b.2

run_sound : (ts : List Terminal) (k : List Frame) (mode : Mode) (deep : Bool) (p a : List Terminal) (r : Expr × Bool) → Holds k p → Held mode a → run k mode deep ts ≡ Some r
    → Spells (Level 0 r.0) ((p ++ a) ++ ts)
unfolding run
run_sound [] k mode deep p a r h held e =
    let b = bind_some (finish k mode) (λ x. Some (x, deep)) r e in
    let P : Expr → Type 0 = λ x. Spells (Level 0 x) (p ++ a) in
    let Q : List Terminal → Type 0 = λ u. Spells (Level 0 r.0) u in
    subst Q (sym (append-nil (p ++ a))) (subst P (ap (λ (s : Expr × Bool). s.0) (some_is (b.0, deep) r b.2)) (finish_sound mode k p a b.0 h held b.1))
run_sound (sign ∷ more) k mode deep p a r h held e =
    let b = bind_some (step k mode sign) (λ s. run s.0 s.1 (deep || deepens s.0 (own_levels sign)) more) r e in
    let w = step_sound mode sign k p a b.0 h held b.1 in
    let P : List Terminal → Type 0 = λ u. Spells (Level 0 r.0) u in
    subst P (sym (ap (λ (u : List Terminal). u ++ more) w.parts) ∙ append_assoc (p ++ a) (sign ∷ []) more)
    (run_sound more b.0.0 b.0.1 (deep || deepens b.0.0 (own_levels sign)) w.before w.now_read r w.holds w.held b.2)

pub expression_sound : (ts : List Terminal) (r : Expr × Bool) → expression_of ts ≡ Some r → Spells (Level 0 r.0) ts
unfolding Held
expression_sound ts r e = run_sound ts [] m.Wanted false [] [] r nothing refl e

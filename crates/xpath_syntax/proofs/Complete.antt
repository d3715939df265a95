-- What is spelled is read.
use Rattle.std.proofs.Common.{◌≡◌, ◌≢◌, ℕ, suc, ◌+◌, ◌≤◌, max, nat_lt, Bool, true, false, ◌||◌, List, [], ◌∷◌, ◌++◌, Option, Some, None, refl, sym, ap, ◌∙◌, append_assoc, append-nil, arith}
use Rattle.sig_base.proofs.OptionLemmas.{some_is}
use Rattle.sig_base.specs.Options.{◌>>=◌}
use Rattle.xpath_words.specs.declared.operator.BinaryOp.{BinaryOp}
use Rattle.xpath_words.specs.declared.operator.BinaryOp.TheVariants as op
use Rattle.xpath_words.specs.declared.function.Function.{Function}
use Rattle.xpath_words.specs.declared.axis.AxisName.TheVariants as axis
use Rattle.xpath_words.specs.declared.terminal.Terminal.{Terminal}
use Rattle.xpath_words.specs.declared.terminal.Terminal.TheVariants as t
use Rattle.xpath_syntax.specs.declared.expr.Expr.{Expr}
use Rattle.xpath_syntax.specs.declared.expr.Expr.TheVariants as expr
use Rattle.xpath_syntax.specs.declared.expr.PathStart.{PathStart}
use Rattle.xpath_syntax.specs.declared.expr.PathStart.TheVariants as start
use Rattle.xpath_syntax.specs.declared.expr.PathStep.{PathStep}
use Rattle.xpath_syntax.specs.declared.frame.OpenStep.{OpenStep}
use Rattle.xpath_syntax.specs.declared.frame.Frame.{Frame}
use Rattle.xpath_syntax.specs.declared.frame.Frame.TheVariants as f
use Rattle.xpath_syntax.specs.declared.mode.Mode.TheVariants as m
use Rattle.xpath_syntax.specs.Grammar.{level, operator_of, filtered, step_with, anywhere, itself, parent, Part, Level, Filter, Passing, Leading, Stepping, Located, Spells, binary, tighter, negation, of_filter, of_path, root, literal, number, group, no_arguments, call, first_argument, next_argument, predicate, from_context, from_root, from_anywhere, from_filter, below_filter, further, below, dot, double_dot, child, along, step_predicate, stepped}
use Rattle.xpath_syntax.specs.Nesting.{limit, levels_of_test, own_levels, nesting}
use Rattle.xpath_syntax.specs.Reading.{wanted, binds, completed, reduced, State, closed, bracket_closed, separated, with_operator, behind, step_begun, begins_step, whole, levels, deepens, run, expression_of}
use Rattle.xpath_syntax.proofs.Tools.{le_true, le_false, bracketed}
use Rattle.xpath_syntax.proofs.Flags.{noted, two, three, four}

-- how tightly the next terminal takes an operand: 9 where it goes on with a path or a filter
demand_of : Terminal → ℕ
demand_of (t.Operator o) = level o
demand_of t.Minus = 4
demand_of t.OpenBracket = 9
demand_of t.Slash = 9
demand_of t.DoubleSlash = 9
demand_of t.Dot = 9
demand_of t.DoubleDot = 9
demand_of (t.Axis d) = 9
demand_of (t.Test x) = 9
demand_of _ = 0

demand : List Terminal → ℕ
demand [] = 0
demand (sign ∷ more) = demand_of sign

begins_one : List Terminal → Bool
begins_one [] = false
begins_one (sign ∷ more) = begins_step sign

ends_argument : List Terminal → Bool
ends_argument (t.Close ∷ more) = true
ends_argument (t.Comma ∷ more) = true
ends_argument _ = false

no_bracket : List Terminal → Bool
no_bracket (t.OpenBracket ∷ more) = false
no_bracket _ = true

-- what may stand behind a part
Follows : Part → List Frame → List Terminal → Type 0
Follows (Level l x) k rest = (wanted k ≤ l) × (demand rest ≤ l)
Follows (Filter b ps) k rest = Unit {0}
Follows (Passing g args) k rest = ends_argument rest ≡ true
Follows (Leading s ss) k rest = begins_one rest ≡ true
Follows (Stepping s ss d x ps) k rest = Unit {0}
Follows (Located s ss) k rest = no_bracket rest ≡ true

-- reading on behind a part
operand : List Frame → Expr → Bool → List Terminal → Option (Expr × Bool)
operand k x deep [] = whole (reduced 0 k x) >>= (λ y. Some (y, deep))
operand k x deep (sign ∷ more) = behind sign k x >>= (λ s. run s.0 s.1 (deep || deepens s.0 (own_levels sign)) more)

leading : List Frame → PathStart → List PathStep → Bool → List Terminal → Option (Expr × Bool)
leading k s ss deep [] = None
leading k s ss deep (sign ∷ more) = step_begun sign k s ss >>= (λ s. run s.0 s.1 (deep || deepens s.0 (own_levels sign)) more)

passing : List Frame → Function → List Expr → Bool → List Terminal → Option (Expr × Bool)
passing k g args deep (t.Close ∷ more) = run k (m.Filter (expr.Call g args) []) (noted deep (levels k + 0)) more
passing k g args deep (t.Comma ∷ more) = run (f.Argument g args ∷ k) m.Wanted (noted deep (1 + levels k + 0)) more
passing k g args deep _ = None

after : List Frame → Part → Bool → List Terminal → Option (Expr × Bool)
after k (Level l x) deep rest = operand k x deep rest
after k (Filter b ps) deep rest = run k (m.Filter b ps) deep rest
after k (Passing g args) deep rest = passing k g args deep rest
after k (Leading s ss) deep rest = leading k s ss deep rest
after k (Stepping s ss d x ps) deep rest = run k (m.Stepping (record { start = s; steps = ss; axis = d; test = x; predicates = ps })) deep rest
after k (Located s ss) deep rest = run k (m.Located s ss) deep rest

not_unary : (o : BinaryOp) → level o ≢ 6
not_unary op.Or h = omega arith
not_unary op.And h = omega arith
not_unary op.Equal h = omega arith
not_unary op.NotEqual h = omega arith
not_unary op.Less h = omega arith
not_unary op.LessEqual h = omega arith
not_unary op.Greater h = omega arith
not_unary op.GreaterEqual h = omega arith
not_unary op.Add h = omega arith
not_unary op.Subtract h = omega arith
not_unary op.Multiply h = omega arith
not_unary op.Mod h = omega arith
not_unary op.Union h = omega arith

unbound : (o : BinaryOp) (k : List Frame) (y : Expr) → wanted k ≤ level o → reduced (level o) k y ≡ (k, y)
unfolding reduced
unbound o [] y h = refl
unbound o (f.Negation ∷ k) y h = rw (le_false (level o) 6 (let n = not_unary o in omega arith)) refl
unbound o (f.Left o' x ∷ k) y h = rw (le_false (level o) (level o') (omega arith)) refl
unbound o (_ ∷ k) y h = refl

absorb_reduced : (l : ℕ) (top : Frame) (k : List Frame) (y : Expr) → binds l top ≡ true → reduced l (top ∷ k) y ≡ reduced l k (completed top y)
unfolding reduced
absorb_reduced l top k y h = rw h refl

absorb_step : (sign : Terminal) (top : Frame) (k : List Frame) (y : Expr) → binds (demand_of sign) top ≡ true → behind sign (top ∷ k) y ≡ behind sign k (completed top y)
unfolding demand_of
absorb_step (t.Operator o) top k y h = ap (λ (r : List Frame × Expr). Some (with_operator o r)) (absorb_reduced (level o) top k y h)
absorb_step t.Minus top k y h = ap (λ (r : List Frame × Expr). Some (with_operator op.Subtract r)) (absorb_reduced 4 top k y h)
absorb_step t.Close top k y h = ap closed (absorb_reduced 0 top k y h)
absorb_step t.CloseBracket top k y h = ap bracket_closed (absorb_reduced 0 top k y h)
absorb_step t.Comma top k y h = ap separated (absorb_reduced 0 top k y h)
absorb_step _ top k y h = refl

absorb : (rest : List Terminal) (top : Frame) (k : List Frame) (y : Expr) (deep : Bool) → binds (demand rest) top ≡ true → operand (top ∷ k) y deep rest ≡ operand k (completed top y) deep rest
unfolding operand demand demand_of
absorb [] top k y deep h = ap (λ (r : List Frame × Expr). whole r >>= (λ x. Some (x, deep))) (absorb_reduced 0 top k y h)
absorb (sign ∷ more) top k y deep h = ap (λ (s : Option State). s >>= (λ r. run r.0 r.1 (deep || deepens r.0 (own_levels sign)) more)) (absorb_step sign top k y h)

no_levels : (o : BinaryOp) (sign : Terminal) → operator_of sign ≡ Some o → own_levels sign ≡ 0
no_levels o (t.Operator o') e = refl
no_levels o t.Minus e = refl
no_levels o _ e = absurd cc

behind_operator : (o : BinaryOp) (sign : Terminal) (k : List Frame) (x : Expr) (deep : Bool) (more : List Terminal) → operator_of sign ≡ Some o → wanted k ≤ level o
    → operand k x deep (sign ∷ more) ≡ run (f.Left o x ∷ k) m.Wanted (noted deep (levels k + 0)) more
unfolding operand levels
behind_operator o sign k x deep more e h = rw (e, unbound o k x h, no_levels o sign e) refl

demand_is : (o : BinaryOp) (sign : Terminal) (more : List Terminal) (l : ℕ) → operator_of sign ≡ Some o → level o ≡ l → demand (sign ∷ more) ≤ l
unfolding demand demand_of
demand_is o (t.Operator o') more l e h = let i = some_is o' o e in rw (i, h) (omega arith)
demand_is o t.Minus more l e h = let i : op.Subtract ≡ o = some_is op.Subtract o e in let j : 4 ≡ level o = ap level i in omega arith
demand_is o _ more l e h = absurd cc

leading_is : (k : List Frame) (s : PathStart) (ss : List PathStep) (deep : Bool) (rest : List Terminal) → run k (m.Leading s ss) deep rest ≡ leading k s ss deep rest
unfolding run leading
leading_is k s ss deep [] = refl
leading_is k s ss deep (sign ∷ more) = refl

-- a step leaves the frames, so their levels may be noted before it
noted_first : (k : List Frame) (s : PathStart) (ss : List PathStep) (deep : Bool) (n : ℕ) (rest : List Terminal) → n ≤ levels k → leading k s ss (noted deep n) rest ≡ leading k s ss deep rest
unfolding leading
noted_first k s ss deep n [] h = refl
noted_first k s ss deep n (t.Dot ∷ more) h = ap (λ (e : Bool). run k (m.Located s (ss ++ (itself ∷ []))) e more) (two deep n (levels k + 0) (levels k + 0) (omega arith))
noted_first k s ss deep n (t.DoubleDot ∷ more) h = ap (λ (e : Bool). run k (m.Located s (ss ++ (parent ∷ []))) e more) (two deep n (levels k + 0) (levels k + 0) (omega arith))
noted_first k s ss deep n (t.Axis d ∷ more) h = ap (λ (e : Bool). run k (m.Along s ss d) e more) (two deep n (levels k + 0) (levels k + 0) (omega arith))
noted_first k s ss deep n (t.Test x ∷ more) h =
    ap (λ (e : Bool). run k (m.Stepping (record { start = s; steps = ss; axis = axis.Child; test = x; predicates = [] })) e more)
    (two deep n (levels k + levels_of_test x) (levels k + levels_of_test x) (omega arith))
noted_first k s ss deep n (_ ∷ more) h = refl

context_leads : (k : List Frame) (deep : Bool) (rest : List Terminal) → begins_one rest ≡ true → run k m.Wanted deep rest ≡ leading k start.Context [] deep rest
unfolding run leading begins_one
context_leads k deep [] h = absurd cc
context_leads k deep (sign ∷ more) h = rw h refl

root_leads : (k : List Frame) (deep : Bool) (rest : List Terminal) → begins_one rest ≡ true → run k m.Root deep rest ≡ leading k start.Root [] deep rest
unfolding run leading begins_one
root_leads k deep [] h = absurd cc
root_leads k deep (sign ∷ more) h = rw h refl

filter_ends : (k : List Frame) (b : Expr) (ps : List Expr) (deep : Bool) (rest : List Terminal) → demand rest ≤ 8 → run k (m.Filter b ps) deep rest ≡ operand k (filtered b ps) deep rest
unfolding run operand demand demand_of
filter_ends k b ps deep [] h = refl
filter_ends k b ps deep (t.OpenBracket ∷ more) h = absurd (omega arith)
filter_ends k b ps deep (t.Slash ∷ more) h = absurd (omega arith)
filter_ends k b ps deep (t.DoubleSlash ∷ more) h = absurd (omega arith)
filter_ends k b ps deep (_ ∷ more) h = refl

path_ends : (k : List Frame) (s : PathStart) (ss : List PathStep) (deep : Bool) (rest : List Terminal) → demand rest ≤ 8 → run k (m.Located s ss) deep rest ≡ operand k (expr.Path s ss) deep rest
unfolding run operand demand demand_of
path_ends k s ss deep [] h = refl
path_ends k s ss deep (t.Slash ∷ more) h = absurd (omega arith)
path_ends k s ss deep (t.DoubleSlash ∷ more) h = absurd (omega arith)
path_ends k s ss deep (_ ∷ more) h = refl

root_ends : (k : List Frame) (deep : Bool) (rest : List Terminal) → demand rest ≤ 8 → run k m.Root deep rest ≡ operand k (expr.Path start.Root []) deep rest
unfolding run operand demand demand_of
root_ends k deep [] h = refl
root_ends k deep (t.Dot ∷ more) h = absurd (omega arith)
root_ends k deep (t.DoubleDot ∷ more) h = absurd (omega arith)
root_ends k deep (t.Axis d ∷ more) h = absurd (omega arith)
root_ends k deep (t.Test x ∷ more) h = absurd (omega arith)
root_ends k deep (_ ∷ more) h = refl

no_bracket_here : (rest : List Terminal) → demand rest ≤ 8 → no_bracket rest ≡ true
unfolding demand demand_of no_bracket
no_bracket_here [] h = refl
no_bracket_here (t.OpenBracket ∷ more) h = absurd (omega arith)
no_bracket_here (_ ∷ more) h = refl

step_ends : (k : List Frame) (o : OpenStep) (deep : Bool) (rest : List Terminal) → no_bracket rest ≡ true
    → run k (m.Stepping o) deep rest ≡ run k (m.Located o.start (o.steps ++ (step_with o.axis o.test o.predicates ∷ []))) deep rest
unfolding run no_bracket
step_ends k o deep [] h = refl
step_ends k o deep (t.OpenBracket ∷ more) h = absurd cc
step_ends k o deep (_ ∷ more) h = refl

argument_ends : (k : List Frame) (g : Function) (args : List Expr) (x : Expr) (deep : Bool) (rest : List Terminal) → ends_argument rest ≡ true
    → operand (f.Argument g args ∷ k) x deep rest ≡ passing k g (args ++ (x ∷ [])) deep rest
unfolding operand passing ends_argument reduced levels
argument_ends k g args x deep [] h = absurd cc
argument_ends k g args x deep (t.Close ∷ more) h = refl
argument_ends k g args x deep (t.Comma ∷ more) h = refl
argument_ends k g args x deep (_ ∷ more) h = absurd cc

argument_calm : (rest : List Terminal) → ends_argument rest ≡ true → demand rest ≤ 0
unfolding demand demand_of ends_argument
argument_calm [] h = absurd cc
argument_calm (t.Close ∷ more) h = omega arith
argument_calm (t.Comma ∷ more) h = omega arith
argument_calm (_ ∷ more) h = absurd cc

on : (k : List Frame) (deep : Bool) (a b rest : List Terminal) → run k m.Wanted deep ((a ++ b) ++ rest) ≡ run k m.Wanted deep (a ++ (b ++ rest))
on k deep a b rest = ap (λ (u : List Terminal). run k m.Wanted deep u) (append_assoc a b rest)

-- how deep a part's terminals nest behind these frames
behind_frames : (part : Part) (s : List Terminal) (k : List Frame) → Bool → Spells part s → Bool
behind_frames part s k deep h = noted deep (levels k + nesting part s h)

complete : (part : Part) (s rest : List Terminal) (k : List Frame) (deep : Bool) (h : Spells part s) → Follows part k rest → run k m.Wanted deep (s ++ rest) ≡ after k part (behind_frames part s k deep h) rest
unfolding run reduced demand demand_of begins_one ends_argument no_bracket Follows operand leading passing after levels nesting behind_frames
complete part s rest k deep (binary l a b sign o x y e at left right) h =
    let n = levels k in
    let i = nesting (Level l x) a left in
    let j = nesting (Level (suc l) y) b right in
    on k deep a (sign ∷ b) rest
    ∙ complete (Level l x) a (sign ∷ (b ++ rest)) k deep left (h.0, demand_is o sign (b ++ rest) l e at)
    ∙ behind_operator o sign k x (noted deep (n + i)) (b ++ rest) e (omega (arith, at, h.0))
    ∙ complete (Level (suc l) y) b rest (f.Left o x ∷ k) (noted (noted deep (n + i)) (n + 0)) right (omega (arith, at), omega (arith, h.1))
    ∙ absorb rest (f.Left o x) k y (noted (noted (noted deep (n + i)) (n + 0)) (n + j)) (le_true (demand rest) (level o) (omega (arith, at, h.1)))
    ∙ ap (λ (d : Bool). operand k (expr.Binary o x y) d rest) (three deep (n + i) (n + 0) (n + j) (n + max i j) (omega arith))
complete part s rest k deep (tighter l a x inner) h = complete (Level (suc l) x) a rest k deep inner (omega (arith, h.0), omega (arith, h.1))
complete part s rest k deep (negation a x inner) h =
    let n = levels k in
    let i = nesting (Level 6 x) a inner in
    rw (le_true (wanted k) 6 h.0)
    (complete (Level 6 x) a rest (f.Negation ∷ k) (noted deep (1 + n + 0)) inner (omega arith, h.1)
    ∙ absorb rest f.Negation k x (noted (noted deep (1 + n + 0)) (1 + n + i)) (le_true (demand rest) 6 h.1)
    ∙ ap (λ (d : Bool). operand k (expr.Negate x) d rest) (two deep (1 + n + 0) (1 + n + i) (n + suc i) (omega arith)))
complete part s rest k deep (of_filter a b ps inner) h =
    complete (Filter b ps) a rest k deep inner tt ∙ filter_ends k b ps (behind_frames (Filter b ps) a k deep inner) rest h.1
complete part s rest k deep (of_path a p ss inner) h =
    complete (Located p ss) a rest k deep inner (no_bracket_here rest h.1) ∙ path_ends k p ss (behind_frames (Located p ss) a k deep inner) rest h.1
complete part s rest k deep root h = root_ends k (noted deep (levels k + 0)) rest h.1
complete part s rest k deep (literal w) h = refl
complete part s rest k deep (number n) h = refl
complete part s rest k deep (group a x inner) h =
    let n = levels k in
    let i = nesting (Level 0 x) a inner in
    ap (λ (u : List Terminal). run (f.Group ∷ k) m.Wanted (noted deep (1 + n + 0)) u) (append_assoc a (t.Close ∷ []) rest)
    ∙ complete (Level 0 x) a (t.Close ∷ rest) (f.Group ∷ k) (noted deep (1 + n + 0)) inner (omega arith, omega arith)
    ∙ ap (λ (d : Bool). run k (m.Filter x []) d rest) (three deep (1 + n + 0) (1 + n + i) (n + 0) (n + suc i) (omega arith))
complete part s rest k deep (no_arguments g) h =
    let n = levels k in
    ap (λ (d : Bool). run k (m.Filter (expr.Call g []) []) d rest) (two deep (1 + n + 0) (n + 0) (n + 1) (omega arith))
complete part s rest k deep (call a g args inner) h =
    let n = levels k in
    let i = nesting (Passing g args) a inner in
    on k deep a (t.Close ∷ []) rest
    ∙ complete (Passing g args) a (t.Close ∷ rest) k deep inner refl
    ∙ ap (λ (d : Bool). run k (m.Filter (expr.Call g args) []) d rest) (two deep (n + i) (n + 0) (n + i) (omega arith))
complete part s rest k deep (first_argument a g x inner) h =
    let n = levels k in
    let i = nesting (Level 0 x) a inner in
    complete (Level 0 x) a rest (f.Argument g [] ∷ k) (noted deep (1 + n + 0)) inner (omega arith, argument_calm rest h)
    ∙ argument_ends k g [] x (noted (noted deep (1 + n + 0)) (1 + n + i)) rest h
    ∙ ap (λ (d : Bool). passing k g (x ∷ []) d rest) (two deep (1 + n + 0) (1 + n + i) (n + suc i) (omega arith))
complete part s rest k deep (next_argument a b g args x before inner) h =
    let n = levels k in
    let i = nesting (Passing g args) a before in
    let j = nesting (Level 0 x) b inner in
    on k deep a (t.Comma ∷ b) rest
    ∙ complete (Passing g args) a (t.Comma ∷ (b ++ rest)) k deep before refl
    ∙ complete (Level 0 x) b rest (f.Argument g args ∷ k) (noted (noted deep (n + i)) (1 + n + 0)) inner (omega arith, argument_calm rest h)
    ∙ argument_ends k g args x (noted (noted (noted deep (n + i)) (1 + n + 0)) (1 + n + j)) rest h
    ∙ ap (λ (d : Bool). passing k g (args ++ (x ∷ [])) d rest) (three deep (n + i) (1 + n + 0) (1 + n + j) (n + max i (suc j)) (omega arith))
complete part s rest k deep (predicate a c b ps x before inner) h =
    let n = levels k in
    let i = nesting (Filter b ps) a before in
    let j = nesting (Level 0 x) c inner in
    ap (λ (u : List Terminal). run k m.Wanted deep u) (bracketed a c rest)
    ∙ complete (Filter b ps) a (t.OpenBracket ∷ (c ++ (t.CloseBracket ∷ rest))) k deep before tt
    ∙ complete (Level 0 x) c (t.CloseBracket ∷ rest) (f.Predicate b ps ∷ k) (noted (noted deep (n + i)) (1 + n + 0)) inner (omega arith, omega arith)
    ∙ ap (λ (d : Bool). run k (m.Filter b (ps ++ (x ∷ []))) d rest) (four deep (n + i) (1 + n + 0) (1 + n + j) (n + 0) (n + max i (suc j)) (omega arith))
complete part s rest k deep from_context h = context_leads k deep rest h ∙ sym (noted_first k start.Context [] deep (levels k + 0) rest (omega arith))
complete part s rest k deep from_root h = root_leads k (noted deep (levels k + 0)) rest h
complete part s rest k deep from_anywhere h = leading_is k start.Root (anywhere ∷ []) (noted deep (levels k + 0)) rest
complete part s rest k deep (from_filter a b ps inner) h =
    let n = levels k in
    let i = nesting (Filter b ps) a inner in
    on k deep a (t.Slash ∷ []) rest
    ∙ complete (Filter b ps) a (t.Slash ∷ rest) k deep inner tt
    ∙ leading_is k (start.From (filtered b ps)) [] (noted (noted deep (n + i)) (n + 0)) rest
    ∙ ap (λ (d : Bool). leading k (start.From (filtered b ps)) [] d rest) (two deep (n + i) (n + 0) (n + i) (omega arith))
complete part s rest k deep (below_filter a b ps inner) h =
    let n = levels k in
    let i = nesting (Filter b ps) a inner in
    on k deep a (t.DoubleSlash ∷ []) rest
    ∙ complete (Filter b ps) a (t.DoubleSlash ∷ rest) k deep inner tt
    ∙ leading_is k (start.From (filtered b ps)) (anywhere ∷ []) (noted (noted deep (n + i)) (n + 0)) rest
    ∙ ap (λ (d : Bool). leading k (start.From (filtered b ps)) (anywhere ∷ []) d rest) (two deep (n + i) (n + 0) (n + i) (omega arith))
complete part s rest k deep (further a p ss inner) h =
    let n = levels k in
    let i = nesting (Located p ss) a inner in
    on k deep a (t.Slash ∷ []) rest
    ∙ complete (Located p ss) a (t.Slash ∷ rest) k deep inner refl
    ∙ leading_is k p ss (noted (noted deep (n + i)) (n + 0)) rest
    ∙ ap (λ (d : Bool). leading k p ss d rest) (two deep (n + i) (n + 0) (n + i) (omega arith))
complete part s rest k deep (below a p ss inner) h =
    let n = levels k in
    let i = nesting (Located p ss) a inner in
    on k deep a (t.DoubleSlash ∷ []) rest
    ∙ complete (Located p ss) a (t.DoubleSlash ∷ rest) k deep inner refl
    ∙ leading_is k p (ss ++ (anywhere ∷ [])) (noted (noted deep (n + i)) (n + 0)) rest
    ∙ ap (λ (d : Bool). leading k p (ss ++ (anywhere ∷ [])) d rest) (two deep (n + i) (n + 0) (n + i) (omega arith))
complete part s rest k deep (dot a p ss inner) h =
    let n = levels k in
    let i = nesting (Leading p ss) a inner in
    on k deep a (t.Dot ∷ []) rest
    ∙ complete (Leading p ss) a (t.Dot ∷ rest) k deep inner refl
    ∙ ap (λ (d : Bool). run k (m.Located p (ss ++ (itself ∷ []))) d rest) (two deep (n + i) (n + 0) (n + i) (omega arith))
complete part s rest k deep (double_dot a p ss inner) h =
    let n = levels k in
    let i = nesting (Leading p ss) a inner in
    on k deep a (t.DoubleDot ∷ []) rest
    ∙ complete (Leading p ss) a (t.DoubleDot ∷ rest) k deep inner refl
    ∙ ap (λ (d : Bool). run k (m.Located p (ss ++ (parent ∷ []))) d rest) (two deep (n + i) (n + 0) (n + i) (omega arith))
complete part s rest k deep (child a p ss x inner) h =
    let n = levels k in
    let i = nesting (Leading p ss) a inner in
    let j = levels_of_test x in
    on k deep a (t.Test x ∷ []) rest
    ∙ complete (Leading p ss) a (t.Test x ∷ rest) k deep inner refl
    ∙ ap (λ (d : Bool). run k (m.Stepping (record { start = p; steps = ss; axis = axis.Child; test = x; predicates = [] })) d rest) (two deep (n + i) (n + j) (n + max i j) (omega arith))
complete part s rest k deep (along a p ss d x inner) h =
    let n = levels k in
    let i = nesting (Leading p ss) a inner in
    let j = levels_of_test x in
    on k deep a (t.Axis d ∷ (t.Test x ∷ [])) rest
    ∙ complete (Leading p ss) a (t.Axis d ∷ (t.Test x ∷ rest)) k deep inner refl
    ∙ ap (λ (e : Bool). run k (m.Stepping (record { start = p; steps = ss; axis = d; test = x; predicates = [] })) e rest) (three deep (n + i) (n + 0) (n + j) (n + max i j) (omega arith))
complete part s rest k deep (step_predicate a c p ss d x ps y before inner) h =
    let n = levels k in
    let i = nesting (Stepping p ss d x ps) a before in
    let j = nesting (Level 0 y) c inner in
    ap (λ (u : List Terminal). run k m.Wanted deep u) (bracketed a c rest)
    ∙ complete (Stepping p ss d x ps) a (t.OpenBracket ∷ (c ++ (t.CloseBracket ∷ rest))) k deep before tt
    ∙ complete (Level 0 y) c (t.CloseBracket ∷ rest) (f.StepPredicate (record { start = p; steps = ss; axis = d; test = x; predicates = ps }) ∷ k) (noted (noted deep (n + i)) (1 + n + 0)) inner
    (omega arith, omega arith)
    ∙ ap (λ (e : Bool). run k (m.Stepping (record { start = p; steps = ss; axis = d; test = x; predicates = ps ++ (y ∷ []) })) e rest)
    (four deep (n + i) (1 + n + 0) (1 + n + j) (n + 0) (n + max i (suc j)) (omega arith))
complete part s rest k deep (stepped a p ss d x ps inner) h =
    complete (Stepping p ss d x ps) a rest k deep inner tt
    ∙ step_ends k (record { start = p; steps = ss; axis = d; test = x; predicates = ps }) (behind_frames (Stepping p ss d x ps) a k deep inner) rest h

abbrev pub read_as : Expr → Bool → Option (Expr × Bool)
read_as x deep = Some (x, deep)

pub expression_complete : (s : List Terminal) (x : Expr) (h : Spells (Level 0 x) s) → expression_of s ≡ Some (x, nat_lt limit (nesting (Level 0 x) s h))
unfolding run reduced demand Follows after operand levels behind_frames
expression_complete s x h =
    let at_root : 0 + nesting (Level 0 x) s h ≡ nesting (Level 0 x) s h = omega arith in
    ap (λ (u : List Terminal). run [] m.Wanted false u) (sym (append-nil s))
    ∙ complete (Level 0 x) s [] [] false h (omega arith, omega arith)
    ∙ ap (λ (n : ℕ). read_as x (nat_lt limit n)) at_root

pub one_expression : (s : List Terminal) (x y : Expr) → Spells (Level 0 x) s → Spells (Level 0 y) s → x ≡ y
one_expression s x y h i =
    ap (λ (r : Expr × Bool). r.0)
    (some_is (x, nat_lt limit (nesting (Level 0 x) s h)) (y, nat_lt limit (nesting (Level 0 y) s i)) (sym (expression_complete s x h) ∙ expression_complete s y i))

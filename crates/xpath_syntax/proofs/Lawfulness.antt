-- Where no token offends, the expression that the terminals spell is lawful.
use Rattle.std.proofs.Common.{◌≡◌, ℕ, suc, Bool, true, false, cond, List, [], ◌∷◌, ◌++◌, Option, Some, None, length, refl, sym, ap, subst, ◌∙◌, append_assoc, append-nil}
use Rattle.xpath_words.specs.declared.function.Function.{Function}
use Rattle.xpath_words.specs.declared.axis.AxisName.{AxisName}
use Rattle.xpath_words.specs.declared.axis.AxisName.TheVariants as axis
use Rattle.xpath_words.specs.declared.test.NodeTest.{NodeTest}
use Rattle.xpath_words.specs.declared.terminal.Terminal.{Terminal}
use Rattle.xpath_words.specs.declared.terminal.Terminal.TheVariants as t
use Rattle.xpath_syntax.specs.declared.expr.Expr.{Expr}
use Rattle.xpath_syntax.specs.declared.expr.Expr.TheVariants as expr
use Rattle.xpath_syntax.specs.declared.expr.PathStart.{PathStart}
use Rattle.xpath_syntax.specs.declared.expr.PathStep.{PathStep}
use Rattle.xpath_syntax.specs.Grammar.{filtered, step_with, Part, Level, Filter, Passing, Leading, Stepping, Located, Spells, binary, tighter, negation, of_filter, of_path, root, literal, number, group, no_arguments, call, first_argument, next_argument, predicate, from_context, from_root, from_anywhere, from_filter, below_filter, further, below, dot, double_dot, child, along, step_predicate, stepped}
use Rattle.xpath_words.specs.declared.test.NodeTest.TheVariants as test
use Rattle.xpath_words.specs.declared.terminal.Token.{Token}
use Rattle.xpath_words.specs.declared.terminal.Offence.{Offence}
use Rattle.xpath_words.specs.Functions.{permits}
use Rattle.xpath_syntax.specs.declared.refusal.SyntaxRefusal.{SyntaxRefusal}
use Rattle.xpath_syntax.specs.declared.refusal.SyntaxRefusal.TheVariants as refusal
use Rattle.xpath_syntax.specs.Counts.{arguments}
use Rattle.xpath_syntax.specs.Offences.{terminals, permitted, offence_of, or_else, first_offence}
use Rattle.xpath_syntax.specs.Lawful.{Subject, One, All, Steps, Lawful}
use Rattle.xpath_syntax.specs.Lawful as law
use Rattle.xpath_syntax.proofs.Tools.{bracketed}
use Rattle.xpath_syntax.proofs.Counted.{arguments_counted}

-- each call among the terminals has a permitted number of arguments behind it
Permitted : List Terminal → Type 0
Permitted [] = Unit {0}
Permitted (sign ∷ more) = (permitted sign more ≡ true) × Permitted more

none_first : (a b : Option SyntaxRefusal) → or_else a b ≡ None → (a ≡ None) × (b ≡ None)
none_first None b e = (refl, e)
none_first (Some r) b e = absurd cc

not_offending : (o : Option Offence) (sign : Terminal) (more : List Terminal) → offence_of o sign more ≡ None → permitted sign more ≡ true
not_offending (Some o) sign more e = absurd cc
not_offending None sign more e = allowed (permitted sign more) e
  where
    allowed : (b : Bool) → ◌≡◌ {A = Option SyntaxRefusal} (cond b None (Some refusal.Arity)) None → b ≡ true
    allowed true e = refl
    allowed false e = absurd cc

none_offends : (ts : List Token) → first_offence ts ≡ None → Permitted (terminals ts)
unfolding Permitted first_offence
none_offends [] e = tt
none_offends (token ∷ more) e =
    let w = none_first (offence_of token.offence token.terminal (terminals more)) (first_offence more) e in
    (not_offending token.offence token.terminal (terminals more) w.0, none_offends more w.1)

dropped : (a b : List Terminal) → Permitted (a ++ b) → Permitted b
unfolding Permitted
dropped [] b h = h
dropped (sign ∷ a) b h = dropped a b h.1

regrouped : (a b rest : List Terminal) → Permitted ((a ++ b) ++ rest) → Permitted (a ++ (b ++ rest))
regrouped a b rest h = subst Permitted (append_assoc a b rest) h

-- behind one terminal
behind_one : (a : List Terminal) (sign : Terminal) (b : List Terminal) → Permitted (a ++ (sign ∷ b)) → Permitted b
unfolding Permitted
behind_one a sign b h = (dropped a (sign ∷ b) h).1

-- ---- lists

all_joined : (xs : List Expr) (x : Expr) → Lawful (All xs) → Lawful (One x) → Lawful (All (xs ++ (x ∷ [])))
all_joined xs x law.none h = law.one_more x [] h law.none
all_joined xs x (law.one_more y ys hy hys) h = law.one_more y (ys ++ (x ∷ [])) hy (all_joined ys x hys h)

steps_joined : (ss : List PathStep) (d : AxisName) (x : NodeTest) (ps : List Expr) → Lawful (Steps ss) → Lawful (All ps) → Lawful (Steps (ss ++ (step_with d x ps ∷ [])))
steps_joined ss d x ps law.no_steps h = law.one_step_more d x ps [] h law.no_steps
steps_joined ss d x ps (law.one_step_more d' x' ps' ss' hps hss) h = law.one_step_more d' x' ps' (ss' ++ (step_with d x ps ∷ [])) hps (steps_joined ss' d x ps hss h)

lawful_filtered : (b : Expr) (ps : List Expr) → Lawful (One b) → Lawful (All ps) → Lawful (One (filtered b ps))
lawful_filtered b [] h hs = h
lawful_filtered b (p ∷ ps) h hs = law.filtered b (p ∷ ps) h hs

-- a path that begins here is lawful if its steps are
Begins : PathStart → Type 0
Begins p = (ss : List PathStep) → Lawful (Steps ss) → Lawful (One (expr.Path p ss))

LawfulPart : Part → Type 0
LawfulPart (Level l x) = Lawful (One x)
LawfulPart (Filter b ps) = Lawful (One b) × Lawful (All ps)
LawfulPart (Passing g args) = Lawful (All args)
LawfulPart (Leading p ss) = Begins p × Lawful (Steps ss)
LawfulPart (Stepping p ss d x ps) = Begins p × Lawful (Steps ss) × Lawful (All ps)
LawfulPart (Located p ss) = Begins p × Lawful (Steps ss)

permits_call : (g : Function) (args : List Expr) (a rest : List Terminal) → Spells (Passing g args) a → Permitted (a ++ (t.Close ∷ rest)) → permits g (length args) ≡ true
unfolding Permitted
permits_call g args a rest inner h =
    let w = arguments_counted g args a inner in
    let P : List Terminal → Type 0 = λ u. Permitted (u ++ (t.Close ∷ rest)) in
    ap (λ (n : ℕ). permits g n) (sym (w.count rest)) ∙ (subst P w.begins h).0

lawful : (part : Part) (s rest : List Terminal) → Spells part s → Permitted (s ++ rest) → LawfulPart part
unfolding LawfulPart Permitted Begins arguments
lawful part s rest (binary l a b sign o x y e is left right) h =
    let i = regrouped a (sign ∷ b) rest h in
    law.binary o x y (lawful (Level l x) a (sign ∷ (b ++ rest)) left i) (lawful (Level (suc l) y) b rest right (behind_one a sign (b ++ rest) i))
lawful part s rest (tighter l a x inner) h = lawful (Level (suc l) x) a rest inner h
lawful part s rest (negation a x inner) h = law.negate x (lawful (Level 6 x) a rest inner h.1)
lawful part s rest (of_filter a b ps inner) h = let w = lawful (Filter b ps) a rest inner h in lawful_filtered b ps w.0 w.1
lawful part s rest (of_path a p ss inner) h = let w = lawful (Located p ss) a rest inner h in w.0 ss w.1
lawful part s rest root h = law.from_root [] law.no_steps
lawful part s rest (literal w) h = (law.literal w, law.none)
lawful part s rest (number n) h = (law.number n, law.none)
lawful part s rest (group a x inner) h = (lawful (Level 0 x) a (t.Close ∷ rest) inner (regrouped a (t.Close ∷ []) rest h.1), law.none)
lawful part s rest (no_arguments g) h = (law.call g [] h.0 law.none, law.none)
lawful part s rest (call a g args inner) h =
    let i = regrouped a (t.Close ∷ []) rest h in
    (law.call g args (permits_call g args a rest inner i) (lawful (Passing g args) a (t.Close ∷ rest) inner i), law.none)
lawful part s rest (first_argument a g x inner) h = law.one_more x [] (lawful (Level 0 x) a rest inner h.1) law.none
lawful part s rest (next_argument a b g args x before inner) h =
    let i = regrouped a (t.Comma ∷ b) rest h in
    all_joined args x (lawful (Passing g args) a (t.Comma ∷ (b ++ rest)) before i) (lawful (Level 0 x) b rest inner (behind_one a t.Comma (b ++ rest) i))
lawful part s rest (predicate a c b ps x before inner) h =
    let i = subst Permitted (bracketed a c rest) h in
    let w = lawful (Filter b ps) a (t.OpenBracket ∷ (c ++ (t.CloseBracket ∷ rest))) before i in
    (w.0, all_joined ps x w.1 (lawful (Level 0 x) c (t.CloseBracket ∷ rest) inner (behind_one a t.OpenBracket (c ++ (t.CloseBracket ∷ rest)) i)))
lawful part s rest from_context h = (law.from_context, law.no_steps)
lawful part s rest from_root h = (law.from_root, law.no_steps)
lawful part s rest from_anywhere h = (law.from_root, law.one_step_more axis.DescendantOrSelf test.Node [] [] law.none law.no_steps)
lawful part s rest (from_filter a b ps inner) h =
    let w = lawful (Filter b ps) a (t.Slash ∷ rest) inner (regrouped a (t.Slash ∷ []) rest h) in
    (λ ss hs. law.from_nodes (filtered b ps) ss (lawful_filtered b ps w.0 w.1) hs, law.no_steps)
lawful part s rest (below_filter a b ps inner) h =
    let w = lawful (Filter b ps) a (t.DoubleSlash ∷ rest) inner (regrouped a (t.DoubleSlash ∷ []) rest h) in
    (λ ss hs. law.from_nodes (filtered b ps) ss (lawful_filtered b ps w.0 w.1) hs, law.one_step_more axis.DescendantOrSelf test.Node [] [] law.none law.no_steps)
lawful part s rest (further a p ss inner) h = lawful (Located p ss) a (t.Slash ∷ rest) inner (regrouped a (t.Slash ∷ []) rest h)
lawful part s rest (below a p ss inner) h =
    let w = lawful (Located p ss) a (t.DoubleSlash ∷ rest) inner (regrouped a (t.DoubleSlash ∷ []) rest h) in
    (w.0, steps_joined ss axis.DescendantOrSelf test.Node [] w.1 law.none)
lawful part s rest (dot a p ss inner) h =
    let w = lawful (Leading p ss) a (t.Dot ∷ rest) inner (regrouped a (t.Dot ∷ []) rest h) in
    (w.0, steps_joined ss axis.SelfNode test.Node [] w.1 law.none)
lawful part s rest (double_dot a p ss inner) h =
    let w = lawful (Leading p ss) a (t.DoubleDot ∷ rest) inner (regrouped a (t.DoubleDot ∷ []) rest h) in
    (w.0, steps_joined ss axis.Parent test.Node [] w.1 law.none)
lawful part s rest (child a p ss x inner) h =
    let w = lawful (Leading p ss) a (t.Test x ∷ rest) inner (regrouped a (t.Test x ∷ []) rest h) in
    (w.0, w.1, law.none)
lawful part s rest (along a p ss d x inner) h =
    let w = lawful (Leading p ss) a (t.Axis d ∷ (t.Test x ∷ rest)) inner (regrouped a (t.Axis d ∷ (t.Test x ∷ [])) rest h) in
    (w.0, w.1, law.none)
lawful part s rest (step_predicate a c p ss d x ps y before inner) h =
    let i = subst Permitted (bracketed a c rest) h in
    let w = lawful (Stepping p ss d x ps) a (t.OpenBracket ∷ (c ++ (t.CloseBracket ∷ rest))) before i in
    (w.0, w.1, all_joined ps y w.2 (lawful (Level 0 y) c (t.CloseBracket ∷ rest) inner (behind_one a t.OpenBracket (c ++ (t.CloseBracket ∷ rest)) i)))
lawful part s rest (stepped a p ss d x ps inner) h =
    let w = lawful (Stepping p ss d x ps) a rest inner h in
    (w.0, steps_joined ss d x ps w.1 w.2)

pub expression_lawful : (ts : List Token) (x : Expr) → first_offence ts ≡ None → Spells (Level 0 x) (terminals ts) → Lawful (One x)
unfolding LawfulPart
expression_lawful ts x e h =
    let P : List Terminal → Type 0 = λ u. Permitted u in
    lawful (Level 0 x) (terminals ts) [] h (subst P (sym (append-nil (terminals ts))) (none_offends ts e))

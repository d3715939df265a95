-- Where the expression that the terminals spell is lawful, each call among them has a permitted number of arguments.
use Rattle.std.proofs.Common.{◌≡◌, ℕ, suc, true, List, [], ◌∷◌, ◌++◌, Some, None, length, refl, sym, ap, subst, ◌∙◌, append_assoc, append-nil}
use Rattle.xpath_words.specs.declared.operator.BinaryOp.{BinaryOp}
use Rattle.xpath_words.specs.declared.function.Function.{Function}
use Rattle.xpath_words.specs.declared.axis.AxisName.TheVariants as axis
use Rattle.xpath_words.specs.declared.terminal.Terminal.{Terminal}
use Rattle.xpath_words.specs.declared.terminal.Terminal.TheVariants as t
use Rattle.xpath_syntax.specs.declared.expr.Expr.{Expr}
use Rattle.xpath_syntax.specs.Grammar.{operator_of, filtered, Part, Level, Filter, Passing, Leading, Stepping, Located, Spells, binary, tighter, negation, of_filter, of_path, root, literal, number, group, no_arguments, call, first_argument, next_argument, predicate, from_context, from_root, from_anywhere, from_filter, below_filter, further, below, dot, double_dot, child, along, step_predicate, stepped}
use Rattle.xpath_words.specs.declared.test.NodeTest.TheVariants as test
use Rattle.xpath_words.specs.declared.terminal.Token.{Token}
use Rattle.xpath_words.specs.Functions.{permits}
use Rattle.xpath_syntax.specs.declared.expr.PathStart.{out-PathStart}
use Rattle.xpath_syntax.specs.Counts.{arguments}
use Rattle.xpath_syntax.specs.Offences.{terminals, permitted, first_offence, NoneByItself}
use Rattle.xpath_syntax.specs.Lawful.{One, All, Steps, Lawful, InsideStart}
use Rattle.xpath_syntax.proofs.Counted.{arguments_counted}
use Rattle.xpath_syntax.proofs.Inversions.{inside, all_parted, steps_parted, filtered_parted, start_of, from_of, call_of, operands_of, operand_of}

-- each call among these terminals has a permitted number of arguments behind it, where the rest stands behind them
Within : List Terminal → List Terminal → Type 0
Within [] rest = Unit {0}
Within (sign ∷ s) rest = (permitted sign (s ++ rest) ≡ true) × Within s rest

-- each but the first one
Behind : List Terminal → List Terminal → Type 0
Behind [] rest = Unit {0}
Behind (sign ∷ s) rest = Within s rest

joined : (a b rest : List Terminal) → Within a (b ++ rest) → Within b rest → Within (a ++ b) rest
unfolding Within
joined [] b rest h i = i
joined (sign ∷ a) b rest h i = (ap (λ (u : List Terminal). permitted sign u) (append_assoc a b rest) ∙ h.0, joined a b rest h.1 i)

all_behind : (b rest : List Terminal) → Within b rest → Behind b rest
unfolding Within Behind
all_behind [] rest h = tt
all_behind (sign ∷ b) rest h = h.1

joined_behind : (a b rest : List Terminal) → Behind a (b ++ rest) → Within b rest → Behind (a ++ b) rest
unfolding Behind
joined_behind [] b rest h i = all_behind b rest i
joined_behind (sign ∷ a) b rest h i = joined a b rest h i

plain_operator : (o : BinaryOp) (sign : Terminal) (more : List Terminal) → operator_of sign ≡ Some o → permitted sign more ≡ true
plain_operator o (t.Operator o') more e = refl
plain_operator o t.Minus more e = refl
plain_operator o _ more e = absurd cc

-- what is lawful in a part
LawfulPart : Part → Type 0
LawfulPart (Level l x) = Lawful (One x)
LawfulPart (Filter b ps) = Lawful (One b) × Lawful (All ps)
LawfulPart (Passing g args) = Lawful (All args)
LawfulPart (Leading p ss) = InsideStart (out-PathStart p) × Lawful (Steps ss)
LawfulPart (Stepping p ss d x ps) = InsideStart (out-PathStart p) × Lawful (Steps ss) × Lawful (All ps)
LawfulPart (Located p ss) = InsideStart (out-PathStart p) × Lawful (Steps ss)

-- the calls in a part; that of a call without its `)` is left open
Stands : Part → List Terminal → List Terminal → Type 0
Stands (Passing g args) s rest = Behind s rest
Stands _ s rest = Within s rest

closed : (g : Function) (args : List Expr) (a rest : List Terminal) → Spells (Passing g args) a → permits g (length args) ≡ true → Behind a (t.Close ∷ rest) → Within (a ++ (t.Close ∷ [])) rest
unfolding Within Behind
closed g args a rest inner h i =
    let w = arguments_counted g args a inner in
    let P : List Terminal → Type 0 = λ u. Within (u ++ (t.Close ∷ [])) rest in
    let Q : List Terminal → Type 0 = λ u. Behind u (t.Close ∷ rest) in
    subst P (sym w.begins) (
      ap (λ (u : List Terminal). permits g (arguments u)) (append_assoc w.given (t.Close ∷ []) rest) ∙ ap (λ (n : ℕ). permits g n) (w.count rest) ∙ h,
      joined w.given (t.Close ∷ []) rest (subst Q w.begins i) (refl, tt),
    )

stands : (part : Part) (s rest : List Terminal) → Spells part s → LawfulPart part → Stands part s rest
unfolding LawfulPart Stands Within Behind arguments
stands part s rest (binary l a b sign o x y e is left right) h =
    let w = operands_of o x y h in
    joined a (sign ∷ b) rest (stands (Level l x) a (sign ∷ (b ++ rest)) left w.0) (plain_operator o sign (b ++ rest) e, stands (Level (suc l) y) b rest right w.1)
stands part s rest (tighter l a x inner) h = stands (Level (suc l) x) a rest inner h
stands part s rest (negation a x inner) h = (refl, stands (Level 6 x) a rest inner (operand_of x h))
stands part s rest (of_filter a b ps inner) h = stands (Filter b ps) a rest inner (filtered_parted b ps h)
stands part s rest (of_path a p ss inner) h = stands (Located p ss) a rest inner (start_of p ss h)
stands part s rest root h = (refl, tt)
stands part s rest (literal w) h = (refl, tt)
stands part s rest (number n) h = (refl, tt)
stands part s rest (group a x inner) h = (refl, joined a (t.Close ∷ []) rest (stands (Level 0 x) a (t.Close ∷ rest) inner h.0) (refl, tt))
stands part s rest (no_arguments g) h = ((call_of g [] h.0).0, (refl, tt))
stands part s rest (call a g args inner) h =
    let w = call_of g args h.0 in
    closed g args a rest inner w.0 (stands (Passing g args) a (t.Close ∷ rest) inner w.1)
stands part s rest (first_argument a g x inner) h = stands (Level 0 x) a rest inner (inside (All (x ∷ [])) h).0
stands part s rest (next_argument a b g args x before inner) h =
    let w = all_parted args x h in
    joined_behind a (t.Comma ∷ b) rest (stands (Passing g args) a (t.Comma ∷ (b ++ rest)) before w.0) (refl, stands (Level 0 x) b rest inner w.1)
stands part s rest (predicate a c b ps x before inner) h =
    let w = all_parted ps x h.1 in
    joined a (t.OpenBracket ∷ (c ++ (t.CloseBracket ∷ []))) rest
    (stands (Filter b ps) a (t.OpenBracket ∷ ((c ++ (t.CloseBracket ∷ [])) ++ rest)) before (h.0, w.0))
    (refl, joined c (t.CloseBracket ∷ []) rest (stands (Level 0 x) c (t.CloseBracket ∷ rest) inner w.1) (refl, tt))
stands part s rest from_context h = tt
stands part s rest from_root h = (refl, tt)
stands part s rest from_anywhere h = (refl, tt)
stands part s rest (from_filter a b ps inner) h =
    joined a (t.Slash ∷ []) rest (stands (Filter b ps) a (t.Slash ∷ rest) inner (filtered_parted b ps (from_of (filtered b ps) h.0))) (refl, tt)
stands part s rest (below_filter a b ps inner) h =
    joined a (t.DoubleSlash ∷ []) rest (stands (Filter b ps) a (t.DoubleSlash ∷ rest) inner (filtered_parted b ps (from_of (filtered b ps) h.0))) (refl, tt)
stands part s rest (further a p ss inner) h = joined a (t.Slash ∷ []) rest (stands (Located p ss) a (t.Slash ∷ rest) inner h) (refl, tt)
stands part s rest (below a p ss inner) h =
    joined a (t.DoubleSlash ∷ []) rest (stands (Located p ss) a (t.DoubleSlash ∷ rest) inner (h.0, (steps_parted ss axis.DescendantOrSelf test.Node [] h.1).0)) (refl, tt)
stands part s rest (dot a p ss inner) h =
    joined a (t.Dot ∷ []) rest (stands (Leading p ss) a (t.Dot ∷ rest) inner (h.0, (steps_parted ss axis.SelfNode test.Node [] h.1).0)) (refl, tt)
stands part s rest (double_dot a p ss inner) h =
    joined a (t.DoubleDot ∷ []) rest (stands (Leading p ss) a (t.DoubleDot ∷ rest) inner (h.0, (steps_parted ss axis.Parent test.Node [] h.1).0)) (refl, tt)
stands part s rest (child a p ss x inner) h = joined a (t.Test x ∷ []) rest (stands (Leading p ss) a (t.Test x ∷ rest) inner (h.0, h.1)) (refl, tt)
stands part s rest (along a p ss d x inner) h =
    joined a (t.Axis d ∷ (t.Test x ∷ [])) rest (stands (Leading p ss) a (t.Axis d ∷ (t.Test x ∷ rest)) inner (h.0, h.1)) (refl, (refl, tt))
stands part s rest (step_predicate a c p ss d x ps y before inner) h =
    let w = all_parted ps y h.2 in
    joined a (t.OpenBracket ∷ (c ++ (t.CloseBracket ∷ []))) rest
    (stands (Stepping p ss d x ps) a (t.OpenBracket ∷ ((c ++ (t.CloseBracket ∷ [])) ++ rest)) before (h.0, h.1, w.0))
    (refl, joined c (t.CloseBracket ∷ []) rest (stands (Level 0 y) c (t.CloseBracket ∷ rest) inner w.1) (refl, tt))
stands part s rest (stepped a p ss d x ps inner) h =
    let w = steps_parted ss d x ps h.1 in
    stands (Stepping p ss d x ps) a rest inner (h.0, w.0, w.1)

none_offends : (ts : List Token) → NoneByItself ts → Within (terminals ts) [] → first_offence ts ≡ None
unfolding Within first_offence
none_offends [] h i = refl
none_offends (token ∷ more) h i =
    let e : permitted token.terminal (terminals more) ≡ true = ap (λ (u : List Terminal). permitted token.terminal u) (sym (append-nil (terminals more))) ∙ i.0 in
    rw (h.0, e) (none_offends more h.1 i.1)

pub lawful_unrefused : (ts : List Token) (x : Expr) → NoneByItself ts → Spells (Level 0 x) (terminals ts) → Lawful (One x) → first_offence ts ≡ None
unfolding LawfulPart Stands
lawful_unrefused ts x own h lawful = none_offends ts own (stands (Level 0 x) (terminals ts) [] h lawful)

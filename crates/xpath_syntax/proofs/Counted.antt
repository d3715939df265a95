-- The commas counted on the terminals are those of the grammar's arguments.
use Rattle.std.proofs.Common.{◌≡◌, ℕ, zero, suc, ◌+◌, true, false, List, [], ◌∷◌, ◌++◌, Some, length, length-append, refl, ap, ◌∙◌, append_assoc, arith}
use Rattle.xpath_words.specs.declared.operator.BinaryOp.{BinaryOp}
use Rattle.xpath_words.specs.declared.function.Function.{Function}
use Rattle.xpath_words.specs.declared.terminal.Terminal.{Terminal}
use Rattle.xpath_words.specs.declared.terminal.Terminal.TheVariants as t
use Rattle.xpath_syntax.specs.declared.expr.Expr.{Expr}
use Rattle.xpath_syntax.specs.Grammar.{operator_of, Part, Level, Filter, Passing, Leading, Stepping, Located, Spells, binary, tighter, negation, of_filter, of_path, root, literal, number, group, no_arguments, call, first_argument, next_argument, predicate, from_context, from_root, from_anywhere, from_filter, below_filter, further, below, dot, double_dot, child, along, step_predicate, stepped}
use Rattle.xpath_syntax.specs.Counts.{begins_part, ends_part, is_comma, commas, begins_end, arguments, ArgumentsCounted}
use Rattle.xpath_syntax.proofs.Tools.{bracketed}

-- how far out the part ends that stands behind so many levels
inside : ℕ → Part → ℕ
inside d (Passing g args) = suc d
inside d _ = d

-- a terminal that neither begins nor ends a part, and is no comma
skip : (d : ℕ) (sign : Terminal) (more : List Terminal) → ends_part sign ≡ false → begins_part sign ≡ false → is_comma sign ≡ false → commas d (sign ∷ more) ≡ commas d more
unfolding commas
skip zero sign more e b c = rw (e, b, c) refl
skip (suc d) sign more e b c = rw (e, b) refl

enter : (d : ℕ) (sign : Terminal) (more : List Terminal) → ends_part sign ≡ false → begins_part sign ≡ true → commas d (sign ∷ more) ≡ commas (suc d) more
unfolding commas
enter zero sign more e b = rw (e, b) refl
enter (suc d) sign more e b = rw (e, b) refl

no_mark : (o : BinaryOp) (sign : Terminal) → operator_of sign ≡ Some o → (ends_part sign ≡ false) × (begins_part sign ≡ false) × (is_comma sign ≡ false)
no_mark o (t.Operator o') e = (refl, refl, refl)
no_mark o t.Minus e = (refl, refl, refl)
no_mark o _ e = absurd cc

skip_operator : (d : ℕ) (o : BinaryOp) (sign : Terminal) (more : List Terminal) → operator_of sign ≡ Some o → commas d (sign ∷ more) ≡ commas d more
skip_operator d o sign more e = let n = no_mark o sign e in skip d sign more n.0 n.1 n.2

at : (d : ℕ) (a b rest : List Terminal) → commas d ((a ++ b) ++ rest) ≡ commas d (a ++ (b ++ rest))
at d a b rest = ap (λ (u : List Terminal). commas d u) (append_assoc a b rest)

-- a part has no comma outside of its own parts
balanced : (part : Part) (s rest : List Terminal) (d : ℕ) → Spells part s → commas d (s ++ rest) ≡ commas (inside d part) rest
unfolding inside commas
balanced part s rest d (binary l a b sign o x y e is left right) =
    at d a (sign ∷ b) rest ∙ balanced (Level l x) a (sign ∷ (b ++ rest)) d left ∙ skip_operator d o sign (b ++ rest) e ∙ balanced (Level (suc l) y) b rest d right
balanced part s rest d (tighter l a x inner) = balanced (Level (suc l) x) a rest d inner
balanced part s rest d (negation a x inner) = skip d t.Minus (a ++ rest) refl refl refl ∙ balanced (Level 6 x) a rest d inner
balanced part s rest d (of_filter a b ps inner) = balanced (Filter b ps) a rest d inner
balanced part s rest d (of_path a p ss inner) = balanced (Located p ss) a rest d inner
balanced part s rest d root = skip d t.Slash rest refl refl refl
balanced part s rest d (literal w) = skip d (t.Literal w) rest refl refl refl
balanced part s rest d (number n) = skip d (t.Number n) rest refl refl refl
balanced part s rest d (group a x inner) =
    enter d t.Open ((a ++ (t.Close ∷ [])) ++ rest) refl refl ∙ at (suc d) a (t.Close ∷ []) rest ∙ balanced (Level 0 x) a (t.Close ∷ rest) (suc d) inner
balanced part s rest d (no_arguments g) = enter d (t.Call g) (t.Close ∷ rest) refl refl
balanced part s rest d (call a g args inner) = at d a (t.Close ∷ []) rest ∙ balanced (Passing g args) a (t.Close ∷ rest) d inner
balanced part s rest d (first_argument a g x inner) = enter d (t.Call g) (a ++ rest) refl refl ∙ balanced (Level 0 x) a rest (suc d) inner
balanced part s rest d (next_argument a b g args x before inner) =
    at d a (t.Comma ∷ b) rest ∙ balanced (Passing g args) a (t.Comma ∷ (b ++ rest)) d before ∙ balanced (Level 0 x) b rest (suc d) inner
balanced part s rest d (predicate a c b ps x before inner) =
    ap (λ (u : List Terminal). commas d u) (bracketed a c rest)
    ∙ balanced (Filter b ps) a (t.OpenBracket ∷ (c ++ (t.CloseBracket ∷ rest))) d before
    ∙ enter d t.OpenBracket (c ++ (t.CloseBracket ∷ rest)) refl refl
    ∙ balanced (Level 0 x) c (t.CloseBracket ∷ rest) (suc d) inner
balanced part s rest d from_context = refl
balanced part s rest d from_root = skip d t.Slash rest refl refl refl
balanced part s rest d from_anywhere = skip d t.DoubleSlash rest refl refl refl
balanced part s rest d (from_filter a b ps inner) = at d a (t.Slash ∷ []) rest ∙ balanced (Filter b ps) a (t.Slash ∷ rest) d inner ∙ skip d t.Slash rest refl refl refl
balanced part s rest d (below_filter a b ps inner) = at d a (t.DoubleSlash ∷ []) rest ∙ balanced (Filter b ps) a (t.DoubleSlash ∷ rest) d inner ∙ skip d t.DoubleSlash rest refl refl refl
balanced part s rest d (further a p ss inner) = at d a (t.Slash ∷ []) rest ∙ balanced (Located p ss) a (t.Slash ∷ rest) d inner ∙ skip d t.Slash rest refl refl refl
balanced part s rest d (below a p ss inner) = at d a (t.DoubleSlash ∷ []) rest ∙ balanced (Located p ss) a (t.DoubleSlash ∷ rest) d inner ∙ skip d t.DoubleSlash rest refl refl refl
balanced part s rest d (dot a p ss inner) = at d a (t.Dot ∷ []) rest ∙ balanced (Leading p ss) a (t.Dot ∷ rest) d inner ∙ skip d t.Dot rest refl refl refl
balanced part s rest d (double_dot a p ss inner) = at d a (t.DoubleDot ∷ []) rest ∙ balanced (Leading p ss) a (t.DoubleDot ∷ rest) d inner ∙ skip d t.DoubleDot rest refl refl refl
balanced part s rest d (child a p ss x inner) = at d a (t.Test x ∷ []) rest ∙ balanced (Leading p ss) a (t.Test x ∷ rest) d inner ∙ skip d (t.Test x) rest refl refl refl
balanced part s rest d (along a p ss e x inner) =
    at d a (t.Axis e ∷ (t.Test x ∷ [])) rest ∙ balanced (Leading p ss) a (t.Axis e ∷ (t.Test x ∷ rest)) d inner ∙ skip d (t.Axis e) (t.Test x ∷ rest) refl refl refl ∙ skip d (t.Test x) rest refl refl refl
balanced part s rest d (step_predicate a c p ss e x ps y before inner) =
    ap (λ (u : List Terminal). commas d u) (bracketed a c rest)
    ∙ balanced (Stepping p ss e x ps) a (t.OpenBracket ∷ (c ++ (t.CloseBracket ∷ rest))) d before
    ∙ enter d t.OpenBracket (c ++ (t.CloseBracket ∷ rest)) refl refl
    ∙ balanced (Level 0 y) c (t.CloseBracket ∷ rest) (suc d) inner
balanced part s rest d (stepped a p ss e x ps inner) = balanced (Stepping p ss e x ps) a rest d inner

-- what stands behind the part doesn't end one, where the part may be empty
Opens : Part → List Terminal → Type 0
Opens (Leading p ss) rest = begins_end rest ≡ false
Opens _ rest = Unit {0}

begun : (a b rest : List Terminal) → begins_end (a ++ (b ++ rest)) ≡ false → begins_end ((a ++ b) ++ rest) ≡ false
begun a b rest h = ap begins_end (append_assoc a b rest) ∙ h

-- no part begins with a mark that ends one
opens : (part : Part) (s rest : List Terminal) → Spells part s → Opens part rest → begins_end (s ++ rest) ≡ false
unfolding Opens
opens part s rest (binary l a b sign o x y e is left right) h = begun a (sign ∷ b) rest (opens (Level l x) a (sign ∷ (b ++ rest)) left tt)
opens part s rest (tighter l a x inner) h = opens (Level (suc l) x) a rest inner tt
opens part s rest (negation a x inner) h = refl
opens part s rest (of_filter a b ps inner) h = opens (Filter b ps) a rest inner tt
opens part s rest (of_path a p ss inner) h = opens (Located p ss) a rest inner tt
opens part s rest root h = refl
opens part s rest (literal w) h = refl
opens part s rest (number n) h = refl
opens part s rest (group a x inner) h = refl
opens part s rest (no_arguments g) h = refl
opens part s rest (call a g args inner) h = begun a (t.Close ∷ []) rest (opens (Passing g args) a (t.Close ∷ rest) inner tt)
opens part s rest (first_argument a g x inner) h = refl
opens part s rest (next_argument a b g args x before inner) h = begun a (t.Comma ∷ b) rest (opens (Passing g args) a (t.Comma ∷ (b ++ rest)) before tt)
opens part s rest (predicate a c b ps x before inner) h =
    begun a (t.OpenBracket ∷ (c ++ (t.CloseBracket ∷ []))) rest (opens (Filter b ps) a (t.OpenBracket ∷ ((c ++ (t.CloseBracket ∷ [])) ++ rest)) before tt)
opens part s rest from_context h = h
opens part s rest from_root h = refl
opens part s rest from_anywhere h = refl
opens part s rest (from_filter a b ps inner) h = begun a (t.Slash ∷ []) rest (opens (Filter b ps) a (t.Slash ∷ rest) inner tt)
opens part s rest (below_filter a b ps inner) h = begun a (t.DoubleSlash ∷ []) rest (opens (Filter b ps) a (t.DoubleSlash ∷ rest) inner tt)
opens part s rest (further a p ss inner) h = begun a (t.Slash ∷ []) rest (opens (Located p ss) a (t.Slash ∷ rest) inner tt)
opens part s rest (below a p ss inner) h = begun a (t.DoubleSlash ∷ []) rest (opens (Located p ss) a (t.DoubleSlash ∷ rest) inner tt)
opens part s rest (dot a p ss inner) h = begun a (t.Dot ∷ []) rest (opens (Leading p ss) a (t.Dot ∷ rest) inner refl)
opens part s rest (double_dot a p ss inner) h = begun a (t.DoubleDot ∷ []) rest (opens (Leading p ss) a (t.DoubleDot ∷ rest) inner refl)
opens part s rest (child a p ss x inner) h = begun a (t.Test x ∷ []) rest (opens (Leading p ss) a (t.Test x ∷ rest) inner refl)
opens part s rest (along a p ss d x inner) h = begun a (t.Axis d ∷ (t.Test x ∷ [])) rest (opens (Leading p ss) a (t.Axis d ∷ (t.Test x ∷ rest)) inner refl)
opens part s rest (step_predicate a c p ss d x ps y before inner) h =
    begun a (t.OpenBracket ∷ (c ++ (t.CloseBracket ∷ []))) rest (opens (Stepping p ss d x ps) a (t.OpenBracket ∷ ((c ++ (t.CloseBracket ∷ [])) ++ rest)) before tt)
opens part s rest (stepped a p ss d x ps inner) h = opens (Stepping p ss d x ps) a rest inner tt

-- what stands behind a call's parenthesis, and how many commas it has
record Counted (g : Function) (args : List Expr) (s : List Terminal) : Type 0 where
  given : List Terminal
  parts : s ≡ t.Call g ∷ given
  opened : (rest : List Terminal) → begins_end (given ++ rest) ≡ false
  count : (rest : List Terminal) → 1 + commas 0 (given ++ rest) ≡ length args + commas 0 rest

counted : (g : Function) (args : List Expr) (s : List Terminal) → Spells (Passing g args) s → Counted g args s
unfolding inside commas Opens
counted g args s (first_argument a g' x inner) =
    record { given = a; parts = refl; opened = λ rest. opens (Level 0 x) a rest inner tt; count = λ rest. ap (λ (n : ℕ). 1 + n) (balanced (Level 0 x) a rest 0 inner) }
counted g args s (next_argument a b g' before_args x before inner) =
    let w = counted g before_args a before in
    record {
      given = w.given ++ (t.Comma ∷ b);
      parts = ap (λ (u : List Terminal). u ++ (t.Comma ∷ b)) w.parts;
      opened = λ rest. begun w.given (t.Comma ∷ b) rest (w.opened (t.Comma ∷ (b ++ rest)));
      count = λ rest.
          let i : commas 0 ((w.given ++ (t.Comma ∷ b)) ++ rest) ≡ commas 0 (w.given ++ (t.Comma ∷ (b ++ rest))) = at 0 w.given (t.Comma ∷ b) rest in
          let j = w.count (t.Comma ∷ (b ++ rest)) in
          let l : commas 0 (t.Comma ∷ (b ++ rest)) ≡ 1 + commas 0 (b ++ rest) = refl in
          let n = balanced (Level 0 x) b rest 0 inner in
          omega (arith, i, j, l, n, length-append before_args (x ∷ []));
    }

pub arguments_counted : (g : Function) (args : List Expr) (s : List Terminal) → Spells (Passing g args) s → ArgumentsCounted g args s
unfolding commas arguments
arguments_counted g args s h =
    let w = counted g args s h in
    record {
      given = w.given;
      begins = w.parts;
      count = λ rest.
          rw (w.opened (t.Close ∷ rest)) (let i = w.count (t.Close ∷ rest) in let j : commas 0 (t.Close ∷ rest) ≡ 0 = refl in omega (arith, i, j));
    }

-- How deep the terminals of an expression nest. Each `(`, `[` and unary `-` is one level until its part ends: the `(` that
-- groups, that of a call and that of a node type's test, and a minus sign with its operand.
use Rattle.std.specs.Prelude.{ℕ, suc, max, List}
use Rattle.xpath_words.specs.declared.test.NodeTest.{NodeTest}
use Rattle.xpath_words.specs.declared.test.NodeTest.TheVariants as test
use Rattle.xpath_words.specs.declared.terminal.Terminal.{Terminal}
use Rattle.xpath_words.specs.declared.terminal.Terminal.TheVariants as t
use Rattle.xpath_syntax.specs.Grammar.{Part, Spells, binary, tighter, negation, of_filter, of_path, root, literal, number, group, no_arguments, call, first_argument, next_argument, predicate, from_context, from_root, from_anywhere, from_filter, below_filter, further, below, dot, double_dot, child, along, step_predicate, stepped}

-- An expression may nest so deep.
abbrev pub limit : ℕ
limit = 64

-- the parentheses of a node type's test
abbrev pub levels_of_test : NodeTest → ℕ
levels_of_test test.Any = 0
levels_of_test (test.AnyIn uri) = 0
levels_of_test (test.Named uri local) = 0
levels_of_test test.Comment = 1
levels_of_test test.Words = 1
levels_of_test test.Node = 1
levels_of_test (test.Instruction target) = 1

abbrev pub own_levels : Terminal → ℕ
own_levels (t.Test x) = levels_of_test x
own_levels _ = 0

-- how deep the terminals nest that spell a part in this way
unfoldable pub nesting : (part : Part) (s : List Terminal) → Spells part s → ℕ
nesting part s (binary l a b sign o x y is at left right) = max (nesting _ _ left) (nesting _ _ right)
nesting part s (tighter l a x inner) = nesting _ _ inner
nesting part s (negation a x inner) = suc (nesting _ _ inner)
nesting part s (of_filter a b ps inner) = nesting _ _ inner
nesting part s (of_path a p ss inner) = nesting _ _ inner
nesting part s root = 0
nesting part s (literal w) = 0
nesting part s (number n) = 0
nesting part s (group a x inner) = suc (nesting _ _ inner)
nesting part s (no_arguments g) = 1
nesting part s (call a g args inner) = nesting _ _ inner
nesting part s (first_argument a g x inner) = suc (nesting _ _ inner)
nesting part s (next_argument a b g args x before inner) = max (nesting _ _ before) (suc (nesting _ _ inner))
nesting part s (predicate a c b ps x before inner) = max (nesting _ _ before) (suc (nesting _ _ inner))
nesting part s from_context = 0
nesting part s from_root = 0
nesting part s from_anywhere = 0
nesting part s (from_filter a b ps inner) = nesting _ _ inner
nesting part s (below_filter a b ps inner) = nesting _ _ inner
nesting part s (further a p ss inner) = nesting _ _ inner
nesting part s (below a p ss inner) = nesting _ _ inner
nesting part s (dot a p ss inner) = nesting _ _ inner
nesting part s (double_dot a p ss inner) = nesting _ _ inner
nesting part s (child a p ss x inner) = max (nesting _ _ inner) (levels_of_test x)
nesting part s (along a p ss d x inner) = max (nesting _ _ inner) (levels_of_test x)
nesting part s (step_predicate a c p ss d x ps y before inner) = max (nesting _ _ before) (suc (nesting _ _ inner))
nesting part s (stepped a p ss d x ps inner) = nesting _ _ inner

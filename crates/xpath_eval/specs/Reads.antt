-- Whether an expression reads the context node, the context position or the context size (XPath 1.0, section 1). One that
-- reads none of them comes to the same at each node of a document.
use Rattle.std.specs.Prelude.{ℕ, nat_lt, Bool, true, false, ◌||◌, length}
use Rattle.std.specs.List.{list_any}
use Rattle.xpath_words.specs.declared.function.Function.{Function}
use Rattle.xpath_words.specs.declared.function.Function.TheVariants as function
use Rattle.xpath_syntax.specs.declared.expr.Expr.{Expr}
use Rattle.xpath_syntax.specs.declared.expr.Expr.TheOpen.{Expr-F, PathStart-F, PathStep-F}
use Rattle.xpath_syntax.specs.declared.expr.Expr.TheFolds.{fold-Expr}

-- with fewer arguments than that the context node stands for one (XPath 1.0, section 4)
abbrev pub expected : Function → ℕ
expected function.True = 0
expected function.False = 0
expected function.Here = 0
expected function.Concat = 0
expected function.StartsWith = 2
expected function.Contains = 2
expected function.SubstringBefore = 2
expected function.SubstringAfter = 2
expected function.Substring = 2
expected function.Translate = 3
expected _ = 1

-- a function reads the context itself, with so many arguments
abbrev pub asks_context : Function → ℕ → Bool
asks_context function.Last count = true
asks_context function.Position count = true
asks_context function.Lang count = true
asks_context f count = nat_lt count (expected f)

-- a path from the root doesn't read the context (XPath 1.0, section 2)
abbrev pub start_reads : PathStart-F Bool Bool Bool → Bool
start_reads PathStart-F.Context = true
start_reads PathStart-F.Root = false
start_reads (PathStart-F.From base) = base

-- the predicates of a step are evaluated in contexts of their own (XPath 1.0, section 2.4)
abbrev pub step_reads : PathStep-F Bool Bool Bool → Bool
step_reads step = false

abbrev pub layer_reads : Expr-F Bool Bool Bool → Bool
layer_reads (Expr-F.Binary o l r) = l || r
layer_reads (Expr-F.Negate x) = x
layer_reads (Expr-F.Literal w) = false
layer_reads (Expr-F.Number n) = false
layer_reads (Expr-F.Call f args) = asks_context f (length args) || list_any (λ arg. arg) args
layer_reads (Expr-F.Filtered base predicates) = base
layer_reads (Expr-F.Path start steps) = start

-- the expression reads the context
abbrev pub reads_context : Expr → Bool
reads_context = fold-Expr Bool Bool Bool layer_reads start_reads step_reads

-- How many arguments stand behind a call's parenthesis, by the terminals alone.
use Rattle.std.specs.Prelude.{◌≡◌, ◌++◌, length, ℕ, zero, suc, ◌+◌, Bool, true, false, List, [], ◌∷◌, if◌then◌else◌}
use Rattle.xpath_words.specs.declared.function.Function.{Function}
use Rattle.xpath_words.specs.declared.terminal.Terminal.{Terminal}
use Rattle.xpath_words.specs.declared.terminal.Terminal.TheVariants as t
use Rattle.xpath_syntax.specs.declared.expr.Expr.{Expr}

abbrev pub begins_part : Terminal → Bool
begins_part (t.Call g) = true
begins_part t.Open = true
begins_part t.OpenBracket = true
begins_part _ = false

abbrev pub ends_part : Terminal → Bool
ends_part t.Close = true
ends_part t.CloseBracket = true
ends_part _ = false

abbrev pub is_comma : Terminal → Bool
is_comma t.Comma = true
is_comma _ = false

-- the commas of the part that ends so many levels further out
unfoldable pub commas : ℕ → List Terminal → ℕ
commas d [] = 0
commas zero (sign ∷ more) =
    if ends_part sign then 0
    else (if begins_part sign then commas 1 more
    else (if is_comma sign then 1 + commas 0 more else commas 0 more))
commas (suc d) (sign ∷ more) =
    if ends_part sign then commas d more
    else (if begins_part sign then commas (suc (suc d)) more else commas (suc d) more)

abbrev pub begins_end : List Terminal → Bool
begins_end [] = false
begins_end (sign ∷ more) = ends_part sign

-- none where the part ends at once, else one more than its commas
unfoldable pub arguments : List Terminal → ℕ
arguments more = if begins_end more then 0 else 1 + commas 0 more

-- These terminals are a function's, with arguments behind it, of which there are as many as are counted once a `)` ends
-- them.
pub record ArgumentsCounted (g : Function) (args : List Expr) (s : List Terminal) : Type 0 where
  pub given : List Terminal
  pub begins : s ≡ t.Call g ∷ given
  pub count : (rest : List Terminal) → arguments (given ++ (t.Close ∷ rest)) ≡ length args

-- The levels of frames don't depend on their order.
use Rattle.std.proofs.Common.{◌≡◌, ◌+◌, List, [], ◌∷◌, ◌++◌, reverse, refl, ap, arith}
use Rattle.std.proofs.lemmas.List.{reverse-append}
use Rattle.xpath_syntax.specs.declared.frame.Frame.{Frame}
use Rattle.xpath_syntax.specs.declared.frame.Frame.TheVariants as f
use Rattle.xpath_syntax.specs.Reading.{levels}

alone : (top : Frame) (k : List Frame) → levels (top ∷ k) ≡ levels (top ∷ []) + levels k
unfolding levels
alone (f.Left o x) k = omega arith
alone f.Group k = omega arith
alone f.Negation k = omega arith
alone (f.Argument g args) k = omega arith
alone (f.Predicate b ps) k = omega arith
alone (f.StepPredicate s) k = omega arith

levels_joined : (a b : List Frame) → levels (a ++ b) ≡ levels a + levels b
unfolding levels
levels_joined [] b = omega arith
levels_joined (top ∷ a) b = omega (arith, alone top (a ++ b), alone top a, levels_joined a b)

pub levels_reversed : (k : List Frame) → levels (reverse k) ≡ levels k
levels_reversed [] = refl
levels_reversed (top ∷ k) =
    let i : levels (reverse (top ∷ k)) ≡ levels (reverse k ++ (top ∷ [])) = ap levels (reverse-append (top ∷ []) k) in
    omega (arith, i, levels_joined (reverse k) (top ∷ []), levels_reversed k, alone top k)

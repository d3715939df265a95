use Rattle.std.proofs.Common.{◌≡◌, ◌∙◌, ◌+◌, ◌-◌, ◌≤◌, ◌++◌, ◌∷◌, [], ℕ, List, map, refl, sym, ap, arith}
use Rattle.std.specs.List.{range_with_len}
use Rattle.std.proofs.lemmas.List.FromFn.{map-range_with_len_more}
use Rattle.xpath_words.specs.Prefixes.{Pair}
use Rattle.transforms.specs.Expressions.{binding}
use Rattle.transforms.proofs.expressions.prefixes_in_scope.Goals as goal

pub loop-y-init : goal.loop-y-init
loop-y-init c =
    let none : c.args.element + 1 - (c.args.element + 1) ≡ 0 = omega arith in
    c.new-prefixes.ensures ∙ sym (ap (λ (n : ℕ). map (binding c.args.doc.now) (range_with_len (c.args.element + 1) n)) none)

pub loop-y-preserved : goal.loop-y-preserved
loop-y-preserved c =
    let rows = c.args.doc.now in let a = c.args.element + 1 in let y = c.loop-y.y in
    let from : a ≤ y = omega (arith, c.loop-y.auto.y) in
    let next : y + 1 - a ≡ (y - a) + 1 = omega arith in
    let place : a + (y - a) ≡ y = omega arith in
    c.in_ok-add.ensures.ok
    ∙ ap (λ (l : List Pair). l ++ ((c.local_name.result.now, c.value.result.now) ∷ [])) c.loop-y.invariant
    ∙ ap (λ (t : List ℕ). map (binding rows) (range_with_len a (y - a)) ++ ((t, c.value.result.now) ∷ [])) c.local_name.ensures
    ∙ ap (λ (t : List ℕ). map (binding rows) (range_with_len a (y - a)) ++ ((binding rows y).0, t) ∷ []) c.value.ensures
    ∙ sym (map-range_with_len_more (binding rows) a (y - a) y place)
    ∙ ap (λ (n : ℕ). map (binding rows) (range_with_len a n)) (sym next)

pub returns : goal.returns
returns c =
    let rows = c.args.doc.now in let a = c.args.element + 1 in
    let own = c.own_rows-end.ensures in
    let at_end : c.loop-y.y ≡ c.own_rows-end.result.first_attribute = omega (arith, own.behind, c.loop-y.auto.y-end, c.loop-y-test.false) in
    c.loop-y.invariant
    ∙ ap (λ (n : ℕ). map (binding rows) (range_with_len a (n - a))) at_end
    ∙ ap (map (binding rows)) (sym own.namespaces)

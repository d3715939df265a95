-- One more piece.
use Rattle.std.proofs.Common.{◌≡◌, ◌∙◌, ◌+◌, ◌++◌, ap, sym, ℕ, zero, suc, List, [], ◌∷◌, append_assoc, arith}
use Rattle.std.specs.List.{flat_map, range_with_len}
use Rattle.std.proofs.lemmas.List.{flat_map_more}
use Rattle.self_test.specs.Document.{for_each}

range_more : (a n : ℕ) → range_with_len a (suc n) ≡ range_with_len a n ++ (a + n) ∷ []
range_more a zero =
    let same : a ≡ a + 0 = omega arith in
    ap (λ k. k ∷ []) same
range_more a (suc n) =
    let same : a + 1 + n ≡ a + suc n = omega arith in
    ap (λ xs. a ∷ xs) (range_more (a + 1) n ∙ ap (λ k. range_with_len (a + 1) n ++ k ∷ []) same)

-- a text behind which one more piece is put
pub pushed : (piece : ℕ → List ℕ) (k : ℕ) (start old new more : List ℕ) → old ≡ start ++ for_each piece k → new ≡ old ++ more
    → more ≡ piece (k + 1) → new ≡ start ++ for_each piece (k + 1)
pushed piece k start old new more so_far put is =
    let same : k + 1 ≡ 1 + k = omega arith in
    let next : suc k ≡ k + 1 = omega arith in
    put ∙ ap (λ (o : List ℕ). o ++ more) so_far ∙ ap (λ m. (start ++ for_each piece k) ++ m) (is ∙ ap piece same)
    ∙ flat_map_more piece start (range_with_len 1 k) (1 + k) ∙ ap (λ xs. start ++ flat_map piece xs) (sym (range_more 1 k))
    ∙ ap (λ n. start ++ for_each piece n) next

-- a text of pieces
pub regroup_five : (a b c d e : List ℕ) → a ++ (b ++ (c ++ (d ++ e))) ≡ a ++ b ++ c ++ d ++ e
regroup_five a b c d e = simp append_assoc

pub regroup_nine : (a b c d e f g h i : List ℕ)
    → a ++ (b ++ (c ++ (d ++ (e ++ (f ++ (g ++ (h ++ i))))))) ≡ a ++ b ++ c ++ d ++ e ++ f ++ g ++ h ++ i
regroup_nine a b c d e f g h i = simp append_assoc

-- One filter more.
use Rattle.std.proofs.Common.{◌≡◌, ℕ, Bool, List, [], ◌∷◌, ap, sym, ◌∙◌}
use Rattle.std.proofs.Math.Path.{fun_ext}
use Rattle.filter2.specs.Filters.{Filter, combined, filtered_from}

same_start : (filters : List Filter) (a b : ℕ → Bool) → ((k : ℕ) → a k ≡ b k) → (k : ℕ) → filtered_from filters a k ≡ filtered_from filters b k
same_start filters a b same k = ap (λ (f : ℕ → Bool). filtered_from filters f k) (fun_ext same)

pub one_more : (f : Filter) (more all : List Filter) (so_far later : ℕ → Bool) → all ≡ f ∷ more
    → ((k : ℕ) → later k ≡ combined f.kind (so_far k) (f.nodes k)) → (k : ℕ) → filtered_from more later k ≡ filtered_from all so_far k
one_more f more all so_far later is change k =
    same_start more later (λ y. combined f.kind (so_far y) (f.nodes y)) change k
    ∙ ap (λ (fs : List Filter). filtered_from fs so_far k) (sym is)

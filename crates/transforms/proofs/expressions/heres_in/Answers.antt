use Rattle.std.proofs.Common.{◌≡◌, ◌∙◌, ◌+◌, ◌≤◌, ◌++◌, ◌∷◌, [], ℕ, List, Option, append_assoc, append-nil, drop, sym, ap, arith}
use Rattle.std.proofs.lemmas.Option.{slice_get_within}
use Rattle.sig_base.proofs.ListLemmas.{drop-at, drop_none}
use Rattle.transforms.specs.Expressions.{here_in, heres_in}
use Rattle.transforms.proofs.expressions.heres_in.Goals as goal

pub loop-filter-preserved : goal.loop-filter-preserved
loop-filter-preserved c =
    let own = c.args.own in let fs = c.args.filters.now in let k = c.loop-filter.k in let f = c.in-Some.filter.now in
    let inside = slice_get_within fs k f (sym c.in-Some.ensures) in
    let front = c.loop-filter.heres.items in let rest = heres_in own (drop (k + 1) fs) in
    record {
      within = omega arith;
      heres =
          ap (λ (l : List (Option ℕ)). l ++ rest) (c.in_ok-push.ensures.items ∙ ap (λ (h : Option ℕ). front ++ (h ∷ [])) c.here_in.ensures)
          ∙ append_assoc front (here_in own f.row ∷ []) rest
          ∙ ap (λ l. front ++ heres_in own l) (sym (drop-at fs k f c.in-Some.ensures))
          ∙ c.loop-filter.invariant.heres;
    }

pub loop-filter-smaller : goal.loop-filter-smaller
loop-filter-smaller c =
    let within = slice_get_within c.args.filters.now c.loop-filter.k c.in-Some.filter.now (sym c.in-Some.ensures) in
    omega arith

pub overflow_add-k : goal.overflow_add-k
overflow_add-k c =
    let within = slice_get_within c.args.filters.now c.loop-filter.k c.in-Some.filter.now (sym c.in-Some.ensures) in
    omega arith

pub returns : goal.returns
returns c =
    let front = c.loop-filter.heres.items in
    sym (append-nil front) ∙ ap (λ l. front ++ heres_in c.args.own l) (sym (drop_none c.args.filters.now c.loop-filter.k c.in_default.ensures)) ∙ c.loop-filter.invariant.heres

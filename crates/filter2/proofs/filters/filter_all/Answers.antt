use Rattle.std.proofs.Common.{◌≡◌, ℕ, suc, ◌<◌, ◌+◌, ◌∷◌, length, drop, map, nat_lt, ap, sym, ◌∙◌, arith, drop-cons}
use Rattle.std.proofs.lemmas.List.{drop_all}
use Rattle.node_sets.specs.Members.{has}
use Rattle.filter2.specs.Filters.{filtered_from}
use Rattle.filter2.specs.Code.Selections.{filter_of}
use Rattle.filter2.proofs.FilterLemmas.{one_more}
use Rattle.filter2.proofs.filters.filter_all.Goals as goal

pub combine-requires : goal.combine-requires
combine-requires c =
    let there = ap (λ y. y.nodes.rows) c.filter-item.is ∙ c.requires c.loop-filter.filter-index c.filter-item.result c.loop-filter-test.true in
    ap length (c.loop-filter.invariant.rows ∙ sym there)

pub loop-filter-preserved : goal.loop-filter-preserved
loop-filter-preserved c =
    let xs = c.args.filters.now in let i = c.loop-filter.filter-index in let item = c.filter-item.result in
    let lt : i < length xs = c.loop-filter-test.true in
    let next : suc i ≡ i + 1 = omega arith in
    let cut = drop-cons xs i item lt ∙ ap (λ y. y ∷ drop (suc i) xs) (sym c.filter-item.is) ∙ ap (λ n. item ∷ drop n xs) next in
    record {
      rows = c.combine.ensures.rows ∙ c.loop-filter.invariant.rows;
      members = λ (k : ℕ).
          one_more (filter_of item) (map filter_of (drop (i + 1) xs)) (map filter_of (drop i xs)) (has c.loop-filter.so_far.members) (has c.combine.new.so_far.members)
          (ap (map filter_of) cut) c.combine.ensures.members k
          ∙ c.loop-filter.invariant.members k;
    }

pub returns-clause-members : goal.returns-clause-members
returns-clause-members c = λ (k : ℕ).
    let xs = c.args.filters.now in
    sym (ap (λ ys. filtered_from (map filter_of ys) (has c.loop-filter.so_far.members) k) (drop_all c.loop-filter.filter-index xs c.loop-filter-test.false))
    ∙ c.loop-filter.invariant.members k

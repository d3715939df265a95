use Rattle.std.proofs.Common.{ℕ, ◌||◌, List, ap, arith}
use Rattle.sig_base.proofs.ListLemmas.{drop-at, drop_none}
use Rattle.std.proofs.lemmas.List.{drop_all}
use Rattle.std.specs.Borrow.{Bor}
use Rattle.std.specs.BTreeMap.{is_at}
use Rattle.std.specs.Cmp.Lexicographic.{slice_cmp}
use Rattle.std.specs.List.{list_any}
use Rattle.std.specs.Ordering.{nat_cmp}
use Rattle.c14n_rows.proofs.PrefixLemmas.{listed, so_far-more, so_far-end}
use Rattle.c14n_rows.proofs.prefixes.names_of.Goals as goal

pub loop-k-init : goal.loop-k-init
loop-k-init c = record { each = λ (name : List ℕ). ap (λ (ks : List (Bor (List ℕ))). list_any (is_at (λ k. slice_cmp nat_cmp name k.now)) ks || listed name c.args.prefixes.now) c.new-names.ensures.empty }

pub loop-k-preserved : goal.loop-k-preserved
loop-k-preserved c =
    let all = c.args.prefixes.now in let k = c.loop-k.k in
    so_far-more all k c.loop-k.names _ c.as_str.result.now c.in-Some.prefix.now c.loop-k.invariant (drop-at all k c.in-Some.prefix.now c.in-Some.ensures) c.as_str.ensures.bytes c.in_ok-insert-in-Some.ensures.updates

pub returns-in-None : goal.returns-in-None
returns-in-None c = so_far-end c.args.prefixes.now c.loop-k.k c.loop-k.names c.loop-k.invariant (drop_none c.args.prefixes.now c.loop-k.k c.in-None.ensures)

pub returns : goal.returns
returns c = so_far-end c.args.prefixes.now c.loop-k.k c.loop-k.names c.loop-k.invariant (drop_all c.loop-k.k c.args.prefixes.now (omega (arith, c.loop-k-test.false, c.len-k-end.ensures)))

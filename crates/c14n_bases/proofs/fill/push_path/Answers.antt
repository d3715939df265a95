use Rattle.std.proofs.Common.{◌≡◌, ◌&&◌, ◌++◌, ℕ, List, [], Bool, cond, length, reverse, arith, ap, sym, ◌∙◌}
use Rattle.std.specs.Prelude.{codes, nat_lt}
use Rattle.c14n_bases.specs.Join.{segments, is_open, added, path_of}
use Rattle.c14n_bases.proofs.SurplusLemmas.{added-append}
use Rattle.c14n_bases.proofs.KeptLemmas.{kept-begin, path-end}
use Rattle.c14n_bases.proofs.fill.push_path.Goals as goal

pub returns-clause-items : goal.returns-clause-items
returns-clause-items c =
    let absolute = c.args.absolute in let first = segments c.args.first.now in let second = segments c.args.second.now in
    let front = c.push_slash_if.new.into.items in
    let at : c.len-floor.result ≡ length front = omega (arith, c.len-floor.ensures) in
    let begun = kept-begin absolute front in
    let one = c.add_segments.ensures.kept front [] at begun in
    let two = c.add_segments-2.ensures.kept front (added absolute [] first) at one in
    c.push_slash_if-2.ensures.items
    ∙ ap (λ (b : Bool). c.add_segments-2.new.into.items ++ cond b (codes "/") []) (c.closes-closing.ensures ∙ ap (λ (n : ℕ). nat_lt c.len-floor.result n && is_open c.args.second.now) (let e : c.len.result ≡ length c.add_segments-2.new.into.items = omega (arith, c.len.ensures) in e))
    ∙ path-end absolute (is_open c.args.second.now) c.args.into.now.items front c.add_segments-2.new.into.items (added absolute (added absolute [] first) second) c.add_segments-2.new.names c.len-floor.result at c.push_slash_if.ensures.items two
    ∙ ap (λ (l : List (List ℕ)). c.args.into.now.items ++ path_of absolute (is_open c.args.second.now) (reverse l)) (sym (added-append absolute [] first second))

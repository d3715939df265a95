use Rattle.std.proofs.Common.{◌≡◌, ◌∙◌, ◌++◌, List, ℕ, ap, sym, arith}
use Rattle.std.specs.List.{flat_map, range_with_len}
use Rattle.node_sets.specs.Members.{has}
use Rattle.transforms.specs.Steps.{text_in}
use Rattle.transforms.proofs.TextLaws.{all_behind, none_at_all, none_below, one_more}
use Rattle.transforms.proofs.texts.text_of_set.Goals as goal

pub returns-then-span : goal.returns-then-span
returns-then-span c =
    c.new-text.ensures.items ∙ sym (none_at_all c.args.set.now.rows c.args.set.now.members _ _ c.span-span.ensures.members c.if-span.true)

pub loop-k-init : goal.loop-k-init
loop-k-init c = c.new-text.ensures.items ∙ sym (none_below c.args.set.now.rows c.args.set.now.members _ _ c.span-span.ensures.members)

pub loop-k-preserved : goal.loop-k-preserved
loop-k-preserved c =
    let f = text_in c.args.set.now.rows (has c.args.set.now.members) in
    c.in_ok-add_text.ensures ∙ ap (λ (t : List ℕ). t ++ f c.loop-k.k) c.loop-k.invariant ∙ sym (one_more f c.loop-k.k)

pub returns : goal.returns
returns c =
    let f = text_in c.args.set.now.rows (has c.args.set.now.members) in
    let last : c.loop-k.k ≡ c.span-span.result.until = omega arith in
    c.loop-k.invariant ∙ ap (λ (n : ℕ). flat_map f (range_with_len 0 n)) last
    ∙ all_behind c.args.set.now.rows c.args.set.now.members _ _ c.span-span.ensures.members c.span-span.ensures.within

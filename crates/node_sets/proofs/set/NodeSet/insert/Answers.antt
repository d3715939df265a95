use Rattle.std.proofs.Common.{◌==◌, ◌+◌, ◌<◌, ◌∙◌, ap, arith, length}
use Rattle.node_sets.proofs.SpanLemmas.{spanned_more, one_below, one_behind}
use Rattle.node_sets.proofs.set.NodeSet.insert.Goals as goal

pub invariant_of-self : goal.invariant_of-self
invariant_of-self c =
    let i = c.args.i in
    let there : i < length c.self.inside.doc.now = let view = ap (λ v. length v.rows) c.self.view_is in let has_row = c.requires in omega arith in
    let old = c.self.invariant.2 in (
      c.insert.ensures.size ∙ c.self.invariant.0,
      rw (c.join-self-inside.ensures.from, c.join-self-inside.ensures.until) (spanned_more c.self.inside.bits c.insert.new.self (λ k. k == i) c.self.inside.span.from c.self.inside.span.until i (i + 1) c.self.invariant.1 (one_below i) (one_behind i) c.insert.ensures.members),
      let e = c.join-self-inside.ensures.until in omega arith,
    )

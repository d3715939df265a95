use Rattle.std.proofs.Common.{◌-◌, ℕ, List, length, take, drop, ap, ◌∙◌, arith}
use Rattle.c14n_bases.proofs.StandLemmas.{held}
use Rattle.c14n_bases.proofs.bases.Bases.whole.Goals as goal

pub slice_bounds-result-count : goal.slice_bounds-result-count
slice_bounds-result-count c = (held c.self.inside c.args.self.now c.args.k c.index-place.result.now c.self.view_is c.self.invariant c.requires c.index-place.ensures).texts_up

pub slice_bounds-result-start : goal.slice_bounds-result-start
slice_bounds-result-start c =
    let h = held c.self.inside c.args.self.now c.args.k c.index-place.result.now c.self.view_is c.self.invariant c.requires c.index-place.ensures in
    let up = h.texts_up in let within = h.texts_in in let n = ap (length {A = ℕ}) c.deref.ensures.value in omega arith

pub slice_bounds-result-end : goal.slice_bounds-result-end
slice_bounds-result-end c =
    let h = held c.self.inside c.args.self.now c.args.k c.index-place.result.now c.self.view_is c.self.invariant c.requires c.index-place.ensures in
    let up = h.texts_up in let within = h.texts_in in let n = ap (length {A = ℕ}) c.deref.ensures.value in omega arith

pub returns : goal.returns
returns c =
    let p = c.index-place.result.now in
    let h = held c.self.inside c.args.self.now c.args.k c.index-place.result.now c.self.view_is c.self.invariant c.requires c.index-place.ensures in
    ap (λ (l : List ℕ). take (p.until.texts - p.from.texts) (drop p.from.texts l)) c.deref.ensures.value ∙ h.known.text

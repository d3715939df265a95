use Rattle.std.proofs.Common.{ℕ, length, ap, ◌∙◌, arith}
use Rattle.c14n_bases.specs.Code.Prepared.{between}
use Rattle.c14n_bases.proofs.StandLemmas.{held}
use Rattle.c14n_bases.proofs.bases.Bases.starts.Goals as goal

pub part-requires : goal.part-requires
part-requires c =
    let h = held c.self.inside c.args.self.now c.args.k c.index-place.result.now c.self.view_is c.self.invariant c.requires c.index-place.ensures in
    let in_starts = h.starts_in in let n = ap (length {A = ℕ}) c.deref.ensures.value in
    record { up = h.starts_up; within = omega arith }

pub returns : goal.returns
returns c =
    let p = c.index-place.result.now in
    let h = held c.self.inside c.args.self.now c.args.k p c.self.view_is c.self.invariant c.requires c.index-place.ensures in
    c.part.ensures ∙ ap (between p.from.starts p.until.starts) c.deref.ensures.value ∙ h.known.starts

use Rattle.std.proofs.Common.{◌≡◌, map, take, ap, ◌∙◌, arith}
use Rattle.c14n_bases.specs.Joined.{PreparedBases}
use Rattle.c14n_bases.specs.Code.Prepared.{base_of, StandFrom}
use Rattle.c14n_bases.proofs.StackLemmas.{begin, taken}
use Rattle.c14n_bases.proofs.bases.Bases.truncate.Goals as goal
use Rattle.c14n_bases.proofs.bases.Bases.truncate.Goals.{After-truncate-then-count-len-3}

both : (c : After-truncate-then-count-len-3) → StandFrom c.truncate.new.self.items c.truncate-then-count-len.new.self.items c.truncate-then-count-len-2.new.self.items begin c.truncate-then-count-len-3.new.self.items
    × (map (base_of c.truncate.new.self.items) c.truncate-then-count-len-3.new.self.items ≡ take c.args.count (map (base_of c.self.inside.raw.items) c.self.inside.places.items))
both c =
    let less = c.if-count-len.true in let n = c.len.ensures in
    taken c.self.inside.raw.items c.self.inside.texts.items c.self.inside.starts.items c.self.inside.places.items c.self.invariant.stand
    c.truncate.new.self.items c.truncate-then-count-len.new.self.items c.truncate-then-count-len-2.new.self.items c.truncate-then-count-len-3.new.self.items
    c.args.count c.index.result.now (omega arith) c.index.ensures
    c.truncate.ensures.items c.truncate-then-count-len.ensures.items c.truncate-then-count-len-2.ensures.items c.truncate-then-count-len-3.ensures.items

pub invariant_of-self : goal.invariant_of-self
invariant_of-self c =
    let i = c.self.invariant in
    let w = i.raw in let x = i.texts in let y = i.starts in let z = i.places in
    let e = c.truncate.ensures.capacity in let f = c.truncate-then-count-len.ensures.capacity in let g = c.truncate-then-count-len-2.ensures.capacity in let h = c.truncate-then-count-len-3.ensures.capacity in
    record {
      stand = (both (goal.at.invariant_of-self c).After-truncate-then-count-len-3).0;
      raw = omega arith;
      texts = omega arith;
      starts = omega arith;
      places = omega arith;
    }

pub returns-then-count-len-clause-bases : goal.returns-then-count-len-clause-bases
returns-then-count-len-clause-bases c =
    (both (goal.at.returns-then-count-len-clause-bases c).After-truncate-then-count-len-3).1 ∙ ap (λ (v : PreparedBases). take c.args.count v.bases) c.self.view_is

use Rattle.std.proofs.Common.{◌≡◌, ◌++◌, ◌∷◌, ℕ, [], length, map, ap, ◌∙◌, arith}
use Rattle.c14n_bases.specs.Joined.{PreparedBases}
use Rattle.c14n_bases.specs.declared.bases.Prepared.{Prepared}
use Rattle.c14n_bases.specs.Code.Prepared.{base_of, EndAt, StandFrom}
use Rattle.c14n_bases.proofs.StackLemmas.{begin, room-for, pushed}
use Rattle.c14n_bases.proofs.bases.Bases.push.Goals as goal
use Rattle.c14n_bases.proofs.bases.Bases.push.Goals.{After-push_prepared}

pub prepare-shape-requires-clause-texts : goal.prepare-shape-requires-clause-texts
prepare-shape-requires-clause-texts c = (room-for c.self.inside c.args.self.now c.args.base.now c.self.view_is c.self.invariant c.requires.room).1

pub prepare-shape-requires-clause-starts : goal.prepare-shape-requires-clause-starts
prepare-shape-requires-clause-starts c = (room-for c.self.inside c.args.self.now c.args.base.now c.self.view_is c.self.invariant c.requires.room).2

pub push_all-requires : goal.push_all-requires
push_all-requires c = let r = (room-for c.self.inside c.args.self.now c.args.base.now c.self.view_is c.self.invariant c.requires.room).0 in omega arith

both : (c : After-push_prepared) → StandFrom c.push_all.new.into.items c.prepare-shape.new.texts.items c.prepare-shape.new.starts.items begin c.push_prepared.new.places.items
    × (map (base_of c.push_all.new.into.items) c.push_prepared.new.places.items ≡ map (base_of c.self.inside.raw.items) c.self.inside.places.items ++ c.args.base.now ∷ [])
both c =
    let p : Prepared = record { from = c.ends_of-from.result; until = c.ends_of-until.result; shape = c.prepare-shape.result } in
    let from : EndAt c.self.inside.raw.items c.self.inside.texts.items c.self.inside.starts.items c.ends_of-from.result = record {
      raw = c.ends_of-from.ensures.raw ∙ ap (length {A = ℕ}) c.deref.ensures.value;
      texts = c.ends_of-from.ensures.texts ∙ ap (length {A = ℕ}) c.deref-2.ensures.value;
      starts = c.ends_of-from.ensures.starts ∙ ap (length {A = ℕ}) c.deref-3.ensures.value;
    } in
    let until : EndAt c.push_all.new.into.items c.prepare-shape.new.texts.items c.prepare-shape.new.starts.items c.ends_of-until.result = record {
      raw = c.ends_of-until.ensures.raw ∙ ap (length {A = ℕ}) c.deref-4.ensures.value;
      texts = c.ends_of-until.ensures.texts ∙ ap (length {A = ℕ}) c.deref-5.ensures.value;
      starts = c.ends_of-until.ensures.starts ∙ ap (length {A = ℕ}) c.deref-6.ensures.value;
    } in
    pushed c.self.inside.raw.items c.self.inside.texts.items c.self.inside.starts.items c.self.inside.places.items c.self.invariant.stand
    c.push_all.new.into.items c.prepare-shape.new.texts.items c.prepare-shape.new.starts.items c.push_prepared.new.places.items c.args.base.now p
    c.push_all.ensures.items c.prepare-shape.ensures.texts c.prepare-shape.ensures.starts c.push_prepared.ensures.items c.prepare-shape.ensures.shape from until

pub invariant_of-self : goal.invariant_of-self
invariant_of-self c =
    let i = c.self.invariant in
    let w = i.raw in let x = i.texts in let y = i.starts in let z = i.places in
    let e = c.push_all.ensures.capacity in let f = c.prepare-shape.ensures.texts_capacity in let g = c.prepare-shape.ensures.starts_capacity in let h = c.push_prepared.ensures.capacity in
    record {
      stand = (both (goal.at.invariant_of-self c).After-push_prepared).0;
      raw = omega arith;
      texts = omega arith;
      starts = omega arith;
      places = omega arith;
    }

pub returns-clause-bases : goal.returns-clause-bases
returns-clause-bases c =
    (both (goal.at.returns-clause-bases c).After-push_prepared).1 ∙ ap (λ (v : PreparedBases). v.bases ++ c.args.base.now ∷ []) c.self.view_is

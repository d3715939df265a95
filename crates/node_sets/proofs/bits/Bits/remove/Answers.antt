use Rattle.node_sets.proofs.WordLemmas.{within_of, has_after_clear}
use Rattle.node_sets.proofs.bits.Bits.remove.Goals as goal

pub index_mut-requires : goal.index_mut-requires
index_mut-requires c = within_of c.self.inside.words.items c.self.inside.size c.args.self.now c.self.view_is c.self.invariant c.self.inside.words.len c.args.i c.self.inside.words.ok.0 c.requires

pub returns-clause-members : goal.returns-clause-members
returns-clause-members c = has_after_clear c.self.inside.words.items c.self.inside.size c.args.self.now c.self.view_is c.self.invariant c.args.i c.index_mut.result.now c.requires c.index_mut.ensures.value

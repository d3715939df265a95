use Rattle.std.proofs.Common.{inl, inr}
use Rattle.signer.proofs.PairLaws.{are_through, begin_with}
use Rattle.signer.proofs.filling.pair_at.Goals as goal

pub returns-in_default : goal.returns-in_default
returns-in_default c = are_through c.args.references.now c.args.views.now c.args.k (inl c.in_default.ensures)

pub returns-in_default-get : goal.returns-in_default-get
returns-in_default-get c = are_through c.args.references.now c.args.views.now c.args.k (inr c.in_default-get.ensures)

pub returns : goal.returns
returns c = begin_with c.args.references.now c.args.views.now c.args.k c.in-Some.reference.now c.in-Some-get.view.now c.in-Some.ensures c.in-Some-get.ensures

use Rattle.std.proofs.Common.{ap, arith}
use Rattle.c14n_bases.specs.Code.Slices.{parts_weight}
use Rattle.c14n_bases.proofs.LengthLemmas.{cut-weight}
use Rattle.c14n_bases.proofs.prepare.prepare.Goals as goal

pub push_value-ends-requires : goal.push_value-ends-requires
push_value-ends-requires c =
    let w = ap parts_weight c.cut-parts.ensures in let few = cut-weight c.args.base.now in let r = c.requires.texts in
    omega arith

pub push_names-upwards-requires-clause-room : goal.push_names-upwards-requires-clause-room
push_names-upwards-requires-clause-room c =
    let w = ap parts_weight c.cut-parts.ensures in let few = cut-weight c.args.base.now in let r = c.requires.starts in
    omega arith

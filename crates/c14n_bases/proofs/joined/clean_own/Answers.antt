use Rattle.std.proofs.Common.{ap, arith}
use Rattle.c14n_bases.specs.Code.Slices.{parts_weight}
use Rattle.c14n_bases.proofs.LengthLemmas.{cut-weight}
use Rattle.c14n_bases.proofs.joined.clean_own.Goals as goal

pub fill_value-requires : goal.fill_value-requires
fill_value-requires c =
    let w = ap parts_weight c.cut-own.ensures in let few = cut-weight c.args.value.now in let r = c.requires in
    omega arith

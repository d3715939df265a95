use Rattle.std.proofs.Common.{arith}
use Rattle.c14n_bases.proofs.join.relative.Goals as goal

pub returns-clause-value : goal.returns-clause-value
returns-clause-value c = rw (c.directory_of-absolute.ensures.below c.args.path.now c.requires.some c.requires.relative) c.below_directory.ensures.value

pub returns-clause-weight : goal.returns-clause-weight
returns-clause-weight c =
    let w = c.below_directory.ensures.weight in
    let d = c.directory_of-absolute.ensures.shorter in
    omega arith

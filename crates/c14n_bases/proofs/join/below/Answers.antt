use Rattle.std.proofs.Common.{◌≡◌, true, sym, ◌∙◌}
use Rattle.c14n_bases.specs.Join.{is_empty}
use Rattle.c14n_bases.proofs.JoinLemmas.{clean-base_path}
use Rattle.c14n_bases.proofs.join.below.Goals as goal

pub returns-then-is_empty-clause-value : goal.returns-then-is_empty-clause-value
returns-then-is_empty-clause-value c =
    let t : is_empty c.args.own.path.now ≡ true = sym c.is_empty.ensures ∙ c.if-is_empty.true in
    rw (t, clean-base_path c.args.base.path.now, ← c.first_some.ensures) c.whole.ensures.value

use Rattle.std.proofs.Common.{List, ℕ, ap, sym, ◌∙◌}
use Rattle.c14n_bases.specs.Join.{join}
use Rattle.c14n_bases.proofs.join.join_base.Goals as goal

pub returns : goal.returns
returns g c =
    let e =
    sym (c.join_values-value.ensures.value ∙ ap (λ (b : List ℕ). join b c.as_bytes-2.result.now) c.as_bytes.ensures.value ∙ ap (join c.args.base.now) c.as_bytes-2.ensures.value) in
    rw e c.put_value.ensures

use Rattle.std.proofs.Common.{◌++◌, List, ℕ, rules, sym, ap, ◌∙◌, append_assoc}
use Rattle.sig_base.specs.Prefixes as spec
use Rattle.sig_base.proofs.PrefixLaws.{names_of_one, names_more}
use Rattle.sig_base.proofs.prefixes.names_in.Goals as goal

pub loop-name-preserved : goal.loop-name-preserved
loop-name-preserved c =
    let later = spec.names_in c.in-Some.behind.now in (
      search rules,
      ap (λ (l : List (List ℕ)). l ++ later) c.in_ok-add_name.ensures
          ∙ append_assoc c.loop-name.names _ later
          ∙ ap (λ (l : List (List ℕ)). c.loop-name.names ++ l) (sym (names_more c.loop-name.rest.now c.in-Some.name.now c.in-Some.behind.now c.in-Some.ensures.0))
          ∙ c.loop-name.invariant.1,
    )

pub returns : goal.returns
returns c =
    c.in_ok-add_name-2.ensures
    ∙ ap (λ (l : List (List ℕ)). c.loop-name.names ++ l) (sym (names_of_one c.loop-name.rest.now c.in_default.ensures))
    ∙ c.loop-name.invariant.1

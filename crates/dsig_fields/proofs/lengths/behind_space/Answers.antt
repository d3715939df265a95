use Rattle.std.proofs.Common.{◌≡◌, true, false, sym, ◌∙◌}
use Rattle.sig_base.specs.Space.{is_space}
use Rattle.dsig_fields.proofs.LengthLaws.{space_passed, other_stands, none_stands}
use Rattle.dsig_fields.proofs.lengths.behind_space.Goals as goal

pub returns-then-not-is_space : goal.returns-then-not-is_space
returns-then-not-is_space c =
    let f : is_space c.in-Some.first.now ≡ false = cc in
    sym (other_stands _ _ _ c.in-Some.ensures.cases.0 f) ∙ c.loop-first.invariant

pub loop-first-preserved : goal.loop-first-preserved
loop-first-preserved c =
    let t : is_space c.in-Some.first.now ≡ true = cc in
    sym (space_passed _ _ _ c.in-Some.ensures.cases.0 t) ∙ c.loop-first.invariant

pub returns : goal.returns
returns c = sym (none_stands _ c.in_default.ensures.cases) ∙ c.loop-first.invariant

use Rattle.std.proofs.Common.{◌≡◌, true, false, reverse, sym, ap, ◌∙◌}
use Rattle.std.proofs.lemmas.List.{reverse-reverse, length-reverse}
use Rattle.sig_base.specs.Space.{is_space}
use Rattle.dsig_fields.proofs.LengthLaws.{last_first, space_passed, other_stands, none_stands}
use Rattle.dsig_fields.proofs.lengths.before_space.Goals as goal

pub returns-then-not-is_space : goal.returns-then-not-is_space
returns-then-not-is_space c =
    let f : is_space c.in-Some.last.now ≡ false = cc in
    sym (reverse-reverse _) ∙ ap reverse (sym (other_stands _ _ _ (last_first _ _ _ c.in-Some.ensures.cases.0) f) ∙ c.loop-last.invariant)

pub loop-last-preserved : goal.loop-last-preserved
loop-last-preserved c =
    let t : is_space c.in-Some.last.now ≡ true = cc in
    sym (space_passed _ _ _ (last_first _ _ _ c.in-Some.ensures.cases.0) t) ∙ c.loop-last.invariant

pub returns : goal.returns
returns c =
    sym (reverse-reverse _) ∙ ap reverse (sym (none_stands _ (length-reverse _ ∙ c.in_default.ensures.cases)) ∙ c.loop-last.invariant)

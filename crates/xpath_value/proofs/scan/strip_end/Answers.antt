use Rattle.std.proofs.Common.{◌≡◌, true, false, rules}
use Rattle.xpath_value.specs.Characters.{is_space}
use Rattle.xpath_value.proofs.Characters.{end_stands, end_goes_on, end_is_all}
use Rattle.xpath_value.proofs.scan.strip_end.Goals as goal

pub returns-then-not-is_space : goal.returns-then-not-is_space
returns-then-not-is_space c =
    let e : is_space c.in-Some.c ≡ false = cc in end_stands _ _ _ _ c.in-Some.ensures.some e c.loop-before.invariant.1

pub loop-before-preserved : goal.loop-before-preserved
loop-before-preserved c =
    let e : is_space c.in-Some.c ≡ true = cc in (search rules, end_goes_on _ _ _ _ c.in-Some.ensures.some e c.loop-before.invariant.1)

pub returns : goal.returns
returns c = end_is_all _ _ (search rules) c.loop-before.invariant.1

use Rattle.std.proofs.Common.{◌≡◌, true, false, rules}
use Rattle.xpath_value.specs.Characters.{is_space}
use Rattle.xpath_value.proofs.Characters.{start_stands, start_goes_on, start_is_all}
use Rattle.xpath_value.proofs.scan.strip_start.Goals as goal

pub returns-then-not-is_space : goal.returns-then-not-is_space
returns-then-not-is_space c =
    let e : is_space c.in-Some.c ≡ false = cc in start_stands _ _ _ _ c.in-Some.ensures.some e c.loop-c.invariant.1

pub loop-c-preserved : goal.loop-c-preserved
loop-c-preserved c =
    let e : is_space c.in-Some.c ≡ true = cc in (search rules, start_goes_on _ _ _ _ c.in-Some.ensures.some e c.loop-c.invariant.1)

pub returns : goal.returns
returns c = start_is_all _ _ (search rules) c.loop-c.invariant.1

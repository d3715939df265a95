use Rattle.std.proofs.Common.{rules, tests}
use Rattle.std.proofs.lemmas.Iterator.{YieldsList-from_slice}
use Rattle.std.proofs.lemmas.Iterator.Search.{position_from_yields_List}
use Rattle.sig_base.specs.Space.{is_space}
use Rattle.sig_base.proofs.PrefixLaws.{place_of_first}
use Rattle.sig_base.proofs.prefixes.first_space.Goals as goal

pub returns : goal.returns
returns c =
    place_of_first _ _ (position_from_yields_List is_space _ _ c.position.result c.position.ensures.ran (YieldsList-from_slice c.args.text.now cc) (λ x b q k. search (rules, tests)))

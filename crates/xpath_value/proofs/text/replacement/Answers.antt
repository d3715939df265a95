use Rattle.std.proofs.Common.{◌≡◌, ap, sym, ◌∙◌, rules}
use Rattle.std.specs.Prelude.{slice_get, position, ◌==◌}
use Rattle.std.specs.Str.{chars}
use Rattle.std.proofs.lemmas.Iterator.{YieldsList-from_chars}
use Rattle.std.proofs.lemmas.Iterator.Search.{position_from_yields_List}
use Rattle.std.proofs.lemmas.Iterator.Adapters.{option_map_id}
use Rattle.std.proofs.lemmas.Iterator.Consumers.{nth_from_yields_List}
use borrow.Author.Tests.{tests}
use Rattle.xpath_value.specs.Texts.{character_at}
use Rattle.xpath_value.proofs.text.replacement.Goals as goal

pub returns-in-Some : goal.returns-in-Some
returns-in-Some c =
    let p : c.position.result ≡ position (λ d. d == c.args.c) (chars c.args.characters.now) =
    position_from_yields_List (λ d. d == c.args.c) _ _ c.position.result c.position.ensures.ran (YieldsList-from_chars c.args.characters.now c.utf8.characters (cc)) (λ x b q k. search (rules, tests)) in
    let n : c.nth.result ≡ slice_get (chars c.args.others.now) c.in-Some.place =
    sym (option_map_id c.nth.result) ∙ nth_from_yields_List _ _ _ c.nth.ensures.ran (YieldsList-from_chars c.args.others.now c.utf8.others (cc)) in
    n ∙ ap (character_at c.args.c (chars c.args.others.now)) (sym c.in-Some.is ∙ p)

pub returns-in-None : goal.returns-in-None
returns-in-None c =
    let p : c.position.result ≡ position (λ d. d == c.args.c) (chars c.args.characters.now) =
    position_from_yields_List (λ d. d == c.args.c) _ _ c.position.result c.position.ensures.ran (YieldsList-from_chars c.args.characters.now c.utf8.characters (cc)) (λ x b q k. search (rules, tests)) in
    ap (character_at c.args.c (chars c.args.others.now)) (sym c.in-None.is ∙ p)

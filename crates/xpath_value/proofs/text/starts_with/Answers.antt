use Rattle.std.proofs.lemmas.Bool.Decides.{Decides-eqb}
use Rattle.std.proofs.lemmas.Slice.Eq.{starts_is}
use Rattle.std.proofs.lemmas.Str.Pattern.{starts_text}
use Rattle.xpath_value.proofs.Occurrences.{begins}
use Rattle.xpath_value.proofs.text.starts_with.Goals as goal

pub returns : goal.returns
returns c =
    let found = starts_is Decides-eqb c.args.text.now c.args.mark.now c.starts_with.result (starts_text c.starts_with.result c.args.mark.now c.args.text.now c.starts_with.ensures.cases) in
    begins c.args.text.now c.args.mark.now c.utf8.text c.utf8.mark c.starts_with.result found.0 found.1

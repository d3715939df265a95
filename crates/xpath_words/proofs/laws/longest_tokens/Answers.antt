use Rattle.xpath_words.proofs.TextLaws.{longest_tokens, one_cut}
use Rattle.xpath_words.proofs.laws.longest_tokens.Goals as goal

pub returns-clause-read : goal.returns-clause-read
returns-clause-read c = longest_tokens

pub returns-clause-one : goal.returns-clause-one
returns-clause-one c = one_cut

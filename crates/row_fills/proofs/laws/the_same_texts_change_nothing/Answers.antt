use Rattle.row_fills.specs.Fillings.{filled_in}
use Rattle.row_fills.proofs.Refilled.{all_refilled}
use Rattle.row_fills.proofs.laws.the_same_texts_change_nothing.Goals as goal

pub returns : goal.returns
returns c = λ octets rows first fs filled. all_refilled (filled_in octets rows fs) filled.others filled.number first fs filled.texts

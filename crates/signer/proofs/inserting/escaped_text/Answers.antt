use Rattle.std.proofs.Common.{◌∙◌, ℕ, List, [], ap, sym}
use Rattle.signer.proofs.inserting.escaped_text.Goals as goal

pub returns-in-Done : goal.returns-in-Done
returns-in-Done c = c.finish.ensures ∙ sym (c.in-Done.ensures.by.at [] (sym (ap (λ (s : List ℕ × ℕ). s.0) c.new-sink.ensures)))

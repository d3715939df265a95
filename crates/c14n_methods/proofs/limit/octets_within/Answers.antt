use Rattle.std.proofs.Common.{◌≡◌, ◌∙◌, sym, ap, ℕ, List, []}
use Rattle.c14n_methods.proofs.WithinLaws.{given_within}
use Rattle.c14n_methods.proofs.limit.octets_within.Goals as goal

pub returns-in-Ok : goal.returns-in-Ok
returns-in-Ok c =
    given_within c.in_ok-fits.field-0 c.finish.result _ c.in_ok-fits.ensures c.if-not-branch.false
    (c.finish.ensures ∙ sym (c.in-Ok.ensures.by.at [] (sym (ap (λ (s : List ℕ × ℕ). s.0) c.new-sink.ensures))))

use Rattle.std.proofs.Common.{Ok, ◌≡◌, ◌∙◌, ℕ, List, [], length, ap, sym, subst, ◌≤◌}
use Rattle.signer.proofs.views.view_of_reference.Goals as goal

pub returns-in-Ok-clause-shown : goal.returns-in-Ok-clause-shown
returns-in-Ok-clause-shown g c = λ files tells.
    let whole = (c.in-Ok.ensures.view files tells).by in
    let octets : c.finish.result ≡ whole.view = c.finish.ensures ∙ sym (whole.appended.at [] (sym (ap (λ (s : List ℕ × ℕ). s.0) c.new-sink.ensures))) in
    whole.is ∙ ap Ok (sym octets)

pub returns-in-Ok-clause-within : goal.returns-in-Ok-clause-within
returns-in-Ok-clause-within g c =
    let limited = c.in-Ok.ensures.sink.by in
    let octets : c.finish.result ≡ limited.view = c.finish.ensures ∙ sym (limited.appended.at [] (sym (ap (λ (s : List ℕ × ℕ). s.0) c.new-sink.ensures))) in
    subst (λ (t : List ℕ). length t ≤ 33554432) (sym octets) limited.within

use Rattle.std.proofs.Common.{arith, ◌*◌, append-nil, drop, sym, ap, ◌∙◌, ◌++◌, List, ℕ}
use Rattle.std.proofs.lemmas.List.{length-drop}
use Rattle.digests_hmac.proofs.DigitLaws.{octets-turn, octets-few}
use Rattle.digests_hmac.proofs.keys.octets_of_digits.Goals as goal

pub loop-i-preserved : goal.loop-i-preserved
loop-i-preserved c =
    rw c.in_ok-push.ensures.items
    (octets-turn c.loop-i.octets.items c.args.digits.now _ c.loop-i.i _ _ (omega arith) c.value_of.ensures.value c.value_of-in-loop-i.ensures.value c.loop-i.invariant)

pub returns : goal.returns
returns c =
    let size = length-drop (2 * c.loop-i.i) c.args.digits.now in
    let none = octets-few (drop (2 * c.loop-i.i) c.args.digits.now) (omega arith) in
    sym (append-nil c.loop-i.octets.items) ∙ ap (λ (t : List ℕ). c.loop-i.octets.items ++ t) (sym none) ∙ c.loop-i.invariant

use Rattle.std.proofs.Common.{◌≡◌, ◌==◌, ◌<◌, ℕ, arith, sym, eq-eqb, length, get_or, false}
use Rattle.std.proofs.lemmas.List.Sums.{position_or_len_is}
use Rattle.sig_base.proofs.lines.place_of.Goals as goal

pub returns-then-octet-wanted-clause-place : goal.returns-then-octet-wanted-clause-place
returns-then-octet-wanted-clause-place c =
    sym (position_or_len_is (λ (octet : ℕ). octet == c.args.wanted) c.args.octets.now c.loop-i.i 0 (omega arith) c.loop-i.invariant (λ _. eq-eqb _ c.args.wanted c.if-octet-wanted.true))

pub returns-clause-place : goal.returns-clause-place
returns-clause-place c =
    let all : (k : ℕ) → k < length c.args.octets.now → (get_or c.args.octets.now k 0 == c.args.wanted) ≡ false = λ k h. c.loop-i.invariant k (omega arith) in
    sym (position_or_len_is (λ (octet : ℕ). octet == c.args.wanted) c.args.octets.now (length c.args.octets.now) 0 (omega arith) all (λ h. absurd (omega arith)))

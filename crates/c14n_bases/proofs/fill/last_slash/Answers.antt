use Rattle.std.proofs.Common.{◌≡◌, ◌+◌, ◌-◌, ℕ, length, drop, ap, sym, ◌∙◌, arith}
use Rattle.std.specs.List.{list_any}
use Rattle.c14n_bases.specs.Join.{is_slash}
use Rattle.c14n_bases.proofs.KeptLemmas.{directory-none, last_here, none_more}
use Rattle.c14n_bases.proofs.fill.last_slash.Goals as goal

pub returns-then-text-i-eq47-clause-value : goal.returns-then-text-i-eq47-clause-value
returns-then-text-i-eq47-clause-value c =
    let text = c.args.text.now in let i = c.loop-i.i in let t = c.loop-i-test.true in let within = c.loop-i.invariant.within in
    let e : i - 1 + 1 ≡ i = omega arith in
    last_here text (i - 1) (omega arith) c.if-text-i-eq47.true (ap (λ (n : ℕ). list_any is_slash (drop n text)) e ∙ c.loop-i.invariant.none)

pub loop-i-preserved : goal.loop-i-preserved
loop-i-preserved c =
    let text = c.args.text.now in let i = c.loop-i.i in let t = c.loop-i-test.true in let within = c.loop-i.invariant.within in
    let e : i - 1 + 1 ≡ i = omega arith in
    record {
      within = omega arith;
      none = none_more text (i - 1) (omega arith) c.if-text-i-eq47.false (ap (λ (n : ℕ). list_any is_slash (drop n text)) e ∙ c.loop-i.invariant.none);
    }

pub returns-clause-value : goal.returns-clause-value
returns-clause-value c =
    let text = c.args.text.now in
    let e : c.loop-i.i ≡ 0 = let t = c.loop-i-test.false in omega arith in
    let none = ap (λ (n : ℕ). list_any is_slash (drop n text)) (sym e) ∙ c.loop-i.invariant.none in
    let d = ap (length {A = ℕ}) (directory-none text none) in
    omega arith

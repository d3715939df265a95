use Rattle.std.proofs.Common.{arith, refl, sym}
use Rattle.dsig_base64.proofs.Padding.{in_fours}
use Rattle.dsig_base64.proofs.Reading.{decoded-ok, decoded-err, none_if_no_encoding}
use Rattle.dsig_base64.proofs.decode_strict.Goals as goal

pub returns-then-text-ne0-clause-refused : goal.returns-then-text-ne0-clause-refused
returns-then-text-ne0-clause-refused c = (
  λ _.
      none_if_no_encoding c.args.text.now (λ i. let f = c.type_inv.text i in omega arith)
      (λ octets spells. c.if-text-ne0.true (rw (sym spells) at (in_fours octets))),
  λ _. refl,
)

pub returns-in-Ok-clause-decoded : goal.returns-in-Ok-clause-decoded
returns-in-Ok-clause-decoded c = (omega (arith, c.in-Ok.ensures.ok.2), decoded-ok c.args.text.now _ c.in-Ok.ensures.ok.0)

pub returns-in-Ok-clause-refused : goal.returns-in-Ok-clause-refused
returns-in-Ok-clause-refused c = (
  λ e. cc,
  λ none.
      let some = decoded-ok c.args.text.now _ c.in-Ok.ensures.ok.0 in cc (none, some),
)

pub returns-in-Err-clause-refused : goal.returns-in-Err-clause-refused
returns-in-Err-clause-refused c = (λ _. decoded-err c.args.text.now _ c.in-Err.ensures.err, λ _. refl)

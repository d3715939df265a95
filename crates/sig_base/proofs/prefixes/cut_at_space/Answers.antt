use Rattle.std.proofs.Common.{◌≡◌, ◌+◌, ◌-◌, length, ap, ◌∙◌, arith}
use Rattle.std.proofs.lemmas.List.{length-drop}
use Rattle.std.proofs.lemmas.Str.{IsCharBoundary-before_ascii, IsCharBoundary-after_ascii}
use Rattle.sig_base.proofs.PrefixLaws.{uncut, cut, ascii_at}
use Rattle.sig_base.proofs.prefixes.cut_at_space.Goals as goal

pub returns-in_err-at : goal.returns-in_err-at
returns-in_err-at c = rw c.from_residual.ensures (uncut c.args.text.now c.in_err-at.ensures)

pub range-requires-clause-end_boundary : goal.range-requires-clause-end_boundary
range-requires-clause-end_boundary c =
    let first = c.in_ok-at.ensures.0 in
    let within = c.in_ok-at.ensures.1 in
    IsCharBoundary-before_ascii c.args.text.now c.in_ok-at.at within (ascii_at c.args.text.now c.in_ok-at.at first within)

pub range_from-requires : goal.range_from-requires
range_from-requires c _ =
    let first = c.in_ok-at.ensures.0 in
    let within = c.in_ok-at.ensures.1 in
    IsCharBoundary-after_ascii c.args.text.now c.in_ok-at.at c.utf8.text within (ascii_at c.args.text.now c.in_ok-at.at first within)

pub returns : goal.returns
returns c =
    let first = c.in_ok-at.ensures.0 in
    let within = c.in_ok-at.ensures.1 in
    let whole : c.in_ok-at.at - 0 ≡ c.in_ok-at.at = omega arith in
    let shorter = ap length c.range_from.ensures.value ∙ length-drop (c.in_ok-at.at + 1) c.args.text.now in (
      rw (c.range.ensures.value, c.range_from.ensures.value, whole) (cut c.args.text.now c.in_ok-at.at first within),
      omega (arith, shorter, within),
    )

use Rattle.std.proofs.Common.{ℕ, drop, cond, sym, ap, ◌∙◌}
use Rattle.std.specs.Prelude.{codes}
use Rattle.c14n_bases.specs.Join.{from_first}
use Rattle.c14n_bases.proofs.SegmentLemmas.{behind_first}
use Rattle.c14n_bases.proofs.cut.cut_scheme.Goals as goal

pub returns-then-has_scheme-clause-behind : goal.returns-then-has_scheme-clause-behind
returns-then-has_scheme-clause-behind c =
    let text = c.args.text.now in
    behind_first c.first_of-at.result text
    ∙ ap (λ (n : ℕ). drop 1 (drop n text)) c.first_of-at.ensures.place
    ∙ sym (ap (λ b. cond b (drop 1 (from_first (codes ":/?#") text)) text) (sym c.has_scheme.ensures ∙ c.if-has_scheme.true))

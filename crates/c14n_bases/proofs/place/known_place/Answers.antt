use Rattle.std.proofs.Common.{◌≡◌, ℕ, List, sym, ◌∙◌, subst, drop, arith}
use Rattle.std.specs.Prelude.{is_some}
use Rattle.c14n_bases.specs.Join.{below, cut, join}
use Rattle.c14n_bases.specs.Code.Clean.{Fits}
use Rattle.c14n_bases.specs.Code.Placed.{value_at}
use Rattle.c14n_bases.proofs.SegmentLemmas.{rest_whole}
use Rattle.c14n_bases.proofs.UpwardsLemmas.{climbs-fits, climbs-none}
use Rattle.c14n_bases.proofs.place.known_place.Goals as goal

pub returns-then-start-gt0-clause-stands : goal.returns-then-start-gt0-clause-stands
returns-then-start-gt0-clause-stands c = λ (base own : List ℕ) (is : value_at c.args.start c.args.buffer.now ≡ join base own)
    (scheme : c.args.with_scheme ≡ is_some (below (cut base) (cut own)).scheme).
    record {
      starts = c.requires;
      fits = climbs-fits c.args.start.upwards (drop c.args.start.from c.args.buffer.now) base own c.if-start-gt0.true is;
      raw = λ e. cc;
    }

pub returns-else-start-gt0-clause-stands : goal.returns-else-start-gt0-clause-stands
returns-else-start-gt0-clause-stands c = λ (base own : List ℕ) (is : value_at c.args.start c.args.buffer.now ≡ join base own)
    (scheme : c.args.with_scheme ≡ is_some (below (cut base) (cut own)).scheme).
    let start = c.args.start in let text = c.args.buffer.now in
    let e = rest_whole start.from text ∙ sym (climbs-none start.upwards (drop start.from text) c.if-start-gt0.false) in
    record {
      starts = c.requires;
      fits = subst (Fits c.known_kind-kind.result) e (c.known_kind-kind.ensures base own (e ∙ is) scheme);
      raw = λ none. omega arith;
    }

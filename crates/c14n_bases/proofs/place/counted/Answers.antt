use Rattle.std.proofs.Common.{◌++◌, ◌+◌, ◌*◌, ℕ, List, drop, ap, sym, ◌∙◌}
use Rattle.std.proofs.lemmas.List.{drop-drop}
use Rattle.c14n_bases.specs.Code.Climbs.{climbs}
use Rattle.c14n_bases.proofs.SegmentLemmas.{rest_whole}
use Rattle.c14n_bases.proofs.UpwardsLemmas.{climbs-append}
use Rattle.c14n_bases.proofs.place.counted.Goals as goal

pub returns-in-Relative-clause-value : goal.returns-in-Relative-clause-value
returns-in-Relative-clause-value c =
    let text = c.args.buffer.now in let from = c.args.start.from in let upwards = c.args.start.upwards in
    let more = c.count_upwards-more.result in let start = c.start_near.ensures in
    ap (λ (n : ℕ). climbs n ++ drop c.start_near.result.from text) start.upwards
    ∙ ap (λ (n : ℕ). climbs (upwards + more) ++ drop n text) start.from
    ∙ climbs-append upwards more (drop (from + 3 * more) text)
    ∙ ap (λ (l : List ℕ). climbs upwards ++ (climbs more ++ l)) (sym (drop-drop (3 * more) from text))
    ∙ ap (λ (l : List ℕ). climbs upwards ++ (climbs more ++ drop (3 * more) l)) (sym (rest_whole from text))
    ∙ ap (λ (l : List ℕ). climbs upwards ++ l) (sym c.count_upwards-more.ensures.climbs ∙ rest_whole from text)

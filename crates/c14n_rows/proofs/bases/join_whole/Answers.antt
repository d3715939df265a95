use Rattle.std.proofs.Common.{ℕ, List, ◌∷◌, Some, None, ap, sym, ◌∙◌}
use Rattle.c14n_text.specs.Bases.{with_bases}
use Rattle.c14n_rows.proofs.ValueLemmas.{no_first, top_of_run}
use Rattle.c14n_rows.proofs.bases.join_whole.Goals as goal

pub returns-in-None-clause-joined : goal.returns-in-None-clause-joined
returns-in-None-clause-joined c =
    let rows = c.args.doc.now in
    let run = (top_of_run rows c.args.runs.now c.args.b c.requires.nearest).1 ∙ ap (λ (l : List ℕ). c.args.b ∷ l) (no_first _ c.in-None.ensures.nearest) in
    record {
      is = ap (λ (v : List ℕ). Some (c.args.b, v)) (c.set.ensures.value ∙ c.as_bytes.ensures.value ∙ c.value.ensures) ∙ ap (with_bases rows None) (sym run);
      settled = c.set.ensures.settled;
    }

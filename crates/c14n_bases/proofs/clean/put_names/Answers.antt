use Rattle.std.proofs.Common.{◌≡◌, ◌++◌, ◌||◌, ◌∷◌, [], Bool, List, ℕ, cond, ap, sym, ◌∙◌, append_assoc}
use Rattle.sig_base.proofs.PutsLemmas.{Appended-then, stopped}
use Rattle.c14n_bases.specs.Code.Slices.{octets_of, segments_left}
use Rattle.c14n_bases.specs.Code.Surplus.{names_kept, is_name_kept, is_any, led}
use Rattle.c14n_bases.proofs.LedLemmas.{names-more, any-more}
use Rattle.c14n_bases.proofs.clean.put_names.Goals as goal

further : (w : List ℕ) (behind : ℕ) (begun kept : Bool) (s all : List ℕ) (segs more : List (List ℕ)) → segs ≡ s ∷ more → kept ≡ is_name_kept behind s more
    → w ++ led begun (names_kept behind segs) ≡ all → (w ++ led begun (cond kept (s ∷ []) [])) ++ led (begun || kept) (names_kept behind more) ≡ all
further w behind begun kept s all segs more cut is joined =
    append_assoc w (led begun (cond kept (s ∷ []) [])) (led (begun || kept) (names_kept behind more))
    ∙ ap (λ (l : List ℕ). w ++ l) (sym (names-more behind begun kept s more is))
    ∙ ap (λ (l : List (List ℕ)). w ++ led begun (names_kept behind l)) (sym cut) ∙ joined

pub returns-in-Refused-clause-written : goal.returns-in-Refused-clause-written
returns-in-Refused-clause-written g c =
    let inv = c.loop-next.invariant in
    stopped _ _ _ _ inv.appended c.in-Refused.ensures.written.by
    (record { back = _; joined = further inv.written c.args.behind c.loop-next.begun c.is_name_kept-kept.result c.cut_segment.result.0.now _ _ (segments_left (octets_of c.cut_segment.result.1)) (ap (λ o. segments_left (octets_of o)) c.in-Some.is ∙ c.cut_segment.ensures.segments) c.is_name_kept-kept.ensures inv.joined })

pub loop-next-preserved : goal.loop-next-preserved
loop-next-preserved g c =
    let inv = c.loop-next.invariant in
    rw c.in_default-put_kept.ensures.begun (record {
      written = inv.written ++ led c.loop-next.begun (cond c.is_name_kept-kept.result (c.cut_segment.result.0.now ∷ []) []);
      appended = Appended-then _ _ _ inv.appended c.in_default-put_kept.ensures.written.by;
      joined = further inv.written c.args.behind c.loop-next.begun c.is_name_kept-kept.result c.cut_segment.result.0.now _ _ (segments_left (octets_of c.cut_segment.result.1)) (ap (λ o. segments_left (octets_of o)) c.in-Some.is ∙ c.cut_segment.ensures.segments) c.is_name_kept-kept.ensures inv.joined;
      begun = sym (any-more c.args.behind c.loop-next.begun c.is_name_kept-kept.result c.cut_segment.result.0.now (segments_left (octets_of c.cut_segment.result.1)) c.is_name_kept-kept.ensures)
          ∙ ap (λ (l : List (List ℕ)). c.loop-next.begun || is_any (names_kept c.args.behind l)) (sym (ap (λ o. segments_left (octets_of o)) c.in-Some.is ∙ c.cut_segment.ensures.segments)) ∙ inv.begun;
    })

use Rattle.std.proofs.Common.{not, ◌∙◌, ◌<◌, ◌+◌, List, length, map, drop, ap, sym, arith}
use Rattle.std.proofs.lemmas.Option.{slice_get_within}
use Rattle.sig_base.proofs.ListLemmas.{drop-at, drop_none}
use Rattle.std.specs.List.{find}
use Rattle.dsig_fields.specs.Fits.{ReferenceFits}
use Rattle.dsig_fields.specs.declared.fields.Reference.{Reference}
use Rattle.signer.specs.Outcome.{has_texts}
use Rattle.signer.proofs.PairLaws.{find_here, find_next}
use Rattle.signer.proofs.ViewLaws.{all_at}
use Rattle.signer.proofs.reading.digest_without_text.Goals as goal

pub has_texts-requires : goal.has_texts-requires
has_texts-requires c =
    (all_at (ReferenceFits c.args.doc.now) c.args.fields.now.references c.loop-reference.k c.in-Some.reference.now c.requires.references c.in-Some.ensures).digest_row.within

pub overflow_add-k : goal.overflow_add-k
overflow_add-k c =
    let within = slice_get_within c.args.fields.now.references c.loop-reference.k c.in-Some.reference.now (sym c.in-Some.ensures) in let few = c.requires.few in omega (arith, within, few)

pub loop-reference-smaller : goal.loop-reference-smaller
loop-reference-smaller c =
    let within = slice_get_within c.args.fields.now.references c.loop-reference.k c.in-Some.reference.now (sym c.in-Some.ensures) in omega (arith, within)

pub loop-reference-preserved : goal.loop-reference-preserved
loop-reference-preserved c =
    let all = c.args.fields.now.references in let k = c.loop-reference.k in let r = c.in-Some.reference.now in
    let within : k < length all = slice_get_within all k r (sym c.in-Some.ensures) in
    record {
      within = omega (arith, within);
      left = find_next (has_texts c.args.doc.now) (drop k all) (drop (k + 1) all) r (drop-at all k r c.in-Some.ensures) (sym c.has_texts.ensures ∙ c.if-not-has_texts.false) ∙ c.loop-reference.invariant.left;
    }

pub returns-then-not-has_texts : goal.returns-then-not-has_texts
returns-then-not-has_texts c =
    let all = c.args.fields.now.references in let k = c.loop-reference.k in let r = c.in-Some.reference.now in
    sym (find_here (has_texts c.args.doc.now) (drop k all) (drop (k + 1) all) r (drop-at all k r c.in-Some.ensures) (sym c.has_texts.ensures ∙ c.if-not-has_texts.true)) ∙ c.loop-reference.invariant.left

pub returns : goal.returns
returns c =
    sym (ap (λ (rs : List Reference). find (λ x. not (has_texts c.args.doc.now x)) (map (λ (r : Reference). r.digest_row) rs)) (drop_none c.args.fields.now.references c.loop-reference.k c.in_default.ensures))
    ∙ c.loop-reference.invariant.left

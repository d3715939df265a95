use Rattle.std.proofs.Common.{◌≡◌, ◌∙◌, ◌++◌, ◌∷◌, [], ◌+◌, ℕ, List, ap, sym, drop, map, arith}
use Rattle.digests_hmac.specs.Hash.{hash}
use Rattle.dsig_base64.specs.Loose.{base64_of}
use Rattle.dsig_fields.specs.Fits.{ReferenceFits}
use Rattle.row_fills.specs.Fillings.{spans_of}
use Rattle.row_spans.specs.Code.RowSpans.{span_of}
use Rattle.row_spans.specs.Seen.{seen_span}
use Rattle.signer.specs.Signed.{digest_fillings}
use Rattle.xml_doc.specs.Shape.{row_at}
use Rattle.signer.proofs.PairLaws.{next_fillings, span_added}
use Rattle.signer.proofs.ViewLaws.{all_at}
use Rattle.signer.proofs.filling.add_digests.Goals as goal

pub add_span-requires : goal.add_span-requires
add_span-requires c =
    (all_at (ReferenceFits c.args.doc.now) c.args.fields.now.references c.loop-reference.k c.in-Some.reference.now c.requires.references c.in-Some.ensures.found).digest_row.within

pub loop-reference-preserved : goal.loop-reference-preserved
loop-reference-preserved c =
    let rows = c.args.doc.now in let refs = c.args.fields.now.references in let views = c.args.views.now in let k = c.loop-reference.k in
    let r = c.in-Some.reference.now in let v = c.in-Some.view.now in let b = c.in-Some.ensures in
    let octets : c.bytes-in-Some.result.now ≡ hash r.digest v = c.bytes-in-Some.ensures.value ∙ c.digest-value.ensures.value ∙ ap (hash r.digest) c.bytes.ensures in
    record {
      within = let inside = b.within in omega (arith, inside);
      told = span_added (map seen_span c.loop-reference.spans.items) (map seen_span c.add_span.new.spans.items) (span_of (row_at rows r.digest_row) (base64_of (hash r.digest v)))
          (spans_of rows (digest_fillings (drop (k + 1) refs) (drop (k + 1) views)))
          (map seen_span c.args.spans.now.items ++ spans_of rows (digest_fillings refs views))
          (ap (λ t. map seen_span c.loop-reference.spans.items ++ t) (sym (next_fillings rows refs views k r v b)) ∙ c.loop-reference.invariant.told)
          (c.in_ok-add_span.ensures ∙ ap (λ (o : List ℕ). map seen_span c.loop-reference.spans.items ++ span_of (row_at rows r.digest_row) (base64_of o) ∷ []) octets);
    }

use Rattle.std.proofs.Common.{◌∙◌, ◌++◌, List, ap, sym, subst, map, length}
use Rattle.dsig_base64.specs.Loose.{base64_of}
use Rattle.row_fills.specs.Fillings.{filling, spans_of}
use Rattle.row_spans.specs.RowSpans.{InOrder, Span, written}
use Rattle.row_spans.specs.Seen.{seen_span}
use Rattle.signer.specs.Signed.{digest_fillings}
use Rattle.signer.proofs.PairLaws.{all_spans}
use Rattle.signer.proofs.filling.filled.Goals as goal

pub write_spans-requires : goal.write_spans-requires
write_spans-requires c =
    let rows = c.args.doc.now in let fields = c.args.fields.now in let value = c.args.value.now in let fs = digest_fillings fields.references c.args.views.now in
    let first = c.in_ok-add_digests.ensures ∙ ap (λ xs. map seen_span xs ++ spans_of rows fs) c.new-spans.ensures.items in
    let all = ap (map seen_span) c.deref.ensures.value
    ∙ all_spans rows fs (filling fields.value_row (base64_of value) value) (map seen_span c.add_digests.new.spans.items) (map seen_span c.add_span.new.spans.items) first c.in_ok-add_span.ensures in
    subst (λ (ss : List Span). InOrder 0 (length c.args.octets.now) ss) (sym all) c.requires.order

pub returns : goal.returns
returns c =
    let rows = c.args.doc.now in let fields = c.args.fields.now in let value = c.args.value.now in let fs = digest_fillings fields.references c.args.views.now in
    let first = c.in_ok-add_digests.ensures ∙ ap (λ xs. map seen_span xs ++ spans_of rows fs) c.new-spans.ensures.items in
    let all = ap (map seen_span) c.deref.ensures.value
    ∙ all_spans rows fs (filling fields.value_row (base64_of value) value) (map seen_span c.add_digests.new.spans.items) (map seen_span c.add_span.new.spans.items) first c.in_ok-add_span.ensures in
    c.from_vec.ensures ∙ c.in_ok-made.ensures ∙ ap (written c.args.octets.now) all

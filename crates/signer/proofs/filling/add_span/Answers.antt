use Rattle.std.proofs.Common.{◌∙◌, ap}
use Rattle.dsig_base64.specs.Loose.{base64_of}
use Rattle.xml_doc.specs.Rows.{RowOf}
use Rattle.xml_doc.specs.Shape.{row_at}
use Rattle.row_spans.specs.Code.RowSpans.{span_of}
use Rattle.signer.proofs.InsertLaws.{row_told, span_pushed}
use Rattle.signer.proofs.filling.add_span.Goals as goal

pub returns : goal.returns
returns c =
    let row = row_at c.args.doc.now c.args.row in
    span_pushed c.args.spans.now.items c.push.new.self.items c.in_ok-content_span.field-0 (span_of row (base64_of c.args.octets.now)) c.in_ok-push.ensures.items
    (c.in_ok-content_span.ensures
    ∙ ap (λ (r : RowOf). span_of r c.in_ok-text.text.items) (row_told c.args.doc.now c.args.row c.row.result c.unwrap-row.result c.unwrap-row.ensures c.row.ensures)
    ∙ ap (span_of row) c.in_ok-text.ensures)

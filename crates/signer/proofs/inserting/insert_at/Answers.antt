use Rattle.std.proofs.Common.{◌∙◌, ◌≤◌, ◌∷◌, [], ℕ, Vec, Global, length, ap, sym, subst}
use Rattle.xml_doc.specs.Rows.{RowOf}
use Rattle.xml_doc.specs.Shape.{row_at}
use Rattle.xml_read.proofs.SpelledLaws.{spells_of}
use Rattle.row_spans.specs.RowSpans.{Span, written}
use Rattle.row_spans.proofs.Within.{within_at}
use Rattle.signer.specs.Template.{insertion}
use Rattle.signer.proofs.InsertLaws.{insertion_within, ok_by, row_told}
use Rattle.signer.proofs.inserting.insert_at.Goals as goal

pub with_span-requires-clause-from : goal.with_span-requires-clause-from
with_span-requires-clause-from c =
    let octets = c.args.bytes.now in let rows = c.args.doc.now in let e = c.args.element in let text = c.args.text.items in
    let is = c.in_ok-span.ensures ∙ ap (λ (r : RowOf). insertion r text) (row_told rows e c.row.result c.unwrap-row.result c.unwrap-row.ensures c.row.ensures) in
    let within = within_at octets rows e (spells_of octets rows c.requires.read) c.requires.element in
    subst (λ (s : Span). s.from ≤ length octets) (sym is) (insertion_within (row_at rows e) text (length octets) within.0 within.1).0

pub with_span-requires-clause-until : goal.with_span-requires-clause-until
with_span-requires-clause-until c =
    let octets = c.args.bytes.now in let rows = c.args.doc.now in let e = c.args.element in let text = c.args.text.items in
    let is = c.in_ok-span.ensures ∙ ap (λ (r : RowOf). insertion r text) (row_told rows e c.row.result c.unwrap-row.result c.unwrap-row.ensures c.row.ensures) in
    let within = within_at octets rows e (spells_of octets rows c.requires.read) c.requires.element in
    subst (λ (s : Span). s.until ≤ length octets) (sym is) (insertion_within (row_at rows e) text (length octets) within.0 within.1).1

pub returns : goal.returns
returns c =
    let octets = c.args.bytes.now in let rows = c.args.doc.now in let e = c.args.element in let text = c.args.text.items in
    let is = c.in_ok-span.ensures ∙ ap (λ (r : RowOf). insertion r text) (row_told rows e c.row.result c.unwrap-row.result c.unwrap-row.ensures c.row.ensures) in
    ok_by (λ (o : Vec ℕ Global). o.items) c.with_span.result _ (written octets (insertion (row_at rows e) text ∷ [])) c.with_span.ensures
    (ap (λ (s : Span). written octets (s ∷ [])) is)

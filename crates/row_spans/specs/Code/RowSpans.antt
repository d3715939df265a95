use Rattle.std.specs.Prelude.{ℕ, List}
use Rattle.xml_doc.specs.Rows.{RowOf}
use Rattle.xml_spans.specs.Spans.{content_with}
use Rattle.row_spans.specs.RowSpans.{written_name, Span}

-- the content of an element, and this text there; an empty-element tag becomes a start tag, the text, and an end tag
abbrev pub span_of : RowOf → List ℕ → Span
span_of r w = record { from = r.body_from; until = r.body_until; new = content_with r.empty_tag (written_name r) w }

-- What the words of `canon` come to over the files that a folder holds: a canonical form.
use Rattle.std.specs.Prelude.{ℕ, Bool, List, [], length, map, nat_le, nat_lt, if◌then◌else◌, encode_utf8_all, Option, Some, None, Result, Ok, Err}
use Rattle.sig_base.specs.Outcomes.{and_then, with_cause}
use Rattle.sig_base.specs.declared.method.CanonMethod.{CanonMethod}
use Rattle.sig_outside.specs.Told.{Held}
use Rattle.xml_doc.specs.Ids.{answer_of, bearers}
use Rattle.xml_doc.specs.Rows.{RowOf}
use Rattle.xml_doc.specs.Top.{document_element}
use Rattle.xml_doc.specs.declared.ids.IdAnswer.{IdAnswer}
use Rattle.xml_doc.specs.declared.ids.IdAnswer.TheVariants as bearer
use Rattle.node_sets.specs.Members.{in_subtree}
use Rattle.c14n_methods.specs.Limits.{octet_limit}
use Rattle.c14n_methods.specs.Methods.{canonical_form}
use Rattle.xml_read.specs.ReadOutcome.{read_outcome}
use Rattle.xpath_words.specs.Prefixes.{Pair}
use Rattle.xpath_syntax.specs.Outcome.{parse_outcome}
use Rattle.xpath_syntax.specs.declared.expr.Expr.{Expr}
use Rattle.xpath_eval.specs.Context.{is_in}
use Rattle.xpath_eval.specs.Value.{each_true}
use Rattle.transforms.specs.Expressions.{prefixes_in_scope}
use Rattle.xmldsig.specs.Files as file
use Rattle.xmldsig.specs.declared.ending.Refusal.{Refusal}
use Rattle.xmldsig.specs.declared.ending.Refusal.TheVariants as refusal

abbrev pub within_limit : List ℕ → Result (List ℕ) Refusal
within_limit octets = if nat_le (length octets) octet_limit then Ok octets else Err refusal.OctetsTooLong

-- the element that bears the ID, if just one does
abbrev pub the_bearer : IdAnswer → Result ℕ Refusal
the_bearer (bearer.One e) = Ok e
the_bearer bearer.None = Err refusal.NoSuchId
the_bearer (bearer.Several first second) = Err (refusal.AmbiguousId first second)

abbrev pub subtree_rows : List RowOf → (id : List ℕ) → Result (ℕ → Bool) Refusal
subtree_rows rows id = and_then (the_bearer (answer_of (bearers rows (encode_utf8_all id)))) (λ e. Ok (in_subtree rows e))

-- the prefixes that an expression may use: those in scope of the document element
abbrev pub prefixes_of : List RowOf → Option ℕ → List Pair
prefixes_of rows None = []
prefixes_of rows (Some e) = prefixes_in_scope rows e

abbrev pub document_prefixes : List RowOf → List Pair
document_prefixes rows = prefixes_of rows (document_element rows)

abbrev pub all_rows : List RowOf → ℕ → Bool
all_rows rows k = nat_lt k (length rows)

-- the rows at which an expression is true: XML Signature 1.1, section 6.6.3. It stands in no document, so `here()` has no node
abbrev pub expression_of : List RowOf → (xpath : List ℕ) → Result Expr Refusal
expression_of rows xpath = with_cause refusal.Syntax (parse_outcome (encode_utf8_all xpath) (document_prefixes rows))

abbrev pub evaluated_rows : List RowOf → Expr → Result (ℕ → Bool) Refusal
evaluated_rows rows e = and_then (with_cause refusal.Eval (each_true e rows (all_rows rows) None)) (λ ys. Ok (is_in ys))

abbrev pub true_rows : List RowOf → (xpath : List ℕ) → Result (ℕ → Bool) Refusal
true_rows rows xpath = and_then (expression_of rows xpath) (evaluated_rows rows)

-- the rows that are written: the subtree of the element that bears the ID, those at which the expression is true, or all
abbrev pub selected_rows : List RowOf → (id xpath : Option (List ℕ)) → Result (ℕ → Bool) Refusal
selected_rows rows (Some id) xpath = subtree_rows rows id
selected_rows rows None (Some xpath) = true_rows rows xpath
selected_rows rows None None = Ok (all_rows rows)

-- the form of rows, of a document, and of a file
abbrev pub rows_outcome : CanonMethod → (id xpath : Option (List ℕ)) → List (List ℕ) → List RowOf → Result (List ℕ) Refusal
rows_outcome method id xpath prefixes rows =
    and_then (selected_rows rows id xpath) (λ set. within_limit (canonical_form method (map encode_utf8_all prefixes) rows set))

abbrev pub document_outcome : CanonMethod → (id xpath : Option (List ℕ)) → List (List ℕ) → List ℕ → Result (List ℕ) Refusal
document_outcome method id xpath prefixes bytes =
    and_then (with_cause refusal.Read (read_outcome bytes)) (rows_outcome method id xpath prefixes)

abbrev pub form_outcome : (doc : List ℕ) → CanonMethod → (id xpath : Option (List ℕ)) → List (List ℕ) → Held → Result (List ℕ) Refusal
form_outcome doc method id xpath prefixes files =
    and_then (file.document_outcome doc files) (document_outcome method id xpath prefixes)

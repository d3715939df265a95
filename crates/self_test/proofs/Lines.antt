-- The line of a self-test.
use Rattle.std.proofs.Common.{◌≡◌, ◌∙◌, ap, sym, ℕ, List, length, map, sum, Result, Ok}
use Rattle.sig_base.specs.Outcomes.{and_then, with_cause}
use Rattle.sig_outside.specs.Told.{no_files}
use Rattle.dsig_fields.specs.Keys.{QuestionOf}
use Rattle.transforms.specs.declared.outcome.Report.{Report}
use Rattle.transforms.specs.declared.outcome.Report.TheVariants as report
use Rattle.xml_doc.specs.Rows.{RowOf}
use Rattle.core_validate.specs.Reached.{Reached}
use Rattle.signer.specs.Laws.{IsValid}
use Rattle.self_test.specs.Code.Causes.{HasFewOctets}
use Rattle.self_test.specs.Outcome.{IsLine, line_of, rows_validated, told}
use Rattle.self_test.specs.Question.{question}
use Rattle.self_test.specs.declared.refusal.TestRefusal.{TestRefusal}
use Rattle.self_test.specs.declared.refusal.TestRefusal.TheVariants as refusal

-- the views of a valid report are within their limit
pub few_octets : (rows : List RowOf) (asked : QuestionOf) (reported : Report) → Reached rows asked (Ok reported) → HasFewOctets reported
few_octets rows asked (report.Valid views) reached = reached.report.together
few_octets rows asked report.SignatureDiffers reached = tt
few_octets rows asked (report.ShortTruncation bits) reached = tt
few_octets rows asked (report.DigestsDiffer numbers) reached = tt

same_line : (a b : List ℕ) → let one : Result (List ℕ) TestRefusal = Ok a in one ≡ Ok b → a ≡ b
same_line a b e = cc

-- what is signed is valid, and has a line
pub valid_has_line : (paragraphs : ℕ) (template made text : List ℕ) → IsValid template question no_files made
    → told paragraphs made ≡ Ok text → IsLine paragraphs text
valid_has_line paragraphs template made text valid is =
    let rows = ap (λ r. and_then (with_cause refusal.Read r) rows_validated) valid.read in
    let report = rows ∙ ap (with_cause refusal.Validate) valid.valid in
    let line = ap (λ r. and_then r (λ reported. Ok (line_of paragraphs made reported))) report in
    (sum (map length valid.views), length made, same_line _ _ (sym is ∙ line))

-- What a self-test comes to: its document is signed (XML Signature 1.1, section 3.1), and what is signed is validated (section 3.2).
use Rattle.std.specs.Prelude.{◌≡◌, ℕ, List, [], ◌++◌, length, sum, codes, decimal, Result, Ok, Err}
use Rattle.sig_base.specs.Outcomes as outcomes
use Rattle.sig_base.specs.Outcomes.{and_then, with_cause}
use Rattle.sig_outside.specs.Told.{no_files}
use Rattle.xml_doc.specs.Rows.{RowOf}
use Rattle.xml_read.specs.ReadOutcome.{read_outcome}
use Rattle.transforms.specs.Outcome as validation
use Rattle.transforms.specs.declared.outcome.Report.{Report}
use Rattle.transforms.specs.declared.outcome.Report.TheVariants as report
use Rattle.signer.specs.Outcome as signing
use Rattle.self_test.specs.Document.{document, reference_count}
use Rattle.self_test.specs.Question.{question}
use Rattle.self_test.specs.declared.refusal.TestRefusal.{TestRefusal}
use Rattle.self_test.specs.declared.refusal.TestRefusal.TheVariants as refusal

-- the line of a document that is valid: how many paragraphs and References it has, and how many octets the views and the document
abbrev pub line : (paragraphs octets bytes : ℕ) → List ℕ
line paragraphs octets bytes = codes "selftest " ++ decimal paragraphs ++ codes " references " ++ decimal (reference_count paragraphs)
    ++ codes " octets " ++ decimal octets ++ codes " bytes " ++ decimal bytes ++ codes " valid\n"

-- only what is valid has a line
abbrev pub line_of : (paragraphs : ℕ) → (made : List ℕ) → Report → List ℕ
line_of paragraphs made (report.Valid views) = line paragraphs (sum views.lengths) (length made)
line_of paragraphs made other = []

abbrev pub signed : List ℕ → Result (List ℕ) TestRefusal
signed template = with_cause refusal.Sign (signing.outcome template question no_files)

abbrev pub rows_validated : List RowOf → Result Report TestRefusal
rows_validated rows = with_cause refusal.Validate (validation.outcome rows question no_files)

abbrev pub validated : (made : List ℕ) → Result Report TestRefusal
validated made = and_then (with_cause refusal.Read (read_outcome made)) rows_validated

-- the line, or the first refusal
abbrev pub told : (paragraphs : ℕ) → (made : List ℕ) → Result (List ℕ) TestRefusal
told paragraphs made = and_then (validated made) (λ reported. Ok (line_of paragraphs made reported))

abbrev pub test_outcome : (paragraphs : ℕ) → Result (List ℕ) TestRefusal
test_outcome paragraphs = and_then (signed (document paragraphs)) (told paragraphs)

-- a refusal is that of the outcome; want of memory may come at any time
abbrev pub Refuses : {A : Type 0} → TestRefusal → Result A TestRefusal → Type 0
Refuses refusal.Memory outcome = Unit {0}
Refuses cause outcome = outcome ≡ Err cause

abbrev pub Gives : {T A : Type 0} → (T → A) → Result T TestRefusal → Result A TestRefusal → Type 0
Gives view result outcome = outcomes.Gives Refuses view result outcome

-- the line of such a self-test, for some numbers of octets
abbrev pub IsLine : (paragraphs : ℕ) → List ℕ → Type 0
IsLine paragraphs told = (octets : ℕ) × (bytes : ℕ) × (told ≡ line paragraphs octets bytes)

-- The definitions, computed on a document that was worked by hand: <r><a>x</a><s/></r>, where <s/> stands for the Signature that contains
-- the References.
use Rattle.std.proofs.Common.{◌≡◌, refl, ℕ, true, false, List, [], ◌∷◌, Some, None, Result, Ok, Err}
use Rattle.std.specs.Prelude.{codes}
use Rattle.sig_base.specs.declared.method.DigestMethod.TheVariants.{Sha256}
use Rattle.sig_outside.specs.Told.{no_files}
use Rattle.xml_doc.specs.declared.row.Kind.{Kind}
use Rattle.xml_doc.specs.declared.row.Kind.TheVariants.{Root, Element, Namespace, Text}
use Rattle.xml_doc.specs.Rows.{RowOf}
use Rattle.dsig_fields.specs.Verdicts as verdicts
use Rattle.dsig_fields.specs.declared.fields.Reference.{Reference}
use Rattle.dsig_fields.specs.declared.fields.Step.TheVariants as step
use Rattle.uri_refs.specs.Targets.{target_of}
use Rattle.uri_refs.specs.declared.target.Place.{Place}
use Rattle.transforms.specs.Outcome.{Sources, next_view, report_by, views_behind, views_of}
use Rattle.transforms.specs.Start.{start}
use Rattle.transforms.specs.Steps.{nodes_step, step_value}
use Rattle.transforms.specs.Views.{view_from, view_of}
use Rattle.transforms.specs.declared.outcome.Report.TheVariants as report
use Rattle.transforms.specs.declared.refusal.RefRefusal.TheVariants.{OctetsTooLong}
use Rattle.core_validate.specs.Progress.{sources_of}
use Rattle.core_validate.specs.Verdict.{report_of}

abbrev row : Kind → ℕ → ℕ → (local value : List ℕ) → RowOf
row kind parent last local value =
    record { kind = kind; parent = parent; last = last; prefix_text = []; local_name = local; uri = []; value = value; tag_from = 0; body_from = 0; body_until = 0; empty_tag = false }

abbrev xml_row : (parent own : ℕ) → RowOf
xml_row parent own = row Namespace parent own (codes "xml") (codes "http://www.w3.org/XML/1998/namespace")

abbrev rows : List RowOf
rows =
    row Root 0 7 [] []
    ∷ row Element 0 7 (codes "r") []
    ∷ xml_row 1 2
    ∷ row Element 1 5 (codes "a") []
    ∷ xml_row 3 4
    ∷ row Text 3 5 [] (codes "x")
    ∷ row Element 1 7 (codes "s") []
    ∷ xml_row 6 7
    ∷ []

-- a Reference to the whole document, without the Signature or with it
abbrev whole : Reference
whole = record { row = 6; uri = []; manifest = false; steps = []; digest = Sha256; digest_row = 6; expected = [] }

abbrev enveloped : Reference
enveloped = record { row = 6; uri = []; manifest = false; steps = step.Enveloped ∷ []; digest = Sha256; digest_row = 6; expected = [] }

module _ (place : Place) where
  abbrev sources : Sources
  sources = sources_of rows 6 place no_files

  -- the views in order; and none where those before it have all octets that there may be
  views : (views_of sources (whole ∷ enveloped ∷ []) ≡ Ok (codes "<r><a>x</a><s></s></r>" ∷ codes "<r><a>x</a></r>" ∷ []))
      × (next_view sources 536870897 enveloped ≡ Ok (codes "<r><a>x</a></r>")) × (next_view sources 536870898 enveloped ≡ Err (OctetsTooLong 2))
  unfolding views_behind next_view view_of target_of start view_from step_value nodes_step
  views = (refl, refl, refl)

-- views that aren't kept are told by their lengths
reports : (report_by false (codes "ab" ∷ [] ∷ []) [] ≡ report.Valid (record { lengths = 2 ∷ 0 ∷ []; octets = [] }))
    × (report_by true (codes "ab" ∷ [] ∷ []) [] ≡ report.Valid (record { lengths = 2 ∷ 0 ∷ []; octets = codes "ab" ∷ [] ∷ [] }))
    × (report_by true (codes "ab" ∷ [] ∷ []) (2 ∷ []) ≡ report.DigestsDiffer (2 ∷ []))
reports = (refl, refl, refl)

-- a verdict is told with its views, or without
verdicts_told : (report_of false (verdicts.Valid (codes "ab" ∷ [] ∷ [])) ≡ report.Valid (record { lengths = 2 ∷ 0 ∷ []; octets = [] }))
    × (report_of true (verdicts.Valid (codes "ab" ∷ [] ∷ [])) ≡ report.Valid (record { lengths = 2 ∷ 0 ∷ []; octets = codes "ab" ∷ [] ∷ [] }))
    × (report_of true (verdicts.ShortTruncation 40) ≡ report.ShortTruncation 40)
verdicts_told = (refl, refl, refl)

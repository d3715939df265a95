-- The definitions, computed on a document that was worked by hand: <r><a Id="x">QU<!--c-->JD</a><s/></r>, where <s/> stands for the
-- Signature that contains the Reference.
use Rattle.std.proofs.Common.{◌≡◌, refl, ℕ, List, [], ◌∷◌, Bool, Some, None, Result, Ok, Err}
use Rattle.std.specs.Prelude.{codes, true, false}
use Rattle.sig_base.specs.declared.method.CanonMethod.TheVariants.{C10Comments, Exc}
use Rattle.sig_outside.specs.Told.{no_files}
use Rattle.xml_doc.specs.declared.row.Kind.{Kind}
use Rattle.xml_doc.specs.declared.row.Kind.TheVariants.{Root, Element, Namespace, Attribute, Text, Comment}
use Rattle.xml_doc.specs.Rows.{RowOf}
use Rattle.dsig_fields.specs.declared.fields.Step.{Step}
use Rattle.dsig_fields.specs.declared.fields.Step.TheVariants as step
use Rattle.uri_refs.specs.declared.target.Target.{Target}
use Rattle.uri_refs.specs.declared.target.Target.TheVariants as target
use Rattle.sig_base.specs.Outcomes.{and_then}
use Rattle.transforms.specs.Start.{in_element, own_set, start}
use Rattle.transforms.specs.Steps.{all_nodes, nodes_step, step_value, text_of_set}
use Rattle.transforms.specs.Values.{OfNodes, origin_of}
use Rattle.transforms.specs.Views.{view_from}
use Rattle.transforms.specs.declared.refusal.RefRefusal.{RefRefusal}
use Rattle.transforms.specs.declared.refusal.RefRefusal.TheVariants.{EnvelopedElsewhere}

abbrev row : Kind → ℕ → ℕ → (local value : List ℕ) → RowOf
row kind parent last local value = record { kind = kind; parent = parent; last = last; prefix_text = []; local_name = local; uri = []; value = value; tag_from = 0; body_from = 0; body_until = 0; empty_tag = false }

abbrev xml_row : (parent own : ℕ) → RowOf
xml_row parent own = row Namespace parent own (codes "xml") (codes "http://www.w3.org/XML/1998/namespace")

abbrev rows : List RowOf
rows =
    row Root 0 10 [] []
    ∷ row Element 0 10 (codes "r") []
    ∷ xml_row 1 2
    ∷ row Element 1 8 (codes "a") []
    ∷ xml_row 3 4
    ∷ row Attribute 3 5 (codes "Id") (codes "x")
    ∷ row Text 3 6 [] (codes "QU")
    ∷ row Comment 3 7 [] (codes "c")
    ∷ row Text 3 8 [] (codes "JD")
    ∷ row Element 1 10 (codes "s") []
    ∷ xml_row 9 10
    ∷ []

-- the view that steps make of the document, and of its element a
abbrev whole : (comments : Bool) → List Step → Result (List ℕ) RefRefusal
whole comments steps =
    and_then (start rows no_files (target.Whole comments)) (view_from (origin_of rows (Some 9)) 1 steps)

abbrev element : (comments : Bool) → List Step → Result (List ℕ) RefRefusal
element comments steps = view_from (origin_of rows (Some 9)) 1 steps (own_set rows (in_element comments rows 3))

pub targets :
    (whole false [] ≡ Ok (codes "<r><a Id=\"x\">QUJD</a><s></s></r>")) × (whole true [] ≡ Ok (codes "<r><a Id=\"x\">QUJD</a><s></s></r>"))
    × (whole true (step.Canon C10Comments [] ∷ []) ≡ Ok (codes "<r><a Id=\"x\">QU<!--c-->JD</a><s></s></r>"))
    × (element false [] ≡ Ok (codes "<a Id=\"x\">QUJD</a>"))
    × (element true (step.Canon C10Comments [] ∷ []) ≡ Ok (codes "<a Id=\"x\">QU<!--c-->JD</a>"))
unfolding start view_from step_value nodes_step
targets = (refl, refl, refl, refl, refl)

-- what base64 decodes of the element: the characters of its text nodes
pub characters : text_of_set rows (in_element false rows 3) ≡ codes "QUJD"
unfolding text_of_set
characters = refl

pub steps :
    (element false (step.Canon Exc [] ∷ []) ≡ Ok (codes "<a Id=\"x\">QUJD</a>"))
    × (whole false (step.Enveloped ∷ []) ≡ Ok (codes "<r><a Id=\"x\">QUJD</a></r>"))
    × (view_from (origin_of rows (Some 9)) 1 (step.Enveloped ∷ []) (OfNodes (all_nodes rows)) ≡ Err (EnvelopedElsewhere 1))
    × (view_from (origin_of rows None) 1 (step.Enveloped ∷ []) (OfNodes (all_nodes rows)) ≡ Err (EnvelopedElsewhere 1))
unfolding start view_from step_value nodes_step
steps = (refl, refl, refl, refl)

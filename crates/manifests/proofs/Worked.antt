-- The definitions, computed on rows that were worked by hand. A Signature stands in another one, and holds a Manifest without entries, an
-- Object, and two elements that bear one ID.
use Rattle.std.proofs.Common.{◌≡◌, refl, ℕ, Bool, true, false, List, [], ◌∷◌, Some, None, Ok, Err}
use Rattle.std.specs.Prelude.{codes, Option}
use Rattle.sig_base.specs.declared.method.CanonMethod.TheVariants.{C10}
use Rattle.sig_base.specs.declared.method.DigestMethod.TheVariants.{Sha256}
use Rattle.sig_outside.specs.Told.{Held}
use Rattle.xml_doc.specs.Ids.{answer_of, bearers}
use Rattle.xml_doc.specs.Rows.{RowOf}
use Rattle.xml_doc.specs.declared.row.Kind.{Kind}
use Rattle.xml_doc.specs.declared.row.Kind.TheVariants.{Root, Element, Attribute}
use Rattle.uri_refs.specs.Targets.{target_of}
use Rattle.uri_refs.specs.declared.target.Place.{Place}
use Rattle.dsig_fields.specs.Holds.{digest_holds}
use Rattle.dsig_fields.specs.Names.{signature_namespace}
use Rattle.dsig_fields.specs.Reading.{one_or_more, passed, required}
use Rattle.dsig_fields.specs.declared.fields.Reference.{Reference}
use Rattle.dsig_fields.specs.declared.fields.Step.{Step}
use Rattle.dsig_fields.specs.declared.fields.Step.TheVariants as step
use Rattle.dsig_fields.specs.declared.names.ElementName.TheVariants as element
use Rattle.dsig_fields.specs.declared.refusal.FieldRefusal.TheVariants.{Missing}
use Rattle.transforms.specs.Values.{origin_of}
use Rattle.transforms.specs.Views.{view_of}
use Rattle.transforms.specs.declared.refusal.RefRefusal.TheVariants.{NoSuchId}
use Rattle.manifests.specs.Elements.{manifest_in, signature_above}
use Rattle.dsig_fields.specs.Manifests.{manifest_of}
use Rattle.manifests.specs.Findings.{finding, findings, found_of_entries, found_of_manifest, found_of_reference}
use Rattle.manifests.specs.Manifests.{entry_lines, line, lines_of_findings}
use Rattle.manifests.specs.declared.findings.Found.TheVariants.{OneLine, Entries}
use Rattle.manifests.specs.declared.lines.ManifestKind.TheVariants.{Same, Differs, Refused, ManifestTransforms, NotManifest, Fields, TooMany}

abbrev row : Kind → (parent last : ℕ) → (local uri value : List ℕ) → RowOf
row kind parent last local uri value = record { kind = kind; parent = parent; last = last; prefix_text = []; local_name = local; uri = uri; value = value; tag_from = 0; body_from = 0; body_until = 0; empty_tag = false }

abbrev inner : (parent last : ℕ) → (local : List ℕ) → RowOf
inner parent last local = row Element parent last local signature_namespace []

abbrev id : (parent own : ℕ) → (value : List ℕ) → RowOf
id parent own value = row Attribute parent own (codes "Id") [] value

abbrev rows : List RowOf
rows =
    row Root 0 10 [] [] []
    ∷ inner 0 10 (codes "Signature")
    ∷ inner 1 10 (codes "Signature")
    ∷ inner 2 4 (codes "Manifest")
    ∷ id 3 4 (codes "m")
    ∷ inner 2 6 (codes "Object")
    ∷ id 5 6 (codes "o")
    ∷ inner 2 8 (codes "Manifest")
    ∷ id 7 8 (codes "d")
    ∷ inner 2 10 (codes "Manifest")
    ∷ id 9 10 (codes "d")
    ∷ []

-- the nearest one, and only one above
above : (signature_above rows 3 ≡ Some 2) × (signature_above rows 2 ≡ Some 1) × (signature_above rows 1 ≡ None)
above = (refl, refl, refl)

abbrev bearing : List ℕ → Option ℕ
bearing name = manifest_in rows (answer_of (bearers rows name))

found : (bearing (codes "m") ≡ Some 3) × (bearing (codes "o") ≡ None) × (bearing (codes "d") ≡ None) × (bearing (codes "n") ≡ None)
found = (refl, refl, refl, refl)

unread : found_of_manifest rows 3 0 ≡ OneLine (Fields (Missing element.Reference))
unfolding manifest_of one_or_more required passed
unread = refl

abbrev referring : (manifest : Bool) → (uri : List ℕ) → List Step → Reference
referring manifest uri steps = record { row = 1; uri = uri; manifest = manifest; steps = steps; digest = Sha256; digest_row = 1; expected = [] }

-- as many entries as there may be, and one more
limits : (entry : Reference) → (found_of_entries rows 3 1023 (entry ∷ []) ≡ Entries (Some 2) (entry ∷ []))
    × (found_of_entries rows 3 1024 (entry ∷ []) ≡ OneLine TooMany)
limits entry = (refl, refl)

module _ (place : Place) where
  -- References of all kinds; the one whose Type says nothing has no line, and its number
  numbered : findings rows place 1 0 (referring true [] [] ∷ referring false [] [] ∷ referring true [] (step.Canon C10 [] ∷ step.Enveloped ∷ []) ∷ [])
      ≡ finding 1 (OneLine NotManifest) ∷ finding 3 (OneLine ManifestTransforms) ∷ []
  unfolding findings found_of_reference target_of
  numbered = refl

-- the lines of three entries behind a Manifest that can't be read
module _ (place : Place) (files : Held) (one two three : Reference) (a b : List ℕ)
    (first : view_of (origin_of rows (Some 2)) place files one ≡ Ok a) (same : digest_holds one.digest a one.expected ≡ true)
    (second : view_of (origin_of rows (Some 2)) place files two ≡ Ok b) (differs : digest_holds two.digest b two.expected ≡ false)
    (third : view_of (origin_of rows (Some 2)) place files three ≡ Err NoSuchId) where
  lines : lines_of_findings rows place files (finding 2 (OneLine NotManifest) ∷ finding 3 (Entries (Some 2) (one ∷ two ∷ three ∷ [])) ∷ [])
      ≡ line 2 0 NotManifest ∷ line 3 1 Same ∷ line 3 2 Differs ∷ line 3 3 (Refused NoSuchId) ∷ []
  unfolding entry_lines
  lines = rw (first, same, second, differs, third) refl

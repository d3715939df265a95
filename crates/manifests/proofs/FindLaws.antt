-- What is found, Reference by Reference.
use Rattle.std.proofs.Common.{◌≡◌, ◌∙◌, ℕ, ◌+◌, Bool, true, false, List, [], ◌∷◌, ◌++◌, length, drop, Some, None, refl, ap, sym, append_assoc, append-nil}
use Rattle.std.specs.Prelude.{slice_get, if◌then◌else◌}
use Rattle.sig_base.proofs.ListLemmas.{drop-at, drop_none}
use Rattle.xml_doc.specs.Rows.{RowOf}
use Rattle.uri_refs.specs.declared.target.Place.{Place}
use Rattle.dsig_fields.specs.declared.fields.Reference.{Reference}
use Rattle.manifests.specs.Code.Findings.{with_found, with_reference}
use Rattle.manifests.specs.Findings.{entries_in, finding, findings, found_of_reference}
use Rattle.manifests.specs.declared.findings.Finding.{Finding}
use Rattle.manifests.specs.declared.findings.Found.{Found}
use Rattle.manifests.specs.declared.findings.Search.{Search}

module _ (rows : List RowOf) (place : Place) (references : List Reference) where
  -- what is found, and what is still to be found
  abbrev pub left_findings : Search → ℕ → List Finding
  left_findings s k = s.findings ++ findings rows place (k + 1) s.count (drop k references)

  one_more : (s : Search) (number : ℕ) (r : Reference) (rest : List Reference)
      → (with_reference rows place number r s).findings ++ findings rows place (number + 1) (with_reference rows place number r s).count rest
      ≡ s.findings ++ findings rows place number s.count (r ∷ rest)
  unfolding findings
  one_more s number r rest = go r.manifest
    where
      found : Found
      found = found_of_reference rows place s.count r

      go : (b : Bool)
          → (if b then with_found number found s else s).findings ++ findings rows place (number + 1) (if b then with_found number found s else s).count rest
          ≡ s.findings ++ (if b then finding number found ∷ findings rows place (number + 1) (s.count + length (entries_in found)) rest else findings rows place (number + 1) s.count rest)
      go true = append_assoc s.findings (finding number found ∷ []) (findings rows place (number + 1) (s.count + length (entries_in found)) rest)
      go false = refl

  pub finding_goes : (s new : Search) (k : ℕ) (r : Reference) → Some r ≡ slice_get references k → new ≡ with_reference rows place (k + 1) r s
      → left_findings new (k + 1) ≡ left_findings s k
  finding_goes s new k r at is =
      ap (λ (n : Search). left_findings n (k + 1)) is
      ∙ one_more s (k + 1) r (drop (k + 1) references)
      ∙ ap (λ (t : List Reference). s.findings ++ findings rows place (k + 1) s.count t) (sym (drop-at references k r at))

  pub finding_ends : (s : Search) (k : ℕ) → None ≡ slice_get references k → left_findings s k ≡ s.findings
  unfolding findings
  finding_ends s k at =
      ap (λ (t : List Reference). s.findings ++ findings rows place (k + 1) s.count t) (drop_none references k at) ∙ append-nil s.findings

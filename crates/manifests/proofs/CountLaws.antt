-- How many lines are of entries.
use Rattle.std.proofs.Common.{◌≡◌, ◌∙◌, ℕ, suc, ◌+◌, ◌≤◌, Bool, true, false, List, [], ◌∷◌, Option, Some, None, Result, Ok, Err, length, refl, ap, arith}
use Rattle.std.specs.Prelude.{nat_le, nat_lt, if◌then◌else◌}
use Rattle.std.specs.List.{filter, flat_map, list_all}
use Rattle.std.proofs.lemmas.Bool.{leb-true, lt-ltb}
use Rattle.std.proofs.lemmas.List.{length-append}
use Rattle.std.proofs.lemmas.List.Elements.{filter-append}
use Rattle.sig_outside.specs.Told.{Held}
use Rattle.xml_doc.specs.Rows.{RowOf}
use Rattle.uri_refs.specs.declared.target.Place.{Place}
use Rattle.dsig_fields.specs.declared.fields.Reference.{Reference}
use Rattle.dsig_fields.specs.declared.refusal.FieldRefusal.{FieldRefusal}
use Rattle.transforms.specs.Values.{Origin, origin_of}
use Rattle.transforms.specs.Views.{target_in}
use Rattle.manifests.specs.Elements.{manifest_row, signature_above}
use Rattle.dsig_fields.specs.Manifests.{manifest_of}
use Rattle.manifests.specs.Findings.{entries_in, entry_limit, finding, findings, found_of_read, found_of_reference, found_of_target, is_canonicalization}
use Rattle.manifests.specs.Laws.{FewEntries, entry_count, is_of_entry}
use Rattle.manifests.specs.Manifests.{entry_lines, lines_of_finding, lines_of_found, manifest_lines}
use Rattle.manifests.specs.declared.findings.Finding.{Finding}
use Rattle.manifests.specs.declared.findings.Found.{Found}
use Rattle.manifests.specs.declared.findings.Found.TheVariants.{OneLine, Entries}
use Rattle.manifests.specs.declared.lines.ManifestKind.TheVariants.{ManifestTransforms, TooMany}
use Rattle.manifests.specs.declared.lines.ManifestLine.{ManifestLine}

-- the entries that are to be checked
abbrev pub total : List Finding → ℕ
total [] = 0
total (f ∷ fs) = length (entries_in f.found) + total fs

-- ---- each of them has a line, and no other line is of an entry
entries_counted : (origin : Origin) (place : Place) (files : Held) (reference first : ℕ) (entries : List Reference)
    → entry_count (entry_lines origin place files reference (first + 1) entries) ≡ length entries
unfolding entry_lines
entries_counted origin place files reference first [] = refl
entries_counted origin place files reference first (e ∷ more) =
    let here : nat_lt 0 (first + 1) ≡ true = lt-ltb 0 (first + 1) (omega arith) in
    rw here (ap suc (entries_counted origin place files reference (first + 1) more))

found_counted : (rows : List RowOf) (place : Place) (files : Held) (number : ℕ) (found : Found)
    → entry_count (lines_of_found rows place files number found) ≡ length (entries_in found)
found_counted rows place files number (OneLine kind) = refl
found_counted rows place files number (Entries signature entries) = entries_counted (origin_of rows signature) place files number 0 entries

pub all_counted : (rows : List RowOf) (place : Place) (files : Held) (fs : List Finding) → entry_count (flat_map (lines_of_finding rows place files) fs) ≡ total fs
all_counted rows place files [] = refl
all_counted rows place files (f ∷ more) =
    let first = filter is_of_entry (lines_of_finding rows place files f) in
    let rest = filter is_of_entry (flat_map (lines_of_finding rows place files) more) in
    ap (λ (t : List ManifestLine). length t) (filter-append is_of_entry (lines_of_finding rows place files f) (flat_map (lines_of_finding rows place files) more))
    ∙ length-append first rest
    ∙ ap (λ (n : ℕ). n + length rest) (found_counted rows place files f.reference f.found)
    ∙ ap (λ (n : ℕ). length (entries_in f.found) + n) (all_counted rows place files more)

-- ---- within the limit
module _ (rows : List RowOf) (place : Place) (count : ℕ) (few : count ≤ entry_limit) where
  limited : (x : ℕ) (entries : List Reference) (b : Bool) → nat_le (count + length entries) entry_limit ≡ b
      → count + length (entries_in (if b then Entries (signature_above rows x) entries else OneLine TooMany)) ≤ entry_limit
  limited x entries true e = leb-true (count + length entries) entry_limit e
  limited x entries false e = omega (arith, few)

  limited_read : (x : ℕ) (r : Result (List Reference) FieldRefusal) → count + length (entries_in (found_of_read rows x count r)) ≤ entry_limit
  limited_read x (Ok entries) = limited x entries (nat_le (count + length entries) entry_limit) refl
  limited_read x (Err cause) = omega (arith, few)

  limited_target : (o : Option ℕ) → count + length (entries_in (found_of_target rows count o)) ≤ entry_limit
  limited_target None = omega (arith, few)
  limited_target (Some x) = limited_read x (manifest_of rows x)

  limited_reference : (r : Reference) → count + length (entries_in (found_of_reference rows place count r)) ≤ entry_limit
  unfolding found_of_reference
  limited_reference r = go (list_all is_canonicalization r.steps)
    where
      go : (b : Bool)
          → count + length (entries_in (if b then found_of_target rows count (manifest_row rows (target_in place r)) else OneLine ManifestTransforms)) ≤ entry_limit
      go true = limited_target (manifest_row rows (target_in place r))
      go false = omega (arith, few)

few_found : (rows : List RowOf) (place : Place) (first count : ℕ) (references : List Reference) → count ≤ entry_limit → count + total (findings rows place first count references) ≤ entry_limit
unfolding findings
few_found rows place first count [] few = omega (arith, few)
few_found rows place first count (r ∷ more) few =
    go r.manifest (few_found rows place (first + 1) (count + length (entries_in (found_of_reference rows place count r))) more (limited_reference rows place count few r))
    (few_found rows place (first + 1) count more few)
  where
    found : Found
    found = found_of_reference rows place count r

    go : (b : Bool)
        → (count + length (entries_in found)) + total (findings rows place (first + 1) (count + length (entries_in found)) more) ≤ entry_limit
        → count + total (findings rows place (first + 1) count more) ≤ entry_limit
        → count + total (if b then finding first found ∷ findings rows place (first + 1) (count + length (entries_in found)) more else findings rows place (first + 1) count more) ≤ entry_limit
    go true a b = omega (arith, a)
    go false a b = b

pub few_entries : FewEntries
unfolding manifest_lines
few_entries rows fields place files =
    let fs = findings rows place 1 0 fields.references in
    let counted = all_counted rows place files fs in
    let within = few_found rows place 1 0 fields.references (omega arith) in
    omega (arith, counted, within)

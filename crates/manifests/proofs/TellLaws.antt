-- Each line is true.
use Rattle.std.proofs.Common.{◌≡◌, inl, inr, ℕ, suc, ◌+◌, Bool, true, false, List, [], ◌∷◌, Option, Some, None, Result, Ok, Err, length, refl, sym, subst, arith, ◌≤◌}
use Rattle.std.specs.Prelude.{nat_le, if◌then◌else◌}
use Rattle.std.specs.List.{All, flat_map, list_all}
use Rattle.std.proofs.lemmas.Bool.{leb-false}
use Rattle.std.proofs.lemmas.List.Elements.{All-append, All-cons, All-head, All-nil, All-tail, All-weaker}
use Rattle.sig_outside.specs.Told.{Held}
use Rattle.xml_doc.specs.Rows.{RowOf}
use Rattle.uri_refs.specs.declared.target.Place.{Place}
use Rattle.dsig_fields.specs.Holds.{digest_holds}
use Rattle.dsig_fields.specs.declared.fields.Fields.{Fields}
use Rattle.dsig_fields.specs.declared.fields.Reference.{Reference}
use Rattle.dsig_fields.specs.declared.refusal.FieldRefusal.{FieldRefusal}
use Rattle.transforms.specs.Values.{Origin, origin_of}
use Rattle.transforms.specs.Views.{target_in, view_of}
use Rattle.transforms.specs.declared.refusal.RefRefusal.{RefRefusal}
use Rattle.manifests.specs.Elements.{manifest_row, signature_above}
use Rattle.dsig_fields.specs.Manifests.{manifest_of}
use Rattle.manifests.specs.Findings.{entries_in, entry_limit, finding, findings, found_of_read, found_of_reference, found_of_target, is_canonicalization}
use Rattle.manifests.specs.Laws.{entry_count, Covers, EntryTells, HasNumber, LineTells, LinesTell, ManifestTells}
use Rattle.manifests.specs.Manifests.{entry_lines, kind_of, line, lines_of_finding, lines_of_found, manifest_lines}
use Rattle.manifests.specs.declared.findings.Finding.{Finding}
use Rattle.manifests.specs.declared.findings.Found.{Found}
use Rattle.manifests.specs.declared.findings.Found.TheVariants.{OneLine, Entries}
use Rattle.manifests.specs.declared.lines.ManifestKind.TheVariants.{Same, Differs, ManifestTransforms, TooMany}
use Rattle.manifests.specs.declared.lines.ManifestLine.{ManifestLine}
use Rattle.manifests.proofs.CountLaws.{all_counted, total}

-- ---- numbers
first_numbered : {X : Type 0} (x : X) (more : List X) (first : ℕ) → HasNumber (x ∷ more) first first x
first_numbered x more first = record { at = 0; is = omega arith; stands = refl }

later_numbered : {X : Type 0} (y : X) (more : List X) (first number : ℕ) (x : X) → HasNumber more (first + 1) number x → HasNumber (y ∷ more) first number x
later_numbered y more first number x h = record { at = suc h.at; is = omega (arith, h.is); stands = h.stands }

-- ---- what is found
pub record HasEntries (rows : List RowOf) (place : Place) (reference : Reference) (above : Option ℕ) (entries : List Reference) : Type 0 where
  pub manifest : ℕ
  pub covers : Covers rows place reference manifest
  pub read : manifest_of rows manifest ≡ Ok entries
  pub signature : above ≡ signature_above rows manifest

abbrev pub FoundTells : List RowOf → Place → (whole : ℕ) → Reference → Found → Type 0
FoundTells rows place whole reference (OneLine kind) = ManifestTells rows place whole reference kind
FoundTells rows place whole reference (Entries signature entries) = HasEntries rows place reference signature entries

module _ (rows : List RowOf) (place : Place) (count whole : ℕ) (within : count ≤ whole) (reference : Reference) where
  abbrev pub Tells : Found → Type 0
  Tells = FoundTells rows place whole reference

  entries_tell : (x : ℕ) (entries : List Reference) → Covers rows place reference x → manifest_of rows x ≡ Ok entries → (b : Bool) → nat_le (count + length entries) entry_limit ≡ b
      → Tells (if b then Entries (signature_above rows x) entries else OneLine TooMany)
  entries_tell x entries covers read true e = record { manifest = x; covers = covers; read = read; signature = refl }
  entries_tell x entries covers read false e =
      let more = leb-false (count + length entries) entry_limit e in (x, covers, entries, read, omega (arith, more, within))

  read_tells : (x : ℕ) → Covers rows place reference x → (r : Result (List Reference) FieldRefusal) → manifest_of rows x ≡ r → Tells (found_of_read rows x count r)
  read_tells x covers (Ok entries) e = entries_tell x entries covers e (nat_le (count + length entries) entry_limit) refl
  read_tells x covers (Err cause) e = (x, covers, e)

  target_tells : list_all is_canonicalization reference.steps ≡ true → (o : Option ℕ) → manifest_row rows (target_in place reference) ≡ o → Tells (found_of_target rows count o)
  target_tells canonicalizes None e = (canonicalizes, e)
  target_tells canonicalizes (Some x) e = read_tells x (record { canonicalizes = canonicalizes; leads = e }) (manifest_of rows x) refl

  pub found_tells : Tells (found_of_reference rows place count reference)
  unfolding found_of_reference
  found_tells = go (list_all is_canonicalization reference.steps) refl
    where
      go : (b : Bool) → list_all is_canonicalization reference.steps ≡ b
          → Tells (if b then found_of_target rows count (manifest_row rows (target_in place reference)) else OneLine ManifestTransforms)
      go true e = target_tells e (manifest_row rows (target_in place reference)) refl
      go false e = e

record FindingTells (rows : List RowOf) (place : Place) (whole : ℕ) (references : List Reference) (first : ℕ) (f : Finding) : Type 0 where
  reference : Reference
  numbered : HasNumber references first f.reference reference
  typed : reference.manifest ≡ true
  tells : FoundTells rows place whole reference f.found

finding_later : (rows : List RowOf) (place : Place) (whole : ℕ) (r : Reference) (more : List Reference) (first : ℕ) (f : Finding) → FindingTells rows place whole more (first + 1) f → FindingTells rows place whole (r ∷ more) first f
finding_later rows place whole r more first f h = record {
  reference = h.reference;
  numbered = later_numbered r more first f.reference h.reference h.numbered;
  typed = h.typed;
  tells = h.tells;
}

findings_tell : (rows : List RowOf) (place : Place) (whole first count : ℕ) (references : List Reference)
    → count + total (findings rows place first count references) ≤ whole
    → All (FindingTells rows place whole references first) (findings rows place first count references)
unfolding findings
findings_tell rows place whole first count [] within = All-nil (FindingTells rows place whole [] first)
findings_tell rows place whole first count (r ∷ more) within = go r.manifest refl within (λ n h. findings_tell rows place whole (first + 1) n more h)
  where
    found : Found
    found = found_of_reference rows place count r

    P : Finding → Type 0
    P = FindingTells rows place whole (r ∷ more) first

    Q : Finding → Type 0
    Q = FindingTells rows place whole more (first + 1)

    rest : (n : ℕ) → All Q (findings rows place (first + 1) n more) → All P (findings rows place (first + 1) n more)
    rest n all = All-weaker Q P (finding_later rows place whole r more first) (findings rows place (first + 1) n more) all

    go : (b : Bool) → r.manifest ≡ b
        → count + total (if b then finding first found ∷ findings rows place (first + 1) (count + length (entries_in found)) more else findings rows place (first + 1) count more) ≤ whole
        → ((n : ℕ) → n + total (findings rows place (first + 1) n more) ≤ whole → All Q (findings rows place (first + 1) n more))
        → All P (if b then finding first found ∷ findings rows place (first + 1) (count + length (entries_in found)) more else findings rows place (first + 1) count more)
    go true e h all =
        let n = count + length (entries_in found) in
        All-cons P (finding first found) _
        (record { reference = r; numbered = first_numbered r more first; typed = e; tells = found_tells rows place count whole (omega (arith, h)) r })
        (rest n (all n (omega (arith, h))))
    go false e h all = rest count (all count h)

-- ---- the lines of entries
kind_tells : (entry : Reference) (outcome : Result (List ℕ) RefRefusal) → EntryTells entry outcome (kind_of entry outcome)
kind_tells entry (Err cause) = refl
kind_tells entry (Ok view) = go (digest_holds entry.digest view entry.expected) refl
  where
    go : (b : Bool) → digest_holds entry.digest view entry.expected ≡ b → EntryTells entry (Ok view) (if b then Same else Differs)
    go true e = (view, refl, e)
    go false e = (view, refl, e)

record OfEntries (origin : Origin) (place : Place) (files : Held) (entries : List Reference) (reference first : ℕ) (l : ManifestLine) : Type 0 where
  entry : Reference
  numbered : HasNumber entries first l.entry entry
  number_is : l.reference ≡ reference
  tells : EntryTells entry (view_of origin place files entry) l.kind

entry_later : (origin : Origin) (place : Place) (files : Held) (e : Reference) (more : List Reference) (reference first : ℕ) (l : ManifestLine) → OfEntries origin place files more reference (first + 1) l → OfEntries origin place files (e ∷ more) reference first l
entry_later origin place files e more reference first l h = record {
  entry = h.entry;
  numbered = later_numbered e more first l.entry h.entry h.numbered;
  number_is = h.number_is;
  tells = h.tells;
}

entry_lines_tell : (origin : Origin) (place : Place) (files : Held) (reference first : ℕ) (entries : List Reference) → All (OfEntries origin place files entries reference first) (entry_lines origin place files reference first entries)
unfolding entry_lines
entry_lines_tell origin place files reference first [] = All-nil (OfEntries origin place files [] reference first)
entry_lines_tell origin place files reference first (e ∷ more) =
    let P : ManifestLine → Type 0 = OfEntries origin place files (e ∷ more) reference first in
    All-cons P (line reference first (kind_of e (view_of origin place files e))) _
    (record { entry = e; numbered = first_numbered e more first; number_is = refl; tells = kind_tells e (view_of origin place files e) })
    (All-weaker (OfEntries origin place files more reference (first + 1)) P (entry_later origin place files e more reference first) _ (entry_lines_tell origin place files reference (first + 1) more))

-- ---- all lines
module _ (rows : List RowOf) (fields : Fields) (place : Place) (files : Held) where
  abbrev whole : ℕ
  whole = entry_count (manifest_lines rows fields place files)

  found_lines_tell : (number : ℕ) (r : Reference) → HasNumber fields.references 1 number r → r.manifest ≡ true → (found : Found) → FoundTells rows place whole r found
      → All (LineTells rows fields place files) (lines_of_found rows place files number found)
  found_lines_tell number r numbered typed (OneLine kind) tells =
      let P : ManifestLine → Type 0 = LineTells rows fields place files in
      All-cons P (line number 0 kind) [] (record { reference = r; numbered = numbered; typed = typed; tells = inl (refl, tells) }) (All-nil P)
  found_lines_tell number r numbered typed (Entries signature entries) tells =
      let P : ManifestLine → Type 0 = LineTells rows fields place files in
      let origin = origin_of rows signature in
      All-weaker (OfEntries origin place files entries number 1) P (λ l h. record {
        reference = r;
        numbered = let N : ℕ → Type 0 = λ n. HasNumber fields.references 1 n r in subst N (sym h.number_is) numbered;
        typed = typed;
        tells = inr (record {
          manifest = tells.manifest;
          covers = tells.covers;
          entries = entries;
          read = tells.read;
          entry = h.entry;
          numbered = h.numbered;
          tells = let T : Option ℕ → Type 0 = λ s. EntryTells h.entry (view_of (origin_of rows s) place files h.entry) l.kind in subst T tells.signature h.tells;
        });
      }) _ (entry_lines_tell origin place files number 1 entries)

  all_tell : (fs : List Finding) → All (FindingTells rows place whole fields.references 1) fs → All (LineTells rows fields place files) (flat_map (lines_of_finding rows place files) fs)
  all_tell [] all = All-nil (LineTells rows fields place files)
  all_tell (f ∷ more) all =
      let Q : Finding → Type 0 = FindingTells rows place whole fields.references 1 in
      let h = All-head Q f more all in
      All-append (LineTells rows fields place files) (lines_of_finding rows place files f) (flat_map (lines_of_finding rows place files) more)
      (found_lines_tell f.reference h.reference h.numbered h.typed f.found h.tells)
      (all_tell more (All-tail Q f more all))

pub lines_tell : LinesTell
unfolding manifest_lines
lines_tell rows fields place files =
    let fs = findings rows place 1 0 fields.references in
    let counted = all_counted rows place files fs in
    all_tell rows fields place files fs (findings_tell rows place (whole rows fields place files) 1 0 fields.references (omega (arith, counted)))

-- No line is missing.
use Rattle.std.proofs.Common.{◌≡◌, ◌⊎◌, inl, inr, ℕ, zero, suc, ◌+◌, Bool, true, false, List, [], ◌∷◌, Some, length, refl, sym, subst, arith}
use Rattle.std.specs.Prelude.{slice_get, if◌then◌else◌}
use Rattle.std.specs.List.{Contains, flat_map}
use Rattle.std.proofs.lemmas.List.Elements.{Contains-append_left, Contains-append_right}
use Rattle.sig_outside.specs.Told.{Held}
use Rattle.xml_doc.specs.Rows.{RowOf}
use Rattle.uri_refs.specs.declared.target.Place.{Place}
use Rattle.dsig_fields.specs.declared.fields.Reference.{Reference}
use Rattle.transforms.specs.Values.{Origin, origin_of}
use Rattle.transforms.specs.Views.{view_of}
use Rattle.manifests.specs.Findings.{entries_in, finding, findings, found_of_reference}
use Rattle.manifests.specs.Laws.{AllAnswered, HasEachLine, HasLine}
use Rattle.manifests.specs.Manifests.{entry_lines, kind_of, line, lines_of_finding, manifest_lines}
use Rattle.manifests.specs.declared.findings.Finding.{Finding}
use Rattle.manifests.specs.declared.findings.Found.{Found}
use Rattle.manifests.specs.declared.findings.Found.TheVariants.{OneLine, Entries}
use Rattle.manifests.specs.declared.lines.ManifestLine.{ManifestLine}
use Rattle.manifests.proofs.TellLaws.{FoundTells, found_tells}

-- ---- members
contains_first : {X : Type 0} (x : X) (xs : List X) → Contains (x ∷ xs) x
contains_first x xs = (0, omega arith, refl)

contains_later : {X : Type 0} (y : X) (xs : List X) (x : X) → Contains xs x → Contains (y ∷ xs) x
contains_later y xs x c = Contains-append_right (y ∷ []) xs x c

flat_contains : {X Y : Type 0} (f : X → List Y) (xs : List X) (x : X) (y : Y) → Contains xs x → Contains (f x) y → Contains (flat_map f xs) y
flat_contains f [] x y (k, within, is) c = absurd (omega (arith, within))
flat_contains {X} {Y} f (z ∷ zs) x y (zero, within, is) c =
    let P : X → Type 0 = λ w. Contains (f w) y in
    Contains-append_left (f z) (flat_map f zs) y (subst P (sym is) c)
flat_contains f (z ∷ zs) x y (suc k, within, is) c =
    Contains-append_right (f z) (flat_map f zs) y (flat_contains f zs x y (k, omega (arith, within), is) c)

-- ---- what is found
module _ (rows : List RowOf) (place : Place) (number : ℕ) (r : Reference) where
  record IsFound (fs : List Finding) : Type 0 where
    found : Found
    whole : ℕ
    tells : FoundTells rows place whole r found
    there : Contains fs (finding number found)

  found_later : (f : Finding) (fs : List Finding) → IsFound fs → IsFound (f ∷ fs)
  found_later f fs h = record { found = h.found; whole = h.whole; tells = h.tells; there = contains_later f fs (finding number h.found) h.there }

  found_behind : (first count : ℕ) (y : Reference) (more : List Reference) → ((n : ℕ) → IsFound (findings rows place (first + 1) n more)) → IsFound (findings rows place first count (y ∷ more))
  unfolding findings
  found_behind first count y more all = go y.manifest
    where
      f : Found
      f = found_of_reference rows place count y

      go : (b : Bool)
          → IsFound (if b then finding first f ∷ findings rows place (first + 1) (count + length (entries_in f)) more else findings rows place (first + 1) count more)
      go true = found_later (finding first f) _ (all (count + length (entries_in f)))
      go false = all count

  found_here : (first count : ℕ) (more : List Reference) → number ≡ first → r.manifest ≡ true → IsFound (findings rows place first count (r ∷ more))
  unfolding findings
  found_here first count more is typed =
      let f = found_of_reference rows place count r in
      let fs = findings rows place (first + 1) (count + length (entries_in f)) more in
      let P : Bool → Type 0 = λ b. IsFound (if b then finding first f ∷ fs else findings rows place (first + 1) count more) in
      let Q : ℕ → Type 0 = λ n. Contains (finding first f ∷ fs) (finding n f) in
      subst P (sym typed) (record { found = f; whole = count; tells = found_tells rows place count count (omega arith) r; there = subst Q (sym is) (contains_first (finding first f) fs) })

  is_found : (first count : ℕ) (references : List Reference) (at : ℕ) → number ≡ first + at → slice_get references at ≡ Some r → r.manifest ≡ true → IsFound (findings rows place first count references)
  is_found first count [] at is stands typed = absurd cc
  is_found first count (y ∷ more) zero is stands typed =
      let same : r ≡ y = cc in
      let P : Reference → Type 0 = λ z. IsFound (findings rows place first count (z ∷ more)) in
      subst P same (found_here first count more (omega (arith, is)) typed)
  is_found first count (y ∷ more) (suc at) is stands typed =
      found_behind first count y more (λ n. is_found (first + 1) n more at (omega (arith, is)) stands typed)

-- ---- the lines of entries
entry_line : (origin : Origin) (place : Place) (files : Held) (reference first : ℕ) (entries : List Reference) (number at : ℕ) (entry : Reference)
    → number ≡ first + at → slice_get entries at ≡ Some entry
    → HasLine (entry_lines origin place files reference first entries) reference number
unfolding entry_lines
entry_line origin place files reference first [] number at entry is stands = absurd cc
entry_line origin place files reference first (y ∷ more) number zero entry is stands =
    let same : number ≡ first = omega (arith, is) in
    let kind = kind_of y (view_of origin place files y) in
    (kind, rw same (contains_first (line reference first kind) (entry_lines origin place files reference (first + 1) more)))
entry_line origin place files reference first (y ∷ more) number (suc at) entry is stands =
    let h = entry_line origin place files reference (first + 1) more number at entry (omega (arith, is)) stands in
    (h.0, contains_later (line reference first (kind_of y (view_of origin place files y))) (entry_lines origin place files reference (first + 1) more) (line reference number h.0) h.1)

-- ---- all lines
module _ (rows : List RowOf) (place : Place) (files : Held) (number : ℕ) (r : Reference) (fs : List Finding) where
  abbrev lines : List ManifestLine
  lines = flat_map (lines_of_finding rows place files) fs

  answered : (found : Found) (whole : ℕ) → FoundTells rows place whole r found → Contains fs (finding number found) → HasLine lines number 0 ⊎ HasEachLine rows place r number lines
  answered (OneLine kind) whole tells there =
      inl (kind, flat_contains (lines_of_finding rows place files) fs (finding number (OneLine kind)) (line number 0 kind) there (contains_first (line number 0 kind) []))
  answered (Entries signature entries) whole tells there =
      inr (record {
        manifest = tells.manifest;
        covers = tells.covers;
        entries = entries;
        read = tells.read;
        each = λ k entry n.
            let h = entry_line (origin_of rows signature) place files number 1 entries k n.at entry n.is n.stands in
            (h.0, flat_contains (lines_of_finding rows place files) fs (finding number (Entries signature entries)) (line number k h.0) there h.1);
      })

pub all_answered : AllAnswered
unfolding manifest_lines
all_answered rows fields place files number r n typed =
    let h = is_found rows place number r 1 0 fields.references n.at n.is n.stands typed in
    answered rows place files number r (findings rows place 1 0 fields.references) h.found h.whole h.tells h.there

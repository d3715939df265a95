-- The lines of Manifests: XML Signature 1.1, section 5.1. Each entry is validated as a Reference is (section 3.2.1), whatever the
-- others come to. Manifests to which entries refer aren't looked into.
use Rattle.std.specs.Prelude.{ℕ, ◌+◌, List, [], ◌∷◌, Result, Ok, Err, if◌then◌else◌}
use Rattle.std.specs.List.{flat_map}
use Rattle.sig_outside.specs.Told.{Held}
use Rattle.xml_doc.specs.Rows.{RowOf}
use Rattle.uri_refs.specs.declared.target.Place.{Place}
use Rattle.dsig_fields.specs.Holds.{digest_holds}
use Rattle.dsig_fields.specs.declared.fields.Fields.{Fields}
use Rattle.dsig_fields.specs.declared.fields.Reference.{Reference}
use Rattle.transforms.specs.Answers.{names_of}
use Rattle.transforms.specs.Values.{Origin, origin_of}
use Rattle.transforms.specs.Views.{target_in, view_of}
use Rattle.transforms.specs.declared.refusal.RefRefusal.{RefRefusal}
use Rattle.manifests.specs.Findings.{entries_in, findings}
use Rattle.manifests.specs.declared.findings.Finding.{Finding}
use Rattle.manifests.specs.declared.findings.Found.{Found}
use Rattle.manifests.specs.declared.findings.Found.TheVariants.{OneLine, Entries}
use Rattle.manifests.specs.declared.lines.ManifestKind.{ManifestKind}
use Rattle.manifests.specs.declared.lines.ManifestKind.TheVariants.{Same, Differs, Refused}
use Rattle.manifests.specs.declared.lines.ManifestLine.{ManifestLine}

-- what an entry comes to, by its view
abbrev pub kind_of : Reference → Result (List ℕ) RefRefusal → ManifestKind
kind_of entry (Ok view) = if digest_holds entry.digest view entry.expected then Same else Differs
kind_of entry (Err cause) = Refused cause

abbrev pub line : (reference entry : ℕ) → ManifestKind → ManifestLine
line reference entry kind = record { reference = reference; entry = entry; kind = kind }

-- the lines of the entries of a Manifest, of which the first here has this number
unfoldable pub entry_lines : Origin → Place → Held → (reference number : ℕ) → List Reference → List ManifestLine
entry_lines origin place files reference number [] = []
entry_lines origin place files reference number (entry ∷ more) =
    line reference number (kind_of entry (view_of origin place files entry)) ∷ entry_lines origin place files reference (number + 1) more

-- the lines of a Manifest; its nearest Signature contains the entries
abbrev pub lines_of_found : List RowOf → Place → Held → (reference : ℕ) → Found → List ManifestLine
lines_of_found rows place files reference (OneLine kind) = line reference 0 kind ∷ []
lines_of_found rows place files reference (Entries signature entries) = entry_lines (origin_of rows signature) place files reference 1 entries

abbrev pub lines_of_finding : List RowOf → Place → Held → Finding → List ManifestLine
lines_of_finding rows place files f = lines_of_found rows place files f.reference f.found

abbrev pub lines_of_findings : List RowOf → Place → Held → List Finding → List ManifestLine
lines_of_findings rows place files found = flat_map (lines_of_finding rows place files) found

-- the lines of the Manifests to which the References of a signature refer
unfoldable pub manifest_lines : List RowOf → Fields → Place → Held → List ManifestLine
manifest_lines rows fields place files = lines_of_findings rows place files (findings rows place 1 0 fields.references)

-- ---- the files that are asked for
abbrev pub names_of_entry : Place → Reference → List (List ℕ)
names_of_entry place entry = names_of (target_in place entry)

abbrev pub names_of_entries : Place → List Reference → List (List ℕ)
names_of_entries place entries = flat_map (names_of_entry place) entries

abbrev pub names_of_finding : Place → Finding → List (List ℕ)
names_of_finding place f = names_of_entries place (entries_in f.found)

abbrev pub names_of_findings : Place → List Finding → List (List ℕ)
names_of_findings place found = flat_map (names_of_finding place) found

-- those to which the entries refer, in the order of their lines
unfoldable pub names_asked : List RowOf → Fields → Place → List (List ℕ)
names_asked rows fields place = names_of_findings place (findings rows place 1 0 fields.references)

-- Octets have one verdict at most, and it rests on what SignedInfo says and not on where that stands.
use Rattle.std.proofs.Common.{◌≡◌, ℕ, ◌+◌, Bool, List, [], ◌∷◌, Option, Some, refl, sym, ap, ap₂, ◌∙◌}
use Rattle.std.specs.Prelude.{Result, Ok, if◌then◌else◌}
use Rattle.xml_doc.specs.Rows.{RowOf}
use Rattle.xml_read.specs.Spelled.{Spells}
use Rattle.xml_read.proofs.SpelledLaws.{tree_complete}
use Rattle.xml_resolve.specs.Resolve.{resolve}
use Rattle.xml_resolve.specs.Rows.{rows_of}
use Rattle.dsig_fields.specs.Fields.{info_fields}
use Rattle.dsig_fields.specs.Holds.{digest_holds}
use Rattle.dsig_fields.specs.Same.{Pairwise, SameInfo, SameReference}
use Rattle.dsig_fields.specs.Verdicts.{VerdictsAreOne, differing, verdict_behind, verdict_by, verdict_on_digests}
use Rattle.dsig_fields.specs.declared.fields.Info.{Info}
use Rattle.dsig_fields.specs.declared.fields.Reference.{Reference}
use Rattle.dsig_fields.specs.declared.refusal.FieldRefusal.{FieldRefusal}

-- ---- what SignedInfo says counts, and not where it stands
differing_same : (n : ℕ) (ones others : List Reference) (views : List (List ℕ)) → Pairwise SameReference ones others → differing n ones views ≡ differing n others views
unfolding differing
differing_same n [] [] views h = refl
differing_same n [] (b ∷ others) views h = absurd h
differing_same n (a ∷ ones) [] views h = absurd h
differing_same n (a ∷ ones) (b ∷ others) [] h = refl
differing_same n (a ∷ ones) (b ∷ others) (v ∷ views) h =
    let same = differing_same (n + 1) ones others views h.1 in
    ap (λ (holds : Bool). if holds then differing (n + 1) ones views else n ∷ differing (n + 1) ones views) (ap₂ (λ m e. digest_holds m v e) h.0.digest h.0.expected)
    ∙ ap (λ (ns : List ℕ). if digest_holds b.digest v b.expected then ns else n ∷ ns) same

pub verdict_same : (one other : Info) (octets value key : List ℕ) (views : List (List ℕ)) → SameInfo one other
    → verdict_by one octets value key views ≡ verdict_by other octets value key views
verdict_same one other octets value key views h =
    ap₂ (λ mac bits. verdict_behind mac bits octets value key (verdict_on_digests views (differing 1 one.references views))) h.mac h.bits
    ∙ ap (λ (ns : List ℕ). verdict_behind other.mac other.bits octets value key (verdict_on_digests views ns)) (differing_same 1 one.references other.references views h.references)

-- ---- one verdict
some_same : {A : Type 0} (a b : A) → ◌≡◌ {A = Option A} (Some a) (Some b) → a ≡ b
some_same a b e = cc

ok_same : {A B : Type 0} (a b : A) → ◌≡◌ {A = Result A B} (Ok a) (Ok b) → a ≡ b
ok_same a b e = cc

-- octets spell one list of rows
pub spelled_one : (octets : List ℕ) (rows others : List RowOf) → Spells octets rows → Spells octets others → rows ≡ others
spelled_one octets rows others s u =
    let same_tree : s.tree ≡ u.tree = some_same s.tree u.tree (sym (tree_complete octets s.tree s.spells) ∙ tree_complete octets u.tree u.spells) in
    let same : s.resolved ≡ u.resolved = some_same s.resolved u.resolved (sym s.resolves ∙ ap (resolve []) same_tree ∙ u.resolves) in
    s.rows_are ∙ ap rows_of same ∙ sym u.rows_are

pub verdicts_one : VerdictsAreOne
verdicts_one octets value key views one other a b =
    let rows = spelled_one octets a.rows b.rows a.spelled b.spelled in
    let info : a.info ≡ b.info = ok_same {A = Info} {B = FieldRefusal} a.info b.info (sym a.read ∙ ap (λ (q : List RowOf). info_fields q 1) rows ∙ b.read) in
    a.is ∙ ap (λ (i : Info). verdict_by i octets value key views) info ∙ sym b.is

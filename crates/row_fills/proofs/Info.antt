-- The canonical form of an element that lies in front of the last text, whatever that text is.
use Rattle.std.proofs.Common.{◌≡◌, ℕ, ◌+◌, ◌<◌, Bool, inl, inr, List, [], ◌∷◌, ◌++◌, length, sym, ap, ◌∙◌, arith}
use Rattle.std.proofs.lemmas.Bool.{cases_lt}
use Rattle.sig_base.proofs.OptionLemmas.{some_is}
use Rattle.xml_doc.specs.Rows.{RowOf}
use Rattle.xml_doc.specs.Shape.{row_at, IsWellShaped}
use Rattle.xml_doc.specs.declared.row.Kind.TheVariants.{Element}
use Rattle.xml_syntax.proofs.Documents.{one_tree}
use Rattle.xml_resolve.specs.Resolve.{resolve}
use Rattle.xml_resolve.specs.Rows.{rows_of}
use Rattle.node_sets.specs.Members.{in_subtree}
use Rattle.c14n_text.specs.Namespaces.{Rule}
use Rattle.c14n_text.specs.Canon.{canon}
use Rattle.c14n_text.proofs.RowTree.{tree_of}
use Rattle.canon_local.proofs.Local.{subtree_local}
use Rattle.xml_read.specs.Spelled.{Spells}
use Rattle.xml_read.specs.SpelledTree.{characters_of}
use Rattle.row_spans.proofs.Read.{read_rows}
use Rattle.row_fills.specs.Fillings.{Filling, filling, filled_in, CanFillAll, AreFilledAlike, EndTogether, first_of, LiesInFront}
use Rattle.row_fills.proofs.Together.{all_together}

-- octets spell one document
pub spelled_once : (octets : List ℕ) (rows others : List RowOf) → Spells octets rows → Spells octets others → rows ≡ others
spelled_once octets rows others s t =
    let same : s.tree ≡ t.tree = one_tree (characters_of octets) s.tree t.tree s.spells.spelled t.spells.spelled in
    let resolved : s.resolved ≡ t.resolved = some_is s.resolved t.resolved (sym s.resolves ∙ ap (resolve []) same ∙ t.resolves) in
    s.rows_are ∙ ap rows_of resolved ∙ sym t.rows_are

-- those that can be filled from a row on can be filled from an earlier one on
pub can_front : (rows : List RowOf) (e : ℕ) (fs : List Filling) (row : ℕ) (t o : List ℕ) → CanFillAll rows (e + 1) (fs ++ filling row t o ∷ []) → e < first_of fs row
can_front rows e [] row t o can = omega (arith, can.0)
can_front rows e (f ∷ fs) row t o can = omega (arith, can.0)

can_row : (rows : List RowOf) (from : ℕ) (fs : List Filling) (row : ℕ) (t o : List ℕ) → CanFillAll rows from (fs ++ filling row t o ∷ []) → row < length rows
can_row rows from [] row t o can = can.1.alone.within
can_row rows from (f ∷ fs) row t o can = can_row rows (f.row + 1) fs row t o can.2

can_element : (rows : List RowOf) (from : ℕ) (fs : List Filling) (row : ℕ) (t o : List ℕ) → CanFillAll rows from (fs ++ filling row t o ∷ []) → (row_at rows row).kind ≡ Element
can_element rows from [] row t o can = can.1.alone.element
can_element rows from (f ∷ fs) row t o can = can_element rows (f.row + 1) fs row t o can.2

module _ (octets : List ℕ) (rows : List RowOf) (fs : List Filling) (row : ℕ) (t o t' o' : List ℕ) (e : ℕ) (spells : Spells octets rows)
    (can : CanFillAll rows (e + 1) (fs ++ filling row t o ∷ [])) (can' : CanFillAll rows (e + 1) (fs ++ filling row t' o' ∷ [])) (lies : LiesInFront rows e row) where
  pair : AreFilledAlike octets rows (first_of fs row) fs (filling row t o) (filling row t' o')
  pair = all_together octets rows (e + 1) fs row t o t' o' spells can can'

  shape : IsWellShaped rows
  shape = (read_rows octets rows spells).shape

  one_shape : IsWellShaped pair.one.others
  one_shape = (read_rows (filled_in octets rows (fs ++ filling row t o ∷ [])) pair.one.others pair.one.spells).shape

  other_shape : IsWellShaped pair.other.others
  other_shape = (read_rows (filled_in octets rows (fs ++ filling row t' o' ∷ [])) pair.other.others pair.other.spells).shape

  before : e < first_of fs row
  before = can_front rows e fs row t o can

  e_there : e < length rows
  e_there = let there = pair.one.begins.there in omega (arith, before, there)

  up_before : (row_at rows e).parent < e
  up_before = shape.nesting.parent_before e (omega (arith, lies.deep, e_pos)) e_there
    where
      e_pos : 0 < e
      e_pos = elim (cases_lt 0 e) [
        | inl pos ↦ pos
        | inr none ↦ let z : e ≡ 0 = omega (arith, none) in let p : (row_at rows e).parent ≡ (row_at rows 0).parent = ap (λ j. (row_at rows j).parent) z in let r = shape.root_parent in omega (arith, p, r, lies.deep)
      ]

  up_same : (row_at pair.one.others e).parent ≡ (row_at rows e).parent
  up_same = (pair.one.begins.same e before).parent

  mark_up : (row_at pair.one.others pair.mark).parent ≡ (row_at rows e).parent
  mark_up =
      let kept = pair.one.elements row (can_row rows (e + 1) fs row t o can) (can_element rows (e + 1) fs row t o can) in
      ap (λ n. (row_at pair.one.others n).parent) (sym pair.in_one) ∙ pair.one.parents row kept ∙ ap pair.one.number lies.beside ∙ (pair.one.front (row_at rows e).parent (omega (arith, up_before, before))).1

  e_before : e < pair.mark
  e_before = let far = pair.far in omega (arith, before, far)

  ends_before : (row_at pair.one.others e).last < pair.mark
  ends_before = elim (cases_lt (row_at pair.one.others e).last pair.mark) [
    | inl ended ↦ ended
    | inr reaches ↦
        let deep = (tree_of pair.one.others one_shape).below e pair.mark e_before pair.begins.there reaches in
        absurd (omega (arith, deep, mark_up, up_before))
  ]

  last_same : (row_at pair.other.others e).last ≡ (row_at pair.one.others e).last
  last_same = by (pair.ends e e_before)
    where
      by : EndTogether pair.mark (row_at pair.one.others e).last (row_at pair.other.others e).last → (row_at pair.other.others e).last ≡ (row_at pair.one.others e).last
      by (inl both) = both.1
      by (inr past) = absurd (omega (arith, past.0, ends_before))

  forms_same : (rule : Rule) (comments : Bool) → canon rule comments pair.one.others (in_subtree pair.one.others e) ≡ canon rule comments pair.other.others (in_subtree pair.other.others e)
  forms_same rule comments =
      subtree_local rule comments pair.one.others pair.other.others pair.mark e one_shape other_shape pair.begins (omega (arith, up_same, lies.deep))
      (let there = pair.begins.there in omega (arith, e_before, there)) ends_before last_same

  pub info : (rule : Rule) (comments : Bool) (one other : List RowOf) → Spells (filled_in octets rows (fs ++ filling row t o ∷ [])) one → Spells (filled_in octets rows (fs ++ filling row t' o' ∷ [])) other
      → canon rule comments one (in_subtree one e) ≡ canon rule comments other (in_subtree other e)
  info rule comments one other s s' =
      let is_one = spelled_once (filled_in octets rows (fs ++ filling row t o ∷ [])) one pair.one.others s pair.one.spells in
      let is_other = spelled_once (filled_in octets rows (fs ++ filling row t' o' ∷ [])) other pair.other.others s' pair.other.spells in
      ap (λ x. canon rule comments x (in_subtree x e)) is_one ∙ forms_same rule comments ∙ sym (ap (λ x. canon rule comments x (in_subtree x e)) is_other)

pub forms_in_front : (rule : Rule) (comments : Bool) (octets : List ℕ) (rows one other : List RowOf) (fs : List Filling) (row : ℕ) (t o t' o' : List ℕ) (e : ℕ) → Spells octets rows
    → CanFillAll rows (e + 1) (fs ++ filling row t o ∷ []) → CanFillAll rows (e + 1) (fs ++ filling row t' o' ∷ []) → LiesInFront rows e row
    → Spells (filled_in octets rows (fs ++ filling row t o ∷ [])) one → Spells (filled_in octets rows (fs ++ filling row t' o' ∷ [])) other
    → canon rule comments one (in_subtree one e) ≡ canon rule comments other (in_subtree other e)
forms_in_front rule comments octets rows one other fs row t o t' o' e spells can can' lies s s' = info octets rows fs row t o t' o' e spells can can' lies rule comments one other s s'

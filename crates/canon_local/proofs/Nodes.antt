-- What rows tell of the nodes in front of an element: their parents, their namespaces and their attributes.
use Rattle.std.proofs.Common.{◌≡◌, ℕ, ◌-◌, ◌<◌, ◌≤◌, Bool, true, false, cond, ◌&&◌, eqb, List, [], ◌∷◌, length, zero, suc, refl, sym, ap, subst, ◌∙◌, arith, inl, inr}
use Rattle.std.specs.List.{filter, range_with_len}
use Rattle.std.proofs.lemmas.Bool.{cases_eq, false≢true, eqb-true, eq-eqb, and_parts}
use Rattle.xml_doc.specs.declared.row.Kind.{Kind}
use Rattle.xml_doc.specs.declared.row.Kind.TheVariants.{Root, Element, Namespace, Attribute, Text, Comment, Instruction}
use Rattle.xml_doc.specs.Kinds.{is_namespace, is_attribute, is_field, is_element}
use Rattle.xml_doc.specs.Rows.{RowOf}
use Rattle.xml_doc.specs.Shape.{row_at, IsWellShaped}
use Rattle.xml_doc.specs.Fields.{is_namespace_of, is_attribute_of, namespace_rows, attribute_rows}
use Rattle.c14n_text.specs.Rows.{parent_of, above}
use Rattle.c14n_text.specs.Tree.{chain_within}
use Rattle.canon_local.specs.Begin.{BeginAlike}
use Rattle.canon_local.proofs.Lists.{Below, below_filter, below_range, filter_same, filter_front}

namespace_field : (k : Kind) → is_namespace k ≡ true → is_field k ≡ true
namespace_field Root e = e
namespace_field Element e = e
namespace_field Namespace e = refl
namespace_field Attribute e = refl
namespace_field Text e = e
namespace_field Comment e = e
namespace_field Instruction e = e

attribute_field : (k : Kind) → is_attribute k ≡ true → is_field k ≡ true
attribute_field Root e = e
attribute_field Element e = e
attribute_field Namespace e = refl
attribute_field Attribute e = refl
attribute_field Text e = e
attribute_field Comment e = e
attribute_field Instruction e = e

-- the rows behind an element are no fields of what stands in front of it
module _ (rows : List RowOf) (w : IsWellShaped rows) (m : ℕ) (there : m < length rows) (element : (row_at rows m).kind ≡ Element) where
  pub no_root : 0 < m
  no_root = elim (cases_eq m 0) [
    | inl e ↦ absurd (false≢true (ap is_element (sym w.root_kind ∙ ap (λ k. (row_at rows k).kind) (sym e) ∙ element)))
    | inr ne ↦ omega arith
  ]

  not_own : (k e : ℕ) → e < m → m ≤ k → k < length rows → is_field (row_at rows k).kind ≡ true → (row_at rows k).parent ≡ e → ⊥
  not_own k e lt le inside field up = elim (cases_eq k m) [
    | inl here ↦ false≢true (sym (ap is_field (ap (λ j. (row_at rows j).kind) here ∙ element)) ∙ field)
    | inr behind ↦ false≢true (sym (ap is_field element) ∙ w.fields.fields_first k m inside field (omega arith) (omega arith))
  ]

  no_namespace : (e : ℕ) → e < m → (k : ℕ) → m ≤ k → k < length rows → is_namespace_of rows e k ≡ false
  no_namespace e lt k le inside = go (is_namespace_of rows e k) refl
    where
      go : (b : Bool) → is_namespace_of rows e k ≡ b → b ≡ false
      go false is = refl
      go true is =
          let parts = and_parts (is_namespace (row_at rows k).kind) (eqb (row_at rows k).parent e) is in
          absurd (not_own k e lt le inside (namespace_field _ parts.0) (eqb-true (row_at rows k).parent e parts.1))

  no_attribute : (e : ℕ) → e < m → (k : ℕ) → m ≤ k → k < length rows → is_attribute_of rows e k ≡ false
  no_attribute e lt k le inside = go (is_attribute_of rows e k) refl
    where
      go : (b : Bool) → is_attribute_of rows e k ≡ b → b ≡ false
      go false is = refl
      go true is =
          let parts = and_parts (is_attribute (row_at rows k).kind) (eqb (row_at rows k).parent e) is in
          absurd (not_own k e lt le inside (attribute_field _ parts.0) (eqb-true (row_at rows k).parent e parts.1))

  pub namespaces_front : (e : ℕ) → e < m → namespace_rows rows e ≡ filter (is_namespace_of rows e) (range_with_len 1 (m - 1))
  namespaces_front e lt = filter_front m (length rows) (is_namespace_of rows e) no_root (omega (arith, there)) (no_namespace e lt)

  pub attributes_front : (e : ℕ) → e < m → attribute_rows rows e ≡ filter (is_attribute_of rows e) (range_with_len 1 (m - 1))
  attributes_front e lt = filter_front m (length rows) (is_attribute_of rows e) no_root (omega (arith, there)) (no_attribute e lt)

chain_same : (m : ℕ) (parent parent' : ℕ → ℕ) → ((x : ℕ) → 0 < x → x < m → parent x < x) → ((x : ℕ) → x < m → parent x ≡ parent' x)
    → (n n' y : ℕ) → y < m → y < n → y < n' → chain_within parent n y ≡ chain_within parent' n' y
chain_same m parent parent' before same zero n' y lt le le' = absurd (omega arith)
chain_same m parent parent' before same (suc n) zero y lt le le' = absurd (omega arith)
chain_same m parent parent' before same (suc n) (suc n') y lt le le' =
    go (λ ne. let up = before y (omega arith) lt in chain_same m parent parent' before same n n' (parent y) (omega arith) (omega arith) (omega arith)) (eqb y 0) refl
  where
    go : ((y ≡ 0 → ⊥) → chain_within parent n (parent y) ≡ chain_within parent' n' (parent y)) → (b : Bool) → eqb y 0 ≡ b → cond b [] (y ∷ chain_within parent n (parent y)) ≡ cond b [] (y ∷ chain_within parent' n' (parent' y))
    go rest true e = refl
    go rest false e = ap (λ (ys : List ℕ). y ∷ ys) (rest (λ (z : y ≡ 0). false≢true (sym e ∙ eq-eqb y 0 z)) ∙ ap (chain_within parent' n') (same y lt))

chain_below : (m : ℕ) (parent : ℕ → ℕ) → ((x : ℕ) → 0 < x → x < m → parent x < x) → (n y : ℕ) → y < m → Below m (chain_within parent n y)
chain_below m parent before zero y lt = tt
chain_below m parent before (suc n) y lt = go (λ ne. let up = before y (omega arith) lt in chain_below m parent before n (parent y) (omega arith)) (eqb y 0) refl
  where
    go : ((y ≡ 0 → ⊥) → Below m (chain_within parent n (parent y))) → (b : Bool) → eqb y 0 ≡ b → Below m (cond b [] (y ∷ chain_within parent n (parent y)))
    go rest true e = tt
    go rest false e = (lt, rest (λ (z : y ≡ 0). false≢true (sym e ∙ eq-eqb y 0 z)))

module _ (rows others : List RowOf) (w : IsWellShaped rows) (w' : IsWellShaped others) (m : ℕ) (alike : BeginAlike m rows others) where
  pub some : 0 < m
  some = no_root rows w m alike.there alike.element

  pub same_parent : (x : ℕ) → x < m → parent_of rows x ≡ parent_of others x
  same_parent x lt = sym (alike.same x lt).parent

  before : (x : ℕ) → 0 < x → x < m → parent_of rows x < x
  before x pos lt = let there = alike.there in w.nesting.parent_before x pos (omega arith)

  before' : (x : ℕ) → 0 < x → x < m → parent_of others x < x
  before' x pos lt = let there = alike.there_too in w'.nesting.parent_before x pos (omega arith)

  pub parent_front : (x : ℕ) → x < m → parent_of others x < m
  parent_front x lt = elim (cases_eq x 0) [
    | inl e ↦ let up : parent_of others x ≡ parent_of others 0 = ap (parent_of others) e in let root = w'.root_parent in let pos = some in omega arith
    | inr ne ↦ let up = before' x (omega arith) lt in omega arith
  ]

  pub above_same : (x : ℕ) → x < m → above rows x ≡ above others x
  above_same x lt =
      let there = alike.there in let there' = alike.there_too in let up = parent_front x lt in let e = same_parent x lt in
      chain_same m (parent_of rows) (parent_of others) before same_parent (length rows) (length others) (parent_of rows x) (omega arith) (omega arith) (omega arith)
      ∙ ap (chain_within (parent_of others) (length others)) e

  pub above_below : (x : ℕ) → x < m → Below m (above others x)
  above_below x lt = chain_below m (parent_of others) before' (length others) (parent_of others x) (parent_front x lt)

  pub namespaces_same : (e : ℕ) → e < m → namespace_rows rows e ≡ namespace_rows others e
  namespaces_same e lt =
      namespaces_front rows w m alike.there alike.element e lt
      ∙ filter_same m (is_namespace_of rows e) (is_namespace_of others e) (range_with_len 1 (m - 1)) (below_range m 1 (m - 1) (let pos = some in omega arith))
      (λ x below. let s = alike.same x below in ap (λ k. is_namespace k && eqb (row_at rows x).parent e) (sym s.kind) ∙ ap (λ p. is_namespace (row_at others x).kind && eqb p e) (sym s.parent))
      ∙ sym (namespaces_front others w' m alike.there_too alike.element_too e lt)

  pub attributes_same : (e : ℕ) → e < m → attribute_rows rows e ≡ attribute_rows others e
  attributes_same e lt =
      attributes_front rows w m alike.there alike.element e lt
      ∙ filter_same m (is_attribute_of rows e) (is_attribute_of others e) (range_with_len 1 (m - 1)) (below_range m 1 (m - 1) (let pos = some in omega arith))
      (λ x below. let s = alike.same x below in ap (λ k. is_attribute k && eqb (row_at rows x).parent e) (sym s.kind) ∙ ap (λ p. is_attribute (row_at others x).kind && eqb p e) (sym s.parent))
      ∙ sym (attributes_front others w' m alike.there_too alike.element_too e lt)

  pub namespaces_below : (e : ℕ) → e < m → Below m (namespace_rows others e)
  namespaces_below e lt =
      subst (Below m) (sym (namespaces_front others w' m alike.there_too alike.element_too e lt))
      (below_filter m (is_namespace_of others e) (range_with_len 1 (m - 1)) (below_range m 1 (m - 1) (let pos = some in omega arith)))

  pub attributes_below : (e : ℕ) → e < m → Below m (attribute_rows others e)
  attributes_below e lt =
      subst (Below m) (sym (attributes_front others w' m alike.there_too alike.element_too e lt))
      (below_filter m (is_attribute_of others e) (range_with_len 1 (m - 1)) (below_range m 1 (m - 1) (let pos = some in omega arith)))

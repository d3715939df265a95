-- Rows that write nothing, since neither they nor their namespace rows and attribute rows are in the set.
use Rattle.std.proofs.Common.{◌≡◌, Option, ℕ, ◌+◌, ◌-◌, ◌<◌, ◌≤◌, Bool, true, false, not, if◌then◌else◌, cond, ◌&&◌, ◌==◌, List, [], ◌∷◌, ◌++◌, length, zero, suc, refl, sym, ap, ◌∙◌, arith, ◌⊎◌, inl, inr}
use Rattle.std.specs.List.{flat_map, filter, range_with_len}
use Rattle.std.proofs.lemmas.Bool.{cases_lt, cases_eq, false≢true, eqb-true, and_parts, and_right}
use Rattle.xml_doc.specs.declared.row.Kind.{Kind}
use Rattle.xml_doc.specs.declared.row.Kind.TheVariants.{Root, Element, Namespace, Attribute, Text, Comment, Instruction}
use Rattle.xml_doc.specs.Kinds.{is_namespace, is_attribute, is_field, is_element}
use Rattle.xml_doc.specs.Rows.{RowOf}
use Rattle.xml_doc.specs.Shape.{row_at, IsWellShaped}
use Rattle.xml_doc.specs.Fields.{is_namespace_of, is_attribute_of, namespace_rows, attribute_rows}
use Rattle.c14n_text.specs.Rows.{kind_of, parent_of, is_child}
use Rattle.c14n_text.specs.Namespaces.{Rule, undeclaration, row_declaration, namespace_octets}
use Rattle.c14n_text.specs.Attributes.{is_inclusive, imports_attributes, in_order, imported}
use Rattle.c14n_text.specs.Bases.{is_own, base_place, joined_base, row_attribute, written_attributes, attributes_octets}
use Rattle.c14n_text.specs.Canon.{start_tag, opening_of, closing_of, opening, closing}
use Rattle.c14n_text.specs.Code.Quiet.{IsQuiet, bearer}
use Rattle.c14n_text.proofs.QuietLemmas.{flat_map-nothing}

-- numbers that pass one test, and none of them another
filter-nothing : (q p : ℕ → Bool) (a k : ℕ) → ((j : ℕ) → a ≤ j → j < a + k → p j ≡ true → q j ≡ false) → filter q (filter p (range_with_len a k)) ≡ []
filter-nothing q p a zero nothing = refl
filter-nothing q p a (suc k) nothing =
    go (p a) refl (filter-nothing q p (a + 1) k (λ (j : ℕ) ge lt passes. nothing j (omega arith) (omega arith) passes))
  where
    go : (b : Bool) → p a ≡ b → filter q (filter p (range_with_len (a + 1) k)) ≡ [] → filter q (cond b (a ∷ filter p (range_with_len (a + 1) k)) (filter p (range_with_len (a + 1) k))) ≡ []
    go true is later = ap (λ (b : Bool). cond b (a ∷ filter q (filter p (range_with_len (a + 1) k))) (filter q (filter p (range_with_len (a + 1) k)))) (nothing a (omega arith) (omega arith) is) ∙ later
    go false is later = later

namespace_field : (k : Kind) → is_namespace k ≡ true → is_field k ≡ true
namespace_field Root e = e
namespace_field Element e = e
namespace_field Namespace e = refl
namespace_field Attribute e = refl
namespace_field Text e = e
namespace_field Comment e = e
namespace_field Instruction e = e

attribute_field : (k : Kind) → is_attribute k ≡ true → is_field k ≡ true
attribute_field Root e = e
attribute_field Element e = e
attribute_field Namespace e = refl
attribute_field Attribute e = refl
attribute_field Text e = e
attribute_field Comment e = e
attribute_field Instruction e = e

field_not_element : (k : Kind) → is_element k ≡ true → is_field k ≡ false
field_not_element Root e = refl
field_not_element Element e = refl
field_not_element Namespace e = absurd (false≢true e)
field_not_element Attribute e = absurd (false≢true e)
field_not_element Text e = refl
field_not_element Comment e = refl
field_not_element Instruction e = refl

module _ (rows : List RowOf) (w : IsWellShaped rows) (set : ℕ → Bool) where
  own_namespace : (x y : ℕ) → IsQuiet rows set x → 1 ≤ y → y < 1 + (length rows - 1) → is_namespace_of rows x y ≡ true → set y ≡ false
  own_namespace x y quiet ge lt passes =
      let parts = and_parts (is_namespace (row_at rows y).kind) ((row_at rows y).parent == x) passes in
      quiet.fields y (omega arith) (omega arith) (namespace_field _ parts.0) (eqb-true (row_at rows y).parent x parts.1)

  own_attribute : (x y : ℕ) → IsQuiet rows set x → 1 ≤ y → y < 1 + (length rows - 1) → is_attribute_of rows x y ≡ true → set y ≡ false
  own_attribute x y quiet ge lt passes =
      let parts = and_parts (is_attribute (row_at rows y).kind) ((row_at rows y).parent == x) passes in
      quiet.fields y (omega arith) (omega arith) (attribute_field _ parts.0) (eqb-true (row_at rows y).parent x parts.1)

  module _ (rule : Rule) (comments : Bool) (x : ℕ) (quiet : IsQuiet rows set x) where
    no_declaration : (y : ℕ) → set y ≡ false → row_declaration rows set rule x y ≡ []
    no_declaration y out = rw out refl

    no_undeclaration : set x ≡ false → undeclaration rows set rule x ≡ []
    no_undeclaration out = rw out refl

    no_namespaces : set x ≡ false → namespace_octets rows set rule x ≡ []
    no_namespaces out =
        ap (λ (t : List ℕ). t ++ flat_map (row_declaration rows set rule x) (namespace_rows rows x)) (no_undeclaration out)
        ∙ flat_map-nothing (row_declaration rows set rule x) (is_namespace_of rows x) 1 (length rows - 1) (λ (y : ℕ) ge lt passes. no_declaration y (own_namespace x y quiet ge lt passes))

    none_written : (joined : Option (ℕ × List ℕ)) → set x ≡ false → written_attributes rows set rule joined x ≡ filter set (attribute_rows rows x)
    none_written joined out =
        let taken : imports_attributes rows set rule x ≡ false = ap (λ t. t && is_element (kind_of rows (parent_of rows x)) && not (set (parent_of rows x))) (and_right (is_inclusive rule) (set x) out) in
        ap (λ t. if t then in_order rows (filter (is_own rows set joined) (attribute_rows rows x) ++ imported rows rule x ++ base_place joined) else filter set (attribute_rows rows x)) taken

    no_attributes : set x ≡ false → attributes_octets rows set rule x ≡ []
    no_attributes out =
        let joined = joined_base rows set rule x in
        ap (flat_map (row_attribute rows joined)) (none_written joined out ∙ filter-nothing set (is_attribute_of rows x) 1 (length rows - 1) (λ (y : ℕ) ge lt passes. own_attribute x y quiet ge lt passes))

    no_opening_of : (k : Kind) → set x ≡ false → opening_of rows set rule comments x k ≡ []
    no_opening_of Root out = refl
    no_opening_of Element out =
        ap (λ (b : Bool). if b then start_tag rows set rule x else namespace_octets rows set rule x ++ attributes_octets rows set rule x) out
        ∙ ap (λ (t : List ℕ). t ++ attributes_octets rows set rule x) (no_namespaces out)
        ∙ no_attributes out
    no_opening_of Namespace out = refl
    no_opening_of Attribute out = refl
    no_opening_of Text out = rw out refl
    no_opening_of Comment out = rw (and_right comments (set x) out) refl
    no_opening_of Instruction out = rw out refl

    root_kind_of : x ≡ 0 → kind_of rows x ≡ Root
    root_kind_of e = ap (kind_of rows) e ∙ w.root_kind

    pub no_opening : opening rows set rule comments x ≡ []
    no_opening = elim quiet.itself [
      | inl root ↦ ap (opening_of rows set rule comments x) (root_kind_of root)
      | inr out ↦ no_opening_of (kind_of rows x) out
    ]

    no_closing_of : (k : Kind) → set x ≡ false → closing_of rows set x k ≡ []
    no_closing_of Root out = refl
    no_closing_of Element out = rw out refl
    no_closing_of Namespace out = refl
    no_closing_of Attribute out = refl
    no_closing_of Text out = refl
    no_closing_of Comment out = refl
    no_closing_of Instruction out = refl

    pub no_closing : closing rows set x ≡ []
    no_closing = elim quiet.itself [
      | inl root ↦ ap (closing_of rows set x) (root_kind_of root)
      | inr out ↦ no_closing_of (kind_of rows x) out
    ]

  -- ---- where all members stand from row `from` on, and before row `until`
  module _ (from until : ℕ) (below : (k : ℕ) → 0 < k → k < from → set k ≡ false) (behind : (k : ℕ) → until ≤ k → set k ≡ false) where
    itself_below : (x : ℕ) → x < from → (x ≡ 0) ⊎ (set x ≡ false)
    itself_below x lt = elim (cases_eq x 0) [ inl root ↦ inl root | inr not_root ↦ inr (below x (omega arith) lt) ]

    -- a walk may begin at row `from`, where it is a child of its parent
    pub quiet_below_child : (x : ℕ) → from < length rows → is_child rows from ≡ true → x < from → IsQuiet rows set x
    quiet_below_child x there child lt = record {
      itself = itself_below x lt;
      fields = λ (y : ℕ) pos in_size field up. elim (cases_lt y from) [
        | inl before ↦ below y pos before
        | inr not_before ↦ absurd (elim (cases_eq y from) [
          | inl same ↦ not_both _ (ap (λ (m : ℕ). is_field (row_at rows m).kind) (sym same) ∙ field) child
          | inr other ↦ not_both _ (w.fields.fields_first y from in_size field (omega arith) (omega arith)) child
        ])
      ];
    }
      where
        not_both : (b : Bool) → b ≡ true → not b ≡ true → ⊥
        not_both true e f = false≢true f
        not_both false e f = false≢true e

    -- and else at its parent
    pub quiet_below_field : (x : ℕ) → 0 < from → from < length rows → is_child rows from ≡ false → x < parent_of rows from → IsQuiet rows set x
    quiet_below_field x pos_from there no_child lt =
        let above = w.nesting.parent_before from pos_from there in
        record {
          itself = itself_below x (omega arith);
          fields = λ (y : ℕ) pos in_size field up. elim (cases_lt y from) [
            | inl before ↦ below y pos before
            | inr not_before ↦
                let crossed : is_field (row_at rows (parent_of rows from)).kind ≡ true = w.fields.fields_first y (parent_of rows from) in_size field (omega arith) (omega arith) in
                let element = w.fields.field_of_element from there (is_true _ no_child) in
                absurd (false≢true (sym (field_not_element _ element) ∙ crossed))
          ];
        }
      where
        is_true : (b : Bool) → not b ≡ false → b ≡ true
        is_true true e = refl
        is_true false e = absurd (false≢true (sym e))

    -- both in one
    pub quiet_below : (x : ℕ) → 0 < from → from < length rows → x < bearer rows from → IsQuiet rows set x
    quiet_below x pos there lt = go (is_child rows from) refl lt
      where
        go : (b : Bool) → is_child rows from ≡ b → x < (if b then from else parent_of rows from) → IsQuiet rows set x
        go true child h = quiet_below_child x there child h
        go false no_child h = quiet_below_field x pos there no_child h

    pub bearer-there : 0 < from → from < length rows → (0 < bearer rows from) × (bearer rows from ≤ from)
    bearer-there pos there = go (is_child rows from) refl
      where
        is_on : (b : Bool) → not b ≡ false → b ≡ true
        is_on true e = refl
        is_on false e = absurd (false≢true (sym e))

        root_no_element : (k : Kind) → k ≡ Root → is_element k ≡ false
        root_no_element k e = ap is_element e

        go : (b : Bool) → is_child rows from ≡ b → (0 < (if b then from else parent_of rows from)) × ((if b then from else parent_of rows from) ≤ from)
        go true child = (pos, omega arith)
        go false no_child =
            let above = w.nesting.parent_before from pos there in
            let element = w.fields.field_of_element from there (is_on _ no_child) in
            let not_root : parent_of rows from ≡ 0 → ⊥ = λ e. false≢true (sym (root_no_element _ (ap (kind_of rows) e ∙ w.root_kind)) ∙ element) in
            (omega arith, omega arith)

    -- and it may end before row `until`
    pub quiet_behind : (x : ℕ) → until ≤ x → IsQuiet rows set x
    quiet_behind x le = record {
      itself = inr (behind x le);
      fields = λ (y : ℕ) pos in_size field up. let before = w.nesting.parent_before y pos in_size in behind y (omega arith);
    }

    -- where there is no row between, nothing is written
    pub quiet_all : (x : ℕ) → until ≤ from → IsQuiet rows set x
    quiet_all x none = record {
      itself = elim (cases_lt x from) [ inl before ↦ itself_below x before | inr not_before ↦ inr (behind x (omega arith)) ];
      fields = λ (y : ℕ) pos in_size field up. elim (cases_lt y from) [ inl before ↦ below y pos before | inr not_before ↦ behind y (omega arith) ];
    }

-- Where the namespace rows and the attribute rows of an element stand.
use Rattle.std.proofs.Common.{◌≡◌, ℕ, zero, suc, ◌<◌, ◌≤◌, ◌-◌, ◌+◌, ◌&&◌, eqb, Bool, true, false, List, ◌∷◌, ◌++◌, length, refl, ap, sym, ◌∙◌, arith, append-nil, ◌⊎◌, inl, inr}
use Rattle.std.specs.List.{filter, range_with_len}
use Rattle.std.proofs.lemmas.Bool.{cases_lt, false≢true, eqb-true, eq-eqb, and_from, false_from_ne_true}
use Rattle.xml_doc.proofs.Numbers.{passing-cut, passing_none}
use Rattle.xml_doc.specs.declared.row.Kind.{Kind}
use Rattle.xml_doc.specs.declared.row.Kind.TheVariants.{Root, Element, Namespace, Attribute, Text, Comment, Instruction}
use Rattle.xml_doc.specs.Kinds.{is_namespace, is_attribute, is_field, is_inner}
use Rattle.xml_doc.specs.Rows.{RowOf}
use Rattle.xml_doc.specs.Shape.{row_at, IsWellShaped}
use Rattle.xml_doc.specs.Fields.{is_namespace_of, is_attribute_of, RunEnds, OwnRowsStand}

passing_all : (p : ℕ → Bool) (a n : ℕ) → ((k : ℕ) → a ≤ k → k < a + n → p k ≡ true) → filter p (range_with_len a n) ≡ range_with_len a n
passing_all p a zero h = refl
passing_all p a (suc n) h = rw (h a (omega arith) (omega arith)) (ap (λ (t : List ℕ). a ∷ t) (passing_all p (a + 1) n (λ k l m. h k (omega arith) (omega arith))))

pub passing_between : (p : ℕ → Bool) (n a b : ℕ) → 1 ≤ a → a ≤ b → b ≤ n
    → ((k : ℕ) → 1 ≤ k → k < a → p k ≡ false) → ((k : ℕ) → a ≤ k → k < b → p k ≡ true) → ((k : ℕ) → b ≤ k → k < n → p k ≡ false)
    → filter p (range_with_len 1 (n - 1)) ≡ range_with_len a (b - a)
passing_between p n a b l m h before within behind =
    passing-cut p 1 a n l (omega arith)
    ∙ ap (λ (t : List ℕ). t ++ filter p (range_with_len a (n - a))) (passing_none p 1 (a - 1) (λ (k : ℕ) ge lt. before k ge (omega arith)))
    ∙ passing-cut p a b n m h
    ∙ ap (λ (t : List ℕ). filter p (range_with_len a (b - a)) ++ t) (passing_none p b (n - b) (λ (k : ℕ) ge lt. behind k ge (omega arith)))
    ∙ append-nil (filter p (range_with_len a (b - a)))
    ∙ passing_all p a (b - a) (λ (k : ℕ) ge lt. within k ge (omega arith))

pub namespace_is : (k : Kind) → is_namespace k ≡ true → k ≡ Namespace
namespace_is Root e = absurd (false≢true e)
namespace_is Element e = absurd (false≢true e)
namespace_is Namespace e = refl
namespace_is Attribute e = absurd (false≢true e)
namespace_is Text e = absurd (false≢true e)
namespace_is Comment e = absurd (false≢true e)
namespace_is Instruction e = absurd (false≢true e)

pub field_of_attribute : (k : Kind) → is_attribute k ≡ true → is_field k ≡ true
field_of_attribute Root e = absurd (false≢true e)
field_of_attribute Element e = absurd (false≢true e)
field_of_attribute Namespace e = refl
field_of_attribute Attribute e = refl
field_of_attribute Text e = absurd (false≢true e)
field_of_attribute Comment e = absurd (false≢true e)
field_of_attribute Instruction e = absurd (false≢true e)

field_is_either : (k : Kind) → is_field k ≡ true → (is_namespace k ≡ true) ⊎ (is_attribute k ≡ true)
field_is_either Root e = absurd (false≢true e)
field_is_either Element e = absurd (false≢true e)
field_is_either Namespace e = inl refl
field_is_either Attribute e = inr refl
field_is_either Text e = absurd (false≢true e)
field_is_either Comment e = absurd (false≢true e)
field_is_either Instruction e = absurd (false≢true e)

namespace_no_attribute : (k : Kind) → is_namespace k ≡ true → is_attribute k ≡ false
namespace_no_attribute k e = ap is_attribute (namespace_is k e)

pub inner_no_field : (k : Kind) → is_inner k ≡ true → is_field k ≡ false
inner_no_field Root e = refl
inner_no_field Element e = refl
inner_no_field Namespace e = absurd (false≢true e)
inner_no_field Attribute e = absurd (false≢true e)
inner_no_field Text e = absurd (false≢true e)
inner_no_field Comment e = absurd (false≢true e)
inner_no_field Instruction e = absurd (false≢true e)

-- both parts of a test
both : (a : Bool) (m n : ℕ) → (a && eqb m n) ≡ true → (a ≡ true) × (m ≡ n)
both true m n e = (refl, eqb-true m n e)
both false m n e = absurd (false≢true e)

module _ (rows : List RowOf) (w : IsWellShaped rows) where
  -- between an element and a field of it stand only fields of it
  field_parent : (i j : ℕ) → i < length rows → is_field (row_at rows i).kind ≡ true → (row_at rows i).parent < j → j < i → (row_at rows j).parent ≡ (row_at rows i).parent
  field_parent i j lt is gt before =
      let above = w.nesting.parent_before j (omega arith) (omega arith) in
      let reach = w.nesting.last_from i lt in
      let within = w.nesting.last_within i lt in
      elim (cases_lt (row_at rows j).parent (row_at rows i).parent) [
        | inl higher ↦ let gone = w.nesting.ended j (row_at rows i).parent (omega arith) higher gt in omega arith
        | inr not_higher ↦ elim (cases_lt (row_at rows i).parent (row_at rows j).parent) [
          | inr same ↦ omega arith
          | inl lower ↦
              let q = (row_at rows j).parent in
              let no_field = inner_no_field (row_at rows q).kind (w.nesting.parent_inner j (omega arith)) in
              absurd (false≢true (sym no_field ∙ w.fields.fields_first i q lt is lower (omega arith)))
        ]
      ]

  pub no_namespace_behind : (x end : ℕ) → x < length rows → RunEnds rows (is_namespace_of rows x) (x + 1) end → (j : ℕ) → end ≤ j → j < length rows → is_namespace_of rows x j ≡ false
  no_namespace_behind x end here r j ge lt = false_from_ne_true _ (λ (t : is_namespace_of rows x j ≡ true).
      let parts = both (is_namespace (row_at rows j).kind) (row_at rows j).parent x t in
      let kind = namespace_is (row_at rows j).kind parts.0 in
      let reached = r.reached in
      elim (cases_lt end j) [
        | inr same ↦ let e : j ≡ end = omega arith in absurd (false≢true (sym (r.stop (omega arith)) ∙ ap (is_namespace_of rows x) (sym e) ∙ t))
        | inl behind ↦
            let first = w.fields.namespaces_first j end lt kind (let up = parts.1 in omega arith) behind in
            let up = field_parent j end lt (ap is_field kind) (let up = parts.1 in omega arith) behind in
            absurd (false≢true (sym (r.stop (omega arith)) ∙ and_from _ _ (ap is_namespace first) (eq-eqb _ x (up ∙ parts.1))))
      ])

  pub no_attribute_behind : (x mid end : ℕ) → x < length rows → RunEnds rows (is_namespace_of rows x) (x + 1) mid → RunEnds rows (is_attribute_of rows x) mid end → (j : ℕ) → end ≤ j → j < length rows → is_attribute_of rows x j ≡ false
  no_attribute_behind x mid end here n r j ge lt = false_from_ne_true _ (λ (t : is_attribute_of rows x j ≡ true).
      let parts = both (is_attribute (row_at rows j).kind) (row_at rows j).parent x t in
      let field = field_of_attribute (row_at rows j).kind parts.0 in
      let from = n.reached in
      let reached = r.reached in
      elim (cases_lt end j) [
        | inr same ↦ let e : j ≡ end = omega arith in absurd (false≢true (sym (r.stop (omega arith)) ∙ ap (is_attribute_of rows x) (sym e) ∙ t))
        | inl behind ↦
            let first = w.fields.fields_first j end lt field (let up = parts.1 in omega arith) behind in
            let up = field_parent j end lt field (let up = parts.1 in omega arith) behind in
            elim (field_is_either (row_at rows end).kind first) [
              | inl is ↦ absurd (false≢true (sym (no_namespace_behind x mid here n end reached (omega arith)) ∙ and_from _ _ is (eq-eqb _ x (up ∙ parts.1))))
              | inr is ↦ absurd (false≢true (sym (r.stop (omega arith)) ∙ and_from _ _ is (eq-eqb _ x (up ∙ parts.1))))
            ]
      ])

  not_of_earlier : (x k : ℕ) → 1 ≤ k → k < x + 1 → k < length rows → (b : Bool) → (b && eqb (row_at rows k).parent x) ≡ false
  not_of_earlier x k pos le lt b = false_from_ne_true _ (λ t. let up = (both b (row_at rows k).parent x t).1 in let before = w.nesting.parent_before k pos lt in omega arith)

  -- before an element's namespace rows, which begin right behind it, there is none of them
  pub no_namespace_before : (x k : ℕ) → x < length rows → k < x + 1 → is_namespace_of rows x k ≡ false
  no_namespace_before x zero here lt = ap (λ (kind : Kind). is_namespace kind && eqb (row_at rows 0).parent x) w.root_kind
  no_namespace_before x (suc k) here lt = not_of_earlier x (suc k) (omega arith) lt (omega arith) (is_namespace (row_at rows (suc k)).kind)

  -- nor is there an attribute row of it before the end of its namespace rows
  pub no_attribute_before : (x mid k : ℕ) → x < length rows → RunEnds rows (is_namespace_of rows x) (x + 1) mid → k < mid → is_attribute_of rows x k ≡ false
  no_attribute_before x mid zero here n lt = ap (λ (kind : Kind). is_attribute kind && eqb (row_at rows 0).parent x) w.root_kind
  no_attribute_before x mid (suc k) here n lt = elim (cases_lt (suc k) (x + 1)) [
    | inl earlier ↦ not_of_earlier x (suc k) (omega arith) earlier (omega arith) (is_attribute (row_at rows (suc k)).kind)
    | inr inside ↦
        let is = (both (is_namespace (row_at rows (suc k)).kind) (row_at rows (suc k)).parent x (n.run (suc k) lt inside)).0 in
        ap (λ (b : Bool). b && eqb (row_at rows (suc k)).parent x) (namespace_no_attribute (row_at rows (suc k)).kind is)
  ]

  pub own_rows_stand : (x mid end : ℕ) → x < length rows → RunEnds rows (is_namespace_of rows x) (x + 1) mid → RunEnds rows (is_attribute_of rows x) mid end → OwnRowsStand rows x mid end
  own_rows_stand x mid end here n r =
      let from = n.reached in
      let n_within = n.within in
      let r_within = r.within in
      record {
        behind = omega arith;
        ordered = r.reached;
        within = r.within;
        namespaces = passing_between (is_namespace_of rows x) (length rows) (x + 1) mid (omega arith) n.reached n.within
            (λ (k : ℕ) ge lt. no_namespace_before x k here lt)
            (λ (k : ℕ) ge lt. n.run k lt ge)
            (no_namespace_behind x mid here n);
        attributes = passing_between (is_attribute_of rows x) (length rows) mid end (omega arith) r.reached r.within
            (λ (k : ℕ) ge lt. no_attribute_before x mid k here n lt)
            (λ (k : ℕ) ge lt. r.run k lt ge)
            (no_attribute_behind x mid end here n r);
      }

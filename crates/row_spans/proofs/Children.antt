-- An element whose children are texts has text alone.
use Rattle.std.proofs.Common.{◌≡◌, ℕ, zero, suc, ◌<◌, ◌≤◌, Bool, true, false, not, ◌&&◌, eqb, nat_lt, inl, inr, ◌⊎◌, List, length, refl, ap, arith}
use Rattle.std.proofs.lemmas.Bool.{cases_lt, false≢true, lt-ltb, eq-eqb}
use Rattle.xml_doc.specs.Axes.{is_child}
use Rattle.xml_doc.specs.Kinds.{is_field, is_inner}
use Rattle.xml_doc.specs.Rows.{RowOf}
use Rattle.xml_doc.specs.Shape.{row_at, IsWellShaped}
use Rattle.xml_doc.specs.declared.row.Kind.{Kind}
use Rattle.xml_doc.specs.declared.row.Kind.TheVariants as kinds
use Rattle.row_spans.specs.TextAlone.{is_plain_kind, HasTextAlone}

pub field_plain : (kind : Kind) → is_field kind ≡ true → is_plain_kind kind ≡ true
field_plain kinds.Root e = absurd (false≢true e)
field_plain kinds.Element e = absurd (false≢true e)
field_plain kinds.Namespace e = refl
field_plain kinds.Attribute e = refl
field_plain kinds.Text e = absurd (false≢true e)
field_plain kinds.Comment e = absurd (false≢true e)
field_plain kinds.Instruction e = absurd (false≢true e)

inner_not_plain : (kind : Kind) → is_inner kind ≡ true → is_plain_kind kind ≡ true → ⊥
inner_not_plain kinds.Root e p = false≢true p
inner_not_plain kinds.Element e p = false≢true p
inner_not_plain kinds.Namespace e p = false≢true e
inner_not_plain kinds.Attribute e p = false≢true e
inner_not_plain kinds.Text e p = false≢true e
inner_not_plain kinds.Comment e p = false≢true e
inner_not_plain kinds.Instruction e p = false≢true e

module _ (rows : List RowOf) (x : ℕ) (shape : IsWellShaped rows) (within : x < length rows) (texts : (y : ℕ) → y < length rows → is_child rows x y ≡ true → (row_at rows y).kind ≡ kinds.Text) where
  child_plain : (k : ℕ) → k < length rows → 0 < k → (row_at rows k).parent ≡ x → is_plain_kind (row_at rows k).kind ≡ true
  child_plain k lt some parent = by (is_field (row_at rows k).kind) refl
    where
      by : (b : Bool) → is_field (row_at rows k).kind ≡ b → is_plain_kind (row_at rows k).kind ≡ true
      by true e = field_plain (row_at rows k).kind e
      by false e =
          let child : is_child rows x k ≡ true = both (nat_lt 0 k) (eqb (row_at rows k).parent x) (not (is_field (row_at rows k).kind)) (lt-ltb 0 k some) (eq-eqb (row_at rows k).parent x parent) (ap not e) in
          ap is_plain_kind (texts k lt child)
        where
          both : (a b c : Bool) → a ≡ true → b ≡ true → c ≡ true → (a && b && c) ≡ true
          both true true true e f g = refl
          both true true false e f g = g
          both true false c e f g = absurd (false≢true f)
          both false b c e f g = absurd (false≢true e)

  below_plain : (fuel k : ℕ) → k < fuel → x < k → k ≤ (row_at rows x).last → k < length rows → is_plain_kind (row_at rows k).kind ≡ true
  below_plain zero k f lt le inside = absurd (omega (arith, f))
  below_plain (suc fuel) k f lt le inside =
      let parent = shape.nesting.parent_before k (omega (arith, lt)) inside in
      let inner = shape.nesting.parent_inner k inside in
      at (below_plain fuel) parent inner (cases_lt (row_at rows k).parent x) (cases_lt x (row_at rows k).parent)
    where
      at : ((j : ℕ) → j < fuel → x < j → j ≤ (row_at rows x).last → j < length rows → is_plain_kind (row_at rows j).kind ≡ true) → (row_at rows k).parent < k → is_inner (row_at rows (row_at rows k).parent).kind ≡ true → (((row_at rows k).parent < x) ⊎ (x ≤ (row_at rows k).parent)) → ((x < (row_at rows k).parent) ⊎ ((row_at rows k).parent ≤ x)) → is_plain_kind (row_at rows k).kind ≡ true
      at again parent inner (inl less) other = absurd (omega (arith, shape.nesting.ended k x inside less lt, le))
      at again parent inner (inr ge) (inl more) =
          absurd (inner_not_plain (row_at rows (row_at rows k).parent).kind inner (again (row_at rows k).parent (omega (arith, f, parent)) more (omega (arith, parent, le)) (omega (arith, parent, inside))))
      at again parent inner (inr ge) (inr le') = child_plain k inside (omega (arith, lt)) (omega (arith, ge, le'))

  last_small : (fuel y : ℕ) → y < fuel → y < length rows → (row_at rows y).last < length rows
  last_small zero y f lt = absurd (omega (arith, f))
  last_small (suc fuel) zero f lt = omega (arith, shape.root_last)
  last_small (suc fuel) (suc y) f lt =
      let parent = shape.nesting.parent_before (suc y) (omega arith) lt in
      omega (arith, shape.nesting.last_within (suc y) lt, last_small fuel (row_at rows (suc y)).parent (omega (arith, f, parent)) (omega (arith, parent, lt)))

  pub alone : (row_at rows x).kind ≡ kinds.Element → HasTextAlone rows x
  alone element =
      let small = last_small (suc x) x (omega arith) within in
      record { within = within; element = element; alone = λ k lt le. below_plain (suc k) k (omega arith) lt le (omega (arith, le, small)) }

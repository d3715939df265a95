-- How many entries the open rows have.
use Rattle.std.proofs.Common.{◌≡◌, ℕ, zero, suc, ◌+◌, ◌-◌, ◌<◌, ◌≤◌, ◌⊎◌, Bool, true, false, cond, List, length, ap, sym, ◌∙◌, arith, inl, inr}
use Rattle.std.proofs.lemmas.Bool.{cases_eq, cases_lt}
use Rattle.std.proofs.lemmas.List.FromFn.{length-range_with_len}
use Rattle.xml_doc.specs.Kinds.{is_element}
use Rattle.xml_doc.specs.Rows.{RowOf}
use Rattle.xml_doc.specs.Shape.{IsWellShaped}
use Rattle.xml_doc.specs.Fields.{namespace_rows, attribute_rows, OwnRowsStand}
use Rattle.c14n_text.specs.Rows.{kind_of, parent_of}
use Rattle.c14n_text.specs.Code.Rows.{last_of}
use Rattle.c14n_text.proofs.TreeLemmas.{chain-root}
use Rattle.c14n_text.proofs.RowTree.{tree_of}
use Rattle.std.specs.List.{filter}
use Rattle.c14n_text.specs.Bases.{is_base}
use Rattle.c14n_rows.specs.declared.renderer.Counted.{Counted}
use Rattle.c14n_rows.specs.declared.renderer.Counted.TheVariants.{Entries, Values}
use Rattle.c14n_rows.specs.Joined.{weights}
use Rattle.c14n_rows.specs.Stacks.{upwards, count_of, total}
use Rattle.c14n_rows.specs.Code.Stacks.{counted_of, IsOpen}
use Rattle.c14n_rows.proofs.StackLemmas.{no_attributes}
use Rattle.c14n_rows.proofs.Chains.{chain-more, parent_there}

pub count_element : (rows : List RowOf) (x first fin : ℕ) → is_element (kind_of rows x) ≡ true → OwnRowsStand rows x first fin → fin - x ≡ count_of rows x
count_element rows x first fin is own =
    let n = ap (length {A = ℕ}) own.namespaces in let m = ap (length {A = ℕ}) own.attributes in
    let k = length-range_with_len (x + 1) (first - (x + 1)) in let l = length-range_with_len first (fin - first) in
    let behind = own.behind in let ordered = own.ordered in
    let e : fin - x ≡ 1 + length (namespace_rows rows x) + length (attribute_rows rows x) = omega arith in
    e ∙ sym (ap (λ (t : Bool). cond t (1 + length (namespace_rows rows x) + length (attribute_rows rows x)) 0) is)

pub count_other : (rows : List RowOf) (x : ℕ) → is_element (kind_of rows x) ≡ false → 0 ≡ count_of rows x
count_other rows x is = sym (ap (λ (t : Bool). cond t (1 + length (namespace_rows rows x) + length (attribute_rows rows x)) 0) is)

pub counted_other : (rows : List RowOf) → IsWellShaped rows → (counted : Counted) (x : ℕ) → is_element (kind_of rows x) ≡ false → 0 ≡ counted_of counted rows x
counted_other rows w Entries x is = count_other rows x is
counted_other rows w Values x is = sym (ap (λ (ys : List ℕ). weights rows (filter (is_base rows) ys)) (no_attributes rows w x is))

module _ (rows : List RowOf) (w : IsWellShaped rows) (count : ℕ → ℕ) where
  pub total-more : (x : ℕ) → (x ≡ 0 → ⊥) → x < length rows → total count (upwards rows x) ≡ total count (upwards rows (parent_of rows x)) + count x
  total-more x not_root lt = ap (total count) (chain-more rows w x not_root lt)

  pub total-root : total count (upwards rows 0) ≡ 0
  total-root = ap (total count) (chain-root (length rows) (parent_of rows) w.some)

  pub open-begin : IsOpen rows count 0 1 0
  open-begin = record {
    before = omega arith;
    there = w.some;
    ended = λ (x : ℕ) (lt : 0 < x) (near : x < 1). absurd (omega arith);
    counted = sym total-root;
  }

  pub open-leave : (top next entries later : ℕ) → IsOpen rows count top next entries → (top ≡ 0 → ⊥) → last_of rows top < next → later ≡ entries - count top → IsOpen rows count (parent_of rows top) next later
  open-leave top next entries later h not_root passed is =
      let before = h.before in let up = w.nesting.parent_before top (omega arith) h.there in
      let all = total-more top not_root h.there in let counted = h.counted in
      record {
        before = omega arith;
        there = parent_there rows w top h.there;
        ended = λ (x : ℕ) (lt : parent_of rows top < x) (near : x < next). elim (cases_lt top x) [
          | inl behind ↦ h.ended x behind near
          | inr le ↦ elim (cases_eq x top) [
            | inl same ↦ let e : last_of rows x ≡ last_of rows top = ap (last_of rows) same in omega arith
            | inr other ↦ let gone = w.nesting.ended top x h.there lt (omega arith) in omega arith
          ]
        ];
        counted = omega arith;
      }

  pub enough : (top next entries : ℕ) → IsOpen rows count top next entries → (top ≡ 0 → ⊥) → count top ≤ entries
  enough top next entries h not_root = let all = total-more top not_root h.there in let counted = h.counted in omega arith

  -- a row that has not ended is the parent of the next one
  pub open-parent : (top next entries : ℕ) → IsOpen rows count top next entries → (top ≡ 0) ⊎ (next ≤ last_of rows top) → next < length rows → parent_of rows next ≡ top
  open-parent top next entries h reached lt =
      let before = h.before in
      let reaches : next ≤ last_of rows top = elim reached [
        | inl root ↦ let e : last_of rows top ≡ last_of rows 0 = ap (last_of rows) root in let whole = w.root_last in omega arith
        | inr le ↦ le
      ] in
      let up = w.nesting.parent_before next (omega arith) lt in
      let low = (tree_of rows w).below top next before lt reaches in
      elim (cases_eq (parent_of rows next) top) [
        | inl same ↦ same
        | inr other ↦ let gone = h.ended (parent_of rows next) (omega arith) up in let inside = w.nesting.last_within next lt in let own = w.nesting.last_from next lt in absurd (omega arith)
      ]

  pub open-enter : (top next entries : ℕ) → IsOpen rows count top next entries → parent_of rows next ≡ top → next < length rows → IsOpen rows count next (next + 1) (entries + count next)
  open-enter top next entries h up lt =
      let before = h.before in
      let all = total-more next (λ (z : next ≡ 0). omega arith) lt in let counted = h.counted in
      let e : total count (upwards rows (parent_of rows next)) ≡ total count (upwards rows top) = ap (λ (y : ℕ). total count (upwards rows y)) up in
      record {
        before = omega arith;
        there = lt;
        ended = λ (x : ℕ) (behind : next < x) (near : x < next + 1). absurd (omega arith);
        counted = omega arith;
      }

  -- what is known of the rows before row next goes on to the next one
  pub first_most : (x : ℕ) → x < 1 → total count (upwards rows x) ≤ 0
  first_most x lt = let z : x ≡ 0 = omega arith in let e = ap (λ (y : ℕ). total count (upwards rows y)) z in let root = total-root in omega arith

  pub next_most : (next entries n bound : ℕ) → IsOpen rows count next (next + 1) (entries + n) → entries + n ≤ bound → ((x : ℕ) → x < next → total count (upwards rows x) ≤ bound)
      → (x : ℕ) → x < next + 1 → total count (upwards rows x) ≤ bound
  next_most next entries n bound h le most x lt = elim (cases_lt x next) [
    | inl earlier ↦ most x earlier
    | inr ge ↦ let same : x ≡ next = omega arith in let e = ap (λ (y : ℕ). total count (upwards rows y)) same in let counted = h.counted in omega arith
  ]

  -- an element above another has no more
  pub total-above : (y x : ℕ) → y ≤ x → x ≤ last_of rows y → x < length rows → total count (upwards rows y) ≤ total count (upwards rows x)
  total-above y x le within lt = go x x (omega arith) le within lt
    where
      go : (fuel x : ℕ) → x ≤ fuel → y ≤ x → x ≤ last_of rows y → x < length rows → total count (upwards rows y) ≤ total count (upwards rows x)
      go zero x few le within lt = let same : y ≡ x = omega arith in let e = ap (λ (z : ℕ). total count (upwards rows z)) same in omega arith
      go (suc fuel) x few le within lt = elim (cases_eq y x) [
        | inl same ↦ let e = ap (λ (z : ℕ). total count (upwards rows z)) same in omega arith
        | inr other ↦
            let behind : y < x = omega arith in
            let up = w.nesting.parent_before x (omega arith) lt in
            let low = (tree_of rows w).below y x behind lt within in
            let ih = go fuel (parent_of rows x) (omega arith) low (omega arith) (omega arith) in
            let all = total-more x (λ (z : x ≡ 0). omega arith) lt in
            omega arith
      ]

  -- a walk that begins at row `start`, with the sum of what stands above it
  pub open-at : (start sum : ℕ) → 0 < start → start < length rows → sum ≡ total count (upwards rows (parent_of rows start)) → IsOpen rows count (parent_of rows start) start sum
  open-at start sum pos lt is = record {
    before = w.nesting.parent_before start pos lt;
    there = parent_there rows w start lt;
    ended = λ (x : ℕ) (behind : parent_of rows start < x) (near : x < start). w.nesting.ended start x lt behind near;
    counted = is;
  }

  -- the same from a row on
  pub next_most_from : (start next entries n bound : ℕ) → IsOpen rows count next (next + 1) (entries + n) → entries + n ≤ bound → ((x : ℕ) → start ≤ x → x < next → total count (upwards rows x) ≤ bound)
      → (x : ℕ) → start ≤ x → x < next + 1 → total count (upwards rows x) ≤ bound
  next_most_from start next entries n bound h le most x ge lt = elim (cases_lt x next) [
    | inl earlier ↦ most x ge earlier
    | inr at ↦ let same : x ≡ next = omega arith in let e = ap (λ (y : ℕ). total count (upwards rows y)) same in let counted = h.counted in omega arith
  ]

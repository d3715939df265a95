-- What stands on the stack of `xml:` attributes.
use Rattle.std.proofs.Common.{◌≡◌, ℕ, suc, ◌+◌, ◌-◌, ◌<◌, ◌≤◌, Bool, true, false, cond, List, [], ◌∷◌, ◌++◌, length, take, reverse, refl, ap, sym, ◌∙◌, arith, inl, inr, append_assoc, length-append}
use Rattle.std.specs.List.{filter, flat_map, range_with_len}
use Rattle.std.proofs.lemmas.List.{reverse-append, length-reverse}
use Rattle.std.proofs.lemmas.List.Elements.{filter-append}
use Rattle.std.proofs.Math.Seq.{take-append_seam}
use Rattle.std.proofs.lemmas.Bool.{cases_Bool}
use Rattle.xml_doc.proofs.Numbers.{range-append}
use Rattle.xml_doc.specs.Kinds.{is_element}
use Rattle.xml_doc.specs.Rows.{RowOf}
use Rattle.xml_doc.specs.Shape.{IsWellShaped}
use Rattle.xml_doc.specs.Fields.{namespace_rows, attribute_rows}
use Rattle.c14n_text.specs.Rows.{kind_of, parent_of}
use Rattle.c14n_text.specs.Attributes.{is_xml, xml_attributes}
use Rattle.c14n_rows.specs.Stacks.{upwards, count_of, total}
use Rattle.c14n_rows.specs.Code.Stacks.{xml_at}
use Rattle.xml_doc.proofs.Ranges.{numbers, numbers-more, numbers-end}
use Rattle.c14n_rows.proofs.StackLemmas.{xml_at-more, no_attributes}

-- a range that is counted from its first on
pub count-more : (p : ℕ → Bool) (i b : ℕ) → i < b → length (filter p (numbers i b)) ≡ cond (p i) 1 0 + length (filter p (numbers (i + 1) b))
count-more p i b lt = ap (λ (ys : List ℕ). length (filter p ys)) (numbers-more i b lt) ∙ go (p i)
  where
    go : (t : Bool) → length (cond t (i ∷ filter p (numbers (i + 1) b)) (filter p (numbers (i + 1) b))) ≡ cond t 1 0 + length (filter p (numbers (i + 1) b))
    go true = omega arith
    go false = omega arith

pub count-end : (p : ℕ → Bool) (i b : ℕ) → b ≤ i → length (filter p (numbers i b)) ≡ 0
count-end p i b le = ap (λ (ys : List ℕ). length (filter p ys)) (numbers-end i b le)

pub counted-one : (p : ℕ → Bool) (i b count sum from : ℕ) → i < b → true ≡ p i → count + from ≤ i → count + length (filter p (numbers i b)) ≡ sum → (count + 1 + from ≤ i + 1) × (count + 1 + length (filter p (numbers (i + 1) b)) ≡ sum)
counted-one p i b count sum from lt is few e = let n = count-more p i b lt in let one : cond {A = ℕ} (p i) 1 0 ≡ 1 = ap (λ (t : Bool). cond {A = ℕ} t 1 0) (sym is) in (omega arith, omega (arith, n, one))

pub counted-none : (p : ℕ → Bool) (i b count sum from : ℕ) → i < b → false ≡ p i → count + from ≤ i → count + length (filter p (numbers i b)) ≡ sum → (count + from ≤ i + 1) × (count + length (filter p (numbers (i + 1) b)) ≡ sum)
counted-none p i b count sum from lt is few e = let n = count-more p i b lt in let none : cond {A = ℕ} (p i) 1 0 ≡ 0 = ap (λ (t : Bool). cond {A = ℕ} t 1 0) (sym is) in (omega arith, omega (arith, n, none))

-- a range that is read from its last on
pub last_of_numbers : (p : ℕ → Bool) (i b : ℕ) → i < b → reverse (filter p (numbers i b)) ≡ cond (p (b - 1)) ((b - 1) ∷ []) [] ++ reverse (filter p (numbers i (b - 1)))
last_of_numbers p i b lt =
    let n : b - i ≡ (b - 1 - i) + 1 = omega arith in
    let at : i + (b - 1 - i) ≡ b - 1 = omega arith in
    ap (λ (m : ℕ). reverse (filter p (range_with_len i m))) n
    ∙ ap (λ (ys : List ℕ). reverse (filter p ys)) (range-append i (b - 1 - i) 1)
    ∙ ap (λ (m : ℕ). reverse (filter p (numbers i (b - 1) ++ range_with_len m 1))) at
    ∙ ap (reverse {A = ℕ}) (filter-append p (numbers i (b - 1)) ((b - 1) ∷ []))
    ∙ reverse-append (filter p (numbers i (b - 1))) (filter p ((b - 1) ∷ []))
    ∙ ap (λ (ys : List ℕ). ys ++ reverse (filter p (numbers i (b - 1)))) (one (p (b - 1)))
  where
    one : (t : Bool) → reverse (cond t ((b - 1) ∷ []) []) ≡ cond t ((b - 1) ∷ []) []
    one true = refl
    one false = refl

pub few_filtered : (p : ℕ → Bool) (xs : List ℕ) → length (filter p xs) ≤ length xs
few_filtered p [] = omega arith
few_filtered p (x ∷ xs) = go (p x) (few_filtered p xs)
  where
    go : (t : Bool) → length (filter p xs) ≤ length xs → length (cond t (x ∷ filter p xs) (filter p xs)) ≤ suc (length xs)
    go true le = omega arith
    go false le = omega arith

module _ (rows : List RowOf) (w : IsWellShaped rows) where
  few_attributes : (x : ℕ) → length (xml_attributes rows x) ≤ count_of rows x
  few_attributes x = elim (cases_Bool (is_element (kind_of rows x))) [
    | inl is ↦ let n = ap (λ (t : Bool). cond t (1 + length (namespace_rows rows x) + length (attribute_rows rows x)) 0) is in let few = few_filtered (is_xml rows) (attribute_rows rows x) in omega arith
    | inr is ↦ let n : length (xml_attributes rows x) ≡ 0 = ap (λ (ys : List ℕ). length (filter (is_xml rows) ys)) (no_attributes rows w x is) in omega arith
  ]

  few_above : (xs : List ℕ) → length (flat_map (xml_attributes rows) xs) ≤ total (count_of rows) xs
  few_above [] = omega arith
  few_above (x ∷ xs) =
      let n = length-append (xml_attributes rows x) (flat_map (xml_attributes rows) xs) in
      let one = few_attributes x in let more = few_above xs in
      omega arith

  pub xml_room : (x capacity : ℕ) → total (count_of rows) (upwards rows x) ≤ capacity → length (xml_at rows x) ≤ capacity
  xml_room x capacity room =
      let few = few_above (upwards rows x) in
      let n = length-reverse (flat_map (xml_attributes rows) (upwards rows x)) in
      omega arith

  module _ (x first fin : ℕ) (pos : 0 < x) (there : x < length rows) (own : attribute_rows rows x ≡ range_with_len first (fin - first)) where
    pub xml_entered : xml_at rows x ≡ xml_at rows (parent_of rows x) ++ reverse (filter (is_xml rows) (numbers first fin))
    xml_entered = xml_at-more rows w x (λ (z : x ≡ 0). omega arith) there ∙ ap (λ (ys : List ℕ). xml_at rows (parent_of rows x) ++ reverse (filter (is_xml rows) ys)) own

    pub xml_entered_length : length (xml_at rows x) ≡ length (xml_at rows (parent_of rows x)) + length (filter (is_xml rows) (numbers first fin))
    xml_entered_length =
        let n = ap (length {A = ℕ}) xml_entered in
        let m = length-append (xml_at rows (parent_of rows x)) (reverse (filter (is_xml rows) (numbers first fin))) in
        let k = length-reverse (filter (is_xml rows) (numbers first fin)) in
        omega arith

    pub xml_left : (on_xml : List ℕ) (m : ℕ) → on_xml ≡ xml_at rows x → m ≡ length on_xml - length (filter (is_xml rows) (numbers first fin)) → take m on_xml ≡ xml_at rows (parent_of rows x)
    xml_left on_xml m are is_m =
        let n = ap (length {A = ℕ}) are in
        let l = xml_entered_length in
        let e : m ≡ length (xml_at rows (parent_of rows x)) = omega arith in
        ap (λ (k : ℕ). take k on_xml) e ∙ ap (take (length (xml_at rows (parent_of rows x)))) (are ∙ xml_entered)
        ∙ take-append_seam (xml_at rows (parent_of rows x)) (reverse (filter (is_xml rows) (numbers first fin)))

-- a step of the loop that puts them on the stack
pub put_one : (p : ℕ → Bool) (on_xml whole : List ℕ) (i b : ℕ) → i < b → p (b - 1) ≡ true → on_xml ++ reverse (filter p (numbers i b)) ≡ whole → (on_xml ++ (b - 1) ∷ []) ++ reverse (filter p (numbers i (b - 1))) ≡ whole
put_one p on_xml whole i b lt is e =
    append_assoc on_xml ((b - 1) ∷ []) (reverse (filter p (numbers i (b - 1))))
    ∙ ap (λ (t : Bool). on_xml ++ (cond t ((b - 1) ∷ []) [] ++ reverse (filter p (numbers i (b - 1))))) (sym is)
    ∙ ap (λ (ys : List ℕ). on_xml ++ ys) (sym (last_of_numbers p i b lt)) ∙ e

pub put_none : (p : ℕ → Bool) (on_xml whole : List ℕ) (i b : ℕ) → i < b → p (b - 1) ≡ false → on_xml ++ reverse (filter p (numbers i b)) ≡ whole → on_xml ++ reverse (filter p (numbers i (b - 1))) ≡ whole
put_none p on_xml whole i b lt is e =
    ap (λ (t : Bool). on_xml ++ (cond t ((b - 1) ∷ []) [] ++ reverse (filter p (numbers i (b - 1))))) (sym is)
    ∙ ap (λ (ys : List ℕ). on_xml ++ ys) (sym (last_of_numbers p i b lt)) ∙ e

pub put_room : (p : ℕ → Bool) (on_xml whole : List ℕ) (i b : ℕ) → i < b → p (b - 1) ≡ true → on_xml ++ reverse (filter p (numbers i b)) ≡ whole → length on_xml < length whole
put_room p on_xml whole i b lt is e =
    let n = ap (length {A = ℕ}) (put_one p on_xml whole i b lt is e) in
    let m = length-append (on_xml ++ (b - 1) ∷ []) (reverse (filter p (numbers i (b - 1)))) in
    let k = length-append on_xml ((b - 1) ∷ []) in
    omega arith

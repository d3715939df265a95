-- The slots of the innermost open element, and a search through them from the top of the stack.
use Rattle.std.proofs.Common.{◌≡◌, ℕ, zero, suc, ◌+◌, ◌-◌, ◌<◌, ◌≤◌, ◌||◌, Bool, true, false, cond, eqb, Option, Some, None, IfSome, List, [], ◌∷◌, ◌++◌, length, map, take, drop, get_or, refl, ap, sym, ◌∙◌, arith, inl, inr, append_assoc, append-nil, length-append}
use Rattle.std.specs.List.{All, filter, find, list_any, range_with_len}
use Rattle.std.specs.Str.{bytes_eq}
use Rattle.std.proofs.lemmas.Bool.{cases_lt, cases_eq, false≢true, eqb-true, eq-eqb, ne_eqb, and_parts, and_from, or_parts, false_from_ne_true}
use Rattle.std.proofs.lemmas.Slice.Eq.{bytes_eq-Decides}
use Rattle.std.proofs.lemmas.List.{get_or-append_right, take-append-le}
use Rattle.std.proofs.lemmas.List.FromFn.{length-range_with_len, get_or-map-range_with_len}
use Rattle.std.proofs.Math.Seq.{take-append_seam, take-length}
use Rattle.std.proofs.lemmas.List.Elements.{filter_passes, All-push}
use Rattle.xml_doc.specs.Kinds.{is_element, is_namespace}
use Rattle.xml_doc.specs.declared.row.Kind.TheVariants.{Element, Namespace}
use Rattle.xml_doc.specs.Rows.{RowOf}
use Rattle.xml_doc.specs.Shape.{row_at, IsWellShaped}
use Rattle.xml_doc.specs.Fields.{is_namespace_of, namespace_rows}
use Rattle.xml_doc.proofs.FieldLemmas.{namespace_is}
use Rattle.c14n_text.specs.Rows.{kind_of, parent_of}
use Rattle.c14n_text.specs.Tree.{chain_within}
use Rattle.c14n_text.specs.Namespaces.{Rule, renders}
use Rattle.c14n_rows.specs.declared.stacks.Slot.{Slot}
use Rattle.c14n_rows.specs.Code.Stacks.{frame_start, is_named, is_of, named_in, own_slot, rendered, slot, slots, slots_at, SlotFits}
use Rattle.c14n_rows.proofs.Chains.{parent_there}
use Rattle.xml_doc.proofs.Ranges.{numbers, numbers-more, numbers-end}
use Rattle.c14n_rows.proofs.NameLemmas.{find_none, namespaces_range}
use Rattle.c14n_rows.proofs.StackLemmas.{length-slots, no_namespaces, none_named, parent_element, rendered-root, slots_at-more, slots_at-root}

-- where a test passes on none of those that a filter keeps, it passes on none that the filter would keep
none_kept : (test q : ℕ → Bool) (a n k : ℕ) → list_any test (filter q (range_with_len a n)) ≡ false → a ≤ k → k < a + n → q k ≡ true → test k ≡ false
none_kept test q a zero k e le lt keeps = absurd (omega arith)
none_kept test q a (suc n) k e le lt keeps = elim (cases_lt a k) [
  | inl above ↦ none_kept test q (a + 1) n k (later (q a) e) (omega arith) (omega arith) keeps
  | inr here ↦ let same : a ≡ k = omega arith in first (q a) (ap q same ∙ keeps) same e
]
  where
    later : (t : Bool) → list_any test (cond t (a ∷ filter q (range_with_len (a + 1) n)) (filter q (range_with_len (a + 1) n))) ≡ false → list_any test (filter q (range_with_len (a + 1) n)) ≡ false
    later false f = f
    later true f = (or_parts (test a) _ f).1

    first : (t : Bool) → t ≡ true → a ≡ k → list_any test (cond t (a ∷ filter q (range_with_len (a + 1) n)) (filter q (range_with_len (a + 1) n))) ≡ false → test k ≡ false
    first false bad same f = absurd (false≢true bad)
    first true good same f = ap test (sym same) ∙ (or_parts (test a) _ f).0

-- and the other way round
none_of_them : (test q : ℕ → Bool) (a n : ℕ) → ((k : ℕ) → a ≤ k → k < a + n → q k ≡ true → test k ≡ false) → list_any test (filter q (range_with_len a n)) ≡ false
none_of_them test q a zero each = refl
none_of_them test q a (suc n) each = go (q a) refl (none_of_them test q (a + 1) n (λ (k : ℕ) (le : a + 1 ≤ k) (lt : k < a + 1 + n) (keeps : q k ≡ true). each k (omega arith) (omega arith) keeps))
  where
    go : (t : Bool) → q a ≡ t → list_any test (filter q (range_with_len (a + 1) n)) ≡ false → list_any test (cond t (a ∷ filter q (range_with_len (a + 1) n)) (filter q (range_with_len (a + 1) n))) ≡ false
    go false is rest = rest
    go true is rest = ap (λ (t : Bool). t || list_any test (filter q (range_with_len (a + 1) n))) (each a (omega arith) (omega arith) is) ∙ rest

-- an element has a namespace row of each prefix but the default that its parent has. So where an element has none of a
-- prefix, no element above it has, and nothing is rendered for the prefix
module _ (rows : List RowOf) (w : IsWellShaped rows) (p : List ℕ) (some : p ≡ [] → ⊥) where
  lacks_above : (x : ℕ) → x < length rows → kind_of rows x ≡ Element → (parent_of rows x ≡ 0 → ⊥)
      → list_any (is_of rows p) (namespace_rows rows x) ≡ false → list_any (is_of rows p) (namespace_rows rows (parent_of rows x)) ≡ false
  lacks_above x lt is not_root none =
      none_of_them (is_of rows p) (is_namespace_of rows (parent_of rows x)) 1 (length rows - 1)
      (λ (k : ℕ) (le : 1 ≤ k) (in_range : k < 1 + (length rows - 1)) (keeps : is_namespace_of rows (parent_of rows x) k ≡ true).
      let both = and_parts (is_namespace (row_at rows k).kind) (eqb (parent_of rows k) (parent_of rows x)) keeps in
      let kind = namespace_is (row_at rows k).kind both.0 in
      let up = eqb-true (parent_of rows k) (parent_of rows x) both.1 in
      false_from_ne_true (is_of rows p k)
      (λ (named : is_of rows p k ≡ true).
      let name = (bytes_eq-Decides (row_at rows k).local_name p).0 named in
      let own = w.namespaces.inherits k x lt is (omega arith) kind up (λ (empty : (row_at rows k).local_name ≡ []). some (sym name ∙ empty)) in
      let j = own.0 in
      let own_kind : is_namespace (row_at rows j).kind ≡ true = ap is_namespace own.2 in
      let own_parent : eqb (parent_of rows j) x ≡ true = eq-eqb (parent_of rows j) x own.3 in
      let pos : 1 ≤ j = behind_root j own.2 in
      let fails = none_kept (is_of rows p) (is_namespace_of rows x) 1 (length rows - 1) j none pos (omega (arith, own.1)) (and_from (is_namespace (row_at rows j).kind) (eqb (parent_of rows j) x) own_kind own_parent) in
      false≢true (sym fails ∙ ap (λ (n : List ℕ). bytes_eq n p) own.4 ∙ named)))
    where
      behind_root : (j : ℕ) → (row_at rows j).kind ≡ Namespace → 1 ≤ j
      behind_root zero k = let root = w.root_kind in cc
      behind_root (suc j) k = omega arith

  nothing_in : (set : ℕ → Bool) (rule : Rule) (n x : ℕ) → x < length rows → ((x ≡ 0 → ⊥) → (kind_of rows x ≡ Element) × (list_any (is_of rows p) (namespace_rows rows x) ≡ false))
      → named_in rows set p (find (renders rows set rule p) (chain_within (parent_of rows) n x)) ≡ None
  nothing_in set rule zero x lt lacks = refl
  nothing_in set rule (suc n) x lt lacks = go (eqb x 0) refl (nothing_in set rule n (parent_of rows x) (parent_there rows w x lt))
    where
      at : (x ≡ 0 → ⊥) → (t : Bool) → named_in rows set p (find (renders rows set rule p) (chain_within (parent_of rows) n (parent_of rows x))) ≡ None
          → named_in rows set p (cond t (Some x) (find (renders rows set rule p) (chain_within (parent_of rows) n (parent_of rows x)))) ≡ None
      at not_root true rest = find_none (is_named rows set p) (namespace_rows rows x) (none_named rows set p (namespace_rows rows x) (lacks not_root).1)
      at not_root false rest = rest

      go : (t : Bool) → eqb x 0 ≡ t
          → (((parent_of rows x ≡ 0 → ⊥) → (kind_of rows (parent_of rows x) ≡ Element) × (list_any (is_of rows p) (namespace_rows rows (parent_of rows x)) ≡ false)) → named_in rows set p (find (renders rows set rule p) (chain_within (parent_of rows) n (parent_of rows x))) ≡ None)
          → named_in rows set p (find (renders rows set rule p) (cond t [] (x ∷ chain_within (parent_of rows) n (parent_of rows x)))) ≡ None
      go true is higher = refl
      go false is higher =
          let not_root : x ≡ 0 → ⊥ = λ (e : x ≡ 0). false≢true (sym is ∙ eq-eqb x 0 e) in
          at not_root (renders rows set rule p x)
          (higher (λ (inner : parent_of rows x ≡ 0 → ⊥). (parent_element rows w x lt inner, lacks_above x lt (lacks not_root).0 inner (lacks not_root).1)))

  pub nothing_rendered : (set : ℕ → Bool) (rule : Rule) (x : ℕ) → x < length rows → kind_of rows x ≡ Element → list_any (is_of rows p) (namespace_rows rows x) ≡ false → rendered rows set rule p x ≡ None
  nothing_rendered set rule x lt is none = nothing_in set rule (length rows) x lt (λ (not_root : x ≡ 0 → ⊥). (is, none))

-- a search through the slots of element `top`, from the last on, for its own: it is none of those from place i on
pub record Searched (rows : List RowOf) (set : ℕ → Bool) (rule : Rule) (top : ℕ) (on_slots : List Slot) (i : ℕ) : Type 0 where
  pub within : i ≤ length on_slots
  pub above_base : (top ≡ 0 → ⊥) → length (slots_at rows set rule (parent_of rows top)) < i

drop_behind : {X : Type 0} (xs ys : List X) (y : X) → drop (length xs + 1) (xs ++ y ∷ ys) ≡ ys
drop_behind [] ys y = refl
drop_behind (x ∷ xs) ys y =
    let e : length (x ∷ xs) + 1 ≡ suc (length xs + 1) = omega arith in
    ap (λ (n : ℕ). drop n (x ∷ (xs ++ y ∷ ys))) e ∙ drop_behind xs ys y

get_or-map : (f : ℕ → Slot) (xs : List ℕ) (k : ℕ) (d : Slot) → k < length xs → get_or (map f xs) k d ≡ f (get_or xs k 0)
get_or-map f [] k d lt = absurd (omega arith)
get_or-map f (x ∷ xs) zero d lt = refl
get_or-map f (x ∷ xs) (suc k) d lt = get_or-map f xs k d (omega arith)

pub element_slots : (rows : List RowOf) (set : ℕ → Bool) (rule : Rule) (x : ℕ) → is_element (kind_of rows x) ≡ true → slots rows set rule x ≡ own_slot rows set rule x ∷ map (slot rows set rule x) (namespace_rows rows x)
element_slots rows set rule x is = ap (λ (t : Bool). cond t (own_slot rows set rule x ∷ map (slot rows set rule x) (namespace_rows rows x)) []) is

module _ (rows : List RowOf) (w : IsWellShaped rows) (set : ℕ → Bool) (rule : Rule) (top : ℕ) (there : top < length rows) (inner : (top ≡ 0 → ⊥) → kind_of rows top ≡ Element) (on_slots : List Slot) (are : on_slots ≡ slots_at rows set rule top) where
  abbrev below : List Slot
  below = slots_at rows set rule (parent_of rows top)

  frame : (top ≡ 0 → ⊥) → on_slots ≡ below ++ own_slot rows set rule top ∷ map (slot rows set rule top) (namespace_rows rows top)
  frame not_root = are ∙ slots_at-more rows set rule w top not_root there ∙ ap (λ (t : List Slot). below ++ t) (element_slots rows set rule top (ap is_element (inner not_root)))

  frame_length : (top ≡ 0 → ⊥) → length on_slots ≡ length below + 1 + length (namespace_rows rows top)
  frame_length not_root =
      let n = ap (length {A = Slot}) (frame not_root) in
      let m = length-append below (own_slot rows set rule top ∷ map (slot rows set rule top) (namespace_rows rows top)) in
      let k = length-slots (slot rows set rule top) (namespace_rows rows top) in
      omega arith

  pub searched-begin : (len : ℕ) → len ≡ length on_slots → Searched rows set rule top on_slots len
  searched-begin len is = record {
    within = omega arith;
    above_base = λ (not_root : top ≡ 0 → ⊥). let n = frame_length not_root in omega arith;
  }

  root_none : top ≡ 0 → on_slots ≡ []
  root_none root = are ∙ ap (slots_at rows set rule) root ∙ slots_at-root rows set rule w

  some_left : (i : ℕ) → Searched rows set rule top on_slots i → 0 < i → top ≡ 0 → ⊥
  some_left i s pos root =
      let n = ap (length {A = Slot}) (root_none root) in
      let le = s.within in omega arith

  -- the slot at place j is that of top itself, or that of a namespace row
  at_base : (not_root : top ≡ 0 → ⊥) (j : ℕ) (d : Slot) → j ≡ length below → get_or on_slots j d ≡ own_slot rows set rule top
  at_base not_root j d e =
      ap (λ (t : List Slot). get_or t j d) (frame not_root)
      ∙ get_or-append_right below (own_slot rows set rule top ∷ map (slot rows set rule top) (namespace_rows rows top)) (length below) j d refl (omega arith)
      ∙ (let z : j - length below ≡ 0 = omega arith in ap (λ (k : ℕ). get_or (own_slot rows set rule top ∷ map (slot rows set rule top) (namespace_rows rows top)) k d) z)

  above : (not_root : top ≡ 0 → ⊥) (j k : ℕ) (d : Slot) → j ≡ length below + 1 + k → k < length (namespace_rows rows top) → get_or on_slots j d ≡ slot rows set rule top (get_or (namespace_rows rows top) k 0)
  above not_root j k d e lt =
      ap (λ (t : List Slot). get_or t j d) (frame not_root)
      ∙ get_or-append_right below (own_slot rows set rule top ∷ map (slot rows set rule top) (namespace_rows rows top)) (length below) j d refl (omega arith)
      ∙ (let z : j - length below ≡ suc k = omega arith in ap (λ (m : ℕ). get_or (own_slot rows set rule top ∷ map (slot rows set rule top) (namespace_rows rows top)) m d) z)
      ∙ get_or-map (slot rows set rule top) (namespace_rows rows top) k d lt

  -- a namespace row isn't its element
  not_itself : (not_root : top ≡ 0 → ⊥) (k : ℕ) → k < length (namespace_rows rows top) → get_or (namespace_rows rows top) k 0 ≡ top → ⊥
  not_itself not_root k lt same =
      let passes = filter_passes (is_namespace_of rows top) (range_with_len 1 (length rows - 1)) k 0 lt in
      let kind = namespace_is (row_at rows (get_or (namespace_rows rows top) k 0)).kind (and_parts (is_namespace (row_at rows (get_or (namespace_rows rows top) k 0)).kind) _ passes).0 in
      let element = inner not_root in
      let both : (row_at rows top).kind ≡ Namespace = ap (λ (y : ℕ). (row_at rows y).kind) (sym same) ∙ kind in
      cc

  start_inner : (top ≡ 0 → ⊥) → frame_start rows set rule top ≡ length below + 1
  start_inner not_root = ap (λ (t : Bool). cond t 0 (length below + 1)) (ne_eqb top 0 not_root)

  start_root : top ≡ 0 → frame_start rows set rule top ≡ 0
  start_root root = ap (λ (t : Bool). cond t 0 (length below + 1)) (eq-eqb top 0 root)

  pub found_start : (i j : ℕ) (d : Slot) → Searched rows set rule top on_slots i → 0 < i → j ≡ i - 1 → (get_or on_slots j d).row ≡ top → i ≡ frame_start rows set rule top
  found_start i j d h pos e same =
      let not_root = some_left i h pos in
      let base = h.above_base not_root in
      elim (cases_lt (length below) j) [
        | inl lt ↦
            let k : ℕ = j - (length below + 1) in
            let n = frame_length not_root in let le = h.within in
            let row = above not_root j k d (omega arith) (omega arith) in
            absurd (not_itself not_root k (omega arith) (sym (ap (λ (t : Slot). t.row) row) ∙ same))
        | inr ge ↦ let is = start_inner not_root in omega arith
      ]

  pub searched-more : (i j : ℕ) (d : Slot) → Searched rows set rule top on_slots i → 0 < i → j ≡ i - 1 → ((get_or on_slots j d).row ≡ top → ⊥) → Searched rows set rule top on_slots j
  searched-more i j d h pos e differs =
      let not_root = some_left i h pos in
      let base = h.above_base not_root in
      let le = h.within in
      elim (cases_lt (length below) j) [
        | inl lt ↦ record { within = omega arith; above_base = λ (_ : top ≡ 0 → ⊥). lt }
        | inr ge ↦ absurd (differs (ap (λ (t : Slot). t.row) (at_base not_root j d (omega arith))))
      ]

  -- nothing is left: top is the root
  pub none_left : (i : ℕ) → Searched rows set rule top on_slots i → i ≤ 0 → 0 ≡ frame_start rows set rule top
  none_left i h none = elim (cases_eq top 0) [
    | inl root ↦ sym (start_root root)
    | inr not_root ↦ let base = h.above_base not_root in absurd (omega arith)
  ]

  pub start_within : frame_start rows set rule top ≤ length on_slots
  start_within = elim (cases_eq top 0) [
    | inl root ↦ let is = start_root root in omega arith
    | inr not_root ↦ let is = start_inner not_root in let n = frame_length not_root in omega arith
  ]

  -- the slot before the start is top's own
  pub default_there : (start j : ℕ) (d : Slot) → start ≡ frame_start rows set rule top → (start ≡ 0 → ⊥) → j ≡ start - 1 → (get_or on_slots j d).near ≡ rendered rows set rule [] top
  default_there start j d is some e = elim (cases_eq top 0) [
    | inl root ↦ absurd (some (is ∙ start_root root))
    | inr not_root ↦ let at = start_inner not_root in ap (λ (s : Slot). s.near) (at_base not_root j d (omega arith))
  ]

  pub default_none : (start : ℕ) → start ≡ frame_start rows set rule top → start ≡ 0 → None ≡ rendered rows set rule [] top
  default_none start is none = elim (cases_eq top 0) [
    | inl root ↦ sym (ap (rendered rows set rule []) root ∙ rendered-root rows set rule [] w)
    | inr not_root ↦ let at = start_inner not_root in absurd (omega arith)
  ]

  -- and the others come behind it
  pub frame_slots : (start : ℕ) → start ≡ frame_start rows set rule top → drop start on_slots ≡ map (slot rows set rule top) (namespace_rows rows top)
  frame_slots start is = elim (cases_eq top 0) [
    | inl root ↦
        let no_element : is_element (kind_of rows top) ≡ false = ap (λ (y : ℕ). is_element (kind_of rows y)) root ∙ ap is_element w.root_kind in
        ap (λ (n : ℕ). drop n on_slots) (is ∙ start_root root) ∙ root_none root ∙ sym (ap (map (slot rows set rule top)) (no_namespaces rows w top no_element))
    | inr not_root ↦
        ap (λ (n : ℕ). drop n on_slots) (is ∙ start_inner not_root) ∙ ap (drop (length below + 1)) (frame not_root)
        ∙ drop_behind below (map (slot rows set rule top) (namespace_rows rows top)) (own_slot rows set rule top)
  ]

-- what a row has left says for each prefix what is rendered
module _ (rows : List RowOf) (w : IsWellShaped rows) (set : ℕ → Bool) (rule : Rule) (top : ℕ) (there : top < length rows) (slots_are : List Slot) (are : slots_are ≡ map (slot rows set rule top) (namespace_rows rows top)) where
  pub frame_rows : (until : ℕ) → until ≡ top + 1 + length slots_are → (until ≤ length rows) × (namespace_rows rows top ≡ range_with_len (top + 1) (until - (top + 1)))
  frame_rows until is =
      let range = namespaces_range rows w top there in
      let fin = range.0 in let behind = range.1 in let within = range.2 in
      let n = ap (length {A = Slot}) are in let m = length-slots (slot rows set rule top) (namespace_rows rows top) in
      let k = ap (length {A = ℕ}) range.3 in let l = length-range_with_len (top + 1) (fin - (top + 1)) in
      let e : fin ≡ until = omega arith in
      (omega arith, range.3 ∙ ap (λ (f : ℕ). range_with_len (top + 1) (f - (top + 1))) e)

  pub slot_there : (until z j : ℕ) (d : Slot) (p : List ℕ) → until ≡ top + 1 + length slots_are → top < z → z < until → j ≡ z - top - 1 → (row_at rows z).local_name ≡ p → (get_or slots_are j d).near ≡ rendered rows set rule p top
  slot_there until z j d p is above lt at name =
      let range = frame_rows until is in
      ap (λ (s : Slot). s.near)
      (ap (λ (t : List Slot). get_or t j d) (are ∙ ap (map (slot rows set rule top)) range.1) ∙ get_or-map-range_with_len (slot rows set rule top) (top + 1) (until - (top + 1)) j z d (omega arith) (omega arith))
      ∙ ap (λ (q : List ℕ). rendered rows set rule q top) name

  pub slot_none : (p : List ℕ) → (p ≡ [] → ⊥) → ((top ≡ 0 → ⊥) → kind_of rows top ≡ Element) → list_any (is_of rows p) (namespace_rows rows top) ≡ false → None ≡ rendered rows set rule p top
  slot_none p some inner none = elim (cases_eq top 0) [
    | inl root ↦ sym (ap (rendered rows set rule p) root ∙ rendered-root rows set rule p w)
    | inr not_root ↦ sym (nothing_rendered rows w p some set rule top there (inner not_root) none)
  ]

-- the slots of x go on the stack one by one, behind the first `base`: those of the namespace rows from y to before `fin` are left
pub record Entering (rows : List RowOf) (set : ℕ → Bool) (rule : Rule) (x fin base : ℕ) (on_slots : List Slot) (y first room : ℕ) : Type 0 where
  pub front : take base on_slots ≡ slots_at rows set rule (parent_of rows x)
  pub rest : on_slots ++ map (slot rows set rule x) (numbers y fin) ≡ slots_at rows set rule x
  pub fit : All (SlotFits rows) on_slots
  pub long : base ≤ length on_slots
  pub kept : first ≤ room

-- what is on the stack without the slots of `top`, whose namespace rows end before row `end`
module _ (rows : List RowOf) (w : IsWellShaped rows) (set : ℕ → Bool) (rule : Rule) (x : ℕ) (pos : 0 < x) (there : x < length rows) (is : is_element (kind_of rows x) ≡ true) (fin : ℕ) (behind : x < fin) (own : namespace_rows rows x ≡ range_with_len (x + 1) (fin - (x + 1))) where
  pub entered : slots_at rows set rule x ≡ slots_at rows set rule (parent_of rows x) ++ own_slot rows set rule x ∷ map (slot rows set rule x) (numbers (x + 1) fin)
  entered =
      slots_at-more rows set rule w x (λ (z : x ≡ 0). omega arith) there
      ∙ ap (λ (t : List Slot). slots_at rows set rule (parent_of rows x) ++ t) (element_slots rows set rule x is ∙ ap (λ (ys : List ℕ). own_slot rows set rule x ∷ map (slot rows set rule x) ys) own)

  pub entered_length : length (slots_at rows set rule x) ≡ length (slots_at rows set rule (parent_of rows x)) + (fin - x)
  entered_length =
      let n = ap (length {A = Slot}) entered in
      let m = length-append (slots_at rows set rule (parent_of rows x)) (own_slot rows set rule x ∷ map (slot rows set rule x) (numbers (x + 1) fin)) in
      let k = length-slots (slot rows set rule x) (numbers (x + 1) fin) in
      let l = length-range_with_len (x + 1) (fin - (x + 1)) in
      omega arith

  pub left : (on_slots : List Slot) (m : ℕ) → on_slots ≡ slots_at rows set rule x → m ≡ length on_slots - (fin - x) → take m on_slots ≡ slots_at rows set rule (parent_of rows x)
  left on_slots m are is_m =
      let n = ap (length {A = Slot}) are in
      let l = entered_length in
      let e : m ≡ length (slots_at rows set rule (parent_of rows x)) = omega arith in
      ap (λ (k : ℕ). take k on_slots) e ∙ ap (take (length (slots_at rows set rule (parent_of rows x)))) (are ∙ entered)
      ∙ take-append_seam (slots_at rows set rule (parent_of rows x)) (own_slot rows set rule x ∷ map (slot rows set rule x) (numbers (x + 1) fin))

  pub entering-begin : (before : List Slot) (near : Option ℕ) (base first capacity : ℕ) → before ≡ slots_at rows set rule (parent_of rows x) → All (SlotFits rows) before → base ≡ length before
      → near ≡ rendered rows set rule [] x → IfSome near (λ e. e < length rows) → first ≤ capacity
      → Entering rows set rule x fin base (before ++ record { row = x; near = near } ∷ []) (x + 1) first capacity
  entering-begin before near base first capacity are fit is_base value found le = record {
    front = take-append-le base before (record { row = x; near = near } ∷ []) (omega arith) ∙ ap (λ (k : ℕ). take k before) is_base ∙ take-length before ∙ are;
    rest = append_assoc before (record { row = x; near = near } ∷ []) (map (slot rows set rule x) (numbers (x + 1) fin))
        ∙ ap (λ (t : List Slot). t ++ record { row = x; near = near } ∷ map (slot rows set rule x) (numbers (x + 1) fin)) are
        ∙ ap (λ (o : Option ℕ). slots_at rows set rule (parent_of rows x) ++ record { row = x; near = o } ∷ map (slot rows set rule x) (numbers (x + 1) fin)) value ∙ sym entered;
    fit = All-push (SlotFits rows) before (record { row = x; near = near }) fit (record { row = there; near = found });
    long = let n = length-append before (record { row = x; near = near } ∷ []) in omega arith;
    kept = le;
  }

  pub entering-more : (on_slots : List Slot) (near : Option ℕ) (base y first capacity later : ℕ) → Entering rows set rule x fin base on_slots y first capacity → y < fin → y < length rows
      → near ≡ rendered rows set rule (row_at rows y).local_name x → IfSome near (λ e. e < length rows) → capacity ≤ later
      → Entering rows set rule x fin base (on_slots ++ record { row = y; near = near } ∷ []) (y + 1) first later
  entering-more on_slots near base y first capacity later h lt here value found le = record {
    front = take-append-le base on_slots (record { row = y; near = near } ∷ []) h.long ∙ h.front;
    rest = append_assoc on_slots (record { row = y; near = near } ∷ []) (map (slot rows set rule x) (numbers (y + 1) fin))
        ∙ ap (λ (o : Option ℕ). on_slots ++ record { row = y; near = o } ∷ map (slot rows set rule x) (numbers (y + 1) fin)) value
        ∙ ap (λ (ys : List ℕ). on_slots ++ map (slot rows set rule x) ys) (sym (numbers-more y fin lt)) ∙ h.rest;
    fit = All-push (SlotFits rows) on_slots (record { row = y; near = near }) h.fit (record { row = here; near = found });
    long = let n = length-append on_slots (record { row = y; near = near } ∷ []) in let l = h.long in omega arith;
    kept = let c = h.kept in omega arith;
  }

  pub entering-end : (on_slots : List Slot) (base y first capacity : ℕ) → Entering rows set rule x fin base on_slots y first capacity → fin ≤ y → on_slots ≡ slots_at rows set rule x
  entering-end on_slots base y first capacity h le =
      sym (append-nil on_slots) ∙ ap (λ (ys : List ℕ). on_slots ++ map (slot rows set rule x) ys) (sym (numbers-end y fin le)) ∙ h.rest

  pub entering-room : (on_slots : List Slot) (base y first capacity : ℕ) → Entering rows set rule x fin base on_slots y first capacity → y < fin → length (slots_at rows set rule x) ≤ first → length on_slots < capacity
  entering-room on_slots base y first capacity h lt room =
      let n = ap (length {A = Slot}) (ap (λ (ys : List ℕ). on_slots ++ map (slot rows set rule x) ys) (sym (numbers-more y fin lt)) ∙ h.rest) in
      let m = length-append on_slots (map (slot rows set rule x) (y ∷ numbers (y + 1) fin)) in
      let c = h.kept in
      omega arith

-- What is kept of the nearest `xml:` attributes, where the stack of them grows and shrinks.
use Rattle.std.proofs.Common.{◌≡◌, ℕ, zero, suc, ◌+◌, ◌<◌, ◌≤◌, Bool, inl, inr, List, [], ◌∷◌, ◌++◌, length, take, drop, reverse, get_or, set, refl, ap, sym, ◌∙◌, subst, arith, append_assoc, length-append, length-set}
use Rattle.std.specs.List.{All, between, filter}
use Rattle.std.proofs.lemmas.Bool.{cases_eq, cases_lt}
use Rattle.std.proofs.lemmas.List.{get_or-set_same, get_or-set_other, length-reverse, length-take-le, take_all, take_more, take-append-le, take-take}
use Rattle.std.proofs.Math.Seq.{take-append_seam}
use Rattle.std.proofs.lemmas.List.Elements.{All-filter, All-same, All-take, filter-append}
use Rattle.std.proofs.lemmas.List.Sorted.{All-permutation, IsPermutation-reverse}
use Rattle.std.proofs.lemmas.Slice.{between_is, between_to_end}
use Rattle.xml_doc.specs.Rows.{RowOf}
use Rattle.xml_doc.specs.Shape.{IsWellShaped}
use Rattle.c14n_text.specs.Namespaces.{Rule}
use Rattle.c14n_text.specs.Attributes.{in_order, xml_attributes}
use Rattle.c14n_text.specs.Rows.{parent_of}
use Rattle.c14n_rows.specs.declared.nearest.Nearest.{Nearest}
use Rattle.c14n_rows.specs.declared.nearest.Part.{Part}
use Rattle.c14n_rows.specs.Code.Nearest.{inherits, last_of_parts, last_part, nearest_of, no_part, part_at, NearestAt, NotBehind, PartAt}
use Rattle.c14n_rows.specs.Code.Stacks.{xml_at}
use Rattle.c14n_rows.specs.Code.Order.{may_import}
use Rattle.c14n_rows.proofs.ImportLemmas.{halves, imports_of_nearest}
use Rattle.c14n_rows.proofs.OrderLaws.{all_in_order, few_in_order, order_again}
use Rattle.c14n_rows.proofs.StackLemmas.{xml_at-more}
use Rattle.c14n_rows.proofs.XmlLemmas.{few_filtered}

-- what is kept for entries has no other rows than they, and no more
pub all_nearest : (rows : List RowOf) (rule : Rule) (P : ℕ → Type 0) (xml : List ℕ) → All P xml → All P (nearest_of rows rule xml)
all_nearest rows rule P xml all =
    all_in_order rows P (filter (inherits rows rule) (reverse xml)) (All-filter (inherits rows rule) P (reverse xml) (All-permutation P xml (reverse xml) (IsPermutation-reverse xml) all))

pub few_nearest : (rows : List RowOf) (rule : Rule) (xml : List ℕ) → length (nearest_of rows rule xml) ≤ length xml
few_nearest rows rule xml =
    let few = few_in_order rows (filter (inherits rows rule) (reverse xml)) in
    let less = few_filtered (inherits rows rule) (reverse xml) in
    let n = length-reverse xml in
    omega arith

-- where the last part has an entry, there is a part
pub some_part : (nearest : Nearest) (n : ℕ) → n < (last_part nearest).count → 0 < nearest.used
some_part nearest n lt = go nearest.used lt
  where
    go : (u : ℕ) → n < (last_of_parts nearest u).count → 0 < u
    go zero less = absurd (omega arith)
    go (suc k) less = omega arith

-- a step of the loop over what is kept
module _ (p : ℕ → Bool) (old kept now : List ℕ) (i : ℕ) (so_far : now ≡ old ++ filter p (take i kept)) (more : i < length kept) where
  pub kept_step : (new : List ℕ) (d : ℕ) → new ≡ now ++ filter p (get_or kept i d ∷ []) → new ≡ old ++ filter p (take (i + 1) kept)
  kept_step new d is =
      is
      ∙ ap (λ (l : List ℕ). l ++ filter p (get_or kept i d ∷ [])) so_far
      ∙ append_assoc old (filter p (take i kept)) (filter p (get_or kept i d ∷ []))
      ∙ ap (λ (l : List ℕ). old ++ l) (sym (filter-append p (take i kept) (get_or kept i d ∷ [])) ∙ ap (filter p) (sym (take_more kept i d more)))

  pub kept_room : (capacity : ℕ) → length old + length kept ≤ capacity → length now < capacity
  kept_room capacity room =
      let n = ap (length {A = ℕ}) so_far in let m = length-append old (filter p (take i kept)) in
      let few = few_filtered p (take i kept) in let l = length-take-le i kept (omega arith) in
      omega arith

pub kept_end : (p : ℕ → Bool) (old kept now : List ℕ) (i : ℕ) → now ≡ old ++ filter p (take i kept) → length kept ≤ i → now ≡ old ++ filter p kept
kept_end p old kept now i so_far over = so_far ∙ ap (λ (l : List ℕ). old ++ filter p l) (take_all i kept over)

module _ (rows : List RowOf) (rule : Rule) where
  -- a part without an entry
  none_kept : (xml kept : List ℕ) → PartAt rows rule xml kept no_part
  none_kept xml kept = record { few = omega arith; ordered = omega arith; within = omega arith; are = refl }

  pub last_stands : (xml : List ℕ) (nearest : Nearest) → NearestAt rows rule xml nearest → PartAt rows rule xml nearest.rows.items (last_part nearest)
  last_stands xml nearest h = go nearest.used (omega arith)
    where
      go : (n : ℕ) → n ≤ nearest.used → PartAt rows rule xml nearest.rows.items (last_of_parts nearest n)
      go zero le = none_kept xml nearest.rows.items
      go (suc k) le = h.parts k (omega arith)

  -- no part goes behind the last one
  not_behind_last : (xml : List ℕ) (nearest : Nearest) → NearestAt rows rule xml nearest → (k : ℕ) → k < nearest.used → NotBehind (part_at nearest k) (last_part nearest)
  not_behind_last xml nearest h k lt = go nearest.used refl
    where
      go : (n : ℕ) → n ≡ nearest.used → NotBehind (part_at nearest k) (last_of_parts nearest n)
      go zero e = absurd (omega arith)
      go (suc m) e = elim (cases_eq k m) [
        | inl same ↦
            let p = ap (λ (j : ℕ). (part_at nearest j).count) same in let q = ap (λ (j : ℕ). (part_at nearest j).until) same in
            record { count = omega (arith, p); until = omega (arith, q) }
        | inr other ↦ h.ascend k m (omega arith) (omega arith)
      ]

  -- a part of a stack is one of what has the same first entries
  part_kept : (xml more kept : List ℕ) (part : Part) → PartAt rows rule xml kept part → part.count ≤ length more → take part.count more ≡ take part.count xml → PartAt rows rule more kept part
  part_kept xml more kept part h few same = record {
    few = few;
    ordered = h.ordered;
    within = h.within;
    are = h.are ∙ ap (nearest_of rows rule) (sym same);
  }

  pub nearest-taken : (xml : List ℕ) (nearest : Nearest) (count : ℕ) → NearestAt rows rule xml nearest → (last_part nearest).count ≤ count → NearestAt rows rule (take count xml) nearest
  nearest-taken xml nearest count h le = record {
    used = h.used;
    parts = λ (k : ℕ) (lt : k < nearest.used).
        let part = h.parts k lt in
        let behind = (not_behind_last xml nearest h k lt).count in
        let few = part.few in
        part_kept xml (take count xml) nearest.rows.items (part_at nearest k) part
        (few_taken (part_at nearest k).count few (omega arith))
        (take-take (part_at nearest k).count count xml (omega arith));
    ascend = h.ascend;
  }
    where
      few_taken : (n : ℕ) → n ≤ length xml → n ≤ count → n ≤ length (take count xml)
      few_taken n few small = elim (cases_lt count (length xml)) [
        | inl within ↦ let m = length-take-le count xml (omega arith) in omega arith
        | inr over ↦ let m = ap (length {A = ℕ}) (take_all count xml (omega arith)) in omega arith
      ]

  pub nearest-more : (xml more : List ℕ) (nearest : Nearest) → NearestAt rows rule xml nearest → NearestAt rows rule (xml ++ more) nearest
  nearest-more xml more nearest h = record {
    used = h.used;
    parts = λ (k : ℕ) (lt : k < nearest.used).
        let part = h.parts k lt in
        let few = part.few in let n = length-append xml more in
        part_kept xml (xml ++ more) nearest.rows.items (part_at nearest k) part (omega arith) (take-append-le (part_at nearest k).count xml more few);
    ascend = h.ascend;
  }

  -- with fewer parts
  pub nearest-fewer : (xml : List ℕ) (old new : Nearest) → NearestAt rows rule xml old → new.used ≤ old.used → new.rows.items ≡ old.rows.items → new.parts.items ≡ old.parts.items → NearestAt rows rule xml new
  nearest-fewer xml old new h le same_rows same_parts = record {
    used = let n = ap (length {A = Part}) same_parts in let used = h.used in omega arith;
    parts = λ (k : ℕ) (lt : k < new.used).
        subst (λ (kept : List ℕ). PartAt rows rule xml kept (part_at new k)) (sym same_rows)
        (subst (λ (parts : List Part). PartAt rows rule xml old.rows.items (get_or parts k no_part)) (sym same_parts) (h.parts k (omega arith)));
    ascend = λ (j k : ℕ) (before : j < k) (lt : k < new.used).
        subst (λ (parts : List Part). NotBehind (get_or parts j no_part) (get_or parts k no_part)) (sym same_parts) (h.ascend j k before (omega arith));
  }

  -- with no part
  pub nearest-none : (xml : List ℕ) (nearest : Nearest) → nearest.used ≡ 0 → NearestAt rows rule xml nearest
  nearest-none xml nearest none = record {
    used = omega arith;
    parts = λ (k : ℕ) (lt : k < nearest.used). absurd (omega arith);
    ascend = λ (j k : ℕ) (before : j < k) (lt : k < nearest.used). absurd (omega arith);
  }

  -- with one more, whose rows were written behind those of the last one
  module _ (xml : List ℕ) (old new : Nearest) (count : ℕ) (kept : List ℕ) (h : NearestAt rows rule xml old) (few : count ≤ length xml) (more : (last_part old).count ≤ count)
      (are : kept ≡ nearest_of rows rule (take count xml)) (part : Part) (is_count : part.count ≡ count) (is_from : part.from ≡ (last_part old).until) (is_until : part.until ≡ part.from + length kept)
      (used : new.used ≡ old.used + 1) (room : old.used < length old.parts.items) (parts : new.parts.items ≡ set old.parts.items old.used part)
      (before : take part.from new.rows.items ≡ take part.from old.rows.items) (here : between part.from part.until new.rows.items ≡ kept)
      (same_length : length new.rows.items ≡ length old.rows.items) (within : part.until ≤ length new.rows.items) where
    added : part_at new old.used ≡ part
    added = ap (λ (l : List Part). get_or l old.used no_part) parts ∙ get_or-set_same old.parts.items old.used part no_part room

    others : (k : ℕ) → k < old.used → part_at new k ≡ part_at old k
    others k lt = ap (λ (l : List Part). get_or l k no_part) parts ∙ get_or-set_other old.parts.items old.used k part no_part (λ (e : k ≡ old.used). omega arith)

    new_part : PartAt rows rule xml new.rows.items part
    new_part = record {
      few = omega arith;
      ordered = omega arith;
      within = within;
      are = here ∙ are ∙ ap (λ (n : ℕ). nearest_of rows rule (take n xml)) (sym is_count);
    }

    old_part : (k : ℕ) → k < old.used → PartAt rows rule xml new.rows.items (part_at old k)
    old_part k lt =
        let p = h.parts k lt in
        let b = not_behind_last xml old h k lt in
        let u = b.until in let within_old = p.within in
        record {
          few = p.few;
          ordered = p.ordered;
          within = omega arith;
          are = between_is new.rows.items (part_at old k).from (part_at old k).until
              ∙ ap (drop (part_at old k).from) (sym (take-take (part_at old k).until part.from new.rows.items (omega arith)) ∙ ap (take (part_at old k).until) before ∙ take-take (part_at old k).until part.from old.rows.items (omega arith))
              ∙ sym (between_is old.rows.items (part_at old k).from (part_at old k).until)
              ∙ p.are;
        }

    pub nearest-added : NearestAt rows rule xml new
    nearest-added = record {
      used = let n = ap (length {A = Part}) parts in let m = length-set old.parts.items old.used part in omega arith;
      parts = λ (k : ℕ) (lt : k < new.used). elim (cases_eq k old.used) [
        | inl same ↦ subst (λ (p : Part). PartAt rows rule xml new.rows.items p) (sym (ap (part_at new) same ∙ added)) new_part
        | inr other ↦ subst (λ (p : Part). PartAt rows rule xml new.rows.items p) (sym (others k (omega arith))) (old_part k (omega arith))
      ];
      ascend = λ (j k : ℕ) (ahead : j < k) (lt : k < new.used). elim (cases_eq k old.used) [
        | inl same ↦
            let b = not_behind_last xml old h j (omega arith) in
            let c = b.count in let u = b.until in
            subst (λ (p : Part). NotBehind p (part_at new k)) (sym (others j (omega arith)))
            (subst (λ (p : Part). NotBehind (part_at old j) p) (sym (ap (part_at new) same ∙ added)) (record { count = omega arith; until = omega arith }))
        | inr other ↦
            subst (λ (p : Part). NotBehind p (part_at new k)) (sym (others j (omega arith)))
            (subst (λ (p : Part). NotBehind (part_at old j) p) (sym (others k (omega arith))) (h.ascend j k ahead (omega arith)))
      ];
    }

    pub last-added : (last_part new).count ≡ count
    last-added =
        let one_more : new.used ≡ suc old.used = omega arith in
        ap (λ (n : ℕ). (last_of_parts new n).count) one_more ∙ ap (λ (p : Part). p.count) added ∙ is_count

-- what is kept for the last part
module _ (rows : List RowOf) (rule : Rule) (xml : List ℕ) (nearest : Nearest) (h : NearestAt rows rule xml nearest) (part : Part) (is_part : part ≡ last_part nearest) (d : List ℕ) (is_d : d ≡ nearest.rows.items) where
  pub part_few : part.count ≤ length xml
  part_few = let n = ap (λ (p : Part). p.count) is_part in let few = (last_stands rows rule xml nearest h).few in omega arith

  kept_are : between part.from part.until d ≡ nearest_of rows rule (take part.count xml)
  kept_are =
      ap (λ (l : List ℕ). between part.from part.until l) is_d
      ∙ ap (λ (p : Part). between p.from p.until nearest.rows.items) is_part
      ∙ (last_stands rows rule xml nearest h).are
      ∙ ap (λ (p : Part). nearest_of rows rule (take p.count xml)) (sym is_part)

  pub all_kept : (P : ℕ → Type 0) → All P xml → All P (between part.from part.until d)
  all_kept P all =
      All-same P (between part.from part.until d) (nearest_of rows rule (take part.count xml)) kept_are
      (all_nearest rows rule P (take part.count xml) (All-take P part.count xml all))

  pub few_kept : length (between part.from part.until d) ≤ part.count
  few_kept =
      let n = ap (length {A = ℕ}) kept_are in let few = few_nearest rows rule (take part.count xml) in
      let m = length-take-le part.count xml part_few in
      omega arith

  -- those of them that may be imported to an element
  pub imports_kept : (x : ℕ) → filter (may_import rows rule x) (between part.from part.until d) ≡ in_order rows (filter (may_import rows rule x) (reverse (take part.count xml)))
  imports_kept x = ap (filter (may_import rows rule x)) kept_are ∙ imports_of_nearest rows rule x (take part.count xml)

  pub imports_stand : (x : ℕ) → in_order rows (filter (may_import rows rule x) (between part.from part.until d)) ≡ filter (may_import rows rule x) (between part.from part.until d)
  imports_stand x =
      ap (in_order rows) (imports_kept x) ∙ order_again rows (filter (may_import rows rule x) (reverse (take part.count xml))) ∙ sym (imports_kept x)

  -- and those of the entries above the part
  pub imports_all : (x : ℕ) → in_order rows (in_order rows (filter (may_import rows rule x) (reverse (between part.count (length xml) xml))) ++ filter (may_import rows rule x) (between part.from part.until d))
      ≡ in_order rows (filter (may_import rows rule x) (reverse xml))
  imports_all x =
      let p = may_import rows rule x in
      ap (λ (l : List ℕ). in_order rows (in_order rows (filter p (reverse l)) ++ filter p (between part.from part.until d))) (between_to_end xml part.count (length xml) (omega arith))
      ∙ ap (λ (l : List ℕ). in_order rows (in_order rows (filter p (reverse (drop part.count xml))) ++ l)) (imports_kept x)
      ∙ halves rows rule x part.count xml

-- where an element begins and where it ends
module _ (rows : List RowOf) (w : IsWellShaped rows) (rule : Rule) (x : ℕ) (pos : 0 < x) (there : x < length rows) where
  entered : xml_at rows x ≡ xml_at rows (parent_of rows x) ++ reverse (xml_attributes rows x)
  entered = xml_at-more rows w x (λ (z : x ≡ 0). omega arith) there

  pub nearest-entered : (old new : List ℕ) (nearest : Nearest) → old ≡ xml_at rows (parent_of rows x) → new ≡ xml_at rows x → NearestAt rows rule old nearest → NearestAt rows rule new nearest
  nearest-entered old new nearest was is h =
      subst (λ (l : List ℕ). NearestAt rows rule l nearest) (sym (is ∙ entered))
      (nearest-more rows rule (xml_at rows (parent_of rows x)) (reverse (xml_attributes rows x)) nearest (subst (λ (l : List ℕ). NearestAt rows rule l nearest) was h))

  pub nearest-left : (old new : List ℕ) (count : ℕ) (nearest : Nearest) → old ≡ xml_at rows x → new ≡ xml_at rows (parent_of rows x) → count ≡ length new → NearestAt rows rule (take count old) nearest → NearestAt rows rule new nearest
  nearest-left old new count nearest was is many h =
      subst (λ (l : List ℕ). NearestAt rows rule l nearest) left h
    where
      left : take count old ≡ new
      left =
          ap (λ (l : List ℕ). take count l) (was ∙ entered)
          ∙ ap (λ (n : ℕ). take n (xml_at rows (parent_of rows x) ++ reverse (xml_attributes rows x))) (many ∙ ap (length {A = ℕ}) is)
          ∙ take-append_seam (xml_at rows (parent_of rows x)) (reverse (xml_attributes rows x))
          ∙ sym is

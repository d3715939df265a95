-- What stands on the stack of slots, and what a search through it finds.
use Rattle.std.proofs.Common.{◌≡◌, ℕ, zero, suc, IfSome, subst, ◌+◌, ◌-◌, ◌<◌, ◌≤◌, ◌&&◌, ◌||◌, Bool, true, false, cond, eqb, Option, Some, None, List, [], ◌∷◌, ◌++◌, length, map, reverse, refl, ap, sym, ◌∙◌, arith, append-nil, length-append}
use Rattle.std.specs.List.{filter, find, flat_map, list_any, range_with_len}
use Rattle.std.specs.Prelude.{is_some}
use Rattle.std.specs.Str.{bytes_eq}
use Rattle.std.proofs.lemmas.Bool.{or_parts, and_parts, eqb-true, eqb-false, false_from_ne_true, false≢true}
use Rattle.std.proofs.lemmas.Slice.Eq.{bytes_eq-Decides}
use Rattle.xml_doc.proofs.FieldLemmas.{field_of_attribute, namespace_is}
use Rattle.xml_doc.proofs.Numbers.{passing_none}
use Rattle.std.proofs.lemmas.List.{reverse-append}
use Rattle.xml_doc.specs.Kinds.{is_element, is_attribute, is_field, is_inner, is_namespace}
use Rattle.xml_doc.specs.declared.row.Kind.{Kind}
use Rattle.xml_doc.specs.declared.row.Kind.TheVariants.{Root, Element, Namespace, Attribute, Text, Comment, Instruction}
use Rattle.xml_doc.specs.Rows.{RowOf}
use Rattle.xml_doc.specs.Shape.{row_at, IsWellShaped}
use Rattle.xml_doc.specs.Fields.{is_attribute_of, is_namespace_of, namespace_rows, attribute_rows}
use Rattle.c14n_text.specs.Rows.{kind_of, parent_of}
use Rattle.c14n_text.specs.Namespaces.{Rule, renders, binds, has_binding, has_default}
use Rattle.c14n_text.specs.Attributes.{is_xml, xml_attributes}
use Rattle.c14n_text.proofs.TreeLemmas.{chain-root}
use Rattle.c14n_rows.specs.declared.stacks.Slot.{Slot}
use Rattle.c14n_rows.specs.Stacks.{upwards, count_of, total}
use Rattle.c14n_rows.specs.Code.Stacks.{is_of, is_named, named_in, rendered, slot, own_slot, slots, stacked, slots_at, xml_at}
use Rattle.c14n_rows.proofs.Chains.{chain-more, parent_there}
use Rattle.c14n_rows.proofs.NameLemmas.{any_none, differ, find_only, is_some-find, namespaces_range, place_of}
use Rattle.c14n_text.specs.Tree.{chain_within}

-- one binding is a row of the prefix
binds_none : (a b c : Bool) → (a && b) ≡ false → (a && b && c) ≡ false
binds_none false b c e = refl
binds_none true false c e = refl
binds_none true true c e = cc

no_binding : (rows : List RowOf) (set : ℕ → Bool) (p name : List ℕ) (zs : List ℕ) → list_any (is_named rows set p) zs ≡ false → list_any (binds rows set p name) zs ≡ false
no_binding rows set p name [] e = refl
no_binding rows set p name (z ∷ zs) e =
    let both = or_parts (is_named rows set p z) (list_any (is_named rows set p) zs) e in
    ap (λ (t : Bool). t || list_any (binds rows set p name) zs) (binds_none (set z) (bytes_eq (row_at rows z).local_name p) (bytes_eq (row_at rows z).value name) both.0) ∙ no_binding rows set p name zs both.1

and_false : (a : Bool) → (a && false) ≡ false
and_false false = refl
and_false true = refl

pub none_named : (rows : List RowOf) (set : ℕ → Bool) (p : List ℕ) (zs : List ℕ) → list_any (is_of rows p) zs ≡ false → list_any (is_named rows set p) zs ≡ false
none_named rows set p [] e = refl
none_named rows set p (z ∷ zs) e =
    let both = or_parts (is_of rows p z) (list_any (is_of rows p) zs) e in
    ap (λ (t : Bool). t || list_any (is_named rows set p) zs) (ap (λ (t : Bool). set z && t) both.0 ∙ and_false (set z)) ∙ none_named rows set p zs both.1

-- rows of which no later one is of the prefix of an earlier one
abbrev Apart : List RowOf → List ℕ → Type 0
Apart rows [] = Unit {0}
Apart rows (z ∷ zs) = (list_any (is_of rows (row_at rows z).local_name) zs ≡ false) × Apart rows zs

apart-range : (rows : List RowOf) (w : IsWellShaped rows) (e fin : ℕ) (behind : e < fin) (within : fin ≤ length rows) (own : namespace_rows rows e ≡ range_with_len (e + 1) (fin - (e + 1)))
    → (n a : ℕ) → e < a → a + n ≤ fin → Apart rows (range_with_len a n)
apart-range rows w e fin behind within own zero a above le = tt
apart-range rows w e fin behind within own (suc n) a above le = (
  any_none (is_of rows (row_at rows a).local_name) (a + 1) n (λ (k : ℕ) (ge : a + 1 ≤ k) (lt : k < a + 1 + n).
      differ rows w e fin behind within own k a (omega arith) (omega arith) above (omega arith) (λ (same : k ≡ a). omega arith)),
  apart-range rows w e fin behind within own n (a + 1) (omega arith) (omega arith),
)

-- the row that is rendered binds its prefix to this name
abbrev pub shown_by : List RowOf → List ℕ → Option ℕ → Bool
shown_by rows name None = false
shown_by rows name (Some z) = bytes_eq (row_at rows z).value name

shown : (rows : List RowOf) (set : ℕ → Bool) (p name : List ℕ) (zs : List ℕ) → Apart rows zs → list_any (binds rows set p name) zs ≡ shown_by rows name (find (is_named rows set p) zs)
shown rows set p name [] apart = refl
shown rows set p name (z ∷ zs) apart = go (set z) (bytes_eq (row_at rows z).local_name p) refl (shown rows set p name zs apart.1)
  where
    or_false : (c : Bool) → (c || false) ≡ c
    or_false true = refl
    or_false false = refl

    go : (a b : Bool) → bytes_eq (row_at rows z).local_name p ≡ b → list_any (binds rows set p name) zs ≡ shown_by rows name (find (is_named rows set p) zs)
        → (((a && b) && bytes_eq (row_at rows z).value name) || list_any (binds rows set p name) zs) ≡ shown_by rows name (cond (a && b) (Some z) (find (is_named rows set p) zs))
    go false b is more = more
    go true false is more = more
    go true true is more =
        let name_is : (row_at rows z).local_name ≡ p = (bytes_eq-Decides (row_at rows z).local_name p).0 is in
        let none : list_any (is_of rows p) zs ≡ false = ap (λ (q : List ℕ). list_any (is_of rows q) zs) (sym name_is) ∙ apart.0 in
        ap (λ (t : Bool). bytes_eq (row_at rows z).value name || t) (no_binding rows set p name zs (none_named rows set p zs none)) ∙ or_false (bytes_eq (row_at rows z).value name)

pub has_binding-named_in : (rows : List RowOf) → IsWellShaped rows → (set : ℕ → Bool) (p name : List ℕ) (o : Option ℕ) → IfSome o (λ e. e < length rows) → has_binding rows set p name o ≡ shown_by rows name (named_in rows set p o)
has_binding-named_in rows w set p name None there = refl
has_binding-named_in rows w set p name (Some e) there =
    let range = namespaces_range rows w e there in
    let own = range.3 in
    let apart = apart-range rows w e range.0 range.1 range.2 own (range.0 - (e + 1)) (e + 1) (omega arith) (let b = range.1 in omega arith) in
    shown rows set p name (namespace_rows rows e) (subst (Apart rows) (sym own) apart)

pub has_default-named_in : (rows : List RowOf) (set : ℕ → Bool) (o : Option ℕ) → has_default rows set o ≡ is_some (named_in rows set [] o)
has_default-named_in rows set None = refl
has_default-named_in rows set (Some e) = sym (is_some-find (is_named rows set []) (namespace_rows rows e))

-- a namespace row of x is the only one of its prefix
pub named_itself : (rows : List RowOf) → IsWellShaped rows → (set : ℕ → Bool) (x y : ℕ) → x < length rows → y < length rows → is_namespace_of rows x y ≡ true
    → named_in rows set (row_at rows y).local_name (Some x) ≡ cond (set y) (Some y) None
named_itself rows w set x y there here is =
    let range = namespaces_range rows w x there in
    let own = range.3 in let fin = range.0 in
    let place = place_of rows w x fin range.1 range.2 own y here is in
    ap (find (is_named rows set (row_at rows y).local_name)) own
    ∙ find_only (is_named rows set (row_at rows y).local_name) (x + 1) (fin - (x + 1)) y (omega (arith, place.0)) (omega (arith, place.1, range.1))
    (λ (k : ℕ) (le : x + 1 ≤ k) (lt : k < x + 1 + (fin - (x + 1))) (other : k ≡ y → ⊥).
    ap (λ (t : Bool). set k && t) (differ rows w x fin range.1 range.2 own k y (omega arith) (omega arith) place.0 place.1 other) ∙ and_false (set k))
    ∙ ap (λ (t : Bool). cond (set y && t) (Some y) None) ((bytes_eq-Decides (row_at rows y).local_name (row_at rows y).local_name).1 refl)
    ∙ ap (λ (t : Bool). cond t (Some y) None) (and_true (set y))
  where
    and_true : (a : Bool) → (a && true) ≡ a
    and_true false = refl
    and_true true = refl

-- the elements above are rows
pub find_chain-there : (rows : List RowOf) → IsWellShaped rows → (test : ℕ → Bool) (n x : ℕ) → x < length rows → IfSome (find test (chain_within (parent_of rows) n x)) (λ e. e < length rows)
find_chain-there rows w test zero x lt = tt
find_chain-there rows w test (suc n) x lt = go (eqb x 0) (test x) (find_chain-there rows w test n (parent_of rows x) (parent_there rows w x lt))
  where
    go : (t u : Bool) → IfSome (find test (chain_within (parent_of rows) n (parent_of rows x))) (λ e. e < length rows)
        → IfSome (find test (cond t [] (x ∷ chain_within (parent_of rows) n (parent_of rows x)))) (λ e. e < length rows)
    go true u more = tt
    go false u more = at (test x)
      where
        at : (v : Bool) → IfSome (cond v (Some x) (find test (chain_within (parent_of rows) n (parent_of rows x)))) (λ e. e < length rows)
        at true = lt
        at false = more

-- a row's own entries come on top of its parent's
pub slots_at-more : (rows : List RowOf) (set : ℕ → Bool) (rule : Rule) → IsWellShaped rows → (x : ℕ) → (x ≡ 0 → ⊥) → x < length rows → slots_at rows set rule x ≡ slots_at rows set rule (parent_of rows x) ++ slots rows set rule x
slots_at-more rows set rule w x not_root lt = ap (stacked (slots rows set rule)) (chain-more rows w x not_root lt)

pub slots_at-root : (rows : List RowOf) (set : ℕ → Bool) (rule : Rule) → IsWellShaped rows → slots_at rows set rule 0 ≡ []
slots_at-root rows set rule w = ap (stacked (slots rows set rule)) (chain-root (length rows) (parent_of rows) w.some)

pub xml_at-more : (rows : List RowOf) → IsWellShaped rows → (x : ℕ) → (x ≡ 0 → ⊥) → x < length rows → xml_at rows x ≡ xml_at rows (parent_of rows x) ++ reverse (xml_attributes rows x)
xml_at-more rows w x not_root lt =
    ap (λ es. reverse (flat_map (xml_attributes rows) es)) (chain-more rows w x not_root lt) ∙ reverse-append (xml_attributes rows x) (flat_map (xml_attributes rows) (upwards rows (parent_of rows x)))

pub xml_at-root : (rows : List RowOf) → IsWellShaped rows → xml_at rows 0 ≡ []
xml_at-root rows w = ap (λ es. reverse (flat_map (xml_attributes rows) es)) (chain-root (length rows) (parent_of rows) w.some)

pub rendered-more : (rows : List RowOf) (set : ℕ → Bool) (rule : Rule) (p : List ℕ) → IsWellShaped rows → (x : ℕ) → (x ≡ 0 → ⊥) → x < length rows
    → rendered rows set rule p x ≡ named_in rows set p (cond (renders rows set rule p x) (Some x) (find (renders rows set rule p) (upwards rows (parent_of rows x))))
rendered-more rows set rule p w x not_root lt = ap (λ es. named_in rows set p (find (renders rows set rule p) es)) (chain-more rows w x not_root lt)

pub rendered-root : (rows : List RowOf) (set : ℕ → Bool) (rule : Rule) (p : List ℕ) → IsWellShaped rows → rendered rows set rule p 0 ≡ None
rendered-root rows set rule p w = ap (λ es. named_in rows set p (find (renders rows set rule p) es)) (chain-root (length rows) (parent_of rows) w.some)

-- a row of some kind that is inner and no root is an element
inner_element : (k : Kind) → is_inner k ≡ true → (k ≡ Root → ⊥) → k ≡ Element
inner_element Root e n = absurd (n refl)
inner_element Element e n = refl
inner_element Namespace e n = cc
inner_element Attribute e n = cc
inner_element Text e n = cc
inner_element Comment e n = cc
inner_element Instruction e n = cc

pub parent_element : (rows : List RowOf) → IsWellShaped rows → (x : ℕ) → x < length rows → (parent_of rows x ≡ 0 → ⊥) → kind_of rows (parent_of rows x) ≡ Element
parent_element rows w x lt not_root = inner_element (kind_of rows (parent_of rows x)) (w.nesting.parent_inner x lt) (w.one_root (parent_of rows x) (omega arith) (parent_there rows w x lt))

pub when_empty : (xs : List ℕ) → eqb (length xs) 0 ≡ true → xs ≡ []
when_empty [] e = refl
when_empty (x ∷ xs) e = let none = eqb-true (length (x ∷ xs)) 0 e in absurd (omega arith)

pub when_some : (xs : List ℕ) → eqb (length xs) 0 ≡ false → xs ≡ [] → ⊥
when_some xs e none = eqb-false (length xs) 0 e (ap (length {A = ℕ}) none)

pub length-slots : (f : ℕ → Slot) (xs : List ℕ) → length (map f xs) ≡ length xs
length-slots f [] = refl
length-slots f (x ∷ xs) = ap suc (length-slots f xs)

-- the slots that stand on the stack are at most as many as the entries for which there is room
few_slots : (rows : List RowOf) (set : ℕ → Bool) (rule : Rule) (x : ℕ) → length (slots rows set rule x) ≤ count_of rows x
few_slots rows set rule x = go (is_element (kind_of rows x))
  where
    go : (t : Bool) → length (cond t (own_slot rows set rule x ∷ map (slot rows set rule x) (namespace_rows rows x)) []) ≤ cond t (1 + length (namespace_rows rows x) + length (attribute_rows rows x)) 0
    go true = let n = length-slots (slot rows set rule x) (namespace_rows rows x) in omega arith
    go false = omega arith

few_stacked : (rows : List RowOf) (set : ℕ → Bool) (rule : Rule) (xs : List ℕ) → length (stacked (slots rows set rule) xs) ≤ total (count_of rows) xs
few_stacked rows set rule [] = omega arith
few_stacked rows set rule (x ∷ xs) =
    let n = length-append (stacked (slots rows set rule) xs) (slots rows set rule x) in
    let one = few_slots rows set rule x in let more = few_stacked rows set rule xs in
    omega arith

pub slots_room : (rows : List RowOf) (set : ℕ → Bool) (rule : Rule) (x capacity : ℕ) → total (count_of rows) (upwards rows x) ≤ capacity → length (slots_at rows set rule x) ≤ capacity
slots_room rows set rule x capacity room = let few = few_stacked rows set rule (upwards rows x) in omega arith

-- a row that is no element leaves nothing
pub slots_at-skip : (rows : List RowOf) (set : ℕ → Bool) (rule : Rule) → IsWellShaped rows → (x : ℕ) → (x ≡ 0 → ⊥) → x < length rows → is_element (kind_of rows x) ≡ false → slots_at rows set rule x ≡ slots_at rows set rule (parent_of rows x)
slots_at-skip rows set rule w x not_root lt is =
    slots_at-more rows set rule w x not_root lt
    ∙ ap (λ (t : Bool). slots_at rows set rule (parent_of rows x) ++ cond t (own_slot rows set rule x ∷ map (slot rows set rule x) (namespace_rows rows x)) []) is
    ∙ append-nil (slots_at rows set rule (parent_of rows x))

pub no_attributes : (rows : List RowOf) → IsWellShaped rows → (x : ℕ) → is_element (kind_of rows x) ≡ false → attribute_rows rows x ≡ []
no_attributes rows w x is =
    passing_none (is_attribute_of rows x) 1 (length rows - 1)
    (λ (k : ℕ) (le : 1 ≤ k) (lt : k < 1 + (length rows - 1)). false_from_ne_true (is_attribute_of rows x k)
    (λ (attribute : is_attribute_of rows x k ≡ true).
    let both = and_parts (is_attribute (row_at rows k).kind) (eqb (parent_of rows k) x) attribute in
    let up : parent_of rows k ≡ x = eqb-true (parent_of rows k) x both.1 in
    let element = w.fields.field_of_element k (omega arith) (field_of_attribute (row_at rows k).kind both.0) in
    false≢true (sym is ∙ ap (λ (y : ℕ). is_element (kind_of rows y)) (sym up) ∙ element)))

pub no_namespaces : (rows : List RowOf) → IsWellShaped rows → (x : ℕ) → is_element (kind_of rows x) ≡ false → namespace_rows rows x ≡ []
no_namespaces rows w x is =
    passing_none (is_namespace_of rows x) 1 (length rows - 1)
    (λ (k : ℕ) (le : 1 ≤ k) (lt : k < 1 + (length rows - 1)). false_from_ne_true (is_namespace_of rows x k)
    (λ (namespace : is_namespace_of rows x k ≡ true).
    let both = and_parts (is_namespace (row_at rows k).kind) (eqb (parent_of rows k) x) namespace in
    let up : parent_of rows k ≡ x = eqb-true (parent_of rows k) x both.1 in
    let element = w.fields.field_of_element k (omega arith) (ap is_field (namespace_is (row_at rows k).kind both.0)) in
    false≢true (sym is ∙ ap (λ (y : ℕ). is_element (kind_of rows y)) (sym up) ∙ element)))

pub xml_at-skip : (rows : List RowOf) → IsWellShaped rows → (x : ℕ) → (x ≡ 0 → ⊥) → x < length rows → is_element (kind_of rows x) ≡ false → xml_at rows x ≡ xml_at rows (parent_of rows x)
xml_at-skip rows w x not_root lt is =
    xml_at-more rows w x not_root lt ∙ ap (λ (ys : List ℕ). xml_at rows (parent_of rows x) ++ reverse (filter (is_xml rows) ys)) (no_attributes rows w x is)
    ∙ append-nil (xml_at rows (parent_of rows x))

-- there is room for a mark of each namespace row of an element
pub marks_room : (rows : List RowOf) → IsWellShaped rows → (x capacity : ℕ) → x < length rows → total (count_of rows) (upwards rows x) ≤ capacity → length (namespace_rows rows x) ≤ capacity
marks_room rows w x capacity lt room = go (is_element (kind_of rows x)) refl
  where
    own : x < length rows → (x ≡ 0 → ⊥) → count_of rows x ≤ total (count_of rows) (upwards rows x)
    own lt not_root = let more = ap (total (count_of rows)) (chain-more rows w x not_root lt) in omega arith

    go : (t : Bool) → is_element (kind_of rows x) ≡ t → length (namespace_rows rows x) ≤ capacity
    go false is = let none = ap (length {A = ℕ}) (no_namespaces rows w x is) in omega arith
    go true is =
        let few = own lt (λ (root : x ≡ 0). let kind = ap (λ (y : ℕ). is_element (kind_of rows y)) (sym root) in false≢true (sym (ap is_element w.root_kind) ∙ kind ∙ is)) in
        let n = ap (λ (t : Bool). cond t (1 + length (namespace_rows rows x) + length (attribute_rows rows x)) 0) is in
        omega arith

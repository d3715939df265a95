-- The canonical form of an element, read again, says what the element says: by induction over the levels below it.
use Rattle.std.proofs.Common.{◌≡◌, ◌≢◌, ℕ, zero, suc, ◌+◌, ◌-◌, ◌<◌, ◌≤◌, Bool, true, false, cond, not, ◌&&◌, eqb, nat_lt, List, [], ◌∷◌, ◌++◌, length, map, refl, sym, ap, subst, ◌∙◌, arith}
use Rattle.std.specs.List.{filter, range_with_len}
use Rattle.std.proofs.lemmas.Bool.{false≢true, lt-ltb}
use Rattle.xml_doc.specs.Axes as axes
use Rattle.xml_doc.specs.Kinds.{is_field}
use Rattle.xml_doc.specs.Rows.{RowOf}
use Rattle.xml_doc.specs.Shape.{row_at, IsWellShaped}
use Rattle.xml_doc.specs.declared.row.Kind.{Kind}
use Rattle.xml_doc.specs.declared.row.Kind.TheVariants as kinds
use Rattle.xml_resolve.specs.Resolve.{NamedTag, Resolved, nothing_in, text_in, comment_in, instruction_in, element_in, have_own_names}
use Rattle.xml_resolve.specs.Rows.{named_entry, first_bindings, rows_of}
use Rattle.node_sets.specs.Members.{in_subtree}
use Rattle.c14n_text.specs.Rows.{kind_of, parent_of, is_child}
use Rattle.c14n_text.specs.Tree as tree
use Rattle.c14n_text.specs.Namespaces.{Rule}
use Rattle.c14n_text.proofs.TreeLemmas.{children_of}
use Rattle.c14n_subtrees.specs.Named.{AreWrittenSo, IsNamed}
use Rattle.c14n_subtrees.specs.Resolved.{named_tag_at, resolved_node_of, resolved_nodes, resolved_node_at, resolved_subtree, unplaced_named_tag, unplaced_names}
use Rattle.c14n_subtrees.proofs.Alone.{down, member_from, behind_root}
use Rattle.c14n_subtrees.proofs.Lists.{Each, each_passing}
use Rattle.c14n_subtrees.proofs.Written.{IsAttributeOf}
use Rattle.dsig_fields.specs.Reading.{children}
use Rattle.dsig_fields.specs.Same.{Item, Octet, told_before, items, SameTo}
use Rattle.signed_info.proofs.Marks.{Mark, marks, Told, told_letters, marks_before, marks_comment, marks_unplaced, told_placed, same_items, deep, deep_is, same_depth}
use Rattle.signed_info.proofs.Standing.{Stands, ElementAt, tree_stands, children_told, element_row_is}
use Rattle.signed_info.proofs.Attributes.{value_named, attribute_is}
use Rattle.signed_info.proofs.Written.{values_own, values_are}

-- ---- children, by both definitions
filter_same : (p q : ℕ → Bool) (a n : ℕ) → ((j : ℕ) → a ≤ j → p j ≡ q j) → filter p (range_with_len a n) ≡ filter q (range_with_len a n)
filter_same p q a zero same = refl
filter_same p q a (suc n) same =
    ap (λ (b : Bool). cond b (a ∷ filter p (range_with_len (a + 1) n)) (filter p (range_with_len (a + 1) n))) (same a (omega arith))
    ∙ ap (λ (ys : List ℕ). cond (q a) (a ∷ ys) ys) (filter_same p q (a + 1) n (λ j ge. same j (omega arith)))

swapped : (a b c : Bool) → a ≡ true → (a && b && c) ≡ (c && b)
swapped true true true e = refl
swapped true true false e = refl
swapped true false true e = refl
swapped true false false e = refl
swapped false b c e = absurd (false≢true e)

module _ (rows : List RowOf) (w : IsWellShaped rows) (y : ℕ) where
  abbrev pub below : List ℕ
  below = tree.children (length rows) (parent_of rows) (is_child rows) y

  pub same_children : children rows y ≡ below
  same_children =
      let some = w.some in
      let size : length rows ≡ suc (length rows - 1) = omega arith in
      ap (λ (n : ℕ). filter (axes.is_child rows y) (range_with_len 0 n)) size
      ∙ filter_same (axes.is_child rows y) (λ j. is_child rows j && eqb (parent_of rows j) y) 1 (length rows - 1)
      (λ j ge. swapped (nat_lt 0 j) (eqb (parent_of rows j) y) (not (is_field (kind_of rows j))) (lt-ltb 0 j (omega arith)))

-- ---- the rows of the canonical form
module _ (rule : Rule) (comments : Bool) (rows : List RowOf) (x : ℕ) (w : IsWellShaped rows) (there : x < length rows) (kind : kind_of rows x ≡ kinds.Element) where
  abbrev set : ℕ → Bool
  set = in_subtree rows x

  abbrev node : ℕ → ℕ → Resolved → Resolved
  node fuel = resolved_node_at rows set rule comments fuel

  -- a row of the subtree
  pub record IsMember (y : ℕ) : Type 0 where
    pub behind : 0 < y
    pub within : y < length rows
    pub member : set y ≡ true

  -- an element of the subtree behind row `above`, with what stands for it in the tree of the canonical form
  pub record Kept (above y : ℕ) (tag : NamedTag) (inner : Resolved) : Type 0 where
    pub row : IsMember y
    pub later : above < y
    pub element : kind_of rows y ≡ kinds.Element
    pub fuel : ℕ
    pub enough : length rows ≤ fuel + 1 + y
    pub tag_is : tag ≡ named_tag_at rows set rule y
    pub inner_is : inner ≡ resolved_nodes (node fuel) (below rows w y)

  record IsChildOf (y c : ℕ) : Type 0 where
    row : IsMember c
    later : y < c
    child : is_child rows c ≡ true

  each_child : (y : ℕ) → IsMember y → Each (IsChildOf y) (below rows w y)
  each_child y h =
      each_passing (IsChildOf y) (λ c. is_child rows c && eqb (parent_of rows c) y) 1 (length rows - 1) (λ c ge less passes.
      let some = w.some in
      let of = children_of (parent_of rows) (is_child rows) y c passes in
      let up = of.1 in
      let before = w.nesting.parent_before c ge (omega arith) in
      record {
        row = record { behind = ge; within = omega arith; member = down rule comments rows x w there kind c ge (omega arith) (ap set of.1 ∙ h.member) };
        later = omega (arith, up, before);
        child = of.0;
      })

  no_child : (c : ℕ) (k : Kind) → kind_of rows c ≡ k → is_field k ≡ true → is_child rows c ≡ true → ⊥
  no_child c k e field is = false≢true (sym (ap (λ (q : Kind). not (is_field q)) e ∙ ap not field) ∙ is)

  module _ (y c fuel : ℕ) (its : List Item) (rest : Resolved) (of : IsChildOf y c) (enough : length rows ≤ suc fuel + 1 + y) (told : Told (Kept y) its (marks rest)) where
    told_by : (k : Kind) → kind_of rows c ≡ k
        → Told (Kept y) (told_before c k (row_at rows c).value its) (marks (resolved_node_of rows set rule comments c (resolved_nodes (node fuel) (below rows w c)) rest k))
    told_by kinds.Element e =
        let later = of.later in
        (record { row = of.row; later = of.later; element = e; fuel = fuel; enough = omega (arith, enough, later); tag_is = refl; inner_is = refl }, told)
    told_by kinds.Text e =
        subst (λ (ms : List Mark). Told (Kept y) (map Octet (row_at rows c).value ++ its) ms) (sym (marks_before (row_at rows c).value rest))
        (told_letters (Kept y) (row_at rows c).value its (marks rest) told)
    told_by kinds.Comment e = subst (λ (ms : List Mark). Told (Kept y) its ms) (sym (marks_comment comments (row_at rows c).value rest)) told
    told_by kinds.Instruction e = (tt, told)
    told_by kinds.Root e = absurd (w.one_root c of.row.behind of.row.within e)
    told_by kinds.Namespace e = absurd (no_child c kinds.Namespace e refl of.child)
    told_by kinds.Attribute e = absurd (no_child c kinds.Attribute e refl of.child)

  nodes_told : (y fuel : ℕ) (ys : List ℕ) → length rows ≤ fuel + 1 + y → Each (IsChildOf y) ys → Told (Kept y) (items rows ys) (marks (resolved_nodes (node fuel) ys))
  nodes_told y fuel [] enough each = tt
  nodes_told y zero (c ∷ ys) enough each = let later = each.0.later in let within = each.0.row.within in absurd (omega (arith, enough, later, within))
  nodes_told y (suc fuel) (c ∷ ys) enough each =
      told_by y c fuel (items rows ys) (resolved_nodes (node (suc fuel)) ys) each.0 enough (nodes_told y (suc fuel) ys enough each.1) (kind_of rows c) refl

  -- what the children of the row say, the tree says
  pub kept_told : (above y : ℕ) (tag : NamedTag) (inner : Resolved) → Kept above y tag inner → Told (Kept y) (items rows (children rows y)) (marks inner)
  kept_told above y tag inner k =
      subst (λ (ys : List ℕ). Told (Kept y) (items rows ys) (marks inner)) (sym (same_children rows w y))
      (subst (λ (i : Resolved). Told (Kept y) (items rows (below rows w y)) (marks i)) (sym k.inner_is)
      (nodes_told y k.fuel (below rows w y) k.enough (each_child y k.row)))

  -- the tree is as deep as what stands below the row
  pub kept_depth : (n above y : ℕ) (tag other : NamedTag) (inner low : Resolved) → length rows ≤ n + y → Kept above y tag inner → ElementAt rows y other low → deep inner ≡ deep low
  kept_depth zero above y tag other inner low le k at = let within = k.row.within in absurd (omega (arith, le, within))
  kept_depth (suc n) above y tag other inner low le k at =
      sym (deep_is inner)
      ∙ same_depth (Kept y) (ElementAt rows) (λ c t o i l kept at_c. let later = kept.later in kept_depth n y c t o i l (omega (arith, le, later)) kept at_c)
      (items rows (children rows y)) (marks inner) (marks low) (kept_told above y tag inner k) (children_told rows w y other low at)
      ∙ deep_is low

  -- ---- the tree of the whole
  pub record IsTop (s : Resolved) : Type 0 where
    pub tag : NamedTag
    pub inner : Resolved
    pub until : ℕ
    pub rest : Resolved
    pub is : s ≡ element_in tag inner until rest
    pub kept : Kept 0 x (unplaced_named_tag tag) (unplaced_names inner)
    pub alone : unplaced_names rest ≡ nothing_in

  abbrev whole : Resolved
  whole = element_in (named_tag_at rows set rule x) (resolved_nodes (node (length rows - 1)) (below rows w x)) 0 nothing_in

  whole_is : resolved_subtree rule comments rows set x ≡ whole
  whole_is =
      let size : length rows ≡ suc (length rows - 1) = omega (arith, there) in
      ap (λ (n : ℕ). resolved_node_at rows set rule comments n x nothing_in) size
      ∙ ap (resolved_node_of rows set rule comments x (resolved_nodes (node (length rows - 1)) (below rows w x)) nothing_in) kind

  top_parts : (t o : NamedTag) (i j : Resolved) (m n : ℕ) (k l : Resolved) → element_in t i m k ≡ element_in o j n l → (t ≡ o) × (i ≡ j) × (k ≡ l)
  top_parts t o i j m n k l e = (cc, cc, cc)

  pub top_of : (s : Resolved) → unplaced_names s ≡ resolved_subtree rule comments rows set x → IsTop s
  top_of s e = by s (e ∙ whole_is)
    where
      by : (s : Resolved) → unplaced_names s ≡ whole → IsTop s
      by nothing_in f = absurd cc
      by (text_in v k) f = absurd cc
      by (comment_in v k) f = absurd cc
      by (instruction_in target v k) f = absurd cc
      by (element_in tag inner until rest) f =
          let parts = top_parts _ _ _ _ _ _ _ _ f in
          let some = behind_root rule comments rows x w there kind in
          record {
            tag = tag;
            inner = inner;
            until = until;
            rest = rest;
            is = refl;
            kept = record {
              row = record { behind = some; within = there; member = member_from rule comments rows x w there kind x (omega arith) (w.nesting.last_from x there) };
              later = some;
              element = kind;
              fuel = length rows - 1;
              enough = omega (arith, there);
              tag_is = parts.0;
              inner_is = parts.1;
            };
            alone = parts.2;
          }

  -- ---- it says the same
  module _ (written : AreWrittenSo rows) (named : IsNamed rows) (others : List RowOf) (shaped : IsWellShaped others) where
    -- an element of the subtree, with what is read for it
    abbrev Read : ℕ → ℕ → NamedTag → Resolved → Type 0
    Read above y tag inner = Kept above y (unplaced_named_tag tag) (unplaced_names inner)

    read_told : (above y : ℕ) (tag : NamedTag) (inner : Resolved) → Read above y tag inner → Told (Read y) (items rows (children rows y)) (marks inner)
    read_told above y tag inner k =
        told_placed (Kept y) (Read y) (λ c t i h. h) (items rows (children rows y)) (marks inner)
        (subst (λ (ms : List Mark). Told (Kept y) (items rows (children rows y)) ms) (marks_unplaced inner) (kept_told above y (unplaced_named_tag tag) (unplaced_names inner) k))

    own_member : (y z : ℕ) → IsMember y → IsAttributeOf rows y z → set z ≡ true
    own_member y z h of =
        let some : z ≢ 0 = λ e. absurd (let root : kinds.Attribute ≡ kinds.Root = sym of.0.1 ∙ ap (kind_of rows) e ∙ w.root_kind in cc) in
        down rule comments rows x w there kind z (omega (arith, some)) of.0.0 (ap set of.1 ∙ h.member)

    pub same_to : (depth above y z : ℕ) (tag : NamedTag) (inner : Resolved) → Read above y tag inner → ElementAt others z tag inner → SameTo depth rows others y z
    same_to zero above y z tag inner k at = tt
    same_to (suc depth) above y z tag inner k at =
        let head = element_row_is others shaped z tag inner at in
        let own : have_own_names tag.attributes ≡ true =
        ap (λ (t : NamedTag). have_own_names t.attributes) k.tag_is ∙ values_own rows w written named set rule y k.row.within k.element (λ a of. own_member y a k.row of) in
        record {
          kind = ap (λ (r : RowOf). r.kind) head ∙ sym k.element;
          local_name = ap (λ (r : RowOf). r.local_name) head ∙ ap (λ (t : NamedTag). t.name.local) k.tag_is;
          uri = ap (λ (r : RowOf). r.uri) head ∙ ap (λ (t : NamedTag). t.name.uri) k.tag_is;
          attributes = λ name. attribute_is others z shaped tag inner at name own ∙ ap (λ (t : NamedTag). value_named name (map named_entry t.attributes)) k.tag_is
              ∙ values_are rows w written named set rule y k.row.within k.element (λ a of. own_member y a k.row of) name;
          content = same_items (Read y) (ElementAt others) (SameTo depth rows others) (λ c d t i kept at_d. same_to depth y c d t i kept at_d)
              (items rows (children rows y)) (items others (children others z)) (marks inner) (read_told above y tag inner k) (children_told others shaped z tag inner at);
        }

-- row 1 is the document element
pub first_element : (s : Resolved) (tag : NamedTag) (inner : Resolved) (until : ℕ) (rest : Resolved) → s ≡ element_in tag inner until rest → ElementAt (rows_of s) 1 tag inner
first_element s tag inner until rest e =
    record { parent = 0; bindings = first_bindings; until = until; rest = rest; stands = subst (Stands (rows_of s) 1 0 first_bindings) e (tree_stands s) }

-- The namespace names of each document's rows are those that their prefixes have.
use Rattle.std.proofs.Common.{◌≡◌, ◌≢◌, ℕ, zero, suc, ◌+◌, ◌-◌, ◌<◌, ◌≤◌, Bool, true, false, cond, ◌&&◌, eqb, List, [], ◌∷◌, ◌++◌, length, drop, Option, Some, None, option_map, refl, sym, ap, subst, ◌∙◌, append_assoc, append-nil, arith, inl, inr, length-append}
use Rattle.std.specs.Prelude.{is_some}
use Rattle.std.specs.List.{find}
use Rattle.std.specs.BTreeMap.{insert_entry}
use Rattle.std.specs.Ordering.{match_ordering}
use Rattle.std.specs.declared.cmp.Ordering.{Ordering}
use Rattle.std.specs.declared.cmp.Ordering.TheVariants.{Less, Equal, Greater}
use Rattle.std.proofs.lemmas.Bool.{cases_lt, cases_eq, false≢true, and_parts, and_from, eqb-true, eq-eqb}
use Rattle.std.proofs.lemmas.List.{get_or-drop, length-drop}
use Rattle.std.proofs.lemmas.Slice.Eq.{bytes_eq-Decides}
use Rattle.sig_base.proofs.OptionLemmas.{some_is, bind_some, cond_some}
use Rattle.sig_base.specs.Options.{◌>>=◌}
use Rattle.xml_names.specs.Names.{qname_of, is_ncname}
use Rattle.xml_names.specs.Scopes.{is_empty}
use Rattle.xml_doc.specs.declared.row.Kind.{Kind}
use Rattle.xml_doc.specs.declared.row.Kind.TheVariants as kinds
use Rattle.xml_doc.specs.Kinds.{is_namespace}
use Rattle.xml_doc.specs.Rows.{RowOf}
use Rattle.xml_doc.specs.Shape.{row_at, no_row, IsWellShaped}
use Rattle.xml_doc.specs.Fields.{namespace_rows}
use Rattle.xml_doc.proofs.FieldLemmas.{namespace_is}
use Rattle.xml_syntax.specs.Tree.{Attribute, Tag, Content, nothing, text, comment, instruction, element}
use Rattle.xml_resolve.specs.Documents.{is_document}
use Rattle.xml_resolve.specs.InScope.{AreFaultlessAbove, bindings_above}
use Rattle.xml_resolve.specs.Resolve.{Above, Name, NamedValue, NamedTag, Resolved, nothing_in, text_in, comment_in, instruction_in, element_in, bound_above, is_declaration, element_name, attribute_uri, named_by, or_empty, resolve}
use Rattle.xml_resolve.specs.Rows as table
use Rattle.xml_resolve.specs.Rows.{Binding, Ordered, with_all, first_bindings, in_order, field_rows, element_row, text_row, comment_row, instruction_row, root_row, rows_from, rows_of}
use Rattle.xml_resolve.specs.Steps.{Key, key_cmp}
use Rattle.xml_resolve.specs.Table.{bound_by}
use Rattle.xml_resolve.proofs.BuiltLaws.{TagIs, tag_faultless, element_parts}
use Rattle.xml_resolve.proofs.EachLaws.{EachRow, each_both, each_at}
use Rattle.xml_resolve.proofs.FieldLaws.{here, next_front, one_more}
use Rattle.xml_resolve.proofs.OrderLaws.{bindings_are}
use Rattle.xml_resolve.proofs.ResolveLaws.{element_cong, named_cong, key_same}
use Rattle.xml_resolve.proofs.ScopedLaws.{begins_namespace, names_in, named_front, own_at, bound_row, RowFor, row_behind}
use Rattle.xml_resolve.proofs.ShapedLaws.{rows_shaped}
use Rattle.c14n_subtrees.specs.Rendered.{has_prefix_of, bound_at}
use Rattle.c14n_subtrees.specs.Named.{element_uri, IsNamed}
use Rattle.c14n_subtrees.proofs.Lists.{find_some, find_none}
use Rattle.c14n_subtrees.proofs.Prefixes.{IsOf, each_of, at_row, between, unique}

-- ---- tags whose names are resolved

abbrev Bound : Type 0
Bound = List ℕ → Option (List ℕ)

abbrev AreValues : Bound → List NamedValue → Type 0
AreValues bound [] = Unit {0}
AreValues bound (v ∷ vs) = (attribute_uri bound v.name.prefix ≡ Some v.name.uri) × AreValues bound vs

record TagNamed (bound : Bound) (t : NamedTag) : Type 0 where
  name : element_uri bound t.name.prefix ≡ Some t.name.uri
  attributes : AreValues bound t.attributes

element_first : (bound : Bound) (q : List ℕ × List ℕ) (b : Bool) (n : Name) → is_empty q.0 ≡ b
    → cond b (Some (record { prefix = q.0; local = q.1; uri = or_empty (bound q.0) })) (bound q.0 >>= λ uri. Some (record { prefix = q.0; local = q.1; uri = uri })) ≡ Some n
    → element_uri bound n.prefix ≡ Some n.uri
element_first bound q true n is e =
    subst (λ (m : Name). element_uri bound m.prefix ≡ Some m.uri) (some_is _ n e) (ap (λ (b : Bool). cond b (Some (or_empty (bound q.0))) (bound q.0)) is)
element_first bound q false n is e =
    let u = bind_some (bound q.0) _ n e in
    subst (λ (m : Name). element_uri bound m.prefix ≡ Some m.uri) (some_is _ n u.2) (ap (λ (b : Bool). cond b (Some (or_empty (bound q.0))) (bound q.0)) is ∙ u.1)

element_named : (bound : Bound) (w : List ℕ) (n : Name) → element_name bound w ≡ Some n → element_uri bound n.prefix ≡ Some n.uri
unfolding element_name
element_named bound w n e =
    let q = bind_some (qname_of w) _ n e in
    element_first bound q.0 (is_empty q.0.0) n refl q.2

values_first : (bound : Bound) (q : List ℕ × List ℕ) (b : Bool) (value : List ℕ) (others : List Attribute) (vs : List NamedValue)
    → ((us : List NamedValue) → named_by bound others ≡ Some us → AreValues bound us)
    → cond b (named_by bound others) (attribute_uri bound q.0 >>= λ uri. named_by bound others >>= λ more. Some (record { name = record { prefix = q.0; local = q.1; uri = uri }; value = value } ∷ more)) ≡ Some vs
    → AreValues bound vs
values_first bound q true value others vs ih e = ih vs e
values_first bound q false value others vs ih e =
    let u = bind_some (attribute_uri bound q.0) _ vs e in
    let m = bind_some (named_by bound others) _ vs u.2 in
    subst (AreValues bound) (some_is _ vs m.2) (u.1, ih m.0 m.1)

values_named : (bound : Bound) (attributes : List Attribute) (vs : List NamedValue) → named_by bound attributes ≡ Some vs → AreValues bound vs
unfolding named_by
values_named bound [] vs e = subst (AreValues bound) (some_is [] vs e) tt
values_named bound (a ∷ others) vs e =
    let q = bind_some (qname_of a.name) _ vs e in
    values_first bound q.0 (is_declaration q.0) a.value others vs (λ us f. values_named bound others us f) q.2

tag_named : (above : Above) (tag : Tag) (t : NamedTag) → AreFaultlessAbove (t.declared ∷ above) → TagIs above tag t → TagNamed (bound_by (bindings_above (t.declared ∷ above))) t
tag_named above tag t f p =
    let bound = bound_by (bindings_above (t.declared ∷ above)) in
    let same : (q : List ℕ) → bound q ≡ bound_above (t.declared ∷ above) q = bindings_are (t.declared ∷ above) f in
    record {
      name = element_named bound tag.name t.name (element_cong bound (bound_above (t.declared ∷ above)) same tag.name ∙ p.name);
      attributes = values_named bound tag.attributes t.attributes (named_cong bound (bound_above (t.declared ∷ above)) same tag.attributes ∙ p.values);
    }

-- the names in a tree are those of these bindings and of the declarations in it
abbrev NamedIn : List Binding → Resolved → Type 0
NamedIn bs nothing_in = Unit {0}
NamedIn bs (text_in w k) = NamedIn bs k
NamedIn bs (comment_in w k) = NamedIn bs k
NamedIn bs (instruction_in target w k) = NamedIn bs k
NamedIn bs (element_in t inner until k) = TagNamed (bound_by (with_all bs t.declared)) t × NamedIn (with_all bs t.declared) inner × NamedIn bs k

named_of : (k : Content) (above : Above) (r : Resolved) → AreFaultlessAbove above → resolve above k ≡ Some r → NamedIn (bindings_above above) r
unfolding resolve
named_of nothing above r f e = subst (NamedIn (bindings_above above)) (some_is nothing_in r e) tt
named_of (text w k) above r f e = let m = bind_some (resolve above k) _ r e in subst (NamedIn (bindings_above above)) (some_is _ r m.2) (named_of k above m.0 f m.1)
named_of (comment w k) above r f e = let m = bind_some (resolve above k) _ r e in subst (NamedIn (bindings_above above)) (some_is _ r m.2) (named_of k above m.0 f m.1)
named_of (instruction target w k) above r f e =
    let c = cond_some (is_ncname target) _ r e in
    let m = bind_some (resolve above k) _ r c.1 in
    subst (NamedIn (bindings_above above)) (some_is _ r m.2) (named_of k above m.0 f m.1)
named_of (element tag inner until k) above r f e =
    let p = element_parts above tag inner until k r e in
    let g = tag_faultless above tag p.t p.tagged f in
    subst (NamedIn (bindings_above above)) p.whole (tag_named above tag p.t g p.tagged, named_of inner (p.t.declared ∷ above) p.i g p.inside, named_of k above p.m f p.behind_it)

-- ---- attributes in order

abbrev AreOrdered : Bound → Ordered → Type 0
AreOrdered bound [] = Unit {0}
AreOrdered bound (x ∷ xs) = (attribute_uri bound x.1.0 ≡ Some x.0.0) × AreOrdered bound xs

ordered_inserted : (bound : Bound) (key : Key) (v : List ℕ × List ℕ) → attribute_uri bound v.0 ≡ Some key.0 → (xs : Ordered) → AreOrdered bound xs → AreOrdered bound (insert_entry key_cmp xs key v)
ordered_inserted bound key v n [] h = (n, tt)
ordered_inserted bound key v n (x ∷ xs) h = by (key_cmp key x.0) refl (ordered_inserted bound key v n xs h.1)
  where
    by : (c : Ordering) → key_cmp key x.0 ≡ c → AreOrdered bound (insert_entry key_cmp xs key v)
        → AreOrdered bound (match_ordering c ((key, v) ∷ (x ∷ xs)) ((x.0, v) ∷ xs) (x ∷ insert_entry key_cmp xs key v))
    by Less e more = (n, h)
    by Equal e more = (n ∙ ap (λ (k : Key). Some k.0) (key_same key x.0 e), h.1)
    by Greater e more = (h.0, more)

ordered_all : (bound : Bound) (vs : List NamedValue) (done : Ordered) → AreValues bound vs → AreOrdered bound done → AreOrdered bound (in_order done vs)
ordered_all bound [] done v h = h
ordered_all bound (x ∷ vs) done v h =
    ordered_all bound vs (insert_entry key_cmp done (x.name.uri, x.name.local) (x.name.prefix, x.value)) v.1
    (ordered_inserted bound (x.name.uri, x.name.local) (x.name.prefix, x.value) v.0 done h)

-- ---- the namespace rows behind an element

front_end : (n : ℕ) (rest : List RowOf) → begins_namespace rest ≡ false → named_front n rest ≡ []
front_end n [] is = refl
front_end n (r ∷ rest) is = ap (λ (b : Bool). cond (b && eqb r.parent n) ((r.local_name, r.value) ∷ named_front n rest) []) is

front_is : (bs : List Binding) (n m : ℕ) (rest : List RowOf) → begins_namespace rest ≡ false → named_front n (table.namespace_rows n m bs ++ rest) ≡ bs
front_is [] n m rest is = front_end n rest is
front_is (b ∷ bs) n m rest is =
    ap (λ (t : Bool). cond t ((b.0, b.1) ∷ named_front n (table.namespace_rows n (m + 1) bs ++ rest)) []) (eq-eqb n n refl)
    ∙ ap (λ (cs : List Binding). (b.0, b.1) ∷ cs) (front_is bs n (m + 1) rest is)

behind_front : (front : List RowOf) (r : RowOf) (rest : List RowOf) → drop (suc (length front)) (front ++ (r ∷ rest)) ≡ rest
behind_front [] r rest = refl
behind_front (x ∷ front) r rest = behind_front front r rest

attributes_first : (n m : ℕ) (xs : Ordered) (rest : List RowOf) → begins_namespace rest ≡ false → begins_namespace (table.attribute_rows n m xs ++ rest) ≡ false
attributes_first n m [] rest e = e
attributes_first n m (x ∷ xs) rest e = refl

node_first : (k : Resolved) (n p : ℕ) (bs : List Binding) (rest : List RowOf) → begins_namespace rest ≡ false → begins_namespace (rows_from n p bs k ++ rest) ≡ false
unfolding rows_from
node_first nothing_in n p bs rest e = e
node_first (text_in w k) n p bs rest e = refl
node_first (comment_in w k) n p bs rest e = refl
node_first (instruction_in target w k) n p bs rest e = refl
node_first (element_in tag inner until k) n p bs rest e = refl

-- they are those of the bindings in scope
own_is : (rows front : List RowOf) (r : RowOf) (n : ℕ) (own : List Binding) (vs : List NamedValue) (rest : List RowOf)
    → rows ≡ front ++ (r ∷ (field_rows n own vs ++ rest)) → length front ≡ n → begins_namespace rest ≡ false → own_at rows n ≡ own
unfolding field_rows
own_is rows front r n own vs rest e long is =
    let vals = table.attribute_rows n (n + 1 + length own) (in_order [] vs) in
    let names = table.namespace_rows n (n + 1) own in
    ap (own_at rows) (sym long)
    ∙ ap (λ (x : List RowOf). named_front (length front) (drop (suc (length front)) x)) e
    ∙ ap (named_front (length front)) (behind_front front r ((names ++ vals) ++ rest))
    ∙ ap (λ (m : ℕ). named_front m ((names ++ vals) ++ rest)) long
    ∙ ap (named_front n) (append_assoc names vals rest)
    ∙ front_is own n (n + 1) (vals ++ rest) (attributes_first n (n + 1 + length own) (in_order [] vs) rest is)

-- ---- rows

-- a field of element n
record FieldNamed (bound : Bound) (n : ℕ) (r : RowOf) : Type 0 where
  no_element : r.kind ≢ kinds.Element
  attribute : r.kind ≡ kinds.Attribute → (r.parent ≡ n) × (attribute_uri bound r.prefix_text ≡ Some r.uri)

namespaces_named : (bound : Bound) (m n : ℕ) (bs : List Binding) → EachRow (FieldNamed bound n) (table.namespace_rows n m bs)
namespaces_named bound m n [] = tt
namespaces_named bound m n (b ∷ bs) = (record { no_element = λ e. absurd cc; attribute = λ e. absurd cc }, namespaces_named bound (m + 1) n bs)

attributes_named : (bound : Bound) (m n : ℕ) (xs : Ordered) → AreOrdered bound xs → EachRow (FieldNamed bound n) (table.attribute_rows n m xs)
attributes_named bound m n [] h = tt
attributes_named bound m n (x ∷ xs) h = (record { no_element = λ e. absurd cc; attribute = λ e. (refl, h.0) }, attributes_named bound (m + 1) n xs h.1)

fields_named : (bound : Bound) (n : ℕ) (own : List Binding) (vs : List NamedValue) → AreValues bound vs → EachRow (FieldNamed bound n) (field_rows n own vs)
unfolding field_rows
fields_named bound n own vs v =
    each_both (FieldNamed bound n) (table.namespace_rows n (n + 1) own) (table.attribute_rows n (n + 1 + length own) (in_order [] vs))
    (namespaces_named bound (n + 1) n own) (attributes_named bound (n + 1 + length own) n (in_order [] vs) (ordered_all bound vs [] v tt))

-- row i has the name that its prefix has by the namespace rows right behind the element
record RowNamed (rows : List RowOf) (i : ℕ) : Type 0 where
  element : (row_at rows i).kind ≡ kinds.Element → element_uri (bound_by (own_at rows i)) (row_at rows i).prefix_text ≡ Some (row_at rows i).uri
  attribute : (row_at rows i).kind ≡ kinds.Attribute → attribute_uri (bound_by (own_at rows (row_at rows i).parent)) (row_at rows i).prefix_text ≡ Some (row_at rows i).uri

abbrev AllNamed : List RowOf → ℕ → ℕ → Type 0
AllNamed rows n m = (i : ℕ) → n ≤ i → i < m → RowNamed rows i

-- a row that is neither
other_named : (rows front behind : List RowOf) (r : RowOf) (n : ℕ) → rows ≡ front ++ (r ∷ behind) → length front ≡ n → r.kind ≢ kinds.Element → r.kind ≢ kinds.Attribute → RowNamed rows n
other_named rows front behind r n e long no_element no_attribute =
    let at : row_at rows n ≡ r = here rows front behind r n e long in
    record {
      element = λ k. absurd (no_element (ap (λ (x : RowOf). x.kind) (sym at) ∙ k));
      attribute = λ k. absurd (no_attribute (ap (λ (x : RowOf). x.kind) (sym at) ∙ k));
    }

one_named : (rows : List RowOf) (n m : ℕ) → RowNamed rows n → AllNamed rows (n + 1) m → AllNamed rows n m
one_named rows n m h k i from until = elim (cases_eq i n) [
  | inl is ↦ subst (RowNamed rows) (sym is) h
  | inr ne ↦ k i (omega (arith, from, ne)) until
]

both_named : (rows : List RowOf) (n k m : ℕ) → AllNamed rows n k → AllNamed rows k m → AllNamed rows n m
both_named rows n k m h g i from until = elim (cases_lt i k) [
  | inl before ↦ h i from before
  | inr behind ↦ g i behind until
]

field_row_named : (rows : List RowOf) (own : List Binding) (n i : ℕ) → own_at rows n ≡ own → FieldNamed (bound_by own) n (row_at rows i) → RowNamed rows i
field_row_named rows own n i is f = record {
  element = λ k. absurd (f.no_element k);
  attribute = λ k.
      let h = f.attribute k in
      ap (λ (bs : List Binding). attribute_uri (bound_by bs) (row_at rows i).prefix_text) (ap (own_at rows) h.0 ∙ is) ∙ h.1;
}

element_row_named : (rows front behind : List RowOf) (own : List Binding) (t : NamedTag) (n p last until : ℕ)
    → rows ≡ front ++ (element_row p last t.name t.from t.body_from until t.is_empty ∷ behind) → length front ≡ n → own_at rows n ≡ own → TagNamed (bound_by own) t → RowNamed rows n
element_row_named rows front behind own t n p last until e long is h =
    let r = element_row p last t.name t.from t.body_from until t.is_empty in
    let at : row_at rows n ≡ r = here rows front behind r n e long in
    record {
      element = λ k.
          ap (λ (bs : List Binding). element_uri (bound_by bs) (row_at rows n).prefix_text) is
          ∙ ap (λ (x : RowOf). element_uri (bound_by own) x.prefix_text) at ∙ h.name ∙ ap (λ (x : RowOf). Some x.uri) (sym at);
      attribute = λ k. absurd (let no : kinds.Element ≡ kinds.Attribute = ap (λ (x : RowOf). x.kind) (sym at) ∙ k in cc);
    }

-- the rows of an element and what stands behind them, cut at each place where a walk goes on
record Places (rows front behind fields below others : List RowOf) (r : RowOf) (n : ℕ) : Type 0 where
  row : rows ≡ front ++ (r ∷ (fields ++ (below ++ (others ++ behind))))
  at_fields : rows ≡ (front ++ r ∷ []) ++ (fields ++ (below ++ (others ++ behind)))
  at_below : rows ≡ ((front ++ r ∷ []) ++ fields) ++ (below ++ (others ++ behind))
  at_others : rows ≡ (((front ++ r ∷ []) ++ fields) ++ below) ++ (others ++ behind)
  to_fields : length (front ++ r ∷ []) ≡ n + 1
  to_below : length ((front ++ r ∷ []) ++ fields) ≡ n + 1 + length fields
  to_others : length (((front ++ r ∷ []) ++ fields) ++ below) ≡ n + 1 + length fields + length below

places : (rows front behind fields below others : List RowOf) (r : RowOf) (n : ℕ) → rows ≡ front ++ ((r ∷ (fields ++ (below ++ others))) ++ behind) → length front ≡ n
    → Places rows front behind fields below others r n
places rows front behind fields below others r n e long =
    let one : length (front ++ r ∷ []) ≡ n + 1 = one_more front r n long in
    let two : length ((front ++ r ∷ []) ++ fields) ≡ n + 1 + length fields = omega (arith, length-append (front ++ r ∷ []) fields, one) in
    record {
      row = e ∙ simp append_assoc refl;
      at_fields = e ∙ simp append_assoc refl;
      at_below = e ∙ simp append_assoc refl;
      at_others = e ∙ simp append_assoc refl;
      to_fields = one;
      to_below = two;
      to_others = omega (arith, length-append ((front ++ r ∷ []) ++ fields) below, two);
    }

rows_named : (t : Resolved) (rows front behind : List RowOf) (n p : ℕ) (bs : List Binding) → NamedIn bs t → begins_namespace behind ≡ false
    → rows ≡ front ++ (rows_from n p bs t ++ behind) → length front ≡ n → AllNamed rows n (n + length (rows_from n p bs t))
unfolding rows_from
rows_named nothing_in rows front behind n p bs h last e long = λ i from until. absurd (omega arith)
rows_named (text_in w k) rows front behind n p bs h last e long =
    let r = text_row p n w in
    let others = rows_from (n + 1) p bs k in
    subst (AllNamed rows n) (omega arith)
    (one_named rows n (n + 1 + length others) (other_named rows front (others ++ behind) r n e long (λ is. absurd cc) (λ is. absurd cc))
    (rows_named k rows (front ++ r ∷ []) behind (n + 1) p bs h last (next_front rows front (others ++ behind) r e) (one_more front r n long)))
rows_named (comment_in w k) rows front behind n p bs h last e long =
    let r = comment_row p n w in
    let others = rows_from (n + 1) p bs k in
    subst (AllNamed rows n) (omega arith)
    (one_named rows n (n + 1 + length others) (other_named rows front (others ++ behind) r n e long (λ is. absurd cc) (λ is. absurd cc))
    (rows_named k rows (front ++ r ∷ []) behind (n + 1) p bs h last (next_front rows front (others ++ behind) r e) (one_more front r n long)))
rows_named (instruction_in target w k) rows front behind n p bs h last e long =
    let r = instruction_row p n target w in
    let others = rows_from (n + 1) p bs k in
    subst (AllNamed rows n) (omega arith)
    (one_named rows n (n + 1 + length others) (other_named rows front (others ++ behind) r n e long (λ is. absurd cc) (λ is. absurd cc))
    (rows_named k rows (front ++ r ∷ []) behind (n + 1) p bs h last (next_front rows front (others ++ behind) r e) (one_more front r n long)))
rows_named (element_in tag inner until k) rows front behind n p bs h last e long =
    let own = with_all bs tag.declared in
    let fields = field_rows n own tag.attributes in
    let q = n + 1 + length fields in
    let below = rows_from q n own inner in
    let others = rows_from (q + length below) p bs k in
    let r = element_row p (n + length fields + length below) tag.name tag.from tag.body_from until tag.is_empty in
    let c = places rows front behind fields below others r n e long in
    let last2 : begins_namespace (others ++ behind) ≡ false = node_first k (q + length below) p bs behind last in
    let last3 : begins_namespace (below ++ (others ++ behind)) ≡ false = node_first inner q n own (others ++ behind) last2 in
    let is = own_is rows front r n own tag.attributes (below ++ (others ++ behind)) c.row long last3 in
    subst (AllNamed rows n) (omega (arith, length-append fields (below ++ others), length-append below others))
    (one_named rows n (q + length below + length others)
    (element_row_named rows front (fields ++ (below ++ (others ++ behind))) own tag n p (n + length fields + length below) until c.row long is h.0)
    (both_named rows (n + 1) q (q + length below + length others)
    (λ i from to. field_row_named rows own n i is (each_at (FieldNamed (bound_by own) n) fields rows (front ++ r ∷ []) (below ++ (others ++ behind)) (n + 1) i (fields_named (bound_by own) n own tag.attributes h.0.attributes) c.at_fields c.to_fields from to))
    (both_named rows q (q + length below) (q + length below + length others)
    (rows_named inner rows ((front ++ r ∷ []) ++ fields) (others ++ behind) q n own h.1 last2 c.at_below c.to_below)
    (rows_named k rows (((front ++ r ∷ []) ++ fields) ++ below) behind (q + length below) p bs h.2 last c.at_others c.to_others))))

all_named : (t : Resolved) → NamedIn first_bindings t → AllNamed (rows_of t) 1 (length (rows_of t))
unfolding rows_of
all_named t h =
    let X = rows_from 1 0 first_bindings t in
    subst (AllNamed (root_row (length X) ∷ X) 1) (omega arith)
    (rows_named t (root_row (length X) ∷ X) (root_row (length X) ∷ []) [] 1 0 first_bindings h refl (ap (λ (r : List RowOf). root_row (length X) ∷ r) (sym (append-nil X))) refl)

-- ---- rows and bindings

module _ (rows : List RowOf) (w : IsWellShaped rows) (x : ℕ) where
  abbrev bound : Bound
  bound = bound_by (own_at rows x)

  abbrev found : List ℕ → Option ℕ
  found p = find (has_prefix_of rows p) (namespace_rows rows x)

  row_is : (p v : List ℕ) → RowFor rows x p v → (z : ℕ) × IsOf rows w x z × ((row_at rows z).local_name ≡ p) × ((row_at rows z).value ≡ v)
  row_is p v f =
      let parts = and_parts (is_namespace (row_at rows f.at).kind) (eqb (row_at rows f.at).parent x) f.named in
      let kind = namespace_is (row_at rows f.at).kind parts.0 in
      let some : f.at ≢ 0 = λ z. absurd (let no : kinds.Namespace ≡ kinds.Root = sym kind ∙ ap (λ (i : ℕ). (row_at rows i).kind) z ∙ w.root_kind in cc) in
      (f.at, record { behind = omega (arith, some); within = f.within; kind = kind; parent = eqb-true (row_at rows f.at).parent x parts.1 }, f.prefix, f.uri)

  some_bound : (p v : List ℕ) → bound p ≡ Some v → bound_at rows x p ≡ Some v
  some_bound p v e = by (found p) refl
    where
      r : (z : ℕ) × IsOf rows w x z × ((row_at rows z).local_name ≡ p) × ((row_at rows z).value ≡ v)
      r = row_is p v (row_behind rows x p v e)

      by : (o : Option ℕ) → found p ≡ o → option_map (λ z. (row_at rows z).value) o ≡ Some v
      by None f = absurd (false≢true (sym (at_row rows w (λ z. has_prefix_of rows p z ≡ false) x r.0 r.1 (find_none (has_prefix_of rows p) (namespace_rows rows x) f)) ∙ (bytes_eq-Decides (row_at rows r.0).local_name p).1 r.2))
      by (Some z) f =
          let h = find_some (IsOf rows w x) (has_prefix_of rows p) (namespace_rows rows x) z (each_of rows w x) f in
          let same : z ≡ r.0 = unique rows w x z r.0 h.1 r.1 ((bytes_eq-Decides (row_at rows z).local_name p).0 h.0 ∙ sym r.2) in
          ap (λ (i : ℕ). Some (row_at rows i).value) same ∙ ap (λ (u : List ℕ). Some u) r.3

  none_bound : (p : List ℕ) → bound p ≡ None → bound_at rows x p ≡ None
  none_bound p e = by (found p) refl
    where
      by : (o : Option ℕ) → found p ≡ o → option_map (λ z. (row_at rows z).value) o ≡ None
      by None f = refl
      by (Some z) f =
          let h = find_some (IsOf rows w x) (has_prefix_of rows p) (namespace_rows rows x) z (each_of rows w x) f in
          let is = h.1 in
          let up = is.parent in
          let within = is.within in
          let before = w.nesting.parent_before z is.behind is.within in
          let X : List RowOf = drop (suc x) rows in
          let k = z - suc x in
          let in_run : (u : ℕ) → u ≤ k → names_in x (row_at X u) ≡ true = λ u le. ap (names_in x) (get_or-drop (suc x) rows u no_row) ∙ names_of (suc x + u) (run z is (suc x + u) (omega arith) (omega arith)) in
          let there = bound_row X x k (omega (arith, length-drop (suc x) rows)) in_run in
          let same : row_at X k ≡ row_at rows z = get_or-drop (suc x) rows k no_row ∙ ap (row_at rows) (omega arith) in
          let prefix : (row_at X k).local_name ≡ p = ap (λ (r : RowOf). r.local_name) same ∙ (bytes_eq-Decides (row_at rows z).local_name p).0 h.0 in
          absurd (false≢true (ap is_some (sym e) ∙ ap (λ (q : List ℕ). is_some (bound q)) (sym prefix) ∙ there))
        where
          run : (z : ℕ) → IsOf rows w x z → (j : ℕ) → x < j → j ≤ z → IsOf rows w x j
          run z is j gt le = elim (cases_lt j z) [
            | inl before ↦ between rows w x z j is gt before
            | inr not_before ↦ let same : z ≡ j = omega arith in subst (IsOf rows w x) same is
          ]

          names_of : (j : ℕ) → IsOf rows w x j → names_in x (row_at rows j) ≡ true
          names_of j is = and_from (is_namespace (row_at rows j).kind) (eqb (row_at rows j).parent x) (ap is_namespace is.kind) (eq-eqb (row_at rows j).parent x is.parent)

  pub bound_is : (p : List ℕ) → bound p ≡ bound_at rows x p
  bound_is p = by (bound p) refl
    where
      by : (o : Option (List ℕ)) → bound p ≡ o → o ≡ bound_at rows x p
      by None e = sym (none_bound p e)
      by (Some v) e = sym (some_bound p v e)

pub document_named : (t : Content) (r : Resolved) → is_document t ≡ true → resolve [] t ≡ Some r → IsNamed (rows_of r)
document_named t r d e =
    let rows : List RowOf = rows_of r in
    let w = rows_shaped t r d e in
    let h = all_named r (named_of t [] r tt e) in
    record {
      elements = λ x lt k.
          ap (λ (o : Option (List ℕ)). cond (is_empty (row_at rows x).prefix_text) (Some (or_empty o)) o) (sym (bound_is rows w x (row_at rows x).prefix_text))
          ∙ (h x (pos rows w x k kinds_differ) lt).element k;
      attributes = λ a lt k.
          ap (λ (o : Option (List ℕ)). cond (is_empty (row_at rows a).prefix_text) (Some []) o) (sym (bound_is rows w (row_at rows a).parent (row_at rows a).prefix_text))
          ∙ (h a (pos rows w a k others_differ) lt).attribute k;
    }
  where
    kinds_differ : kinds.Root ≢ kinds.Element
    kinds_differ e = cc

    others_differ : kinds.Root ≢ kinds.Attribute
    others_differ e = cc

    pos : (rows : List RowOf) → IsWellShaped rows → {k : Kind} → (i : ℕ) → (row_at rows i).kind ≡ k → kinds.Root ≢ k → 1 ≤ i
    pos rows w zero is ne = absurd (ne (sym w.root_kind ∙ is))
    pos rows w (suc i) is ne = omega arith

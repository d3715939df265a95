-- What the rows of each document say can be spelled, and their names are those that are written.
use Rattle.std.proofs.Common.{◌≡◌, ℕ, ◌+◌, ◌<◌, Bool, true, false, cond, ◌&&◌, List, [], ◌∷◌, ◌++◌, length, Option, Some, None, refl, sym, ap, subst, ◌∙◌, append-nil, arith}
use Rattle.std.specs.Prelude.{codes, is_none}
use Rattle.std.specs.Str.{chars, bytes_eq}
use Rattle.std.specs.BTreeMap.{insert_entry, is_at}
use Rattle.std.specs.Map.{remove_entry}
use Rattle.std.specs.Ordering.{match_ordering, is_eq}
use Rattle.std.specs.declared.cmp.Ordering.{Ordering}
use Rattle.std.specs.declared.cmp.Ordering.TheVariants.{Less, Equal, Greater}
use Rattle.std.proofs.lemmas.Bool.{false≢true, and_parts}
use Rattle.std.proofs.lemmas.Slice.Eq.{bytes_eq-Decides}
use Rattle.std.proofs.lemmas.Map.Text.{is_eq-slice_cmp}
use Rattle.sig_base.proofs.OptionLemmas.{some_is, bind_some, cond_some}
use Rattle.sig_base.specs.Options.{◌>>=◌}
use Rattle.xml_names.specs.Characters.{is_char, is_name_start, is_name_char}
use Rattle.xml_names.specs.Names.{qname_of, is_ncname}
use Rattle.xml_names.specs.Scopes.{is_empty, xml_name, declared_fault}
use Rattle.xml_doc.specs.Rows.{RowOf}
use Rattle.xml_doc.specs.Shape.{row_at}
use Rattle.xml_syntax.specs.Characters.{Placed, Passes}
use Rattle.xml_syntax.specs.Tree.{Attribute, Tag, Content, nothing, text, comment, instruction, element}
use Rattle.xml_resolve.specs.Resolve.{Declaration, Name, NamedValue, NamedTag, Resolved, nothing_in, text_in, comment_in, instruction_in, element_in, Above, bound_above, is_declaration, declaration_of, declared_by, element_name, attribute_uri, named_by, resolve, or_empty}
use Rattle.xml_resolve.specs.Rows.{Binding, Ordered, text_cmp, with_binding, with_all, first_bindings, in_order, namespace_rows, attribute_rows, field_rows, rows_from, rows_of}
use Rattle.xml_resolve.specs.Steps.{Key, key_cmp}
use Rattle.xml_resolve.proofs.BuiltLaws.{TagIs, element_parts}
use Rattle.xml_resolve.proofs.EachLaws.{EachRow, each_both, each_at}
use Rattle.xml_resolve.proofs.ResolveLaws.{key_same}
use Rattle.c14n_listing.specs.Tidy.{letters, IsName, IsText, IsComment, IsInstruction, AreAttributes, IsTag, Tidy}
use Rattle.c14n_subtrees.specs.Subtree.{declaration_name}
use Rattle.c14n_subtrees.specs.Spelled.{CanBeSpelled, AreSpelled}
use Rattle.c14n_subtrees.specs.Named.{DeclaresPrefix, IsWrittenSo, AreWrittenSo}
use Rattle.c14n_subtrees.proofs.Names.{IsWhole, IsDeclared, IsValued, whole_of, valued_of, declared_of}

-- ---- tags whose names are resolved

abbrev AreDeclared : List Declaration → Type 0
AreDeclared [] = Unit {0}
AreDeclared (d ∷ ds) = IsDeclared d.prefix d.uri × AreDeclared ds

abbrev AreValued : List NamedValue → Type 0
AreValued [] = Unit {0}
AreValued (v ∷ vs) = IsValued v.name.prefix v.name.local v.value × AreValued vs

declared_first : (q : List ℕ × List ℕ) (b : Bool) (a : Attribute) (others : List Attribute) (ds : List Declaration) → IsName a.name → IsText a.value
    → qname_of a.name ≡ Some q → is_declaration q ≡ b → ((es : List Declaration) → declared_by others ≡ Some es → AreDeclared es)
    → cond b (cond (is_none (declared_fault (declaration_of q a.value).prefix a.value)) (declared_by others >>= λ es. Some (declaration_of q a.value ∷ es)) None) (declared_by others) ≡ Some ds
    → AreDeclared ds
declared_first q true a others ds n v e is ih f =
    let p = cond_some (is_none (declared_fault (declaration_of q a.value).prefix a.value)) _ ds f in
    let d = bind_some (declared_by others) (λ es. Some (declaration_of q a.value ∷ es)) ds p.1 in
    subst AreDeclared (some_is (declaration_of q a.value ∷ d.0) ds d.2) (declared_of a.name a.value q n v e is p.0, ih d.0 d.1)
declared_first q false a others ds n v e is ih f = ih ds f

are_declared : (attributes : List Attribute) (ds : List Declaration) → AreAttributes attributes → declared_by attributes ≡ Some ds → AreDeclared ds
unfolding declared_by
are_declared [] ds h e = subst AreDeclared (some_is [] ds e) tt
are_declared (a ∷ others) ds h e =
    let q = bind_some (qname_of a.name) _ ds e in
    declared_first q.0 (is_declaration q.0) a others ds h.0 h.1 q.1 refl (λ es f. are_declared others es h.2 f) q.2

valued_first : (bound : List ℕ → Option (List ℕ)) (q : List ℕ × List ℕ) (b : Bool) (a : Attribute) (others : List Attribute) (vs : List NamedValue) → IsName a.name → IsText a.value
    → qname_of a.name ≡ Some q → is_declaration q ≡ b → ((us : List NamedValue) → named_by bound others ≡ Some us → AreValued us)
    → cond b (named_by bound others) (attribute_uri bound q.0 >>= λ uri. named_by bound others >>= λ more. Some (record { name = record { prefix = q.0; local = q.1; uri = uri }; value = a.value } ∷ more)) ≡ Some vs
    → AreValued vs
valued_first bound q true a others vs n v e is ih f = ih vs f
valued_first bound q false a others vs n v e is ih f =
    let u = bind_some (attribute_uri bound q.0) _ vs f in
    let m = bind_some (named_by bound others) _ vs u.2 in
    subst AreValued (some_is _ vs m.2) (valued_of a.name a.value q n v e is, ih m.0 m.1)

are_valued : (bound : List ℕ → Option (List ℕ)) (attributes : List Attribute) (vs : List NamedValue) → AreAttributes attributes → named_by bound attributes ≡ Some vs → AreValued vs
unfolding named_by
are_valued bound [] vs h e = subst AreValued (some_is [] vs e) tt
are_valued bound (a ∷ others) vs h e =
    let q = bind_some (qname_of a.name) _ vs e in
    valued_first bound q.0 (is_declaration q.0) a others vs h.0 h.1 q.1 refl (λ us f. are_valued bound others us h.2 f) q.2

name_parts : (bound : List ℕ → Option (List ℕ)) (q : List ℕ × List ℕ) (b : Bool) (n : Name) → IsWhole q.0 q.1
    → cond b (Some (record { prefix = q.0; local = q.1; uri = or_empty (bound q.0) })) (bound q.0 >>= λ uri. Some (record { prefix = q.0; local = q.1; uri = uri })) ≡ Some n → IsWhole n.prefix n.local
name_parts bound q true n h e = subst (λ (m : Name). IsWhole m.prefix m.local) (some_is _ n e) h
name_parts bound q false n h e = let u = bind_some (bound q.0) _ n e in subst (λ (m : Name). IsWhole m.prefix m.local) (some_is _ n u.2) h

element_whole : (bound : List ℕ → Option (List ℕ)) (w : List ℕ) (n : Name) → IsName w → element_name bound w ≡ Some n → IsWhole n.prefix n.local
unfolding element_name
element_whole bound w n h e =
    let q = bind_some (qname_of w) _ n e in
    name_parts bound q.0 (is_empty q.0.0) n (whole_of w q.0 h q.1) q.2

record IsTagSound (t : NamedTag) : Type 0 where
  name : IsWhole t.name.prefix t.name.local
  declared : AreDeclared t.declared
  attributes : AreValued t.attributes

abbrev IsSound : Resolved → Type 0
IsSound nothing_in = Unit {0}
IsSound (text_in w k) = IsText w × IsSound k
IsSound (comment_in w k) = IsComment w × IsSound k
IsSound (instruction_in target w k) = IsInstruction target w × (is_ncname target ≡ true) × IsSound k
IsSound (element_in t inner until k) = IsTagSound t × IsSound inner × IsSound k

tag_sound : (above : Above) (tag : Tag) (t : NamedTag) → IsTag tag.name tag.attributes → TagIs above tag t → IsTagSound t
tag_sound above tag t h p = record {
  name = element_whole (bound_above (t.declared ∷ above)) tag.name t.name h.is_name p.name;
  declared = are_declared tag.attributes t.declared h.are_attributes p.declared;
  attributes = are_valued (bound_above (t.declared ∷ above)) tag.attributes t.attributes h.are_attributes p.values;
}

sound_of : (k : Content) (above : Above) (r : Resolved) → resolve above k ≡ Some r → Tidy k → IsSound r
unfolding resolve
sound_of nothing above r e h = subst IsSound (some_is nothing_in r e) tt
sound_of (text w k) above r e h = let m = bind_some (resolve above k) _ r e in subst IsSound (some_is _ r m.2) (h.0.is_text, sound_of k above m.0 m.1 h.1)
sound_of (comment w k) above r e h = let m = bind_some (resolve above k) _ r e in subst IsSound (some_is _ r m.2) (h.0, sound_of k above m.0 m.1 h.1)
sound_of (instruction target w k) above r e h =
    let c = cond_some (is_ncname target) _ r e in
    let m = bind_some (resolve above k) _ r c.1 in
    subst IsSound (some_is _ r m.2) (h.0, c.0, sound_of k above m.0 m.1 h.1)
sound_of (element tag inner until k) above r e h =
    let p = element_parts above tag inner until k r e in
    subst IsSound p.whole (tag_sound above tag p.t h.0 p.tagged, sound_of inner (p.t.declared ∷ above) p.i p.inside h.1, sound_of k above p.m p.behind_it h.2)

-- ---- bindings and attributes in order

-- a binding in scope: one that was declared, or that of `xml`
record IsBound (prefix uri : List ℕ) : Type 0 where
  spelled : IsName (declaration_name prefix)
  is_text : IsText uri
  declares : DeclaresPrefix prefix
  allowed : bytes_eq prefix (codes "xml") ≡ false → declared_fault prefix uri ≡ None

bound_declared : (prefix uri : List ℕ) → IsDeclared prefix uri → IsBound prefix uri
bound_declared prefix uri h = record { spelled = h.spelled; is_text = h.is_text; declares = h.declares; allowed = λ e. h.allowed }

abbrev AreBound : List Binding → Type 0
AreBound [] = Unit {0}
AreBound (b ∷ bs) = IsBound b.0 b.1 × AreBound bs

same_text : (a b : List ℕ) → text_cmp a b ≡ Equal → a ≡ b
same_text a b e = (bytes_eq-Decides a b).0 (sym (is_eq-slice_cmp a b) ∙ ap is_eq e)

bound_inserted : (prefix uri : List ℕ) → IsBound prefix uri → (bs : List Binding) → AreBound bs → AreBound (insert_entry text_cmp bs prefix uri)
bound_inserted prefix uri n [] h = (n, tt)
bound_inserted prefix uri n (b ∷ bs) h = by (text_cmp prefix b.0) refl (bound_inserted prefix uri n bs h.1)
  where
    by : (c : Ordering) → text_cmp prefix b.0 ≡ c → AreBound (insert_entry text_cmp bs prefix uri)
        → AreBound (match_ordering c ((prefix, uri) ∷ (b ∷ bs)) ((b.0, uri) ∷ bs) (b ∷ insert_entry text_cmp bs prefix uri))
    by Less e more = (n, h)
    by Equal e more = (subst (λ (p : List ℕ). IsBound p uri) (same_text prefix b.0 e) n, h.1)
    by Greater e more = (h.0, more)

bound_removed : (test : List ℕ → Bool) (bs : List Binding) → AreBound bs → AreBound (remove_entry test bs)
bound_removed test [] h = tt
bound_removed test (b ∷ bs) h =
    elim (test b.0) as (λ t. AreBound (cond t bs (b ∷ remove_entry test bs))) [
      | true ↦ h.1
      | false ↦ (h.0, bound_removed test bs h.1)
    ]

bound_with : (prefix uri : List ℕ) (bs : List Binding) (b : Bool) → IsBound prefix uri → AreBound bs → AreBound (cond b (remove_entry (is_at (text_cmp prefix)) bs) (insert_entry text_cmp bs prefix uri))
bound_with prefix uri bs true n h = bound_removed (is_at (text_cmp prefix)) bs h
bound_with prefix uri bs false n h = bound_inserted prefix uri n bs h

bound_all : (ds : List Declaration) (bs : List Binding) → AreDeclared ds → AreBound bs → AreBound (with_all bs ds)
bound_all [] bs d h = h
bound_all (x ∷ ds) bs d h =
    bound_all ds (with_binding bs x.prefix x.uri) d.1 (bound_with x.prefix x.uri bs (is_empty x.uri) (bound_declared x.prefix x.uri d.0) h)

-- the name of `xml` is a text
all_chars : (s : List Placed) → Bool
all_chars [] = true
all_chars (x ∷ s) = is_char x.code && all_chars s

chars_by : (s : List Placed) → all_chars s ≡ true → Passes is_char s
unfolding all_chars
chars_by [] e = tt
chars_by (x ∷ s) e = let p = and_parts (is_char x.code) (all_chars s) e in (p.0, chars_by s p.1)

xml_text : IsText xml_name
unfolding all_chars chars is_char lib.Utf8.encode
xml_text = (chars_by (letters xml_name) refl, refl)

xml_spelled : IsName (codes "xmlns:xml")
unfolding chars is_char is_name_start is_name_char lib.Utf8.encode
xml_spelled = (refl, (refl, (refl, (refl, (refl, (refl, (refl, (refl, (refl, tt)))))))), refl)

xml_declares : DeclaresPrefix (codes "xml")
unfolding qname_of is_ncname chars is_name_start is_name_char
xml_declares = record { parts = (codes "xmlns", codes "xml"); split = refl; declares = refl; prefix = λ uri. refl }

first_bound : AreBound first_bindings
first_bound = (record { spelled = xml_spelled; is_text = xml_text; declares = xml_declares; allowed = λ e. absurd (false≢true (sym e)) }, tt)

abbrev AreOrdered : Ordered → Type 0
AreOrdered [] = Unit {0}
AreOrdered (x ∷ xs) = IsValued x.1.0 x.0.1 x.1.1 × AreOrdered xs

ordered_inserted : (key : Key) (v : List ℕ × List ℕ) → IsValued v.0 key.1 v.1 → (xs : Ordered) → AreOrdered xs → AreOrdered (insert_entry key_cmp xs key v)
ordered_inserted key v n [] h = (n, tt)
ordered_inserted key v n (x ∷ xs) h = by (key_cmp key x.0) refl (ordered_inserted key v n xs h.1)
  where
    by : (c : Ordering) → key_cmp key x.0 ≡ c → AreOrdered (insert_entry key_cmp xs key v)
        → AreOrdered (match_ordering c ((key, v) ∷ (x ∷ xs)) ((x.0, v) ∷ xs) (x ∷ insert_entry key_cmp xs key v))
    by Less e more = (n, h)
    by Equal e more = (subst (λ (k : Key). IsValued v.0 k.1 v.1) (key_same key x.0 e) n, h.1)
    by Greater e more = (h.0, more)

ordered_all : (vs : List NamedValue) (done : Ordered) → AreValued vs → AreOrdered done → AreOrdered (in_order done vs)
ordered_all [] done v h = h
ordered_all (x ∷ vs) done v h =
    ordered_all vs (insert_entry key_cmp done (x.name.uri, x.name.local) (x.name.prefix, x.value)) v.1
    (ordered_inserted (x.name.uri, x.name.local) (x.name.prefix, x.value) v.0 done h)

-- ---- rows

abbrev IsRowSound : RowOf → Type 0
IsRowSound r = CanBeSpelled r r.kind × IsWrittenSo r r.kind

namespaces_sound : (n p : ℕ) (bs : List Binding) → AreBound bs → EachRow IsRowSound (namespace_rows p n bs)
namespaces_sound n p [] h = tt
namespaces_sound n p (b ∷ bs) h = (((h.0.spelled, h.0.is_text), (h.0.declares, h.0.allowed)), namespaces_sound (n + 1) p bs h.1)

attributes_sound : (n p : ℕ) (xs : Ordered) → AreOrdered xs → EachRow IsRowSound (attribute_rows p n xs)
attributes_sound n p [] h = tt
attributes_sound n p (x ∷ xs) h =
    let v = h.0 in (((v.whole.spelled, v.is_text), (v.whole.split, v.no_declaration)), attributes_sound (n + 1) p xs h.1)

fields_sound : (n : ℕ) (bs : List Binding) (vs : List NamedValue) → AreBound bs → AreValued vs → EachRow IsRowSound (field_rows n bs vs)
unfolding field_rows
fields_sound n bs vs h v =
    let xs = in_order [] vs in
    each_both IsRowSound (namespace_rows n (n + 1) bs) (attribute_rows n (n + 1 + length bs) xs)
    (namespaces_sound (n + 1) n bs h) (attributes_sound (n + 1 + length bs) n xs (ordered_all vs [] v tt))

rows_sound : (t : Resolved) (n p : ℕ) (bs : List Binding) → IsSound t → AreBound bs → EachRow IsRowSound (rows_from n p bs t)
unfolding rows_from
rows_sound nothing_in n p bs f h = tt
rows_sound (text_in w k) n p bs f h = ((f.0, tt), rows_sound k (n + 1) p bs f.1 h)
rows_sound (comment_in w k) n p bs f h = ((f.0, tt), rows_sound k (n + 1) p bs f.1 h)
rows_sound (instruction_in target w k) n p bs f h = ((f.0, f.1), rows_sound k (n + 1) p bs f.2 h)
rows_sound (element_in tag inner until k) n p bs f h =
    let own = with_all bs tag.declared in
    let bound = bound_all tag.declared bs f.0.declared h in
    let fields = field_rows n own tag.attributes in
    let below = rows_from (n + 1 + length fields) n own inner in
    let others = rows_from (n + 1 + length fields + length below) p bs k in (
      (f.0.name.spelled, f.0.name.split),
      each_both IsRowSound fields (below ++ others) (fields_sound n own tag.attributes bound f.0.attributes)
          (each_both IsRowSound below others (rows_sound inner (n + 1 + length fields) n own f.1 bound) (rows_sound k (n + 1 + length fields + length below) p bs f.2 h)),
    )

all_sound : (t : Resolved) → IsSound t → EachRow IsRowSound (rows_of t)
unfolding rows_of
all_sound t f = ((tt, tt), rows_sound t 1 0 first_bindings f first_bound)

sound_at : (t : Content) (r : Resolved) → Tidy t → resolve [] t ≡ Some r → (i : ℕ) → i < length (rows_of r) → IsRowSound (row_at (rows_of r) i)
sound_at t r h e i lt =
    each_at IsRowSound (rows_of r) (rows_of r) [] [] 0 i (all_sound r (sound_of t [] r e h)) (sym (append-nil (rows_of r))) refl (omega arith) (omega (arith, lt))

pub document_spelled : (t : Content) (r : Resolved) → Tidy t → resolve [] t ≡ Some r → AreSpelled (rows_of r)
document_spelled t r h e i lt = (sound_at t r h e i lt).0

pub document_written : (t : Content) (r : Resolved) → Tidy t → resolve [] t ≡ Some r → AreWrittenSo (rows_of r)
document_written t r h e i lt = (sound_at t r h e i lt).1

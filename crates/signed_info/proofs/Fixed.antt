-- The octets that were signed fix what SignedInfo says.
use Rattle.std.proofs.Common.{◌≡◌, ℕ, suc, ◌+◌, ◌-◌, ◌<◌, ◌≤◌, Bool, true, false, cond, List, [], ◌∷◌, length, map, Option, Some, None, option_map, refl, sym, ap, ap₂, subst, ◌∙◌, arith}
use Rattle.std.specs.Prelude.{Result, Ok, Err, IfOk, drop, encode_utf8_all, max}
use Rattle.std.specs.Str.{chars, is_utf8}
use Rattle.std.proofs.lemmas.Bool.{false≢true}
use Rattle.sig_base.specs.Options.{◌>>=◌}
use Rattle.sig_base.specs.declared.method.CanonMethod.{CanonMethod}
use Rattle.sig_base.specs.declared.method.CanonMethod.TheVariants.{C10, C10Comments, C11, C11Comments, Exc, ExcComments}
use Rattle.xml_names.specs.Names.{is_ncname}
use Rattle.xml_doc.specs.Kinds.{is_element}
use Rattle.xml_doc.specs.Rows.{RowOf}
use Rattle.xml_doc.specs.Shape.{IsWellShaped}
use Rattle.xml_doc.specs.declared.row.Kind.{Kind}
use Rattle.xml_doc.specs.declared.row.Kind.TheVariants as kinds
use Rattle.xml_syntax.specs.Characters.{characters}
use Rattle.xml_syntax.specs.Grammar.{SpellsDocument}
use Rattle.xml_syntax.specs.Outcome.{names_other_encoding}
use Rattle.xml_syntax.specs.Tree.{Content, nothing, text, comment, instruction, element}
use Rattle.xml_resolve.specs.Depth.{depth}
use Rattle.xml_resolve.specs.Resolve.{Resolved, nothing_in, text_in, comment_in, instruction_in, element_in, Above, resolve, resolve_tag}
use Rattle.xml_resolve.specs.Rows.{first_bindings, rows_from, rows_of}
use Rattle.xml_read.specs.ReadOutcome.{depth_limit}
use Rattle.xml_read.specs.Spelled.{SpellsTree, Spells}
use Rattle.xml_read.specs.SpelledTree.{mark_length, behind_mark, characters_of}
use Rattle.xml_read.proofs.SpelledLaws.{none_named}
use Rattle.node_sets.specs.Members.{in_subtree}
use Rattle.c14n_text.specs.Rows.{kind_of, parent_of, is_child}
use Rattle.c14n_text.specs.Tree as tree
use Rattle.c14n_text.specs.Namespaces.{Rule, inclusive, eleven, exclusive}
use Rattle.c14n_text.specs.Canon.{canon}
use Rattle.c14n_methods.specs.Methods.{canonical_form}
use Rattle.c14n_listing.specs.Listing.{listing}
use Rattle.c14n_subtrees.specs.Subtree.{node_of, nodes, node_at, subtree}
use Rattle.c14n_subtrees.specs.Resolved.{resolved_subtree, unplaced_names}
use Rattle.c14n_subtrees.proofs.Alone.{listed, behind_root}
use Rattle.c14n_subtrees.proofs.OfDocuments.{document_canon, document_resolved}
use Rattle.dsig_fields.specs.Fields.{fields_of, info_fields, key_info_if}
use Rattle.dsig_fields.specs.Reading.{required, optional, behind_all, at_end, children}
use Rattle.dsig_fields.specs.Simple.{simple_octets}
use Rattle.dsig_fields.specs.Same.{SameElement}
use Rattle.dsig_fields.specs.declared.fields.Fields.{Fields}
use Rattle.dsig_fields.specs.declared.fields.Info.{Info}
use Rattle.dsig_fields.specs.declared.names.ElementName.TheVariants as names
use Rattle.dsig_fields.specs.declared.refusal.FieldRefusal.{FieldRefusal}
use Rattle.dsig_fields.proofs.FitLaws.{fields_fit}
use Rattle.dsig_fields.proofs.SameLaws.{info_says_the_same}
use Rattle.dsig_fields.proofs.Steps.{then_fits, in_any_case}
use Rattle.signed_info.specs.Signed.{info_of, signed_octets, FixTheFields, SignedOctetsFixTheFields}
use Rattle.signed_info.proofs.Marks.{deep, deep_unplaced}
use Rattle.signed_info.proofs.Standing.{tree_stands, element_found}
use Rattle.signed_info.proofs.Same.{IsTop, top_of, kept_depth}
use Rattle.signed_info.proofs.Elements.{some_same, document_read, elements_same}

-- ---- a tree is as deep as what it resolves to
bind_parts : {A B : Type 0} (o : Option A) (f : A → Option B) (b : B) → (o >>= f) ≡ Some b → (a : A) × (o ≡ Some a) × (f a ≡ Some b)
bind_parts None f b e = absurd cc
bind_parts (Some a) f b e = (a, refl, e)

resolved_depth : (t : Content) (up : Above) (r : Resolved) → resolve up t ≡ Some r → depth t ≡ deep r
unfolding resolve
resolved_depth nothing up r e = ap deep (some_same nothing_in r e)
resolved_depth (text w k) up r e =
    let p = bind_parts (resolve up k) (λ i. Some (text_in w i)) r e in
    resolved_depth k up p.0 p.1 ∙ ap deep (some_same (text_in w p.0) r p.2)
resolved_depth (comment w k) up r e =
    let p = bind_parts (resolve up k) (λ i. Some (comment_in w i)) r e in
    resolved_depth k up p.0 p.1 ∙ ap deep (some_same (comment_in w p.0) r p.2)
resolved_depth (instruction target w k) up r e = by (is_ncname target) e (resolved_depth k up)
  where
    by : (b : Bool) → cond b (resolve up k >>= (λ i. Some (instruction_in target w i))) None ≡ Some r → ((i : Resolved) → resolve up k ≡ Some i → depth k ≡ deep i) → depth k ≡ deep r
    by true f more =
        let p = bind_parts (resolve up k) (λ i. Some (instruction_in target w i)) r f in
        more p.0 p.1 ∙ ap deep (some_same (instruction_in target w p.0) r p.2)
    by false f more = absurd cc
resolved_depth (element tag inner until k) up r e =
    let p = bind_parts (resolve_tag up tag) _ r e in
    let q = bind_parts (resolve (p.0.declared ∷ up) inner) _ r p.2 in
    let l = bind_parts (resolve up k) _ r q.2 in
    ap₂ (λ (m n : ℕ). max (m + 1) n) (resolved_depth inner (p.0.declared ∷ up) q.0 q.1) (resolved_depth k up l.0 l.1)
    ∙ ap deep (some_same (element_in p.0 q.0 until l.0) r l.2)

-- ---- octets that begin with a tag
abbrev Opens : List ℕ → Type 0
Opens [] = ⊥
Opens (c ∷ w) = c ≡ 60

no_mark : (w : List ℕ) → Opens w → mark_length w ≡ 0
no_mark [] h = absurd h
no_mark (c ∷ w) h = rw h refl

characters_are : (w : List ℕ) → mark_length w ≡ 0 → characters_of w ≡ characters 0 (chars w)
characters_are w e = ap (λ (n : ℕ). characters n (chars (drop n w))) e

behind_is : (w : List ℕ) → mark_length w ≡ 0 → behind_mark w ≡ w
behind_is w e = ap (λ (n : ℕ). drop n w) e

module _ (rule : Rule) (comments : Bool) (rows : List RowOf) (x : ℕ) (w : IsWellShaped rows) (there : x < length rows) (kind : kind_of rows x ≡ kinds.Element) where
  canon_opens : Opens (canon rule comments rows (in_subtree rows x))
  canon_opens =
      let set = in_subtree rows x in
      let size : length rows ≡ suc (length rows - 1) = omega (arith, there) in
      let inner = nodes (node_at rows set rule comments (length rows - 1)) (tree.children (length rows) (parent_of rows) (is_child rows) x) in
      let is : subtree rule comments rows set x ≡ node_of rows set rule comments x inner nothing kinds.Element =
      ap (λ (n : ℕ). node_at rows set rule comments n x nothing) size ∙ ap (node_of rows set rule comments x inner nothing) kind in
      subst Opens (sym (listed rule comments rows x w there kind ∙ ap listing is)) refl

-- ---- what is read of a signature
abbrev IsFound : List RowOf → Fields → Type 0
IsFound rows fields = info_fields rows fields.signed_info ≡ Ok (info_of fields)

itself : {A : Type 0} (o : Result A FieldRefusal) → IfOk o (λ a. o ≡ Ok a)
itself (Ok a) = refl
itself (Err refusal) = tt

found_if : (rows : List RowOf) (x : ℕ) → IfOk (fields_of rows x) (IsFound rows)
unfolding fields_of
found_if rows x =
    let Q = IsFound rows in
    in_any_case Q (required rows names.SignedInfo (children rows x)) _ (λ first.
    then_fits (λ (i : Info). info_fields rows first.0 ≡ Ok i) Q (info_fields rows first.0) _ (itself (info_fields rows first.0)) (λ info is.
    in_any_case Q (required rows names.SignatureValue first.1) _ (λ second.
    in_any_case Q (simple_octets rows second.0) _ (λ value. in_any_case Q (optional rows names.KeyInfo second.1) _ (λ third. in_any_case Q (key_info_if rows third.0) _ (λ key_name.
    in_any_case Q (behind_all rows names.Object third.1) _ (λ left. in_any_case Q (at_end rows left) _ (λ done. is))))))))

found : (rows : List RowOf) (x : ℕ) (fields : Fields) → fields_of rows x ≡ Ok fields → IsFound rows fields
found rows x fields e = rw e at (found_if rows x)

element_kind : (k : Kind) → is_element k ≡ true → k ≡ kinds.Element
element_kind kinds.Element e = refl
element_kind kinds.Root e = absurd (false≢true e)
element_kind kinds.Namespace e = absurd (false≢true e)
element_kind kinds.Attribute e = absurd (false≢true e)
element_kind kinds.Text e = absurd (false≢true e)
element_kind kinds.Comment e = absurd (false≢true e)
element_kind kinds.Instruction e = absurd (false≢true e)

-- ---- by rule
some_of : {A B : Type 0} (f : A → B) (o : Option A) (b : B) → option_map f o ≡ Some b → (a : A) × (o ≡ Some a) × (f a ≡ b)
some_of f None b e = absurd cc
some_of f (Some a) b e = (a, refl, some_same (f a) b e)

module _ (at : ℕ) (written : List ℕ) (t : Content) (r : Resolved) (spells : SpellsDocument (characters at written) t) (resolves : resolve [] t ≡ Some r) (shallow : depth t ≤ depth_limit)
    (rule : Rule) (comments : Bool) (x : ℕ) (there : x < length (rows_of r)) (kind : kind_of (rows_of r) x ≡ kinds.Element) where
  abbrev rows : List RowOf
  rows = rows_of r

  abbrev octets : List ℕ
  octets = canon rule comments rows (in_subtree rows x)

  shaped : IsWellShaped rows
  shaped = (document_read at written t r spells resolves).shaped

  unmarked : mark_length octets ≡ 0
  unmarked = no_mark octets (canon_opens rule comments rows x shaped there kind)

  inside : (x : ℕ) → x < length (rows_of r) → x < 1 + length (rows_from 1 0 first_bindings r)
  unfolding rows_of
  inside x lt = omega (arith, lt)

  -- it is no deeper than the document
  top_depth : (s : Resolved) → IsTop rule comments rows x shaped there kind s → deep s ≤ depth_limit
  top_depth s top =
      let e = element_found rows r 1 0 first_bindings x (tree_stands r) (behind_root rule comments rows x shaped there kind) (inside x there) kind in
      let below = kept_depth rule comments rows x shaped there kind (length rows) 0 x _ e.0 _ e.1 (omega arith) top.kept e.2 in
      let same = deep_unplaced top.inner in
      let none : deep top.rest ≡ 0 = sym (deep_unplaced top.rest) ∙ ap deep top.alone in
      let whole : deep s ≡ max (deep top.inner + 1) (deep top.rest) = ap deep top.is in
      let all = resolved_depth t [] r resolves in
      omega (arith, e.3, below, same, none, whole, all, shallow)

  pub read_again : (others : List RowOf) × Spells octets others
  read_again =
      let c = document_canon rule comments at written t r x spells resolves there kind in
      let s = some_of unplaced_names (resolve [] c.tree) (resolved_subtree rule comments rows (in_subtree rows x) x)
      (document_resolved rule comments at written t c.tree r x spells resolves there kind c.spells) in
      let all = resolved_depth c.tree [] s.0 s.1 in
      let low = top_depth s.0 (top_of rule comments rows x shaped there kind s.0 s.2) in
      let chars_are = characters_are octets unmarked in (
        rows_of s.0,
        record {
          tree = c.tree;
          resolved = s.0;
          spells = record {
            encoding = record {
              utf8 = ap is_utf8 (behind_is octets unmarked) ∙ c.in_utf8;
              no_other = none_named (characters_of octets) (ap names_other_encoding chars_are ∙ c.no_encoding);
            };
            spelled = subst (λ cs. SpellsDocument cs c.tree) (sym chars_are) c.spells;
          };
          resolves = s.1;
          shallow = omega (arith, all, low);
          rows_are = refl;
        },
      )

  pub read_same : (others : List RowOf) → Spells octets others → SameElement rows x others 1
  read_same others s =
      subst (λ (q : List RowOf). SameElement rows x q 1) (sym s.rows_are)
      (elements_same rule comments at written t s.tree r s.resolved x spells resolves there kind
      (subst (λ cs. SpellsDocument cs s.tree) (characters_are octets unmarked) s.spells.spelled) s.resolves)

-- ---- by method
pub by_rule : (method : CanonMethod) (prefixes : List (List ℕ)) → (rule : Rule) × (comments : Bool) × ((rows : List RowOf) (set : ℕ → Bool) → canonical_form method prefixes rows set ≡ canon rule comments rows set)
by_rule C10 prefixes = (inclusive, false, λ rows set. refl)
by_rule C10Comments prefixes = (inclusive, true, λ rows set. refl)
by_rule C11 prefixes = (eleven, false, λ rows set. refl)
by_rule C11Comments prefixes = (eleven, true, λ rows set. refl)
by_rule Exc prefixes = (exclusive prefixes, false, λ rows set. refl)
by_rule ExcComments prefixes = (exclusive prefixes, true, λ rows set. refl)

tree_fixes : (octets : List ℕ) (t : Content) (r : Resolved) (x : ℕ) (fields : Fields) → SpellsTree octets t → resolve [] t ≡ Some r → depth t ≤ depth_limit
    → fields_of (rows_of r) x ≡ Ok fields → FixTheFields (signed_octets (rows_of r) fields) fields
tree_fixes octets t r x fields spells resolves shallow e =
    let rows = rows_of r in
    let at = mark_length octets in
    let written = chars (behind_mark octets) in
    let y = fields.signed_info in
    let shaped = (document_read at written t r spells.spelled resolves).shaped in
    let fit = (fields_fit rows x fields shaped e).signed_info in
    let kind = element_kind (kind_of rows y) fit.element in
    let m = by_rule fields.canon (map encode_utf8_all fields.prefixes) in
    subst (λ (o : List ℕ). FixTheFields o fields) (sym (m.2 rows (in_subtree rows y)))
    (let again = read_again at written t r spells.spelled resolves shallow m.0 m.1 y fit.within kind in
    record {
      others = again.0;
      spelled = again.1;
      fixed = λ read s. info_says_the_same rows read y 1 (info_of fields) (read_same at written t r spells.spelled resolves shallow m.0 m.1 y fit.within kind read s) (found rows x fields e);
    })

pub octets_fix : SignedOctetsFixTheFields
octets_fix document all x fields s e =
    subst (λ (q : List RowOf). FixTheFields (signed_octets q fields) fields) (sym s.rows_are)
    (tree_fixes document s.tree s.resolved x fields s.spells s.resolves s.shallow (ap (λ (q : List RowOf). fields_of q x) (sym s.rows_are) ∙ e))

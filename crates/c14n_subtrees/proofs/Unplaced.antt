-- What the canonical form of an element spells resolves to the names of the rows: names don't depend on offsets.
use Rattle.std.proofs.Common.{◌≡◌, ℕ, zero, suc, ◌<◌, Bool, true, false, cond, List, [], ◌∷◌, length, Option, Some, None, option_map, refl, sym, ap, ap₂, ◌∙◌}
use Rattle.std.specs.Prelude.{if◌then◌else◌}
use Rattle.std.specs.Str.{chars}
use Rattle.sig_base.specs.Options.{◌>>=◌}
use Rattle.xml_names.specs.Names.{is_ncname}
use Rattle.xml_doc.specs.declared.row.Kind.{Kind}
use Rattle.xml_doc.specs.declared.row.Kind.TheVariants as kinds
use Rattle.xml_doc.specs.Rows.{RowOf}
use Rattle.xml_doc.specs.Shape.{row_at, IsWellShaped}
use Rattle.xml_syntax.specs.Characters.{characters}
use Rattle.xml_syntax.specs.Grammar.{SpellsDocument}
use Rattle.xml_syntax.specs.Tree.{Tag, Content, nothing, text, comment, instruction, element}
use Rattle.xml_syntax.proofs.Documents.{one_tree}
use Rattle.xml_resolve.specs.Resolve.{NamedTag, Resolved, nothing_in, text_in, comment_in, instruction_in, element_in, Above, bound_above, declared_by, element_name, named_by, have_own_names, resolve_tag, resolve}
use Rattle.node_sets.specs.Members.{in_subtree}
use Rattle.c14n_text.specs.Rows.{kind_of, parent_of, is_child}
use Rattle.c14n_text.specs.Tree.{children}
use Rattle.c14n_text.specs.Namespaces.{Rule}
use Rattle.c14n_text.specs.Canon.{canon}
use Rattle.c14n_listing.specs.Again.{unplaced_tag, unplaced, IsSpelled}
use Rattle.c14n_subtrees.specs.Subtree.{subtree}
use Rattle.c14n_subtrees.specs.Named.{AreWrittenSo, IsNamed}
use Rattle.c14n_subtrees.specs.Resolved.{named_tag_at, text_before_in, resolved_node_of, resolved_nodes, resolved_node_at, resolved_subtree, unplaced_named_tag, unplaced_names}
use Rattle.c14n_subtrees.proofs.Resolves.{tree_resolves}

-- ---- what is done with an option

bind_mapped : {A B C D : Type 0} (o : Option A) (m : A → B) (f : A → Option C) (g : B → Option D) (h : C → D) → ((x : A) → g (m x) ≡ option_map h (f x)) → (option_map m o >>= g) ≡ option_map h (o >>= f)
bind_mapped None m f g h same = refl
bind_mapped (Some x) m f g h same = same x

bind_same : {A C D : Type 0} (o : Option A) (f : A → Option C) (g : A → Option D) (h : C → D) → ((x : A) → g x ≡ option_map h (f x)) → (o >>= g) ≡ option_map h (o >>= f)
bind_same None f g h same = refl
bind_same (Some x) f g h same = same x

if_mapped : {C D : Type 0} (b : Bool) (o : Option C) (p : Option D) (h : C → D) → p ≡ option_map h o → cond b p None ≡ option_map h (cond b o None)
if_mapped true o p h e = e
if_mapped false o p h e = refl

-- ---- names without offsets

tag_unplaced : (above : Above) (tag : Tag) → resolve_tag above (unplaced_tag tag) ≡ option_map unplaced_named_tag (resolve_tag above tag)
unfolding resolve_tag
tag_unplaced above tag =
    bind_same (declared_by tag.attributes) _ _ unplaced_named_tag (λ ds.
    bind_same (element_name (bound_above (ds ∷ above)) tag.name) _ _ unplaced_named_tag (λ name.
    bind_same (named_by (bound_above (ds ∷ above)) tag.attributes) _ _ unplaced_named_tag (λ values.
    if_mapped (have_own_names values) _ _ unplaced_named_tag refl)))

resolve_unplaced : (k : Content) (above : Above) → resolve above (unplaced k) ≡ option_map unplaced_names (resolve above k)
unfolding resolve
resolve_unplaced nothing above = refl
resolve_unplaced (text w k) above =
    ap (λ (o : Option Resolved). o >>= λ r. Some (text_in w r)) (resolve_unplaced k above)
    ∙ bind_mapped (resolve above k) unplaced_names (λ r. Some (text_in w r)) (λ r. Some (text_in w r)) unplaced_names (λ r. refl)
resolve_unplaced (comment w k) above =
    ap (λ (o : Option Resolved). o >>= λ r. Some (comment_in w r)) (resolve_unplaced k above)
    ∙ bind_mapped (resolve above k) unplaced_names (λ r. Some (comment_in w r)) (λ r. Some (comment_in w r)) unplaced_names (λ r. refl)
resolve_unplaced (instruction target w k) above =
    if_mapped (is_ncname target) (resolve above k >>= λ r. Some (instruction_in target w r)) (resolve above (unplaced k) >>= λ r. Some (instruction_in target w r)) unplaced_names
    (ap (λ (o : Option Resolved). o >>= λ r. Some (instruction_in target w r)) (resolve_unplaced k above)
    ∙ bind_mapped (resolve above k) unplaced_names (λ r. Some (instruction_in target w r)) (λ r. Some (instruction_in target w r)) unplaced_names (λ r. refl))
resolve_unplaced (element tag inner until k) above =
    ap (λ (o : Option NamedTag). o >>= λ t. resolve (t.declared ∷ above) (unplaced inner) >>= λ i. resolve above (unplaced k) >>= λ r. Some (element_in t i 0 r)) (tag_unplaced above tag)
    ∙ bind_mapped (resolve_tag above tag) unplaced_named_tag _ _ unplaced_names (λ t.
    ap (λ (o : Option Resolved). o >>= λ i. resolve above (unplaced k) >>= λ r. Some (element_in (unplaced_named_tag t) i 0 r)) (resolve_unplaced inner (t.declared ∷ above))
    ∙ bind_mapped (resolve (t.declared ∷ above) inner) unplaced_names _ _ unplaced_names (λ i.
    ap (λ (o : Option Resolved). o >>= λ r. Some (element_in (unplaced_named_tag t) (unplaced_names i) 0 r)) (resolve_unplaced k above)
    ∙ bind_mapped (resolve above k) unplaced_names (λ r. Some (element_in t i until r)) _ unplaced_names (λ r. refl)))

-- ---- the tree of an element has none

text_unplaced : (w : List ℕ) (r : Resolved) → unplaced_names (text_before_in w r) ≡ text_before_in w (unplaced_names r)
text_unplaced [] r = refl
text_unplaced (c ∷ w) nothing_in = refl
text_unplaced (c ∷ w) (text_in v k) = refl
text_unplaced (c ∷ w) (comment_in v k) = refl
text_unplaced (c ∷ w) (instruction_in target v k) = refl
text_unplaced (c ∷ w) (element_in tag inner until k) = refl

nodes_unplaced : (g : ℕ → Resolved → Resolved) (ys : List ℕ) → ((y : ℕ) (r : Resolved) → unplaced_names r ≡ r → unplaced_names (g y r) ≡ g y r)
    → unplaced_names (resolved_nodes g ys) ≡ resolved_nodes g ys
nodes_unplaced g [] each = refl
nodes_unplaced g (y ∷ ys) each = each y (resolved_nodes g ys) (nodes_unplaced g ys each)

module _ (rows : List RowOf) (set : ℕ → Bool) (rule : Rule) (comments : Bool) where
  node_unplaced : (y : ℕ) (i r : Resolved) (kind : Kind) → unplaced_names i ≡ i → unplaced_names r ≡ r
      → unplaced_names (resolved_node_of rows set rule comments y i r kind) ≡ resolved_node_of rows set rule comments y i r kind
  node_unplaced y i r kinds.Element f e = ap₂ (λ (a b : Resolved). element_in (named_tag_at rows set rule y) a 0 b) f e
  node_unplaced y i r kinds.Text f e = text_unplaced (row_at rows y).value r ∙ ap (text_before_in (row_at rows y).value) e
  node_unplaced y i r kinds.Comment f e = by comments
    where
      by : (b : Bool) → unplaced_names (if b then comment_in (row_at rows y).value r else r) ≡ (if b then comment_in (row_at rows y).value r else r)
      by true = ap (comment_in (row_at rows y).value) e
      by false = e
  node_unplaced y i r kinds.Instruction f e = ap (instruction_in (row_at rows y).local_name (row_at rows y).value) e
  node_unplaced y i r kinds.Root f e = e
  node_unplaced y i r kinds.Namespace f e = e
  node_unplaced y i r kinds.Attribute f e = e

  node_at_unplaced : (depth y : ℕ) (r : Resolved) → unplaced_names r ≡ r → unplaced_names (resolved_node_at rows set rule comments depth y r) ≡ resolved_node_at rows set rule comments depth y r
  node_at_unplaced zero y r e = e
  node_at_unplaced (suc depth) y r e =
      let below = children (length rows) (parent_of rows) (is_child rows) y in
      node_unplaced y (resolved_nodes (resolved_node_at rows set rule comments depth) below) r (kind_of rows y)
      (nodes_unplaced (resolved_node_at rows set rule comments depth) below (λ z q f. node_at_unplaced depth z q f)) e

-- whatever tree the canonical form spells
pub canon_resolves : (rule : Rule) (comments : Bool) (rows : List RowOf) (x : ℕ) (u : Content) → IsWellShaped rows → x < length rows → (row_at rows x).kind ≡ kinds.Element
    → AreWrittenSo rows → IsNamed rows → IsSpelled (canon rule comments rows (in_subtree rows x)) (subtree rule comments rows (in_subtree rows x) x)
    → SpellsDocument (characters 0 (chars (canon rule comments rows (in_subtree rows x)))) u
    → option_map unplaced_names (resolve [] u) ≡ Some (resolved_subtree rule comments rows (in_subtree rows x) x)
canon_resolves rule comments rows x u w there kind written named s h =
    let set = in_subtree rows x in
    let t = subtree rule comments rows set x in
    let r = resolved_subtree rule comments rows set x in
    let same : s.tree ≡ u = one_tree (characters 0 (chars (canon rule comments rows set))) s.tree u s.spells h in
    ap (λ (k : Content). option_map unplaced_names (resolve [] k)) (sym same)
    ∙ sym (resolve_unplaced s.tree []) ∙ ap (resolve []) s.same ∙ resolve_unplaced t []
    ∙ ap (option_map unplaced_names) (tree_resolves rule comments rows x w there kind written named)
    ∙ ap (λ (q : Resolved). Some q) (node_at_unplaced rows set rule comments (length rows) x nothing_in refl)

-- The canonical form of an element of a document says what the element says.
use Rattle.std.proofs.Common.{◌≡◌, ℕ, List, [], Option, Some, option_map, sym, ap, ◌∙◌}
use Rattle.xml_doc.specs.Shape.{IsWellShaped}
use Rattle.xml_syntax.specs.Characters.{characters}
use Rattle.xml_syntax.specs.Grammar.{SpellsDocument}
use Rattle.xml_syntax.specs.Tree.{Content}
use Rattle.xml_resolve.specs.Resolve.{Resolved, resolve}
use Rattle.xml_resolve.specs.Rows.{rows_of}
use Rattle.xml_resolve.proofs.ShapedLaws.{rows_shaped}
use Rattle.xml_resolve.proofs.SpelledLaws.{spelled_is}
use Rattle.node_sets.specs.Members.{in_subtree}
use Rattle.c14n_listing.proofs.Again.{spelled_tidy}
use Rattle.c14n_subtrees.specs.Named.{AreWrittenSo, IsNamed}
use Rattle.c14n_subtrees.specs.Resolved.{resolved_subtree, unplaced_names}
use Rattle.c14n_subtrees.proofs.OfDocuments.{document_resolved}
use Rattle.c14n_subtrees.proofs.RowsNamed.{document_named}
use Rattle.c14n_subtrees.proofs.RowsSound.{document_written}
use Rattle.signed_info.specs.Signed.{ElementsSayTheSame}
use Rattle.signed_info.proofs.Same.{top_of, same_to, first_element}

pub some_same : {A : Type 0} (a b : A) → ◌≡◌ {A = Option A} (Some a) (Some b) → a ≡ b
some_same a b e = cc

-- what is true of the rows of a document
pub record IsRead (r : Resolved) : Type 0 where
  pub shaped : IsWellShaped (rows_of r)
  pub written : AreWrittenSo (rows_of r)
  pub named : IsNamed (rows_of r)

pub document_read : (at : ℕ) (text : List ℕ) (t : Content) (r : Resolved) → SpellsDocument (characters at text) t → resolve [] t ≡ Some r → IsRead r
document_read at text t r h e =
    let document = spelled_is (characters at text) t h in
    record { shaped = rows_shaped t r document e; written = document_written t r (spelled_tidy at text t h).tidy e; named = document_named t r document e }

pub elements_same : ElementsSayTheSame
elements_same rule comments at text t u r s x h e there kind read f =
    let rows = rows_of r in
    let d = document_read at text t r h e in
    let resolved : unplaced_names s ≡ resolved_subtree rule comments rows (in_subtree rows x) x =
    some_same _ _ (sym (ap (option_map unplaced_names) f) ∙ document_resolved rule comments at text t u r x h e there kind read) in
    let top = top_of rule comments rows x d.shaped there kind s resolved in
    λ depth. same_to rule comments rows x d.shaped there kind d.written d.named (rows_of s) (rows_shaped u s (spelled_is _ u read) f) depth 0 x 1 top.tag top.inner top.kept
    (first_element s top.tag top.inner top.until top.rest top.is)

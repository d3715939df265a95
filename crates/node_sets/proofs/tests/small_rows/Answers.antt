use Rattle.std.proofs.Common.{◌≡◌, ℕ, false, List, [], ◌∷◌, refl, sym, subst}
use Rattle.std.specs.Prelude.{codes}
use Rattle.xml_doc.specs.declared.row.Kind.{Kind}
use Rattle.xml_doc.specs.declared.row.Kind.TheVariants.{Root, Element, Namespace}
use Rattle.xml_doc.specs.Rows.{RowOf}
use Rattle.xml_doc.specs.Shape.{xml_name, IsWellShaped}
use Rattle.xml_doc.proofs.ShapeTests.{shaped_by_tests, text_some_by}
use Rattle.node_sets.proofs.tests.small_rows.Goals as goal

abbrev row : Kind → (parent last : ℕ) (local_name value : List ℕ) → RowOf
row kind parent last local_name value = record {
  kind = kind;
  parent = parent;
  last = last;
  prefix_text = [];
  local_name = local_name;
  uri = [];
  value = value;
  tag_from = 0;
  body_from = 0;
  body_until = 0;
  empty_tag = false;
}

abbrev rows : List RowOf
rows =
    row Root 0 4 [] []
    ∷ row Element 0 4 (codes "a") []
    ∷ row Namespace 1 2 (codes "xml") xml_name
    ∷ row Element 1 4 (codes "b") []
    ∷ row Namespace 3 4 (codes "xml") xml_name
    ∷ []

are_shaped : IsWellShaped rows
are_shaped = shaped_by_tests rows record {
  root = refl;
  parent_before = refl;
  last = refl;
  ended = refl;
  parents = refl;
  fields_first = refl;
  one_root = refl;
  namespaces_first = refl;
  namespace_order = refl;
  attribute_order = refl;
  inherits = refl;
  xml_bound = refl;
  default_named = refl;
  document_element = refl;
  fit = refl;
  text_in_element = refl;
  texts_apart = refl;
} (text_some_by rows refl)

pub returns-clause-shaped : goal.returns-clause-shaped
returns-clause-shaped c =
    let e : c.push-5.new.self ≡ rows =
    rw (c.in_ok-push-5.ensures.ok, c.row-5.ensures, c.in_ok-push-4.ensures.ok, c.row-4.ensures, c.in_ok-push-3.ensures.ok, c.row-3.ensures, c.in_ok-push-2.ensures.ok, c.row-2.ensures, c.in_ok-push.ensures.ok, c.row.ensures, c.new-rows.ensures) refl in
    subst IsWellShaped (sym e) are_shaped

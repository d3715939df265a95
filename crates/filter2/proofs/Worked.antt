-- The filters, computed on documents that were worked by hand.
use Rattle.std.specs.Prelude.{◌≡◌, ℕ, Bool, true, false, List, [], ◌∷◌, ◌==◌, ◌||◌, map, nat_lt}
use Rattle.std.specs.List.{range_with_len}
use Rattle.xml_doc.specs.declared.row.Kind.{Kind}
use Rattle.xml_doc.specs.declared.row.Kind.TheVariants.{Root, Element, Namespace, Attribute, Text}
use Rattle.xml_doc.specs.Rows.{RowOf}
use Rattle.sig_base.specs.declared.method.FilterKind.{FilterKind}
use Rattle.sig_base.specs.declared.method.FilterKind.TheVariants.{Intersect, Subtract, Union}
use Rattle.filter2.specs.Filters.{Filter, filtered, with_subtrees}
use Rattle.std.proofs.Common.{refl}

abbrev row : Kind → ℕ → ℕ → RowOf
row kind parent last = record { kind = kind; parent = parent; last = last; prefix_text = []; local_name = []; uri = []; value = []; tag_from = 0; body_from = 0; body_until = 0; empty_tag = false }

-- <r><a/><b/></r>, each element with the namespace row of `xml`
abbrev two_elements : List RowOf
two_elements = row Root 0 6 ∷ row Element 0 6 ∷ row Namespace 1 2 ∷ row Element 1 4 ∷ row Namespace 3 4 ∷ row Element 1 6 ∷ row Namespace 5 6 ∷ []

abbrev filter : FilterKind → ℕ → Filter
filter kind row = record { kind = kind; nodes = with_subtrees two_elements (λ k. k == row) }

abbrev kept : List Filter → (ℕ → Bool) → List Bool
kept filters input = map (filtered two_elements filters input) (range_with_len 0 7)

-- subtract /r/b, then union /r/b
pub put_back : kept (filter Subtract 5 ∷ filter Union 5 ∷ []) (λ k. nat_lt k 7) ≡ true ∷ true ∷ true ∷ true ∷ true ∷ true ∷ true ∷ []
put_back = refl

-- union /r/b, then subtract /r/b: the namespace row goes with its element
pub taken_out : kept (filter Union 5 ∷ filter Subtract 5 ∷ []) (λ k. nat_lt k 7) ≡ true ∷ true ∷ true ∷ true ∷ true ∷ false ∷ false ∷ []
taken_out = refl

-- intersect with the subtree of /r/a, over an input without its namespace row: nothing comes in that was not in the input
pub met_with_the_input : kept (filter Intersect 3 ∷ []) (λ k. (k == 0) || (k == 3) || (k == 5)) ≡ false ∷ false ∷ false ∷ true ∷ false ∷ false ∷ false ∷ []
met_with_the_input = refl

pub union_adds_nothing_to_the_input : kept (filter Union 5 ∷ []) (λ k. k == 3) ≡ false ∷ false ∷ false ∷ true ∷ false ∷ false ∷ false ∷ []
union_adds_nothing_to_the_input = refl

-- no filter keeps all
pub all_kept : kept [] (λ k. k == 3) ≡ false ∷ false ∷ false ∷ true ∷ false ∷ false ∷ false ∷ []
all_kept = refl

-- The stack of the runs of elements outside the set.
use Rattle.std.proofs.Common.{◌≡◌, ℕ, zero, suc, ◌+◌, ◌-◌, ◌*◌, ◌<◌, ◌≤◌, ◌&&◌, Bool, true, false, not, cond, eqb, List, [], ◌∷◌, ◌++◌, length, map, take, reverse, get_or, refl, ap, sym, ◌∙◌, arith, inl, inr, append-nil, length-append}
use Rattle.std.specs.List.{filter, flat_map, range_with_len, take_while}
use Rattle.std.proofs.lemmas.Bool.{and_parts, cases_eq, eqb-true, eq-eqb, false≢true}
use Rattle.std.proofs.lemmas.List.{reverse-append, reverse-reverse, length-reverse, map-append}
use Rattle.std.proofs.lemmas.List.Elements.{filter-append}
use Rattle.std.proofs.lemmas.List.Sums.{take_while-cons}
use Rattle.std.proofs.Math.Seq.{take-append_seam}
use Rattle.xml_doc.specs.Kinds.{is_element, is_attribute}
use Rattle.xml_doc.specs.declared.row.Kind.{Kind}
use Rattle.xml_doc.specs.declared.row.Kind.TheVariants.{Root, Element, Namespace, Attribute, Text, Comment, Instruction}
use Rattle.xml_doc.specs.Rows.{RowOf}
use Rattle.xml_doc.specs.Shape.{IsWellShaped, row_at}
use Rattle.xml_doc.specs.Fields.{is_attribute_of, namespace_rows, attribute_rows}
use Rattle.c14n_text.specs.Rows.{kind_of, parent_of}
use Rattle.c14n_text.specs.Tree.{chain_within}
use Rattle.c14n_text.specs.Namespaces.{Rule, inclusive, eleven, exclusive}
use Rattle.c14n_text.specs.Bases.{bases, is_base, is_eleven}
use Rattle.c14n_text.proofs.TreeLemmas.{chain-root}
use Rattle.c14n_bases.specs.Joined.{PreparedBases}
use Rattle.c14n_bases.specs.Joined as prepared
use Rattle.c14n_rows.specs.Joined.{weights, PreparedFit}
use Rattle.c14n_rows.specs.Stacks.{upwards, count_of, octets_of, total}
use Rattle.c14n_rows.specs.Code.Stacks.{stacked, run_entries, runs_at, run_on, run_bases, values_on, KeepsRoom}
use Rattle.c14n_rows.proofs.AttributeLemmas.{filter-filter}
use Rattle.c14n_rows.proofs.Chains.{chain-more, parent_there}
use Rattle.c14n_rows.proofs.StackLemmas.{parent_element}
use Rattle.c14n_rows.proofs.XmlLemmas.{few_filtered}

-- ---- the rule
pub eleven_is : (rule : Rule) → is_eleven rule ≡ true → rule ≡ eleven
eleven_is inclusive t = cc
eleven_is eleven t = refl
eleven_is (exclusive listed) t = cc

-- by another rule nothing stands there
none_stacked : (rows : List RowOf) (set : ℕ → Bool) (rule : Rule) → is_eleven rule ≡ false → (es : List ℕ) → stacked (run_entries rows set rule) es ≡ []
none_stacked rows set rule other [] = refl
none_stacked rows set rule other (e ∷ es) =
    ap (λ (l : List ℕ). l ++ run_entries rows set rule e) (none_stacked rows set rule other es)
    ∙ ap (λ (t : Bool). cond (t && is_element (kind_of rows e)) (cond (set e) (e ∷ []) (reverse (bases rows e))) []) other

pub no_runs : (rows : List RowOf) (set : ℕ → Bool) (rule : Rule) → is_eleven rule ≡ false → (x y : ℕ) → runs_at rows set rule x ≡ runs_at rows set rule y
no_runs rows set rule other x y = none_stacked rows set rule other (upwards rows x) ∙ sym (none_stacked rows set rule other (upwards rows y))

-- ---- on the stack and off
pub runs_at-more : (rows : List RowOf) (set : ℕ → Bool) (rule : Rule) → IsWellShaped rows → (x : ℕ) → (x ≡ 0 → ⊥) → x < length rows → runs_at rows set rule x ≡ runs_at rows set rule (parent_of rows x) ++ run_entries rows set rule x
runs_at-more rows set rule w x not_root lt = ap (stacked (run_entries rows set rule)) (chain-more rows w x not_root lt)

pub runs_at-root : (rows : List RowOf) (set : ℕ → Bool) (rule : Rule) → IsWellShaped rows → runs_at rows set rule 0 ≡ []
runs_at-root rows set rule w = ap (stacked (run_entries rows set rule)) (chain-root (length rows) (parent_of rows) w.some)

and_false : (a : Bool) → (a && false) ≡ false
and_false true = refl
and_false false = refl

pub runs_at-skip : (rows : List RowOf) (set : ℕ → Bool) (rule : Rule) → IsWellShaped rows → (x : ℕ) → (x ≡ 0 → ⊥) → x < length rows → is_element (kind_of rows x) ≡ false → runs_at rows set rule x ≡ runs_at rows set rule (parent_of rows x)
runs_at-skip rows set rule w x not_root lt is =
    runs_at-more rows set rule w x not_root lt
    ∙ ap (λ (t : Bool). runs_at rows set rule (parent_of rows x) ++ cond t (cond (set x) (x ∷ []) (reverse (bases rows x))) []) (ap (λ (t : Bool). is_eleven rule && t) is ∙ and_false (is_eleven rule))
    ∙ append-nil (runs_at rows set rule (parent_of rows x))

-- what element x leaves
pub entries_in : (rows : List RowOf) (set : ℕ → Bool) (x : ℕ) → is_element (kind_of rows x) ≡ true → set x ≡ true → run_entries rows set eleven x ≡ x ∷ []
entries_in rows set x is in_set = ap (λ (t : Bool). cond t (cond (set x) (x ∷ []) (reverse (bases rows x))) []) is ∙ ap (λ (t : Bool). cond t (x ∷ []) (reverse (bases rows x))) in_set

pub entries_out : (rows : List RowOf) (set : ℕ → Bool) (x : ℕ) → is_element (kind_of rows x) ≡ true → set x ≡ false → run_entries rows set eleven x ≡ reverse (bases rows x)
entries_out rows set x is out = ap (λ (t : Bool). cond t (cond (set x) (x ∷ []) (reverse (bases rows x))) []) is ∙ ap (λ (t : Bool). cond t (x ∷ []) (reverse (bases rows x))) out

pub left_by : {X : Type 0} (before own whole on_runs : List X) (n m : ℕ) → whole ≡ before ++ own → on_runs ≡ whole → n ≡ length own → m ≡ length on_runs - n → take m on_runs ≡ before
left_by {X} before own whole on_runs n m is are is_n is_m =
    let l = ap (length {A = X}) (are ∙ is) in let k = length-append before own in
    let e : m ≡ length before = omega arith in
    ap (λ (j : ℕ). take j on_runs) e ∙ ap (take (length before)) (are ∙ is) ∙ take-append_seam before own

pub left_few : {X : Type 0} (before own whole on_runs : List X) (n : ℕ) → whole ≡ before ++ own → on_runs ≡ whole → n ≡ length own → n ≤ length on_runs
left_few {X} before own whole on_runs n is are is_n = let l = ap (length {A = X}) (are ∙ is) in let k = length-append before own in omega arith

-- ---- room
few_bases : (rows : List RowOf) (x : ℕ) → length (bases rows x) ≤ length (attribute_rows rows x)
few_bases rows x = few_filtered (is_base rows) (attribute_rows rows x)

few_entries : (rows : List RowOf) (set : ℕ → Bool) (rule : Rule) (x : ℕ) → length (run_entries rows set rule x) ≤ count_of rows x
few_entries rows set rule x = go (is_eleven rule) (is_element (kind_of rows x)) (set x)
  where
    few : ℕ
    few = 1 + length (namespace_rows rows x) + length (attribute_rows rows x)

    go : (a b c : Bool) → length (cond (a && b) (cond c (x ∷ []) (reverse (bases rows x))) []) ≤ cond b (1 + length (namespace_rows rows x) + length (attribute_rows rows x)) 0
    go false true c = omega arith
    go false false c = omega arith
    go true false c = omega arith
    go true true true = omega arith
    go true true false = let n = length-reverse (bases rows x) in let m = few_bases rows x in omega arith

few_stacked : (rows : List RowOf) (set : ℕ → Bool) (rule : Rule) (es : List ℕ) → length (stacked (run_entries rows set rule) es) ≤ total (count_of rows) es
few_stacked rows set rule [] = omega arith
few_stacked rows set rule (e ∷ es) =
    let n = length-append (stacked (run_entries rows set rule) es) (run_entries rows set rule e) in
    let one = few_entries rows set rule e in let more = few_stacked rows set rule es in
    omega arith

pub runs_room : (rows : List RowOf) (set : ℕ → Bool) (rule : Rule) (x capacity : ℕ) → total (count_of rows) (upwards rows x) ≤ capacity → length (runs_at rows set rule x) ≤ capacity
runs_room rows set rule x capacity room = let few = few_stacked rows set rule (upwards rows x) in omega arith

-- ---- what stands on top is the run
-- those of a filter pass another test, which they imply
passes_first : (q p : ℕ → Bool) → ((k : ℕ) → p k ≡ true → q k ≡ true) → (xs ys : List ℕ) → take_while q (filter p xs ++ ys) ≡ filter p xs ++ take_while q ys
passes_first q p implies [] ys = refl
passes_first q p implies (x ∷ xs) ys = go (p x) refl (passes_first q p implies xs ys)
  where
    go : (t : Bool) → p x ≡ t → take_while q (filter p xs ++ ys) ≡ filter p xs ++ take_while q ys → take_while q (cond t (x ∷ filter p xs) (filter p xs) ++ ys) ≡ cond t (x ∷ filter p xs) (filter p xs) ++ take_while q ys
    go false is ih = ih
    go true is ih =
        take_while-cons q x (filter p xs ++ ys) ∙ ap (λ (t : Bool). cond t (x ∷ take_while q (filter p xs ++ ys)) []) (implies x is) ∙ ap (λ (l : List ℕ). x ∷ l) ih

no_attribute_is : (k : Kind) → is_attribute k ≡ true → not (is_element k) ≡ true
no_attribute_is Root e = cc
no_attribute_is Element e = cc
no_attribute_is Namespace e = cc
no_attribute_is Attribute e = refl
no_attribute_is Text e = cc
no_attribute_is Comment e = cc
no_attribute_is Instruction e = cc

abbrev stays : List RowOf → ℕ → Bool
stays rows b = not (is_element (kind_of rows b))

attribute_stays : (rows : List RowOf) (x k : ℕ) → is_attribute_of rows x k ≡ true → stays rows k ≡ true
attribute_stays rows x k t = no_attribute_is (kind_of rows k) (and_parts (is_attribute (kind_of rows k)) (eqb (parent_of rows k) x) t).0

bases_pass : (rows : List RowOf) (x : ℕ) (ys : List ℕ) → take_while (stays rows) (bases rows x ++ ys) ≡ bases rows x ++ take_while (stays rows) ys
bases_pass rows x ys =
    let all = range_with_len 1 (length rows - 1) in let p = λ (k : ℕ). is_attribute_of rows x k && is_base rows k in
    let e : bases rows x ≡ filter p all = filter-filter (is_base rows) (is_attribute_of rows x) all in
    ap (λ (l : List ℕ). take_while (stays rows) (l ++ ys)) e
    ∙ passes_first (stays rows) p (λ (k : ℕ) (t : p k ≡ true). attribute_stays rows x k (and_parts (is_attribute_of rows x k) (is_base rows k) t).0) all ys
    ∙ ap (λ (l : List ℕ). l ++ take_while (stays rows) ys) (sym e)

-- ---- how many octets joining takes
pub weights-append : (rows : List RowOf) (xs ys : List ℕ) → weights rows (xs ++ ys) ≡ weights rows xs + weights rows ys
weights-append rows [] ys = omega arith
weights-append rows (x ∷ xs) ys = let ih = weights-append rows xs ys in omega arith

weights-reverse : (rows : List RowOf) (xs : List ℕ) → weights rows (reverse xs) ≡ weights rows xs
weights-reverse rows [] = refl
weights-reverse rows (x ∷ xs) =
    let e = ap (weights rows) (reverse-append (x ∷ []) xs) in let n = weights-append rows (reverse xs) (x ∷ []) in let ih = weights-reverse rows xs in
    omega arith

-- ---- what is prepared
pub values_on-append : (rows : List RowOf) (xs ys : List ℕ) → values_on rows (xs ++ ys) ≡ values_on rows xs ++ values_on rows ys
values_on-append rows xs ys =
    ap (map (λ (b : ℕ). (row_at rows b).value)) (filter-append (stays rows) xs ys) ∙ map-append (λ (b : ℕ). (row_at rows b).value) (filter (stays rows) xs) (filter (stays rows) ys)

values_on-one : (rows : List RowOf) (b : ℕ) (t : Bool) → is_element (kind_of rows b) ≡ t → values_on rows (b ∷ []) ≡ cond (not t) ((row_at rows b).value ∷ []) []
values_on-one rows b t is = ap (λ (u : Bool). map (λ (k : ℕ). (row_at rows k).value) (cond (not u) (b ∷ []) [])) is ∙ go t
  where
    go : (u : Bool) → map (λ (k : ℕ). (row_at rows k).value) (cond (not u) (b ∷ []) []) ≡ cond (not u) ((row_at rows b).value ∷ []) []
    go true = refl
    go false = refl

-- an element on top is no base, and another row is one
pub values-element : (rows : List RowOf) (xs : List ℕ) (x : ℕ) → is_element (kind_of rows x) ≡ true → values_on rows (xs ++ x ∷ []) ≡ values_on rows xs
values-element rows xs x is = values_on-append rows xs (x ∷ []) ∙ ap (λ (l : List (List ℕ)). values_on rows xs ++ l) (values_on-one rows x true is) ∙ append-nil (values_on rows xs)

pub values-base : (rows : List RowOf) (xs : List ℕ) (b : ℕ) → is_element (kind_of rows b) ≡ false → values_on rows (xs ++ b ∷ []) ≡ values_on rows xs ++ (row_at rows b).value ∷ []
values-base rows xs b is = values_on-append rows xs (b ∷ []) ∙ ap (λ (l : List (List ℕ)). values_on rows xs ++ l) (values_on-one rows b false is)

-- those of a filter pass another test, which they imply
filter-passes : (q p : ℕ → Bool) → ((k : ℕ) → p k ≡ true → q k ≡ true) → (xs : List ℕ) → filter q (filter p xs) ≡ filter p xs
filter-passes q p implies [] = refl
filter-passes q p implies (x ∷ xs) = go (p x) refl (filter-passes q p implies xs)
  where
    go : (t : Bool) → p x ≡ t → filter q (filter p xs) ≡ filter p xs → filter q (cond t (x ∷ filter p xs) (filter p xs)) ≡ cond t (x ∷ filter p xs) (filter p xs)
    go false is ih = ih
    go true is ih = ap (λ (u : Bool). cond u (x ∷ filter q (filter p xs)) (filter q (filter p xs))) (implies x is) ∙ ap (λ (l : List ℕ). x ∷ l) ih

filter-reverse : (q : ℕ → Bool) (xs : List ℕ) → filter q (reverse xs) ≡ reverse (filter q xs)
filter-reverse q [] = refl
filter-reverse q (x ∷ xs) =
    ap (filter q) (reverse-append (x ∷ []) xs) ∙ filter-append q (reverse xs) (x ∷ []) ∙ ap (λ (l : List ℕ). l ++ filter q (x ∷ [])) (filter-reverse q xs) ∙ go (q x)
  where
    go : (t : Bool) → reverse (filter q xs) ++ cond t (x ∷ []) [] ≡ reverse (cond t (x ∷ filter q xs) (filter q xs))
    go true = sym (reverse-append (x ∷ []) (filter q xs))
    go false = append-nil (reverse (filter q xs))

bases-stay : (rows : List RowOf) (x : ℕ) → filter (stays rows) (bases rows x) ≡ bases rows x
bases-stay rows x =
    let all = range_with_len 1 (length rows - 1) in let p = λ (k : ℕ). is_attribute_of rows x k && is_base rows k in
    let e : bases rows x ≡ filter p all = filter-filter (is_base rows) (is_attribute_of rows x) all in
    ap (filter (stays rows)) e ∙ filter-passes (stays rows) p (λ (k : ℕ) (t : p k ≡ true). attribute_stays rows x k (and_parts (is_attribute_of rows x k) (is_base rows k) t).0) all ∙ sym e

length-values : (f : ℕ → List ℕ) (xs : List ℕ) → length (map f xs) ≡ length xs
length-values f [] = refl
length-values f (x ∷ xs) = ap suc (length-values f xs)

-- what an element leaves has a base for each entry
pub values-bases : (rows : List RowOf) (x : ℕ) → length (values_on rows (reverse (bases rows x))) ≡ length (bases rows x)
values-bases rows x =
    length-values (λ (b : ℕ). (row_at rows b).value) (filter (stays rows) (reverse (bases rows x))) ∙ ap (length {A = ℕ}) (filter-reverse (stays rows) (bases rows x))
    ∙ length-reverse (filter (stays rows) (bases rows x)) ∙ ap (length {A = ℕ}) (bases-stay rows x)

-- an attribute row of an element is none itself
passes_in : (p : ℕ → Bool) (xs : List ℕ) (i n a : ℕ) → filter p xs ≡ range_with_len i n → i ≤ a → a < i + n → p a ≡ true
passes_in p xs i zero a e le lt = absurd (omega arith)
passes_in p [] i (suc n) a e le lt = cc
passes_in p (x ∷ xs) i (suc n) a e le lt = go (p x) refl (λ (f : filter p xs ≡ range_with_len i (suc n)). passes_in p xs i (suc n) a f le lt) (λ (f : filter p xs ≡ range_with_len (i + 1) n) (ge : i + 1 ≤ a). passes_in p xs (i + 1) n a f ge (omega arith)) e
  where
    go : (t : Bool) → p x ≡ t → (filter p xs ≡ range_with_len i (suc n) → p a ≡ true) → (filter p xs ≡ range_with_len (i + 1) n → i + 1 ≤ a → p a ≡ true) → cond t (x ∷ filter p xs) (filter p xs) ≡ i ∷ range_with_len (i + 1) n → p a ≡ true
    go false is same_range more f = same_range f
    go true is same_range more f =
        let same : x ≡ i = cc in let rest : filter p xs ≡ range_with_len (i + 1) n = cc in
        elim (cases_eq a i) [
          | inl first ↦ ap p (first ∙ sym same) ∙ is
          | inr other ↦ more rest (omega arith)
        ]

pub attribute_is_none : (rows : List RowOf) (x first fin a : ℕ) → attribute_rows rows x ≡ range_with_len first (fin - first) → first ≤ a → a < fin → is_element (kind_of rows a) ≡ false
attribute_is_none rows x first fin a own le lt =
    not_true (is_element (kind_of rows a)) (attribute_stays rows x a (passes_in (is_attribute_of rows x) (range_with_len 1 (length rows - 1)) first (fin - first) a own le (omega arith)))
  where
    not_true : (t : Bool) → not t ≡ true → t ≡ false
    not_true false is = refl
    not_true true is = sym is

-- ---- what an element left is taken from the stack
module _ (rows : List RowOf) (w : IsWellShaped rows) (set : ℕ → Bool) (x : ℕ) (pos : 0 < x) (there : x < length rows) (is : is_element (kind_of rows x) ≡ true) (on_runs : List ℕ) (are : on_runs ≡ runs_at rows set eleven x) where
  entered : (own : List ℕ) → run_entries rows set eleven x ≡ own → runs_at rows set eleven x ≡ runs_at rows set eleven (parent_of rows x) ++ own
  entered own e = runs_at-more rows set eleven w x (λ (z : x ≡ 0). omega arith) there ∙ ap (λ (l : List ℕ). runs_at rows set eleven (parent_of rows x) ++ l) e

  -- an element of the set
  pub left_in : (m : ℕ) → set x ≡ true → m ≡ length on_runs - 1 → take m on_runs ≡ runs_at rows set eleven (parent_of rows x)
  left_in m in_set is_m = left_by (runs_at rows set eleven (parent_of rows x)) (x ∷ []) (runs_at rows set eleven x) on_runs 1 m (entered (x ∷ []) (entries_in rows set x is in_set)) are refl is_m

  pub values_in : set x ≡ true → values_on rows on_runs ≡ values_on rows (runs_at rows set eleven (parent_of rows x))
  values_in in_set = ap (values_on rows) (are ∙ entered (x ∷ []) (entries_in rows set x is in_set)) ∙ values-element rows (runs_at rows set eleven (parent_of rows x)) x is

  -- another, with so many bases
  module _ (out : set x ≡ false) (n : ℕ) (count : n ≡ length (bases rows x)) where
    pub few_left : n ≤ length on_runs
    few_left =
        left_few (runs_at rows set eleven (parent_of rows x)) (reverse (bases rows x)) (runs_at rows set eleven x) on_runs n (entered (reverse (bases rows x)) (entries_out rows set x is out)) are
        (count ∙ sym (length-reverse (bases rows x)))

    pub left_out : (m : ℕ) → m ≡ length on_runs - n → take m on_runs ≡ runs_at rows set eleven (parent_of rows x)
    left_out m is_m =
        left_by (runs_at rows set eleven (parent_of rows x)) (reverse (bases rows x)) (runs_at rows set eleven x) on_runs n m (entered (reverse (bases rows x)) (entries_out rows set x is out)) are
        (count ∙ sym (length-reverse (bases rows x))) is_m

    values_whole : values_on rows on_runs ≡ values_on rows (runs_at rows set eleven (parent_of rows x)) ++ values_on rows (reverse (bases rows x))
    values_whole = ap (values_on rows) (are ∙ entered (reverse (bases rows x)) (entries_out rows set x is out)) ∙ values_on-append rows (runs_at rows set eleven (parent_of rows x)) (reverse (bases rows x))

    pub few_values_left : (values : List (List ℕ)) → values ≡ values_on rows on_runs → n ≤ length values
    few_values_left values v =
        left_few (values_on rows (runs_at rows set eleven (parent_of rows x))) (values_on rows (reverse (bases rows x))) (values_on rows on_runs) values n values_whole v (count ∙ sym (values-bases rows x))

    pub values_out : (values : List (List ℕ)) (m : ℕ) → values ≡ values_on rows on_runs → m ≡ length values - n → take m values ≡ values_on rows (runs_at rows set eleven (parent_of rows x))
    values_out values m v is_m =
        left_by (values_on rows (runs_at rows set eleven (parent_of rows x))) (values_on rows (reverse (bases rows x))) (values_on rows on_runs) values n m values_whole v (count ∙ sym (values-bases rows x)) is_m

-- ---- room for what is prepared
octets-append : (xs ys : List (List ℕ)) → prepared.weights (xs ++ ys) ≡ prepared.weights xs + prepared.weights ys
octets-append [] ys = omega arith
octets-append (x ∷ xs) ys = let ih = octets-append xs ys in omega arith

-- each takes four at least
four_each : (values : List (List ℕ)) → 4 * length values ≤ prepared.weights values
four_each [] = omega arith
four_each (v ∷ values) = let ih = four_each values in omega arith

values_weigh : (rows : List RowOf) (xs : List ℕ) → prepared.weights (values_on rows xs) ≤ weights rows xs
values_weigh rows [] = omega arith
values_weigh rows (x ∷ xs) = go (stays rows x) (values_weigh rows xs)
  where
    go : (t : Bool) → prepared.weights (values_on rows xs) ≤ weights rows xs
        → prepared.weights (map (λ (b : ℕ). (row_at rows b).value) (cond t (x ∷ filter (stays rows) xs) (filter (stays rows) xs))) ≤ length (row_at rows x).value + 4 + weights rows xs
    go true ih = omega arith
    go false ih = omega arith

entries_weigh : (rows : List RowOf) (set : ℕ → Bool) (e : ℕ) → prepared.weights (values_on rows (run_entries rows set eleven e)) ≤ octets_of rows e
entries_weigh rows set e = go (is_element (kind_of rows e)) (set e) refl
  where
    go : (b c : Bool) → is_element (kind_of rows e) ≡ b → prepared.weights (values_on rows (cond b (cond c (e ∷ []) (reverse (bases rows e))) [])) ≤ octets_of rows e
    go false c is = omega arith
    go true true is = let n = ap prepared.weights (values_on-one rows e true is) in omega arith
    go true false is = let n = values_weigh rows (reverse (bases rows e)) in let m = weights-reverse rows (bases rows e) in omega arith

stacked_weigh : (rows : List RowOf) (set : ℕ → Bool) (es : List ℕ) → prepared.weights (values_on rows (stacked (run_entries rows set eleven) es)) ≤ total (octets_of rows) es
stacked_weigh rows set [] = omega arith
stacked_weigh rows set (e ∷ es) =
    let n = ap prepared.weights (values_on-append rows (stacked (run_entries rows set eleven) es) (run_entries rows set eleven e)) in
    let m = octets-append (values_on rows (stacked (run_entries rows set eleven) es)) (values_on rows (run_entries rows set eleven e)) in
    let one = entries_weigh rows set e in let more = stacked_weigh rows set es in
    omega arith

-- of what stands under some of it
under_weighs : (rows : List RowOf) (on_runs rest whole : List ℕ) → on_runs ++ rest ≡ whole → prepared.weights (values_on rows on_runs) ≤ prepared.weights (values_on rows whole)
under_weighs rows on_runs rest whole e =
    let n = ap (λ (l : List ℕ). prepared.weights (values_on rows l)) e in let m = ap prepared.weights (values_on-append rows on_runs rest) in
    let k = octets-append (values_on rows on_runs) (values_on rows rest) in
    omega arith

-- there is room for one base more
room_for_one : (values : List (List ℕ)) (value : List ℕ) (octets : ℕ) (old now : PreparedBases) → now.bases ≡ values → prepared.weights (values ++ value ∷ []) ≤ octets → PreparedFit octets old → KeepsRoom old now
    → (length now.bases < now.count) × (prepared.weights (now.bases ++ value ∷ []) ≤ now.room)
room_for_one values value octets old now is few fit kept =
    let four = four_each (values ++ value ∷ []) in let n = length-append values (value ∷ []) in let l = ap (length {A = List ℕ}) is in
    let m = ap (λ (vs : List (List ℕ)). prepared.weights (vs ++ value ∷ [])) is in
    let a = fit.count in let b = fit.room in let c = kept.count in let d = kept.room in
    (omega arith, omega arith)

pub push_room : (rows : List RowOf) (set : ℕ → Bool) (x b : ℕ) (on_runs rest : List ℕ) (old now : PreparedBases) → (on_runs ++ b ∷ []) ++ rest ≡ runs_at rows set eleven x → is_element (kind_of rows b) ≡ false
    → now.bases ≡ values_on rows on_runs → PreparedFit (total (octets_of rows) (upwards rows x)) old → KeepsRoom old now
    → (length now.bases < now.count) × (prepared.weights (now.bases ++ (row_at rows b).value ∷ []) ≤ now.room)
push_room rows set x b on_runs rest old now e is are fit kept =
    let n = under_weighs rows (on_runs ++ b ∷ []) rest (runs_at rows set eleven x) e in let all = stacked_weigh rows set (upwards rows x) in
    let m = ap prepared.weights (values-base rows on_runs b is) in
    room_for_one (values_on rows on_runs) (row_at rows b).value (total (octets_of rows) (upwards rows x)) old now are (omega arith) fit kept

module _ (rows : List RowOf) (w : IsWellShaped rows) (set : ℕ → Bool) where
  abbrev outside : ℕ → Bool
  outside e = not (set e)

  run_in : (n x : ℕ) → x < length rows → ((x ≡ 0 → ⊥) → kind_of rows x ≡ Element)
      → take_while (stays rows) (reverse (stacked (run_entries rows set eleven) (chain_within (parent_of rows) n x))) ≡ flat_map (bases rows) (take_while outside (chain_within (parent_of rows) n x))
  run_in zero x lt is = refl
  run_in (suc n) x lt is = go (eqb x 0) refl (run_in n (parent_of rows x) (parent_there rows w x lt) (λ (inner : parent_of rows x ≡ 0 → ⊥). parent_element rows w x lt inner))
    where
      at : take_while (stays rows) (reverse (stacked (run_entries rows set eleven) (chain_within (parent_of rows) n (parent_of rows x)))) ≡ flat_map (bases rows) (take_while outside (chain_within (parent_of rows) n (parent_of rows x))) → kind_of rows x ≡ Element → (t : Bool)
          → take_while (stays rows) (reverse (stacked (run_entries rows set eleven) (chain_within (parent_of rows) n (parent_of rows x)) ++ cond t (x ∷ []) (reverse (bases rows x)))) ≡ flat_map (bases rows) (cond (not t) (x ∷ take_while outside (chain_within (parent_of rows) n (parent_of rows x))) [])
      at ih element true =
          ap (take_while (stays rows)) (reverse-append (stacked (run_entries rows set eleven) (chain_within (parent_of rows) n (parent_of rows x))) (x ∷ []))
          ∙ take_while-cons (stays rows) x (reverse (stacked (run_entries rows set eleven) (chain_within (parent_of rows) n (parent_of rows x))))
          ∙ ap (λ (k : Kind). cond (not (is_element k)) (x ∷ take_while (stays rows) (reverse (stacked (run_entries rows set eleven) (chain_within (parent_of rows) n (parent_of rows x))))) []) element
      at ih element false =
          ap (take_while (stays rows)) (reverse-append (stacked (run_entries rows set eleven) (chain_within (parent_of rows) n (parent_of rows x))) (reverse (bases rows x)) ∙ ap (λ (l : List ℕ). l ++ reverse (stacked (run_entries rows set eleven) (chain_within (parent_of rows) n (parent_of rows x)))) (reverse-reverse (bases rows x)))
          ∙ bases_pass rows x (reverse (stacked (run_entries rows set eleven) (chain_within (parent_of rows) n (parent_of rows x)))) ∙ ap (λ (l : List ℕ). bases rows x ++ l) ih

      go : (t : Bool) → eqb x 0 ≡ t → take_while (stays rows) (reverse (stacked (run_entries rows set eleven) (chain_within (parent_of rows) n (parent_of rows x)))) ≡ flat_map (bases rows) (take_while outside (chain_within (parent_of rows) n (parent_of rows x)))
          → take_while (stays rows) (reverse (stacked (run_entries rows set eleven) (cond t [] (x ∷ chain_within (parent_of rows) n (parent_of rows x))))) ≡ flat_map (bases rows) (take_while outside (cond t [] (x ∷ chain_within (parent_of rows) n (parent_of rows x))))
      go true root ih = refl
      go false inner ih =
          let element = is (λ (z : x ≡ 0). false≢true (sym inner ∙ eq-eqb x 0 z)) in
          ap (λ (k : Kind). take_while (stays rows) (reverse (stacked (run_entries rows set eleven) (chain_within (parent_of rows) n (parent_of rows x)) ++ cond (is_element k) (cond (set x) (x ∷ []) (reverse (bases rows x))) []))) element
          ∙ at ih element (set x) ∙ sym (ap (flat_map (bases rows)) (take_while-cons outside x (chain_within (parent_of rows) n (parent_of rows x))))

  -- the run above row x
  pub run_above : (x : ℕ) → x < length rows → run_on rows (runs_at rows set eleven (parent_of rows x)) ≡ run_bases rows set (parent_of rows x)
  run_above x lt = run_in (length rows) (parent_of rows x) (parent_there rows w x lt) (λ (inner : parent_of rows x ≡ 0 → ⊥). parent_element rows w x lt inner)

  -- ---- a run is that of the element whose row is the nearest
  first_passes : (p : ℕ → Bool) (xs : List ℕ) (c : ℕ) (cs : List ℕ) → filter p xs ≡ c ∷ cs → p c ≡ true
  first_passes p [] c cs e = cc
  first_passes p (x ∷ xs) c cs e = go (p x) refl (first_passes p xs c cs) e
    where
      go : (t : Bool) → p x ≡ t → (filter p xs ≡ c ∷ cs → p c ≡ true) → cond t (x ∷ filter p xs) (filter p xs) ≡ c ∷ cs → p c ≡ true
      go true is ih f = let same : x ≡ c = cc in ap p (sym same) ∙ is
      go false is ih f = ih f

  base_of_parent : (p c : ℕ) (cs : List ℕ) → bases rows p ≡ c ∷ cs → parent_of rows c ≡ p
  base_of_parent p c cs e =
      let all = range_with_len 1 (length rows - 1) in
      let f : filter (λ k. is_attribute_of rows p k && is_base rows k) all ≡ c ∷ cs = sym (filter-filter (is_base rows) (is_attribute_of rows p) all) ∙ e in
      let t = first_passes (λ k. is_attribute_of rows p k && is_base rows k) all c cs f in
      eqb-true (parent_of rows c) p (and_parts (is_attribute (kind_of rows c)) (eqb (parent_of rows c) p) (and_parts (is_attribute_of rows p c) (is_base rows c) t).0).1

  -- of a row that is not the root
  run_step : (p b : ℕ) (more : List ℕ) → (p ≡ 0 → ⊥) → p < length rows → run_bases rows set p ≡ b ∷ more → (run_bases rows set (parent_of rows p) ≡ b ∷ more → run_bases rows set (parent_of rows b) ≡ b ∷ more)
      → run_bases rows set (parent_of rows b) ≡ b ∷ more
  run_step p b more inner lt e ih = split (set p) (sym opened ∙ e)
    where
      opened : run_bases rows set p ≡ flat_map (bases rows) (cond (not (set p)) (p ∷ take_while outside (upwards rows (parent_of rows p))) [])
      opened = ap (λ es. flat_map (bases rows) (take_while outside es)) (chain-more rows w p inner lt) ∙ ap (flat_map (bases rows)) (take_while-cons outside p (upwards rows (parent_of rows p)))

      own : (bs : List ℕ) → bases rows p ≡ bs → bs ++ run_bases rows set (parent_of rows p) ≡ b ∷ more → run_bases rows set (parent_of rows b) ≡ b ∷ more
      own [] is f = ih f
      own (c ∷ cs) is f = let same : c ≡ b = cc in ap (λ (k : ℕ). run_bases rows set k) (ap (parent_of rows) (sym same) ∙ base_of_parent p c cs is) ∙ e

      split : (t : Bool) → flat_map (bases rows) (cond (not t) (p ∷ take_while outside (upwards rows (parent_of rows p))) []) ≡ b ∷ more → run_bases rows set (parent_of rows b) ≡ b ∷ more
      split true f = let no : [] ≡ b ∷ more = f in cc
      split false f = own (bases rows p) refl f

  no_run : (p b : ℕ) (more : List ℕ) → p ≡ 0 → run_bases rows set p ≡ b ∷ more → ⊥
  no_run p b more root e =
      let none : run_bases rows set p ≡ [] = ap (run_bases rows set) root ∙ ap (λ es. flat_map (bases rows) (take_while outside es)) (chain-root (length rows) (parent_of rows) w.some) in
      let no : [] ≡ b ∷ more = sym none ∙ e in cc

  pub same_run : (fuel p b : ℕ) (more : List ℕ) → p ≤ fuel → p < length rows → run_bases rows set p ≡ b ∷ more → run_bases rows set (parent_of rows b) ≡ b ∷ more
  same_run zero p b more few lt e = absurd (no_run p b more (omega arith) e)
  same_run (suc fuel) p b more few lt e = elim (cases_eq p 0) [
    | inl root ↦ absurd (no_run p b more root e)
    | inr inner ↦
        run_step p b more inner lt e
        (λ (f : run_bases rows set (parent_of rows p) ≡ b ∷ more). let up = w.nesting.parent_before p (omega arith) lt in same_run fuel (parent_of rows p) b more (omega arith) (omega arith) f)
  ]

  -- ---- how many octets joining a run takes
  few_run : (es : List ℕ) → weights rows (flat_map (bases rows) (take_while outside es)) ≤ total (octets_of rows) es
  few_run [] = omega arith
  few_run (e ∷ es) = go (set e) refl (few_run es)
    where
      go : (t : Bool) → set e ≡ t → weights rows (flat_map (bases rows) (take_while outside es)) ≤ total (octets_of rows) es → weights rows (flat_map (bases rows) (take_while outside (e ∷ es))) ≤ total (octets_of rows) es + octets_of rows e
      go true is ih =
          let none : take_while outside (e ∷ es) ≡ [] = take_while-cons outside e es ∙ ap (λ (t : Bool). cond (not t) (e ∷ take_while outside es) []) is in
          let z = ap (λ l. weights rows (flat_map (bases rows) l)) none in omega arith
      go false is ih =
          let some : take_while outside (e ∷ es) ≡ e ∷ take_while outside es = take_while-cons outside e es ∙ ap (λ (t : Bool). cond (not t) (e ∷ take_while outside es) []) is in
          let z = ap (λ l. weights rows (flat_map (bases rows) l)) some in
          let n = weights-append rows (bases rows e) (flat_map (bases rows) (take_while outside es)) in
          omega arith

  pub run_fits : (x room : ℕ) → 0 < x → x < length rows → total (octets_of rows) (upwards rows x) ≤ room → weights rows (bases rows x) + weights rows (run_bases rows set (parent_of rows x)) ≤ room
  run_fits x room pos lt enough =
      let all = ap (total (octets_of rows)) (chain-more rows w x (λ (z : x ≡ 0). omega arith) lt) in
      let few = few_run (upwards rows (parent_of rows x)) in
      omega arith

-- ---- a stack that is read from its top
pub take-top : (xs : List ℕ) (i : ℕ) → 0 < i → i ≤ length xs → take i xs ≡ take (i - 1) xs ++ get_or xs (i - 1) 0 ∷ []
take-top xs i pos le = let e : i ≡ suc (i - 1) = omega arith in ap (λ (n : ℕ). take n xs) e ∙ more xs (i - 1) (omega arith)
  where
    more : (ys : List ℕ) (k : ℕ) → k < length ys → take (suc k) ys ≡ take k ys ++ get_or ys k 0 ∷ []
    more [] k lt = absurd (omega arith)
    more (y ∷ ys) zero lt = refl
    more (y ∷ ys) (suc k) lt = ap (λ (l : List ℕ). y ∷ l) (more ys k (omega arith))

reverse_top : (xs : List ℕ) (i : ℕ) → 0 < i → i ≤ length xs → reverse (take i xs) ≡ get_or xs (i - 1) 0 ∷ reverse (take (i - 1) xs)
reverse_top xs i pos le = ap (reverse {A = ℕ}) (take-top xs i pos le) ∙ reverse-append (take (i - 1) xs) (get_or xs (i - 1) 0 ∷ [])

pub run_on-top : (rows : List RowOf) (on_runs : List ℕ) (i : ℕ) → 0 < i → i ≤ length on_runs
    → run_on rows (take i on_runs) ≡ cond (not (is_element (kind_of rows (get_or on_runs (i - 1) 0)))) (get_or on_runs (i - 1) 0 ∷ run_on rows (take (i - 1) on_runs)) []
run_on-top rows on_runs i pos le =
    ap (take_while (stays rows)) (reverse_top on_runs i pos le)
    ∙ take_while-cons (stays rows) (get_or on_runs (i - 1) 0) (reverse (take (i - 1) on_runs))

-- Lists of rows that stand in document order already, or the other way round.
use Rattle.std.proofs.Common.{◌≡◌, ℕ, suc, ◌<◌, ◌≤◌, ◌+◌, ◌-◌, Bool, true, false, ◌||◌, nat_eq, List, [], ◌∷◌, ◌++◌, length, reverse, take, get_or, refl, sym, ap, subst, ◌∙◌, arith, append-nil}
use Rattle.std.specs.List.{All, filter, range_with_len}
use Rattle.std.proofs.lemmas.List.{take_more}
use Rattle.std.proofs.lemmas.List.Elements.{filter_agree}
use Rattle.std.proofs.lemmas.List.Folds.{list_any-append}
use Rattle.std.proofs.lemmas.Grind.{reverse_onto}
use Rattle.node_sets.specs.Members.{Spanned, has}
use Rattle.xml_doc.proofs.Numbers.{passing-cut, passing_none}
use Rattle.xml_doc.specs.Rows.{RowOf}
use Rattle.xpath_eval.specs.Context.{in_document_order, is_in}
use Rattle.xpath_eval.specs.Order.{Ascends}
use Rattle.xpath_eval.specs.Code.Context.{AreRows}
use Rattle.xpath_eval.proofs.Order.{ascending_is, lower}
use Rattle.xpath_eval.proofs.Rows.{All-reverse}
use Rattle.xpath_eval.proofs.Steps.{or_nothing}

-- ---- rows that ascend

-- one more row
push_ascends : (low end y : ℕ) (ys : List ℕ) → low ≤ end → end ≤ y → Ascends low end ys → Ascends low (suc y) (ys ++ (y ∷ []))
push_ascends low end y [] h g all = (omega (arith, h, g), omega arith, tt)
push_ascends low end y (z ∷ zs) h g all = (all.0, omega (arith, all.1, g), push_ascends (suc z) end y zs (omega (arith, all.1)) g all.2)

pub ascends_turn : (low end : ℕ) (ys : List ℕ) (i row next : ℕ) → i < length ys → row ≡ get_or ys i 0 → low ≤ end → end ≤ row → Ascends low end (take i ys) → next ≡ row + 1 → Ascends low next (take (i + 1) ys)
ascends_turn low end ys i row next lt is h g all e =
    let more : take (i + 1) ys ≡ take i ys ++ (row ∷ []) = take_more ys i 0 lt ∙ ap (λ (y : ℕ). take i ys ++ (y ∷ [])) (sym is) in
    let grown : Ascends low (suc row) (take i ys ++ (row ∷ [])) = push_ascends low end row (take i ys) h g all in
    let f : next ≡ suc row = omega (arith, e) in
    rw (f, more) grown

-- rows behind those that ascend
pub join_ascends : (low mid end : ℕ) (xs ys : List ℕ) → low ≤ mid → mid ≤ end → Ascends low mid xs → Ascends mid end ys → Ascends low end (xs ++ ys)
join_ascends low mid end [] ys h g all more = lower low mid end ys h more
join_ascends low mid end (x ∷ xs) ys h g all more = (all.0, omega (arith, all.1, g), join_ascends (suc x) mid end xs ys (omega (arith, all.1)) g all.2 more)

first_below : (n y : ℕ) (ys : List ℕ) → All (λ z. z < n) (y ∷ ys) → y < n
first_below n y ys all = all 0 0 (omega arith)

rest_below : (n y : ℕ) (ys : List ℕ) → All (λ z. z < n) (y ∷ ys) → All (λ z. z < n) ys
rest_below n y ys all = λ k d h. all (suc k) d (omega (arith, h))

-- another number behind them
within : (low end n : ℕ) (ys : List ℕ) → Ascends low end ys → All (λ z. z < n) ys → Ascends low n ys
within low end n [] h all = tt
within low end n (y ∷ ys) h all = (h.0, first_below n y ys all, within (suc y) end n ys h.2 (rest_below n y ys all))

-- rows that ascend are their own node set
pub ordered_is : (rows : List RowOf) (ys : List ℕ) (end : ℕ) → Ascends 0 end ys → AreRows rows ys → ys ≡ in_document_order rows ys
ordered_is rows ys end h all =
    let e : length rows - 0 ≡ length rows = omega arith in
    sym (ascending_is ys 0 (length rows) (omega arith) (within 0 end (length rows) ys h all)) ∙ ap (λ n. filter (is_in ys) (range_with_len 0 n)) e

-- ---- the other way round
either : (a b : Bool) → (b || (a || false)) ≡ (a || b)
either true true = refl
either true false = refl
either false true = refl
either false false = refl

in_reverse : (ys : List ℕ) (k : ℕ) → is_in (reverse ys) k ≡ is_in ys k
in_reverse [] k = refl
in_reverse (y ∷ ys) k =
    ap (λ (l : List ℕ). is_in l k) (reverse_onto ys y [])
    ∙ list_any-append (λ z. nat_eq k z) (reverse ys) (y ∷ [])
    ∙ ap (λ b. b || (nat_eq k y || false)) (in_reverse ys k)
    ∙ either (nat_eq k y) (is_in ys k)

pub same_order : (rows : List RowOf) (ys : List ℕ) → in_document_order rows (reverse ys) ≡ in_document_order rows ys
same_order rows ys = filter_agree (is_in (reverse ys)) (is_in ys) (in_reverse ys) (range_with_len 0 (length rows))

-- ---- a set whose rows stand between two numbers
beyond : (p : ℕ → Bool) (until a : ℕ) → until ≤ a → ((k : ℕ) → until ≤ k → p k ≡ false) → filter p (range_with_len 0 a) ≡ filter p (range_with_len 0 until)
beyond p until a le none =
    let cut : filter p (range_with_len 0 (a - 0)) ≡ filter p (range_with_len 0 (until - 0)) ++ filter p (range_with_len until (a - until)) = passing-cut p 0 until a (omega arith) le in
    let e : a - 0 ≡ a = omega arith in
    let f : until - 0 ≡ until = omega arith in
    (rw (e, f) at cut) ∙ ap (λ t. filter p (range_with_len 0 until) ++ t) (passing_none p until (a - until) (λ k l m. none k l)) ∙ append-nil (filter p (range_with_len 0 until))

pub span_all : (members : List Bool) (from until a n : ℕ) → Spanned members from until → until ≤ a → until ≤ n → filter (has members) (range_with_len 0 a) ≡ filter (has members) (range_with_len 0 n)
span_all members from until a n s la ln = beyond (has members) until a la s.behind ∙ sym (beyond (has members) until n ln s.behind)

pub span_none : (members : List Bool) (from until : ℕ) → Spanned members from until → [] ≡ filter (has members) (range_with_len 0 from)
span_none members from until s = sym (passing_none (has members) 0 from (λ k l m. s.below k (omega (arith, m))))

pub rows_reversed : (rows : List RowOf) (ys zs : List ℕ) → zs ≡ reverse ys → AreRows rows ys → AreRows rows zs
rows_reversed rows ys zs e all = let Within : List ℕ → Type 0 = AreRows rows in subst Within (sym e) (All-reverse (length rows) ys all)

pub ordered_reverse : (rows : List RowOf) (ys zs : List ℕ) (end : ℕ) → zs ≡ reverse ys → Ascends 0 end zs → AreRows rows ys → zs ≡ in_document_order rows ys
ordered_reverse rows ys zs end e h all = ordered_is rows zs end h (rows_reversed rows ys zs e all) ∙ ap (in_document_order rows) e ∙ same_order rows ys

-- from a set that has the rows
pub set_ordered : (rows rows' : List RowOf) (h h0 : ℕ → Bool) (ys zs : List ℕ) → zs ≡ reverse ys → ((k : ℕ) → h k ≡ (is_in zs k || h0 k)) → ((k : ℕ) → h0 k ≡ false) → rows' ≡ rows
    → filter h (range_with_len 0 (length rows')) ≡ in_document_order rows ys
set_ordered rows rows' h h0 ys zs e more none same =
    ap (λ (r : List RowOf). filter h (range_with_len 0 (length r))) same
    ∙ filter_agree h (is_in zs) (λ k. more k ∙ ap (λ b. is_in zs k || b) (none k) ∙ or_nothing (is_in zs k)) (range_with_len 0 (length rows))
    ∙ ap (in_document_order rows) e ∙ same_order rows ys

-- ---- the rows of both
swapped : (a b : Bool) → (a || b) ≡ (b || a)
swapped true true = refl
swapped true false = refl
swapped false true = refl
swapped false false = refl

pub in_both : (xs ys : List ℕ) (k : ℕ) → is_in (xs ++ ys) k ≡ (is_in ys k || is_in xs k)
in_both xs ys k = list_any-append (λ z. nat_eq k z) xs ys ∙ swapped (is_in xs k) (is_in ys k)

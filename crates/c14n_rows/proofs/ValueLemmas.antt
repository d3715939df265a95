-- A stack of runs that is read from its top, and the bases that are prepared of it.
use Rattle.std.proofs.Common.{◌≡◌, ℕ, zero, suc, ◌-◌, ◌<◌, ◌≤◌, Bool, true, false, not, cond, Some, None, List, [], ◌∷◌, ◌++◌, length, take, get_or, refl, ap, sym, ◌∙◌, arith, inl, inr}
use Rattle.std.specs.Prelude.{slice_get}
use Rattle.std.proofs.lemmas.Bool.{cases_eq}
use Rattle.std.proofs.lemmas.List.{take_all}
use Rattle.xml_doc.specs.Kinds.{is_element}
use Rattle.xml_doc.specs.Rows.{RowOf}
use Rattle.xml_doc.specs.Shape.{row_at}
use Rattle.c14n_bases.specs.Joined.{base_at}
use Rattle.c14n_text.specs.Rows.{kind_of}
use Rattle.c14n_text.specs.Bases.{is_none}
use Rattle.c14n_rows.specs.Code.Stacks.{run_on, values_on}
use Rattle.c14n_rows.proofs.BaseLemmas.{run-more}
use Rattle.c14n_rows.proofs.RunLemmas.{run_on-top, take-top, values-base}

-- the last of the first k bases
pub last_base : (bases before : List (List ℕ)) (value : List ℕ) (k : ℕ) → k ≤ length bases → take k bases ≡ before ++ value ∷ []
    → (0 < k) × (base_at bases (k - 1) ≡ value) × (take (k - 1) bases ≡ before)
last_base bases [] value zero few e = cc
last_base bases (b ∷ before) value zero few e = cc
last_base [] before value (suc k) few e = absurd (omega arith)
last_base (a ∷ bases) [] value (suc zero) few e = (omega arith, cc, refl)
last_base (a ∷ []) [] value (suc (suc k)) few e = absurd (omega arith)
last_base (a ∷ c ∷ bases) [] value (suc (suc k)) few e = cc
last_base (a ∷ bases) (b ∷ before) value (suc k) few e =
    let same : a ≡ b = cc in let rest : take k bases ≡ before ++ value ∷ [] = cc in
    let ih = last_base bases before value k (omega arith) rest in
    let n : suc k - 1 ≡ suc (k - 1) = let p = ih.0 in omega arith in (
      omega arith,
      ap (base_at (a ∷ bases)) n ∙ ih.1,
      ap (λ (j : ℕ). take j (a ∷ bases)) n ∙ ap (λ (l : List (List ℕ)). a ∷ l) ih.2 ∙ ap (λ (l : List ℕ). l ∷ before) same,
    )

module _ (rows : List RowOf) (on_runs : List ℕ) where
  -- a base on top of the first i entries is the last of those that are prepared of them
  pub base_on_top : (bases : List (List ℕ)) (i k b : ℕ) → 0 < i → i ≤ length on_runs → k ≤ length bases → b ≡ get_or on_runs (i - 1) 0 → is_element (kind_of rows b) ≡ false
      → take k bases ≡ values_on rows (take i on_runs)
      → (0 < k) × (base_at bases (k - 1) ≡ (row_at rows b).value) × (take (k - 1) bases ≡ values_on rows (take (i - 1) on_runs))
  base_on_top bases i k b pos le few is inner e =
      last_base bases (values_on rows (take (i - 1) on_runs)) (row_at rows b).value k few
      (e ∙ ap (values_on rows) (take-top on_runs i pos le ∙ ap (λ (j : ℕ). take (i - 1) on_runs ++ j ∷ []) (sym is)) ∙ values-base rows (take (i - 1) on_runs) b inner)

  -- where the run of the first i entries has a nearest row, this is on top of them
  pub on_top : (i b : ℕ) → i ≤ length on_runs → Some b ≡ slice_get (run_on rows (take i on_runs)) 0
      → (0 < i) × (b ≡ get_or on_runs (i - 1) 0) × (is_element (kind_of rows b) ≡ false)
  on_top i b le first = elim (cases_eq i 0) [
    | inl none ↦ absurd (empty on_runs (first ∙ ap (λ (j : ℕ). slice_get (run_on rows (take j on_runs)) 0) none))
    | inr some ↦
        let pos : 0 < i = omega arith in
        let t = get_or on_runs (i - 1) 0 in
        let more = run_on rows (take (i - 1) on_runs) in
        let found = go (is_element (kind_of rows t)) t more (first ∙ ap (λ (l : List ℕ). slice_get l 0) (run_on-top rows on_runs i pos le)) in
        (pos, found.0, ap (λ (j : ℕ). is_element (kind_of rows j)) found.0 ∙ found.1)
  ]
    where
      empty : (xs : List ℕ) → Some b ≡ slice_get (run_on rows (take 0 xs)) 0 → ⊥
      empty [] f = cc
      empty (x ∷ xs) f = cc

      go : (s : Bool) (t : ℕ) (more : List ℕ) → Some b ≡ slice_get (cond (not s) (t ∷ more) []) 0 → (b ≡ t) × (s ≡ false)
      go false t more f = (cc, refl)
      go true t more f = absurd (no f)
        where
          no : Some b ≡ slice_get {X = ℕ} [] 0 → ⊥
          no f = cc

  pub top_of_run : (b : ℕ) → Some b ≡ slice_get (run_on rows on_runs) 0 → (0 < length on_runs) × (run_on rows on_runs ≡ b ∷ run_on rows (take (length on_runs - 1) on_runs))
  top_of_run b first =
      let n = length on_runs in
      let all : take n on_runs ≡ on_runs = take_all n on_runs (omega arith) in
      let top = on_top n b (omega arith) (first ∙ ap (λ (l : List ℕ). slice_get (run_on rows l) 0) (sym all)) in
      (top.0, ap (run_on rows) (sym all) ∙ run-more rows on_runs n b top.0 (omega arith) top.1 top.2)

-- one that isn't empty has a first
pub has_first : (xs : List ℕ) → is_none xs ≡ false → (b : ℕ) × (Some b ≡ slice_get xs 0)
has_first [] some = cc
has_first (x ∷ xs) some = (x, refl)

-- an empty one has none
pub no_first : (xs : List ℕ) → None ≡ slice_get xs 0 → xs ≡ []
no_first [] none = refl
no_first (x ∷ xs) none = cc

-- ---- two bases on top of n that are prepared
pub record TwoOnTop (rows : List RowOf) (on_runs : List ℕ) (bases : List (List ℕ)) (n b : ℕ) : Type 0 where
  pub next : ℕ
  pub prepared : 2 ≤ n
  pub run : run_on rows on_runs ≡ b ∷ next ∷ run_on rows (take (length on_runs - 2) on_runs)
  pub inner : base_at bases (n - 1) ≡ (row_at rows b).value
  pub outer : base_at bases (n - 1 - 1) ≡ (row_at rows next).value
  pub left : take (n - 1 - 1) bases ≡ values_on rows (take (length on_runs - 2) on_runs)

pub two_on_top : (rows : List RowOf) (on_runs : List ℕ) (bases : List (List ℕ)) (n b : ℕ) → Some b ≡ slice_get (run_on rows on_runs) 0
    → is_none (run_on rows (take (length on_runs - 1) on_runs)) ≡ false → bases ≡ values_on rows on_runs → n ≡ length bases → TwoOnTop rows on_runs bases n b
two_on_top rows on_runs bases n b first more are count =
    let i = length on_runs in
    let all : take i on_runs ≡ on_runs = take_all i on_runs (omega arith) in
    let whole : take n bases ≡ bases = take_all n bases (omega arith) in
    let top = on_top rows on_runs i b (omega arith) (first ∙ ap (λ (l : List ℕ). slice_get (run_on rows l) 0) (sym all)) in
    let one = base_on_top rows on_runs bases i n b top.0 (omega arith) (omega arith) top.1 top.2 (whole ∙ are ∙ ap (values_on rows) (sym all)) in
    let some = has_first (run_on rows (take (i - 1) on_runs)) more in
    let next = on_top rows on_runs (i - 1) some.0 (omega arith) some.1 in
    let two = base_on_top rows on_runs bases (i - 1) (n - 1) some.0 next.0 (omega arith) (omega arith) next.1 next.2 one.2 in
    let same : i - 1 - 1 ≡ i - 2 = omega arith in
    record {
      next = some.0;
      prepared = let p = two.0 in omega arith;
      run = ap (run_on rows) (sym all) ∙ run-more rows on_runs i b top.0 (omega arith) top.1 top.2
          ∙ ap (λ (l : List ℕ). b ∷ l) (run-more rows on_runs (i - 1) some.0 next.0 (omega arith) next.1 next.2 ∙ ap (λ (j : ℕ). some.0 ∷ run_on rows (take j on_runs)) same);
      inner = one.1;
      outer = two.1;
      left = two.2 ∙ ap (λ (j : ℕ). values_on rows (take j on_runs)) same;
    }

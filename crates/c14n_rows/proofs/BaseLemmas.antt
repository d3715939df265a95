-- Values of `xml:base` that are joined one after the other.
use Rattle.std.proofs.Common.{◌≡◌, ℕ, ◌<◌, ◌≤◌, ◌+◌, ◌-◌, ◌&&◌, Bool, true, false, not, cond, Option, Some, None, IfSome, List, [], ◌∷◌, ◌++◌, length, take, get_or, refl, ap, sym, ◌∙◌, subst, arith, inl, inr}
use Rattle.std.specs.Prelude.{slice_get}
use Rattle.std.specs.List.{filter}
use Rattle.xml_doc.specs.Kinds.{is_element}
use Rattle.xml_doc.specs.Rows.{RowOf}
use Rattle.xml_doc.specs.Shape.{IsWellShaped}
use Rattle.c14n_text.specs.Rows.{kind_of, parent_of}
use Rattle.c14n_text.specs.Namespaces.{Rule}
use Rattle.c14n_text.specs.Attributes.{imports_attributes}
use Rattle.c14n_text.specs.Bases.{bases, is_base, is_eleven, is_none, joined_base, omitted_bases, with_base, with_bases}
use Rattle.c14n_rows.specs.Joined.{weights}
use Rattle.c14n_bases.specs.Joined.{JoinedValue}
use Rattle.c14n_rows.specs.Code.Joined.{if_base, IsRun, JoinedLast}
use Rattle.c14n_rows.specs.declared.bases.Joining.{Joining}
use Rattle.c14n_rows.specs.Code.Stacks.{run_on, run_bases, runs_at}
use Rattle.xml_doc.proofs.Ranges.{numbers, numbers-more, numbers-end}
use Rattle.c14n_rows.proofs.RunLemmas.{eleven_is, run_above, run_on-top, same_run, weights-append}

pub with_bases-append : (rows : List RowOf) (so_far : Option (ℕ × List ℕ)) (xs ys : List ℕ) → with_bases rows so_far (xs ++ ys) ≡ with_bases rows (with_bases rows so_far xs) ys
with_bases-append rows so_far [] ys = refl
with_bases-append rows so_far (x ∷ xs) ys = with_bases-append rows (with_base rows so_far x) xs ys

-- a step of a loop over a range
pub bases-more : (rows : List RowOf) (i b : ℕ) → i < b → filter (is_base rows) (numbers i b) ≡ if_base rows i ++ filter (is_base rows) (numbers (i + 1) b)
bases-more rows i b lt = ap (filter (is_base rows)) (numbers-more i b lt) ∙ go (is_base rows i)
  where
    go : (t : Bool) → cond t (i ∷ filter (is_base rows) (numbers (i + 1) b)) (filter (is_base rows) (numbers (i + 1) b)) ≡ cond t (i ∷ []) [] ++ filter (is_base rows) (numbers (i + 1) b)
    go true = refl
    go false = refl

pub bases-end : (rows : List RowOf) (i b : ℕ) → b ≤ i → filter (is_base rows) (numbers i b) ≡ []
bases-end rows i b le = ap (filter (is_base rows)) (numbers-end i b le)

pub weights-more : (rows : List RowOf) (i b : ℕ) → i < b → weights rows (filter (is_base rows) (numbers i b)) ≡ weights rows (if_base rows i) + weights rows (filter (is_base rows) (numbers (i + 1) b))
weights-more rows i b lt = ap (weights rows) (bases-more rows i b lt) ∙ weights-append rows (if_base rows i) (filter (is_base rows) (numbers (i + 1) b))

pub weights-end : (rows : List RowOf) (i b : ℕ) → b ≤ i → weights rows (filter (is_base rows) (numbers i b)) ≡ 0
weights-end rows i b le = ap (weights rows) (bases-end rows i b le)

pub base_here : (rows : List RowOf) (a : ℕ) → is_base rows a ≡ true → if_base rows a ≡ a ∷ []
base_here rows a is = ap (λ (t : Bool). cond t (a ∷ []) []) is

pub no_base_here : (rows : List RowOf) (a : ℕ) → is_base rows a ≡ false → if_base rows a ≡ []
no_base_here rows a is = ap (λ (t : Bool). cond t (a ∷ []) []) is

-- ---- the stack of a run, read from its top
pub run-more : (rows : List RowOf) (on_runs : List ℕ) (i b : ℕ) → 0 < i → i ≤ length on_runs → b ≡ get_or on_runs (i - 1) 0 → is_element (kind_of rows b) ≡ false
    → run_on rows (take i on_runs) ≡ b ∷ run_on rows (take (i - 1) on_runs)
run-more rows on_runs i b pos le is inner =
    let same : get_or on_runs (i - 1) 0 ≡ b = sym is in
    run_on-top rows on_runs i pos le
    ∙ ap (λ (k : ℕ). cond (not (is_element (kind_of rows k))) (k ∷ run_on rows (take (i - 1) on_runs)) []) same
    ∙ ap (λ (t : Bool). cond (not t) (b ∷ run_on rows (take (i - 1) on_runs)) []) inner

pub run-stops : (rows : List RowOf) (on_runs : List ℕ) (i b : ℕ) → 0 < i → i ≤ length on_runs → b ≡ get_or on_runs (i - 1) 0 → is_element (kind_of rows b) ≡ true → run_on rows (take i on_runs) ≡ []
run-stops rows on_runs i b pos le is outer =
    let same : get_or on_runs (i - 1) 0 ≡ b = sym is in
    run_on-top rows on_runs i pos le
    ∙ ap (λ (k : ℕ). cond (not (is_element (kind_of rows k))) (k ∷ run_on rows (take (i - 1) on_runs)) []) same
    ∙ ap (λ (t : Bool). cond (not t) (b ∷ run_on rows (take (i - 1) on_runs)) []) outer

pub run_on-none : (rows : List RowOf) (on_runs : List ℕ) → run_on rows (take 0 on_runs) ≡ []
run_on-none rows [] = refl
run_on-none rows (x ∷ xs) = refl

-- ---- the first of a list
pub first_is : (xs : List ℕ) (b : ℕ) → Some b ≡ slice_get xs 0 → (more : List ℕ) × (xs ≡ b ∷ more)
first_is [] b e = cc
first_is (x ∷ xs) b e = let same : b ≡ x = cc in (xs, ap (λ (k : ℕ). k ∷ xs) (sym same))

pub none_is : (xs : List ℕ) → None ≡ slice_get xs 0 → is_none xs ≡ true
none_is [] e = refl
none_is (x ∷ xs) e = cc

pub some_is : (xs : List ℕ) (b : ℕ) → Some b ≡ slice_get xs 0 → is_none xs ≡ false
some_is [] b e = cc
some_is (x ∷ xs) b e = refl

-- ---- the run that was joined last
module _ (rows : List RowOf) (w : IsWellShaped rows) (set : ℕ → Bool) (p : ℕ) (there : p < length rows) where
  -- the joined run whose nearest row is c
  abbrev Joined : JoinedValue → ℕ → Type 0
  Joined run c = IsRun c run (with_bases rows None (run_bases rows set (parent_of rows c)))

  -- where it has the same nearest row, it is the same run
  same_bases : (b : ℕ) → Some b ≡ slice_get (run_bases rows set p) 0 → with_bases rows None (run_bases rows set (parent_of rows b)) ≡ with_bases rows None (run_bases rows set p)
  same_bases b first =
      let run = first_is (run_bases rows set p) b first in
      ap (with_bases rows None) (same_run rows w set p p b run.0 (omega arith) there run.1 ∙ sym run.1)

  pub joined_before : (nearest : Option ℕ) (run : JoinedValue) (b : ℕ) → Some b ≡ slice_get (run_bases rows set p) 0
      → IfSome nearest (Joined run) → nearest ≡ Some b → IsRun b run (with_bases rows None (run_bases rows set p))
  joined_before nearest run b first is same = subst (IsRun b run) (same_bases b first) (subst (λ (o : Option ℕ). IfSome o (Joined run)) same is)

  -- and it stays what it is
  pub joined_after : (old new : Joining) (b : ℕ) → Some b ≡ slice_get (run_bases rows set p) 0
      → IfSome old.nearest (Joined old.run) → JoinedLast old new b (with_bases rows None (run_bases rows set p)) → IfSome new.nearest (Joined new.run)
  joined_after old new b first is (inl now) =
      subst (λ (o : Option ℕ). IfSome o (Joined new.run)) (sym now.0) (subst (IsRun b new.run) (sym (same_bases b first)) now.1)
  joined_after old new b first is (inr as_before) =
      subst (λ (run : JoinedValue). IfSome new.nearest (Joined run)) (sym as_before.1) (subst (λ (o : Option ℕ). IfSome o (Joined old.run)) (sym as_before.0) is)

-- ---- what stands as the `xml:base` of a row
module _ (rows : List RowOf) (set : ℕ → Bool) (rule : Rule) (x : ℕ) where
  abbrev joins : Bool
  joins = is_eleven rule && (is_element (kind_of rows x) && imports_attributes rows set rule x)

  pub joined-out : joins ≡ false → joined_base rows set rule x ≡ None
  joined-out out = go (is_eleven rule) (is_element (kind_of rows x)) (imports_attributes rows set rule x) (not (is_none (omitted_bases rows set x))) out
    where
      go : (a b c d : Bool) → (a && (b && c)) ≡ false → cond (a && (b && (c && d))) (with_bases rows None (bases rows x ++ omitted_bases rows set x)) None ≡ None
      go false b c d e = refl
      go true false c d e = refl
      go true true false d e = refl
      go true true true d e = cc

  pub joined-none : is_none (omitted_bases rows set x) ≡ true → joined_base rows set rule x ≡ None
  joined-none none =
      ap (λ (t : Bool). cond (is_eleven rule && (is_element (kind_of rows x) && (imports_attributes rows set rule x && not t))) (with_bases rows None (bases rows x ++ omitted_bases rows set x)) None) none
      ∙ go (is_eleven rule) (is_element (kind_of rows x)) (imports_attributes rows set rule x)
    where
      go : (a b c : Bool) → cond (a && (b && (c && false))) (with_bases rows None (bases rows x ++ omitted_bases rows set x)) None ≡ None
      go false b c = refl
      go true false c = refl
      go true true false = refl
      go true true true = refl

  pub joined-some : joins ≡ true → is_none (omitted_bases rows set x) ≡ false → joined_base rows set rule x ≡ with_bases rows None (bases rows x ++ omitted_bases rows set x)
  joined-some all some =
      ap (λ (t : Bool). cond (is_eleven rule && (is_element (kind_of rows x) && (imports_attributes rows set rule x && not t))) (with_bases rows None (bases rows x ++ omitted_bases rows set x)) None) some
      ∙ go (is_eleven rule) (is_element (kind_of rows x)) (imports_attributes rows set rule x) all
    where
      go : (a b c : Bool) → (a && (b && c)) ≡ true → cond (a && (b && (c && true))) (with_bases rows None (bases rows x ++ omitted_bases rows set x)) None ≡ with_bases rows None (bases rows x ++ omitted_bases rows set x)
      go false b c e = cc
      go true false c e = cc
      go true true false e = cc
      go true true true e = refl

  pub is_eleven_here : joins ≡ true → is_eleven rule ≡ true
  is_eleven_here all = and_left (is_eleven rule) (is_element (kind_of rows x) && imports_attributes rows set rule x) all
    where
      and_left : (a b : Bool) → (a && b) ≡ true → a ≡ true
      and_left true b e = refl
      and_left false b e = cc

  pub run_here : IsWellShaped rows → x < length rows → joins ≡ true → (on_runs : List ℕ) → on_runs ≡ runs_at rows set rule (parent_of rows x) → run_on rows on_runs ≡ run_bases rows set (parent_of rows x)
  run_here w lt all on_runs are =
      ap (run_on rows) (are ∙ ap (λ (r : Rule). runs_at rows set r (parent_of rows x)) (eleven_is rule (is_eleven_here all))) ∙ run_above rows w set x lt

-- The names of a PrefixList, put in order one by one.
use Rattle.std.proofs.Common.{◌≡◌, ℕ, ◌+◌, ◌||◌, Bool, true, false, cond, List, [], ◌∷◌, map, drop, encode_utf8_all, refl, ap, sym, ◌∙◌}
use Rattle.std.specs.List.{list_any}
use Rattle.std.specs.Str.{bytes_eq}
use Rattle.std.specs.Cmp.Lexicographic.{slice_cmp}
use Rattle.std.specs.Ordering.{nat_cmp}
use Rattle.std.specs.BTreeSet.{BTreeSet, UpdatesBy}
use Rattle.std.specs.Borrow.{Bor}
use Rattle.std.proofs.lemmas.Bool.{false_from_ne_true, false≢true}
use Rattle.std.proofs.lemmas.Map.Text.{is_eq-slice_cmp}
use Rattle.std.proofs.lemmas.Slice.Eq.{bytes_eq-Decides}
use Rattle.c14n_rows.specs.Prefixes.{HasNames, has_name}

-- the members from k on
abbrev pub listed : List ℕ → List (List ℕ) → Bool
listed name prefixes = list_any (bytes_eq name) (map encode_utf8_all prefixes)

-- equality of octets doesn't ask which are first
same_either_way : (p q : List ℕ) → bytes_eq p q ≡ bytes_eq q p
same_either_way p q = go (bytes_eq q p) refl
  where
    go : (t : Bool) → bytes_eq q p ≡ t → bytes_eq p q ≡ t
    go true e = (bytes_eq-Decides p q).1 (sym ((bytes_eq-Decides q p).0 e))
    go false e = false_from_ne_true (bytes_eq p q) (λ (same : bytes_eq p q ≡ true). false≢true (sym e ∙ (bytes_eq-Decides q p).1 (sym ((bytes_eq-Decides p q).0 same))))

-- a set has the names before place k of a PrefixList
pub record HasSoFar (prefixes : List (List ℕ)) (k : ℕ) (names : BTreeSet (Bor (List ℕ))) : Type 0 where
  pub each : (name : List ℕ) → (has_name name names || listed name (drop k prefixes)) ≡ listed name prefixes

inserted : (s n : BTreeSet (Bor (List ℕ))) (key name : List ℕ) → UpdatesBy (λ x y. slice_cmp nat_cmp x.now y.now) (λ k. slice_cmp nat_cmp key k.now) s n true → has_name name n ≡ cond (bytes_eq name key) true (has_name name s)
inserted s n key name u =
    u.0 (record { ref_ptr = (0, 0); now = name })
    ∙ ap (λ (t : Bool). cond t true (has_name name s)) (is_eq-slice_cmp key name ∙ same_either_way key name)

pub so_far-more : (prefixes : List (List ℕ)) (k : ℕ) (s n : BTreeSet (Bor (List ℕ))) (key prefix : List ℕ) → HasSoFar prefixes k s → drop k prefixes ≡ prefix ∷ drop (k + 1) prefixes → key ≡ encode_utf8_all prefix
    → UpdatesBy (λ x y. slice_cmp nat_cmp x.now y.now) (λ q. slice_cmp nat_cmp key q.now) s n true → HasSoFar prefixes (k + 1) n
so_far-more prefixes k s n key prefix h here is u = record {
  each = λ (name : List ℕ).
      ap (λ (t : Bool). t || listed name (drop (k + 1) prefixes)) (inserted s n key name u)
      ∙ either (bytes_eq name key) (has_name name s) (listed name (drop (k + 1) prefixes))
      ∙ ap (λ (p : List ℕ). has_name name s || (bytes_eq name p || listed name (drop (k + 1) prefixes))) is
      ∙ ap (λ (ps : List (List ℕ)). has_name name s || listed name ps) (sym here)
      ∙ h.each name;
}
  where
    either : (m c r : Bool) → (cond m true c || r) ≡ (c || (m || r))
    either true true r = refl
    either true false r = refl
    either false true r = refl
    either false false r = refl

or_false : (c : Bool) → (c || false) ≡ c
or_false true = refl
or_false false = refl

pub so_far-end : (prefixes : List (List ℕ)) (k : ℕ) (s : BTreeSet (Bor (List ℕ))) → HasSoFar prefixes k s → drop k prefixes ≡ [] → HasNames prefixes s
so_far-end prefixes k s h none = record {
  each = λ (name : List ℕ). sym (ap (λ (ps : List (List ℕ)). has_name name s || listed name ps) none ∙ or_false (has_name name s)) ∙ h.each name;
}

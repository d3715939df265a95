-- What is written of a list, a member behind a member.
use Rattle.std.proofs.Common.{◌≡◌, ◌∙◌, ◌+◌, ◌++◌, ap, sym, ℕ, List, drop, append_assoc, Some, None}
use Rattle.std.specs.Prelude.{slice_get}
use Rattle.std.specs.List.{flat_map}
use Rattle.std.proofs.lemmas.List.{append-nil}
use Rattle.sig_base.proofs.ListLemmas.{drop-at, drop_none}

module _ {A : Type 0} (write : A → List ℕ) (xs : List A) (k : ℕ) where
  -- one more is written
  pub written_more : (x : A) (text more all : List ℕ) → Some x ≡ slice_get xs k → more ≡ text ++ write x
      → text ++ flat_map write (drop k xs) ≡ all → more ++ flat_map write (drop (k + 1) xs) ≡ all
  written_more x text more all at is so =
      ap (λ t. t ++ flat_map write (drop (k + 1) xs)) is
      ∙ append_assoc text (write x) (flat_map write (drop (k + 1) xs))
      ∙ ap (λ t. text ++ t) (sym (ap (flat_map write) (drop-at xs k x at)))
      ∙ so

  -- none is left
  pub written_all : (text all : List ℕ) → None ≡ slice_get xs k → text ++ flat_map write (drop k xs) ≡ all → text ≡ all
  written_all text all end so =
      sym (append-nil text) ∙ ap (λ t. text ++ t) (sym (ap (flat_map write) (drop_none xs k end))) ∙ so

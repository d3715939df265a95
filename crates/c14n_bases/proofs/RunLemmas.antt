-- Texts that begin with `../`.
use Rattle.std.proofs.Common.{◌≡◌, ℕ, ◌≤◌, ◌&&◌, ◌==◌, Bool, true, false, List, [], ◌∷◌, ◌++◌, length, drop, refl, ap, sym, ◌∙◌, arith, length-append}
use Rattle.std.specs.Prelude.{codes}
use Rattle.std.specs.List.{list_any}
use Rattle.std.proofs.lemmas.Bool.{false≢true}
use Rattle.std.proofs.lemmas.Bool.Decides.{nat_tests}
use Rattle.c14n_bases.specs.Join.{begins, is_slash, is_same, is_up}
use Rattle.c14n_bases.specs.Code.Going.{IsName}

pub begins_is : (text : List ℕ) → begins (codes "../") text ≡ true → text ≡ codes "../" ++ drop 3 text
begins_is [] t = cc
begins_is (a ∷ []) t = absurd (go (46 == a) t)
  where
    go : (x : Bool) → (x && false) ≡ true → ⊥
    go true t = cc
    go false t = cc
begins_is (a ∷ b ∷ []) t = absurd (go (46 == a) (46 == b) t)
  where
    go : (x y : Bool) → (x && (y && false)) ≡ true → ⊥
    go true true t = cc
    go true false t = cc
    go false y t = cc
begins_is (a ∷ b ∷ c ∷ text) t = go (46 == a) (46 == b) (47 == c) refl refl refl t
  where
    go : (x y z : Bool) → (46 == a) ≡ x → (46 == b) ≡ y → (47 == c) ≡ z → (x && (y && (z && true))) ≡ true → a ∷ b ∷ c ∷ text ≡ 46 ∷ 46 ∷ 47 ∷ text
    go true true true e f g t =
        let i : a ≡ 46 = grind (arith, nat_tests) in let j : b ≡ 46 = grind (arith, nat_tests) in let k : c ≡ 47 = grind (arith, nat_tests) in cc
    go true true false e f g t = cc
    go true false z e f g t = cc
    go false y z e f g t = cc

no_up : (s rest behind : List ℕ) → IsName s → s ++ rest ≡ 46 ∷ 46 ∷ 47 ∷ behind → ⊥
no_up [] rest behind n e = n.segment.some refl
no_up (a ∷ []) rest behind n e =
    let i : a ≡ 46 = cc in
    false≢true (sym n.no_same ∙ ap (λ (k : ℕ). is_same (k ∷ [])) i)
no_up (a ∷ b ∷ []) rest behind n e =
    let i : a ≡ 46 = cc in let j : b ≡ 46 = cc in
    false≢true (sym n.no_up ∙ ap (λ (k : ℕ). is_up (k ∷ b ∷ [])) i ∙ ap (λ (k : ℕ). is_up (46 ∷ k ∷ [])) j)
no_up (a ∷ b ∷ c ∷ s) rest behind n e =
    let i : a ≡ 46 = cc in let j : b ≡ 46 = cc in let k : c ≡ 47 = cc in
    false≢true (sym n.segment.plain ∙ ap (λ (m : ℕ). list_any is_slash (m ∷ b ∷ c ∷ s)) i ∙ ap (λ (m : ℕ). list_any is_slash (46 ∷ m ∷ c ∷ s)) j
    ∙ ap (λ (m : ℕ). list_any is_slash (46 ∷ 46 ∷ m ∷ s)) k)

pub begins-length : (text : List ℕ) → begins (codes "../") text ≡ true → 3 ≤ length text
begins-length text t =
    let e = ap (length {A = ℕ}) (begins_is text t) in
    let f = length-append (codes "../") (drop 3 text) in
    omega arith

-- a name isn't read as `..` and a `/`
pub name-begins : (s rest : List ℕ) → IsName s → begins (codes "../") (s ++ rest) ≡ false
name-begins s rest n = go (begins (codes "../") (s ++ rest)) refl
  where
    go : (b : Bool) → begins (codes "../") (s ++ rest) ≡ b → begins (codes "../") (s ++ rest) ≡ false
    go false e = e
    go true e = absurd (no_up s rest (drop 3 (s ++ rest)) n (begins_is (s ++ rest) e))

-- without a `/` neither is anything else
pub plain-begin : (s : List ℕ) → list_any is_slash s ≡ false → begins (codes "../") s ≡ false
plain-begin s plain = go (begins (codes "../") s) refl
  where
    go : (b : Bool) → begins (codes "../") s ≡ b → begins (codes "../") s ≡ false
    go false e = e
    go true e = absurd (false≢true (sym plain ∙ ap (list_any is_slash) (begins_is s e)))

-- The path of a value below a base.
use Rattle.std.proofs.Common.{◌≡◌, ℕ, ◌||◌, Bool, true, false, cond, List, [], ◌∷◌, ◌++◌, reverse, refl, ap, sym, ◌∙◌, append_assoc, inl, inr, ◌⊎◌}
use Rattle.std.specs.Prelude.{codes}
use Rattle.std.specs.Str.{bytes_eq}
use Rattle.c14n_bases.specs.Join.{segments, is_same, is_up, is_dots, is_open, is_absolute, last_segment, directory, base_path, added, path_of, cleaned, clean}
use Rattle.c14n_bases.proofs.SurplusLemmas.{added-append}
use Rattle.c14n_bases.proofs.SegmentLemmas.{segments-append, last-append, directory-append, directory-form}

-- an empty segment is nothing
cleaned-empty : (absolute closing : Bool) (xs ys : List (List ℕ)) → cleaned absolute closing ((xs ++ [] ∷ []) ++ ys) ≡ cleaned absolute closing (xs ++ ys)
cleaned-empty absolute closing xs ys =
    ap (λ (l : List (List ℕ)). path_of absolute closing (reverse l))
    (added-append absolute [] (xs ++ [] ∷ []) ys ∙ ap (λ (l : List (List ℕ)). added absolute l ys) (added-append absolute [] xs ([] ∷ [])) ∙ sym (added-append absolute [] xs ys))

cleaned-empty_last : (absolute closing : Bool) (xs : List (List ℕ)) → cleaned absolute closing (xs ++ [] ∷ []) ≡ cleaned absolute closing xs
cleaned-empty_last absolute closing xs = ap (λ (l : List (List ℕ)). path_of absolute closing (reverse l)) (added-append absolute [] xs ([] ∷ []))

dotted_open : (last : List ℕ) → is_dots last ≡ true → (is_same last || is_up last) ≡ true
dotted_open last t = go (bytes_eq last []) (bytes_eq last (codes ".")) (bytes_eq last (codes "..")) t
  where
    go : (a b c : Bool) → (b || c) ≡ true → ((a || b) || c) ≡ true
    go true b c t = refl
    go false b c t = t

absolute-append : (p s t : List ℕ) → is_absolute (p ++ 47 ∷ s) ≡ is_absolute (p ++ 47 ∷ t)
absolute-append [] s t = refl
absolute-append (c ∷ cs) s t = refl

absolute-dotted : (p s : List ℕ) → is_dots (last_segment p) ≡ true → is_absolute (p ++ 47 ∷ s) ≡ is_absolute p
absolute-dotted [] s t = cc
absolute-dotted (c ∷ cs) s t = refl

-- a `/` behind a path that ends with `.` or `..`
clean-dotted : (p : List ℕ) → is_dots (last_segment p) ≡ true → clean (p ++ 47 ∷ []) ≡ clean p
clean-dotted p t =
    ap (λ (a : Bool). cleaned a (is_open (p ++ 47 ∷ [])) (segments (p ++ 47 ∷ []))) (absolute-dotted p [] t)
    ∙ ap (λ (l : List ℕ). cleaned (is_absolute p) (is_same l || is_up l) (segments (p ++ 47 ∷ []))) (last-append p [])
    ∙ ap (λ (o : Bool). cleaned (is_absolute p) o (segments (p ++ 47 ∷ []))) (sym (dotted_open (last_segment p) t))
    ∙ ap (cleaned (is_absolute p) (is_open p)) (segments-append p []) ∙ cleaned-empty_last (is_absolute p) (is_open p) (segments p)

pub clean-base_path : (p : List ℕ) → clean (base_path p) ≡ clean p
clean-base_path p = go (is_dots (last_segment p)) refl
  where
    go : (b : Bool) → is_dots (last_segment p) ≡ b → clean (cond b (p ++ 47 ∷ []) p) ≡ clean p
    go false is = refl
    go true is = clean-dotted p is

clean-between : (p s : List ℕ) → clean (p ++ 47 ∷ s) ≡ cleaned (is_absolute (p ++ 47 ∷ s)) (is_open s) (segments p ++ segments s)
clean-between p s =
    ap (λ (l : List ℕ). cleaned (is_absolute (p ++ 47 ∷ s)) (is_same l || is_up l) (segments (p ++ 47 ∷ s))) (last-append p s)
    ∙ ap (cleaned (is_absolute (p ++ 47 ∷ s)) (is_open s)) (segments-append p s)

-- a relative path below one that ends with `.` or `..`
pub below_dotted : (p s : List ℕ) → is_dots (last_segment p) ≡ true → cleaned (is_absolute p) (is_open s) (segments p ++ segments s) ≡ clean (directory (base_path p) ++ s)
below_dotted p s t =
    sym (ap (λ (b : Bool). clean (directory (cond b (p ++ 47 ∷ []) p) ++ s)) t
    ∙ ap (λ (d : List ℕ). clean (d ++ s)) (directory-append p) ∙ ap clean (append_assoc p (47 ∷ []) s) ∙ clean-between p s
    ∙ ap (λ (a : Bool). cleaned a (is_open s) (segments p ++ segments s)) (absolute-dotted p s t))

-- a relative path below another
pub below_plain : (p s : List ℕ) → is_dots (last_segment p) ≡ false → is_absolute s ≡ false
    → cleaned (is_absolute (directory p)) (is_open s) (segments (directory p) ++ segments s) ≡ clean (directory (base_path p) ++ s)
below_plain p s f relative =
    go (directory p) (directory-form p) ∙ ap (λ (b : Bool). clean (directory (cond b (p ++ 47 ∷ []) p) ++ s)) (sym f)
  where
    go : (d : List ℕ) → (d ≡ []) ⊎ ((front : List ℕ) × (d ≡ front ++ 47 ∷ [])) → cleaned (is_absolute d) (is_open s) (segments d ++ segments s) ≡ clean (d ++ s)
    go d (inl none) =
        ap (λ (l : List ℕ). cleaned (is_absolute l) (is_open s) (segments l ++ segments s)) none
        ∙ ap (λ (a : Bool). cleaned a (is_open s) (segments s)) (sym relative) ∙ ap (λ (l : List ℕ). clean (l ++ s)) (sym none)
    go d (inr some) =
        let front = some.0 in
        ap (λ (l : List ℕ). cleaned (is_absolute l) (is_open s) (segments l ++ segments s)) some.1
        ∙ ap (λ (l : List (List ℕ)). cleaned (is_absolute (front ++ 47 ∷ [])) (is_open s) (l ++ segments s)) (segments-append front [])
        ∙ cleaned-empty (is_absolute (front ++ 47 ∷ [])) (is_open s) (segments front) (segments s)
        ∙ ap (λ (a : Bool). cleaned a (is_open s) (segments front ++ segments s)) (absolute-append front [] s)
        ∙ sym (clean-between front s) ∙ ap clean (sym (append_assoc front (47 ∷ []) s)) ∙ ap (λ (l : List ℕ). clean (l ++ s)) (sym some.1)

-- a relative path in a directory
pub below_directory : (d s : List ℕ) → (d ≡ []) ⊎ ((front : List ℕ) × (d ≡ front ++ 47 ∷ [])) → is_absolute s ≡ false
    → clean (d ++ s) ≡ cleaned (is_absolute d) (is_open s) (segments d ++ segments s)
below_directory d s (inl none) relative =
    ap (λ (l : List ℕ). clean (l ++ s)) none ∙ ap (λ (a : Bool). cleaned a (is_open s) (segments s)) relative
    ∙ ap (λ (l : List ℕ). cleaned (is_absolute l) (is_open s) (segments l ++ segments s)) (sym none)
below_directory d s (inr (front, some)) relative =
    ap (λ (l : List ℕ). clean (l ++ s)) some ∙ ap clean (append_assoc front (47 ∷ []) s) ∙ clean-between front s
    ∙ ap (λ (a : Bool). cleaned a (is_open s) (segments front ++ segments s)) (absolute-append front s [])
    ∙ sym (cleaned-empty (is_absolute (front ++ 47 ∷ [])) (is_open s) (segments front) (segments s))
    ∙ ap (λ (l : List (List ℕ)). cleaned (is_absolute (front ++ 47 ∷ [])) (is_open s) (l ++ segments s)) (sym (segments-append front []))
    ∙ ap (λ (l : List ℕ). cleaned (is_absolute l) (is_open s) (segments l ++ segments s)) (sym some)

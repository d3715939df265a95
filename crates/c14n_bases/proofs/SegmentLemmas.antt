-- Segments of texts that are put together.
use Rattle.std.proofs.Common.{◌≡◌, ℕ, suc, ◌+◌, ◌-◌, ◌<◌, ◌≤◌, ◌||◌, Bool, true, false, not, cond, List, [], ◌∷◌, ◌++◌, length, take, drop, refl, ap, sym, ◌∙◌, arith, inl, inr, ◌⊎◌, length-append}
use Rattle.std.specs.List.{list_any, position_or_len, onto_first}
use Rattle.std.proofs.lemmas.List.Splits.{slice_split_none, slice_split_first, length-slice_split}
use Rattle.std.proofs.lemmas.Bool.Decides.{nat_tests}
use Rattle.std.proofs.lemmas.List.Sums.{fails_before_first}
use Rattle.std.proofs.lemmas.List.{length-drop, take_all, drop-drop, take_at}
use Rattle.c14n_bases.specs.Join.{is_slash, segments, last_segment, directory}

-- ---- the first segment
pub segments_one : (path : List ℕ) → length path ≤ position_or_len is_slash path → segments path ≡ path ∷ []
segments_one path none = slice_split_none is_slash path (λ k d h. fails_before_first is_slash path k d (omega (arith, h, none)))

pub segments_first : (path : List ℕ) (at : ℕ) → at ≡ position_or_len is_slash path → at < length path → segments path ≡ take at path ∷ segments (drop (at + 1) path)
segments_first path at first within = rw first (slice_split_first is_slash path 0 (rw (← first) within))

-- ---- a `/` in a text
there : (path : List ℕ) → position_or_len is_slash path < length path → list_any is_slash path ≡ true
there [] lt = absurd (omega (arith, lt))
there (c ∷ cs) lt = go (is_slash c) (there cs) lt
  where
    go : (b : Bool) → (position_or_len is_slash cs < length cs → list_any is_slash cs ≡ true) → cond (not b) (1 + position_or_len is_slash cs) 0 < suc (length cs) → (b || list_any is_slash cs) ≡ true
    go true ih lt = refl
    go false ih lt = ih (omega (arith, lt))

none_there : (path : List ℕ) → length path ≤ position_or_len is_slash path → list_any is_slash path ≡ false
none_there [] le = refl
none_there (c ∷ cs) le = go (is_slash c) (none_there cs) le
  where
    go : (b : Bool) → (length cs ≤ position_or_len is_slash cs → list_any is_slash cs ≡ false) → suc (length cs) ≤ cond (not b) (1 + position_or_len is_slash cs) 0 → (b || list_any is_slash cs) ≡ false
    go true ih le = absurd (omega (arith, le))
    go false ih le = ih (omega (arith, le))

-- no `/` stands before the first
pub first_plain : (path : List ℕ) (at : ℕ) → at ≡ position_or_len is_slash path → list_any is_slash (take at path) ≡ false
first_plain path at first = rw first (go path)
  where
    go : (xs : List ℕ) → list_any is_slash (take (position_or_len is_slash xs) xs) ≡ false
    go [] = refl
    go (c ∷ cs) = one (is_slash c) refl (go cs)
      where
        one : (b : Bool) → is_slash c ≡ b → list_any is_slash (take (position_or_len is_slash cs) cs) ≡ false → list_any is_slash (take (cond (not b) (1 + position_or_len is_slash cs) 0) (c ∷ cs)) ≡ false
        one true is ih = refl
        one false is ih =
            let e : 1 + position_or_len is_slash cs ≡ suc (position_or_len is_slash cs) = omega arith in
            ap (λ (n : ℕ). list_any is_slash (take n (c ∷ cs))) e ∙ ap (λ (b : Bool). b || list_any is_slash (take (position_or_len is_slash cs) cs)) is ∙ ih

pub whole_plain : (path : List ℕ) → length path ≤ position_or_len is_slash path → list_any is_slash path ≡ false
whole_plain path le = none_there path le

-- ---- the last segment
pub last_one : (path : List ℕ) → length path ≤ position_or_len is_slash path → last_segment path ≡ path
last_one [] le = refl
last_one (c ∷ cs) le = ap (λ (b : Bool). cond b (last_segment cs) (c ∷ cs)) (none_there (c ∷ cs) le)

pub last_first : (path : List ℕ) (at : ℕ) → at ≡ position_or_len is_slash path → at < length path → last_segment path ≡ last_segment (drop (at + 1) path)
last_first [] at first within = absurd (omega (arith, within))
last_first (c ∷ cs) at first within = go (is_slash c) (last_first cs) at first within
  where
    go : (b : Bool) → ((at : ℕ) → at ≡ position_or_len is_slash cs → at < length cs → last_segment cs ≡ last_segment (drop (at + 1) cs)) → (at : ℕ) → at ≡ cond (not b) (1 + position_or_len is_slash cs) 0 → at < suc (length cs)
        → cond (b || list_any is_slash cs) (last_segment cs) (c ∷ cs) ≡ last_segment (drop (at + 1) (c ∷ cs))
    go true ih at first within = rw first refl
    go false ih at first within =
        let lt : position_or_len is_slash cs < length cs = omega (arith, first, within) in
        let e : at + 1 ≡ suc (position_or_len is_slash cs + 1) = omega (arith, first) in
        rw (there cs lt, e) (ih (position_or_len is_slash cs) refl lt)

pub directory-last : (path : List ℕ) → directory path ++ last_segment path ≡ path
directory-last [] = refl
directory-last (c ∷ cs) = go (list_any is_slash (c ∷ cs)) (directory-last cs)
  where
    go : (b : Bool) → directory cs ++ last_segment cs ≡ cs → cond b (c ∷ directory cs) [] ++ cond b (last_segment cs) (c ∷ cs) ≡ c ∷ cs
    go true ih = ap (λ (l : List ℕ). c ∷ l) ih
    go false ih = refl

any-append : (xs ys : List ℕ) → list_any is_slash (xs ++ 47 ∷ ys) ≡ true
any-append [] ys = refl
any-append (x ∷ xs) ys = ap (λ (b : Bool). is_slash x || b) (any-append xs ys) ∙ go (is_slash x)
  where
    go : (b : Bool) → (b || true) ≡ true
    go true = refl
    go false = refl

any-cons : (x : ℕ) (xs ys : List ℕ) → list_any is_slash (x ∷ (xs ++ 47 ∷ ys)) ≡ true
any-cons x xs ys = any-append (x ∷ xs) ys

pub last-append : (xs ys : List ℕ) → last_segment (xs ++ 47 ∷ ys) ≡ last_segment ys
last-append [] ys = refl
last-append (x ∷ xs) ys = ap (λ (b : Bool). cond b (last_segment (xs ++ 47 ∷ ys)) (x ∷ (xs ++ 47 ∷ ys))) (any-cons x xs ys) ∙ last-append xs ys

pub directory-append : (xs : List ℕ) → directory (xs ++ 47 ∷ []) ≡ xs ++ 47 ∷ []
directory-append [] = refl
directory-append (x ∷ xs) = ap (λ (b : Bool). cond b (x ∷ directory (xs ++ 47 ∷ [])) []) (any-cons x xs []) ∙ ap (λ (l : List ℕ). x ∷ l) (directory-append xs)

-- ---- the segments of two texts with `/` between them
pub some_segment : (path : List ℕ) → segments path ≡ [] → ⊥
some_segment path e = omega (arith, ap length e, length-slice_split is_slash path)

onto_first-append : (x : ℕ) (ps qs : List (List ℕ)) → (ps ≡ [] → ⊥) → onto_first x (ps ++ qs) ≡ onto_first x ps ++ qs
onto_first-append x [] qs some = elim (some refl) [ ]
onto_first-append x (p ∷ ps) qs some = refl

pub segments-append : (xs ys : List ℕ) → segments (xs ++ 47 ∷ ys) ≡ segments xs ++ segments ys
segments-append [] ys = refl
segments-append (x ∷ xs) ys = go (is_slash x) (segments-append xs ys)
  where
    go : (b : Bool) → segments (xs ++ 47 ∷ ys) ≡ segments xs ++ segments ys → cond b ([] ∷ segments (xs ++ 47 ∷ ys)) (onto_first x (segments (xs ++ 47 ∷ ys))) ≡ cond b ([] ∷ segments xs) (onto_first x (segments xs)) ++ segments ys
    go true ih = ap (λ (l : List (List ℕ)). [] ∷ l) ih
    go false ih = ap (onto_first x) ih ∙ onto_first-append x (segments xs) (segments ys) (some_segment xs)

-- ---- what a directory is
slash_is : (c : ℕ) → is_slash c ≡ true → c ≡ 47
slash_is c t = grind (arith, nat_tests)

no_slash : (cs : List ℕ) → list_any is_slash cs ≡ true → directory cs ≡ [] → ⊥
no_slash [] t e = cc
no_slash (c ∷ cs) t e = let f : c ∷ directory cs ≡ [] = ap (λ (b : Bool). cond b (c ∷ directory cs) []) (sym t) ∙ e in cc

pub directory-form : (path : List ℕ) → (directory path ≡ []) ⊎ ((front : List ℕ) × (directory path ≡ front ++ 47 ∷ []))
directory-form [] = inl refl
directory-form (c ∷ cs) = go (is_slash c) (list_any is_slash cs) refl refl (directory-form cs)
  where
    go : (a b : Bool) → is_slash c ≡ a → list_any is_slash cs ≡ b → (directory cs ≡ []) ⊎ ((front : List ℕ) × (directory cs ≡ front ++ 47 ∷ []))
        → (cond (a || b) (c ∷ directory cs) [] ≡ []) ⊎ ((front : List ℕ) × (cond (a || b) (c ∷ directory cs) [] ≡ front ++ 47 ∷ []))
    go false false isc any ih = inl refl
    go true b isc any (inl none) = inr ([], ap (λ (l : List ℕ). c ∷ l) none ∙ ap (λ (k : ℕ). k ∷ []) (slash_is c isc))
    go true b isc any (inr some) = inr (c ∷ some.0, ap (λ (l : List ℕ). c ∷ l) some.1)
    go false true isc any (inl none) = absurd (no_slash cs any none)
    go false true isc any (inr some) = inr (c ∷ some.0, ap (λ (l : List ℕ). c ∷ l) some.1)

-- ---- slices
pub rest_whole : (n : ℕ) (text : List ℕ) → take (length text - n) (drop n text) ≡ drop n text
rest_whole n text = let e = length-drop n text in take_all (length text - n) (drop n text) (omega arith)

pub last_shorter : (path : List ℕ) → length (last_segment path) ≤ length path
last_shorter path = let e = sym (length-append (directory path) (last_segment path)) ∙ ap length (directory-last path) in omega arith

pub directory_taken : (path : List ℕ) (n : ℕ) → n ≡ length (last_segment path) → take (length path - n) path ≡ directory path
directory_taken path n is =
    let e = sym (length-append (directory path) (last_segment path)) ∙ ap length (directory-last path) in
    let f : length path - n ≡ length (directory path) = omega arith in
    rw f (ap (take (length (directory path))) (sym (directory-last path)) ∙ take_at (directory path) (last_segment path) (length (directory path)) refl)

pub behind_first : (n : ℕ) (text : List ℕ) → take (length text - (n + 1)) (drop (n + 1) text) ≡ drop 1 (drop n text)
behind_first n text = rest_whole (n + 1) text ∙ sym (drop-drop 1 n text)

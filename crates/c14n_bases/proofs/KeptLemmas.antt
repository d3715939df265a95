-- The segments that are kept, as they stand in a buffer.
use Rattle.std.proofs.Common.{◌≡◌, ℕ, zero, suc, ◌+◌, ◌-◌, ◌<◌, ◌≤◌, ◌||◌, ◌&&◌, Bool, true, false, cond, List, [], ◌∷◌, ◌++◌, length, reverse, take, drop, get_or, replicate, refl, ap, sym, ◌∙◌, subst, arith, append_assoc, append-nil, length-append}
use Rattle.std.specs.Prelude.{codes, nat_lt}
use Rattle.std.specs.List.{All, list_any}
use Rattle.std.proofs.lemmas.Bool.{false≢true}
use Rattle.std.proofs.lemmas.Bool.Decides.{nat_tests}
use Rattle.std.proofs.lemmas.Slice.Eq.{bytes_eq-Decides}
use Rattle.std.proofs.lemmas.List.{reverse-append}
use Rattle.std.proofs.lemmas.List.Elements.{All-nil, All-cons, All-tail, All-head}
use Rattle.std.proofs.Math.Seq.{take-append_seam}
use Rattle.c14n_bases.specs.Join.{is_slash, is_same, is_up, upwards, add, between_slashes, path_of, directory}
use Rattle.c14n_bases.specs.Code.Surplus.{led, is_any}
use Rattle.c14n_bases.specs.Code.Kept.{Names, ups, IsSegment, KeptIn}
use Rattle.c14n_bases.proofs.LedLemmas.{led-append, path_of-is, is_any-append}

abbrev pub glued : List (List ℕ) → List ℕ
glued kept = between_slashes (reverse kept)

pub led-false : (xs : List (List ℕ)) → led false xs ≡ between_slashes xs
led-false [] = refl
led-false (x ∷ xs) = refl

or_false : (b : Bool) → (b || false) ≡ b
or_false true = refl
or_false false = refl

pub any-reverse : (xs : List (List ℕ)) → is_any (reverse xs) ≡ is_any xs
any-reverse [] = refl
any-reverse (x ∷ xs) = ap is_any (reverse-append (x ∷ []) xs) ∙ is_any-append (reverse xs) (x ∷ []) ∙ true_last (is_any (reverse xs))
  where
    true_last : (b : Bool) → (b || true) ≡ true
    true_last true = refl
    true_last false = refl

led-one : (b : Bool) (s : List ℕ) → led b (s ∷ []) ≡ cond b (codes "/") [] ++ s
led-one true s = ap (λ (l : List ℕ). 47 ∷ l) (append-nil s)
led-one false s = append-nil s

pub glued-push : (kept : List (List ℕ)) (s : List ℕ) → glued (s ∷ kept) ≡ glued kept ++ (cond (is_any kept) (codes "/") [] ++ s)
glued-push kept s =
    ap between_slashes (reverse-append (s ∷ []) kept) ∙ sym (led-false (reverse kept ++ s ∷ []))
    ∙ led-append false (reverse kept) (s ∷ [])
    ∙ ap (λ (l : List ℕ). l ++ led (is_any (reverse kept)) (s ∷ [])) (led-false (reverse kept))
    ∙ ap (λ (b : Bool). glued kept ++ led b (s ∷ [])) (any-reverse kept)
    ∙ ap (λ (l : List ℕ). glued kept ++ l) (led-one (is_any kept) s)

-- some octets stand there exactly where some segment does
some_length : (s : List ℕ) → (s ≡ [] → ⊥) → 0 < length s
some_length [] some = absurd (some refl)
some_length (c ∷ cs) some = omega arith

pub is_longer : (front : List ℕ) (kept : List (List ℕ)) (items : List ℕ) (floor : ℕ) → floor ≡ length front → All IsSegment kept → items ≡ front ++ glued kept → nat_lt floor (length items) ≡ is_any kept
is_longer front [] items floor at all are =
    let n = ap (length {A = ℕ}) (are ∙ append-nil front) in
    let m : length items ≡ floor = omega arith in
    grind (arith, nat_tests)
is_longer front (s ∷ kept) items floor at all are =
    let n = ap (length {A = ℕ}) (are ∙ ap (λ (l : List ℕ). front ++ l) (glued-push kept s)) in
    let m = length-append front (glued kept ++ (cond (is_any kept) (codes "/") [] ++ s)) in
    let k = length-append (glued kept) (cond (is_any kept) (codes "/") [] ++ s) in
    let j = length-append (cond (is_any kept) (codes "/") []) s in
    let pos = some_length s (All-head IsSegment s kept all).some in
    let lt : floor < length items = omega arith in
    grind (arith, nat_tests)

-- ---- where the last `/` stands
pub directory-none : (xs : List ℕ) → list_any is_slash xs ≡ false → directory xs ≡ []
directory-none [] f = refl
directory-none (c ∷ cs) f = ap (λ (b : Bool). cond b (c ∷ directory cs) []) f

pub directory-slash : (xs ys : List ℕ) → list_any is_slash ys ≡ false → length (directory (xs ++ 47 ∷ ys)) ≡ length xs + 1
directory-slash [] ys f = ap (λ (l : List ℕ). suc (length l)) (directory-none ys f)
directory-slash (x ∷ xs) ys f =
    ap (λ (b : Bool). length (cond b (x ∷ directory (xs ++ 47 ∷ ys)) [])) (any_there (x ∷ xs) ys)
    ∙ ap suc (directory-slash xs ys f) ∙ (let e : suc (length xs + 1) ≡ suc (length xs) + 1 = omega arith in e)
  where
    true_last : (b : Bool) → (b || true) ≡ true
    true_last true = refl
    true_last false = refl

    any_there : (xs ys : List ℕ) → list_any is_slash (xs ++ 47 ∷ ys) ≡ true
    any_there [] ys = refl
    any_there (x ∷ xs) ys = ap (λ (b : Bool). is_slash x || b) (any_there xs ys) ∙ true_last (is_slash x)

pub last_here : (text : List ℕ) (i : ℕ) → i < length text → get_or text i 0 ≡ 47 → list_any is_slash (drop (i + 1) text) ≡ false → i ≡ length (directory text) - 1
last_here text i lt is none =
    let n = directory-slash (take i text) (drop (i + 1) text) none in
    let e : take i text ++ 47 ∷ drop (i + 1) text ≡ text = parts text i lt is in
    let m = ap (λ (l : List ℕ). length (directory l)) e in
    let k : length (take i text) ≡ i = taken text i lt in
    omega arith
  where
    taken : (xs : List ℕ) (i : ℕ) → i < length xs → length (take i xs) ≡ i
    taken [] i lt = absurd (omega arith)
    taken (x ∷ xs) zero lt = refl
    taken (x ∷ xs) (suc i) lt = ap suc (taken xs i (omega arith))

    parts : (xs : List ℕ) (i : ℕ) → i < length xs → get_or xs i 0 ≡ 47 → take i xs ++ 47 ∷ drop (i + 1) xs ≡ xs
    parts [] i lt is = absurd (omega arith)
    parts (x ∷ xs) zero lt is = ap (λ (c : ℕ). c ∷ xs) (sym is)
    parts (x ∷ xs) (suc i) lt is =
        let e : suc i + 1 ≡ suc (i + 1) = omega arith in
        ap (λ (n : ℕ). x ∷ (take i xs ++ 47 ∷ drop n (x ∷ xs))) e ∙ ap (λ (l : List ℕ). x ∷ l) (parts xs i (omega arith) is)

-- one octet more in front
pub none_more : (text : List ℕ) (i : ℕ) → i < length text → (get_or text i 0 ≡ 47 → ⊥) → list_any is_slash (drop (i + 1) text) ≡ false → list_any is_slash (drop i text) ≡ false
none_more [] i lt other none = absurd (omega arith)
none_more (x ∷ xs) zero lt other none = go (is_slash x) refl
  where
    go : (b : Bool) → is_slash x ≡ b → (b || list_any is_slash xs) ≡ false
    go true is = absurd (other (let e : x ≡ 47 = grind (arith, nat_tests) in e))
    go false is = none
none_more (x ∷ xs) (suc i) lt other none =
    let e : suc i + 1 ≡ suc (i + 1) = omega arith in
    none_more xs i (omega arith) other (ap (λ (n : ℕ). list_any is_slash (drop n (x ∷ xs))) (sym e) ∙ none)

-- ---- a cut
glued-cut : (kept : List (List ℕ)) (s : List ℕ) → list_any is_slash s ≡ false → take (length (directory (glued (s ∷ kept))) - 1) (glued (s ∷ kept)) ≡ glued kept
glued-cut [] s plain =
    let e = glued-push [] s in
    let n : length (directory (glued (s ∷ []))) ≡ 0 = ap (λ (l : List ℕ). length (directory l)) e ∙ ap (length {A = ℕ}) (directory-none s plain) in
    let z : length (directory (glued (s ∷ []))) - 1 ≡ 0 = omega arith in
    ap (λ (k : ℕ). take k (glued (s ∷ []))) z
glued-cut (k ∷ kept) s plain =
    let e : glued (s ∷ k ∷ kept) ≡ glued (k ∷ kept) ++ 47 ∷ s = glued-push (k ∷ kept) s in
    let n = ap (λ (l : List ℕ). length (directory l)) e ∙ directory-slash (glued (k ∷ kept)) s plain in
    let z : length (directory (glued (s ∷ k ∷ kept))) - 1 ≡ length (glued (k ∷ kept)) = omega arith in
    ap (λ (m : ℕ). take m (glued (s ∷ k ∷ kept))) z ∙ ap (take (length (glued (k ∷ kept)))) e ∙ take-append_seam (glued (k ∷ kept)) (47 ∷ s)

take-behind : (front xs : List ℕ) (n : ℕ) → take (length front + n) (front ++ xs) ≡ front ++ take n xs
take-behind [] xs n = let e : 0 + n ≡ n = omega arith in ap (λ (k : ℕ). take k xs) e
take-behind (c ∷ cs) xs n = let e : suc (length cs) + n ≡ suc (length cs + n) = omega arith in ap (λ (k : ℕ). take k (c ∷ (cs ++ xs))) e ∙ ap (λ (l : List ℕ). c ∷ l) (take-behind cs xs n)

drop-front : (front xs : List ℕ) → drop (length front) (front ++ xs) ≡ xs
drop-front [] xs = refl
drop-front (c ∷ cs) xs = drop-front cs xs

pub cut-is : (front items : List ℕ) (kept : List (List ℕ)) (s : List ℕ) (floor : ℕ) → floor ≡ length front → items ≡ front ++ glued (s ∷ kept) → list_any is_slash s ≡ false
    → take (floor + (length (directory (drop floor items)) - 1)) items ≡ front ++ glued kept
cut-is front items kept s floor at are plain =
    let T = glued (s ∷ kept) in
    ap (λ (f : ℕ). take (f + (length (directory (drop f items)) - 1)) items) at
    ∙ ap (λ (l : List ℕ). take (length front + (length (directory (drop (length front) l)) - 1)) l) are
    ∙ ap (λ (l : List ℕ). take (length front + (length (directory l) - 1)) (front ++ T)) (drop-front front T)
    ∙ take-behind front T (length (directory T) - 1)
    ∙ ap (λ (l : List ℕ). front ++ l) (glued-cut kept s plain)

-- ---- a segment more
module _ (absolute : Bool) (front : List ℕ) (floor : ℕ) (at : floor ≡ length front) where
  pub push-is : (kept : List (List ℕ)) (items later : List ℕ) (s : List ℕ) → All IsSegment kept → items ≡ front ++ glued kept
      → later ≡ items ++ cond (nat_lt floor (length items)) (codes "/") [] ++ s → later ≡ front ++ glued (s ∷ kept)
  push-is kept items later s all are is =
      is ∙ ap (λ (b : Bool). items ++ cond b (codes "/") [] ++ s) (is_longer front kept items floor at all are)
      ∙ append_assoc items (cond (is_any kept) (codes "/") []) s
      ∙ ap (λ (l : List ℕ). l ++ (cond (is_any kept) (codes "/") [] ++ s)) are
      ∙ append_assoc front (glued kept) (cond (is_any kept) (codes "/") [] ++ s)
      ∙ ap (λ (l : List ℕ). front ++ l) (sym (glued-push kept s))

  as_kept : (kept other : List (List ℕ)) (items : List ℕ) (n : ℕ) → other ≡ kept → KeptIn absolute front kept items n → KeptIn absolute front other items n
  as_kept kept other items n e k = subst (λ (l : List (List ℕ)). KeptIn absolute front l items n) (sym e) k

  pub same_kept : (kept : List (List ℕ)) (items s : List ℕ) (n : ℕ) → true ≡ is_same s → KeptIn absolute front kept items n → KeptIn absolute front (add absolute kept s) items n
  same_kept kept items s n is k = as_kept kept (add absolute kept s) items n (ap (λ (b : Bool). cond b kept (cond (is_up s) (upwards absolute kept) (s ∷ kept))) (sym is)) k

  not_empty : (s : List ℕ) → false ≡ is_same s → s ≡ [] → ⊥
  not_empty s is e = false≢true (is ∙ ap is_same e)

  segment_of : (s : List ℕ) → false ≡ is_same s → list_any is_slash s ≡ false → IsSegment s
  segment_of s is plain = record { some = not_empty s is; plain = plain }

  pub name_kept : (kept : List (List ℕ)) (items later s : List ℕ) (n : ℕ) → false ≡ is_same s → false ≡ is_up s → list_any is_slash s ≡ false
      → later ≡ items ++ cond (nat_lt floor (length items)) (codes "/") [] ++ s → KeptIn absolute front kept items n → KeptIn absolute front (add absolute kept s) later (n + 1)
  name_kept kept items later s n is name plain later_is k =
      let e : add absolute kept s ≡ s ∷ kept = ap (λ (b : Bool). cond b kept (cond (is_up s) (upwards absolute kept) (s ∷ kept))) (sym is) ∙ ap (λ (b : Bool). cond b (upwards absolute kept) (s ∷ kept)) (sym name) in
      let counted = k.counted in
      as_kept (s ∷ kept) (add absolute kept s) later (n + 1) e (record {
        are = push-is kept items later s k.segments k.are later_is;
        segments = All-cons IsSegment s kept (segment_of s is plain) k.segments;
        names = s ∷ k.names;
        upwards = k.upwards;
        split = ap (λ (l : List (List ℕ)). s ∷ l) k.split;
        only = (sym name, k.only);
        counted = omega arith;
      })

  up_adds : (kept : List (List ℕ)) (s : List ℕ) → false ≡ is_same s → true ≡ is_up s → add absolute kept s ≡ upwards absolute kept
  up_adds kept s is up = ap (λ (b : Bool). cond b kept (cond (is_up s) (upwards absolute kept) (s ∷ kept))) (sym is) ∙ ap (λ (b : Bool). cond b (upwards absolute kept) (s ∷ kept)) (sym up)

  -- a name goes
  pub name_gone : (kept : List (List ℕ)) (items later s : List ℕ) (n : ℕ) → false ≡ is_same s → true ≡ is_up s → 0 < n
      → later ≡ take (floor + (length (directory (drop floor items)) - 1)) items → KeptIn absolute front kept items n → KeptIn absolute front (add absolute kept s) later (n - 1)
  name_gone kept items later s n is up pos later_is k = go k.names k.split k.only k.counted
    where
      go : (names : List (List ℕ)) → kept ≡ names ++ ups absolute k.upwards → Names names → n ≡ length names → KeptIn absolute front (add absolute kept s) later (n - 1)
      go [] split only counted = absurd (omega arith)
      go (t ∷ names) split only counted =
          let rest = names ++ ups absolute k.upwards in
          let all : All IsSegment (t ∷ rest) = subst (λ (l : List (List ℕ)). All IsSegment l) split k.segments in
          let e : add absolute kept s ≡ rest =
          up_adds kept s is up ∙ ap (upwards absolute) split ∙ ap (λ (b : Bool). cond b (cond absolute (t ∷ rest) (codes ".." ∷ t ∷ rest)) rest) only.0
          in
          as_kept rest (add absolute kept s) later (n - 1) e (record {
            are = later_is ∙ cut-is front items rest t floor at (k.are ∙ ap (λ (l : List (List ℕ)). front ++ glued l) split) (All-head IsSegment t rest all).plain;
            segments = All-tail IsSegment t rest all;
            names = names;
            upwards = k.upwards;
            split = refl;
            only = only.1;
            counted = omega arith;
          })

no_names : (names : List (List ℕ)) (n : ℕ) → n ≡ length names → n ≤ 0 → names ≡ []
no_names [] n e z = refl
no_names (x ∷ xs) n e z = absurd (omega arith)

module _ (front : List ℕ) (floor : ℕ) (at : floor ≡ length front) where
  -- nothing is above the root
  pub root_kept : (kept : List (List ℕ)) (items s : List ℕ) (n : ℕ) → false ≡ is_same s → true ≡ is_up s → n ≤ 0 → KeptIn true front kept items n → KeptIn true front (add true kept s) items n
  root_kept kept items s n is up none k =
      let empty : kept ≡ [] = k.split ∙ ap (λ (l : List (List ℕ)). l ++ []) (no_names k.names n k.counted none) in
      let e : add true kept s ≡ kept = up_adds true front floor at kept s is up ∙ ap (upwards true) empty ∙ sym empty in
      as_kept true front floor at kept (add true kept s) items n e k

  -- one more goes up
  pub up_kept : (kept : List (List ℕ)) (items later s : List ℕ) (n : ℕ) → false ≡ is_same s → true ≡ is_up s → n ≤ 0 → list_any is_slash s ≡ false
      → later ≡ items ++ cond (nat_lt floor (length items)) (codes "/") [] ++ s → KeptIn false front kept items n → KeptIn false front (add false kept s) later n
  up_kept kept items later s n is up none plain later_is k =
      let no : k.names ≡ [] = no_names k.names n k.counted none in
      let some : kept ≡ replicate k.upwards (codes "..") = k.split ∙ ap (λ (l : List (List ℕ)). l ++ replicate k.upwards (codes "..")) no in
      let dots : s ≡ codes ".." = (bytes_eq-Decides s (codes "..")).0 (sym up) in
      let e : add false kept s ≡ s ∷ kept =
      up_adds false front floor at kept s is up ∙ ap (upwards false) some ∙ relative k.upwards ∙ ap (λ (l : List (List ℕ)). codes ".." ∷ l) (sym some) ∙ ap (λ (l : List ℕ). l ∷ kept) (sym dots)
      in
      as_kept false front floor at (s ∷ kept) (add false kept s) later n e (record {
        are = push-is false front floor at kept items later s k.segments k.are later_is;
        segments = All-cons IsSegment s kept (segment_of false front floor at s is plain) k.segments;
        names = [];
        upwards = suc k.upwards;
        split = ap (λ (l : List (List ℕ)). s ∷ l) some ∙ ap (λ (l : List ℕ). l ∷ replicate k.upwards (codes "..")) dots;
        only = tt;
        counted = k.counted ∙ ap length no;
      })
    where
      relative : (u : ℕ) → upwards false (replicate u (codes "..")) ≡ codes ".." ∷ replicate u (codes "..")
      relative zero = refl
      relative (suc u) = refl

-- ---- a path
pub kept-begin : (absolute : Bool) (items : List ℕ) → KeptIn absolute items [] items 0
kept-begin absolute items = record {
  are = sym (append-nil items);
  segments = All-nil IsSegment;
  names = [];
  upwards = 0;
  split = sym (none absolute);
  only = tt;
  counted = refl;
}
  where
    none : (b : Bool) → ups b 0 ≡ []
    none true = refl
    none false = refl

pub path-end : (absolute closing : Bool) (before front items : List ℕ) (kept : List (List ℕ)) (n floor : ℕ) → floor ≡ length front → front ≡ before ++ cond absolute (codes "/") [] → KeptIn absolute front kept items n
    → items ++ cond (nat_lt floor (length items) && closing) (codes "/") [] ≡ before ++ path_of absolute closing (reverse kept)
path-end absolute closing before front items kept n floor at front_is k =
    let root = cond absolute (codes "/") [] in let last = λ (b : Bool). cond (b && closing) (codes "/") [] in
    ap (λ (b : Bool). items ++ last b) (is_longer front kept items floor at k.segments k.are ∙ sym (any-reverse kept))
    ∙ ap (λ (l : List ℕ). l ++ last (is_any (reverse kept))) (k.are ∙ ap (λ (l : List ℕ). l ++ glued kept) front_is ∙ append_assoc before root (glued kept))
    ∙ append_assoc before (root ++ glued kept) (last (is_any (reverse kept)))
    ∙ ap (λ (l : List ℕ). before ++ (root ++ l ++ last (is_any (reverse kept)))) (sym (led-false (reverse kept)))
    ∙ ap (λ (l : List ℕ). before ++ l) (sym (path_of-is absolute closing (reverse kept)))

pub up_kept_if : (absolute : Bool) (front : List ℕ) (floor : ℕ) → floor ≡ length front → absolute ≡ false → (kept : List (List ℕ)) (items later s : List ℕ) (n : ℕ) → false ≡ is_same s → true ≡ is_up s → n ≤ 0 → list_any is_slash s ≡ false
    → later ≡ items ++ cond (nat_lt floor (length items)) (codes "/") [] ++ s → KeptIn absolute front kept items n → KeptIn absolute front (add absolute kept s) later n
up_kept_if true front floor at relative kept items later s n is up none plain later_is k = absurd (false≢true (sym relative))
up_kept_if false front floor at relative kept items later s n is up none plain later_is k = up_kept front floor at kept items later s n is up none plain later_is k

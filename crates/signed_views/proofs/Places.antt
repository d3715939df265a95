-- A list of keepers of which one, at a known place, was written.
use Rattle.std.proofs.Common.{◌≡◌, ◌≢◌, ◌⊎◌, inl, inr, ◌<◌, ◌≤◌, ◌++◌, ◌∙◌, ap, sym, subst, refl, ℕ, List, length, take, set, get_or, get_or-set_other, get_or-set_same, append_assoc, Option, Some, arith, ◌+◌, [], ◌∷◌, map, slice_get, zip, encode_utf8_all, Bool, true, false, nat_lt, cond, ◌-◌, min}
use Rattle.std.proofs.lemmas.List.{length-set, get_or_default}
use Rattle.std.proofs.lemmas.Bool.{cases_eq}
use Rattle.std.proofs.lemmas.Bool.Decides.{nat_tests}
use Rattle.sig_base.specs.Counts.{Rose}
use Rattle.sig_outside.specs.Told.{Grew}
use Rattle.signed_views.specs.Handing.{Pair, EachGrew, CountsStand, RoseAt}
use Rattle.std.proofs.lemmas.List.{take_more, append-nil, get_or-map, length-map, take_all}
use Rattle.std.proofs.lemmas.Slice.Zip.{get_or-zip, length-zip}
use Rattle.std.proofs.lemmas.Option.{get_or_from_slice_get}
use Rattle.signed_views.specs.Handing.{pairs_of}
use Rattle.signed_views.specs.Given.{up_to}
use Rattle.signed_views.specs.Code.Given.{before_place, first_views}

pub grew_then : {A : Type 0} (a b c : Option (List A)) (xs ys : List A) → Grew a b xs → Grew b c ys → Grew a c (xs ++ ys)
grew_then a b c xs ys p q = λ told e. q (told ++ xs) (p told e) ∙ ap Some (append_assoc told xs ys)

-- a value that was read at a place is there under each default
pub read_at : {K : Type 0} (xs : List K) (i : ℕ) (x d : K) → i < length xs → x ≡ get_or xs i x → get_or xs i d ≡ x
read_at xs i x d lt e = get_or_default xs i d x lt ∙ sym e

-- one keeper is given a piece more
pub each_grew_at : {K : Type 0} (pairs : K → Option (List Pair)) (before after : ℕ → List Pair) (old new : List K) (i : ℕ) (x y : K) (piece : List Pair) → EachGrew pairs before old new → i < length old → x ≡ get_or new i x → Grew (pairs x) (pairs y) piece → after i ≡ before i ++ piece → ((k : ℕ) → k ≢ i → after k ≡ before k) → EachGrew pairs after old (set new i y)
each_grew_at {K} pairs before after old new i x y piece grew within read took here others =
    let lt : i < length new = omega (arith, grew.number) in
    let at_place : (d : K) → Grew (pairs (get_or old i d)) (pairs (get_or (set new i y) i d)) (after i) =
    λ d. rw (get_or-set_same new i y d lt, here)
    (grew_then (pairs (get_or old i d)) (pairs x) (pairs y) (before i) piece
    (rw (← read_at new i x d lt read) (grew.each i d within)) took) in
    record {
      number = length-set new i y ∙ grew.number;
      each = λ k d klt. elim (cases_eq k i) [
        | inl e ↦ let P : ℕ → Type 0 = λ n. Grew (pairs (get_or old n d)) (pairs (get_or (set new i y) n d)) (after n) in subst P (sym e) (at_place d)
        | inr ne ↦ rw (get_or-set_other new i k y d ne, others k ne) (grew.each k d klt)
      ];
    }

-- the list grows in two steps
pub each_grew_then : {K : Type 0} (pairs : K → Option (List Pair)) (first second both : ℕ → List Pair) (old mid new : List K) → EachGrew pairs first old mid → EachGrew pairs second mid new → ((k : ℕ) → k < length old → both k ≡ first k ++ second k) → EachGrew pairs both old new
each_grew_then pairs first second both old mid new p q split = record {
  number = q.number ∙ p.number;
  each = λ k d lt. rw (split k lt) (grew_then (pairs (get_or old k d)) (pairs (get_or mid k d)) (pairs (get_or new k d)) (first k) (second k) (p.each k d lt) (q.each k d (omega (arith, p.number))));
}

-- the same lists where there are keepers
pub each_grew_same : {K : Type 0} (pairs : K → Option (List Pair)) (before after : ℕ → List Pair) (old new : List K) → EachGrew pairs before old new → ((k : ℕ) → k < length old → after k ≡ before k) → EachGrew pairs after old new
each_grew_same pairs before after old new grew same = record {
  number = grew.number;
  each = λ k d lt. rw (same k lt) (grew.each k d lt);
}

-- one keeper's count stays or rises
pub counts_at : {K : Type 0} (faults : K → ℕ) (old new : List K) (i : ℕ) (x y : K) → CountsStand faults old new → length new ≡ length old → i < length old → x ≡ get_or new i x → faults x ≤ faults y → CountsStand faults old (set new i y)
counts_at {K} faults old new i x y stand same within read le = λ k d klt.
    let lt : i < length new = omega arith in
    elim (cases_eq k i) [
      | inl e ↦ let P : ℕ → Type 0 = λ n. faults (get_or old n d) ≤ faults (get_or (set new i y) n d) in
          subst P (sym e) (rw (get_or-set_same new i y d lt) (let was : faults (get_or old i d) ≤ faults x = rw (← read_at new i x d lt read) (stand i d within) in omega arith))
      | inr ne ↦ rw (get_or-set_other new i k y d ne) (stand k d klt)
    ]

pub counts_then : {K : Type 0} (faults : K → ℕ) (old mid new : List K) → CountsStand faults old mid → CountsStand faults mid new → length mid ≡ length old → CountsStand faults old new
counts_then faults old mid new p q same = λ k d lt. omega (arith, p k d lt, q k d (omega arith))

-- a rise behind a first step is a rise from the start
pub rose_then : {K : Type 0} (faults : K → ℕ) (place : ℕ) (old mid new : List K) → CountsStand faults old mid → RoseAt faults place mid new → length mid ≡ length old → RoseAt faults place old new
rose_then faults place old mid new p q same = record {
  within = omega (arith, q.within);
  rose = λ d. omega (arith, p place d (omega (arith, q.within)), q.rose d);
}

-- from a keeper's place on, and before it
pub given_here : (pair : Pair) (i : ℕ) → before_place pair (i + 1) i ≡ before_place pair i i ++ pair ∷ []
given_here pair i = grind (arith, nat_tests)

pub given_stays : (pair : Pair) (i k : ℕ) → k ≢ i → before_place pair (i + 1) k ≡ before_place pair i k
given_stays pair i k ne = grind (arith, nat_tests)

pub given_all : (pair : Pair) (n k : ℕ) → k < n → pair ∷ [] ≡ before_place pair n k
given_all pair n k lt = grind (arith, nat_tests)

-- the pair at an index is the name there with the view there
pub pair_at : (names views : List (List ℕ)) (i : ℕ) (name view text bytes : List ℕ) → length names ≡ length views → i < length names → Some name ≡ slice_get names i → Some view ≡ slice_get views i → text ≡ encode_utf8_all name → bytes ≡ view → take (i + 1) (pairs_of names views) ≡ take i (pairs_of names views) ++ (text, bytes) ∷ []
pair_at names views i name view text bytes same lt n v t b =
    let pair : Pair = (encode_utf8_all name, view) in
    let texts : List (List ℕ) = map encode_utf8_all names in
    let long : length texts ≡ length names = length-map names encode_utf8_all in
    let both : length (zip texts views) ≡ min (length texts) (length views) = length-zip texts views in
    let gn : get_or names i name ≡ name = get_or_from_slice_get names i name name (sym n) in
    let gv : get_or views i view ≡ view = get_or_from_slice_get views i view view (sym v) in
    let gm : get_or texts i (encode_utf8_all name) ≡ encode_utf8_all (get_or names i name) = get_or-map encode_utf8_all names i name (encode_utf8_all name) lt in
    let gz : get_or (zip texts views) i pair ≡ (get_or texts i (encode_utf8_all name), get_or views i view) = get_or-zip texts views i pair (omega arith) (omega arith) in
    let e : get_or (zip texts views) i pair ≡ pair = rw (gz, gm, gn, gv) refl in
    rw (t, b) (take_more (zip texts views) i pair (omega arith) ∙ ap (λ p. take i (zip texts views) ++ p ∷ []) e)

up_to_by : (all : List Pair) (pair : Pair) (i : ℕ) (b : Bool) → take (i + 1) all ≡ take i all ++ pair ∷ [] → take (cond b (i + 1) (i + 1 - 1)) all ≡ take i all ++ cond b (pair ∷ []) []
up_to_by all pair i true next = next
up_to_by all pair i false next = let e : i + 1 - 1 ≡ i = omega arith in rw (e, append-nil) refl

-- the views before the last, and the last for the keepers before a place
pub up_to_next : (all : List Pair) (pair : Pair) (i place k : ℕ) → take (i + 1) all ≡ take i all ++ pair ∷ [] → up_to all (i + 1) (place + 1) k ≡ first_views all i k ++ before_place pair place k
up_to_next all pair i place k next =
    let e : nat_lt (k + 1) (place + 1) ≡ nat_lt k place = grind (arith, nat_tests) in
    rw e (up_to_by all pair i (nat_lt k place) next)

-- all of the pairs, behind the last index
pub all_views : (names views : List (List ℕ)) (n k : ℕ) → length names ≡ length views → length names ≤ n → pairs_of names views ≡ first_views (pairs_of names views) n k
all_views names views n k same le =
    let long = length-map names encode_utf8_all in
    let both = length-zip (map encode_utf8_all names) views in
    sym (take_all n (pairs_of names views) (omega arith))

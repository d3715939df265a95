-- Steps of bringing the keepers that stood to the front, each by a swap.
use Rattle.std.proofs.Common.{◌≡◌, ◌≢◌, ◌<◌, ◌≤◌, ◌++◌, ◌∙◌, ap, sym, subst, refl, ℕ, List, length, take, get_or, arith, ◌+◌, [], ◌∷◌, zip, inl, inr, set, get_or-set_other}
use Rattle.std.proofs.lemmas.List.{take_more, take-set, take-set-le, take_more_set, take_all, append-nil, map-append, length-set, get_or_default}
use Rattle.std.proofs.lemmas.List.Elements.{filter-append}
use Rattle.std.proofs.lemmas.List.Edits.{swap_is}
use Rattle.std.proofs.lemmas.Slice.Zip.{get_or-zip, length-zip}
use Rattle.std.proofs.lemmas.Bool.{cases_eq}
use Rattle.std.specs.List.{swap}
use Rattle.signed_views.specs.Stood.{stood, stood_of}

-- those that stood so far are in front, and from the place on all are as before
pub record StoodSoFar {K : Type 0} (faults : K → ℕ) (before : List ℕ) (old now : List K) (kept place : ℕ) : Type 0 where
  pub number : length now ≡ length old
  pub within : kept ≤ place
  pub front : take kept now ≡ stood faults (take place (zip old before))
  pub rest : (k : ℕ) (d : K) → place ≤ k → k < length old → get_or now k d ≡ get_or old k d

-- the keeper and the count at the place join those that were seen
next_pair : {K : Type 0} (old : List K) (before : List ℕ) (i : ℕ) (x : K) (c : ℕ) → length old ≡ length before → i < length old → get_or old i x ≡ x → get_or before i c ≡ c
    → take (i + 1) (zip old before) ≡ take i (zip old before) ++ (x, c) ∷ []
next_pair old before i x c same lt ex ec =
    let long = length-zip old before in
    let e : get_or (zip old before) i (x, c) ≡ (x, c) = rw (get_or-zip old before i (x, c) lt (omega (arith, same, lt)), ex, ec) refl in
    take_more (zip old before) i (x, c) (omega (arith, long, same, lt)) ∙ ap (λ p. take i (zip old before) ++ p ∷ []) e

stood_more : {K : Type 0} (faults : K → ℕ) (pairs : List (K × ℕ)) (x : K) (c : ℕ) → faults x ≡ c → stood faults (pairs ++ (x, c) ∷ []) ≡ stood faults pairs ++ x ∷ []
stood_more faults pairs x c e = grind (arith, filter-append, map-append)

stood_still : {K : Type 0} (faults : K → ℕ) (pairs : List (K × ℕ)) (x : K) (c : ℕ) → faults x ≢ c → stood faults (pairs ++ (x, c) ∷ []) ≡ stood faults pairs
stood_still faults pairs x c e = grind (arith, filter-append, map-append, append-nil)

-- the front after a swap of the place behind it with a later one, or the same
front_swapped : {K : Type 0} (now : List K) (kept i : ℕ) (x : K) → kept ≤ i → i < length now → get_or now i x ≡ x → take (kept + 1) (set (set now kept (get_or now i x)) i (get_or now kept x)) ≡ take kept now ++ x ∷ []
front_swapped now kept i x le lt read = elim (cases_eq kept i) [
  | inl e ↦ rw (e, take_more_set (set now i (get_or now i x)) i (get_or now i x) (omega (arith, length-set now i (get_or now i x), lt)), take-set now i (get_or now i x), read) refl
  | inr ne ↦ rw (take-set-le (kept + 1) (set now kept (get_or now i x)) i (get_or now kept x) (omega (arith, le, ne)), take_more_set now kept (get_or now i x) (omega (arith, le, lt)), read) refl
]

-- a keeper that stood comes to the front
pub stood_kept : {K : Type 0} (faults : K → ℕ) (before : List ℕ) (old now : List K) (kept i : ℕ) (x : K) → StoodSoFar faults before old now kept i → length old ≡ length before → i < length old → x ≡ get_or now i x → faults x ≡ get_or before i 0 → StoodSoFar faults before old (swap now kept i) (kept + 1) (i + 1)
stood_kept {K} faults before old now kept i x so same lt read stands =
    let c = get_or before i 0 in
    let ec : get_or before i c ≡ c = get_or_default before i c 0 (omega (arith, same, lt)) in
    let number = so.number in
    let within = so.within in
    let lt_now : i < length now = omega (arith, number, lt) in
    let ex : get_or old i x ≡ x = sym (so.rest i x (omega arith) lt) ∙ sym read in
    let e : set (set now kept (get_or now i x)) i (get_or now kept x) ≡ swap now kept i = swap_is now kept i x (omega (arith, within, lt_now)) lt_now in
    subst (λ l. StoodSoFar faults before old l (kept + 1) (i + 1)) e (record {
      number = length-set (set now kept (get_or now i x)) i (get_or now kept x) ∙ length-set now kept (get_or now i x) ∙ number;
      within = omega (arith, within);
      front = front_swapped now kept i x within lt_now (sym read)
          ∙ ap (λ l. l ++ x ∷ []) so.front
          ∙ sym (stood_more faults (take i (zip old before)) x c stands)
          ∙ ap (stood faults) (sym (next_pair old before i x c same lt ex ec));
      rest = λ k d le klt. get_or-set_other (set now kept (get_or now i x)) i k (get_or now kept x) d (omega (arith, le))
          ∙ get_or-set_other now kept k (get_or now i x) d (omega (arith, le, within))
          ∙ so.rest k d (omega (arith, le)) klt;
    })

-- one that failed stays where it is
pub stood_left : {K : Type 0} (faults : K → ℕ) (before : List ℕ) (old now : List K) (kept i : ℕ) (x : K) → StoodSoFar faults before old now kept i → length old ≡ length before → i < length old → x ≡ get_or now i x → faults x ≢ get_or before i 0 → StoodSoFar faults before old now kept (i + 1)
stood_left {K} faults before old now kept i x so same lt read fell =
    let c = get_or before i 0 in
    let ec : get_or before i c ≡ c = get_or_default before i c 0 (omega (arith, same, lt)) in
    let within = so.within in
    let ex : get_or old i x ≡ x = sym (so.rest i x (omega arith) lt) ∙ sym read in
    record {
      number = so.number;
      within = omega (arith, within);
      front = so.front
          ∙ sym (stood_still faults (take i (zip old before)) x c fell)
          ∙ ap (stood faults) (sym (next_pair old before i x c same lt ex ec));
      rest = λ k d le klt. so.rest k d (omega (arith, le)) klt;
    }

pub stood_at_start : {K : Type 0} (faults : K → ℕ) (before : List ℕ) (old : List K) → StoodSoFar faults before old old 0 0
stood_at_start faults before old = record { number = refl; within = omega arith; front = refl; rest = λ k d le lt. refl }

-- behind the last place, those in front are all that stood
pub stood_all : {K : Type 0} (faults : K → ℕ) (before : List ℕ) (old now : List K) (kept i : ℕ) → StoodSoFar faults before old now kept i → length old ≤ i → take kept now ≡ stood_of faults old before
stood_all faults before old now kept i so le =
    let long = length-zip old before in
    so.front ∙ ap (stood faults) (take_all i (zip old before) (omega (arith, long, le)))

-- The first line that is refused decides.
use Rattle.std.proofs.Common.{◌≡◌, ℕ, ◌+◌, ◌<◌, List, [], ◌∷◌, ◌++◌, length, take, get_or, Option, Some, None, Result, Ok, Err, refl, sym, ap, ◌∙◌, arith, append_assoc, append-nil, length-append, inl, inr}
use Rattle.std.proofs.Math.Seq.{get_or-append_seam}
use Rattle.std.proofs.lemmas.Bool.{cases_Bool, cases_lt}
use Rattle.std.proofs.lemmas.List.{take_at}
use Rattle.std.specs.Str.{is_utf8}
use Rattle.sig_base.specs.Outcomes.{and_then}
use Rattle.sig_base.specs.Lines.{file_read, is_skipped, line_by, lines_of, lines_read}
use Rattle.sig_base.specs.LineFaults.{spelled_by, fault_by, spelled_in, fault_at, Decides, FileDecides}

-- what a line comes to agrees with its fault, and with the entries that are then had
abbrev pub Agrees : {E F : Type 0} → Option F → Result (List E) F → List E → Type 0
Agrees None outcome entries = outcome ≡ Ok entries
Agrees (Some fault) outcome entries = outcome ≡ Err fault

-- where it does for a line that spells an entry
pub line_agrees : {E F : Type 0} (bad : F) (line : List ℕ) (had others : List E) (fault : Option F) (other : Result (List E) F)
    → Agrees fault other (had ++ others) → Agrees (fault_by bad line fault) (line_by bad line had other) (had ++ spelled_by line others)
line_agrees bad line had others fault other agrees = elim (cases_Bool (is_utf8 line)) [
  | inr not_text ↦ rw not_text refl
  | inl text ↦ elim (cases_Bool (is_skipped line)) [
    | inl skipped ↦ rw (text, skipped, append-nil) refl
    | inr spells ↦ rw (text, spells) agrees
  ]
]

module _ {E F : Type 0} (spells : ℕ → List ℕ → List E) (fault_of : ℕ → List ℕ → List E → Option F)
    (read : ℕ → List ℕ → List E → Result (List E) F)
    (agrees : (number : ℕ) (line : List ℕ) (had : List E) → Agrees (fault_of number line had) (read number line had) (had ++ spells number line)) where
  spelled-append : (number : ℕ) (xs ys : List (List ℕ))
      → spelled_in spells number (xs ++ ys) ≡ spelled_in spells number xs ++ spelled_in spells (number + length xs) ys
  unfolding spelled_in
  spelled-append number [] ys = let same : number + 0 ≡ number = omega arith in rw same refl
  spelled-append number (x ∷ xs) ys =
      let place : number + 1 + length xs ≡ number + length (x ∷ xs) = omega arith in
      ap (λ (t : List E). spells number x ++ t) (rw place at (spelled-append (number + 1) xs ys))
      ∙ sym (append_assoc (spells number x) (spelled_in spells (number + 1) xs) (spelled_in spells (number + length (x ∷ xs)) ys))

  -- the entries with those of one line more
  spelled-more : (done : List (List ℕ)) (line : List ℕ)
      → spelled_in spells 1 (done ++ line ∷ []) ≡ spelled_in spells 1 done ++ spells (length done + 1) line
  unfolding spelled_in
  spelled-more done line =
      let place : 1 + length done ≡ length done + 1 = omega arith in
      rw (place, append-nil) at (spelled-append 1 done (line ∷ []))

  -- the line behind the first ones, and its fault
  fault-here : (done : List (List ℕ)) (line : List ℕ) (rest : List (List ℕ))
      → fault_at spells fault_of (done ++ line ∷ rest) (length done) ≡ fault_of (length done + 1) line (spelled_in spells 1 done)
  fault-here done line rest =
      let here : get_or (done ++ line ∷ rest) (length done) [] ≡ line = get_or-append_seam done line rest [] in
      let before : take (length done) (done ++ line ∷ rest) ≡ done = take_at done (line ∷ rest) (length done) refl in
      rw (here, before) refl

  -- one line more without a fault
  next-none : (done : List (List ℕ)) (line : List ℕ) (rest : List (List ℕ))
      → ((k : ℕ) → k < length done → fault_at spells fault_of (done ++ line ∷ rest) k ≡ None)
      → fault_of (length done + 1) line (spelled_in spells 1 done) ≡ None
      → (k : ℕ) → k < length (done ++ line ∷ []) → fault_at spells fault_of ((done ++ line ∷ []) ++ rest) k ≡ None
  next-none done line rest none this k h =
      let joined : (done ++ line ∷ []) ++ rest ≡ done ++ line ∷ rest = append_assoc done (line ∷ []) rest in
      let count = length-append done (line ∷ []) in
      rw joined (elim (cases_lt k (length done)) [
        | inl before ↦ none k before
        | inr not_before ↦
            let here : k ≡ length done = omega arith in
            rw here (fault-here done line rest ∙ this)
      ])

  -- what the line behind the first ones does, given what those behind it do
  decides-line : (done : List (List ℕ)) (line : List ℕ) (rest : List (List ℕ))
      → ((k : ℕ) → k < length done → fault_at spells fault_of (done ++ line ∷ rest) k ≡ None)
      → (((k : ℕ) → k < length (done ++ line ∷ []) → fault_at spells fault_of ((done ++ line ∷ []) ++ rest) k ≡ None)
      → Decides spells fault_of ((done ++ line ∷ []) ++ rest)
      (lines_read read (length (done ++ line ∷ []) + 1) rest (spelled_in spells 1 (done ++ line ∷ []))))
      → (fault : Option F) → fault_of (length done + 1) line (spelled_in spells 1 done) ≡ fault
      → (outcome : Result (List E) F) → Agrees fault outcome (spelled_in spells 1 done ++ spells (length done + 1) line)
      → Decides spells fault_of (done ++ line ∷ rest) (and_then outcome (lines_read read (length done + 1 + 1) rest))
  decides-line done line rest none next (Some fault) this outcome agrees =
      let count = length-append done (line ∷ rest) in
      rw agrees (record { at = length done; within = omega arith; none_before = none; fault_is = fault-here done line rest ∙ this })
  decides-line done line rest none next None this outcome agrees =
      let joined : (done ++ line ∷ []) ++ rest ≡ done ++ line ∷ rest = append_assoc done (line ∷ []) rest in
      let count : length (done ++ line ∷ []) ≡ length done + 1 = length-append done (line ∷ []) in
      let read = rw (joined, count, spelled-more done line) at (next (next-none done line rest none this)) in
      rw agrees read

  decides-from : (done rest : List (List ℕ)) → ((k : ℕ) → k < length done → fault_at spells fault_of (done ++ rest) k ≡ None)
      → Decides spells fault_of (done ++ rest) (lines_read read (length done + 1) rest (spelled_in spells 1 done))
  unfolding lines_read
  decides-from done [] none = rw append-nil (record { no_fault = rw append-nil at none; entries_are = refl })
  decides-from done (line ∷ rest) none =
      decides-line done line rest none (decides-from (done ++ line ∷ []) rest)
      (fault_of (length done + 1) line (spelled_in spells 1 done)) refl
      (read (length done + 1) line (spelled_in spells 1 done)) (agrees (length done + 1) line (spelled_in spells 1 done))

  -- the first line that is refused decides
  pub file_decides : (file : List ℕ) → FileDecides spells fault_of file (file_read read [] file)
  unfolding spelled_in
  file_decides file = record { by = decides-from [] (lines_of file) (λ k h. absurd (omega arith)) }

-- Members that are packed into words.
use Rattle.std.proofs.Common.{◌≡◌, ◌≢◌, ℕ, ◌<◌, ◌≤◌, ◌+◌, ◌*◌, ◌/◌, ◌%◌, ◌^◌, ◌==◌, ◌||◌, ◌&&◌, Bool, true, false, List, length, get_or, set, replicate, refl, ap, sym, ◌∙◌, arith, inl, inr, w64, bit_or, bit_and, bit_xor, max, min, not, nat_lt, nat_le, get_or-set_same, get_or-set_other}
use Rattle.std.specs.Int.{bit_at, bit_not}
use Rattle.std.proofs.lemmas.Bool.Decides.{nat_tests}
use Rattle.std.proofs.lemmas.Bool.{cases_lt, cases_eq, lt-ltb, le-ltb, le-leb, eq-eqb, ne_eqb}
use Rattle.std.proofs.lemmas.List.{get_or_past, get_or-replicate}
use Rattle.std.proofs.lemmas.Grind.{get_or_default_zero}
use Rattle.std.proofs.lemmas.List.FromFn.{get_or-map-range_with_len, length-map-range_with_len}
use Rattle.std.proofs.lemmas.Nat.Bits.{bit_at-zero, bit_at_set_same, bit_at_set_other, bit_at_clear_same, bit_at_clear_other, shr_and_one, bit_at_or, bit_at_and, bit_at_xor, bit_at-lt}
use Rattle.node_sets.specs.Members.{has}
use Rattle.node_sets.specs.Words.{bit_of, bits_of}

pub length-bits_of : (words : List ℕ) (size : ℕ) → length (bits_of words size) ≡ size
length-bits_of words size = length-map-range_with_len (bit_of words) 0 size

-- past the end there is no member
pub has-bits_of : (words : List ℕ) (size k : ℕ) → has (bits_of words size) k ≡ (nat_lt k size && bit_of words k)
has-bits_of words size k = elim (cases_lt k size) [
  | inl h ↦ rw (lt-ltb k size h) (get_or-map-range_with_len (bit_of words) 0 size k k false h (omega arith))
  | inr h ↦ rw (le-ltb k size h) (get_or_past (bits_of words size) k false (let l = length-bits_of words size in omega arith))
]

-- the bit of a word by shifting
has_by_shift_at : (words : List ℕ) (size i w : ℕ) → i < size → w ≡ get_or words (i / 64) 0 → (bit_and (w / 2 ^ (i % 64)) 1 == 1) ≡ has (bits_of words size) i
has_by_shift_at words size i w h e =
    ap (λ t. t == 1) (shr_and_one w (i % 64) ∙ ap (λ t. bit_at t (i % 64)) e)
    ∙ sym (has-bits_of words size i ∙ ap (λ t. t && bit_of words i) (lt-ltb i size h))

-- the word of a number
pub within_words : (size i n : ℕ) → i < size → n ≡ size / 64 + 1 → i / 64 < n
within_words size i n h e = omega arith

-- a test that holds at i alone, beside another, below the size
below_or : (size i k : ℕ) (b : Bool) → i < size → (nat_lt k size && ((k == i) || b)) ≡ ((k == i) || (nat_lt k size && b))
below_or size i k b h = elim (cases_eq k i) [
  | inl e ↦ rw (e, eq-eqb i i refl, lt-ltb i size h)
  | inr ne ↦ rw (ne_eqb k i ne)
]

-- a word with a bit set
bit_set : List ℕ → ℕ → ℕ
bit_set words i = bit_or (get_or words (i / 64) 0) (1 * 2 ^ (i % 64) % 2 ^ 64)

same_bit : (words : List ℕ) (i : ℕ) → i / 64 < length words → bit_of (set words (i / 64) (bit_set words i)) i ≡ true
unfolding bit_set
same_bit words i h = rw get_or-set_same (eq-eqb _ 1 (bit_at_set_same w64 (get_or words (i / 64) 0) (i % 64) (omega arith)))

other_bit : (words : List ℕ) (i k : ℕ) → i / 64 < length words → k ≢ i → bit_of (set words (i / 64) (bit_set words i)) k ≡ bit_of words k
unfolding bit_set
other_bit words i k h ne = elim (cases_eq (k / 64) (i / 64)) [
  | inl same ↦
      let r : k % 64 ≢ i % 64 = λ e. ne (omega arith) in
      rw (same, get_or-set_same) (ap (λ t. t == 1) (bit_at_set_other w64 (get_or words (i / 64) 0) (i % 64) (omega arith) (k % 64) r))
  | inr other ↦ rw get_or-set_other refl
]

pub bit_of-set : (words : List ℕ) (i k : ℕ) → i / 64 < length words → bit_of (set words (i / 64) (bit_or (get_or words (i / 64) 0) (1 * 2 ^ (i % 64) % 2 ^ 64))) k ≡ ((k == i) || bit_of words k)
unfolding bit_set
bit_of-set words i k h = elim (cases_eq k i) [
  | inl e ↦ rw (e, eq-eqb i i refl) (same_bit words i h)
  | inr ne ↦ rw (ne_eqb k i ne) (other_bit words i k h ne)
]

-- the members with one more
pub has-set : (words : List ℕ) (size i k : ℕ) → i < size → length words ≡ size / 64 + 1 → has (bits_of (set words (i / 64) (bit_or (get_or words (i / 64) 0) (1 * 2 ^ (i % 64) % 2 ^ 64))) size) k ≡ ((k == i) || has (bits_of words size) k)
has-set words size i k h l =
    has-bits_of _ size k
    ∙ ap (λ t. nat_lt k size && t) (bit_of-set words i k (within_words size i (length words) h l))
    ∙ below_or size i k (bit_of words k) h
    ∙ ap (λ t. (k == i) || t) (sym (has-bits_of words size k))

-- the members with one less
below_and : (size i k : ℕ) (b : Bool) → (nat_lt k size && (not (k == i) && b)) ≡ (not (k == i) && (nat_lt k size && b))
below_and size i k b = swap (nat_lt k size) (not (k == i))
  where
    swap : (x y : Bool) → (x && (y && b)) ≡ (y && (x && b))
    swap true true = refl
    swap true false = refl
    swap false true = refl
    swap false false = refl

-- a word with a bit cleared
bit_cleared : List ℕ → ℕ → ℕ
bit_cleared words i = bit_and (get_or words (i / 64) 0) (bit_not w64 (1 * 2 ^ (i % 64) % 2 ^ 64))

same_cleared : (words : List ℕ) (i : ℕ) → i / 64 < length words → bit_of (set words (i / 64) (bit_cleared words i)) i ≡ false
unfolding bit_cleared
same_cleared words i h = rw get_or-set_same (ap (λ t. t == 1) (bit_at_clear_same w64 (get_or words (i / 64) 0) (i % 64) (omega arith)))

other_cleared : (words : List ℕ) (i k : ℕ) → i / 64 < length words → k ≢ i → bit_of (set words (i / 64) (bit_cleared words i)) k ≡ bit_of words k
unfolding bit_cleared
other_cleared words i k h ne = elim (cases_eq (k / 64) (i / 64)) [
  | inl same ↦
      let r : k % 64 ≢ i % 64 = λ e. ne (omega arith) in
      rw (same, get_or-set_same) (ap (λ t. t == 1) (bit_at_clear_other w64 (get_or words (i / 64) 0) (i % 64) (omega arith) (k % 64) (omega arith) r))
  | inr other ↦ rw get_or-set_other refl
]

bit_of-clear : (words : List ℕ) (i k : ℕ) → i / 64 < length words → bit_of (set words (i / 64) (bit_and (get_or words (i / 64) 0) (bit_not w64 (1 * 2 ^ (i % 64) % 2 ^ 64)))) k ≡ (not (k == i) && bit_of words k)
unfolding bit_cleared
bit_of-clear words i k h = elim (cases_eq k i) [
  | inl e ↦ rw (e, eq-eqb i i refl) (same_cleared words i h)
  | inr ne ↦ rw (ne_eqb k i ne) (other_cleared words i k h ne)
]

has-clear : (words : List ℕ) (size i k : ℕ) → i < size → length words ≡ size / 64 + 1 → has (bits_of (set words (i / 64) (bit_and (get_or words (i / 64) 0) (bit_not w64 (1 * 2 ^ (i % 64) % 2 ^ 64)))) size) k ≡ (not (k == i) && has (bits_of words size) k)
has-clear words size i k h l =
    has-bits_of _ size k
    ∙ ap (λ t. nat_lt k size && t) (bit_of-clear words i k (within_words size i (length words) h l))
    ∙ below_and size i k (bit_of words k)
    ∙ ap (λ t. not (k == i) && t) (sym (has-bits_of words size k))

-- the bits of two words, joined by a test
either_bit : (x y : ℕ) → x < 2 → y < 2 → (max x y == 1) ≡ ((x == 1) || (y == 1))
either_bit x y h l = grind (arith, nat_tests)

both_bits : (x y : ℕ) → x < 2 → y < 2 → (min x y == 1) ≡ ((x == 1) && (y == 1))
both_bits x y h l = grind (arith, nat_tests)

first_bit_alone : (x y : ℕ) → x < 2 → y < 2 → ((x + min x y) % 2 == 1) ≡ ((x == 1) && not (y == 1))
first_bit_alone x y h l = grind (arith, nat_tests)

-- what two words make where each bit of it is a test of their bits
abbrev pub Joins : (test : Bool → Bool → Bool) (w x y : ℕ) → Type 0
Joins test w x y = (i : ℕ) → (bit_at w i == 1) ≡ test (bit_at x i == 1) (bit_at y i == 1)

abbrev pub minus : Bool → Bool → Bool
minus a b = a && not b

pub joins-or : (w x y : ℕ) → w ≡ bit_or x y → Joins (λ a b. a || b) w x y
joins-or w x y e = λ i. ap (λ t. bit_at t i == 1) e ∙ ap (λ t. t == 1) (bit_at_or x y i) ∙ either_bit (bit_at x i) (bit_at y i) (bit_at-lt x i) (bit_at-lt y i)

pub joins-and : (w x y : ℕ) → w ≡ bit_and x y → Joins (λ a b. a && b) w x y
joins-and w x y e = λ i. ap (λ t. bit_at t i == 1) e ∙ ap (λ t. t == 1) (bit_at_and x y i) ∙ both_bits (bit_at x i) (bit_at y i) (bit_at-lt x i) (bit_at-lt y i)

pub joins-clear : (w x y : ℕ) → w ≡ bit_xor x (bit_and x y) → Joins minus w x y
joins-clear w x y e = λ i.
    ap (λ t. bit_at t i == 1) e
    ∙ ap (λ t. t == 1) (bit_at_xor x (bit_and x y) i ∙ ap (λ t. (bit_at x i + t) % 2) (bit_at_and x y i))
    ∙ first_bit_alone (bit_at x i) (bit_at y i) (bit_at-lt x i) (bit_at-lt y i)

-- numbers past the end have no part in a test that fails of nothing
past_join : (test : Bool → Bool → Bool) → test false false ≡ false → (l a b : Bool) → (l && test a b) ≡ test (l && a) (l && b)
past_join test none true a b = refl
past_join test none false a b = sym none

or_false : (b : Bool) → (b || false) ≡ b
or_false true = refl
or_false false = refl

-- ---- the same of a set whose fields these are, as the code reads and writes it
module _ (words : List ℕ) (size : ℕ) (members : List Bool) (view : bits_of words size ≡ members) (enough : length words ≡ size / 64 + 1) where
  pub size_is : length members ≡ size
  size_is = ap length (sym view) ∙ length-bits_of words size

  within_items : (i : ℕ) → i < length members → i / 64 < length words
  within_items i h = within_words size i (length words) (let e = size_is in omega arith) enough

  pub within_of : (n i : ℕ) → n ≡ length words → i < length members → i / 64 < n
  within_of n i e h = rw e (within_items i h)

  -- w is the word of i
  pub has_by_shift : (i w : ℕ) → i < size → w ≡ get_or words (i / 64) w → (bit_and (w / 2 ^ (i % 64)) 1 == 1) ≡ has members i
  has_by_shift i w h e = has_by_shift_at words size i w h (e ∙ get_or_default_zero words (i / 64) w (within_words size i (length words) h enough)) ∙ ap (λ t. has t i) view

  pub has_past : (i : ℕ) → (i < size → ⊥) → nat_lt i size ≡ has members i
  has_past i h = let l : size ≤ i = omega arith in ap (λ t. t) (le-ltb i size l) ∙ sym (get_or_past members i false (let e = size_is in omega arith))

  pub has_after_set : (i w : ℕ) → i < length members → w ≡ get_or words (i / 64) w → (k : ℕ) → has (bits_of (set words (i / 64) (bit_or w (1 * 2 ^ (i % 64) % 2 ^ 64))) size) k ≡ ((k == i) || has members k)
  has_after_set i w h e k =
      let f : w ≡ get_or words (i / 64) 0 = e ∙ get_or_default_zero words (i / 64) w (within_items i h) in
      let l : i < size = let g = size_is in omega arith in
      rw f (has-set words size i k l enough) ∙ ap (λ t. (k == i) || has t k) view

  pub has_after_clear : (i w : ℕ) → i < length members → w ≡ get_or words (i / 64) w → (k : ℕ) → has (bits_of (set words (i / 64) (bit_and w (bit_not w64 (1 * 2 ^ (i % 64) % 2 ^ 64)))) size) k ≡ (not (k == i) && has members k)
  has_after_clear i w h e k =
      let f : w ≡ get_or words (i / 64) 0 = e ∙ get_or_default_zero words (i / 64) w (within_items i h) in
      let l : i < size = let g = size_is in omega arith in
      rw f (has-clear words size i k l enough) ∙ ap (λ t. not (k == i) && has t k) view

  -- the words of one set, joined with those of another
  pub has_after_join : (test : Bool → Bool → Bool) → test false false ≡ false → (others new : List ℕ) (m : List Bool) → bits_of others size ≡ m → ((q : ℕ) → Joins test (get_or new q 0) (get_or words q 0) (get_or others q 0)) → (k : ℕ) → has (bits_of new size) k ≡ test (has members k) (has m k)
  has_after_join test none others new m other each k =
      has-bits_of new size k
      ∙ ap (λ t. nat_lt k size && t) (each (k / 64) (k % 64))
      ∙ past_join test none (nat_lt k size) (bit_of words k) (bit_of others k)
      ∙ ap (λ t. test t (nat_lt k size && bit_of others k)) (sym (has-bits_of words size k) ∙ ap (λ t. has t k) view)
      ∙ ap (λ t. test (has members k) t) (sym (has-bits_of others size k) ∙ ap (λ t. has t k) other)

-- no member in words of zeros
pub has_in_zeros : (n size : ℕ) (words : List ℕ) → words ≡ replicate n 0 → size ≤ 64 * n → (k : ℕ) → has (bits_of words size) k ≡ false
has_in_zeros n size words e l k = has-bits_of words size k ∙ elim (cases_lt k size) [
  | inl h ↦
      let word : get_or words (k / 64) 0 ≡ 0 = ap (λ t. get_or t (k / 64) 0) e ∙ get_or-replicate n (k / 64) 0 0 (omega arith) in
      let bit : bit_of words k ≡ false = ap (λ t. bit_at t (k % 64) == 1) word ∙ ap (λ t. t == 1) (bit_at-zero (k % 64)) in
      rw (lt-ltb k size h) bit
  | inr h ↦ rw (le-ltb k size h)
]

-- ---- ranges of members
-- a range up to i, where i is its end
pub range_at_end : (from until i k : ℕ) → until ≤ i → i ≤ until → (nat_le from k && nat_lt k i) ≡ (nat_le from k && nat_lt k until)
range_at_end from until i k h l = let e : i ≡ until = omega arith in rw e

-- one number less of a range
pub range_without : (from i k : ℕ) (b : Bool) → from ≤ i
    → (not (k == i) && (b && not (nat_le from k && nat_lt k i))) ≡ (b && not (nat_le from k && nat_lt k (i + 1)))
range_without from i k b h = grind (arith, nat_tests)

-- all numbers below n, beside none
pub range_of_all : (n k : ℕ) (b : Bool) → b ≡ false → ((nat_le 0 k && nat_lt k n) || b) ≡ nat_lt k n
range_of_all n k b e = rw (e, le-leb 0 k (omega arith)) (or_false (nat_lt k n))

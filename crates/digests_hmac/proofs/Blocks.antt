use Rattle.std.proofs.Common.{◌≡◌, ℕ, ◌+◌, ◌-◌, ◌≤◌, ◌<◌, nat_lt, true, false, List, [], ◌∷◌, ◌++◌, map, get_or, bit_xor, take, length, replicate, sym, ap, ◌∙◌, arith, lt-ltb, le-ltb}
use Rattle.std.proofs.Math.Seq.{take-append-add}
use Rattle.std.proofs.lemmas.List.{take-replicate, take_more, take_more_set, take_all, map-append}
use Rattle.std.proofs.Math.ListN.{set}
use Rattle.sig_base.specs.declared.DigestMethod.{DigestMethod}
use Rattle.digests_hmac.specs.Hash.{hash, block_size, key_block, zero_filled, xored}

-- the front of a list that was filled to a greater length
pub take-zero_filled : (xs : List ℕ) (n m : ℕ) → length xs ≤ n → n ≤ m → take n (zero_filled m xs) ≡ zero_filled n xs
take-zero_filled xs n m h k =
    let sum : n ≡ length xs + (n - length xs) = omega arith in
    let start : take (length xs + (n - length xs)) (zero_filled m xs) ≡ xs ++ take (n - length xs) (replicate (m - length xs) 0) = take-append-add xs (replicate (m - length xs) 0) (n - length xs) in
    let zeros : take (n - length xs) (replicate (m - length xs) 0) ≡ replicate (n - length xs) 0 = take-replicate (n - length xs) (m - length xs) 0 (omega arith) in
    ap (λ (i : ℕ). take i (zero_filled m xs)) sum ∙ start ∙ ap (λ (t : List ℕ). xs ++ t) zeros

-- K0 of a long key, and of another
pub key_block-long : (method : DigestMethod) (key : List ℕ) → block_size method < length key → length (hash method key) ≤ block_size method → block_size method ≤ 128 → take (block_size method) (zero_filled 128 (hash method key)) ≡ key_block method key
key_block-long method key h k l =
    let long : nat_lt (block_size method) (length key) ≡ true = lt-ltb _ _ h in
    rw long (take-zero_filled (hash method key) (block_size method) 128 k l)

pub key_block-short : (method : DigestMethod) (key : List ℕ) → length key ≤ block_size method → block_size method ≤ 128 → take (block_size method) (zero_filled 128 key) ≡ key_block method key
key_block-short method key h l =
    let short : nat_lt (block_size method) (length key) ≡ false = le-ltb _ _ h in
    rw short (take-zero_filled key (block_size method) 128 h l)

-- a loop that changes a block octet by octet
pub xored-step : (pad : ℕ) (block changed : List ℕ) (i : ℕ) → i < length block → i < length changed → take i changed ≡ xored pad (take i block) → take (i + 1) (set changed i (bit_xor (get_or block i 0) pad)) ≡ xored pad (take (i + 1) block)
xored-step pad block changed i h k e =
    let f : ℕ → ℕ = λ octet. bit_xor octet pad in
    take_more_set changed i (bit_xor (get_or block i 0) pad) k ∙ ap (λ (t : List ℕ). t ++ (bit_xor (get_or block i 0) pad ∷ [])) e ∙ sym (map-append f (take i block) (get_or block i 0 ∷ [])) ∙ ap (map f) (sym (take_more block i 0 h))

pub xored-end : (pad : ℕ) (block changed : List ℕ) (i : ℕ) → length block ≤ i → length changed ≤ i → take i changed ≡ xored pad (take i block) → changed ≡ xored pad block
xored-end pad block changed i h k e = sym (take_all i changed k) ∙ e ∙ ap (xored pad) (take_all i block h)

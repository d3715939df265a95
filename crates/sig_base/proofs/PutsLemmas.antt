-- How calls that write to a sink join.
use Rattle.std.proofs.Common.{◌≡◌, ℕ, ◌+◌, List, [], ◌∷◌, ◌++◌, refl, sym, ap, ◌∙◌, subst, arith, append_assoc, append-nil, take, drop, get_or, length, ◌<◌}
use Rattle.std.specs.List.{flat_map}
use Rattle.std.proofs.lemmas.List.{take-append-drop, take_more}
use Rattle.std.proofs.lemmas.List.Concat.{flat_map-append}
use Rattle.sig_base.specs.declared.sink.Put.{Put}
use Rattle.sig_base.specs.declared.sink.Put.TheVariants.{Done, Refused}
use Rattle.sig_base.specs.Counts.{Rose}
use Rattle.sig_base.specs.Puts.{Appended, AppendedPrefix, Puts, PutsPiece}

-- the list begins with this one
pub record IsFront (xs all : List ℕ) : Type 0 where
  pub back : List ℕ
  pub joined : xs ++ back ≡ all

pub IsFront-all : (xs : List ℕ) → IsFront xs xs
IsFront-all xs = record { back = []; joined = append-nil xs }

pub IsFront-append : (xs ys zs : List ℕ) → IsFront xs ys → IsFront xs (ys ++ zs)
IsFront-append xs ys zs p = record { back = p.back ++ zs; joined = sym (append_assoc xs p.back zs) ∙ ap (λ (t : List ℕ). t ++ zs) p.joined }

pub IsFront-under : (pre xs ys : List ℕ) → IsFront xs ys → IsFront (pre ++ xs) (pre ++ ys)
IsFront-under pre xs ys p = record { back = p.back; joined = append_assoc pre xs p.back ∙ ap (λ (t : List ℕ). pre ++ t) p.joined }

pub IsFront-as : (xs ys all : List ℕ) → xs ≡ ys → IsFront ys all → IsFront xs all
IsFront-as xs ys all e p = let P : List ℕ → Type 0 = λ zs. IsFront zs all in subst P (sym e) p

module _ {S : Type 0} (stands_for : S → List ℕ → Type 0) (refusals : S → ℕ) (makes : S → List ℕ → List ℕ) where
  -- nothing was appended yet
  pub Appended-nil : (s : S) → Appended stands_for refusals makes s s []
  Appended-nil s = record { at = λ m h. rw append-nil h; later = omega arith; same = λ m. refl }

  -- one after the other
  pub Appended-then : {a b c : S} {xs ys : List ℕ} → Appended stands_for refusals makes a b xs → Appended stands_for refusals makes b c ys → Appended stands_for refusals makes a c (xs ++ ys)
  Appended-then {a} {b} {c} {xs} {ys} p q =
      record { at = λ m h. rw (← append_assoc m xs ys) (q.at (m ++ xs) (p.at m h)); later = omega (arith, p.later, q.later); same = λ m. q.same m ∙ p.same m }

  -- the octets, written otherwise
  pub Appended-as : {a b : S} {xs ys : List ℕ} → xs ≡ ys → Appended stands_for refusals makes a b xs → Appended stands_for refusals makes a b ys
  Appended-as {a} {b} {xs} {ys} e p = let P : List ℕ → Type 0 = λ zs. Appended stands_for refusals makes a b zs in subst P e p

  -- a refused call after octets were appended
  pub stopped : {a b c : S} {xs ys : List ℕ} (all : List ℕ) → Appended stands_for refusals makes a b xs → AppendedPrefix stands_for refusals makes b c ys → IsFront (xs ++ ys) all → Puts stands_for refusals makes a c all Refused
  stopped {a} {b} {c} {xs} {ys} all p q f = record {
    by = record {
      front = xs ++ q.front;
      back = q.back ++ f.back;
      joined = append_assoc xs q.front (q.back ++ f.back) ∙ ap (λ (t : List ℕ). xs ++ t) (sym (append_assoc q.front q.back f.back) ∙ ap (λ (t : List ℕ). t ++ f.back) q.joined) ∙ sym (append_assoc xs ys f.back) ∙ f.joined;
      appended = Appended-then p q.appended;
      rose = omega (arith, p.later, q.rose);
    };
  }

  -- a refused piece after octets were appended
  pub stopped_at_piece : {a b c : S} {xs : List ℕ} (all : List ℕ) → Appended stands_for refusals makes a b xs → Appended stands_for refusals makes b c [] × Rose (refusals b) (refusals c) → IsFront xs all → Puts stands_for refusals makes a c all Refused
  stopped_at_piece {a} {b} {c} {xs} all p q f = record {
    by = record {
      front = xs;
      back = f.back;
      joined = f.joined;
      appended = Appended-as (append-nil xs) (Appended-then p q.0);
      rose = omega (arith, p.later, q.1);
    };
  }

  -- all was appended
  pub ended : {a b : S} {xs : List ℕ} (all : List ℕ) → Appended stands_for refusals makes a b xs → xs ≡ all → Puts stands_for refusals makes a b all Done
  ended all p e = record { by = Appended-as e p }

  -- a call's answer is handed on, after octets were appended
  pub handed_on : {a b c : S} {xs ys : List ℕ} (all : List ℕ) (result : Put) → Appended stands_for refusals makes a b xs → Puts stands_for refusals makes b c ys result → xs ++ ys ≡ all → Puts stands_for refusals makes a c all result
  handed_on {a} {b} {c} {xs} {ys} all Done p q e = ended all (Appended-then p q.by) e
  handed_on {a} {b} {c} {xs} {ys} all Refused p q e = stopped all p q.by (record { back = []; joined = append-nil (xs ++ ys) ∙ e })

  -- a piece is a call
  pub of_piece : {a b : S} {xs : List ℕ} (result : Put) → PutsPiece stands_for refusals makes a b xs result → Puts stands_for refusals makes a b xs result
  of_piece {a} {b} {xs} Done p = record { by = p.by }
  of_piece {a} {b} {xs} Refused p = record { by = record { front = []; back = xs; joined = refl; appended = p.by.0; rose = p.by.1 } }

-- what the first members give begins what all give
pub flat_map-front : {X : Type 0} (f : X → List ℕ) (n : ℕ) (xs : List X) → IsFront (flat_map f (take n xs)) (flat_map f xs)
flat_map-front f n xs = record { back = flat_map f (drop n xs); joined = sym (flat_map-append f (take n xs) (drop n xs)) ∙ ap (flat_map f) (take-append-drop n xs) }

-- a list with one more member
pub flat_map-take_one_more : {X : Type 0} (f : X → List ℕ) (xs : List X) (i : ℕ) (d : X) → i < length xs → flat_map f (take (i + 1) xs) ≡ flat_map f (take i xs) ++ f (get_or xs i d)
flat_map-take_one_more f xs i d h = ap (flat_map f) (take_more xs i d h) ∙ flat_map-append f (take i xs) (get_or xs i d ∷ []) ∙ ap (λ (t : List ℕ). flat_map f (take i xs) ++ t) (append-nil (f (get_or xs i d)))

-- a loop over a list that is stopped at a member
pub stopped_at_member : {S : Type 0} (stands_for : S → List ℕ → Type 0) (refusals : S → ℕ) (makes : S → List ℕ → List ℕ) {X : Type 0} (f : X → List ℕ) (xs : List X) (i : ℕ) (d : X) {a b c : S} → i < length xs → Appended stands_for refusals makes a b (flat_map f (take i xs)) → AppendedPrefix stands_for refusals makes b c (f (get_or xs i d)) → Puts stands_for refusals makes a c (flat_map f xs) Refused
stopped_at_member stands_for refusals makes f xs i d h p q =
    stopped stands_for refusals makes (flat_map f xs) p q (IsFront-as _ _ _ (sym (flat_map-take_one_more f xs i d h)) (flat_map-front f (i + 1) xs))

-- Steps of reading and writing, at octets that are known.
use Rattle.std.proofs.Common.{◌≡◌, ap, sym, subst, ◌∙◌, ◌++◌, ℕ, ◌-◌, arith, List, [], length, take, drop, Option, Some, None}
use Rattle.std.specs.Io.KnownBytes.{Appends, Consumes, Keeps}
use Rattle.std.proofs.lemmas.List.{append_assoc, append-nil, take-append-drop, take_all, length-drop}
use Rattle.std.proofs.Math.Seq.{take-append_seam}
use Rattle.sig_outside.specs.Told.{Grew}

-- what was read so far, and what is left, is what there was
pub record IsReadSoFar (whole left : Option (List ℕ)) (read : List ℕ) : Type 0 where
  pub joined : Consumes whole left read

-- the front of the piece was taken so far, and the rest was not
pub record IsTakenSoFar (before now : Option (List ℕ)) (piece rest : List ℕ) : Type 0 where
  pub front : List ℕ
  pub joined : front ++ rest ≡ piece
  pub grew : Grew before now front

some_same : {x y : List ℕ} → Some x ≡ Some y → x ≡ y
some_same e = cc

grew_appends : (before now : Option (List ℕ)) (more : List ℕ) → Appends before now more → Grew before now more
grew_appends None now more h = λ told e. absurd (cc)
grew_appends (Some xs) None more h = absurd h
grew_appends (Some xs) (Some ys) more h = λ told e. cc

grew_keeps : (before now : Option (List ℕ)) → Keeps before now → Grew before now []
grew_keeps None now h = λ told e. absurd (cc)
grew_keeps (Some xs) None h = absurd h
grew_keeps (Some xs) (Some ys) h = λ told e. ap Some (h ∙ some_same e ∙ sym (append-nil told))

grew_then : (before now later : Option (List ℕ)) (first second : List ℕ) → Grew before now first → Grew now later second → Grew before later (first ++ second)
grew_then before now later first second f s = λ told e. s (told ++ first) (f told e) ∙ ap Some (append_assoc told first second)

-- a write took the first octets of the rest
pub taken_more : (before now later : Option (List ℕ)) (piece rest : List ℕ) (n : ℕ)
    → IsTakenSoFar before now piece rest → Appends now later (take n rest) → IsTakenSoFar before later piece (drop n rest)
taken_more before now later piece rest n t a = record {
  front = t.front ++ take n rest;
  joined = append_assoc t.front (take n rest) (drop n rest) ∙ ap (λ r. t.front ++ r) (take-append-drop n rest) ∙ t.joined;
  grew = grew_then before now later t.front (take n rest) t.grew (grew_appends now later (take n rest) a);
}

-- the same, as the rest of a slice is written
pub taken_more_of : (before now later : Option (List ℕ)) (piece rest : List ℕ) (n : ℕ)
    → IsTakenSoFar before now piece rest → Appends now later (take n rest) → IsTakenSoFar before later piece (take (length rest - n) (drop n rest))
taken_more_of before now later piece rest n t a =
    subst (IsTakenSoFar before later piece) (sym (take_all (length rest - n) (drop n rest) (omega (arith, length-drop n rest)))) (taken_more before now later piece rest n t a)

-- a write failed, and took nothing
pub taken_still : (before now later : Option (List ℕ)) (piece rest : List ℕ)
    → IsTakenSoFar before now piece rest → Keeps now later → IsTakenSoFar before later piece rest
taken_still before now later piece rest t k = record {
  front = t.front;
  joined = t.joined;
  grew = subst (Grew before later) (append-nil t.front) (grew_then before now later t.front [] t.grew (grew_keeps now later k));
}

-- a prefix of the piece was taken
pub taken_part : (before now : Option (List ℕ)) (piece rest : List ℕ) → IsTakenSoFar before now piece rest → (n : ℕ) × Grew before now (take n piece)
taken_part before now piece rest t =
    let front_is : take (length t.front) piece ≡ t.front = ap (take (length t.front)) (sym t.joined) ∙ take-append_seam t.front rest in
    (length t.front, subst (Grew before now) (sym front_is) t.grew)

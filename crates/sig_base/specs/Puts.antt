-- What a call does to a sink of octets. A sink stands for lists of octets: a counter or the state of a hash does not keep
-- what was written, so the meaning of a sink is a relation.
use Rattle.std.specs.Prelude.{◌≡◌, ℕ, ◌≤◌, List, [], ◌++◌}
use Rattle.sig_base.specs.Counts.{Rose}
use Rattle.sig_base.specs.declared.sink.Put.{Put}
use Rattle.sig_base.specs.declared.sink.Put.TheVariants.{Done, Refused}

-- octets were appended: for every list that the sink stood for, it stands for that list with the octets behind it.
-- The count of refusals did not fall, and what the sink makes is the same
pub record Appended {S : Type 0} (stands_for : S → List ℕ → Type 0) (refusals : S → ℕ) (makes : S → List ℕ → List ℕ) (old new : S)
    (octets : List ℕ) : Type 0 where
  pub at : (m : List ℕ) → stands_for old m → stands_for new (m ++ octets)
  pub later : refusals old ≤ refusals new
  pub same : (m : List ℕ) → makes new m ≡ makes old m

-- a prefix of the octets was appended, the same for every list that the sink stood for
pub record AppendedPrefix {S : Type 0} (stands_for : S → List ℕ → Type 0) (refusals : S → ℕ) (makes : S → List ℕ → List ℕ) (old new : S)
    (octets : List ℕ) : Type 0 where
  pub front : List ℕ
  pub back : List ℕ
  pub joined : front ++ back ≡ octets
  pub appended : Appended stands_for refusals makes old new front
  pub rose : Rose (refusals old) (refusals new)

abbrev pub PutsBy : {S : Type 0} → (S → List ℕ → Type 0) → (S → ℕ) → (S → List ℕ → List ℕ) → S → S → List ℕ → Put → Type 0
PutsBy stands_for refusals makes old new octets Done = Appended stands_for refusals makes old new octets
PutsBy stands_for refusals makes old new octets Refused = AppendedPrefix stands_for refusals makes old new octets

-- what a call that writes octets to a sink does: with `Done` it appended them, with `Refused` a prefix of them
pub record Puts {S : Type 0} (stands_for : S → List ℕ → Type 0) (refusals : S → ℕ) (makes : S → List ℕ → List ℕ) (old new : S)
    (octets : List ℕ) (result : Put) : Type 0 where
  pub by : PutsBy stands_for refusals makes old new octets result

-- the sink's own call: a piece goes whole or not at all
abbrev pub PutsPieceBy : {S : Type 0} → (S → List ℕ → Type 0) → (S → ℕ) → (S → List ℕ → List ℕ) → S → S → List ℕ → Put → Type 0
PutsPieceBy stands_for refusals makes old new piece Done = Appended stands_for refusals makes old new piece
PutsPieceBy stands_for refusals makes old new piece Refused =
    Appended stands_for refusals makes old new [] × Rose (refusals old) (refusals new)

pub record PutsPiece {S : Type 0} (stands_for : S → List ℕ → Type 0) (refusals : S → ℕ) (makes : S → List ℕ → List ℕ) (old new : S)
    (piece : List ℕ) (result : Put) : Type 0 where
  pub by : PutsPieceBy stands_for refusals makes old new piece result

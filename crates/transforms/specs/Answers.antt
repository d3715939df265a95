-- How answers stand to what is defined.
use Rattle.std.specs.Prelude.{◌≡◌, ◌≤◌, ◌+◌, ℕ, List, [], ◌∷◌, ◌++◌, length, take, Option, Some, Result, Ok, Err, encode_utf8_all}
use Rattle.sig_base.specs.Counts.{Rose}
use Rattle.sig_base.specs.Puts.{Appended, AppendedPrefix}
use Rattle.sig_outside.specs.Told.{Held}
use Rattle.uri_refs.specs.declared.target.Target.{Target}
use Rattle.uri_refs.specs.declared.target.Target.TheVariants as target
use Rattle.transforms.specs.Steps.{octet_limit}
use Rattle.transforms.specs.declared.refusal.RefRefusal.{RefRefusal}
use Rattle.transforms.specs.declared.refusal.RefRefusal.TheVariants.{FetchFailed, SinkRefused, Memory}

-- the view was appended
pub record Whole {S : Type 0} (stands_for : S → List ℕ → Type 0) (refusals : S → ℕ) (makes : S → List ℕ → List ℕ) (old new : S)
    (outcome : Result (List ℕ) RefRefusal) : Type 0 where
  pub view : List ℕ
  pub is : outcome ≡ Ok view
  pub appended : Appended stands_for refusals makes old new view

-- a prefix of the view was appended before the sink refused
pub record Begun {S : Type 0} (stands_for : S → List ℕ → Type 0) (refusals : S → ℕ) (makes : S → List ℕ → List ℕ) (old new : S)
    (outcome : Result (List ℕ) RefRefusal) : Type 0 where
  pub view : List ℕ
  pub is : outcome ≡ Ok view
  pub appended : AppendedPrefix stands_for refusals makes old new view

-- some octets were appended
pub record Anyhow {S : Type 0} (stands_for : S → List ℕ → Type 0) (refusals : S → ℕ) (makes : S → List ℕ → List ℕ)
    (old new : S) : Type 0 where
  pub octets : List ℕ
  pub appended : Appended stands_for refusals makes old new octets

-- nothing was appended, for this cause
pub record Refused {S : Type 0} (stands_for : S → List ℕ → Type 0) (refusals : S → ℕ) (makes : S → List ℕ → List ℕ) (old new : S)
    (outcome : Result (List ℕ) RefRefusal) (cause : RefRefusal) : Type 0 where
  pub is : outcome ≡ Err cause
  pub appended : Appended stands_for refusals makes old new []

abbrev pub StopsBy : {S : Type 0} → (S → List ℕ → Type 0) → (S → ℕ) → (S → List ℕ → List ℕ) → S → S → Result (List ℕ) RefRefusal
    → RefRefusal → Type 0
StopsBy stands_for refusals makes old new outcome SinkRefused = Begun stands_for refusals makes old new outcome
StopsBy stands_for refusals makes old new outcome FetchFailed = ⊥
StopsBy stands_for refusals makes old new outcome Memory = Anyhow stands_for refusals makes old new
StopsBy stands_for refusals makes old new outcome cause = Refused stands_for refusals makes old new outcome cause

abbrev pub WritesBy : {S : Type 0} → (S → List ℕ → Type 0) → (S → ℕ) → (S → List ℕ → List ℕ) → S → S → Result (List ℕ) RefRefusal
    → Result (Unit {0}) RefRefusal → Type 0
WritesBy stands_for refusals makes old new outcome (Ok done) = Whole stands_for refusals makes old new outcome
WritesBy stands_for refusals makes old new outcome (Err cause) = StopsBy stands_for refusals makes old new outcome cause

-- what a call that writes a view of what it has does: the view, its refusal, or want of memory or a refusal of the sink
pub record Writes {S : Type 0} (stands_for : S → List ℕ → Type 0) (refusals : S → ℕ) (makes : S → List ℕ → List ℕ) (old new : S)
    (outcome : Result (List ℕ) RefRefusal) (result : Result (Unit {0}) RefRefusal) : Type 0 where
  pub by : WritesBy stands_for refusals makes old new outcome result

-- ---- over every folder
-- the folder tells these files, or the target is none of its files
abbrev pub Tells : Result Target RefRefusal → Option Held → Held → Type 0
Tells (Ok (target.Named name)) told files = told ≡ Some files
Tells other told files = Unit {0}

-- what a call that may have to fetch does: the same, unless the folder fails
abbrev pub Views : {S : Type 0} → (S → List ℕ → Type 0) → (S → ℕ) → (S → List ℕ → List ℕ) → S → S → Result (List ℕ) RefRefusal
    → Result (Unit {0}) RefRefusal → Type 0
Views stands_for refusals makes old new outcome (Err FetchFailed) = Unit {0}
Views stands_for refusals makes old new outcome result = Writes stands_for refusals makes old new outcome result

-- octets within the limit were appended, or some before a refusal
pub record Limited {S : Type 0} (stands_for : S → List ℕ → Type 0) (refusals : S → ℕ) (makes : S → List ℕ → List ℕ)
    (old new : S) : Type 0 where
  pub view : List ℕ
  pub within : length view ≤ octet_limit
  pub appended : Appended stands_for refusals makes old new view

pub record Began {S : Type 0} (stands_for : S → List ℕ → Type 0) (refusals : S → ℕ) (makes : S → List ℕ → List ℕ)
    (old new : S) : Type 0 where
  pub octets : List ℕ
  pub appended : Appended stands_for refusals makes old new octets
  pub rose : Rose (refusals old) (refusals new)

abbrev pub LeavesBy : {S : Type 0} → (S → List ℕ → Type 0) → (S → ℕ) → (S → List ℕ → List ℕ) → S → S → Result (Unit {0}) RefRefusal → Type 0
LeavesBy stands_for refusals makes old new (Ok done) = Limited stands_for refusals makes old new
LeavesBy stands_for refusals makes old new (Err SinkRefused) = Began stands_for refusals makes old new
LeavesBy stands_for refusals makes old new (Err cause) = Anyhow stands_for refusals makes old new

pub record Leaves {S : Type 0} (stands_for : S → List ℕ → Type 0) (refusals : S → ℕ) (makes : S → List ℕ → List ℕ) (old new : S)
    (result : Result (Unit {0}) RefRefusal) : Type 0 where
  pub by : LeavesBy stands_for refusals makes old new result

-- ---- what is asked of the folder, and its count of faults
-- the names for which a Reference asks
abbrev pub names_of : Result Target RefRefusal → List (List ℕ)
names_of (Ok (target.Named name)) = encode_utf8_all name ∷ []
names_of other = []

-- a list of names has grown by a first part of these
abbrev pub GrewTowards : List (List ℕ) → List (List ℕ) → List (List ℕ) → Type 0
GrewTowards names old new = (n : ℕ) × (new ≡ old ++ take n names)

-- all are asked for, or a first part of them before a failure or want of memory
abbrev pub AsksAll : {A : Type 0} → Result A RefRefusal → List (List ℕ) → List (List ℕ) → List (List ℕ) → Type 0
AsksAll (Err FetchFailed) names old new = GrewTowards names old new
AsksAll (Err Memory) names old new = GrewTowards names old new
AsksAll other names old new = new ≡ old ++ names

-- the count moves with a failure alone
abbrev pub FaultCounts : {A : Type 0} → Result A RefRefusal → ℕ → ℕ → Type 0
FaultCounts (Err FetchFailed) before now = (before ≤ now) × Rose before now
FaultCounts other before now = now ≡ before

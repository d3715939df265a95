-- What a run has done by its ending, before anything is printed.
use Rattle.std.specs.Prelude.{ℕ, List, take, Option}
use Rattle.signed_views.specs.Handing.{Pair, EachGrew}
use Rattle.job_words.specs.declared.fault.WordsFault.{WordsFault}
use Rattle.job_words.specs.declared.fault.WordsFault.TheVariants.{Usage, Memory}
use Rattle.xmldsig.specs.declared.ending.Ending.{Ending}
use Rattle.xmldsig.specs.declared.ending.Ending.TheVariants as ending

-- the same pairs for each keeper, and some first of them for each
abbrev pub everywhere : List Pair → ℕ → List Pair
everywhere all k = all

abbrev pub prefixes : List Pair → (ℕ → ℕ) → ℕ → List Pair
prefixes all n k = take (n k) all

-- each keeper was given some first of these pairs
abbrev pub GrewTowards : {K : Type 0} → (pairs : K → Option (List Pair)) → (all : List Pair) → (old new : List K) → Type 0
GrewTowards pairs all old new = (n : ℕ → ℕ) × EachGrew pairs (prefixes all n) old new

-- how words end that could not be had
abbrev pub fault_ending : WordsFault → Ending
fault_ending Usage = ending.Usage
fault_ending Memory = ending.Memory

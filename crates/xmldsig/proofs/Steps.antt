-- Steps one behind the other, each of which may stop.
use Rattle.std.proofs.Common.{◌≡◌, ◌≢◌, ◌+◌, ◌++◌, ◌∙◌, ap, sym, subst, refl, arith, ℕ, min, List, [], length, take, append_assoc, Result, Ok, Err}
use Rattle.std.proofs.Math.Seq.{take-append-add}
use Rattle.std.proofs.lemmas.List.{append-nil, take-append-le, take_all, take_min}
use Rattle.sig_base.specs.Outcomes.{and_then}
use Rattle.transforms.specs.Asked.{or_nothing}
use Rattle.xmldsig.specs.Code.Stops.{Answers, AsksAll, StopCounts}
use Rattle.xmldsig.specs.declared.ending.Refusal.{Refusal}
use Rattle.xmldsig.specs.declared.stop.Stop.{Stop}
use Rattle.xmldsig.specs.declared.stop.Stop.TheVariants as stop

-- ---- what they come to

stops : {A B : Type 0} (s : Stop) (first : Result A Refusal) (more : A → Result B Refusal) → Answers {A = A} (Err s) first
    → Answers {A = B} (Err s) (and_then first more)
stops (stop.Refused cause) first more e = rw e refl
stops stop.ReadFault first more e = tt
stops stop.Memory first more e = tt

-- the first step stopped
pub answers_first : (A : Type 0) {B : Type 0} (r : Result B Stop) (s : Stop) (first : Result A Refusal) (more : A → Result B Refusal)
    → r ≡ Err s → Answers {A = A} (Err s) first → Answers r (and_then first more)
answers_first A r s first more is e = rw is (stops s first more e)

-- it went well, and the second answers
pub answers_then : {A B : Type 0} (r : Result B Stop) (first : Result A Refusal) (x : A) (more : A → Result B Refusal)
    → first ≡ Ok x → Answers r (more x) → Answers r (and_then first more)
answers_then r first x more went e = rw went e

-- ---- what they ask for

-- all of the names were asked for
pub asks_whole : {A : Type 0} (r : Result A Stop) (names old new : List (List ℕ)) → new ≡ old ++ names → AsksAll r names old new
asks_whole (Ok x) names old new e = e
asks_whole (Err (stop.Refused cause)) names old new e = e
asks_whole (Err stop.ReadFault) names old new e =
    (length names, e ∙ ap (λ ns. old ++ ns) (sym (take_all (length names) names (omega arith))))
asks_whole (Err stop.Memory) names old new e = (length names, e ∙ ap (λ ns. old ++ ns) (sym (take_all (length names) names (omega arith))))

-- nothing was asked for
pub asks_nothing : {A : Type 0} (r : Result A Stop) (old : List (List ℕ)) → AsksAll r [] old old
asks_nothing r old = asks_whole r [] old old (sym (append-nil old))

-- some first names are some first of more names
take_front : (n : ℕ) (names more : List (List ℕ)) → take (min n (length names)) (names ++ more) ≡ take n names
take_front n names more = take-append-le (min n (length names)) names more (omega arith) ∙ take_min n names

asks_front : (names more old new : List (List ℕ)) → (n : ℕ) × (new ≡ old ++ take n names) → (n : ℕ) × (new ≡ old ++ take n (names ++ more))
asks_front names more old new h = (min h.0 (length names), h.1 ∙ ap (λ ns. old ++ ns) (sym (take_front h.0 names more)))

stop_asks : (A B : Type 0) {X : Type 0} (s : Stop) (first : Result X Refusal) (names : List (List ℕ)) (more : X → List (List ℕ))
    (old new : List (List ℕ))
    → Answers {A = X} (Err s) first → AsksAll {A = A} (Err s) names old new → AsksAll {A = B} (Err s)
    (names ++ or_nothing first more) old new
stop_asks A B (stop.Refused cause) first names more old new is asks = rw (is, append-nil) asks
stop_asks A B stop.ReadFault first names more old new is asks = asks_front names (or_nothing first more) old new asks
stop_asks A B stop.Memory first names more old new is asks = asks_front names (or_nothing first more) old new asks

-- the first step stopped
pub asks_first : (X : Type 0) {B : Type 0} (r : Result B Stop) (s : Stop) (first : Result X Refusal) (names : List (List ℕ))
    (more : X → List (List ℕ)) (old new : List (List ℕ))
    → r ≡ Err s → Answers {A = X} (Err s) first → AsksAll {A = X} (Err s) names old new → AsksAll r (names ++ or_nothing first more) old new
asks_first X {B} r s first names more old new is answers asks =
    rw is (stop_asks X B s first names more old new answers asks)

-- nothing was asked for, and the first step stopped
pub asks_nothing_first : (X B : Type 0) (s : Stop) (first : Result X Refusal) (more : X → List (List ℕ)) (old : List (List ℕ))
    → Answers {A = X} (Err s) first → AsksAll {A = B} (Err s) (or_nothing first more) old old
asks_nothing_first X B s first more old answers = stop_asks X B s first [] more old old answers (asks_nothing {A = X} (Err s) old)

joined : (names more old mid new : List (List ℕ)) → mid ≡ old ++ names → new ≡ mid ++ more → new ≡ old ++ (names ++ more)
joined names more old mid new e f = rw (f, e, append_assoc) refl

joined_front : (names more old mid new : List (List ℕ)) → mid ≡ old ++ names → (n : ℕ) × (new ≡ mid ++ take n more)
    → (n : ℕ) × (new ≡ old ++ take n (names ++ more))
joined_front names more old mid new e h =
    (length names + h.0, joined names (take h.0 more) old mid new e h.1 ∙ ap (λ ns. old ++ ns) (sym (take-append-add names more h.0)))

then_asks : {B : Type 0} (r : Result B Stop) (names more old mid new : List (List ℕ)) → mid ≡ old ++ names → AsksAll r more mid new
    → AsksAll r (names ++ more) old new
then_asks (Ok x) names more old mid new e asks = joined names more old mid new e asks
then_asks (Err (stop.Refused cause)) names more old mid new e asks = joined names more old mid new e asks
then_asks (Err stop.ReadFault) names more old mid new e asks = joined_front names more old mid new e asks
then_asks (Err stop.Memory) names more old mid new e asks = joined_front names more old mid new e asks

-- it went well, and the second asks for what is left
pub asks_then : {X B : Type 0} (r : Result B Stop) (first : Result X Refusal) (x : X) (names : List (List ℕ)) (more : X → List (List ℕ))
    (old mid new : List (List ℕ))
    → first ≡ Ok x → mid ≡ old ++ names → AsksAll r (more x) mid new → AsksAll r (names ++ or_nothing first more) old new
asks_then r first x names more old mid new went e asks = rw went (then_asks r names (more x) old mid new e asks)

-- ---- the folder's count

-- without a fault it stays
pub counts_calm : {A : Type 0} (r : Result A Stop) (before now : ℕ) → r ≢ Err stop.ReadFault → now ≡ before → StopCounts r before now
counts_calm (Ok x) before now calm e = e
counts_calm (Err (stop.Refused cause)) before now calm e = e
counts_calm (Err stop.ReadFault) before now calm e = absurd (calm refl)
counts_calm (Err stop.Memory) before now calm e = e

stop_counts : (A B : Type 0) (s : Stop) (before now : ℕ) → StopCounts {A = A} (Err s) before now → StopCounts {A = B} (Err s) before now
stop_counts A B (stop.Refused cause) before now c = c
stop_counts A B stop.ReadFault before now c = c
stop_counts A B stop.Memory before now c = c

-- the first step stopped
pub counts_first : (A : Type 0) {B : Type 0} (r : Result B Stop) (s : Stop) (before now : ℕ) → r ≡ Err s
    → StopCounts {A = A} (Err s) before now → StopCounts r before now
counts_first A {B} r s before now is c = rw is (stop_counts A B s before now c)

stop_same : (A B : Type 0) (s : Stop) (names old new : List (List ℕ)) → AsksAll {A = A} (Err s) names old new
    → AsksAll {A = B} (Err s) names old new
stop_same A B (stop.Refused cause) names old new c = c
stop_same A B stop.ReadFault names old new c = c
stop_same A B stop.Memory names old new c = c

-- the first step stopped, and the second asks for nothing
pub asks_same : (A : Type 0) {B : Type 0} (r : Result B Stop) (s : Stop) (names old new : List (List ℕ)) → r ≡ Err s
    → AsksAll {A = A} (Err s) names old new → AsksAll r names old new
asks_same A {B} r s names old new is c = rw is (stop_same A B s names old new c)

-- the count behind a step that left it
pub counts_after : {A : Type 0} (r : Result A Stop) (before mid now : ℕ) → mid ≡ before → StopCounts r mid now → StopCounts r before now
counts_after r before mid now same c = let C : ℕ → Type 0 = λ b. StopCounts r b now in subst C same c

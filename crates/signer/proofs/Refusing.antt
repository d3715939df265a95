-- What refusals of steps are worth to what is made of the steps: the refusal, what was asked for, and the count of faults.
use Rattle.std.proofs.Common.{◌≡◌, ◌∙◌, ℕ, List, [], ◌++◌, Result, Ok, Err, ap, sym, subst, append-nil}
use Rattle.transforms.specs.Answers.{GrewTowards}
use Rattle.transforms.proofs.AskLaws.{AsksRest, grew_all, grew_nothing, rest_ends, rest_grows}
use Rattle.signer.specs.Answers.{AsksAll, FaultCounts, Gives, HasOwnCause, Refuses}
use Rattle.signer.specs.Code.Refusals.{IsOutside, IsOwnStop, Stops}
use Rattle.signer.specs.declared.refusal.SignRefusal.{SignRefusal}
use Rattle.signer.specs.declared.refusal.SignRefusal.TheVariants as refusal

-- ---- refusals
-- a refusal of one outcome that makes another one refused so is one of the other
pub refuses_on : {A B : Type 0} (cause : SignRefusal) (one : Result A SignRefusal) (other : Result B SignRefusal)
    → (one ≡ Err cause → other ≡ Err cause) → Refuses cause one → Refuses cause other
refuses_on (refusal.Read why_read) one other f e = f e
refuses_on refusal.NoSignature one other f e = f e
refuses_on (refusal.Fields field) one other f e = f e
refuses_on refusal.NoKey one other f e = f e
refuses_on refusal.UnknownKey one other f e = f e
refuses_on (refusal.ShortTruncation bits) one other f e = f e
refuses_on (refusal.NotText row) one other f e = f e
refuses_on (refusal.Reference number reason) one other f e = f e
refuses_on (refusal.Filled why_read) one other f e = f e
refuses_on refusal.OctetsTooLong one other f e = f e
refuses_on (refusal.CoversItself number) one other f e = f e
refuses_on refusal.FetchFailed one other f e = tt
refuses_on refusal.Memory one other f e = tt

-- the same of steps that ask no folder
pub stops_on : {A B : Type 0} (cause : SignRefusal) (one : Result A SignRefusal) (other : Result B SignRefusal)
    → (one ≡ Err cause → other ≡ Err cause) → Stops cause one → Stops cause other
stops_on (refusal.Read why_read) one other f e = f e
stops_on refusal.NoSignature one other f e = f e
stops_on (refusal.Fields field) one other f e = f e
stops_on refusal.NoKey one other f e = f e
stops_on refusal.UnknownKey one other f e = f e
stops_on (refusal.ShortTruncation bits) one other f e = f e
stops_on (refusal.NotText row) one other f e = f e
stops_on (refusal.Reference number reason) one other f e = absurd e
stops_on (refusal.Filled why_read) one other f e = f e
stops_on refusal.OctetsTooLong one other f e = f e
stops_on (refusal.CoversItself number) one other f e = f e
stops_on refusal.FetchFailed one other f e = absurd e
stops_on refusal.Memory one other f e = tt

-- and where the other may ask one
pub refuses_from : {A B : Type 0} (cause : SignRefusal) (one : Result A SignRefusal) (other : Result B SignRefusal)
    → (one ≡ Err cause → other ≡ Err cause) → Stops cause one → Refuses cause other
refuses_from (refusal.Read why_read) one other f e = f e
refuses_from refusal.NoSignature one other f e = f e
refuses_from (refusal.Fields field) one other f e = f e
refuses_from refusal.NoKey one other f e = f e
refuses_from refusal.UnknownKey one other f e = f e
refuses_from (refusal.ShortTruncation bits) one other f e = f e
refuses_from (refusal.NotText row) one other f e = f e
refuses_from (refusal.Reference number reason) one other f e = absurd e
refuses_from (refusal.Filled why_read) one other f e = f e
refuses_from refusal.OctetsTooLong one other f e = f e
refuses_from (refusal.CoversItself number) one other f e = f e
refuses_from refusal.FetchFailed one other f e = absurd e
refuses_from refusal.Memory one other f e = tt

-- such a step tells of no Reference
pub own_from : {A : Type 0} (cause : SignRefusal) (one : Result A SignRefusal) → Stops cause one → HasOwnCause {A = Unit {0}} (Err cause)
own_from (refusal.Read why_read) one e = tt
own_from refusal.NoSignature one e = tt
own_from (refusal.Fields field) one e = tt
own_from refusal.NoKey one e = tt
own_from refusal.UnknownKey one e = tt
own_from (refusal.ShortTruncation bits) one e = tt
own_from (refusal.NotText row) one e = tt
own_from (refusal.Reference number reason) one e = absurd e
own_from (refusal.Filled why_read) one e = tt
own_from refusal.OctetsTooLong one e = tt
own_from (refusal.CoversItself number) one e = tt
own_from refusal.FetchFailed one e = tt
own_from refusal.Memory one e = tt

pub own_on : (cause : SignRefusal) → IsOwnStop {A = Unit {0}} (Err cause) → HasOwnCause {A = Unit {0}} (Err cause)
own_on (refusal.Read why_read) e = tt
own_on refusal.NoSignature e = tt
own_on (refusal.Fields field) e = tt
own_on refusal.NoKey e = tt
own_on refusal.UnknownKey e = tt
own_on (refusal.ShortTruncation bits) e = tt
own_on (refusal.NotText row) e = tt
own_on (refusal.Reference number reason) e = e
own_on (refusal.Filled why_read) e = tt
own_on refusal.OctetsTooLong e = tt
own_on (refusal.CoversItself number) e = tt
own_on refusal.FetchFailed e = tt
own_on refusal.Memory e = tt

pub outside_on : (cause : SignRefusal) → IsOutside {A = Unit {0}} (Err cause) → HasOwnCause {A = Unit {0}} (Err cause)
outside_on (refusal.Read why_read) e = tt
outside_on refusal.NoSignature e = tt
outside_on (refusal.Fields field) e = tt
outside_on refusal.NoKey e = tt
outside_on refusal.UnknownKey e = tt
outside_on (refusal.ShortTruncation bits) e = tt
outside_on (refusal.NotText row) e = tt
outside_on (refusal.Reference number reason) e = absurd e
outside_on (refusal.Filled why_read) e = tt
outside_on refusal.OctetsTooLong e = tt
outside_on (refusal.CoversItself number) e = tt
outside_on refusal.FetchFailed e = tt
outside_on refusal.Memory e = tt

-- what is to blame outside refuses nothing of the outcome
pub outside_refuses : {A : Type 0} (cause : SignRefusal) (one : Result A SignRefusal) → IsOutside {A = Unit {0}} (Err cause) → Refuses cause one
outside_refuses (refusal.Read why_read) one e = absurd e
outside_refuses refusal.NoSignature one e = absurd e
outside_refuses (refusal.Fields field) one e = absurd e
outside_refuses refusal.NoKey one e = absurd e
outside_refuses refusal.UnknownKey one e = absurd e
outside_refuses (refusal.ShortTruncation bits) one e = absurd e
outside_refuses (refusal.NotText row) one e = absurd e
outside_refuses (refusal.Reference number reason) one e = absurd e
outside_refuses (refusal.Filled why_read) one e = absurd e
outside_refuses refusal.OctetsTooLong one e = absurd e
outside_refuses (refusal.CoversItself number) one e = absurd e
outside_refuses refusal.FetchFailed one e = tt
outside_refuses refusal.Memory one e = tt

-- ---- what is asked for
rest_all : (before now new all rest : List (List ℕ)) → AsksRest before now all rest → GrewTowards rest now new → GrewTowards all before new
rest_all before now new all rest r g = rest_grows before now new all rest rest [] r (sym (append-nil rest)) g

pub nothing_more : (names old : List (List ℕ)) → names ≡ [] → old ≡ old ++ names
nothing_more names old e = sym (ap (λ (t : List (List ℕ)). old ++ t) e ∙ append-nil old)

-- a refusal before the folder is asked
pub asked_nothing : {B : Type 0} (cause : SignRefusal) (outcome : Result B SignRefusal) (names old : List (List ℕ))
    → Stops cause outcome → (outcome ≡ Err cause → names ≡ []) → AsksAll {A = Unit {0}} (Err cause) names old old
asked_nothing (refusal.Read why_read) outcome names old e f = nothing_more names old (f e)
asked_nothing refusal.NoSignature outcome names old e f = nothing_more names old (f e)
asked_nothing (refusal.Fields field) outcome names old e f = nothing_more names old (f e)
asked_nothing refusal.NoKey outcome names old e f = nothing_more names old (f e)
asked_nothing refusal.UnknownKey outcome names old e f = nothing_more names old (f e)
asked_nothing (refusal.ShortTruncation bits) outcome names old e f = nothing_more names old (f e)
asked_nothing (refusal.NotText row) outcome names old e f = nothing_more names old (f e)
asked_nothing (refusal.Reference number reason) outcome names old e f = absurd e
asked_nothing (refusal.Filled why_read) outcome names old e f = nothing_more names old (f e)
asked_nothing refusal.OctetsTooLong outcome names old e f = nothing_more names old (f e)
asked_nothing (refusal.CoversItself number) outcome names old e f = nothing_more names old (f e)
asked_nothing refusal.FetchFailed outcome names old e f = absurd e
asked_nothing refusal.Memory outcome names old e f = grew_nothing names old

-- all names that are left are asked for, whatever comes of it
pub asked_behind : {A : Type 0} (result : Result A SignRefusal) (names old new : List (List ℕ)) → new ≡ old ++ names → AsksAll result names old new
asked_behind (Ok done) names old new e = e
asked_behind (Err (refusal.Read why_read)) names old new e = e
asked_behind (Err refusal.NoSignature) names old new e = e
asked_behind (Err (refusal.Fields field)) names old new e = e
asked_behind (Err refusal.NoKey) names old new e = e
asked_behind (Err refusal.UnknownKey) names old new e = e
asked_behind (Err (refusal.ShortTruncation bits)) names old new e = e
asked_behind (Err (refusal.NotText row)) names old new e = e
asked_behind (Err (refusal.Reference number reason)) names old new e = e
asked_behind (Err (refusal.Filled why_read)) names old new e = e
asked_behind (Err refusal.OctetsTooLong) names old new e = e
asked_behind (Err (refusal.CoversItself number)) names old new e = e
asked_behind (Err refusal.FetchFailed) names old new e = grew_all names old new e
asked_behind (Err refusal.Memory) names old new e = grew_all names old new e

-- of all names some were asked for, and then those that are left
pub asked_rest : {A : Type 0} (result : Result A SignRefusal) (before now new all rest : List (List ℕ))
    → AsksRest before now all rest → AsksAll result rest now new → AsksAll result all before new
asked_rest (Ok done) before now new all rest r e = rest_ends before now new all rest r e
asked_rest (Err (refusal.Read why_read)) before now new all rest r e = rest_ends before now new all rest r e
asked_rest (Err refusal.NoSignature) before now new all rest r e = rest_ends before now new all rest r e
asked_rest (Err (refusal.Fields field)) before now new all rest r e = rest_ends before now new all rest r e
asked_rest (Err refusal.NoKey) before now new all rest r e = rest_ends before now new all rest r e
asked_rest (Err refusal.UnknownKey) before now new all rest r e = rest_ends before now new all rest r e
asked_rest (Err (refusal.ShortTruncation bits)) before now new all rest r e = rest_ends before now new all rest r e
asked_rest (Err (refusal.NotText row)) before now new all rest r e = rest_ends before now new all rest r e
asked_rest (Err (refusal.Reference number reason)) before now new all rest r e = rest_ends before now new all rest r e
asked_rest (Err (refusal.Filled why_read)) before now new all rest r e = rest_ends before now new all rest r e
asked_rest (Err refusal.OctetsTooLong) before now new all rest r e = rest_ends before now new all rest r e
asked_rest (Err (refusal.CoversItself number)) before now new all rest r e = rest_ends before now new all rest r e
asked_rest (Err refusal.FetchFailed) before now new all rest r e = rest_all before now new all rest r e
asked_rest (Err refusal.Memory) before now new all rest r e = rest_all before now new all rest r e

-- where the first that is refused ends the names, all are asked for
pub asked_refused : {C : Type 0} (cause : SignRefusal) (outcome : Result C SignRefusal) (before now new all rest names more : List (List ℕ))
    → AsksRest before now all rest → rest ≡ names ++ more → (outcome ≡ Err cause → rest ≡ names)
    → Refuses cause outcome → AsksAll {A = Unit {0}} (Err cause) names now new → AsksAll {A = Unit {0}} (Err cause) all before new
asked_refused {C} cause outcome before now new all rest names more r e last = go cause last
  where
    whole : rest ≡ names → new ≡ now ++ names → new ≡ before ++ all
    whole f g = rest_ends before now new all rest r (g ∙ ap (λ (t : List (List ℕ)). now ++ t) (sym f))

    go : (w : SignRefusal) → (outcome ≡ Err w → rest ≡ names) → Refuses w outcome → AsksAll {A = Unit {0}} (Err w) names now new → AsksAll {A = Unit {0}} (Err w) all before new
    go (refusal.Read why_read) f s g = whole (f s) g
    go refusal.NoSignature f s g = whole (f s) g
    go (refusal.Fields field) f s g = whole (f s) g
    go refusal.NoKey f s g = whole (f s) g
    go refusal.UnknownKey f s g = whole (f s) g
    go (refusal.ShortTruncation bits) f s g = whole (f s) g
    go (refusal.NotText row) f s g = whole (f s) g
    go (refusal.Reference number reason) f s g = whole (f s) g
    go (refusal.Filled why_read) f s g = whole (f s) g
    go refusal.OctetsTooLong f s g = whole (f s) g
    go (refusal.CoversItself number) f s g = whole (f s) g
    go refusal.FetchFailed f s g = rest_grows before now new all rest names more r e g
    go refusal.Memory f s g = rest_grows before now new all rest names more r e g

-- a failure or want of memory leaves the rest
pub asked_outside : (cause : SignRefusal) (before now new all rest names more : List (List ℕ)) → AsksRest before now all rest → rest ≡ names ++ more
    → IsOutside {A = Unit {0}} (Err cause) → AsksAll {A = Unit {0}} (Err cause) names now new → AsksAll {A = Unit {0}} (Err cause) all before new
asked_outside (refusal.Read why_read) before now new all rest names more r e h g = absurd h
asked_outside refusal.NoSignature before now new all rest names more r e h g = absurd h
asked_outside (refusal.Fields field) before now new all rest names more r e h g = absurd h
asked_outside refusal.NoKey before now new all rest names more r e h g = absurd h
asked_outside refusal.UnknownKey before now new all rest names more r e h g = absurd h
asked_outside (refusal.ShortTruncation bits) before now new all rest names more r e h g = absurd h
asked_outside (refusal.NotText row) before now new all rest names more r e h g = absurd h
asked_outside (refusal.Reference number reason) before now new all rest names more r e h g = absurd h
asked_outside (refusal.Filled why_read) before now new all rest names more r e h g = absurd h
asked_outside refusal.OctetsTooLong before now new all rest names more r e h g = absurd h
asked_outside (refusal.CoversItself number) before now new all rest names more r e h g = absurd h
asked_outside refusal.FetchFailed before now new all rest names more r e h g = rest_grows before now new all rest names more r e g
asked_outside refusal.Memory before now new all rest names more r e h g = rest_grows before now new all rest names more r e g

-- ---- the count of faults
pub counted_stop : {B : Type 0} (cause : SignRefusal) (outcome : Result B SignRefusal) (before now : ℕ) → Stops cause outcome → now ≡ before
    → FaultCounts {A = Unit {0}} (Err cause) before now
counted_stop (refusal.Read why_read) outcome before now s e = e
counted_stop refusal.NoSignature outcome before now s e = e
counted_stop (refusal.Fields field) outcome before now s e = e
counted_stop refusal.NoKey outcome before now s e = e
counted_stop refusal.UnknownKey outcome before now s e = e
counted_stop (refusal.ShortTruncation bits) outcome before now s e = e
counted_stop (refusal.NotText row) outcome before now s e = e
counted_stop (refusal.Reference number reason) outcome before now s e = e
counted_stop (refusal.Filled why_read) outcome before now s e = e
counted_stop refusal.OctetsTooLong outcome before now s e = e
counted_stop (refusal.CoversItself number) outcome before now s e = e
counted_stop refusal.FetchFailed outcome before now s e = absurd s
counted_stop refusal.Memory outcome before now s e = e

-- nothing failed before
pub counted_on : {A : Type 0} (result : Result A SignRefusal) (first before now : ℕ) → before ≡ first → FaultCounts result before now → FaultCounts result first now
counted_on (Ok done) first before now e h = h ∙ e
counted_on (Err (refusal.Read why_read)) first before now e h = h ∙ e
counted_on (Err refusal.NoSignature) first before now e h = h ∙ e
counted_on (Err (refusal.Fields field)) first before now e h = h ∙ e
counted_on (Err refusal.NoKey) first before now e h = h ∙ e
counted_on (Err refusal.UnknownKey) first before now e h = h ∙ e
counted_on (Err (refusal.ShortTruncation bits)) first before now e h = h ∙ e
counted_on (Err (refusal.NotText row)) first before now e h = h ∙ e
counted_on (Err (refusal.Reference number reason)) first before now e h = h ∙ e
counted_on (Err (refusal.Filled why_read)) first before now e h = h ∙ e
counted_on (Err refusal.OctetsTooLong) first before now e h = h ∙ e
counted_on (Err (refusal.CoversItself number)) first before now e h = h ∙ e
counted_on (Err refusal.FetchFailed) first before now e h = rw (sym e) h
counted_on (Err refusal.Memory) first before now e h = h ∙ e

-- ---- a step behind a step
pub gives_by : {T A : Type 0} (view : T → A) (result : Result T SignRefusal) (one other : Result A SignRefusal) → other ≡ one → Gives view result one → Gives view result other
gives_by {T} {A} view result one other e g = let P : Result A SignRefusal → Type 0 = λ o. Gives view result o in subst P (sym e) g

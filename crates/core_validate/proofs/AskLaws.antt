-- What was asked of a folder, and its count of faults, behind some References.
use Rattle.std.proofs.Common.{◌≡◌, ◌∙◌, ℕ, List, [], ◌++◌, Result, Ok, Err, ap, sym, append-nil}
use Rattle.sig_base.specs.Outcomes as outcomes
use Rattle.transforms.specs.Answers as views
use Rattle.transforms.specs.declared.outcome.Report.{Report}
use Rattle.transforms.specs.declared.outcome.ValidateRefusal.{ValidateRefusal}
use Rattle.transforms.specs.declared.outcome.ValidateRefusal.TheVariants as refusal
use Rattle.transforms.specs.declared.refusal.RefRefusal.{RefRefusal}
use Rattle.transforms.specs.declared.refusal.RefRefusal.TheVariants as cause
use Rattle.transforms.proofs.AskLaws.{AsksRest, grew_all, grew_nothing, rest_ends, rest_grows}
use Rattle.core_validate.specs.Answers.{AsksAll, FaultCounts, HasOwnCause, Refuses, Stops}
use Rattle.core_validate.specs.Progress.{IsOwnStop}
use Rattle.core_validate.specs.Code.Progress.{HasOwnStage, reference_cause}

-- ---- a Reference that has no view
pub asked_as : (number : ℕ) (why : RefRefusal) (names old new : List (List ℕ))
    → views.AsksAll {A = Unit {0}} (Err why) names old new → AsksAll {A = Unit {0}} (Err (reference_cause number why)) names old new
asked_as number (cause.Uri uri) names old new e = e
asked_as number cause.NoSuchId names old new e = e
asked_as number (cause.AmbiguousId i j) names old new e = e
asked_as number cause.Absent names old new e = e
asked_as number cause.TooLong names old new e = e
asked_as number (cause.Read step read) names old new e = e
asked_as number (cause.NotBase64 step) names old new e = e
asked_as number (cause.Syntax step part why) names old new e = e
asked_as number (cause.Eval step part why) names old new e = e
asked_as number (cause.EnvelopedElsewhere step) names old new e = e
asked_as number (cause.OctetsTooLong step) names old new e = e
asked_as number cause.FetchFailed names old new e = e
asked_as number cause.SinkRefused names old new e = grew_all names old new e
asked_as number cause.Memory names old new e = e

pub counted_as : (number : ℕ) (why : RefRefusal) (before now : ℕ)
    → views.FaultCounts {A = Unit {0}} (Err why) before now → FaultCounts {A = Unit {0}} (Err (reference_cause number why)) before now
counted_as number (cause.Uri uri) before now e = e
counted_as number cause.NoSuchId before now e = e
counted_as number (cause.AmbiguousId i j) before now e = e
counted_as number cause.Absent before now e = e
counted_as number cause.TooLong before now e = e
counted_as number (cause.Read step read) before now e = e
counted_as number (cause.NotBase64 step) before now e = e
counted_as number (cause.Syntax step part why) before now e = e
counted_as number (cause.Eval step part why) before now e = e
counted_as number (cause.EnvelopedElsewhere step) before now e = e
counted_as number (cause.OctetsTooLong step) before now e = e
counted_as number cause.FetchFailed before now e = e
counted_as number cause.SinkRefused before now e = e
counted_as number cause.Memory before now e = e

pub own_cause : (number : ℕ) (why : RefRefusal) → IsOwnStop {A = Unit {0}} (Err (reference_cause number why))
own_cause number (cause.Uri uri) = tt
own_cause number cause.NoSuchId = tt
own_cause number (cause.AmbiguousId i j) = tt
own_cause number cause.Absent = tt
own_cause number cause.TooLong = tt
own_cause number (cause.Read step read) = tt
own_cause number (cause.NotBase64 step) = tt
own_cause number (cause.Syntax step part why) = tt
own_cause number (cause.Eval step part why) = tt
own_cause number (cause.EnvelopedElsewhere step) = tt
own_cause number (cause.OctetsTooLong step) = tt
own_cause number cause.FetchFailed = tt
own_cause number cause.SinkRefused = tt
own_cause number cause.Memory = tt

-- ---- answers of a step that asks no folder
pub asked_behind : {A : Type 0} (result : Result A ValidateRefusal) (names old new : List (List ℕ)) → new ≡ old ++ names → AsksAll result names old new
asked_behind (Ok done) names old new e = e
asked_behind (Err refusal.NoSignature) names old new e = e
asked_behind (Err (refusal.Fields why)) names old new e = e
asked_behind (Err refusal.NoKey) names old new e = e
asked_behind (Err refusal.UnknownKey) names old new e = e
asked_behind (Err refusal.OctetsTooLong) names old new e = e
asked_behind (Err (refusal.Reference number why)) names old new e = e
asked_behind (Err refusal.FetchFailed) names old new e = grew_all names old new e
asked_behind (Err refusal.Memory) names old new e = grew_all names old new e

pub counted_stop : {B : Type 0} (why : ValidateRefusal) (outcome : Result B ValidateRefusal) (before now : ℕ) → Stops why outcome → now ≡ before → FaultCounts {A = Unit {0}} (Err why) before now
counted_stop refusal.NoSignature outcome before now s e = e
counted_stop (refusal.Fields why) outcome before now s e = e
counted_stop refusal.NoKey outcome before now s e = e
counted_stop refusal.UnknownKey outcome before now s e = e
counted_stop refusal.OctetsTooLong outcome before now s e = e
counted_stop (refusal.Reference number why) outcome before now s e = e
counted_stop refusal.FetchFailed outcome before now s e = absurd s
counted_stop refusal.Memory outcome before now s e = e

pub counted_behind : {T B : Type 0} (view : T → B) (result : Result T ValidateRefusal) (outcome : Result B ValidateRefusal) (before now : ℕ)
    → outcomes.Gives Stops view result outcome → now ≡ before → FaultCounts result before now
counted_behind view (Ok done) outcome before now s e = e
counted_behind view (Err why) outcome before now s e = counted_stop why outcome before now s e

-- a refusal before the folder is asked
pub asked_nothing : {B : Type 0} (why : ValidateRefusal) (outcome : Result B ValidateRefusal) (names old : List (List ℕ))
    → Stops why outcome → (outcome ≡ Err why → names ≡ []) → AsksAll {A = Unit {0}} (Err why) names old old
asked_nothing {B} why outcome names old s none = go why s none
  where
    all : names ≡ [] → old ≡ old ++ names
    all e = sym (ap (λ (t : List (List ℕ)). old ++ t) e ∙ append-nil old)

    go : (w : ValidateRefusal) → Stops w outcome → (outcome ≡ Err w → names ≡ []) → AsksAll {A = Unit {0}} (Err w) names old old
    go refusal.NoSignature e f = all (f e)
    go (refusal.Fields field) e f = all (f e)
    go refusal.NoKey e f = all (f e)
    go refusal.UnknownKey e f = all (f e)
    go refusal.OctetsTooLong e f = all (f e)
    go (refusal.Reference number reason) e f = all (f e)
    go refusal.FetchFailed e f = absurd e
    go refusal.Memory e f = grew_nothing names old

-- ---- behind several References
-- where the first that is refused ends the names, all are asked for
pub asked_refused : {C : Type 0} (why : ValidateRefusal) (outcome : Result C ValidateRefusal) (before now new all rest names more : List (List ℕ))
    → AsksRest before now all rest → rest ≡ names ++ more → (outcome ≡ Err why → rest ≡ names)
    → Refuses why outcome → AsksAll {A = Unit {0}} (Err why) names now new → AsksAll {A = Unit {0}} (Err why) all before new
asked_refused why outcome before now new all rest names more r e last = go why last
  where
    whole : rest ≡ names → new ≡ now ++ names → new ≡ before ++ all
    whole f g = rest_ends before now new all rest r (g ∙ ap (λ (t : List (List ℕ)). now ++ t) (sym f))

    go : (w : ValidateRefusal) → (outcome ≡ Err w → rest ≡ names) → Refuses w outcome → AsksAll {A = Unit {0}} (Err w) names now new → AsksAll {A = Unit {0}} (Err w) all before new
    go refusal.NoSignature f s g = whole (f s) g
    go (refusal.Fields field) f s g = whole (f s) g
    go refusal.NoKey f s g = whole (f s) g
    go refusal.UnknownKey f s g = whole (f s) g
    go refusal.OctetsTooLong f s g = whole (f s) g
    go (refusal.Reference number reason) f s g = whole (f s) g
    go refusal.FetchFailed f s g = rest_grows before now new all rest names more r e g
    go refusal.Memory f s g = rest_grows before now new all rest names more r e g

pub counted_on : (why : ValidateRefusal) (first before now : ℕ) → before ≡ first → FaultCounts {A = Unit {0}} (Err why) before now → FaultCounts {A = Unit {0}} (Err why) first now
counted_on refusal.NoSignature first before now e h = h ∙ e
counted_on (refusal.Fields field) first before now e h = h ∙ e
counted_on refusal.NoKey first before now e h = h ∙ e
counted_on refusal.UnknownKey first before now e h = h ∙ e
counted_on refusal.OctetsTooLong first before now e h = h ∙ e
counted_on (refusal.Reference number reason) first before now e h = h ∙ e
counted_on refusal.FetchFailed first before now e h = rw (sym e) h
counted_on refusal.Memory first before now e h = h ∙ e

-- a Reference that stops a validation
pub own_on : (why : ValidateRefusal) → IsOwnStop {A = Unit {0}} (Err why) → HasOwnStage (Err why)
own_on refusal.NoSignature h = h
own_on (refusal.Fields field) h = h
own_on refusal.NoKey h = h
own_on refusal.UnknownKey h = h
own_on refusal.OctetsTooLong h = h
own_on (refusal.Reference number reason) h = h
own_on refusal.FetchFailed h = h
own_on refusal.Memory h = h

-- and so its cause is its own
pub own_result : (result : Result Report ValidateRefusal) → HasOwnStage result → HasOwnCause result
own_result (Ok done) h = tt
own_result (Err refusal.NoSignature) h = tt
own_result (Err (refusal.Fields field)) h = tt
own_result (Err refusal.NoKey) h = tt
own_result (Err refusal.UnknownKey) h = tt
own_result (Err refusal.OctetsTooLong) h = tt
own_result (Err (refusal.Reference number reason)) h = h
own_result (Err refusal.FetchFailed) h = tt
own_result (Err refusal.Memory) h = tt

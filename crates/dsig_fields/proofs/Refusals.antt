-- A refusal on its way through the steps behind it.
use Rattle.std.proofs.Common.{◌≡◌, subst}
use Rattle.std.specs.Prelude.{Result, Err}
use Rattle.dsig_fields.specs.Reading.{◌>>=◌, Refuses}
use Rattle.dsig_fields.specs.declared.refusal.FieldRefusal.{FieldRefusal}
use Rattle.dsig_fields.specs.declared.refusal.FieldRefusal.TheVariants.{Missing, Extra, NoAlgorithm, UnknownMethod, Xslt, PublicKey, BadLength, BadBase64, BadFilter, NoUri, TooManyReferences, TooManyTransforms, TooManyFilters, Memory}

-- what is refused first is the answer
pub bind_refused : {A B : Type 0} (refusal : FieldRefusal) (outcome : Result A FieldRefusal) (f : A → Result B FieldRefusal) → Refuses refusal outcome → Refuses refusal (outcome >>= f)
bind_refused (Missing name) outcome f h = rw h
bind_refused (Extra x) outcome f h = rw h
bind_refused (NoAlgorithm x) outcome f h = rw h
bind_refused (UnknownMethod x) outcome f h = rw h
bind_refused (Xslt x) outcome f h = rw h
bind_refused (PublicKey x) outcome f h = rw h
bind_refused (BadLength x) outcome f h = rw h
bind_refused (BadBase64 x) outcome f h = rw h
bind_refused (BadFilter x) outcome f h = rw h
bind_refused (NoUri x) outcome f h = rw h
bind_refused TooManyReferences outcome f h = rw h
bind_refused (TooManyTransforms x) outcome f h = rw h
bind_refused (TooManyFilters x) outcome f h = rw h
bind_refused Memory outcome f h = tt

-- the refusal of an outcome that is another
pub refused_as : {A : Type 0} (refusal : FieldRefusal) {one other : Result A FieldRefusal} → one ≡ other → Refuses refusal one → Refuses refusal other
refused_as {A} refusal e h = let P : Result A FieldRefusal → Type 0 = λ o. Refuses refusal o in subst P e h

-- an outcome that is this refusal
pub refuses : {A : Type 0} (refusal : FieldRefusal) (outcome : Result A FieldRefusal) → outcome ≡ Err refusal → Refuses refusal outcome
refuses (Missing name) outcome h = h
refuses (Extra x) outcome h = h
refuses (NoAlgorithm x) outcome h = h
refuses (UnknownMethod x) outcome h = h
refuses (Xslt x) outcome h = h
refuses (PublicKey x) outcome h = h
refuses (BadLength x) outcome h = h
refuses (BadBase64 x) outcome h = h
refuses (BadFilter x) outcome h = h
refuses (NoUri x) outcome h = h
refuses TooManyReferences outcome h = h
refuses (TooManyTransforms x) outcome h = h
refuses (TooManyFilters x) outcome h = h
refuses Memory outcome h = tt

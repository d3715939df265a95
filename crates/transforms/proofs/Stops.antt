-- Answers of calls that write a view, handed on.
use Rattle.std.proofs.Common.{◌≡◌, ◌∙◌, ℕ, List, [], ◌++◌, Option, Some, None, Result, Ok, Err, refl, sym, ap, subst, arith}
use Rattle.sig_base.specs.Puts.{Appended, AppendedPrefix}
use Rattle.sig_base.proofs.PutsLemmas.{Appended-nil, Appended-then, Appended-as}
use Rattle.dsig_fields.specs.declared.fields.Step.{Step}
use Rattle.transforms.specs.Answers.{Anyhow, Begun, Refused, StopsBy, Writes, WritesBy, Whole}
use Rattle.transforms.specs.Code.Answers.{Goes, GoesBy, Proceeds, Refuses}
use Rattle.transforms.specs.Values.{Origin}
use Rattle.transforms.specs.declared.chain.Left.{Left}
use Rattle.transforms.specs.declared.refusal.RefRefusal.{RefRefusal}
use Rattle.transforms.specs.declared.refusal.RefRefusal.TheVariants as refusal

-- a refusal of one outcome that makes another one refused so is one of the other
pub refuses_on : {A B : Type 0} (cause : RefRefusal) (one : Result A RefRefusal) (other : Result B RefRefusal)
    → (one ≡ Err cause → other ≡ Err cause) → Refuses cause one → Refuses cause other
refuses_on (refusal.Uri uri) one other f e = f e
refuses_on refusal.NoSuchId one other f e = f e
refuses_on (refusal.AmbiguousId i j) one other f e = f e
refuses_on refusal.Absent one other f e = f e
refuses_on refusal.TooLong one other f e = f e
refuses_on (refusal.Read step read) one other f e = f e
refuses_on (refusal.Syntax step part syntax) one other f e = f e
refuses_on (refusal.Eval step part eval) one other f e = f e
refuses_on (refusal.NotBase64 step) one other f e = f e
refuses_on (refusal.EnvelopedElsewhere step) one other f e = f e
refuses_on (refusal.OctetsTooLong step) one other f e = f e
refuses_on refusal.FetchFailed one other f e = absurd e
refuses_on refusal.SinkRefused one other f e = absurd e
refuses_on refusal.Memory one other f e = tt

module _ {S : Type 0} (stands_for : S → List ℕ → Type 0) (refusals : S → ℕ) (makes : S → List ℕ → List ℕ) where
  nothing : (s : S) (outcome : Result (List ℕ) RefRefusal) (cause : RefRefusal) → outcome ≡ Err cause → Refused stands_for refusals makes s s outcome cause
  nothing s outcome cause e = record { is = e; appended = Appended-nil stands_for refusals makes s }

  -- a refusal before anything is written
  pub refused_before : (s : S) (outcome : Result (List ℕ) RefRefusal) (cause : RefRefusal) → Refuses cause outcome → StopsBy stands_for refusals makes s s outcome cause
  refused_before s outcome (refusal.Uri uri) e = nothing s outcome (refusal.Uri uri) e
  refused_before s outcome refusal.NoSuchId e = nothing s outcome refusal.NoSuchId e
  refused_before s outcome (refusal.AmbiguousId i j) e = nothing s outcome (refusal.AmbiguousId i j) e
  refused_before s outcome refusal.Absent e = nothing s outcome refusal.Absent e
  refused_before s outcome refusal.TooLong e = nothing s outcome refusal.TooLong e
  refused_before s outcome (refusal.Read step read) e = nothing s outcome (refusal.Read step read) e
  refused_before s outcome (refusal.Syntax step part syntax) e = nothing s outcome (refusal.Syntax step part syntax) e
  refused_before s outcome (refusal.Eval step part eval) e = nothing s outcome (refusal.Eval step part eval) e
  refused_before s outcome (refusal.NotBase64 step) e = nothing s outcome (refusal.NotBase64 step) e
  refused_before s outcome (refusal.EnvelopedElsewhere step) e = nothing s outcome (refusal.EnvelopedElsewhere step) e
  refused_before s outcome (refusal.OctetsTooLong step) e = nothing s outcome (refusal.OctetsTooLong step) e
  refused_before s outcome refusal.FetchFailed e = absurd e
  refused_before s outcome refusal.SinkRefused e = absurd e
  refused_before s outcome refusal.Memory e = record { octets = []; appended = Appended-nil stands_for refusals makes s }

  pub stops_as : (a b : S) {one other : Result (List ℕ) RefRefusal} (cause : RefRefusal) → one ≡ other
      → StopsBy stands_for refusals makes a b one cause → StopsBy stands_for refusals makes a b other cause
  stops_as a b {one} {other} cause e p = let P : Result (List ℕ) RefRefusal → Type 0 = λ o. StopsBy stands_for refusals makes a b o cause in subst P e p

  pub whole_as : {a b : S} {one other : Result (List ℕ) RefRefusal} → one ≡ other
      → Whole stands_for refusals makes a b one → Whole stands_for refusals makes a b other
  whole_as {a} {b} {one} {other} e p = record { view = p.view; is = sym e ∙ p.is; appended = p.appended }

  -- ---- behind a call that wrote nothing
  pub whole_then : {a b c : S} {outcome : Result (List ℕ) RefRefusal} → Appended stands_for refusals makes a b [] → Whole stands_for refusals makes b c outcome → Whole stands_for refusals makes a c outcome
  whole_then p q = record { view = q.view; is = q.is; appended = Appended-then stands_for refusals makes p q.appended }

  refused_then : {a b c : S} {outcome : Result (List ℕ) RefRefusal} (cause : RefRefusal) → Appended stands_for refusals makes a b [] → Refused stands_for refusals makes b c outcome cause → Refused stands_for refusals makes a c outcome cause
  refused_then cause p q = record { is = q.is; appended = Appended-then stands_for refusals makes p q.appended }

  anyhow_then : {a b c : S} → Appended stands_for refusals makes a b [] → Anyhow stands_for refusals makes b c → Anyhow stands_for refusals makes a c
  anyhow_then p q = record { octets = q.octets; appended = Appended-then stands_for refusals makes p q.appended }

  begun_then : {a b c : S} {outcome : Result (List ℕ) RefRefusal} → Appended stands_for refusals makes a b [] → Begun stands_for refusals makes b c outcome → Begun stands_for refusals makes a c outcome
  begun_then p q = record {
    view = q.view;
    is = q.is;
    appended = record {
      front = q.appended.front;
      back = q.appended.back;
      joined = q.appended.joined;
      appended = Appended-then stands_for refusals makes p q.appended.appended;
      rose = omega (arith, p.later, q.appended.rose);
    };
  }

  pub stops_then : {a b : S} (c : S) (outcome : Result (List ℕ) RefRefusal) (cause : RefRefusal) → Appended stands_for refusals makes a b []
      → StopsBy stands_for refusals makes b c outcome cause → StopsBy stands_for refusals makes a c outcome cause
  stops_then c outcome (refusal.Uri uri) p q = refused_then (refusal.Uri uri) p q
  stops_then c outcome refusal.NoSuchId p q = refused_then refusal.NoSuchId p q
  stops_then c outcome (refusal.AmbiguousId i j) p q = refused_then (refusal.AmbiguousId i j) p q
  stops_then c outcome refusal.Absent p q = refused_then refusal.Absent p q
  stops_then c outcome refusal.TooLong p q = refused_then refusal.TooLong p q
  stops_then c outcome (refusal.Read step read) p q = refused_then (refusal.Read step read) p q
  stops_then c outcome (refusal.Syntax step part syntax) p q = refused_then (refusal.Syntax step part syntax) p q
  stops_then c outcome (refusal.Eval step part eval) p q = refused_then (refusal.Eval step part eval) p q
  stops_then c outcome (refusal.NotBase64 step) p q = refused_then (refusal.NotBase64 step) p q
  stops_then c outcome (refusal.EnvelopedElsewhere step) p q = refused_then (refusal.EnvelopedElsewhere step) p q
  stops_then c outcome (refusal.OctetsTooLong step) p q = refused_then (refusal.OctetsTooLong step) p q
  stops_then c outcome refusal.FetchFailed p q = absurd q
  stops_then c outcome refusal.SinkRefused p q = begun_then p q
  stops_then c outcome refusal.Memory p q = anyhow_then p q

  pub proceeds_as : {a b : S} {origin : Origin} {steps : List Step} {done : ℕ} {one other : Result (List ℕ) RefRefusal} {result : Result (Option Left) RefRefusal} → one ≡ other
      → Proceeds stands_for refusals makes a b origin steps done one result → Proceeds stands_for refusals makes a b origin steps done other result
  proceeds_as {a} {b} {origin} {steps} {done} {one} {other} {result} e p =
      let P : Result (List ℕ) RefRefusal → Type 0 = λ o. Proceeds stands_for refusals makes a b origin steps done o result in subst P e p

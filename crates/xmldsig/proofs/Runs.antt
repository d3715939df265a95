-- From an ending and what was printed about it to the status.
use Rattle.std.proofs.Common.{◌≡◌, ◌≢◌, inl, inr, ◌<◌, ◌≤◌, ◌+◌, ◌-◌, ◌++◌, cond, length, nat_lt, ◌∷◌, ap, sym, subst, refl, arith, ◌∙◌, ℕ, List, [], take, Option, Some, None, Result}
use Rattle.std.specs.Option.{ForSome}
use Rattle.std.proofs.Math.Seq.{take-nil}
use Rattle.sig_outside.specs.Told.{Grew, Held}
use Rattle.signed_views.specs.Handing.{EachGrew, Pair}
use Rattle.transforms.specs.declared.outcome.Report.{Report}
use Rattle.transforms.specs.declared.outcome.Report.TheVariants.{SignatureDiffers, ShortTruncation, Valid, DigestsDiffer}
use Rattle.job_words.specs.declared.job.Job.{Job}
use Rattle.xmldsig.specs.Ending.{GrewTowards, everywhere}
use Rattle.xmldsig.specs.Code.Ending.{AsksBy, EndsWords, FolderCounts, KeepersHave, Settled, Settles, SettlesWords, ViewCause}
use Rattle.xmldsig.specs.Headline.{Agrees, AskedBy, ErrBy, FolderBy, Headline, IsLine, KeeperCause, KeepersBy, NoFault, OutBy, SinksBy, Truth, UsageBy, ViewFailedBy, line_for, outcome_status, text_for}
use Rattle.xmldsig.specs.Outcome.{Answer, names_for, run_outcome, views_of, wanted}
use Rattle.xmldsig.specs.Outside.{Asking, Moved, Outside, Stream, outside}
use Rattle.xmldsig.specs.Printed.{Said, err_of, report_status, status_of}
use Rattle.xmldsig.specs.Code.Printed.{out_of}
use Rattle.xmldsig.specs.Texts.{err_text, out_text, refusal_line, usage_line}
use Rattle.xmldsig.specs.declared.ending.Refusal.{Refusal}
use Rattle.xmldsig.specs.declared.ending.Ending.{Ending}
use Rattle.xmldsig.specs.declared.ending.Ending.TheVariants as ending
use Rattle.xmldsig.specs.declared.ending.Status.{Status}
use Rattle.xmldsig.specs.declared.ending.Status.TheVariants as status
use Rattle.xmldsig.proofs.Agreed.{agreed}
use Rattle.xmldsig.proofs.Endings.{have_all, some_names}
use Rattle.xmldsig.proofs.Told.{still}

-- what holds of the status that was meant and of WriteFault holds of the status
by_said : (C : Status → Type 0) (text line : List ℕ) (meant result : Status) (out out' err err' : Stream)
    → Said text line meant result out out' err err' → C meant → C status.WriteFault → C result
by_said C text line meant result out out' err err' (inl s) m w = subst C (sym s.status) m
by_said C text line meant result out out' err err' (inr (inl s)) m w = subst C (sym s.status) w
by_said C text line meant result out out' err err' (inr (inr s)) m w = subst C (sym s.status) w

-- what holds of Valid and of Invalid holds of a report's status
by_report : (C : Status → Type 0) (report : Report) → C status.Valid → C status.Invalid → C (report_status report)
by_report C SignatureDiffers v i = i
by_report C (ShortTruncation bits) v i = i
by_report C (DigestsDiffer numbers) v i = i
by_report C (Valid views) v i = v

-- ---- the answer

agrees_report : (views : Option (List ℕ)) (outcome : Result Answer Refusal) (report : Report) → outcome_status outcome ≡ report_status report
    → Agrees views outcome (report_status report)
agrees_report views outcome SignatureDiffers e = e
agrees_report views outcome (ShortTruncation bits) e = e
agrees_report views outcome (DigestsDiffer numbers) e = e
agrees_report views outcome (Valid kept) e = e

agrees_at : (views : Option (List ℕ)) (outcome : Result Answer Refusal) (x : Ending) → Settles views outcome x
    → Agrees views outcome (status_of x)
agrees_at views outcome ending.Usage s = s
agrees_at views outcome ending.ReadFault s = tt
agrees_at views outcome ending.Memory s = tt
agrees_at views outcome (ending.ViewFault view keeper) s = s
agrees_at views outcome (ending.Refused refusal told) s = ap outcome_status s.0
agrees_at views outcome (ending.Reported found text) s = agrees_report views outcome found.report (ap outcome_status s.0)
agrees_at views outcome (ending.Written octets) s = ap outcome_status s

usage_at : (named : Option Job) (x : Ending) → EndsWords named x → UsageBy named (status_of x)
usage_at None ending.Usage h = tt
usage_at None ending.ReadFault h = h
usage_at None ending.Memory h = tt
usage_at None (ending.ViewFault view keeper) h = absurd h
usage_at None (ending.Refused refusal told) h = absurd h
usage_at None (ending.Reported found text) h = absurd h
usage_at None (ending.Written octets) h = absurd h
usage_at (Some job) ending.Usage h = h
usage_at (Some job) ending.ReadFault h = h
usage_at (Some job) ending.Memory h = tt
usage_at (Some job) (ending.ViewFault view keeper) h = h
usage_at (Some job) (ending.Refused refusal told) h = tt
usage_at (Some job) (ending.Reported found text) h = by_report (UsageBy (Some job)) found.report h h
usage_at (Some job) (ending.Written octets) h = h

usage_write : (named : Option Job) → UsageBy named status.WriteFault
usage_write None = tt
usage_write (Some job) = tt

-- ---- the folder

folder_at : (x : Ending) (before now : ℕ) → FolderCounts x before now → FolderBy (status_of x) before now
folder_at ending.Usage before now h = h
folder_at ending.ReadFault before now h = h
folder_at ending.Memory before now h = h
folder_at (ending.ViewFault view keeper) before now h = h
folder_at (ending.Refused refusal told) before now h = h
folder_at (ending.Reported found text) before now h = by_report (λ s. FolderBy s before now) found.report h h
folder_at (ending.Written octets) before now h = h

folder_later : (x : Ending) (before now : ℕ) → FolderCounts x before now → before ≤ now
folder_later ending.Usage before now h = omega arith
folder_later ending.ReadFault before now h = h.0
folder_later ending.Memory before now h = omega arith
folder_later (ending.ViewFault view keeper) before now h = omega arith
folder_later (ending.Refused refusal told) before now h = omega arith
folder_later (ending.Reported found text) before now h = omega arith
folder_later (ending.Written octets) before now h = omega arith

asks_at : (x : Ending) (names old new : List (List ℕ)) → AsksBy x names old new → AskedBy (status_of x) names old new
asks_at ending.Usage names old new h = h
asks_at ending.ReadFault names old new h = h
asks_at ending.Memory names old new h = h
asks_at (ending.ViewFault view keeper) names old new h = h
asks_at (ending.Refused refusal told) names old new h = h
asks_at (ending.Reported found text) names old new h = by_report (λ s. AskedBy s names old new) found.report h h
asks_at (ending.Written octets) names old new h = h

asks_prefix : (x : Ending) (names old new : List (List ℕ)) → AsksBy x names old new → (n : ℕ) × (new ≡ old ++ take n names)
asks_prefix ending.Usage names old new h = some_names names old new h
asks_prefix ending.ReadFault names old new h = h
asks_prefix ending.Memory names old new h = h
asks_prefix (ending.ViewFault view keeper) names old new h = some_names names old new h
asks_prefix (ending.Refused refusal told) names old new h = some_names names old new h
asks_prefix (ending.Reported found text) names old new h = some_names names old new h
asks_prefix (ending.Written octets) names old new h = some_names names old new h

-- ---- out and err

calm_at : (x : Ending) (out out' err err' : Stream) → out'.faults ≡ out.faults → err'.faults ≡ err.faults
    → SinksBy (status_of x) out out' err err'
calm_at ending.Usage out out' err err' a b = (a, b)
calm_at ending.ReadFault out out' err err' a b = (a, b)
calm_at ending.Memory out out' err err' a b = (a, b)
calm_at (ending.ViewFault view keeper) out out' err err' a b = (a, b)
calm_at (ending.Refused refusal told) out out' err err' a b = (a, b)
calm_at (ending.Reported found text) out out' err err' a b = by_report (λ s. SinksBy s out out' err err') found.report (a, b) (a, b)
calm_at (ending.Written octets) out out' err err' a b = (a, b)

sinks_by : (x : Ending) (text line : List ℕ) (result : Status) (out out' err err' : Stream)
    → Said text line (status_of x) result out out' err err' → SinksBy result out out' err err'
sinks_by x text line result out out' err err' (inl s) =
    let C : Status → Type 0 = λ r. SinksBy r out out' err err' in
    subst C (sym s.status) (calm_at x out out' err err' s.on_out.calm s.on_err.calm)
sinks_by x text line result out out' err err' (inr (inl s)) =
    let C : Status → Type 0 = λ r. SinksBy r out out' err err' in
    subst C (sym s.status) (s.on_out.later, elim s.on_err [ inl h ↦ omega (arith, h.calm) | inr h ↦ h.later ], inl s.on_out.rose)
sinks_by x text line result out out' err err' (inr (inr s)) =
    let C : Status → Type 0 = λ r. SinksBy r out out' err err' in
    subst C (sym s.status) (omega (arith, s.on_out.calm), s.on_err.later, inr s.on_err.rose)

-- the text and the line that belong to an ending: those of the outcome, where it is told
abbrev Tells : (text line : List ℕ) → Ending → Type 0
Tells text line (ending.Reported found told) = (told ≡ text) × (line ≡ [])
Tells text line (ending.Written octets) = (octets ≡ text) × (line ≡ [])
Tells text line (ending.Refused refusal told) = (told ≡ line) × (text ≡ []) × (told ≡ refusal_line refusal)
Tells text line ending.Usage = usage_line ≡ line
Tells text line other = Unit {0}

tells : (views : Option (List ℕ)) (outcome : Result Answer Refusal) (x : Ending) → Settles views outcome x
    → Tells (out_text outcome) (err_text outcome) x
tells views outcome ending.Usage s = absurd s
tells views outcome ending.ReadFault s = tt
tells views outcome ending.Memory s = tt
tells views outcome (ending.ViewFault view keeper) s = tt
tells views outcome (ending.Refused refusal told) s = (s.1 ∙ sym (ap err_text s.0), ap out_text s.0, s.1)
tells views outcome (ending.Reported found told) s = (s.1 ∙ sym (ap out_text s.0), ap err_text s.0)
tells views outcome (ending.Written octets) s = (sym (ap out_text s), ap err_text s)

tells_nothing : (x : Ending) → EndsWords None x → Tells [] usage_line x
tells_nothing ending.Usage h = refl
tells_nothing ending.ReadFault h = tt
tells_nothing ending.Memory h = tt
tells_nothing (ending.ViewFault view keeper) h = absurd h
tells_nothing (ending.Refused refusal told) h = absurd h
tells_nothing (ending.Reported found told) h = absurd h
tells_nothing (ending.Written octets) h = absurd h

-- the same for the words, whether they name a job or not
tells_for : (named : Option Job) (files : Held) (x : Ending) → EndsWords named x → SettlesWords named files x
    → Tells (text_for named files) (line_for named files) x
tells_for None files x words settles = tells_nothing x words
tells_for (Some job) files x words settles = tells (views_of job) (run_outcome job files) x settles

out_at : (text line : List ℕ) (x : Ending) (old new : Option (List ℕ)) → Tells text line x → Grew old new (out_of x)
    → OutBy text (status_of x) old new
out_at text line ending.Usage old new t w = w
out_at text line ending.ReadFault old new t w = w
out_at text line ending.Memory old new t w = w
out_at text line (ending.ViewFault view keeper) old new t w = w
out_at text line (ending.Refused refusal told) old new t w = rw t.1 w
out_at text line (ending.Reported found told) old new t w = by_report (λ s. OutBy text s old new) found.report (rw (← t.0) w) (rw (← t.0) w)
out_at text line (ending.Written octets) old new t w = rw (← t.0) w

out_part : (text line : List ℕ) (x : Ending) (n : ℕ) (old new : Option (List ℕ)) → Tells text line x → Grew old new (take n (out_of x))
    → OutBy text status.WriteFault old new
out_part text line ending.Usage n old new t w = (0, rw take-nil at w)
out_part text line ending.ReadFault n old new t w = (0, rw take-nil at w)
out_part text line ending.Memory n old new t w = (0, rw take-nil at w)
out_part text line (ending.ViewFault view keeper) n old new t w = (0, rw take-nil at w)
out_part text line (ending.Refused refusal told) n old new t w = (0, rw take-nil at w)
out_part text line (ending.Reported found told) n old new t w = (n, rw (← t.0) w)
out_part text line (ending.Written octets) n old new t w = (n, rw (← t.0) w)

out_by : (text line shown : List ℕ) (x : Ending) (result : Status) (out out' err err' : Stream) → Tells text line x
    → Said (out_of x) shown (status_of x) result out out' err err' → OutBy text result out.told out'.told
out_by text line shown x result out out' err err' t (inl s) =
    let C : Status → Type 0 = λ r. OutBy text r out.told out'.told in subst C (sym s.status)
    (out_at text line x out.told out'.told t s.on_out.told)
out_by text line shown x result out out' err err' t (inr (inl s)) =
    let C : Status → Type 0 = λ r. OutBy text r out.told out'.told in subst C (sym s.status)
    (out_part text line x s.on_out.kept out.told out'.told t s.on_out.told)
out_by text line shown x result out out' err err' t (inr (inr s)) =
    let C : Status → Type 0 = λ r. OutBy text r out.told out'.told in subst C (sym s.status) (0, s.on_out.told)

err_at : (text line : List ℕ) (x : Ending) (out out' err err' : Stream) → Tells text line x → Grew err.told err'.told (err_of x)
    → ErrBy line (status_of x) out out' err err'
err_at text line ending.Usage out out' err err' t w = w
err_at text line ending.ReadFault out out' err err' t w = w
err_at text line ending.Memory out out' err err' t w = w
err_at text line (ending.ViewFault view keeper) out out' err err' t w = (view, keeper, w)
err_at text line (ending.Refused refusal told) out out' err err' t w = rw (← t.0) w
err_at text line (ending.Reported found told) out out' err err' t w =
    by_report (λ s. ErrBy line s out out' err err') found.report (rw t.1 w) (rw t.1 w)
err_at text line (ending.Written octets) out out' err err' t w = rw t.1 w

-- what an ending says on err is a line that was to be printed there
line_of : (text line : List ℕ) (x : Ending) → Tells text line x → IsLine line (err_of x)
line_of text line ending.Usage t = inl t
line_of text line ending.ReadFault t = inr (inl refl)
line_of text line ending.Memory t = inr (inr (inl refl))
line_of text line (ending.ViewFault view keeper) t = inr (inr (inr (view, keeper, refl)))
line_of text line (ending.Refused refusal told) t = inl t.0
line_of text line (ending.Reported found told) t = inl (sym t.1)
line_of text line (ending.Written octets) t = inl (sym t.1)

err_by : (text line shown : List ℕ) (x : Ending) (result : Status) (out out' err err' : Stream) → Tells text line x
    → Said shown (err_of x) (status_of x) result out out' err err' → ErrBy line result out out' err err'
err_by text line shown x result out out' err err' t (inl s) =
    let C : Status → Type 0 = λ r. ErrBy line r out out' err err' in subst C (sym s.status)
    (err_at text line x out out' err err' t s.on_err.told)
err_by text line shown x result out out' err err' t (inr (inl s)) =
    let C : Status → Type 0 = λ r. ErrBy line r out out' err err' in
    subst C (sym s.status) (inl (record { rose = s.on_out.rose; told = s.on_err }))
err_by text line shown x result out out' err err' t (inr (inr s)) =
    let C : Status → Type 0 = λ r. ErrBy line r out out' err err' in
    subst C (sym s.status) (inr (record { calm = s.on_out.calm; meant = err_of x; is_line = line_of text line x t; told = s.on_err }))

-- ---- the keepers

keepers_at : {K : Type 0} (pairs : K → Option (List Pair)) (all : List Pair) (old new : List K) (x : Ending)
    → KeepersHave all x pairs old new → KeepersBy all (status_of x) pairs old new
keepers_at pairs all old new ending.Usage h = h
keepers_at pairs all old new ending.ReadFault h = h
keepers_at pairs all old new ending.Memory h = h
keepers_at pairs all old new (ending.ViewFault view keeper) h = (λ k. cond (nat_lt (k + 1) keeper) view (view - 1), h)
keepers_at pairs all old new (ending.Refused refusal told) h = h
keepers_at pairs all old new (ending.Reported found text) h = by_report (λ s. KeepersBy all s pairs old new) found.report h h
keepers_at pairs all old new (ending.Written octets) h = h

nothing : {K : Type 0} (pairs : K → Option (List Pair)) (all : List Pair) (old new : List K) → EachGrew pairs (everywhere []) old new
    → GrewTowards pairs all old new
nothing pairs all old new grew = (λ k. 0, grew)

keepers_prefix : {K : Type 0} (pairs : K → Option (List Pair)) (all : List Pair) (old new : List K) (x : Ending)
    → KeepersHave all x pairs old new → GrewTowards pairs all old new
keepers_prefix pairs all old new ending.Usage h = nothing pairs all old new h
keepers_prefix pairs all old new ending.ReadFault h = nothing pairs all old new h
keepers_prefix pairs all old new ending.Memory h = h
keepers_prefix pairs all old new (ending.ViewFault view keeper) h = (λ k. cond (nat_lt (k + 1) keeper) view (view - 1), h)
keepers_prefix pairs all old new (ending.Refused refusal told) h = nothing pairs all old new h
keepers_prefix pairs all old new (ending.Reported found text) h = have_all pairs old new all h
keepers_prefix pairs all old new (ending.Written octets) h = have_all pairs old new all h

-- what holds of an ending, of what it says on err, and of every other status
failed_at : {K : Type 0} (all : List Pair) (pairs : K → Option (List Pair)) (old new : List K) (x : Ending) (err err' : Stream)
    → KeepersHave all x pairs old new → Grew err.told err'.told (err_of x)
    → ViewFailedBy all (status_of x) pairs old new err err'
failed_at all pairs old new ending.Usage err err' h w = tt
failed_at all pairs old new ending.ReadFault err err' h w = tt
failed_at all pairs old new ending.Memory err err' h w = tt
failed_at all pairs old new (ending.ViewFault view keeper) err err' h w = record { view = view; keeper = keeper; told = w; have = h }
failed_at all pairs old new (ending.Refused refusal told) err err' h w = tt
failed_at all pairs old new (ending.Reported found text) err err' h w =
    by_report (λ s. ViewFailedBy all s pairs old new err err') found.report tt tt
failed_at all pairs old new (ending.Written octets) err err' h w = tt

failed_by : {K : Type 0} (all : List Pair) (pairs : K → Option (List Pair)) (old new : List K) (x : Ending) (text : List ℕ)
    (result : Status) (out out' err err' : Stream)
    → Said text (err_of x)
    (status_of x) result out out' err err' → KeepersHave all x pairs old new → ViewFailedBy all result pairs old new err err'
failed_by all pairs old new x text result out out' err err' (inl s) h =
    let C : Status → Type 0 = λ r. ViewFailedBy all r pairs old new err err' in subst C (sym s.status)
    (failed_at all pairs old new x err err' h s.on_err.told)
failed_by all pairs old new x text result out out' err err' (inr (inl s)) h =
    let C : Status → Type 0 = λ r. ViewFailedBy all r pairs old new err err' in subst C (sym s.status) tt
failed_by all pairs old new x text result out out' err err' (inr (inr s)) h =
    let C : Status → Type 0 = λ r. ViewFailedBy all r pairs old new err err' in subst C (sym s.status) tt

cause_at : {K : Type 0} (faults : K → ℕ) (old new : List K) (x : Ending) (err err' : Stream) → ViewCause faults x old new
    → Grew err.told err'.told (err_of x) → KeeperCause faults (status_of x) old new err err'
cause_at faults old new ending.Usage err err' h w = tt
cause_at faults old new ending.ReadFault err err' h w = tt
cause_at faults old new ending.Memory err err' h w = tt
cause_at faults old new (ending.ViewFault view keeper) err err' h w = record { view = view; keeper = keeper; told = w; rose = h }
cause_at faults old new (ending.Refused refusal told) err err' h w = tt
cause_at faults old new (ending.Reported found text) err err' h w = by_report (λ s. KeeperCause faults s old new err err') found.report tt tt
cause_at faults old new (ending.Written octets) err err' h w = tt

cause_by : {K : Type 0} (faults : K → ℕ) (old new : List K) (x : Ending) (text : List ℕ) (result : Status) (out out' err err' : Stream)
    → Said text (err_of x) (status_of x) result out out' err err' → ViewCause faults x old new → KeeperCause faults result old new err err'
cause_by faults old new x text result out out' err err' (inl s) h =
    let C : Status → Type 0 = λ r. KeeperCause faults r old new err err' in subst C (sym s.status)
    (cause_at faults old new x err err' h s.on_err.told)
cause_by faults old new x text result out out' err err' (inr (inl s)) h =
    let C : Status → Type 0 = λ r. KeeperCause faults r old new err err' in subst C (sym s.status) tt
cause_by faults old new x text result out out' err err' (inr (inr s)) h =
    let C : Status → Type 0 = λ r. KeeperCause faults r old new err err' in subst C (sym s.status) tt

-- ---- out moves only behind the views

-- a line on err begins with a letter
no_text : (c : ℕ) (rest : List ℕ) → c ∷ rest ≡ [] → ⊥
no_text c rest e = cc

refused_line : (refusal : Refusal) → refusal_line refusal ≡ [] → ⊥
refused_line refusal e = no_text _ _ e

unmoved : (line : List ℕ) (meant result : Status) (out out' err err' : Stream) → Said [] line meant result out out' err err'
    → (line ≡ [] → ⊥) → Moved out out' → ⊥
unmoved line meant result out out' err err' (inl s) loud moved = still out out' s.on_out moved
unmoved line meant result out out' err err' (inr (inl s)) loud moved = loud s.silent
unmoved line meant result out out' err err' (inr (inr s)) loud moved = still out out' s.on_out moved

handed_first : {K : Type 0} (all : List Pair) (pairs : K → Option (List Pair)) (old new : List K) (text line : List ℕ) (x : Ending)
    (result : Status) (out out' err err' : Stream)
    → Tells text line x → Said (out_of x) (err_of x)
    (status_of x) result out out' err err' → KeepersHave all x pairs old new → Moved out out' → EachGrew pairs (everywhere all) old new
handed_first all pairs old new text line ending.Usage result out out' err err' t said h moved =
    absurd (unmoved _ _ _ _ _ _ _ said (λ e. no_text _ _ e) moved)
handed_first all pairs old new text line ending.ReadFault result out out' err err' t said h moved =
    absurd (unmoved _ _ _ _ _ _ _ said (λ e. no_text _ _ e) moved)
handed_first all pairs old new text line ending.Memory result out out' err err' t said h moved =
    absurd (unmoved _ _ _ _ _ _ _ said (λ e. no_text _ _ e) moved)
handed_first all pairs old new text line (ending.ViewFault view keeper) result out out' err err' t said h moved =
    absurd (unmoved _ _ _ _ _ _ _ said (λ e. no_text _ _ e) moved)
handed_first all pairs old new text line (ending.Refused refusal told) result out out' err err' t said h moved =
    absurd (unmoved _ _ _ _ _ _ _ said (λ e. refused_line refusal (sym t.2 ∙ e)) moved)
handed_first all pairs old new text line (ending.Reported found told) result out out' err err' t said h moved = h
handed_first all pairs old new text line (ending.Written octets) result out out' err err' t said h moved = h

-- ---- all together

some_of : {K : Type 0} (xs : List K) (k : ℕ) → k < length xs → K
some_of [] k lt = absurd (omega arith)
some_of (x ∷ xs) k lt = x

-- where no count rose and memory was not wanting, the status is that of the outcome
exactly_at : {K : Type 0} (faults : K → ℕ) (views : Option (List ℕ)) (outcome : Result Answer Refusal) (s : Status) (old new : Outside K)
    → Agrees views outcome s → FolderBy s old.folder.faults new.folder.faults → SinksBy s old.out new.out old.err new.err
    → KeeperCause faults s old.keepers new.keepers old.err new.err → NoFault faults old new → s ≢ status.Memory → s ≡ outcome_status outcome
exactly_at faults views outcome status.Done old new a b w k quiet fine = sym a
exactly_at faults views outcome status.Valid old new a b w k quiet fine = sym a
exactly_at faults views outcome status.Invalid old new a b w k quiet fine = sym a
exactly_at faults views outcome status.Refused old new a b w k quiet fine = sym a
exactly_at faults views outcome status.Usage old new a b w k quiet fine = absurd a
exactly_at faults views outcome status.ReadFault old new a b w k quiet fine = absurd (quiet.folder b.1)
exactly_at faults views outcome status.WriteFault old new a b w k quiet fine =
    absurd (elim w.2 [ inl r ↦ quiet.out r | inr r ↦ quiet.err r ])
exactly_at faults views outcome status.ViewFault old new a b w k quiet fine =
    let d = some_of old.keepers (k.keeper - 1) k.rose.within in
    absurd (quiet.keepers (k.keeper - 1) d k.rose.within (k.rose.rose d))
exactly_at faults views outcome status.Memory old new a b w k quiet fine = absurd (fine refl)

settled_job : (named : Option Job) (files : Held) (x : Ending) (job : Job) → named ≡ Some job → SettlesWords named files x
    → Settles (views_of job) (run_outcome job files) x
settled_job named files x job is s = let C : Option Job → Type 0 = λ n. SettlesWords n files x in subst C is s

verdict_of : (named : Option Job) (files : Held) (x : Ending) (result : Status) (out out' err err' : Stream) (job : Job)
    → named ≡ Some job → SettlesWords named files x → Said (out_of x) (err_of x) (status_of x) result out out' err err' → Agrees
    (views_of job) (run_outcome job files) result
verdict_of named files x result out out' err err' job is settles said =
    by_said (Agrees (views_of job) (run_outcome job files)) _ _ (status_of x) result out out' err err' said
    (agrees_at (views_of job) (run_outcome job files) x (settled_job named files x job is settles)) tt

truth : {K : Type 0} (pairs : K → Option (List Pair)) (faults : K → ℕ) (named : Option Job) (held : Option Held) (x : Ending)
    (result : Status) (old new : Asking) (keepers keepers' : List K) (out out' err err' : Stream)
    → (settled : Settled pairs faults named held x old new keepers keepers') →
    (said : Said (out_of x) (err_of x) (status_of x) result out out' err err')
    → ForSome held (λ files. Truth pairs faults named files result (outside old keepers out err) (outside new keepers' out' err'))
truth pairs faults named held x result old new keepers keepers' out out' err err' settled said = λ files e.
    let over = settled.over files e in
    let tells = tells_for named files x settled.words over.outcome in
    let all = wanted named files in
    record {
      verdict = λ job is. verdict_of named files x result out out' err err' job is over.outcome said;
      exactly = λ job is quiet fine. exactly_at faults (views_of job) (run_outcome job files) result (outside old keepers out err)
          (outside new keepers' out' err')
          (verdict_of named files x result out out' err err' job is over.outcome said)
          (by_said (λ s. FolderBy s old.faults new.faults) _ _ (status_of x) result out out' err err' said (folder_at x old.faults new.faults settled.folder) (folder_later x old.faults new.faults settled.folder))
          (sinks_by x _ _ result out out' err err' said)
          (cause_by faults keepers keepers' x _ result out out' err err' said settled.cause)
          quiet fine;
      agreed = λ job is. agreed job files;
      asked = by_said (λ s. AskedBy s (names_for named files) old.names new.names) _ _ (status_of x) result out out' err err' said
          (asks_at x (names_for named files) old.names new.names over.asked)
          (asks_prefix x (names_for named files) old.names new.names over.asked);
      printed = out_by (text_for named files) (line_for named files) _ x result out out' err err' tells said;
      told = err_by (text_for named files) (line_for named files) _ x result out out' err err' tells said;
      keepers = by_said (λ s. KeepersBy all s pairs keepers keepers') _ _ (status_of x) result out out' err err' said
          (keepers_at pairs all keepers keepers' x over.have) (keepers_prefix pairs all keepers keepers' x over.have);
      failed = failed_by all pairs keepers keepers' x _ result out out' err err' said over.have;
      handed = λ moved. handed_first all pairs keepers keepers' (text_for named files)
          (line_for named files) x result out out' err err' tells said over.have moved;
    }

pub headline : {K : Type 0} (pairs : K → Option (List Pair)) (faults : K → ℕ) (named : Option Job) (held : Option Held) (x : Ending)
    (result : Status) (old new : Asking) (keepers keepers' : List K) (out out' err err' : Stream)
    → Settled pairs faults named held x old new keepers keepers' → Said (out_of x) (err_of x) (status_of x) result out out' err err'
    → Headline pairs faults named held result (outside old keepers out err) (outside new keepers' out' err')
headline pairs faults named held x result old new keepers keepers' out out' err err' settled said = record {
  usage = by_said (UsageBy named) _ _ (status_of x) result out out' err err' said (usage_at named x settled.words) (usage_write named);
  folder = by_said (λ s. FolderBy s old.faults new.faults) _ _ (status_of x) result out out' err err' said
      (folder_at x old.faults new.faults settled.folder) (folder_later x old.faults new.faults settled.folder);
  sinks = sinks_by x _ _ result out out' err err' said;
  number = settled.number;
  counts = settled.counts;
  cause = cause_by faults keepers keepers' x _ result out out' err err' said settled.cause;
  truth = truth pairs faults named held x result old new keepers keepers' out out' err err' settled said;
}

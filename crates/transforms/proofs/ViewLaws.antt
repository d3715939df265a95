-- The view of a Reference, by what it refers to, and what the clauses on sinks and folders say of each answer.
use Rattle.std.proofs.Common.{◌≡◌, ◌∙◌, ◌≤◌, ℕ, Bool, true, List, [], ◌∷◌, ◌++◌, length, take, Option, Some, None, Result, Ok, Err, refl, sym, ap, subst, arith, append-nil}
use Rattle.std.specs.Prelude.{encode_utf8_all}
use Rattle.std.proofs.lemmas.List.{take_all}
use Rattle.sig_base.specs.Puts.{Appended, AppendedPrefix}
use Rattle.sig_base.proofs.PutsLemmas.{Appended-nil}
use Rattle.sig_outside.specs.Told.{Held}
use Rattle.node_sets.specs.Members.{SetOf, has}
use Rattle.xml_doc.specs.Ids.{answer_of, bearers}
use Rattle.xml_doc.specs.Rows.{RowOf}
use Rattle.dsig_fields.specs.declared.fields.Reference.{Reference}
use Rattle.dsig_fields.specs.declared.fields.Step.{Step}
use Rattle.uri_refs.specs.declared.target.Place.{Place}
use Rattle.uri_refs.specs.declared.target.Target.{Target}
use Rattle.uri_refs.specs.declared.target.Target.TheVariants as target
use Rattle.transforms.specs.Answers.{Anyhow, AsksAll, Began, FaultCounts, Leaves, LeavesBy, Limited, StopsBy, Views, Whole, Writes}
use Rattle.transforms.specs.Code.Answers.{BlamesNoSink, Refuses, nodes_of}
use Rattle.sig_base.specs.Outcomes.{and_then}
use Rattle.transforms.specs.Start.{file_value, in_element, in_whole, own_set, selected, start}
use Rattle.transforms.specs.Steps.{octet_limit}
use Rattle.transforms.specs.Values.{OfNodes, OfOctets, Origin, Value}
use Rattle.transforms.specs.Views.{target_in, view_from, view_of}
use Rattle.transforms.specs.declared.refusal.RefRefusal.{RefRefusal}
use Rattle.transforms.specs.declared.refusal.RefRefusal.TheVariants as refusal

module _ (origin : Origin) (place : Place) (files : Held) (reference : Reference) where
  -- what the target of a Reference makes its view
  pub at_target : (r : Result Target RefRefusal) → target_in place reference ≡ r
      → view_of origin place files reference ≡ and_then r (λ t. and_then (start origin.rows files t) (view_from origin 1 reference.steps))
  unfolding view_of
  at_target r e = ap (λ (x : Result Target RefRefusal). and_then x (λ t. and_then (start origin.rows files t) (view_from origin 1 reference.steps))) e

  pub no_target : (cause : RefRefusal) → target_in place reference ≡ Err cause → view_of origin place files reference ≡ Err cause
  no_target cause e = at_target (Err cause) e

  pub at_whole : (comments : Bool) → target_in place reference ≡ Ok (target.Whole comments)
      → view_of origin place files reference ≡ view_from origin 1 reference.steps (own_set origin.rows (in_whole comments origin.rows))
  unfolding start
  at_whole comments e = at_target (Ok (target.Whole comments)) e

  pub at_element : (id : List ℕ) (comments : Bool) (r : Result (ℕ → Bool) RefRefusal) → target_in place reference ≡ Ok (target.Element id comments)
      → and_then (selected (answer_of (bearers origin.rows (encode_utf8_all id)))) (λ e. Ok (in_element comments origin.rows e)) ≡ r
      → view_of origin place files reference ≡ and_then r (λ set. view_from origin 1 reference.steps (own_set origin.rows set))
  unfolding start
  at_element id comments r e is =
      at_target (Ok (target.Element id comments)) e ∙ go (selected (answer_of (bearers origin.rows (encode_utf8_all id))))
      ∙ ap (λ (x : Result (ℕ → Bool) RefRefusal). and_then x (λ set. view_from origin 1 reference.steps (own_set origin.rows set))) is
    where
      go : (s : Result ℕ RefRefusal)
          → and_then (and_then s (λ e. Ok (own_set origin.rows (in_element comments origin.rows e)))) (view_from origin 1 reference.steps)
          ≡ and_then (and_then s (λ e. Ok (in_element comments origin.rows e))) (λ set. view_from origin 1 reference.steps (own_set origin.rows set))
      go (Ok e) = refl
      go (Err cause) = refl

  pub at_name : (name : List ℕ) → target_in place reference ≡ Ok (target.Named name)
      → view_of origin place files reference ≡ and_then (file_value (files (encode_utf8_all name))) (view_from origin 1 reference.steps)
  unfolding start
  at_name name e = at_target (Ok (target.Named name)) e

-- a set of the own document in the program
pub own_is : (set : SetOf) (rows : List RowOf) (test : ℕ → Bool) → set.rows ≡ rows → has set.members ≡ test → OfNodes (nodes_of true set) ≡ own_set rows test
own_is set rows test e same = rw (e, same) refl

module _ {S : Type 0} (stands_for : S → List ℕ → Type 0) (refusals : S → ℕ) (makes : S → List ℕ → List ℕ) where
  pub writes_as : {a b : S} {one other : Result (List ℕ) RefRefusal} {result : Result (Unit {0}) RefRefusal} → one ≡ other
      → Writes stands_for refusals makes a b one result → Writes stands_for refusals makes a b other result
  writes_as {a} {b} {one} {other} {result} e p = let P : Result (List ℕ) RefRefusal → Type 0 = λ o. Writes stands_for refusals makes a b o result in subst P e p

  pub views_by : (a b : S) (outcome : Result (List ℕ) RefRefusal) (result : Result (Unit {0}) RefRefusal) → Writes stands_for refusals makes a b outcome result → Views stands_for refusals makes a b outcome result
  views_by a b outcome (Ok done) p = p
  views_by a b outcome (Err (refusal.Uri uri)) p = p
  views_by a b outcome (Err refusal.NoSuchId) p = p
  views_by a b outcome (Err (refusal.AmbiguousId i j)) p = p
  views_by a b outcome (Err refusal.Absent) p = p
  views_by a b outcome (Err refusal.TooLong) p = p
  views_by a b outcome (Err (refusal.Read step read)) p = p
  views_by a b outcome (Err (refusal.Syntax step part syntax)) p = p
  views_by a b outcome (Err (refusal.Eval step part eval)) p = p
  views_by a b outcome (Err (refusal.NotBase64 step)) p = p
  views_by a b outcome (Err (refusal.EnvelopedElsewhere step)) p = p
  views_by a b outcome (Err (refusal.OctetsTooLong step)) p = p
  views_by a b outcome (Err refusal.FetchFailed) p = tt
  views_by a b outcome (Err refusal.SinkRefused) p = p
  views_by a b outcome (Err refusal.Memory) p = p

  -- ---- the sink, over every folder
  pub leaves_stop : (a b : S) (outcome : Result (List ℕ) RefRefusal) (cause : RefRefusal) → StopsBy stands_for refusals makes a b outcome cause → LeavesBy stands_for refusals makes a b (Err cause)
  leaves_stop a b outcome (refusal.Uri uri) p = record { octets = []; appended = p.appended }
  leaves_stop a b outcome refusal.NoSuchId p = record { octets = []; appended = p.appended }
  leaves_stop a b outcome (refusal.AmbiguousId i j) p = record { octets = []; appended = p.appended }
  leaves_stop a b outcome refusal.Absent p = record { octets = []; appended = p.appended }
  leaves_stop a b outcome refusal.TooLong p = record { octets = []; appended = p.appended }
  leaves_stop a b outcome (refusal.Read step read) p = record { octets = []; appended = p.appended }
  leaves_stop a b outcome (refusal.Syntax step part syntax) p = record { octets = []; appended = p.appended }
  leaves_stop a b outcome (refusal.Eval step part eval) p = record { octets = []; appended = p.appended }
  leaves_stop a b outcome (refusal.NotBase64 step) p = record { octets = []; appended = p.appended }
  leaves_stop a b outcome (refusal.EnvelopedElsewhere step) p = record { octets = []; appended = p.appended }
  leaves_stop a b outcome (refusal.OctetsTooLong step) p = record { octets = []; appended = p.appended }
  leaves_stop a b outcome refusal.FetchFailed p = absurd p
  leaves_stop a b outcome refusal.SinkRefused p = record { octets = p.appended.front; appended = p.appended.appended; rose = p.appended.rose }
  leaves_stop a b outcome refusal.Memory p = p

  pub leaves_by : (a b : S) (outcome : Result (List ℕ) RefRefusal) (result : Result (Unit {0}) RefRefusal) → ((view : List ℕ) → outcome ≡ Ok view → length view ≤ octet_limit)
      → Writes stands_for refusals makes a b outcome result → Leaves stands_for refusals makes a b result
  leaves_by a b outcome (Ok done) short p = record { by = record { view = p.by.view; within = short p.by.view p.by.is; appended = p.by.appended } }
  leaves_by a b outcome (Err cause) short p = record { by = leaves_stop a b outcome cause p.by }

  anyhow : (s : S) → Anyhow stands_for refusals makes s s
  anyhow s = record { octets = []; appended = Appended-nil stands_for refusals makes s }

  -- a sink that nothing was written to
  pub leaves_untouched : (s : S) (cause : RefRefusal) → BlamesNoSink {A = List ℕ} (Err cause) → LeavesBy stands_for refusals makes s s (Err cause)
  leaves_untouched s (refusal.Uri uri) h = anyhow s
  leaves_untouched s refusal.NoSuchId h = anyhow s
  leaves_untouched s (refusal.AmbiguousId i j) h = anyhow s
  leaves_untouched s refusal.Absent h = anyhow s
  leaves_untouched s refusal.TooLong h = anyhow s
  leaves_untouched s (refusal.Read step read) h = anyhow s
  leaves_untouched s (refusal.Syntax step part syntax) h = anyhow s
  leaves_untouched s (refusal.Eval step part eval) h = anyhow s
  leaves_untouched s (refusal.NotBase64 step) h = anyhow s
  leaves_untouched s (refusal.EnvelopedElsewhere step) h = anyhow s
  leaves_untouched s (refusal.OctetsTooLong step) h = anyhow s
  leaves_untouched s refusal.FetchFailed h = anyhow s
  leaves_untouched s refusal.SinkRefused h = absurd h
  leaves_untouched s refusal.Memory h = anyhow s

  -- ---- the folder, where it isn't asked, or has answered
  counts_stop : (a b : S) (outcome : Result (List ℕ) RefRefusal) (cause : RefRefusal) (n : ℕ) → StopsBy stands_for refusals makes a b outcome cause → FaultCounts {A = Unit {0}} (Err cause) n n
  counts_stop a b outcome (refusal.Uri uri) n p = refl
  counts_stop a b outcome refusal.NoSuchId n p = refl
  counts_stop a b outcome (refusal.AmbiguousId i j) n p = refl
  counts_stop a b outcome refusal.Absent n p = refl
  counts_stop a b outcome refusal.TooLong n p = refl
  counts_stop a b outcome (refusal.Read step read) n p = refl
  counts_stop a b outcome (refusal.Syntax step part syntax) n p = refl
  counts_stop a b outcome (refusal.Eval step part eval) n p = refl
  counts_stop a b outcome (refusal.NotBase64 step) n p = refl
  counts_stop a b outcome (refusal.EnvelopedElsewhere step) n p = refl
  counts_stop a b outcome (refusal.OctetsTooLong step) n p = refl
  counts_stop a b outcome refusal.FetchFailed n p = absurd p
  counts_stop a b outcome refusal.SinkRefused n p = refl
  counts_stop a b outcome refusal.Memory n p = refl

  pub counts_by : (a b : S) (outcome : Result (List ℕ) RefRefusal) (result : Result (Unit {0}) RefRefusal) (n : ℕ) → Writes stands_for refusals makes a b outcome result → FaultCounts result n n
  counts_by a b outcome (Ok done) n p = refl
  counts_by a b outcome (Err cause) n p = counts_stop a b outcome cause n p.by

-- all names are asked for
asked_all : (cause : RefRefusal) (names old new : List (List ℕ)) → new ≡ old ++ names → AsksAll {A = Unit {0}} (Err cause) names old new
asked_all (refusal.Uri uri) names old new e = e
asked_all refusal.NoSuchId names old new e = e
asked_all (refusal.AmbiguousId i j) names old new e = e
asked_all refusal.Absent names old new e = e
asked_all refusal.TooLong names old new e = e
asked_all (refusal.Read step read) names old new e = e
asked_all (refusal.Syntax step part syntax) names old new e = e
asked_all (refusal.Eval step part eval) names old new e = e
asked_all (refusal.NotBase64 step) names old new e = e
asked_all (refusal.EnvelopedElsewhere step) names old new e = e
asked_all (refusal.OctetsTooLong step) names old new e = e
asked_all refusal.FetchFailed names old new e = (length names, e ∙ ap (λ (t : List (List ℕ)). old ++ t) (sym (take_all (length names) names (omega arith))))
asked_all refusal.SinkRefused names old new e = e
asked_all refusal.Memory names old new e = (length names, e ∙ ap (λ (t : List (List ℕ)). old ++ t) (sym (take_all (length names) names (omega arith))))

pub asks_all : (result : Result (Unit {0}) RefRefusal) (names old new : List (List ℕ)) → new ≡ old ++ names → AsksAll result names old new
asks_all (Ok done) names old new e = e
asks_all (Err cause) names old new e = asked_all cause names old new e

pub asks_nothing : (result : Result (Unit {0}) RefRefusal) (old : List (List ℕ)) → AsksAll result [] old old
asks_nothing result old = asks_all result [] old old (sym (append-nil old))

-- Steps one behind the other.
use Rattle.std.proofs.Common.{◌≡◌, ◌∙◌, ◌<◌, ℕ, ◌+◌, Bool, true, false, List, [], ◌∷◌, length, length-drop, drop, Option, Some, None, Result, Ok, Err, refl, sym, ap, subst, arith, get_or, inl, inr}
use Rattle.std.specs.Prelude.{nat_lt, slice_get}
use Rattle.std.specs.List.{All, list_all}
use Rattle.std.proofs.lemmas.Bool.{cases_Bool, false≢true}
use Rattle.std.proofs.lemmas.List.Folds.{list_all_at}
use Rattle.std.specs.Option.{ForSome}
use Rattle.std.proofs.Math.Path.{fun_ext}
use Rattle.std.proofs.lemmas.List.Elements.{All-get_or}
use Rattle.std.proofs.lemmas.Option.{get_or_from_slice_get, slice_get_within}
use Rattle.sig_base.proofs.ListLemmas.{drop-at, drop_none}
use Rattle.xml_doc.specs.Rows.{RowOf}
use Rattle.dsig_fields.specs.declared.fields.Step.{Step}
use Rattle.xml_read.specs.ReadOutcome.{read_outcome}
use Rattle.xml_read.specs.ReadOutcome as reading
use Rattle.xml_read.specs.declared.read.ReadRefusal.{ReadRefusal}
use Rattle.xml_read.specs.declared.read.ReadRefusal.TheVariants as read
use Rattle.node_sets.specs.Members.{SetOf, has}
use Rattle.transforms.specs.Code.Answers.{Refuses, nodes_of, read_cause}
use Rattle.sig_base.specs.Outcomes.{and_then}
use Rattle.transforms.specs.Start.{in_document}
use Rattle.dsig_base64.specs.Loose.{octets_in}
use Rattle.transforms.specs.Steps.{all_nodes, as_octets, nodes_step, parsed, spelled, step_value, wants_octets}
use Rattle.transforms.specs.Values.{Nodes, Origin, Value}
use Rattle.transforms.specs.Values.{OfNodes, OfOctets}
use Rattle.transforms.specs.Views.{closing, view_from}
use Rattle.transforms.specs.declared.refusal.RefRefusal.{RefRefusal}
use Rattle.transforms.specs.declared.refusal.RefRefusal.TheVariants.{Read}

-- what holds of all members holds of that one
pub all_at : {X : Type 0} (P : X → Type 0) (xs : List X) (k : ℕ) (x : X) → All P xs → Some x ≡ slice_get xs k → P x
all_at P xs k x all e =
    subst P (get_or_from_slice_get xs k x x (sym e)) (All-get_or P xs k x (slice_get_within xs k x (sym e)) all)

-- a test that all members pass is passed by that one
pub passed_at : {X : Type 0} (p : X → Bool) (xs : List X) (k : ℕ) (x : X) → list_all p xs ≡ true → Some x ≡ slice_get xs k → p x ≡ true
passed_at p xs k x all e =
    let same : get_or xs k x ≡ x = get_or_from_slice_get xs k x x (sym e) in
    elim (cases_Bool (p x)) [
      | inl holds ↦ holds
      | inr fails ↦ absurd (false≢true (sym (list_all_at p xs k x (slice_get_within xs k x (sym e)) (ap p same ∙ fails)) ∙ all))
    ]

module _ (origin : Origin) (steps : List Step) (done : ℕ) where
  -- what the steps behind the first ones make of a value
  abbrev pub left : Value → Result (List ℕ) RefRefusal
  left v = view_from origin (done + 1) (drop done steps) v

  -- no step is left
  pub ends : (v : Value) → None ≡ slice_get steps done → left v ≡ closing (done + 1) v
  unfolding view_from
  ends v e = ap (λ (more : List Step). view_from origin (done + 1) more v) (drop_none steps done e)

  -- one more step
  pub goes_on : (step : Step) (v w : Value) → Some step ≡ slice_get steps done → step_value origin (done + 1) step v ≡ Ok w
      → left v ≡ view_from origin (done + 1 + 1) (drop (done + 1) steps) w
  unfolding view_from
  goes_on step v w at e = ap (λ (more : List Step). view_from origin (done + 1) more v) (drop-at steps done step at) ∙ rw e refl

  -- a step that is refused
  pub stops_at : (step : Step) (v : Value) (cause : RefRefusal) → Some step ≡ slice_get steps done → step_value origin (done + 1) step v ≡ Err cause → left v ≡ Err cause
  unfolding view_from
  stops_at step v cause at e = ap (λ (more : List Step). view_from origin (done + 1) more v) (drop-at steps done step at) ∙ rw e refl

  on_nodes : (step : Step) (nodes : Nodes) → step_value origin (done + 1) step (OfNodes nodes) ≡ nodes_step origin (done + 1) step nodes
  unfolding step_value
  on_nodes step nodes = refl

  -- ---- a step on a set
  pub set_goes_on : (step : Step) (nodes : Nodes) (w : Value) → Some step ≡ slice_get steps done → nodes_step origin (done + 1) step nodes ≡ Ok w
      → left (OfNodes nodes) ≡ view_from origin (done + 1 + 1) (drop (done + 1) steps) w
  set_goes_on step nodes w at e = goes_on step (OfNodes nodes) w at (on_nodes step nodes ∙ e)

  pub set_stops : (step : Step) (nodes : Nodes) (cause : RefRefusal) → Some step ≡ slice_get steps done → nodes_step origin (done + 1) step nodes ≡ Err cause
      → left (OfNodes nodes) ≡ Err cause
  set_stops step nodes cause at e = stops_at step (OfNodes nodes) cause at (on_nodes step nodes ∙ e)

  -- ---- base64 on octets
  decoded : (step : Step) (text : List ℕ) → wants_octets step ≡ true → step_value origin (done + 1) step (OfOctets text) ≡ as_octets (spelled (done + 1) (octets_in text))
  unfolding step_value
  decoded step text e = rw e refl

  pub octets_go_on : (step : Step) (text octets : List ℕ) → Some step ≡ slice_get steps done → wants_octets step ≡ true → spelled (done + 1) (octets_in text) ≡ Ok octets
      → left (OfOctets text) ≡ view_from origin (done + 1 + 1) (drop (done + 1) steps) (OfOctets octets)
  octets_go_on step text octets at wants e = goes_on step (OfOctets text) (OfOctets octets) at (decoded step text wants ∙ ap as_octets e)

  pub octets_stop : (step : Step) (text : List ℕ) (cause : RefRefusal) → Some step ≡ slice_get steps done → wants_octets step ≡ true → spelled (done + 1) (octets_in text) ≡ Err cause
      → left (OfOctets text) ≡ Err cause
  octets_stop step text cause at wants e = stops_at step (OfOctets text) cause at (decoded step text wants ∙ ap as_octets e)

  -- ---- octets that a step wants as a node set
  read_first : (step : Step) (octets : List ℕ) → wants_octets step ≡ false
      → step_value origin (done + 1) step (OfOctets octets) ≡ and_then (parsed (done + 1) (read_outcome octets)) (nodes_step origin (done + 1) step)
  unfolding step_value
  read_first step octets e = rw e refl

  read_at : (octets : List ℕ) (rows : List RowOf) (step : Step) → Some step ≡ slice_get steps done → wants_octets step ≡ false → read_outcome octets ≡ Ok rows
      → left (OfOctets octets) ≡ left (OfNodes (all_nodes rows))
  unfolding view_from
  read_at octets rows step at e is =
      let same : step_value origin (done + 1) step (OfOctets octets) ≡ step_value origin (done + 1) step (OfNodes (all_nodes rows)) =
      read_first step octets e ∙ ap (λ (r : Result (List RowOf) ReadRefusal). and_then (parsed (done + 1) r) (nodes_step origin (done + 1) step)) is ∙ sym (on_nodes step (all_nodes rows)) in
      ap (λ (more : List Step). view_from origin (done + 1) more (OfOctets octets)) (drop-at steps done step at)
      ∙ ap (λ (r : Result Value RefRefusal). and_then r (view_from origin (done + 1 + 1) (drop (done + 1) steps))) same
      ∙ ap (λ (more : List Step). view_from origin (done + 1) more (OfNodes (all_nodes rows))) (sym (drop-at steps done step at))

  unread_at : (octets : List ℕ) (cause : ReadRefusal) (step : Step) → Some step ≡ slice_get steps done → wants_octets step ≡ false → read_outcome octets ≡ Err cause
      → left (OfOctets octets) ≡ Err (Read (done + 1) cause)
  unread_at octets cause step at e is =
      stops_at step (OfOctets octets) (Read (done + 1) cause) at
      (read_first step octets e ∙ ap (λ (r : Result (List RowOf) ReadRefusal). and_then (parsed (done + 1) r) (nodes_step origin (done + 1) step)) is)

  here : (r : Option Step) → r ≡ slice_get steps done → done < length steps → (step : Step) × (Some step ≡ slice_get steps done)
  here (Some step) e h = (step, e)
  here None e h =
      let none = ap (λ (more : List Step). length more) (drop_none steps done e) in
      let size = length-drop done steps in
      absurd (omega arith)

  -- octets that are a document
  pub as_document : (octets : List ℕ) (rows : List RowOf) → done < length steps → ForSome (slice_get steps done) (λ step. wants_octets step ≡ false) → read_outcome octets ≡ Ok rows
      → left (OfOctets octets) ≡ left (OfNodes (all_nodes rows))
  as_document octets rows h wants is = let at = here (slice_get steps done) refl h in read_at octets rows at.0 at.1 (wants at.0 (sym at.1)) is

  -- octets that aren't
  pub no_document : (octets : List ℕ) (cause : ReadRefusal) → done < length steps → ForSome (slice_get steps done) (λ step. wants_octets step ≡ false) → read_outcome octets ≡ Err cause
      → left (OfOctets octets) ≡ Err (Read (done + 1) cause)
  no_document octets cause h wants is = let at = here (slice_get steps done) refl h in unread_at octets cause at.0 at.1 (wants at.0 (sym at.1)) is

  -- the reader's refusal is that of the octets
  pub unread : (octets : List ℕ) (cause : ReadRefusal) → done < length steps → ForSome (slice_get steps done) (λ step. wants_octets step ≡ false) → reading.Refuses cause (read_outcome octets)
      → Refuses (read_cause (done + 1) cause) (left (OfOctets octets))
  unread octets read.TooLarge h wants e = no_document octets read.TooLarge h wants e
  unread octets read.Encoding h wants e = no_document octets read.Encoding h wants e
  unread octets read.DocType h wants e = no_document octets read.DocType h wants e
  unread octets read.NotWellFormed h wants e = no_document octets read.NotWellFormed h wants e
  unread octets read.Namespaces h wants e = no_document octets read.Namespaces h wants e
  unread octets read.TooDeep h wants e = no_document octets read.TooDeep h wants e
  unread octets read.TooManyRows h wants e = no_document octets read.TooManyRows h wants e
  unread octets read.Memory h wants e = tt

-- the set of all rows of a document that was read
pub all_is : (set : SetOf) (rows : List RowOf) → set.rows ≡ rows → ((k : ℕ) → has set.members k ≡ nat_lt k (length rows)) → nodes_of false set ≡ all_nodes rows
all_is set rows e h = let same : has set.members ≡ in_document rows = fun_ext h in rw (e, same) refl

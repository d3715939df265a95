use Rattle.std.specs.Prelude.{◌≡◌, ◌<◌, ◌≤◌, ◌+◌, ℕ, Bool, List, [], length, drop, Option, Some, None, Result, Ok, Err, Vec}
use Rattle.sig_base.specs.Outcomes as outcomes
use Rattle.sig_base.specs.Puts.{Appended}
use Rattle.node_sets.specs.Members.{SetOf, has}
use Rattle.dsig_fields.specs.declared.fields.Step.{Step}
use Rattle.xml_read.specs.declared.read.ReadRefusal.{ReadRefusal}
use Rattle.xml_read.specs.declared.read.ReadRefusal.TheVariants as read
use Rattle.xpath_syntax.specs.declared.refusal.SyntaxRefusal.{SyntaxRefusal}
use Rattle.xpath_syntax.specs.declared.refusal.SyntaxRefusal.TheVariants as syntax
use Rattle.xpath_eval.specs.declared.refusal.EvalRefusal.{EvalRefusal}
use Rattle.xpath_eval.specs.declared.refusal.EvalRefusal.TheVariants as eval
use Rattle.transforms.specs.Values.{Nodes, Origin, Value}
use Rattle.transforms.specs.Values.{OfNodes, OfOctets}
use Rattle.transforms.specs.Views.{view_from}
use Rattle.transforms.specs.declared.chain.Left.{Left}
use Rattle.transforms.specs.declared.refusal.RefRefusal.{RefRefusal}
use Rattle.transforms.specs.declared.refusal.RefRefusal.TheVariants.{FetchFailed, Read, Syntax, Eval, SinkRefused, Memory}
use Rattle.transforms.specs.Answers.{Whole, StopsBy}

-- an answer is the outcome, unless it is want of memory; no folder or sink is to blame
abbrev pub Refuses : {A : Type 0} → RefRefusal → Result A RefRefusal → Type 0
Refuses FetchFailed outcome = ⊥
Refuses SinkRefused outcome = ⊥
Refuses Memory outcome = Unit {0}
Refuses cause outcome = outcome ≡ Err cause

abbrev pub Gives : {T A : Type 0} → (T → A) → Result T RefRefusal → Result A RefRefusal → Type 0
Gives view result outcome = outcomes.Gives Refuses view result outcome

-- the rows of a set in the program, and whether they are of the signature's own document
abbrev pub nodes_of : Bool → SetOf → Nodes
nodes_of own set = record { own = own; rows = set.rows; set = has set.members }

-- a step on a set gives octets, or changes the set
abbrev pub Changes : (own : Bool) → Result (Option (List ℕ)) RefRefusal → (new : SetOf) → Result Value RefRefusal → Type 0
Changes own (Ok (Some octets)) new outcome = outcome ≡ Ok (OfOctets octets)
Changes own (Ok None) new outcome = outcome ≡ Ok (OfNodes (nodes_of own new))
Changes own (Err cause) new outcome = Refuses cause outcome

abbrev pub Alters : (own : Bool) → Result (Unit {0}) RefRefusal → (new : SetOf) → Result Value RefRefusal → Type 0
Alters own (Ok done) new outcome = outcome ≡ Ok (OfNodes (nodes_of own new))
Alters own (Err cause) new outcome = Refuses cause outcome

-- a set of these rows, as its definition tests their numbers
abbrev pub Selects : Result SetOf RefRefusal → Result (ℕ → Bool) RefRefusal → Type 0
Selects result outcome = Gives (λ set. has set.members) result outcome

-- octets are left behind some more steps, and the rest makes the view of them
pub record Goes {S : Type 0} (stands_for : S → List ℕ → Type 0) (refusals : S → ℕ) (makes : S → List ℕ → List ℕ) (old new : S)
    (origin : Origin) (steps : List Step) (done : ℕ) (outcome : Result (List ℕ) RefRefusal) (left : Left) : Type 0 where
  pub further : done < left.next
  pub within : left.next ≤ length steps
  pub rest : outcome ≡ view_from origin (left.next + 1) (drop left.next steps) (OfOctets left.octets)
  pub appended : Appended stands_for refusals makes old new []

abbrev pub GoesBy : {S : Type 0} → (S → List ℕ → Type 0) → (S → ℕ) → (S → List ℕ → List ℕ) → S → S → Origin → List Step → ℕ
    → Result (List ℕ) RefRefusal → Result (Option Left) RefRefusal → Type 0
GoesBy stands_for refusals makes old new origin steps done outcome (Ok (Some left)) = Goes stands_for refusals makes old new origin steps
    done outcome left
GoesBy stands_for refusals makes old new origin steps done outcome (Ok None) = Whole stands_for refusals makes old new outcome
GoesBy stands_for refusals makes old new origin steps done outcome (Err cause) = StopsBy stands_for refusals makes old new outcome cause

-- what a call that does some of the steps does, behind those that are done
pub record Proceeds {S : Type 0} (stands_for : S → List ℕ → Type 0) (refusals : S → ℕ) (makes : S → List ℕ → List ℕ) (old new : S)
    (origin : Origin) (steps : List Step) (done : ℕ) (outcome : Result (List ℕ) RefRefusal)
    (result : Result (Option Left) RefRefusal) : Type 0 where
  pub by : GoesBy stands_for refusals makes old new origin steps done outcome result

-- why a document that the step of this number wants can't be read: want of memory is the same here and there
abbrev pub read_cause : (number : ℕ) → ReadRefusal → RefRefusal
read_cause number read.Memory = Memory
read_cause number cause = Read number cause

-- the same of an expression that can't be read, and of one that can't be evaluated
abbrev pub syntax_cause : (number part : ℕ) → SyntaxRefusal → RefRefusal
syntax_cause number part syntax.Memory = Memory
syntax_cause number part cause = Syntax number part cause

abbrev pub eval_cause : (number part : ℕ) → EvalRefusal → RefRefusal
eval_cause number part eval.Memory = Memory
eval_cause number part cause = Eval number part cause

-- a list of the expressions of filters
abbrev pub Collects : {X A : Type 0} → Result (Vec X A) RefRefusal → Result (List X) RefRefusal → Type 0
Collects result outcome = Gives (λ xs. xs.items) result outcome

-- what fetching a file gives, where the folder tells its files
abbrev pub Fetched : Result (List ℕ) RefRefusal → Result Value RefRefusal → Type 0
Fetched (Ok octets) outcome = outcome ≡ Ok (OfOctets octets)
Fetched (Err FetchFailed) outcome = Unit {0}
Fetched (Err cause) outcome = Refuses cause outcome

-- no sink is to blame
abbrev pub BlamesNoSink : {A : Type 0} → Result A RefRefusal → Type 0
BlamesNoSink (Err SinkRefused) = ⊥
BlamesNoSink other = Unit {0}

-- One turn of the loop over meant tokens.
use Rattle.std.proofs.Common.{◌≡◌, ℕ, zero, suc, ◌<◌, List, [], ◌∷◌, ◌++◌, length, drop, Option, Some, None, refl, sym, ap, ◌∙◌, append-nil, length-drop, arith}
use Rattle.std.specs.Prelude.{slice_get}
use Rattle.sig_base.proofs.OptionLemmas.{some_is}
use Rattle.xpath_words.specs.Reading.{before_all}
use Rattle.xpath_words.specs.Prefixes.{Pair}
use Rattle.xpath_words.specs.Terminals.{behind_first, group_at, groups_behind}
use Rattle.xpath_words.specs.Given.{Fails}
use Rattle.xpath_words.specs.Code.Given.{with_front}
use Rattle.xpath_words.specs.declared.meaning.Meant.{Meant}
use Rattle.xpath_words.specs.declared.terminal.Token.{Token}
use Rattle.xpath_words.specs.declared.fault.TokensFault.{TokensFault}
use Rattle.xpath_words.specs.declared.fault.TokensFault.TheVariants.{NotXPath, Memory}
use Rattle.xpath_words.proofs.Turns.{front_again}

-- behind the tokens of a terminal the others are read
passed : (pairs : List Pair) (k : ℕ) (all : List Meant) → groups_behind pairs k all ≡ groups_behind pairs 0 (drop k all)
unfolding groups_behind
passed pairs zero all = refl
passed pairs (suc k) [] = refl
passed pairs (suc k) (m ∷ more) = passed pairs k more

group_step : (pairs : List Pair) (m : Meant) (more : List Meant) (t : Token) (k : ℕ) → group_at pairs m more ≡ Some (t, k)
    → groups_behind pairs 0 (m ∷ more) ≡ before_all t (groups_behind pairs 0 (drop k more))
unfolding groups_behind
group_step pairs m more t k e = rw e (ap (before_all t) (passed pairs k more))

no_group : (pairs : List Pair) (m : Meant) (more : List Meant) → group_at pairs m more ≡ None → groups_behind pairs 0 (m ∷ more) ≡ None
unfolding groups_behind
no_group pairs m more e = rw e refl

-- the first token, and those behind it
parts : (all : List Meant) (m : Meant) → slice_get all 0 ≡ Some m → all ≡ m ∷ behind_first all
parts [] m e = absurd cc
parts (x ∷ all) m e = ap (λ (t : Meant). t ∷ all) (some_is x m e)

pub group_turn : (pairs : List Pair) (before after : List Token) (here next : List Meant) (m : Meant) (t : Token) (k : ℕ) (all : Option (List Token)) → slice_get here 0 ≡ Some m
    → group_at pairs m (behind_first here) ≡ Some (t, k) → with_front before (groups_behind pairs 0 here) ≡ all → after ≡ before ++ (t ∷ []) → next ≡ drop k (behind_first here)
    → with_front after (groups_behind pairs 0 next) ≡ all
group_turn pairs before after here next m t k all at e kept pushed next_is =
    ap (λ (ts : List Token). with_front ts (groups_behind pairs 0 next)) pushed
    ∙ ap (λ (ms : List Meant). with_front (before ++ (t ∷ [])) (groups_behind pairs 0 ms)) next_is
    ∙ front_again before t (groups_behind pairs 0 (drop k (behind_first here)))
    ∙ ap (with_front before) (sym (group_step pairs m (behind_first here) t k e) ∙ ap (groups_behind pairs 0) (sym (parts here m at)))
    ∙ kept

pub group_refused : (fault : TokensFault) (pairs : List Pair) (before : List Token) (here : List Meant) (m : Meant) (all : Option (List Token)) → slice_get here 0 ≡ Some m
    → Fails fault (group_at pairs m (behind_first here)) → with_front before (groups_behind pairs 0 here) ≡ all → Fails fault all
group_refused NotXPath pairs before here m all at e kept =
    sym kept ∙ ap (with_front before) (ap (groups_behind pairs 0) (parts here m at) ∙ no_group pairs m (behind_first here) e)
group_refused Memory pairs before here m all at e kept = tt

pub all_groups : (pairs : List Pair) (before : List Token) (here : List Meant) (all : Option (List Token)) → slice_get here 0 ≡ None → with_front before (groups_behind pairs 0 here) ≡ all → all ≡ Some before
unfolding groups_behind
all_groups pairs before [] all e kept = sym kept ∙ ap (λ (t : List Token). Some t) (append-nil before)
all_groups pairs before (m ∷ here) all e kept = absurd cc

-- fewer tokens are left
pub fewer : (here next : List Meant) (m : Meant) (k : ℕ) → slice_get here 0 ≡ Some m → next ≡ drop k (behind_first here) → length next < length here
fewer [] next m k at e = absurd cc
fewer (x ∷ here) next m k at e = omega (arith, ap length e, length-drop k here)

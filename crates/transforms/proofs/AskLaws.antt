-- What was asked of a folder behind some of the names that it is to be asked for.
use Rattle.std.proofs.Common.{◌≡◌, ◌∙◌, ℕ, List, [], ◌++◌, length, take, drop, refl, ap, sym, append_assoc, append-nil, arith}
use Rattle.std.proofs.lemmas.List.{take-append-drop, take_all, take_at}
use Rattle.transforms.specs.Answers.{GrewTowards}

-- of all names some are asked for, and these are left
pub record AsksRest (before now all rest : List (List ℕ)) : Type 0 where
  pub done : List (List ℕ)
  pub asked : now ≡ before ++ done
  pub names : done ++ rest ≡ all

pub rest_begins : (before all : List (List ℕ)) → AsksRest before before all all
rest_begins before all = record { done = []; asked = sym (append-nil before); names = refl }

pub rest_goes : (before now new all rest names more : List (List ℕ)) → AsksRest before now all rest → rest ≡ names ++ more → new ≡ now ++ names → AsksRest before new all more
rest_goes before now new all rest names more r e f = record {
  done = r.done ++ names;
  asked = f ∙ ap (λ (t : List (List ℕ)). t ++ names) r.asked ∙ append_assoc before r.done names;
  names = append_assoc r.done names more ∙ ap (λ (t : List (List ℕ)). r.done ++ t) (sym e) ∙ r.names;
}

-- the last names are asked for
pub rest_ends : (before now new all rest : List (List ℕ)) → AsksRest before now all rest → new ≡ now ++ rest → new ≡ before ++ all
rest_ends before now new all rest r f =
    f ∙ ap (λ (t : List (List ℕ)). t ++ rest) r.asked ∙ append_assoc before r.done rest ∙ ap (λ (t : List (List ℕ)). before ++ t) r.names

-- no name is left
pub ended : (before now all rest : List (List ℕ)) → rest ≡ [] → AsksRest before now all rest → now ≡ before ++ all
ended before now all rest e r = rest_ends before now now all rest r (sym (ap (λ (t : List (List ℕ)). now ++ t) e ∙ append-nil now))

-- a first part of the names is asked for
pub rest_part : (before now all rest : List (List ℕ)) → AsksRest before now all rest → GrewTowards all before now
rest_part before now all rest r =
    let part : take (length r.done) all ≡ r.done = ap (take (length r.done)) (sym r.names) ∙ take_at r.done rest (length r.done) refl in
    (length r.done, r.asked ∙ ap (λ (t : List (List ℕ)). before ++ t) (sym part))

-- or a first part of the next ones
pub rest_grows : (before now new all rest names more : List (List ℕ)) → AsksRest before now all rest → rest ≡ names ++ more → GrewTowards names now new → GrewTowards all before new
rest_grows before now new all rest names more r e f =
    let part = take f.0 names in
    let split : rest ≡ part ++ (drop f.0 names ++ more) =
    e ∙ ap (λ (t : List (List ℕ)). t ++ more) (sym (take-append-drop f.0 names)) ∙ append_assoc part (drop f.0 names) more in
    rest_part before new all (drop f.0 names ++ more) (rest_goes before now new all rest part (drop f.0 names ++ more) r split f.1)

pub grew_all : (names old new : List (List ℕ)) → new ≡ old ++ names → GrewTowards names old new
grew_all names old new e = (length names, e ∙ ap (λ (t : List (List ℕ)). old ++ t) (sym (take_all (length names) names (omega arith))))

pub grew_nothing : (names old : List (List ℕ)) → GrewTowards names old old
grew_nothing names old = (0, sym (append-nil old))

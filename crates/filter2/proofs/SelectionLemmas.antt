-- What the expressions of filters select, one after the other.
use Rattle.std.proofs.Common.{◌≡◌, ◌∙◌, ℕ, ◌+◌, ◌&&◌, Bool, List, [], ◌∷◌, ◌++◌, length, drop, get_or, nat_lt, ◌<◌, Option, Result, Ok, Err, refl, sym, ap, subst, append_assoc, append-nil}
use Rattle.std.proofs.Math.Path.{fun_ext}
use Rattle.std.proofs.lemmas.List.{drop_more}
use Rattle.sig_base.specs.Outcomes.{and_then, with_cause}
use Rattle.sig_base.specs.declared.method.FilterKind.{FilterKind}
use Rattle.xml_doc.specs.Rows.{RowOf}
use Rattle.node_sets.specs.Members.{ChangesTo, SetOf, has}
use Rattle.xpath_syntax.specs.declared.expr.Expr.{Expr}
use Rattle.xpath_eval.specs.Context.{is_in}
use Rattle.xpath_eval.specs.Found.{Outcome, ◌>>=◌, nodes_in}
use Rattle.xpath_eval.specs.Outcome as eval
use Rattle.xpath_eval.specs.Value.{Gives, HasRows}
use Rattle.xpath_eval.specs.declared.found.Found.{Found}
use Rattle.xpath_eval.specs.declared.refusal.EvalRefusal.{EvalRefusal}
use Rattle.xpath_eval.specs.declared.refusal.EvalRefusal.TheVariants as refusal
use Rattle.xpath_eval.specs.declared.value.Value.{Value}
use Rattle.xpath_eval.specs.declared.value.Value.TheVariants as value
use Rattle.filter2.specs.Filters.{Filter, filtered, filtered_from, with_subtrees}
use Rattle.filter2.specs.Selections.{Refuses, RefusesBy, filters_from, refused_at, selected}
use Rattle.filter2.specs.Code.Selections.{Evaluates, Finds, filter_of}
use Rattle.filter2.specs.declared.selections.Selected.{Selected}
use Rattle.filter2.specs.declared.transform.FilterRefusal.{FilterRefusal}

-- ---- one expression

-- it comes to a node set
pub found_nodes : (rows : List RowOf) (outcome : Outcome Found) (s : SetOf) → Gives rows (Ok (value.Nodes s)) outcome → Finds rows (Ok s) (outcome >>= nodes_in)
found_nodes rows outcome s g = (g.2.0, ap (λ (o : Outcome Found). o >>= nodes_in) (g.1 ∙ ap Ok g.2.1), g.2.2)

-- it comes to something else
pub found_others : (rows : List RowOf) (outcome : Outcome Found) (v : Value) → ((s : SetOf) → v ≡ value.Nodes s → ⊥) → Gives rows (Ok v) outcome
    → (outcome >>= nodes_in) ≡ Err refusal.NotNodes
found_others rows outcome (value.Truth b) other g = ap (λ (o : Outcome Found). o >>= nodes_in) (g.1 ∙ ap Ok g.2)
found_others rows outcome (value.Num n) other g = ap (λ (o : Outcome Found). o >>= nodes_in) (g.1 ∙ ap Ok g.2)
found_others rows outcome (value.Words w) other g = ap (λ (o : Outcome Found). o >>= nodes_in) (g.1 ∙ ap Ok g.2)
found_others rows outcome (value.Nodes s) other g = absurd (other s refl)

-- the subtrees come in
pub grown : (rows : List RowOf) (ys : List ℕ) (outcome : Outcome (List ℕ)) (s new : SetOf) → outcome ≡ Ok ys → HasRows rows ys s
    → ChangesTo s new (with_subtrees s.rows (has s.members)) → and_then outcome (λ zs. Ok (with_subtrees rows (is_in zs))) ≡ Ok (has new.members)
grown rows ys outcome s new e h change =
    let same : has s.members ≡ is_in ys = fun_ext h.0 in
    ap (λ (o : Outcome (List ℕ)). and_then o (λ zs. Ok (with_subtrees rows (is_in zs)))) e
    ∙ ap Ok (fun_ext (λ (k : ℕ).
    sym (change.members k ∙ ap (λ (rs : List RowOf). with_subtrees rs (has s.members) k) h.1 ∙ ap (λ (f : ℕ → Bool). with_subtrees rows f k) same)))

-- a refusal stays one
pub refused_on : {A B : Type 0} (e : EvalRefusal) (r : Outcome A) (f : A → Outcome B) → eval.Refuses e r → eval.Refuses e (and_then r f)
refused_on refusal.Fraction r f h = rw h refl
refused_on refusal.NumberRange r f h = rw h refl
refused_on refusal.NotNodes r f h = rw h refl
refused_on (refusal.AmbiguousId i j) r f h = rw h refl
refused_on refusal.HereElsewhere r f h = rw h refl
refused_on refusal.Memory r f h = tt

-- ---- one filter after the other

-- what is selected already, and what is still to come
abbrev pub behind : List Filter → Result (List Filter) FilterRefusal → Result (List Filter) FilterRefusal
behind front outcome = and_then outcome (λ more. Ok (front ++ more))

behind_more : (front : List Filter) (f : Filter) (r : Result (List Filter) FilterRefusal)
    → behind (front ++ (f ∷ [])) r ≡ behind front (and_then r (λ more. Ok (f ∷ more)))
behind_more front f (Ok more) = ap Ok (append_assoc front (f ∷ []) more)
behind_more front f (Err e) = refl

module _ (rows : List RowOf) (part : ℕ) (f : FilterKind × Expr) (here : Option ℕ) (more : List (FilterKind × Expr)) (heres : List (Option ℕ)) (front : List Filter) where
  -- the next one is selected
  pub one_selected : (nodes : ℕ → Bool) → selected rows f.1 here ≡ Ok nodes
      → behind (front ++ (record { kind = f.0; nodes = nodes } ∷ [])) (filters_from rows (part + 1) more heres) ≡ behind front (filters_from rows part (f ∷ more) (here ∷ heres))
  unfolding filters_from
  one_selected nodes e = behind_more front (record { kind = f.0; nodes = nodes }) (filters_from rows (part + 1) more heres) ∙ rw e refl

  -- or is refused
  stopped : (e : EvalRefusal) → selected rows f.1 here ≡ Err e → behind front (filters_from rows part (f ∷ more) (here ∷ heres)) ≡ Err (refused_at part e)
  unfolding filters_from
  stopped e h = rw h refl

  pub one_refused : (e : EvalRefusal) → eval.Refuses e (selected rows f.1 here) → Refuses (refused_at part e) (behind front (filters_from rows part (f ∷ more) (here ∷ heres)))
  one_refused refusal.Fraction h = stopped refusal.Fraction h
  one_refused refusal.NumberRange h = stopped refusal.NumberRange h
  one_refused refusal.NotNodes h = stopped refusal.NotNodes h
  one_refused (refusal.AmbiguousId i j) h = stopped (refusal.AmbiguousId i j) h
  one_refused refusal.HereElsewhere h = stopped refusal.HereElsewhere h
  one_refused refusal.Memory h = tt

  -- the same of the filter in the program
  pub one_evaluated : (s : Selected) → Evaluates part f.0 (Ok s) (selected rows f.1 here)
      → behind (front ++ (filter_of s ∷ [])) (filters_from rows (part + 1) more heres) ≡ behind front (filters_from rows part (f ∷ more) (here ∷ heres))
  one_evaluated s e =
      ap (λ (k : FilterKind). behind (front ++ (record { kind = k; nodes = has s.nodes.members } ∷ [])) (filters_from rows (part + 1) more heres)) e.1
      ∙ one_selected (has s.nodes.members) e.0

  pub refused_by : (r : FilterRefusal) → Evaluates part f.0 (Err r) (selected rows f.1 here) → Refuses r (behind front (filters_from rows part (f ∷ more) (here ∷ heres)))
  refused_by r e =
      let P : ℕ → Type 0 = λ n. RefusesBy n r.cause (behind front (filters_from rows part (f ∷ more) (here ∷ heres))) in
      subst P (sym e.0) (one_refused r.cause e.1)

pub refused_as : {A : Type 0} (r : FilterRefusal) {one other : Result A FilterRefusal} → one ≡ other → Refuses r one → Refuses r other
refused_as {A} r same h = let P : Result A FilterRefusal → Type 0 = λ o. Refuses r o in subst P same h

-- the member at a place, and those behind it
pub at_place : {X : Type 0} (xs : List X) (i : ℕ) (x : X) → i < length xs → x ≡ get_or xs i x → drop i xs ≡ x ∷ drop (i + 1) xs
at_place xs i x lt is = drop_more xs i x lt ∙ ap (λ y. y ∷ drop (i + 1) xs) (sym is)

pub none_left : (rows : List RowOf) (part : ℕ) (heres : List (Option ℕ)) (front : List Filter) → behind front (filters_from rows part [] heres) ≡ Ok front
unfolding filters_from
none_left rows part heres front = ap Ok (append-nil front)

pub none_yet : (r : Result (List Filter) FilterRefusal) → behind [] r ≡ r
none_yet (Ok fs) = refl
none_yet (Err e) = refl

-- a refusal of one outcome is one of what comes of it
pub refused_then : {A B : Type 0} (r : FilterRefusal) (one : Result A FilterRefusal) (f : A → Result B FilterRefusal) → Refuses r one → Refuses r (and_then one f)
refused_then r one f h = go r.cause h
  where
    go : (e : EvalRefusal) → Refuses (refused_at r.part e) one → Refuses (refused_at r.part e) (and_then one f)
    go refusal.Fraction h = rw h refl
    go refusal.NumberRange h = rw h refl
    go refusal.NotNodes h = rw h refl
    go (refusal.AmbiguousId i j) h = rw h refl
    go refusal.HereElsewhere h = rw h refl
    go refusal.Memory h = tt

-- ---- the input met with what the filters make
pub applied : (rows : List RowOf) (fs : List Filter) (outcome : Result (List Filter) FilterRefusal) (old kept new : SetOf) → outcome ≡ Ok fs
    → ((k : ℕ) → has kept.members k ≡ filtered_from fs (λ y. nat_lt y (length rows)) k)
    → ChangesTo old new (λ k. has old.members k && has kept.members k)
    → and_then outcome (λ gs. Ok (filtered rows gs (has old.members))) ≡ Ok (has new.members)
applied rows fs outcome old kept new e members change =
    ap (λ (o : Result (List Filter) FilterRefusal). and_then o (λ gs. Ok (filtered rows gs (has old.members)))) e
    ∙ ap Ok (fun_ext (λ (k : ℕ). sym (change.members k ∙ ap (λ (b : Bool). has old.members k && b) (members k))))

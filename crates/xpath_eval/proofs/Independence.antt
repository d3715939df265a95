-- What doesn't read the context comes to the same at each node, position and size.
use Rattle.std.proofs.Common.{◌≡◌, ℕ, suc, Bool, true, false, ◌||◌, List, [], ◌∷◌, length, map, refl, sym, ap, subst, ◌∙◌, arith}
use Rattle.std.specs.Prelude.{Option, Some, None, Ok, Err, IfOk, if◌then◌else◌}
use Rattle.std.specs.List.{list_any}
use Rattle.xpath_words.specs.declared.function.Function.{Function}
use Rattle.xpath_words.specs.declared.function.Function.TheVariants as function
use Rattle.xpath_words.specs.declared.operator.BinaryOp.{BinaryOp}
use Rattle.xpath_words.specs.declared.operator.BinaryOp.TheVariants as op
use Rattle.xpath_syntax.specs.declared.expr.Expr.{Expr, map-Expr, roll-Expr}
use Rattle.xpath_syntax.specs.declared.expr.PathStart.{PathStart, map-PathStart, roll-PathStart}
use Rattle.xpath_syntax.specs.declared.expr.PathStep.{PathStep, out-PathStep, roll-out-PathStep}
use Rattle.xpath_syntax.specs.declared.expr.Expr.TheOpen.{Expr-F, PathStart-F}
use Rattle.xpath_syntax.specs.declared.expr.Expr.TheFolds.{fold-roll-Expr, fold-roll-PathStart, fold-roll-PathStep, fold-PathStep, ind-Expr}
use Rattle.xpath_eval.specs.declared.found.Found.{Found}
use Rattle.xpath_eval.specs.declared.found.Found.TheVariants.{Truth, Num, Nodes}
use Rattle.xpath_eval.specs.declared.refusal.EvalRefusal.{EvalRefusal}
use Rattle.xpath_eval.specs.Arithmetic.{negated}
use Rattle.xpath_eval.specs.Context.{Context, at, in_document_order}
use Rattle.xpath_eval.specs.Found.{Outcome, ◌>>=◌, nodes_in, number_in, truth_of}
use Rattle.xpath_eval.specs.Functions.{applied}
use Rattle.xpath_eval.specs.Meaning.{after_left, arguments_in, behind_left, binary, decides, layer_meaning, meaning, start_meaning, step_meaning, nodes_meant, operated, refused_by}
use Rattle.xpath_eval.specs.Steps.{Meaning, StartMeaning, StepMeaning, along, filtered, gathered, holding_from, holds, kept, stepped}
use Rattle.xpath_eval.specs.Code.Meaning.{meaning_of_start, meaning_of_step}
use Rattle.xpath_eval.specs.Reads.{asks_context, layer_reads, reads_context, start_reads, step_reads}
use Rattle.xpath_eval.specs.Code.Reads.{reads_of_start}

-- it comes to the same at each node, position and size
abbrev pub Steady : {A : Type 0} → (Context → Outcome A) → Type 0
Steady m = (c : Context) (y place size : ℕ) → m (at c y place size) ≡ m c

-- a step does so from each node
abbrev pub SteadyStep : StepMeaning → Type 0
SteadyStep s = (c : Context) (y place size x : ℕ) → s (at c y place size) x ≡ s c x

agree : {A B : Type 0} (r : Outcome A) (f g : A → Outcome B) → ((x : A) → f x ≡ g x) → (r >>= f) ≡ (r >>= g)
agree (Ok x) f g h = h x
agree (Err e) f g h = refl

both_false : (a b : Bool) → (a || b) ≡ false → (a ≡ false) × (b ≡ false)
both_false true b h = absurd cc
both_false false b h = (refl, h)

-- ---- predicates and steps
module _ (c : Context) (y place size : ℕ) where
  abbrev there : Context
  there = at c y place size

  holding_steady : (p : Meaning) (n k : ℕ) (xs : List ℕ) → holding_from p there n k xs ≡ holding_from p c n k xs
  unfolding holding_from
  holding_steady p n k [] = refl
  holding_steady p n k (x ∷ xs) =
      ap (λ (o : Outcome (List ℕ)). p (at c x k n) >>= (λ v. o >>= (λ more. Ok (kept (holds v k) x more)))) (holding_steady p n (suc k) xs)

  pub filtered_steady : (ps : List Meaning) (xs : List ℕ) → filtered ps there xs ≡ filtered ps c xs
  unfolding filtered
  filtered_steady [] xs = refl
  filtered_steady (p ∷ ps) xs =
      ap (λ (o : Outcome (List ℕ)). o >>= filtered ps there) (holding_steady p (length xs) 1 xs)
      ∙ agree (holding_from p c (length xs) 1 xs) (filtered ps there) (filtered ps c) (λ ys. filtered_steady ps ys)

pub steady_step : (s : PathStep) → SteadyStep (meaning_of_step s)
steady_step s =
    let P : PathStep → Type 0 = λ t. SteadyStep (meaning_of_step t) in
    subst P (roll-out-PathStep s)
    (subst SteadyStep (sym (fold-roll-PathStep Meaning StartMeaning StepMeaning layer_meaning start_meaning step_meaning (out-PathStep s)))
    (λ c y place size x. filtered_steady c y place size _ _))

module _ (c : Context) (y place size : ℕ) where
  gathered_steady : (s : StepMeaning) → SteadyStep s → (xs : List ℕ) → gathered s (there c y place size) xs ≡ gathered s c xs
  unfolding gathered
  gathered_steady s steady [] = refl
  gathered_steady s steady (x ∷ xs) = rw (steady c y place size x, gathered_steady s steady xs) refl

  pub along_steady : (steps : List PathStep) (xs : List ℕ) → along (map meaning_of_step steps) (there c y place size) xs ≡ along (map meaning_of_step steps) c xs
  unfolding along
  along_steady [] xs = refl
  along_steady (s ∷ steps) xs =
      let each = map meaning_of_step steps in
      ap (λ (o : Outcome (List ℕ)). (o >>= (λ ys. Ok (in_document_order c.rows ys))) >>= along each (there c y place size)) (gathered_steady (meaning_of_step s) (steady_step s) xs)
      ∙ agree (stepped (meaning_of_step s) c xs) (along each (there c y place size)) (along each c) (λ ys. along_steady steps ys)

-- ---- calls

argued : (r : Outcome Found) (s : Outcome (List Found)) (n : ℕ) → IfOk s (λ vs. length vs ≡ n) → IfOk (r >>= (λ v. s >>= (λ more. Ok (v ∷ more)))) (λ vs. length vs ≡ suc n)
argued (Err e) s n h = tt
argued (Ok v) (Err e) n h = tt
argued (Ok v) (Ok more) n h = omega (arith, h)

-- as many values as arguments
arguments_count : (ms : List Meaning) (c : Context) → IfOk (arguments_in ms c) (λ given. length given ≡ length ms)
unfolding arguments_in
arguments_count [] c = refl
arguments_count (m ∷ ms) c = argued (m c) (arguments_in ms c) (length ms) (arguments_count ms c)

applied_steady : (f : Function) (given : List Found) (c : Context) (y place size : ℕ) → asks_context f (length given) ≡ false → applied f given (at c y place size) ≡ applied f given c
applied_steady function.Last given c y place size h = absurd cc
applied_steady function.Position given c y place size h = absurd cc
applied_steady function.Lang given c y place size h = absurd cc
applied_steady function.True given c y place size h = refl
applied_steady function.False given c y place size h = refl
applied_steady function.Here given c y place size h = refl
applied_steady function.Concat given c y place size h = refl
applied_steady function.StartsWith [] c y place size h = absurd cc
applied_steady function.StartsWith (v ∷ []) c y place size h = absurd cc
applied_steady function.StartsWith (v ∷ (w ∷ more)) c y place size h = refl
applied_steady function.Contains [] c y place size h = absurd cc
applied_steady function.Contains (v ∷ []) c y place size h = absurd cc
applied_steady function.Contains (v ∷ (w ∷ more)) c y place size h = refl
applied_steady function.SubstringBefore [] c y place size h = absurd cc
applied_steady function.SubstringBefore (v ∷ []) c y place size h = absurd cc
applied_steady function.SubstringBefore (v ∷ (w ∷ more)) c y place size h = refl
applied_steady function.SubstringAfter [] c y place size h = absurd cc
applied_steady function.SubstringAfter (v ∷ []) c y place size h = absurd cc
applied_steady function.SubstringAfter (v ∷ (w ∷ more)) c y place size h = refl
applied_steady function.Substring [] c y place size h = absurd cc
applied_steady function.Substring (v ∷ []) c y place size h = absurd cc
applied_steady function.Substring (v ∷ (w ∷ more)) c y place size h = refl
applied_steady function.Translate [] c y place size h = absurd cc
applied_steady function.Translate (v ∷ []) c y place size h = absurd cc
applied_steady function.Translate (v ∷ (w ∷ [])) c y place size h = absurd cc
applied_steady function.Translate (v ∷ (w ∷ (u ∷ more))) c y place size h = refl
applied_steady function.Count [] c y place size h = absurd cc
applied_steady function.Count (v ∷ more) c y place size h = refl
applied_steady function.Id [] c y place size h = absurd cc
applied_steady function.Id (v ∷ more) c y place size h = refl
applied_steady function.LocalName [] c y place size h = absurd cc
applied_steady function.LocalName (v ∷ more) c y place size h = refl
applied_steady function.NamespaceUri [] c y place size h = absurd cc
applied_steady function.NamespaceUri (v ∷ more) c y place size h = refl
applied_steady function.Name [] c y place size h = absurd cc
applied_steady function.Name (v ∷ more) c y place size h = refl
applied_steady function.String [] c y place size h = absurd cc
applied_steady function.String (v ∷ more) c y place size h = refl
applied_steady function.StringLength [] c y place size h = absurd cc
applied_steady function.StringLength (v ∷ more) c y place size h = refl
applied_steady function.NormalizeSpace [] c y place size h = absurd cc
applied_steady function.NormalizeSpace (v ∷ more) c y place size h = refl
applied_steady function.Boolean [] c y place size h = absurd cc
applied_steady function.Boolean (v ∷ more) c y place size h = refl
applied_steady function.Not [] c y place size h = absurd cc
applied_steady function.Not (v ∷ more) c y place size h = refl
applied_steady function.Number [] c y place size h = absurd cc
applied_steady function.Number (v ∷ more) c y place size h = refl
applied_steady function.Sum [] c y place size h = absurd cc
applied_steady function.Sum (v ∷ more) c y place size h = refl
applied_steady function.Floor [] c y place size h = absurd cc
applied_steady function.Floor (v ∷ more) c y place size h = refl
applied_steady function.Ceiling [] c y place size h = absurd cc
applied_steady function.Ceiling (v ∷ more) c y place size h = refl
applied_steady function.Round [] c y place size h = absurd cc
applied_steady function.Round (v ∷ more) c y place size h = refl

call_agrees : (f : Function) (r : Outcome (List Found)) (count : ℕ) (c : Context) (y place size : ℕ) → IfOk r (λ given. length given ≡ count) → asks_context f count ≡ false
    → (r >>= (λ given. applied f given (at c y place size))) ≡ (r >>= (λ given. applied f given c))
call_agrees f (Ok given) count c y place size e h = applied_steady f given c y place size (ap (asks_context f) e ∙ h)
call_agrees f (Err e) count c y place size t h = refl

-- ---- operators

operated_steady : (o : BinaryOp) (x z : Found) (c : Context) (y place size : ℕ) → operated o x z (at c y place size) ≡ operated o x z c
operated_steady op.Or x z c y place size = refl
operated_steady op.And x z c y place size = refl
operated_steady op.Union x z c y place size = refl
operated_steady op.Equal x z c y place size = refl
operated_steady op.NotEqual x z c y place size = refl
operated_steady op.Less x z c y place size = refl
operated_steady op.LessEqual x z c y place size = refl
operated_steady op.Greater x z c y place size = refl
operated_steady op.GreaterEqual x z c y place size = refl
operated_steady op.Add x z c y place size = refl
operated_steady op.Subtract x z c y place size = refl
operated_steady op.Multiply x z c y place size = refl
operated_steady op.Mod x z c y place size = refl

behind_steady : (e : Option EvalRefusal) (o : BinaryOp) (x : Found) (r : Meaning) → Steady r → Steady (behind_left e o x r)
behind_steady (Some e) o x r steady c y place size = refl
behind_steady None o x r steady c y place size =
    ap (λ (s : Outcome Found). s >>= (λ z. operated o x z (at c y place size))) (steady c y place size)
    ∙ agree (r c) (λ z. operated o x z (at c y place size)) (λ z. operated o x z c) (λ z. operated_steady o x z c y place size)

after_steady : (o : BinaryOp) (x : Found) (r : Meaning) → Steady r → Steady (after_left o x r)
after_steady o x r steady c y place size =
    ap (λ (s : Outcome Found). if decides o x then Ok (Truth (truth_of x)) else s) (behind_steady (refused_by o x) o x r steady c y place size)

binary_steady : (o : BinaryOp) (l r : Meaning) → Steady l → Steady r → Steady (binary o l r)
binary_steady o l r left right c y place size =
    ap (λ (s : Outcome Found). s >>= (λ x. after_left o x r (at c y place size))) (left c y place size)
    ∙ agree (l c) (λ x. after_left o x r (at c y place size)) (λ x. after_left o x r c) (λ x. after_steady o x r right c y place size)

-- ---- by induction over an expression

abbrev IsSteady : Expr → Type 0
IsSteady e = reads_context e ≡ false → Steady (meaning e)

abbrev BeginsSteady : PathStart → Type 0
BeginsSteady s = reads_of_start s ≡ false → Steady (meaning_of_start s)

abbrev AnyStep : PathStep → Type 0
AnyStep s = Unit {0}

-- a layer with what holds of its parts, the layer without that, what its parts mean, and which of them read the context
abbrev WithSteady : Type 0
WithSteady = Expr-F ((e : Expr) × IsSteady e) ((s : PathStart) × BeginsSteady s) ((s : PathStep) × AnyStep s)

abbrev plain : WithSteady → Expr-F Expr PathStart PathStep
plain = map-Expr ((e : Expr) × IsSteady e) ((s : PathStart) × BeginsSteady s) ((s : PathStep) × AnyStep s) Expr PathStart PathStep (λ e. e.0) (λ s. s.0) (λ s. s.0)

abbrev meant : Expr-F Expr PathStart PathStep → Expr-F Meaning StartMeaning StepMeaning
meant = map-Expr Expr PathStart PathStep Meaning StartMeaning StepMeaning meaning meaning_of_start meaning_of_step

abbrev reads_of_step : PathStep → Bool
reads_of_step = fold-PathStep Bool Bool Bool layer_reads start_reads step_reads

abbrev read : Expr-F Expr PathStart PathStep → Expr-F Bool Bool Bool
read = map-Expr Expr PathStart PathStep Bool Bool Bool reads_context reads_of_start reads_of_step

arguments_steady : (args : List ((e : Expr) × IsSteady e)) → list_any (λ arg. arg) (map reads_context (map (λ e. e.0) args)) ≡ false → Steady (arguments_in (map meaning (map (λ e. e.0) args)))
unfolding arguments_in
arguments_steady [] h c y place size = refl
arguments_steady (e ∷ args) h c y place size =
    let none = both_false (reads_context e.0) (list_any (λ arg. arg) (map reads_context (map (λ e. e.0) args))) h in
    rw (e.1 none.0 c y place size, arguments_steady args none.1 c y place size) refl

same_count : (args : List Expr) → length (map meaning args) ≡ length (map reads_context args)
same_count [] = refl
same_count (e ∷ args) = omega (arith, same_count args)

call_steady : (f : Function) (args : List ((e : Expr) × IsSteady e)) → asks_context f (length (map reads_context (map (λ e. e.0) args))) ≡ false
    → list_any (λ arg. arg) (map reads_context (map (λ e. e.0) args)) ≡ false → Steady (λ c. arguments_in (map meaning (map (λ e. e.0) args)) c >>= (λ given. applied f given c))
call_steady f args asks reads c y place size =
    let each = map (λ e. e.0) args in
    ap (λ (o : Outcome (List Found)). o >>= (λ given. applied f given (at c y place size))) (arguments_steady args reads c y place size)
    ∙ call_agrees f (arguments_in (map meaning each) c) (length (map meaning each)) c y place size (arguments_count (map meaning each) c) (ap (asks_context f) (same_count each) ∙ asks)

layer_steady : (x : WithSteady) → layer_reads (read (plain x)) ≡ false → Steady (layer_meaning (meant (plain x)))
layer_steady (Expr-F.Binary o l r) h =
    let none = both_false (reads_context l.0) (reads_context r.0) h in
    λ c y place size. binary_steady o (meaning l.0) (meaning r.0) (l.1 none.0) (r.1 none.1) c y place size
layer_steady (Expr-F.Negate m) h =
    λ c y place size. ap (λ (o : Outcome Found). o >>= (λ x. number_in c.rows x >>= (λ a. negated a >>= (λ n. Ok (Num n))))) (m.1 h c y place size)
layer_steady (Expr-F.Literal w) h = λ c y place size. refl
layer_steady (Expr-F.Number n) h = λ c y place size. refl
layer_steady (Expr-F.Call f args) h =
    let none = both_false (asks_context f (length (map reads_context (map (λ e. e.0) args)))) _ h in
    λ c y place size. call_steady f args none.0 none.1 c y place size
layer_steady (Expr-F.Filtered base predicates) h =
    λ c y place size.
    let each = map meaning (map (λ e. e.0) predicates) in
    let begun : nodes_meant (meaning base.0) (at c y place size) ≡ nodes_meant (meaning base.0) c = ap (λ (o : Outcome Found). o >>= nodes_in) (base.1 h c y place size) in
    let next : Context → List ℕ → Outcome Found = λ d xs. filtered each d xs >>= (λ ys. Ok (Nodes ys)) in
    ap (λ (o : Outcome (List ℕ)). o >>= next (at c y place size)) begun
    ∙ agree (nodes_meant (meaning base.0) c) (next (at c y place size)) (next c)
    (λ xs. ap (λ (o : Outcome (List ℕ)). o >>= (λ ys. Ok (Nodes ys))) (filtered_steady c y place size each xs))
layer_steady (Expr-F.Path start steps) h =
    λ c y place size.
    let each = map (λ s. s.0) steps in
    let next : Context → List ℕ → Outcome Found = λ d xs. along (map meaning_of_step each) d xs >>= (λ ys. Ok (Nodes ys)) in
    ap (λ (o : Outcome (List ℕ)). o >>= next (at c y place size)) (start.1 h c y place size)
    ∙ agree (meaning_of_start start.0 c) (next (at c y place size)) (next c)
    (λ xs. ap (λ (o : Outcome (List ℕ)). o >>= (λ ys. Ok (Nodes ys))) (along_steady c y place size each xs))

expr_steady : (x : Expr-F Expr PathStart PathStep) (y : WithSteady) → plain y ≡ x → IsSteady (roll-Expr x)
expr_steady x y is =
    let P : Expr-F Expr PathStart PathStep → Type 0 = λ z. IsSteady (roll-Expr z) in
    subst P is (λ h.
    subst Steady (sym (fold-roll-Expr Meaning StartMeaning StepMeaning layer_meaning start_meaning step_meaning (plain y)))
    (layer_steady y (sym (fold-roll-Expr Bool Bool Bool layer_reads start_reads step_reads (plain y)) ∙ h)))

-- the same of where a path begins
abbrev StartWithSteady : Type 0
StartWithSteady = PathStart-F ((e : Expr) × IsSteady e) ((s : PathStart) × BeginsSteady s) ((s : PathStep) × AnyStep s)

abbrev plain_start : StartWithSteady → PathStart-F Expr PathStart PathStep
plain_start = map-PathStart ((e : Expr) × IsSteady e) ((s : PathStart) × BeginsSteady s) ((s : PathStep) × AnyStep s) Expr PathStart PathStep (λ e. e.0) (λ s. s.0) (λ s. s.0)

abbrev meant_start : PathStart-F Expr PathStart PathStep → PathStart-F Meaning StartMeaning StepMeaning
meant_start = map-PathStart Expr PathStart PathStep Meaning StartMeaning StepMeaning meaning meaning_of_start meaning_of_step

abbrev read_start : PathStart-F Expr PathStart PathStep → PathStart-F Bool Bool Bool
read_start = map-PathStart Expr PathStart PathStep Bool Bool Bool reads_context reads_of_start reads_of_step

start_layer_steady : (x : StartWithSteady) → start_reads (read_start (plain_start x)) ≡ false → Steady (start_meaning (meant_start (plain_start x)))
start_layer_steady PathStart-F.Context h = absurd cc
start_layer_steady PathStart-F.Root h = λ c y place size. refl
start_layer_steady (PathStart-F.From m) h = λ c y place size. ap (λ (o : Outcome Found). o >>= nodes_in) (m.1 h c y place size)

start_steady : (x : PathStart-F Expr PathStart PathStep) (y : StartWithSteady) → plain_start y ≡ x → BeginsSteady (roll-PathStart x)
start_steady x y is =
    let P : PathStart-F Expr PathStart PathStep → Type 0 = λ z. BeginsSteady (roll-PathStart z) in
    subst P is (λ h.
    subst Steady (sym (fold-roll-PathStart Meaning StartMeaning StepMeaning layer_meaning start_meaning step_meaning (plain_start y)))
    (start_layer_steady y (sym (fold-roll-PathStart Bool Bool Bool layer_reads start_reads step_reads (plain_start y)) ∙ h)))

pub steady_expression : (e : Expr) → reads_context e ≡ false → Steady (meaning e)
steady_expression = ind-Expr IsSteady BeginsSteady AnyStep (λ x y is. expr_steady x y is) (λ x y is. start_steady x y is) (λ x y is. tt)

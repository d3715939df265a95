-- Expressions of steps, read and evaluated.
use Rattle.std.proofs.Common.{◌≡◌, ◌∙◌, ◌<◌, ◌≤◌, ◌+◌, ◌-◌, ℕ, Bool, true, false, List, [], ◌∷◌, ◌++◌, length, map, drop, Option, Some, None, Result, Ok, Err, refl, sym, ap, subst, arith, append_assoc, append-nil}
use Rattle.std.specs.Prelude.{IfSome, encode_utf8_all}
use Rattle.std.specs.List.{All, range_with_len}
use Rattle.std.proofs.Math.Path.{fun_ext}
use Rattle.std.proofs.lemmas.List.Elements.{All-map}
use Rattle.sig_base.specs.Outcomes.{and_then, with_cause}
use Rattle.sig_base.specs.declared.method.FilterKind.{FilterKind}
use Rattle.xml_doc.specs.Rows.{RowOf}
use Rattle.node_sets.specs.Members.{SetOf, has}
use Rattle.dsig_fields.specs.Fits.{FilterFits, IsElement}
use Rattle.dsig_fields.specs.declared.fields.Filter.{Filter}
use Rattle.xpath_words.specs.Prefixes.{Pair}
use Rattle.xpath_syntax.specs.Outcome as syntax
use Rattle.xpath_syntax.specs.Outcome.{parse_outcome}
use Rattle.xpath_syntax.specs.declared.expr.Expr.{Expr}
use Rattle.xpath_syntax.specs.declared.refusal.SyntaxRefusal.{SyntaxRefusal}
use Rattle.xpath_syntax.specs.declared.refusal.SyntaxRefusal.TheVariants as unread
use Rattle.xpath_eval.specs.Context.{is_in}
use Rattle.xpath_eval.specs.Outcome as eval
use Rattle.xpath_eval.specs.Value.{HasRows, Keeps, each_true}
use Rattle.xpath_eval.specs.declared.refusal.EvalRefusal.{EvalRefusal}
use Rattle.xpath_eval.specs.declared.refusal.EvalRefusal.TheVariants as unevaluated
use Rattle.filter2.specs.Selections as filtering
use Rattle.filter2.specs.Selections.{Applies, transformed}
use Rattle.filter2.specs.declared.transform.FilterRefusal.{FilterRefusal}
use Rattle.transforms.specs.Code.Answers.{Alters, Gives, Refuses, eval_cause, nodes_of, syntax_cause}
use Rattle.transforms.specs.Expressions.{expression_of, expressions_from, filters_applied, here_in, heres_in, prefixes_in_scope, true_nodes}
use Rattle.transforms.specs.Values.{Nodes, Value, OfNodes}
use Rattle.transforms.specs.declared.refusal.RefRefusal.{RefRefusal}
use Rattle.transforms.specs.declared.refusal.RefRefusal.TheVariants.{Syntax, Eval}

-- ---- reading
module _ (number part : ℕ) where
  unread_as : (o : Result Expr SyntaxRefusal) (cause : SyntaxRefusal) → o ≡ Err cause → with_cause (Syntax number part) o ≡ Err (Syntax number part cause)
  unread_as o cause e = ap (with_cause (Syntax number part)) e

  pub syntax_refused : (o : Result Expr SyntaxRefusal) (cause : SyntaxRefusal) → syntax.Refuses cause o → Refuses (syntax_cause number part cause) (with_cause (Syntax number part) o)
  syntax_refused o unread.TooLong e = unread_as o unread.TooLong e
  syntax_refused o unread.NotXPath e = unread_as o unread.NotXPath e
  syntax_refused o unread.TooDeep e = unread_as o unread.TooDeep e
  syntax_refused o unread.Fraction e = unread_as o unread.Fraction e
  syntax_refused o unread.NumberRange e = unread_as o unread.NumberRange e
  syntax_refused o unread.Div e = unread_as o unread.Div e
  syntax_refused o unread.Variable e = unread_as o unread.Variable e
  syntax_refused o unread.UnknownFunction e = unread_as o unread.UnknownFunction e
  syntax_refused o unread.Arity e = unread_as o unread.Arity e
  syntax_refused o unread.UnboundPrefix e = unread_as o unread.UnboundPrefix e
  syntax_refused o unread.Memory e = tt

-- what `parse` answers of the text and the prefixes of an element
module _ (rows : List RowOf) (number part row : ℕ) (text octets : List ℕ) (prefixes : List Pair) (spelled : octets ≡ encode_utf8_all text) (scope : prefixes ≡ prefixes_in_scope rows row) where
  same : parse_outcome octets prefixes ≡ parse_outcome (encode_utf8_all text) (prefixes_in_scope rows row)
  same = ap (λ (t : List ℕ). parse_outcome t prefixes) spelled ∙ ap (parse_outcome (encode_utf8_all text)) scope

  pub read : (x : Expr) → parse_outcome octets prefixes ≡ Ok x → expression_of rows number part row text ≡ Ok x
  read x e = ap (with_cause (Syntax number part)) (sym same ∙ e)

  pub not_read : (cause : SyntaxRefusal) → syntax.Refuses cause (parse_outcome octets prefixes) → Refuses (syntax_cause number part cause) (expression_of rows number part row text)
  not_read cause h =
      let P : Result Expr SyntaxRefusal → Type 0 = λ o. syntax.Refuses cause o in
      syntax_refused number part _ cause (subst P same h)

-- ---- evaluation
module _ {A : Type 0} (number part : ℕ) (o : Result A EvalRefusal) (f : A → Result Value RefRefusal) where
  eval_as : (cause : EvalRefusal) → o ≡ Err cause → and_then (with_cause (Eval number part) o) f ≡ Err (Eval number part cause)
  eval_as cause e = ap (λ (r : Result A EvalRefusal). and_then (with_cause (Eval number part) r) f) e

  pub eval_refused : (cause : EvalRefusal) → eval.Refuses cause o → Refuses (eval_cause number part cause) (and_then (with_cause (Eval number part) o) f)
  eval_refused unevaluated.Fraction e = eval_as unevaluated.Fraction e
  eval_refused unevaluated.NumberRange e = eval_as unevaluated.NumberRange e
  eval_refused unevaluated.NotNodes e = eval_as unevaluated.NotNodes e
  eval_refused (unevaluated.AmbiguousId i j) e = eval_as (unevaluated.AmbiguousId i j) e
  eval_refused unevaluated.HereElsewhere e = eval_as unevaluated.HereElsewhere e
  eval_refused unevaluated.Memory e = tt

-- the nodes of a set that has become another one of the same document
as_nodes : (own : Bool) (rows : List RowOf) (set : ℕ → Bool) (new : SetOf) → has new.members ≡ set → new.rows ≡ rows
    → OfNodes (record { own = own; rows = rows; set = set }) ≡ OfNodes (nodes_of own new)
as_nodes own rows set new members document =
    ap (λ (t : ℕ → Bool). OfNodes (record { own = own; rows = rows; set = t })) (sym members)
    ∙ ap (λ (rs : List RowOf). OfNodes (record { own = own; rows = rs; set = has new.members })) (sym document)

module _ (own : Bool) (number row : ℕ) (e : Expr) (old new : SetOf) (here : Option ℕ) (is : here ≡ here_in own row) where
  there : each_true e old.rows (has old.members) here ≡ each_true e old.rows (has old.members) (here_in own row)
  there = ap (each_true e old.rows (has old.members)) is

  pub kept_true : Keeps (Ok tt) old new (each_true e old.rows (has old.members) here) → true_nodes number row (nodes_of own old) e ≡ Ok (OfNodes (nodes_of own new))
  kept_true k =
      ap (λ (r : Result (List ℕ) EvalRefusal). and_then (with_cause (Eval number 1) r) (λ ys. Ok (OfNodes (record { own = own; rows = old.rows; set = is_in ys })))) (sym there ∙ k.1)
      ∙ ap Ok (as_nodes own old.rows (is_in k.0) new (fun_ext k.2.0) k.2.1)

  pub not_kept : (cause : EvalRefusal) → eval.Refuses cause (each_true e old.rows (has old.members) here) → Refuses (eval_cause number 1 cause) (true_nodes number row (nodes_of own old) e)
  not_kept cause h =
      let P : Result (List ℕ) EvalRefusal → Type 0 = λ o. eval.Refuses cause o in
      eval_refused number 1 (each_true e old.rows (has old.members) (here_in own row)) _ cause (subst P there h)

-- ---- steps behind a step
pub alters_as : (own : Bool) (r : Result (Unit {0}) RefRefusal) (new : SetOf) (one other : Result Value RefRefusal) → one ≡ other → Alters own r new one → Alters own r new other
alters_as own r new one other e h = let P : Result Value RefRefusal → Type 0 = λ o. Alters own r new o in subst P e h

-- ---- filters
-- what is read already, and what is still to come
abbrev pub behind : {X : Type 0} → List X → Result (List X) RefRefusal → Result (List X) RefRefusal
behind front outcome = and_then outcome (λ more. Ok (front ++ more))

behind_more : {X : Type 0} (front : List X) (x : X) (r : Result (List X) RefRefusal) → behind (front ++ (x ∷ [])) r ≡ behind front (and_then r (λ more. Ok (x ∷ more)))
behind_more front x (Ok more) = ap Ok (append_assoc front (x ∷ []) more)
behind_more front x (Err e) = refl

pub none_yet : {X : Type 0} (r : Result (List X) RefRefusal) → behind [] r ≡ r
none_yet (Ok xs) = refl
none_yet (Err e) = refl

module _ (rows : List RowOf) (number part : ℕ) (f : Filter) (more : List Filter) (front : List (FilterKind × Expr)) where
  pub one_read : (e : Expr) → expression_of rows number part f.row f.text ≡ Ok e
      → behind (front ++ ((f.kind, e) ∷ [])) (expressions_from rows number (part + 1) more) ≡ behind front (expressions_from rows number part (f ∷ more))
  unfolding expressions_from
  one_read e is = behind_more front (f.kind, e) (expressions_from rows number (part + 1) more) ∙ rw is refl

  pub one_unread : (cause : RefRefusal) → expression_of rows number part f.row f.text ≡ Err cause → behind front (expressions_from rows number part (f ∷ more)) ≡ Err cause
  unfolding expressions_from
  one_unread cause is = rw is refl

pub all_read : (rows : List RowOf) (number part : ℕ) (front : List (FilterKind × Expr)) → behind front (expressions_from rows number part []) ≡ Ok front
unfolding expressions_from
all_read rows number part front = ap Ok (append-nil front)

-- the nodes of `here()` are rows of the document
pub heres_within : (rows : List RowOf) (own : Bool) (filters : List Filter) → (own ≡ true → All (FilterFits rows) filters) → All (λ h. IfSome h (λ x. x < length rows)) (heres_in own filters)
heres_within rows true filters fit = All-map (λ h. IfSome h (λ x. x < length rows)) (λ f. here_in true f.row) filters (λ k f lt. (fit refl k f lt).within)
heres_within rows false filters fit = All-map (λ h. IfSome h (λ x. x < length rows)) (λ f. here_in false f.row) filters (λ k f lt. tt)

module _ (own : Bool) (number : ℕ) (filters : List Filter) (es : List (FilterKind × Expr)) (old new : SetOf) (heres : List (Option ℕ)) (is : heres ≡ heres_in own filters) where
  abbrev given : Result (ℕ → Bool) FilterRefusal
  given = transformed old.rows es (heres_in own filters) (has old.members)

  applied_there : transformed old.rows es heres (has old.members) ≡ given
  applied_there = ap (λ (hs : List (Option ℕ)). transformed old.rows es hs (has old.members)) is

  abbrev kept : Result (ℕ → Bool) FilterRefusal → Result Value RefRefusal
  kept r = and_then (with_cause (λ (r : FilterRefusal). Eval number r.part r.cause) r) (λ set. Ok (OfNodes (record { own = own; rows = old.rows; set = set })))

  pub applied : (transformed old.rows es heres (has old.members) ≡ Ok (has new.members)) → new.rows ≡ old.rows
      → filters_applied number filters (nodes_of own old) es ≡ Ok (OfNodes (nodes_of own new))
  applied e document = ap kept (sym applied_there ∙ e) ∙ ap Ok (as_nodes own old.rows (has new.members) new refl document)

  not_applied_as : (part : ℕ) (cause : EvalRefusal) → given ≡ Err (filtering.refused_at part cause) → kept given ≡ Err (Eval number part cause)
  not_applied_as part cause e = ap kept e

  refused_as : (part : ℕ) (cause : EvalRefusal) → filtering.RefusesBy part cause given → Refuses (eval_cause number part cause) (kept given)
  refused_as part unevaluated.Fraction e = not_applied_as part unevaluated.Fraction e
  refused_as part unevaluated.NumberRange e = not_applied_as part unevaluated.NumberRange e
  refused_as part unevaluated.NotNodes e = not_applied_as part unevaluated.NotNodes e
  refused_as part (unevaluated.AmbiguousId i j) e = not_applied_as part (unevaluated.AmbiguousId i j) e
  refused_as part unevaluated.HereElsewhere e = not_applied_as part unevaluated.HereElsewhere e
  refused_as part unevaluated.Memory e = tt

  pub not_applied : (r : FilterRefusal) → filtering.Refuses r (transformed old.rows es heres (has old.members)) → Refuses (eval_cause number r.part r.cause) (filters_applied number filters (nodes_of own old) es)
  not_applied r h =
      let P : Result (ℕ → Bool) FilterRefusal → Type 0 = λ o. filtering.Refuses r o in
      refused_as r.part r.cause (subst P applied_there h)

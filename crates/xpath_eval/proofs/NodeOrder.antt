-- Every node set that an expression comes to stands in document order.
use Rattle.std.proofs.Common.{◌≡◌, ℕ, suc, ◌<◌, ◌≤◌, Bool, true, false, List, [], ◌∷◌, ◌++◌, length, map, refl, sym, ap, subst, ◌∙◌, arith}
use Rattle.std.specs.Prelude.{pos, Option, Some, None, Ok, Err, IfSome, slice_get, if◌then◌else◌}
use Rattle.xml_doc.specs.Rows.{RowOf}
use Rattle.xpath_value.specs.declared.number.Number.{Number}
use Rattle.xpath_value.specs.declared.number.Number.TheVariants.{Whole, Nan}
use Rattle.xpath_words.specs.declared.function.Function.{Function}
use Rattle.xpath_words.specs.declared.function.Function.TheVariants as function
use Rattle.xpath_words.specs.declared.operator.BinaryOp.{BinaryOp}
use Rattle.xpath_words.specs.declared.operator.BinaryOp.TheVariants as op
use Rattle.xpath_syntax.specs.declared.expr.Expr.{Expr, map-Expr, roll-Expr}
use Rattle.xpath_syntax.specs.declared.expr.PathStart.{PathStart, map-PathStart, roll-PathStart}
use Rattle.xpath_syntax.specs.declared.expr.PathStep.{PathStep}
use Rattle.xpath_syntax.specs.declared.expr.Expr.TheOpen.{Expr-F, PathStart-F, PathStep-F}
use Rattle.xpath_syntax.specs.declared.expr.Expr.TheFolds.{fold-roll-Expr, fold-roll-PathStart, ind-Expr}
use Rattle.xpath_eval.specs.Code.Meaning.{meaning_of_start, meaning_of_step}
use Rattle.xpath_eval.specs.declared.function.NamePart.{NamePart}
use Rattle.xpath_eval.specs.declared.function.NamePart.TheVariants as part
use Rattle.xpath_eval.specs.declared.found.Found.{Found}
use Rattle.xpath_eval.specs.declared.found.Found.TheVariants.{Truth, Num, Words, Nodes}
use Rattle.xpath_eval.specs.declared.refusal.EvalRefusal.{EvalRefusal}
use Rattle.xpath_eval.specs.Arithmetic.{arithmetic, is_arithmetic, negated, ranged}
use Rattle.xpath_value.specs.Texts.{substring_of}
use Rattle.xpath_eval.specs.Comparisons.{compared, number_at}
use Rattle.xpath_eval.specs.Context.{Context, at, in_document_order, is_in}
use Rattle.xpath_eval.specs.Found.{Outcome, ◌>>=◌, each, nodes_in, number_in, truth_of}
use Rattle.xpath_eval.specs.Functions.{applied, argument, bearing, elements_by_id, id_tokens, optional_number, total, words_at, here_of, named, nodes_at, of_first, part_of, ranged_total, sum_of}
use Rattle.xpath_eval.specs.Meaning.{after_left, arguments_in, behind_left, binary, calculated, decides, layer_meaning, meaning, start_meaning, step_meaning, nodes_meant, operated, refused_by, related, united}
use Rattle.xpath_eval.specs.Steps.{Meaning, StartMeaning, StepMeaning, along, filtered, gathered, holding_from, holds, kept, stepped}
use Rattle.xpath_eval.specs.Order.{Ascends}
use Rattle.xpath_eval.proofs.Order.{lower, range_ascends}

-- ---- outcomes

pub bind_ok : {A B : Type 0} (r : Outcome A) (f : A → Outcome B) (z : B) → (r >>= f) ≡ Ok z → (x : A) × (r ≡ Ok x) × (f x ≡ Ok z)
bind_ok (Ok x) f z h = (x, refl, h)
bind_ok (Err e) f z h = absurd cc

same_rows : (ys zs : List ℕ) (n : ℕ) → ◌≡◌ {A = Outcome Found} (Ok (Nodes ys)) (Ok (Nodes zs)) → Ascends 0 n ys → Ascends 0 n zs
same_rows ys zs n h all = let same : ys ≡ zs = cc in subst (Ascends 0 n) same all

ordered_ascends : (rows : List RowOf) (ys : List ℕ) → Ascends 0 (length rows) (in_document_order rows ys)
ordered_ascends rows ys = range_ascends (is_in ys) 0 (length rows) (length rows) (omega arith)

-- ---- predicates and steps

kept_ascends : (b : Bool) (y low n : ℕ) (more ys : List ℕ) → ◌≡◌ {A = Outcome (List ℕ)} (Ok (kept b y more)) (Ok ys) → low ≤ y → y < n → Ascends (suc y) n more → Ascends low n ys
kept_ascends true y low n more ys h from until all = let same : y ∷ more ≡ ys = cc in subst (Ascends low n) same (from, until, all)
kept_ascends false y low n more ys h from until all = let same : more ≡ ys = cc in subst (Ascends low n) same (lower low (suc y) n more (omega (arith, from)) all)

holding_ascends : (p : Meaning) (c : Context) (size place low n : ℕ) (xs ys : List ℕ) → holding_from p c size place xs ≡ Ok ys → Ascends low n xs → Ascends low n ys
unfolding holding_from
holding_ascends p c size place low n [] ys h all = let same : [] ≡ ys = cc in subst (Ascends low n) same tt
holding_ascends p c size place low n (x ∷ xs) ys h all =
    let v = bind_ok (p (at c x place size)) _ ys h in
    let more = bind_ok (holding_from p c size (suc place) xs) _ ys v.2 in
    kept_ascends (holds v.0 place) x low n more.0 ys more.2 all.0 all.1 (holding_ascends p c size (suc place) (suc x) n xs more.0 more.1 all.2)

pub filtered_ascends : (ps : List Meaning) (c : Context) (n : ℕ) (xs ys : List ℕ) → filtered ps c xs ≡ Ok ys → Ascends 0 n xs → Ascends 0 n ys
unfolding filtered
filtered_ascends [] c n xs ys h all = let same : xs ≡ ys = cc in subst (Ascends 0 n) same all
filtered_ascends (p ∷ ps) c n xs ys h all =
    let zs = bind_ok (holding_from p c (length xs) 1 xs) _ ys h in
    filtered_ascends ps c n zs.0 ys zs.2 (holding_ascends p c (length xs) 1 0 n xs zs.0 zs.1 all)

pub along_ascends : (ss : List StepMeaning) (c : Context) (xs ys : List ℕ) → along ss c xs ≡ Ok ys → Ascends 0 (length c.rows) xs → Ascends 0 (length c.rows) ys
unfolding along
along_ascends [] c xs ys h all = let same : xs ≡ ys = cc in subst (Ascends 0 (length c.rows)) same all
along_ascends (s ∷ ss) c xs ys h all =
    let zs = bind_ok (stepped s c xs) _ ys h in
    let found = bind_ok (gathered s c xs) (λ us. Ok (in_document_order c.rows us)) zs.0 zs.1 in
    let same : in_document_order c.rows found.0 ≡ zs.0 = cc in
    along_ascends ss c zs.0 ys zs.2 (subst (Ascends 0 (length c.rows)) same (ordered_ascends c.rows found.0))

-- ---- values that are no node sets

module _ (n : ℕ) (ys : List ℕ) where
  no_number : {A : Type 0} (r : Outcome A) (f : A → Number) → (r >>= (λ a. Ok (Num (f a)))) ≡ Ok (Nodes ys) → Ascends 0 n ys
  no_number (Ok a) f h = absurd cc
  no_number (Err e) f h = absurd cc

  no_truth : {A : Type 0} (r : Outcome A) (f : A → Bool) → (r >>= (λ a. Ok (Truth (f a)))) ≡ Ok (Nodes ys) → Ascends 0 n ys
  no_truth (Ok a) f h = absurd cc
  no_truth (Err e) f h = absurd cc

  no_words : {A : Type 0} (r : Outcome A) (f : A → List ℕ) → (r >>= (λ a. Ok (Words (f a)))) ≡ Ok (Nodes ys) → Ascends 0 n ys
  no_words (Ok a) f h = absurd cc
  no_words (Err e) f h = absurd cc

  no_first : (f : RowOf → List ℕ) (rows : List RowOf) (zs : List ℕ) → ◌≡◌ {A = Outcome Found} (Ok (of_first f rows zs)) (Ok (Nodes ys)) → Ascends 0 n ys
  no_first f rows [] h = absurd cc
  no_first f rows (z ∷ zs) h = absurd cc

  no_name : (p : NamePart) (given : List Found) (c : Context) → named p given c ≡ Ok (Nodes ys) → Ascends 0 n ys
  no_name p given c h =
      let w = bind_ok (nodes_at given c) (λ zs. Ok (of_first (part_of p) c.rows zs)) (Nodes ys) h in
      no_first (part_of p) c.rows w.0 w.2

  no_total : (a : Number) → ranged_total a ≡ Ok (Nodes ys) → Ascends 0 n ys
  no_total Nan h = absurd cc
  no_total (Whole m) h = no_number (ranged m) (λ a. a) h

  no_sum : (given : List Found) (c : Context) → (nodes_at given c >>= sum_of c.rows) ≡ Ok (Nodes ys) → Ascends 0 n ys
  no_sum given c h =
      let w = bind_ok (nodes_at given c) (sum_of c.rows) (Nodes ys) h in
      let t = bind_ok (each (number_at c.rows) w.0) (λ ns. ranged_total (total ns)) (Nodes ys) w.2 in
      no_total (total t.0) t.2

-- ---- calls and operators

-- the nodes of a context are rows
pub record Within (c : Context) : Type 0 where
  pub node : c.node < length c.rows
  pub here : IfSome c.here (λ h. h < length c.rows)

here_ascends : (h : Option ℕ) (n : ℕ) (ys : List ℕ) → IfSome h (λ y. y < n) → here_of h ≡ Ok (Nodes ys) → Ascends 0 n ys
here_ascends None n ys within e = absurd cc
here_ascends (Some y) n ys within e = same_rows (y ∷ []) ys n e (omega arith, within, tt)

id_ascends : (rows : List RowOf) (v : Found) (ys : List ℕ) → elements_by_id rows v ≡ Ok (Nodes ys) → Ascends 0 (length rows) ys
id_ascends rows v ys h =
    let w = bind_ok (bearing rows (id_tokens rows v)) (λ zs. Ok (Nodes (in_document_order rows zs))) (Nodes ys) h in
    same_rows (in_document_order rows w.0) ys (length rows) w.2 (ordered_ascends rows w.0)

call_ascends : (f : Function) (given : List Found) (c : Context) (ys : List ℕ) → Within c → applied f given c ≡ Ok (Nodes ys) → Ascends 0 (length c.rows) ys
call_ascends function.Last given c ys w h = absurd cc
call_ascends function.Position given c ys w h = absurd cc
call_ascends function.Count given c ys w h = no_number (length c.rows) ys (nodes_at given c) (λ zs. Whole (pos (length zs))) h
call_ascends function.Id given c ys w h = id_ascends c.rows (argument 0 given c) ys h
call_ascends function.LocalName given c ys w h = no_name (length c.rows) ys part.Local given c h
call_ascends function.NamespaceUri given c ys w h = no_name (length c.rows) ys part.Namespace given c h
call_ascends function.Name given c ys w h = no_name (length c.rows) ys part.Whole given c h
call_ascends function.String given c ys w h = absurd cc
call_ascends function.Concat given c ys w h = absurd cc
call_ascends function.StartsWith given c ys w h = absurd cc
call_ascends function.Contains given c ys w h = absurd cc
call_ascends function.SubstringBefore given c ys w h = absurd cc
call_ascends function.SubstringAfter given c ys w h = absurd cc
call_ascends function.Substring given c ys w h =
    let from = bind_ok (number_in c.rows (argument 1 given c)) _ (Nodes ys) h in
    no_words (length c.rows) ys (optional_number c.rows (slice_get given 2)) (λ count. substring_of (words_at 0 given c) from.0 count) from.2
call_ascends function.StringLength given c ys w h = no_number (length c.rows) ys (ranged (pos (length (words_at 0 given c)))) (λ m. m) h
call_ascends function.NormalizeSpace given c ys w h = absurd cc
call_ascends function.Translate given c ys w h = absurd cc
call_ascends function.Boolean given c ys w h = absurd cc
call_ascends function.Not given c ys w h = absurd cc
call_ascends function.True given c ys w h = absurd cc
call_ascends function.False given c ys w h = absurd cc
call_ascends function.Lang given c ys w h = absurd cc
call_ascends function.Number given c ys w h = no_number (length c.rows) ys (number_in c.rows (argument 0 given c)) (λ m. m) h
call_ascends function.Sum given c ys w h = no_sum (length c.rows) ys given c h
call_ascends function.Floor given c ys w h = no_number (length c.rows) ys (number_in c.rows (argument 0 given c)) (λ m. m) h
call_ascends function.Ceiling given c ys w h = no_number (length c.rows) ys (number_in c.rows (argument 0 given c)) (λ m. m) h
call_ascends function.Round given c ys w h = no_number (length c.rows) ys (number_in c.rows (argument 0 given c)) (λ m. m) h
call_ascends function.Here given c ys w h = here_ascends c.here (length c.rows) ys w.here h

united_ascends : (x y : Found) (c : Context) (ys : List ℕ) → united x y c ≡ Ok (Nodes ys) → Ascends 0 (length c.rows) ys
united_ascends x y c ys h =
    let a = bind_ok (nodes_in x) _ (Nodes ys) h in
    let b = bind_ok (nodes_in y) (λ zs. Ok (Nodes (in_document_order c.rows (a.0 ++ zs)))) (Nodes ys) a.2 in
    same_rows (in_document_order c.rows (a.0 ++ b.0)) ys (length c.rows) b.2 (ordered_ascends c.rows (a.0 ++ b.0))

calculated_ascends : (o : BinaryOp) (x y : Found) (c : Context) (n : ℕ) (ys : List ℕ) → calculated o x y c ≡ Ok (Nodes ys) → Ascends 0 n ys
calculated_ascends o x y c n ys h =
    let a = bind_ok (number_in c.rows x) _ (Nodes ys) h in
    let b = bind_ok (number_in c.rows y) _ (Nodes ys) a.2 in
    no_number n ys (arithmetic o a.0 b.0) (λ m. m) b.2

other_ascends : (b : Bool) (o : BinaryOp) (x y : Found) (c : Context) (n : ℕ) (ys : List ℕ) → (if b then calculated o x y c else related o x y c) ≡ Ok (Nodes ys) → Ascends 0 n ys
other_ascends true o x y c n ys h = calculated_ascends o x y c n ys h
other_ascends false o x y c n ys h = no_truth n ys (compared o c.rows x y) (λ t. t) h

operated_ascends : (o : BinaryOp) (x y : Found) (c : Context) (ys : List ℕ) → operated o x y c ≡ Ok (Nodes ys) → Ascends 0 (length c.rows) ys
operated_ascends op.Or x y c ys h = absurd cc
operated_ascends op.And x y c ys h = absurd cc
operated_ascends op.Union x y c ys h = united_ascends x y c ys h
operated_ascends op.Equal x y c ys h = other_ascends false op.Equal x y c (length c.rows) ys h
operated_ascends op.NotEqual x y c ys h = other_ascends false op.NotEqual x y c (length c.rows) ys h
operated_ascends op.Less x y c ys h = other_ascends false op.Less x y c (length c.rows) ys h
operated_ascends op.LessEqual x y c ys h = other_ascends false op.LessEqual x y c (length c.rows) ys h
operated_ascends op.Greater x y c ys h = other_ascends false op.Greater x y c (length c.rows) ys h
operated_ascends op.GreaterEqual x y c ys h = other_ascends false op.GreaterEqual x y c (length c.rows) ys h
operated_ascends op.Add x y c ys h = other_ascends true op.Add x y c (length c.rows) ys h
operated_ascends op.Subtract x y c ys h = other_ascends true op.Subtract x y c (length c.rows) ys h
operated_ascends op.Multiply x y c ys h = other_ascends true op.Multiply x y c (length c.rows) ys h
operated_ascends op.Mod x y c ys h = other_ascends true op.Mod x y c (length c.rows) ys h

behind_ascends : (refused : Option EvalRefusal) (o : BinaryOp) (x : Found) (r : Meaning) (c : Context) (ys : List ℕ) → behind_left refused o x r c ≡ Ok (Nodes ys) → Ascends 0 (length c.rows) ys
behind_ascends (Some e) o x r c ys h = absurd cc
behind_ascends None o x r c ys h = let y = bind_ok (r c) _ (Nodes ys) h in operated_ascends o x y.0 c ys y.2

left_ascends : (b : Bool) (o : BinaryOp) (x : Found) (r : Meaning) (c : Context) (ys : List ℕ) (t : Bool) → (if b then Ok (Truth t) else behind_left (refused_by o x) o x r c) ≡ Ok (Nodes ys) → Ascends 0 (length c.rows) ys
left_ascends true o x r c ys t h = absurd cc
left_ascends false o x r c ys t h = behind_ascends (refused_by o x) o x r c ys h

pub binary_ascends : (o : BinaryOp) (l r : Meaning) (c : Context) (ys : List ℕ) → binary o l r c ≡ Ok (Nodes ys) → Ascends 0 (length c.rows) ys
binary_ascends o l r c ys h =
    let x = bind_ok (l c) _ (Nodes ys) h in
    left_ascends (decides o x.0) o x.0 r c ys (truth_of x.0) x.2

negate_ascends : (m : Meaning) (c : Context) (n : ℕ) (ys : List ℕ) → (m c >>= (λ x. number_in c.rows x >>= (λ a. negated a >>= (λ b. Ok (Num b))))) ≡ Ok (Nodes ys) → Ascends 0 n ys
negate_ascends m c n ys h =
    let x = bind_ok (m c) _ (Nodes ys) h in
    let a = bind_ok (number_in c.rows x.0) _ (Nodes ys) x.2 in
    no_number n ys (negated a.0) (λ b. b) a.2

-- ---- expressions

found_nodes : (v : Found) (xs : List ℕ) → nodes_in v ≡ Ok xs → v ≡ Nodes xs
found_nodes (Nodes ys) xs h = let same : ys ≡ xs = cc in ap Nodes same
found_nodes (Truth b) xs h = absurd cc
found_nodes (Num n) xs h = absurd cc
found_nodes (Words w) xs h = absurd cc

-- what an expression means is in document order
abbrev pub Ordered : Meaning → Type 0
Ordered m = (c : Context) → Within c → (ys : List ℕ) → m c ≡ Ok (Nodes ys) → Ascends 0 (length c.rows) ys

-- and so is what a path goes from
abbrev pub OrderedStart : StartMeaning → Type 0
OrderedStart s = (c : Context) → Within c → (ys : List ℕ) → s c ≡ Ok ys → Ascends 0 (length c.rows) ys

pub nodes_ordered : (m : Meaning) → Ordered m → OrderedStart (nodes_meant m)
nodes_ordered m all c w ys h =
    let v = bind_ok (m c) nodes_in ys h in
    all c w ys (v.1 ∙ ap Ok (found_nodes v.0 ys v.2))

pub one_ordered : (x n : ℕ) (ys : List ℕ) → x < n → ◌≡◌ {A = Outcome (List ℕ)} (Ok (x ∷ [])) (Ok ys) → Ascends 0 n ys
one_ordered x n ys lt h = let same : x ∷ [] ≡ ys = cc in subst (Ascends 0 n) same (omega arith, lt, tt)

pub path_ordered : (start : StartMeaning) (steps : List StepMeaning) → OrderedStart start → Ordered (λ c. start c >>= (λ xs. along steps c xs >>= (λ ys. Ok (Nodes ys))))
path_ordered start steps all c w ys h =
    let xs = bind_ok (start c) _ (Nodes ys) h in
    let zs = bind_ok (along steps c xs.0) (λ us. Ok (Nodes us)) (Nodes ys) xs.2 in
    same_rows zs.0 ys (length c.rows) zs.2 (along_ascends steps c xs.0 zs.0 zs.1 (all c w xs.0 xs.1))

pub filter_ordered : (base : Meaning) (predicates : List Meaning) → Ordered base → Ordered (λ c. nodes_meant base c >>= (λ xs. filtered predicates c xs >>= (λ ys. Ok (Nodes ys))))
filter_ordered base predicates all c w ys h =
    let xs = bind_ok (nodes_meant base c) _ (Nodes ys) h in
    let zs = bind_ok (filtered predicates c xs.0) (λ us. Ok (Nodes us)) (Nodes ys) xs.2 in
    same_rows zs.0 ys (length c.rows) zs.2 (filtered_ascends predicates c (length c.rows) xs.0 zs.0 zs.1 (nodes_ordered base all c w xs.0 xs.1))

-- ---- by induction over an expression

abbrev IsOrdered : Expr → Type 0
IsOrdered e = Ordered (meaning e)

abbrev BeginsOrdered : PathStart → Type 0
BeginsOrdered s = OrderedStart (meaning_of_start s)

abbrev AnyStep : PathStep → Type 0
AnyStep s = Unit {0}

-- a layer with what holds of its parts, the layer without that, and what its parts mean
abbrev WithOrder : Type 0
WithOrder = Expr-F ((e : Expr) × IsOrdered e) ((s : PathStart) × BeginsOrdered s) ((s : PathStep) × AnyStep s)

abbrev plain : WithOrder → Expr-F Expr PathStart PathStep
plain = map-Expr ((e : Expr) × IsOrdered e) ((s : PathStart) × BeginsOrdered s) ((s : PathStep) × AnyStep s) Expr PathStart PathStep (λ e. e.0) (λ s. s.0) (λ s. s.0)

abbrev meant : Expr-F Expr PathStart PathStep → Expr-F Meaning StartMeaning StepMeaning
meant = map-Expr Expr PathStart PathStep Meaning StartMeaning StepMeaning meaning meaning_of_start meaning_of_step

layer_ordered : (y : WithOrder) → Ordered (layer_meaning (meant (plain y)))
layer_ordered (Expr-F.Binary o l r) = λ c w ys h. binary_ascends o (meaning l.0) (meaning r.0) c ys h
layer_ordered (Expr-F.Negate m) = λ c w ys h. negate_ascends (meaning m.0) c (length c.rows) ys h
layer_ordered (Expr-F.Literal t) = λ c w ys h. absurd cc
layer_ordered (Expr-F.Number n) = λ c w ys h. absurd cc
layer_ordered (Expr-F.Call f args) = λ c w ys h. let given = bind_ok (arguments_in _ c) _ (Nodes ys) h in call_ascends f given.0 c ys w given.2
layer_ordered (Expr-F.Filtered base predicates) = filter_ordered (meaning base.0) _ base.1
layer_ordered (Expr-F.Path start steps) = path_ordered (meaning_of_start start.0) _ start.1

expr_ordered : (x : Expr-F Expr PathStart PathStep) (y : WithOrder) → plain y ≡ x → Ordered (meaning (roll-Expr x))
expr_ordered x y is =
    let P : Expr-F Expr PathStart PathStep → Type 0 = λ z. Ordered (meaning (roll-Expr z)) in
    subst P is (subst Ordered (sym (fold-roll-Expr Meaning StartMeaning StepMeaning layer_meaning start_meaning step_meaning (plain y))) (layer_ordered y))

-- the same of where a path begins
abbrev StartWithOrder : Type 0
StartWithOrder = PathStart-F ((e : Expr) × IsOrdered e) ((s : PathStart) × BeginsOrdered s) ((s : PathStep) × AnyStep s)

abbrev plain_start : StartWithOrder → PathStart-F Expr PathStart PathStep
plain_start = map-PathStart ((e : Expr) × IsOrdered e) ((s : PathStart) × BeginsOrdered s) ((s : PathStep) × AnyStep s) Expr PathStart PathStep (λ e. e.0) (λ s. s.0) (λ s. s.0)

abbrev meant_start : PathStart-F Expr PathStart PathStep → PathStart-F Meaning StartMeaning StepMeaning
meant_start = map-PathStart Expr PathStart PathStep Meaning StartMeaning StepMeaning meaning meaning_of_start meaning_of_step

start_layer_ordered : (y : StartWithOrder) → OrderedStart (start_meaning (meant_start (plain_start y)))
start_layer_ordered PathStart-F.Context = λ c w ys h. one_ordered c.node (length c.rows) ys w.node h
start_layer_ordered PathStart-F.Root = λ c w ys h. one_ordered 0 (length c.rows) ys (omega (arith, w.node)) h
start_layer_ordered (PathStart-F.From m) = nodes_ordered (meaning m.0) m.1

start_ordered : (x : PathStart-F Expr PathStart PathStep) (y : StartWithOrder) → plain_start y ≡ x → OrderedStart (meaning_of_start (roll-PathStart x))
start_ordered x y is =
    let P : PathStart-F Expr PathStart PathStep → Type 0 = λ z. OrderedStart (meaning_of_start (roll-PathStart z)) in
    subst P is (subst OrderedStart (sym (fold-roll-PathStart Meaning StartMeaning StepMeaning layer_meaning start_meaning step_meaning (plain_start y))) (start_layer_ordered y))

pub ordered_expression : (e : Expr) → Ordered (meaning e)
ordered_expression = ind-Expr IsOrdered BeginsOrdered AnyStep (λ x y is. expr_ordered x y is) (λ x y is. start_ordered x y is) (λ x y is. tt)

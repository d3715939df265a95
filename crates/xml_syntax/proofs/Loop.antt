-- One turn of the loop over the items of the open elements, where a text goes on until another item comes.
use denote.Ref.{Bor}
use Rattle.std.proofs.Common.{◌≡◌, ◌≢◌, ℕ, Vec, vec_len, zero, suc, ◌<◌, ◌≤◌, true, false, eqb, List, [], ◌∷◌, ◌++◌, length, Option, Some, None, refl, sym, ap, subst, ◌∙◌, append_assoc, append-nil, arith}
use Rattle.std.specs.declared.alloc.Global.{Global}
use Rattle.std.proofs.lemmas.Bool.{eqb-true, eq-eqb, false≢true}
use Rattle.std.proofs.lemmas.List.{length-reverse, length-map}
use Rattle.sig_base.proofs.OptionLemmas.{some_is}
use Rattle.sig_base.specs.Options.{◌>>=◌}
use Rattle.xml_syntax.specs.Characters.{Placed}
use Rattle.xml_syntax.specs.Tree.{Tag, Content, nothing, text, comment, instruction, element, text_before, events}
use Rattle.xml_syntax.specs.Tree as tree
use Rattle.xml_syntax.specs.Reading.{Item, Words, Comment, Instruction, Empty, Start, End, text_follows, text_of, markup_of, item_of, open_behind, Level, with_item, left_of}
use Rattle.xml_syntax.specs.declared.fault.SyntaxFault.{SyntaxFault}
use Rattle.xml_syntax.specs.declared.fault.SyntaxFault.TheVariants.{Encoding, DocType, NotWellFormed, Memory}
use Rattle.xml_syntax.specs.Seen.{Fails, with_front, left_events, with_text, with_events, text_events, seen_open}
use Rattle.xml_syntax.specs.Code.Seen.{item_events}
use Rattle.xml_syntax.proofs.ItemLaws.{markup_sound, SpellsMarkup}
use Rattle.xml_syntax.proofs.Whole.{SpellsLeft, no_level, a_level, left_sound, item_shorter}

-- ---- a text before content, and its event

pub no_text : (k : Content) → text_before [] k ≡ k
no_text k = refl

pub more_text : (v w : List ℕ) (k : Content) → text_before v (text_before w k) ≡ text_before (v ++ w) k
more_text [] w k = refl
more_text (c ∷ v) [] k = ap (λ (t : List ℕ). text_before (c ∷ t) k) (sym (append-nil v))
more_text (c ∷ v) (d ∷ w) nothing = refl
more_text (c ∷ v) (d ∷ w) (text u k) = ap (λ (t : List ℕ). text t k) (sym (append_assoc (c ∷ v) (d ∷ w) u))
more_text (c ∷ v) (d ∷ w) (comment u k) = refl
more_text (c ∷ v) (d ∷ w) (instruction target u k) = refl
more_text (c ∷ v) (d ∷ w) (element tag inner until k) = refl

comment_events : (v w : List ℕ) (k : Content) → events (text_before v (comment w k)) ≡ text_events v ++ (tree.Comment w ∷ events k)
comment_events [] w k = refl
comment_events (c ∷ v) w k = refl

instruction_events : (v target w : List ℕ) (k : Content) → events (text_before v (instruction target w k)) ≡ text_events v ++ (tree.Instruction target w ∷ events k)
instruction_events [] target w k = refl
instruction_events (c ∷ v) target w k = refl

element_events : (v : List ℕ) (tag : Tag) (inner k : Content) (until : ℕ) → events (text_before v (element tag inner until k)) ≡ text_events v ++ (tree.Start tag ∷ (events inner ++ (tree.End until ∷ events k)))
element_events [] tag inner k until = refl
element_events (c ∷ v) tag inner k until = refl

nothing_events : (v : List ℕ) → events (text_before v nothing) ≡ text_events v
nothing_events [] = refl
nothing_events (c ∷ v) = refl

-- ---- what is left, with the item, in document order

-- characters before what is left behind characters
words_with : (v w : List ℕ) (levels : List Level) → with_text v (with_item (Words w) levels) ≡ with_text (v ++ w) levels
words_with v w [] = refl
words_with v w (top ∷ levels) = ap (λ (k : Content). (k, top.1) ∷ levels) (more_text v w top.0)

pub text_nothing : (levels : List Level) → with_text [] levels ≡ levels
text_nothing [] = refl
text_nothing (top ∷ levels) = refl

-- the events of an item that ends a text, and of what is left behind it
abbrev EventsWith : List ℕ → Item → List Level → Type 0
EventsWith v item levels = left_events (with_text v (with_item item levels)) ≡ (text_events v ++ item_events item) ++ left_events levels

-- not characters
abbrev pub IsMarkup : Item → Type 0
IsMarkup (Words w) = ⊥
IsMarkup (Comment w) = Unit {0}
IsMarkup (Instruction target w) = Unit {0}
IsMarkup (Empty tag until) = Unit {0}
IsMarkup (Start tag) = Unit {0}
IsMarkup (End name from) = Unit {0}

regroup : {A : Type 0} (a b c d : List A) → (a ++ (b ++ c)) ++ d ≡ (a ++ b) ++ (c ++ d)
regroup a b c d = simp append_assoc

events_with : (v : List ℕ) (item : Item) (top : List ℕ) (names behind_it : List (List ℕ)) (s : List Placed) (levels : List Level) → IsMarkup item → open_behind item (top ∷ names) ≡ Some behind_it → SpellsLeft behind_it s levels → EventsWith v item levels
unfolding left_events
events_with v (Words w) top names behind_it s levels m e h = absurd m
events_with v (End name from) top names behind_it s levels m e h =
    ap (λ (t : List tree.Event). t ++ (tree.End from ∷ left_events levels)) (nothing_events v) ∙ sym (append_assoc (text_events v) (tree.End from ∷ []) (left_events levels))
events_with v (Comment w) top names behind_it s [] m e no_level = absurd cc
events_with v (Comment w) top names behind_it s (level ∷ levels) m e h =
    ap (λ (t : List tree.Event). t ++ (tree.End level.1 ∷ left_events levels)) (comment_events v w level.0) ∙ regroup (text_events v) (tree.Comment w ∷ []) (events level.0) (tree.End level.1 ∷ left_events levels)
events_with v (Instruction target w) top names behind_it s [] m e no_level = absurd cc
events_with v (Instruction target w) top names behind_it s (level ∷ levels) m e h =
    ap (λ (t : List tree.Event). t ++ (tree.End level.1 ∷ left_events levels)) (instruction_events v target w level.0) ∙ regroup (text_events v) (tree.Instruction target w ∷ []) (events level.0) (tree.End level.1 ∷ left_events levels)
events_with v (Empty tag until) top names behind_it s [] m e no_level = absurd cc
events_with v (Empty tag until) top names behind_it s (level ∷ levels) m e h =
    ap (λ (t : List tree.Event). t ++ (tree.End level.1 ∷ left_events levels)) (element_events v tag nothing level.0 until) ∙ regroup (text_events v) (tree.Start tag ∷ (tree.End until ∷ [])) (events level.0) (tree.End level.1 ∷ left_events levels)
events_with v (Start tag) top names behind_it s [] m e no_level = absurd cc
events_with v (Start tag) top names behind_it s (level ∷ []) m e (a_level a b c name k until no_names others inner close no_level) = absurd cc
events_with v (Start tag) top names behind_it s (inner ∷ (outer ∷ levels)) m e h =
    ap (λ (t : List tree.Event). t ++ (tree.End outer.1 ∷ left_events levels)) (element_events v tag inner.0 outer.0 inner.1)
    ∙ deep (text_events v) (tree.Start tag ∷ []) (events inner.0) (tree.End inner.1 ∷ []) (events outer.0) (tree.End outer.1 ∷ left_events levels)
  where
    deep : {A : Type 0} (a b c d e f : List A) → (a ++ (b ++ (c ++ (d ++ e)))) ++ f ≡ (a ++ b) ++ (c ++ (d ++ (e ++ f)))
    deep a b c d e f = simp append_assoc

-- ---- the loop

-- The events so far, with the text that goes on and what is left of the open elements, are all the events.
pub record Keeps (before : List tree.Event) (pending : List ℕ) (names : List (List ℕ)) (xs : List Placed) (all : Option (List tree.Event × List Placed)) : Type 0 where
  pub budget : ℕ
  pub enough : length xs ≤ budget
  pub same : with_events before pending (left_of budget names xs) ≡ all

words_events : (before : List tree.Event) (v w : List ℕ) (found : Option (List Level × List Placed)) → with_events before v (found >>= λ ls. Some (with_item (Words w) ls.0, ls.1)) ≡ with_events before (v ++ w) found
words_events before v w None = refl
words_events before v w (Some x) = ap (λ (ls : List Level). Some (before ++ left_events ls, x.1)) (words_with v w x.0)

markup_events : (before : List tree.Event) (v : List ℕ) (item : Item) (top : List ℕ) (names behind_it : List (List ℕ)) (n : ℕ) (rest : List Placed) (found : Option (List Level × List Placed)) → left_of n behind_it rest ≡ found
    → IsMarkup item → open_behind item (top ∷ names) ≡ Some behind_it
    → with_events before v (found >>= λ ls. Some (with_item item ls.0, ls.1)) ≡ with_events ((before ++ text_events v) ++ item_events item) [] found
markup_events before v item top names behind_it n rest None e m f = refl
markup_events before v item top names behind_it n rest (Some x) e m f =
    let left = left_sound n behind_it rest x.1 x.0 e in
    ap (λ (t : List tree.Event). Some (before ++ t, x.1)) (events_with v item top names behind_it left.spelled x.0 m f left.spells)
    ∙ ap (λ (t : List tree.Event). Some (t, x.1)) (regroup2 before (text_events v) (item_events item) (left_events x.0))
    ∙ ap (λ (ls : List Level). Some (((before ++ text_events v) ++ item_events item) ++ left_events ls, x.1)) (sym (text_nothing x.0))
  where
    regroup2 : {A : Type 0} (a b c d : List A) → a ++ ((b ++ c) ++ d) ≡ ((a ++ b) ++ c) ++ d
    regroup2 a b c d = simp append_assoc

words_step : (before : List tree.Event) (v w top : List ℕ) (names : List (List ℕ)) (n : ℕ) (xs rest : List Placed) → item_of xs ≡ Some (Words w, rest) → with_events before v (left_of (suc n) (top ∷ names) xs) ≡ with_events before (v ++ w) (left_of n (top ∷ names) rest)
unfolding left_of
words_step before v w top names n xs rest e = rw e (words_events before v w (left_of n (top ∷ names) rest))

markup_step : (before : List tree.Event) (v : List ℕ) (item : Item) (top : List ℕ) (names behind_it : List (List ℕ)) (n : ℕ) (xs rest : List Placed) → item_of xs ≡ Some (item, rest) → IsMarkup item → open_behind item (top ∷ names) ≡ Some behind_it
    → with_events before v (left_of (suc n) (top ∷ names) xs) ≡ with_events ((before ++ text_events v) ++ item_events item) [] (left_of n behind_it rest)
unfolding left_of
markup_step before v item top names behind_it n xs rest e m f = rw (e, f) (markup_events before v item top names behind_it n rest (left_of n behind_it rest) refl m f)

text_item : (xs rest : List Placed) (w : List ℕ) → text_follows xs ≡ true → text_of xs ≡ Some (w, rest) → item_of xs ≡ Some (Words w, rest)
unfolding item_of
text_item xs rest w e f = rw (e, f) refl

pub markup_item : (xs rest : List Placed) (item : Item) → text_follows xs ≡ false → markup_of xs ≡ Some (item, rest) → item_of xs ≡ Some (item, rest)
unfolding item_of
markup_item xs rest item e f = rw e f

is_markup : (item : Item) (s : List Placed) → SpellsMarkup item s → IsMarkup item
is_markup (Words w) s h = absurd h
is_markup (Comment w) s h = tt
is_markup (Instruction target w) s h = tt
is_markup (Empty tag until) s h = tt
is_markup (Start tag) s h = tt
is_markup (End name from) s h = tt

-- what was added to the text
pub text_added : (before after : List ℕ) (xs rest : List Placed) (found : Option (List ℕ × List Placed)) → text_of xs ≡ found → with_front before found ≡ Some (after, rest) → (w : List ℕ) × (text_of xs ≡ Some (w, rest)) × (before ++ w ≡ after)
text_added before after xs rest None e f = absurd cc
text_added before after xs rest (Some x) e f =
    let both = some_is (before ++ x.0, x.1) (after, rest) f in
    let rest-is : x.1 ≡ rest = ap (λ (p : List ℕ × List Placed). p.1) both in
    (x.0, e ∙ ap (λ (r : List Placed). Some (x.0, r)) rest-is, ap (λ (p : List ℕ × List Placed). p.0) both)

pub text_shorter : (before after : List ℕ) (xs rest : List Placed) → text_follows xs ≡ true → with_front before (text_of xs) ≡ Some (after, rest) → length rest < length xs
text_shorter before after xs rest e f = let a = text_added before after xs rest (text_of xs) refl f in item_shorter xs rest (Words a.0) (text_item xs rest a.0 e a.1)

pub markup_shorter : (xs rest : List Placed) (item : Item) → text_follows xs ≡ false → markup_of xs ≡ Some (item, rest) → length rest < length xs
markup_shorter xs rest item e f = item_shorter xs rest item (markup_item xs rest item e f)

text_within : (n : ℕ) (before : List tree.Event) (v w top : List ℕ) (names : List (List ℕ)) (xs rest : List Placed) (all : Option (List tree.Event × List Placed)) → item_of xs ≡ Some (Words w, rest)
    → length xs ≤ n → with_events before v (left_of n (top ∷ names) xs) ≡ all → Keeps before (v ++ w) (top ∷ names) rest all
text_within zero before v w top names xs rest all e enough same = absurd (omega (arith, item_shorter xs rest (Words w) e))
text_within (suc n) before v w top names xs rest all e enough same =
    record { budget = n; enough = omega (arith, item_shorter xs rest (Words w) e); same = sym (words_step before v w top names n xs rest e) ∙ same }

pub text_goes_on : (before : List tree.Event) (v after : List ℕ) (names : List (List ℕ)) (xs rest : List Placed) (all : Option (List tree.Event × List Placed)) → 0 < length names → Keeps before v names xs all
    → text_follows xs ≡ true → with_front v (text_of xs) ≡ Some (after, rest) → Keeps before after names rest all
text_goes_on before v after [] xs rest all some kept e f = absurd (omega arith)
text_goes_on before v after (top ∷ names) xs rest all some kept e f =
    let a = text_added v after xs rest (text_of xs) refl f in
    let P : List ℕ → Type 0 = λ t. Keeps before t (top ∷ names) rest all in
    subst P a.2 (text_within kept.budget before v a.0 top names xs rest all (text_item xs rest a.0 e a.1) kept.enough kept.same)

within : (n : ℕ) (before : List tree.Event) (v : List ℕ) (item : Item) (top : List ℕ) (names behind_it : List (List ℕ)) (xs rest : List Placed) (all : Option (List tree.Event × List Placed)) → item_of xs ≡ Some (item, rest) → IsMarkup item → open_behind item (top ∷ names) ≡ Some behind_it
    → length xs ≤ n → with_events before v (left_of n (top ∷ names) xs) ≡ all → Keeps ((before ++ text_events v) ++ item_events item) [] behind_it rest all
within zero before v item top names behind_it xs rest all e m f enough same = absurd (omega (arith, item_shorter xs rest item e))
within (suc n) before v item top names behind_it xs rest all e m f enough same =
    record { budget = n; enough = omega (arith, item_shorter xs rest item e); same = sym (markup_step before v item top names behind_it n xs rest e m f) ∙ same }

pub goes_on : (before middle after : List tree.Event) (v none : List ℕ) (names behind_it : List (List ℕ)) (xs rest : List Placed) (item : Item) (all : Option (List tree.Event × List Placed)) → 0 < length names → Keeps before v names xs all
    → text_follows xs ≡ false → markup_of xs ≡ Some (item, rest) → middle ≡ before ++ text_events v → none ≡ [] → open_behind item names ≡ Some behind_it → after ≡ middle ++ item_events item → Keeps after none behind_it rest all
goes_on before middle after v none [] behind_it xs rest item all some kept e f g i j k = absurd (omega arith)
goes_on before middle after v none (top ∷ names) behind_it xs rest item all some kept e f g i j k =
    let t = markup_sound xs rest item f in
    let P : List tree.Event → Type 0 = λ es. Keeps es none behind_it rest all in
    let Q : List ℕ → Type 0 = λ w. Keeps ((before ++ text_events v) ++ item_events item) w behind_it rest all in
    subst P (ap (λ (es : List tree.Event). es ++ item_events item) (sym g) ∙ sym k) (subst Q (sym i) (within kept.budget before v item top names behind_it xs rest all (markup_item xs rest item e f) (is_markup item t.spelled t.spells) j kept.enough kept.same))

no_events : (before : List tree.Event) (v : List ℕ) (found : Option (List Level × List Placed)) → with_events before v found ≡ None → found ≡ None
no_events before v None e = refl
no_events before v (Some x) e = absurd cc

left_none : (n : ℕ) (top : List ℕ) (names : List (List ℕ)) (xs : List Placed) → item_of xs ≡ None → left_of n (top ∷ names) xs ≡ None
unfolding left_of
left_none zero top names xs e = refl
left_none (suc n) top names xs e = rw e refl

left_closed : (n : ℕ) (top : List ℕ) (names : List (List ℕ)) (xs rest : List Placed) (item : Item) → item_of xs ≡ Some (item, rest) → open_behind item (top ∷ names) ≡ None → left_of n (top ∷ names) xs ≡ None
unfolding left_of
left_closed zero top names xs rest item e f = refl
left_closed (suc n) top names xs rest item e f = rw (e, f) refl

no_item : (before first : List tree.Event) (v w : List ℕ) (names : List (List ℕ)) (xs : List Placed) (all : Option (List Level × List Placed)) → 0 < length names → Keeps before v names xs (with_events first w all) → item_of xs ≡ None → all ≡ None
no_item before first v w [] xs all some kept e = absurd (omega arith)
no_item before first v w (top ∷ names) xs all some kept e = no_events first w all (sym kept.same ∙ ap (with_events before v) (left_none kept.budget top names xs e))

text_none : (xs : List Placed) → text_follows xs ≡ true → text_of xs ≡ None → item_of xs ≡ None
unfolding item_of
text_none xs e f = rw (e, f) refl

markup_none : (xs : List Placed) → text_follows xs ≡ false → markup_of xs ≡ None → item_of xs ≡ None
unfolding item_of
markup_none xs e f = rw e f

pub text_fails : (fault : SyntaxFault) (before first : List tree.Event) (v w : List ℕ) (names : List (List ℕ)) (xs : List Placed) (all : Option (List Level × List Placed)) → 0 < length names → Keeps before v names xs (with_events first w all)
    → text_follows xs ≡ true → Fails fault (text_of xs) → Fails fault all
text_fails Memory before first v w names xs all some kept e f = tt
text_fails Encoding before first v w names xs all some kept e f = absurd f
text_fails DocType before first v w names xs all some kept e f = absurd f
text_fails NotWellFormed before first v w names xs all some kept e f = no_item before first v w names xs all some kept (text_none xs e f)

pub markup_fails : (fault : SyntaxFault) (before first : List tree.Event) (v w : List ℕ) (names : List (List ℕ)) (xs : List Placed) (all : Option (List Level × List Placed)) → 0 < length names → Keeps before v names xs (with_events first w all)
    → text_follows xs ≡ false → Fails fault (markup_of xs) → Fails fault all
markup_fails Memory before first v w names xs all some kept e f = tt
markup_fails Encoding before first v w names xs all some kept e f = absurd f
markup_fails DocType before first v w names xs all some kept e f = absurd f
markup_fails NotWellFormed before first v w names xs all some kept e f = no_item before first v w names xs all some kept (markup_none xs e f)

pub item_fails : (fault : SyntaxFault) (before first : List tree.Event) (v w : List ℕ) (names : List (List ℕ)) (xs rest : List Placed) (item : Item) (all : Option (List Level × List Placed)) → 0 < length names → Keeps before v names xs (with_events first w all)
    → text_follows xs ≡ false → markup_of xs ≡ Some (item, rest) → Fails fault (open_behind item names) → Fails fault all
item_fails Memory before first v w names xs rest item all some kept e f g = tt
item_fails Encoding before first v w names xs rest item all some kept e f g = absurd g
item_fails DocType before first v w names xs rest item all some kept e f g = absurd g
item_fails NotWellFormed before first v w [] xs rest item all some kept e f g = absurd (omega arith)
item_fails NotWellFormed before first v w (top ∷ names) xs rest item all some kept e f g = no_events first w all (sym kept.same ∙ ap (with_events before v) (left_closed kept.budget top names xs rest item (markup_item xs rest item e f) g))

-- With no element open no text goes on.
pub is_done : (before : List tree.Event) (v : List ℕ) (names : List (List ℕ)) (xs : List Placed) (all : Option (List tree.Event × List Placed)) → length names ≡ 0 → Keeps before v names xs all → all ≡ Some (before, xs)
unfolding left_of left_events
is_done before v [] xs all e kept = sym kept.same ∙ ap (λ (t : List tree.Event). Some (t, xs)) (append-nil before)
is_done before v (top ∷ names) xs all e kept = absurd (omega arith)

-- the test of the stack of open elements
pub some_open : (v : Vec (Bor (List ℕ)) Global) → false ≡ eqb (vec_len v) 0 → 0 < length (seen_open v.items)
some_open v e =
    let some : vec_len v ≢ 0 = λ here. false≢true (e ∙ eq-eqb (vec_len v) 0 here) in
    simp (length-reverse, length-map) (omega (arith, v.ok.0))

pub none_open : (v : Vec (Bor (List ℕ)) Global) → true ≡ eqb (vec_len v) 0 → length (seen_open v.items) ≡ 0
none_open v e =
    let none : vec_len v ≡ 0 = eqb-true (vec_len v) 0 (sym e) in
    simp (length-reverse, length-map) (omega (arith, v.ok.0))

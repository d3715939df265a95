-- What the outcome says in the words of the grammar.
use Rattle.std.proofs.Common.{◌≡◌, ℕ, ◌<◌, ◌≤◌, nat_lt, Bool, true, false, cond, List, [], ◌∷◌, length, Option, Some, None, Result, Ok, Err, IfOk, IsErrOf, refl, sym, ap, subst, ◌∙◌, arith}
use Rattle.std.specs.Str.{chars}
use Rattle.sig_base.proofs.OptionLemmas.{some_is}
use Rattle.xpath_words.specs.Prefixes.{Pair}
use Rattle.xpath_words.specs.Tokens.{tokens_of}
use Rattle.xpath_words.specs.declared.terminal.Terminal.{Terminal}
use Rattle.xpath_words.specs.declared.terminal.Token.{Token}
use Rattle.xpath_syntax.specs.declared.expr.Expr.{Expr}
use Rattle.xpath_syntax.specs.declared.refusal.SyntaxRefusal.{SyntaxRefusal}
use Rattle.xpath_syntax.specs.declared.refusal.SyntaxRefusal.TheVariants as refusal
use Rattle.xpath_syntax.specs.Grammar.{Spells, Level}
use Rattle.xpath_syntax.specs.Nesting.{limit, nesting}
use Rattle.xpath_words.specs.declared.terminal.Offence.{Offence}
use Rattle.xpath_words.specs.declared.terminal.Offence.TheVariants as offence
use Rattle.xpath_syntax.specs.Offences.{terminals, refusal_of, permitted, offence_of, or_else, first_offence}
use Rattle.xpath_syntax.specs.Reading.{expression_of}
use Rattle.xpath_syntax.specs.Code.Forgetting.{shallow}
use Rattle.xpath_syntax.specs.Outcome.{greatest, Means, too_long, no_tokens, not_spelled, too_deep, offending, spelled, Spelled, SpellsNone, offended, decided, tokens_outcome, parse_outcome, Refuses, Answers, IsMeant}
use Rattle.xpath_syntax.proofs.Complete.{expression_complete, read_as}
use Rattle.xpath_syntax.proofs.Sound.{expression_sound}
use Rattle.xpath_syntax.proofs.Lawfulness.{expression_lawful}

above : (n : ℕ) → nat_lt greatest n ≡ true → greatest < n
above n h = grind arith

not_above : (n : ℕ) → nat_lt greatest n ≡ false → n ≤ greatest
not_above n h = grind arith

deep : (n : ℕ) → nat_lt limit n ≡ true → limit < n
deep n h = grind arith

not_deep : (n : ℕ) → nat_lt limit n ≡ false → n ≤ limit
not_deep n h = grind arith

none_spelled : (ts : List Terminal) → expression_of ts ≡ None → (x : Expr) → Spells (Level 0 x) ts → ⊥
none_spelled ts e x h = let i = sym e ∙ expression_complete ts x h in absurd cc

-- the flag that reading gives says how deep the terminals nest
flag_is : (ts : List Terminal) (x : Expr) (flag : Bool) (h : Spells (Level 0 x) ts) → expression_of ts ≡ Some (x, flag) → nat_lt limit (nesting (Level 0 x) ts h) ≡ flag
flag_is ts x flag h e =
    ap (λ (r : Expr × Bool). r.1) (some_is (x, nat_lt limit (nesting (Level 0 x) ts h)) (x, flag) (sym (expression_complete ts x h) ∙ e))

-- the outcome, by what reading gives of an expression that does not nest too deep
pub decided_none : (first : Option SyntaxRefusal) (read : Option (Expr × Bool)) → shallow read ≡ None → decided first read ≡ Err refusal.NotXPath
decided_none first None e = refl
decided_none first (Some r) e = absurd cc

pub decided_deep : (first : Option SyntaxRefusal) (read : Option (Expr × Bool)) → shallow read ≡ Some None → decided first read ≡ Err refusal.TooDeep
decided_deep first None e = absurd cc
decided_deep first (Some (x, true)) e = refl
decided_deep first (Some (x, false)) e = absurd cc

pub decided_shallow : (first : Option SyntaxRefusal) (read : Option (Expr × Bool)) (x : Expr) → shallow read ≡ Some (Some x) → decided first read ≡ offended first x
decided_shallow first None x e = absurd cc
decided_shallow first (Some (y, true)) x e = absurd cc
decided_shallow first (Some (y, false)) x e = let same : y ≡ x = cc in ap (offended first) same

offended_meant : (first : Option SyntaxRefusal) (text : List ℕ) (ps : List Pair) (ts : List Token) (x : Expr) → length text ≤ greatest → tokens_of (chars text) ps ≡ Some ts → (h : Spells (Level 0 x) (terminals ts))
    → nesting (Level 0 x) (terminals ts) h ≤ limit → first_offence ts ≡ first → Means text ps (offended first x)
offended_meant None text ps ts x short reads h within e = spelled text ps ts x short reads h within e
offended_meant (Some r) text ps ts x short reads h within e = offending text ps ts x r short reads h within e

decided_meant : (read : Option (Expr × Bool)) (text : List ℕ) (ps : List Pair) (ts : List Token) → length text ≤ greatest → tokens_of (chars text) ps ≡ Some ts → expression_of (terminals ts) ≡ read
    → Means text ps (decided (first_offence ts) read)
decided_meant None text ps ts short reads e = not_spelled text ps ts short reads (none_spelled (terminals ts) e)
decided_meant (Some (x, true)) text ps ts short reads e =
    let h = expression_sound (terminals ts) (x, true) e in
    too_deep text ps ts x short reads h (deep (nesting (Level 0 x) (terminals ts) h) (flag_is (terminals ts) x true h e))
decided_meant (Some (x, false)) text ps ts short reads e =
    let h = expression_sound (terminals ts) (x, false) e in
    offended_meant (first_offence ts) text ps ts x short reads h (not_deep (nesting (Level 0 x) (terminals ts) h) (flag_is (terminals ts) x false h e)) refl

tokens_meant : (read : Option (List Token)) (text : List ℕ) (ps : List Pair) → length text ≤ greatest → tokens_of (chars text) ps ≡ read → Means text ps (tokens_outcome read)
tokens_meant None text ps short e = no_tokens text ps short e
tokens_meant (Some ts) text ps short e = decided_meant (expression_of (terminals ts)) text ps ts short e refl

-- the outcome is what the text means
pub outcome_meant : (text : List ℕ) (ps : List Pair) → Means text ps (parse_outcome text ps)
unfolding parse_outcome
outcome_meant text ps =
    elim (nat_lt greatest (length text)) as (λ b. nat_lt greatest (length text) ≡ b → Means text ps (cond b (Err refusal.TooLong) (tokens_outcome (tokens_of (chars text) ps)))) [
      | true ↦ λ is. too_long text ps (above (length text) is)
      | false ↦ λ is. tokens_meant (tokens_of (chars text) ps) text ps (not_above (length text) is) refl
    ] refl

-- ---- no text means anything else

long_is : (n : ℕ) → greatest < n → nat_lt greatest n ≡ true
long_is n h = grind arith

short_is : (n : ℕ) → n ≤ greatest → nat_lt greatest n ≡ false
short_is n h = grind arith

deep_is : (n : ℕ) → limit < n → nat_lt limit n ≡ true
deep_is n h = grind arith

shallow_is : (n : ℕ) → n ≤ limit → nat_lt limit n ≡ false
shallow_is n h = grind arith

short_outcome : (text : List ℕ) (ps : List Pair) → length text ≤ greatest → parse_outcome text ps ≡ tokens_outcome (tokens_of (chars text) ps)
unfolding parse_outcome
short_outcome text ps h = rw (short_is (length text) h) refl

none_read : (read : Option (Expr × Bool)) (ts : List Terminal) → expression_of ts ≡ read → ((x : Expr) → Spells (Level 0 x) ts → ⊥) → read ≡ None
none_read None ts e f = refl
none_read (Some r) ts e f = absurd (f r.0 (expression_sound ts r e))

read_outcome : (text : List ℕ) (ps : List Pair) (ts : List Token) (x : Expr) (deep : Bool) → length text ≤ greatest → tokens_of (chars text) ps ≡ Some ts → (h : Spells (Level 0 x) (terminals ts))
    → nat_lt limit (nesting (Level 0 x) (terminals ts) h) ≡ deep → parse_outcome text ps ≡ decided (first_offence ts) (Some (x, deep))
read_outcome text ps ts x deep short reads h is =
    short_outcome text ps short
    ∙ ap tokens_outcome reads
    ∙ ap (decided (first_offence ts)) (expression_complete (terminals ts) x h ∙ ap (λ (b : Bool). read_as x b) is)

pub means_outcome : (text : List ℕ) (ps : List Pair) (r : Result Expr SyntaxRefusal) → Means text ps r → parse_outcome text ps ≡ r
unfolding parse_outcome
means_outcome text ps r (too_long text' ps' h) = rw (long_is (length text) h) refl
means_outcome text ps r (no_tokens text' ps' short reads) = short_outcome text ps short ∙ ap tokens_outcome reads
means_outcome text ps r (not_spelled text' ps' ts short reads f) =
    short_outcome text ps short ∙ ap tokens_outcome reads ∙ ap (decided (first_offence ts)) (none_read (expression_of (terminals ts)) (terminals ts) refl f)
means_outcome text ps r (too_deep text' ps' ts x short reads h deep) =
    read_outcome text ps ts x true short reads h (deep_is (nesting (Level 0 x) (terminals ts) h) deep)
means_outcome text ps r (offending text' ps' ts x o short reads h within first) =
    read_outcome text ps ts x false short reads h (shallow_is (nesting (Level 0 x) (terminals ts) h) within) ∙ ap (λ (a : Option SyntaxRefusal). offended a x) first
means_outcome text ps r (spelled text' ps' ts x short reads h within first) =
    read_outcome text ps ts x false short reads h (shallow_is (nesting (Level 0 x) (terminals ts) h) within) ∙ ap (λ (a : Option SyntaxRefusal). offended a x) first

-- a text that means an expression spells it
means_spelled : (text : List ℕ) (ps : List Pair) (r : Result Expr SyntaxRefusal) (x : Expr) → Means text ps r → r ≡ Ok x → Spelled text ps x
means_spelled text ps r x (spelled text' ps' ts y short reads h within first) e =
    let P : Expr → Type 0 = λ z. Spelled text ps z in
    let same : y ≡ x = cc in
    subst P same (record { tokens = ts; reads = reads; spells = h; within = within; none_offends = first; lawful = expression_lawful ts y first h })
means_spelled text ps r x _ e = absurd cc

-- ---- an offence is none of the refusals that come before

is_offence : SyntaxRefusal → Bool
is_offence refusal.TooLong = false
is_offence refusal.NotXPath = false
is_offence refusal.TooDeep = false
is_offence _ = true

own_kind : (o : Offence) → is_offence (refusal_of o) ≡ true
unfolding is_offence
own_kind offence.Fraction = refl
own_kind offence.NumberRange = refl
own_kind offence.Div = refl
own_kind offence.Variable = refl
own_kind offence.UnknownFunction = refl
own_kind offence.UnboundPrefix = refl

arity_kind : (b : Bool) (r : SyntaxRefusal) → ◌≡◌ {A = Option SyntaxRefusal} (cond b None (Some refusal.Arity)) (Some r) → is_offence r ≡ true
unfolding is_offence
arity_kind true r e = absurd cc
arity_kind false r e = ap is_offence (sym (some_is refusal.Arity r e))

kind_of : (o : Option Offence) (sign : Terminal) (more : List Terminal) (r : SyntaxRefusal) → offence_of o sign more ≡ Some r → is_offence r ≡ true
kind_of (Some o) sign more r e = ap is_offence (sym (some_is (refusal_of o) r e)) ∙ own_kind o
kind_of None sign more r e = arity_kind (permitted sign more) r e

either : (a b : Option SyntaxRefusal) (r : SyntaxRefusal) → or_else a b ≡ Some r → ((a ≡ Some r) → is_offence r ≡ true) → ((b ≡ Some r) → is_offence r ≡ true) → is_offence r ≡ true
either None b r e f g = g e
either (Some s) b r e f g = f e

first_kind : (ts : List Token) (r : SyntaxRefusal) → first_offence ts ≡ Some r → is_offence r ≡ true
unfolding first_offence
first_kind [] r e = absurd cc
first_kind (token ∷ more) r e =
    either (offence_of token.offence token.terminal (terminals more)) (first_offence more) r e (kind_of token.offence token.terminal (terminals more) r) (first_kind more r)

-- ---- `NotXPath`

no_offence_is : (first : Option SyntaxRefusal) (x : Expr) → offended first x ≡ Err refusal.NotXPath → ((r : SyntaxRefusal) → first ≡ Some r → is_offence r ≡ true) → ⊥
unfolding is_offence
no_offence_is None x e f = absurd cc
no_offence_is (Some r) x e f =
    let same : r ≡ refusal.NotXPath = cc in
    let kind : false ≡ true = sym (ap is_offence same) ∙ f r refl in
    absurd cc

none_decided : (read : Option (Expr × Bool)) (ts : List Token) → expression_of (terminals ts) ≡ read → decided (first_offence ts) read ≡ Err refusal.NotXPath → (x : Expr) → Spells (Level 0 x) (terminals ts) → ⊥
none_decided None ts is e x h = none_spelled (terminals ts) is x h
none_decided (Some (y, true)) ts is e x h = absurd cc
none_decided (Some (y, false)) ts is e x h = no_offence_is (first_offence ts) y e (first_kind ts)

tokens_none : (read : Option (List Token)) (text : List ℕ) (ps : List Pair) → tokens_of (chars text) ps ≡ read → tokens_outcome read ≡ Err refusal.NotXPath → SpellsNone text ps
tokens_none None text ps is e ts x reads h = let i = sym is ∙ reads in absurd cc
tokens_none (Some us) text ps is e ts x reads h =
    let same : us ≡ ts = some_is us ts (sym is ∙ reads) in
    let P : List Token → Type 0 = λ u. Spells (Level 0 x) (terminals u) in
    none_decided (expression_of (terminals us)) us refl e x (subst P (sym same) h)

outcome_none : (text : List ℕ) (ps : List Pair) → parse_outcome text ps ≡ Err refusal.NotXPath → SpellsNone text ps
unfolding parse_outcome
outcome_none text ps e =
    elim (nat_lt greatest (length text)) as (λ b. cond b (Err refusal.TooLong) (tokens_outcome (tokens_of (chars text) ps)) ≡ Err refusal.NotXPath → SpellsNone text ps) [
      | true ↦ λ e. absurd cc
      | false ↦ λ e. tokens_none (tokens_of (chars text) ps) text ps refl e
    ] e

-- ---- answers

by : (text : List ℕ) (ps : List Pair) (r : Result Expr SyntaxRefusal) → parse_outcome text ps ≡ r → Means text ps r
by text ps r e = let P : Result Expr SyntaxRefusal → Type 0 = λ u. Means text ps u in subst P e (outcome_meant text ps)

pub answers_meant : (r : Result Expr SyntaxRefusal) (text : List ℕ) (ps : List Pair) → Answers r (parse_outcome text ps) → IsMeant text ps r
answers_meant (Ok x) text ps a = by text ps (Ok x) a
answers_meant (Err refusal.TooLong) text ps a = by text ps (Err refusal.TooLong) a
answers_meant (Err refusal.NotXPath) text ps a = by text ps (Err refusal.NotXPath) a
answers_meant (Err refusal.TooDeep) text ps a = by text ps (Err refusal.TooDeep) a
answers_meant (Err refusal.Fraction) text ps a = by text ps (Err refusal.Fraction) a
answers_meant (Err refusal.NumberRange) text ps a = by text ps (Err refusal.NumberRange) a
answers_meant (Err refusal.Div) text ps a = by text ps (Err refusal.Div) a
answers_meant (Err refusal.Variable) text ps a = by text ps (Err refusal.Variable) a
answers_meant (Err refusal.UnknownFunction) text ps a = by text ps (Err refusal.UnknownFunction) a
answers_meant (Err refusal.Arity) text ps a = by text ps (Err refusal.Arity) a
answers_meant (Err refusal.UnboundPrefix) text ps a = by text ps (Err refusal.UnboundPrefix) a
answers_meant (Err refusal.Memory) text ps a = tt

pub answers_spelled : (r : Result Expr SyntaxRefusal) (text : List ℕ) (ps : List Pair) → Answers r (parse_outcome text ps) → IfOk r (λ x. Spelled text ps x)
answers_spelled (Ok x) text ps a = means_spelled text ps (parse_outcome text ps) x (outcome_meant text ps) a
answers_spelled (Err e) text ps a = tt

pub answers_none : (r : Result Expr SyntaxRefusal) (text : List ℕ) (ps : List Pair) → Answers r (parse_outcome text ps) → IsErrOf r refusal.NotXPath → SpellsNone text ps
answers_none (Ok x) text ps a h = absurd cc
answers_none (Err refusal.NotXPath) text ps a h = outcome_none text ps a
answers_none (Err _) text ps a h = absurd cc

pub refuses : (r : SyntaxRefusal) (outcome : Result Expr SyntaxRefusal) → outcome ≡ Err r → Refuses r outcome
refuses refusal.TooLong outcome e = e
refuses refusal.NotXPath outcome e = e
refuses refusal.TooDeep outcome e = e
refuses refusal.Fraction outcome e = e
refuses refusal.NumberRange outcome e = e
refuses refusal.Div outcome e = e
refuses refusal.Variable outcome e = e
refuses refusal.UnknownFunction outcome e = e
refuses refusal.Arity outcome e = e
refuses refusal.UnboundPrefix outcome e = e
refuses refusal.Memory outcome e = tt

-- What clap answers to the words of a command, from the command on.
use Rattle.std.proofs.Common.{◌≡◌, ◌∙◌, ap, ap₂, sym, subst, ℕ, Bool, true, false, not, ◌&&◌, ◌||◌, List, [], ◌∷◌, ◌++◌, map, Option, Some, None, refl, cond, bytes_eq, fold, append-nil, append_assoc}
use Rattle.std.specs.List.{list_all, list_any}
use Rattle.std.specs.Prelude.{if◌then◌else◌, option_and_then}
use Rattle.std.proofs.lemmas.Slice.Eq.{bytes_eq-Decides}
use Rattle.clap.specs.Walk.{Held, Row, Rule, Text, default_rows, finished, has_row, nothing_held, rows_after, settled, walk, with_default}
use Rattle.clap.specs.Simple.{App, names_of}
use Rattle.clap.specs.Faults.{built_fault, check_fault, default_fault, defaults_fault, level_fault, settle_fault, walk_fault}
use Rattle.clap.specs.Kinds.{Kinds, or_else}
use Rattle.clap.specs.Takes.{is_given}
use Rattle.clap.specs.Words.{IsAmong, fault_of, matches_of}
use Rattle.clap.specs.declared.error.kind.ErrorKind.{ErrorKind}
use Rattle.clap.proofs.FaultLemmas.{leaf_fault}
use Rattle.job_words.specs.Word.{is_plain, option_in}
use Rattle.job_words.specs.Code.Word.{are_lawful, is_lawful, is_lawful_option}
use Rattle.job_words.specs.Given.{Options, Given, are_once, by_option, by_takes, by_word, given_by, given_in, has_name, once, takes_of, with_given}
use Rattle.job_words.specs.Command.{shown}
use Rattle.job_words.specs.Code.Command.{command_of}
use Rattle.job_words.specs.declared.options.Takes.{Takes}
use Rattle.job_words.specs.declared.options.Takes.TheVariants.{Value, Nothing}
use Rattle.job_words.proofs.Lookups.{built_command, built_option, built_rules, built_shape, built_word}
use Rattle.job_words.proofs.Rows.{name_more}
use Rattle.job_words.proofs.Steps.{at, or_else_nothing}
use Rattle.job_words.proofs.WalkLaw.{Follows, Stands, final, join, joined, place, reads, total}

-- ---- each name once

-- none of these names is among those before
abbrev apart : (before others : List Given) → Bool
apart before = list_all (λ g. not (has_name g.0 before))

eq_comm : (a b : Text) → bytes_eq a b ≡ bytes_eq b a
eq_comm a b = go (bytes_eq a b) refl (bytes_eq b a) refl
  where
    go : (x : Bool) → bytes_eq a b ≡ x → (y : Bool) → bytes_eq b a ≡ y → bytes_eq a b ≡ bytes_eq b a
    go true e true f = e ∙ sym f
    go false e false f = e ∙ sym f
    go true e false f =
        let same : b ≡ a = sym ((bytes_eq-Decides a b).0 e) in
        let bad : true ≡ false = sym ((bytes_eq-Decides b a).1 same) ∙ f in
        cc
    go false e true f =
        let same : a ≡ b = sym ((bytes_eq-Decides b a).0 f) in
        let bad : true ≡ false = sym ((bytes_eq-Decides a b).1 same) ∙ e in
        cc

apart_more : (before others : List Given) (g : Given) → apart (before ++ g ∷ []) others ≡ (not (has_name g.0 others) && apart before others)
apart_more before [] g = refl
apart_more before (x ∷ xs) g =
    ap₂ (λ a b. not a && b) (name_more x.0 before g ∙ ap (λ b. has_name x.0 before || b) (eq_comm g.0 x.0)) (apart_more before xs g)
    ∙ go (has_name x.0 before) (bytes_eq x.0 g.0) (has_name g.0 xs) (apart before xs)
  where
    go : (a b c d : Bool) → (not (a || b) && (not c && d)) ≡ (not (b || c) && (not a && d))
    go true true c d = refl
    go true false true d = refl
    go true false false d = refl
    go false true c d = refl
    go false false c d = refl

joined_is : (before others : List Given) → joined before others ≡ (if are_once others && apart before others then Some (before ++ others) else None)
unfolding joined
joined_is before [] = ap Some (sym (append-nil before))
joined_is before (g ∷ others) =
    ap (λ o. cond (has_name g.0 before) None o) (joined_is (before ++ g ∷ []) others
    ∙ ap₂ (λ a (gs : List Given). if are_once others && a then Some gs else None) (apart_more before others g) (append_assoc before (g ∷ []) others))
    ∙ go (has_name g.0 before) (has_name g.0 others) (are_once others) (apart before others)
  where
    go : (a b c d : Bool) → cond {A = Option (List Given)} a None (if c && (not b && d) then Some (before ++ g ∷ others) else None)
        ≡ (if (not b && c) && (not a && d) then Some (before ++ g ∷ others) else None)
    go true true c d = refl
    go true false true d = refl
    go true false false d = refl
    go false true true d = refl
    go false true false d = refl
    go false false c d = refl

apart_none : (others : List Given) → apart [] others ≡ true
apart_none [] = refl
apart_none (x ∷ xs) = apart_none xs

joined_once : (others : List Given) → joined [] others ≡ once others
joined_once others = joined_is [] others ∙ ap (λ b. if are_once others && b then Some others else None) (apart_none others) ∙ go (are_once others)
  where
    go : (b : Bool) → (if b && true then Some others else None) ≡ (if b then Some others else None)
    go true = refl
    go false = refl

join_once : (rest : Option (List Given)) → join [] rest ≡ option_and_then once rest
join_once None = refl
join_once (Some others) = joined_once others

-- ---- behind the last word: no argument has a default, and none is required

no_default : (rows : List Row) (o : List ℕ × Takes) → with_default rows (built_option o) ≡ rows
no_default rows o = go (has_row o.0 rows)
  where
    go : (b : Bool) → (if b then rows else rows) ≡ rows
    go true = refl
    go false = refl

no_word_default : (rows : List Row) → with_default rows built_word ≡ rows
no_word_default rows = go (has_row [] rows)
  where
    go : (b : Bool) → (if b then rows else rows) ≡ rows
    go true = refl
    go false = refl

no_defaults : (rows : List Row) (options : Options) → fold with_default rows (map built_option options) ≡ rows
no_defaults rows [] = refl
no_defaults rows (x ∷ xs) = ap (λ rs. fold with_default rs (map built_option xs)) (no_default rows x) ∙ no_defaults rows xs

finished_is : (options : Options) (h : Held) → finished (built_rules options) h ≡ (settled (built_rules options) h).rows
finished_is options h =
    ap (λ rs. fold with_default rs (map built_option options)) (no_word_default (settled (built_rules options) h).rows)
    ∙ no_defaults (settled (built_rules options) h).rows options

or_true : (b : Bool) → (b || true) ≡ true
or_true true = refl
or_true false = refl

no_default_fault : (rows : List Row) (o : List ℕ × Takes) → default_fault rows (built_option o) ≡ []
no_default_fault rows o = rw (or_true (has_row o.0 rows)) refl

no_word_fault : (rows : List Row) → default_fault rows built_word ≡ []
no_word_fault rows = rw (or_true (has_row [] rows)) refl

no_option_faults : (rows : List Row) (options : Options) → defaults_fault rows (map built_option options) ≡ []
unfolding defaults_fault
no_option_faults rows [] = refl
no_option_faults rows (x ∷ xs) =
    ap₂ (λ f rs. or_else f (defaults_fault rs (map built_option xs))) (no_default_fault rows x) (no_default rows x) ∙ no_option_faults rows xs

no_faults : (rows : List Row) (options : Options) → defaults_fault rows (built_rules options) ≡ []
unfolding defaults_fault
no_faults rows options =
    ap₂ (λ f rs. or_else f (defaults_fault rs (map built_option options))) (no_word_fault rows) (no_word_default rows) ∙ no_option_faults rows options

none_required : (rows : List Row) (options : Options) → list_any (λ a. a.required && not (is_given a.id rows)) (map built_option options) ≡ false
none_required rows [] = refl
none_required rows (x ∷ xs) = none_required rows xs

no_check_fault : (name : List ℕ) (options : Options) (rows : List Row) → check_fault (built_shape name options) rows false ≡ []
no_check_fault name options rows = rw (none_required rows options) refl

-- ---- the law

module _ (name : List ℕ) (options : Options) (words : List Text) where
  start : Held
  start = nothing_held

  fault_is : fault_of (command_of name options) words ≡ total options name (at nothing_held 1) words
  fault_is =
      ap (λ (b : App). built_fault b nothing_held words) (built_command name options)
      ∙ leaf_fault (record { top = built_shape name options; subs = [] }) nothing_held words refl
      ∙ ap (λ f. or_else (walk_fault (built_shape name options) [] (at nothing_held 1) words) (or_else [] (or_else (settle_fault (built_rules options) false (walk (built_rules options) [] nothing_held words).held) f)))
      (ap₂ or_else (no_faults (settled (built_rules options) (walk (built_rules options) [] nothing_held words).held).rows options)
      (no_check_fault name options (finished (built_rules options) (walk (built_rules options) [] nothing_held words).held)))
      ∙ ap (or_else (walk_fault (built_shape name options) [] (at nothing_held 1) words))
      (or_else_nothing (settle_fault (built_rules options) false (walk (built_rules options) [] nothing_held words).held))

  matches_are : matches_of (command_of name options) words ≡ final options name (at nothing_held 1) words
  matches_are =
      ap (λ (b : App). rows_after b.top.rules (names_of b) words) (built_command name options)
      ∙ finished_is options (walk (built_rules options) [] nothing_held words).held

  -- where lawful words are refused by clap they give nothing, and else what its rows show
  pub command_reads : are_lawful words ≡ true → Follows (given_by options words) (fault_of (command_of name options) words) (matches_of (command_of name options) words)
  command_reads lawful =
      let first = (reads options name words).0 nothing_held false lawful (record { settles = refl; word = refl }) in
      let o = given_by options words in
      let with_once = subst (λ q. Follows q (total options name (at nothing_held 1) words) (final options name (at nothing_held 1) words)) (join_once (given_in options None words)) first in
      let with_rows = subst (λ rows. Follows (given_by options words) (total options name (at nothing_held 1) words) rows) (sym matches_are) with_once in
      subst (λ kinds. Follows (given_by options words) kinds (matches_of (command_of name options) words)) (sym fault_is) with_rows

-- ---- words that may not stand give nothing

by_word_none : (options : Options) (w : Text) (words : List Text) → given_in options None words ≡ None → ((n : Text) → given_in options (Some n) words ≡ None)
    → given_in options None (w ∷ words) ≡ None
unfolding given_in
by_word_none options w words none behind = go (is_plain w) refl
  where
    takes : (t : Option Takes) (n : Text) (value : Option Text) → by_takes t n value (given_in options None words) (given_in options (Some n) words) ≡ None
    takes None n value = refl
    takes (Some Nothing) n None = ap (with_given (n, None)) none
    takes (Some Nothing) n (Some v) = refl
    takes (Some Value) n None = behind n
    takes (Some Value) n (Some v) = only (is_plain v)
      where
        only : (b : Bool) → (if b then with_given (n, Some v) (given_in options None words) else None) ≡ None
        only true = ap (with_given (n, Some v)) none
        only false = refl

    option : (o : Option (Text × Option Text)) → by_option options o (given_in options None words) (λ n. given_in options (Some n) words) ≡ None
    option None = refl
    option (Some o) = takes (takes_of options o.0) o.0 o.1

    go : (b : Bool) → is_plain w ≡ b → by_word options w (given_in options None words) (λ n. given_in options (Some n) words) ≡ None
    go true e = rw e (ap (with_given ([], Some w)) none)
    go false e = rw e (option (option_in w))

unlawful_word : (options : Options) (w : Text) (words : List Text) → is_lawful w ≡ false → given_in options None (w ∷ words) ≡ None
unfolding given_in
unlawful_word options w words e = go (is_plain w) refl
  where
    takes : (t : Option Takes) (n v : Text) → is_plain v ≡ false → by_takes t n (Some v) (given_in options None words) (given_in options (Some n) words) ≡ None
    takes None n v no_plain = refl
    takes (Some Nothing) n v no_plain = refl
    takes (Some Value) n v no_plain = rw no_plain refl

    option : (o : Option (Text × Option Text)) → is_lawful_option o ≡ false → by_option options o (given_in options None words) (λ n. given_in options (Some n) words) ≡ None
    option None bad = refl
    option (Some (n, None)) bad = cc
    option (Some (n, Some v)) bad = takes (takes_of options n) n v bad

    go : (b : Bool) → is_plain w ≡ b → by_word options w (given_in options None words) (λ n. given_in options (Some n) words) ≡ None
    go true is = let bad : true ≡ false = rw is at e in cc
    go false is =
        let lawless : is_lawful_option (option_in w) ≡ false = rw is at e in
        rw is (option (option_in w) lawless)

unlawful_value : (options : Options) (n w : Text) (words : List Text) → is_plain w ≡ false → given_in options (Some n) (w ∷ words) ≡ None
unfolding given_in
unlawful_value options n w words e = rw e refl

value_none : (options : Options) (n w : Text) (words : List Text) → given_in options None words ≡ None → given_in options (Some n) (w ∷ words) ≡ None
unfolding given_in
value_none options n w words none = go (is_plain w)
  where
    go : (b : Bool) → (if b then with_given (n, Some w) (given_in options None words) else None) ≡ None
    go true = ap (with_given (n, Some w)) none
    go false = refl

unlawful_in : (options : Options) (words : List Text) → are_lawful words ≡ false → (given_in options None words ≡ None) × ((n : Text) → given_in options (Some n) words ≡ None)
unlawful_in options [] e = cc
unlawful_in options (w ∷ words) e = go (is_lawful w) refl (unlawful_in options words)
  where
    plain_no : (b : Bool) → is_plain w ≡ b → is_lawful w ≡ false → is_plain w ≡ false
    plain_no true is lawless = let bad : true ≡ false = rw is at lawless in cc
    plain_no false is lawless = is

    go : (b : Bool) → is_lawful w ≡ b → (are_lawful words ≡ false → (given_in options None words ≡ None) × ((n : Text) → given_in options (Some n) words ≡ None))
        → (given_in options None (w ∷ words) ≡ None) × ((n : Text) → given_in options (Some n) (w ∷ words) ≡ None)
    go true is rest =
        let none = rest (rw is at e) in
        (by_word_none options w words none.0 none.1, λ n. value_none options n w words none.0)
    go false is rest = (unlawful_word options w words is, λ n. unlawful_value options n w words (plain_no (is_plain w) refl is))

pub unlawful : (options : Options) (words : List Text) → are_lawful words ≡ false → given_by options words ≡ None
unlawful options words e = ap (option_and_then once) (unlawful_in options words e).0

-- where clap takes lawful words, they give what its rows show
pub taken : (name : List ℕ) (options : Options) (words : List Text) → are_lawful words ≡ true → fault_of (command_of name options) words ≡ []
    → given_by options words ≡ Some (map shown (matches_of (command_of name options) words))
taken name options words lawful none = go (given_by options words) refl (command_reads name options words lawful)
  where
    go : (o : Option (List Given)) → given_by options words ≡ o → Follows o (fault_of (command_of name options) words) (matches_of (command_of name options) words)
        → given_by options words ≡ Some (map shown (matches_of (command_of name options) words))
    go None is follows = absurd (follows none)
    go (Some given) is follows = is ∙ ap Some (sym follows.1)

-- where clap refuses lawful words, they give nothing
pub refused : (name : List ℕ) (options : Options) (words : List Text) (k : ErrorKind) → are_lawful words ≡ true → IsAmong k (fault_of (command_of name options) words)
    → given_by options words ≡ None
refused name options words k lawful among = go (given_by options words) refl (command_reads name options words lawful)
  where
    go : (o : Option (List Given)) → given_by options words ≡ o → Follows o (fault_of (command_of name options) words) (matches_of (command_of name options) words)
        → given_by options words ≡ None
    go None is follows = is
    go (Some given) is follows = absurd (subst (λ ks. IsAmong k ks) follows.0 among)

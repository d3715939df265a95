-- clap reads the words of a command as `given_by` says, for all options and all words.
use Rattle.std.proofs.Common.{◌≡◌, ◌∙◌, ap, ap₂, sym, subst, ℕ, Bool, true, false, not, ◌&&◌, ◌||◌, List, [], ◌∷◌, ◌++◌, map, Option, Some, None, refl, cond, bytes_eq, fold, true≢false}
use Rattle.std.specs.Option.{option_map}
use Rattle.std.specs.Prelude.{option_and_then, if◌then◌else◌}
use Rattle.clap.specs.Walk.{Held, Row, Rule, Text, Waiting, Walk, arg_by_id, has_row, idle, option as waits_for, reacted, settled, subcommand_met, walked}
use Rattle.clap.specs.Faults.{react_fault, settle_fault, turn_fault, use_fault, walk_fault}
use Rattle.clap.specs.Kinds.{Kinds, or_else}
use Rattle.clap.specs.declared.error.kind.ErrorKind.{ErrorKind}
use Rattle.clap.specs.declared.error.kind.ErrorKind.TheVariants as kind
use Rattle.clap.proofs.WalkLemmas.{both}
use Rattle.job_words.specs.Word.{is_plain, option_in}
use Rattle.job_words.specs.Code.Word.{is_plain_value, is_lawful_option, is_lawful, are_lawful}
use Rattle.job_words.specs.Given.{Options, Given, takes_of, has_name, given_in, with_given, by_takes}
use Rattle.job_words.specs.Command.{shown}
use Rattle.job_words.specs.declared.options.Takes.{Takes}
use Rattle.job_words.specs.declared.options.Takes.TheVariants.{Value, Nothing}
use Rattle.job_words.proofs.Lookups.{built_option, built_word, built_rules, built_shape, by_id}
use Rattle.job_words.proofs.Rows.{so_far, row_shown, name_more, used_fresh, value_again, value_fresh, flag_again, flag_fresh, word_fresh, value_wanted}
use Rattle.job_words.proofs.Steps.{IsOptionWord, at, attached_fault, attached_step, behind, first_word, first_word_fault, flag_fault, flag_step, flag_value_fault, opened, option_word, placed, second_word_fault, standing, unknown_fault, value_fault, value_step, waiting_fault, waiting_step}

-- what has been given before, and what the words behind give: none where a name stands twice
unfoldable pub joined : (before others : List Given) → Option (List Given)
joined before [] = Some before
joined before (g ∷ others) = if has_name g.0 before then None else joined (before ++ g ∷ []) others

abbrev pub join : (before : List Given) → Option (List Given) → Option (List Given)
join before rest = option_and_then (joined before) rest

join_with : (before : List Given) (g : Given) (rest : Option (List Given))
    → join before (with_given g rest) ≡ cond (has_name g.0 before) None (join (before ++ g ∷ []) rest)
unfolding joined
join_with before g None = go (has_name g.0 before)
  where
    go : (b : Bool) → None ≡ cond {A = Option (List Given)} b None None
    go true = refl
    go false = refl
join_with before g (Some others) = refl

-- clap fails where there is nothing, and else shows what there is
abbrev pub Follows : Option (List Given) → Kinds → List Row → Type 0
Follows None kinds rows = kinds ≡ [] → ⊥
Follows (Some given) kinds rows = (kinds ≡ []) × (map shown rows ≡ given)

or_else_assoc : (a b c : Kinds) → or_else (or_else a b) c ≡ or_else a (or_else b c)
or_else_assoc [] b c = refl
or_else_assoc (k ∷ ks) b c = refl

some_kind : (k : ErrorKind) (ks : Kinds) → k ∷ ks ≡ [] → ⊥
some_kind k ks e = cc

-- the first word that is no option takes place 1, and there is none behind it
abbrev pub place : Bool → ℕ
place true = 2
place false = 1

module _ (options : Options) (command : List ℕ) where
  -- where the walk over the words ends
  abbrev pub end : Walk → List Text → Held
  end w words = (fold (walked (built_rules options) []) w words).held

  abbrev pub final : Walk → List Text → List Row
  final w words = (settled (built_rules options) (end w words)).rows

  -- how the walk can fail, with the last use
  abbrev pub total : Walk → List Text → Kinds
  total w words = or_else (walk_fault (built_shape command options) [] w words) (settle_fault (built_rules options) false (end w words))

  total_with : (w : Walk) (word : Text) (words : List Text)
      → total w (word ∷ words) ≡ or_else (turn_fault (built_shape command options) [] w word) (total (walked (built_rules options) [] w word) words)
  unfolding walk_fault
  total_with w word words = or_else_assoc (turn_fault (built_shape command options) [] w word) _ _

  -- a word that fails
  fails : (o : Option (List Given)) (w : Walk) (word : Text) (words : List Text) (rows : List Row) (k : ErrorKind) (ks : Kinds) → o ≡ None
      → turn_fault (built_shape command options) [] w word ≡ k ∷ ks → Follows o (total w (word ∷ words)) rows
  fails o w word words rows k ks none e =
      let failed : total w (word ∷ words) ≡ k ∷ ks =
      total_with w word words ∙ ap (λ f. or_else f (total (walked (built_rules options) [] w word) words)) e in
      subst (λ q. Follows q (total w (word ∷ words)) rows) (sym none) (λ h. some_kind k ks (sym failed ∙ h))

  -- a word that passes
  goes : (o now : Option (List Given)) (w next : Walk) (word : Text) (words : List Text) → o ≡ now → turn_fault (built_shape command options) [] w word ≡ []
      → walked (built_rules options) [] w word ≡ next → Follows now (total next words) (final next words) → Follows o (total w (word ∷ words)) (final w (word ∷ words))
  goes o now w next word words same passed step rest =
      let kinds : total w (word ∷ words) ≡ total next words =
      total_with w word words ∙ ap₂ (λ f (v : Walk). or_else f (total v words)) passed step in
      let rows : final w (word ∷ words) ≡ final next words = ap (λ (v : Walk). final v words) step in
      let with_kinds = subst (λ ks. Follows now ks (final next words)) (sym kinds) rest in
      let with_rows = subst (λ rs. Follows now (total w (word ∷ words)) rs) (sym rows) with_kinds in
      subst (λ q. Follows q (total w (word ∷ words)) (final w (word ∷ words))) (sym same) with_rows

-- a word that may stand: one that is no option, or an option
data IsWord (w : Text) : Type 0 where
  is_value : is_plain w ≡ true → IsWord w
  is_option : (name : Text) (value : Option Text) → option_in w ≡ Some (name, value) → is_plain w ≡ false → is_plain_value value ≡ true → IsWord w

lawful_word : (w : Text) → is_lawful w ≡ true → IsWord w
lawful_word w e = go (is_plain w) refl
  where
    by : (o : Option (Text × Option Text)) → option_in w ≡ o → is_lawful_option o ≡ true → is_plain w ≡ false → IsWord w
    by None is bad no_plain = cc
    by (Some (name, value)) is lawful no_plain = is_option name value is no_plain lawful

    go : (b : Bool) → is_plain w ≡ b → IsWord w
    go true is = is_value is
    go false is =
        let lawful : is_lawful_option (option_in w) ≡ true = rw is at e in
        by (option_in w) refl lawful is

-- what the first word makes of what the words give
given_plain : (options : Options) (w : Text) (words : List Text) → is_plain w ≡ true → given_in options None (w ∷ words) ≡ with_given ([], Some w) (given_in options None words)
unfolding given_in
given_plain options w words e = rw e refl

given_option : (options : Options) (w name : Text) (value : Option Text) (words : List Text) → is_plain w ≡ false → option_in w ≡ Some (name, value)
    → given_in options None (w ∷ words) ≡ by_takes (takes_of options name) name value (given_in options None words) (given_in options (Some name) words)
unfolding given_in
given_option options w name value words no_plain is = rw (no_plain, is) refl

given_value : (options : Options) (w name : Text) (words : List Text) → is_plain w ≡ true
    → given_in options (Some name) (w ∷ words) ≡ with_given (name, Some w) (given_in options None words)
unfolding given_in
given_value options w name words e = rw e refl

no_value : (options : Options) (w name : Text) (words : List Text) → is_plain w ≡ false → given_in options (Some name) (w ∷ words) ≡ None
unfolding given_in
no_value options w name words e = rw e refl

value_missing : (options : Options) (name : Text) → given_in options (Some name) [] ≡ None
unfolding given_in
value_missing options name = refl

nothing_given : (options : Options) → given_in options None [] ≡ Some []
unfolding given_in
nothing_given options = refl

-- nothing has failed so far
pub record Stands (options : Options) (h : Held) (second : Bool) : Type 0 where
  pub settles : settle_fault (built_rules options) false h ≡ []
  pub word : has_name [] (so_far options h) ≡ second

module _ (options : Options) (command : List ℕ) where
  open_named : (name : Text) → bytes_eq [] name ≡ false → bytes_eq name [] ≡ false
  open_named [] e = e
  open_named (c ∷ cs) e = refl

  id_of : (name : Text) (t : Takes) → bytes_eq [] name ≡ false → takes_of options name ≡ Some t → arg_by_id (built_rules options) name ≡ Some (built_option (name, t))
  id_of name t named takes = by_id options name named ∙ ap (option_map (λ t. built_option (name, t))) takes

  -- a use after which nothing is pending fails as the use does, where the one before doesn't
  reacts : (a : Rule) (values : List Text) (h : Held) (fault : Kinds) → settle_fault (built_rules options) false h ≡ []
      → use_fault false a values (settled (built_rules options) h).rows ≡ fault → react_fault (built_rules options) false a values h ≡ fault
  reacts a values h fault settles fails = ap₂ or_else settles fails

  -- where the use before fails, each word behind it does
  stuck_word : (w : Text) (waiting : Waiting) (h : Held) (position : ℕ) (k : ErrorKind) (ks : Kinds) → settle_fault (built_rules options) false h ≡ k ∷ ks
      → (name : Text) (value : Option Text) → IsOptionWord w name value → subcommand_met [] waiting w ≡ None
      → (x : ErrorKind) × (xs : Kinds) × (turn_fault (built_shape command options) [] (standing waiting h position) w ≡ x ∷ xs)
  stuck_word w waiting h position k ks e name value is none = go (takes_of options name) refl value refl
    where
      react : (a : Rule) (values : List Text) → react_fault (built_rules options) false a values h ≡ k ∷ ks
      react a values = ap (λ f. or_else f (use_fault false a values (settled (built_rules options) h).rows)) e

      go : (t : Option Takes) → takes_of options name ≡ t → (v : Option Text) → value ≡ v
          → (x : ErrorKind) × (xs : Kinds) × (turn_fault (built_shape command options) [] (standing waiting h position) w ≡ x ∷ xs)
      go None takes v same = (kind.UnknownArgument, [], unknown_fault options command w name value is waiting none h position takes)
      go (Some Nothing) takes (Some v) same = (kind.TooManyValues, [], flag_value_fault options command w name value is waiting none h position v same takes)
      go (Some Nothing) takes None same = (k, ks, flag_fault options command w name value is waiting none h position same takes ∙ react (built_option (name, Nothing)) [])
      go (Some Value) takes (Some v) same = (k, ks, attached_fault options command w name value is waiting none h position v same takes ∙ react (built_option (name, Value)) (v ∷ []))
      go (Some Value) takes None same = (k, ks, waiting_fault options command w name value is waiting none h position same takes ∙ e)

  stuck : (words : List Text) (h : Held) (second : Bool) (k : ErrorKind) (ks : Kinds) → are_lawful words ≡ true → settle_fault (built_rules options) false h ≡ k ∷ ks
      → Follows None (total options command (at h (place second)) words) (final options command (at h (place second)) words)
  unfolding walk_fault
  stuck [] h second k ks lawful e = λ none. some_kind k ks (sym e ∙ none)
  stuck (w ∷ words) h second k ks lawful e = go second (lawful_word w (both (is_lawful w) (are_lawful words) lawful).0)
    where
      go : (second : Bool) → IsWord w → Follows None (total options command (at h (place second)) (w ∷ words)) (final options command (at h (place second)) (w ∷ words))
      go true (is_value is) = fails options command None (at h 2) w words (final options command (at h 2) (w ∷ words)) kind.UnknownArgument [] refl (second_word_fault options command w h is)
      go false (is_value is) = fails options command None (at h 1) w words (final options command (at h 1) (w ∷ words)) k ks refl (first_word_fault options command w h is ∙ e)
      go second (is_option name value is no_plain value_plain) =
          let bad = stuck_word w idle h (place second) k ks e name value (option_word w name value is) refl in
          fails options command None (at h (place second)) w words (final options command (at h (place second)) (w ∷ words)) bad.0 bad.1 refl bad.2

  -- ---- what is held behind one more use

  abbrev reacted_by : List ℕ × Takes → List Text → Held → Held
  reacted_by o values h = reacted (built_rules options) (built_option o) values h

  no_row : (name : Text) (h : Held) (b : Bool) → has_name name (so_far options h) ≡ b → has_row name (settled (built_rules options) h).rows ≡ b
  no_row name h b e = row_shown name (settled (built_rules options) h).rows ∙ e

  -- the word stands where it stood, behind the use of an option
  stands_with : (name : Text) (value : Option Text) (h now : Held) (second : Bool) → bytes_eq [] name ≡ false → Stands options h second
      → settle_fault (built_rules options) false now ≡ [] → so_far options now ≡ so_far options h ++ (name, value) ∷ [] → Stands options now second
  stands_with name value h now second named s settles more = record {
    settles = settles;
    word = ap (has_name []) more ∙ name_more [] (so_far options h) (name, value) ∙ ap₂ ◌||◌ s.word (open_named name named) ∙ no_more second;
  }
    where
      no_more : (b : Bool) → (b || false) ≡ b
      no_more true = refl
      no_more false = refl

  flag_more : (name : Text) (h : Held) → has_name name (so_far options h) ≡ false → so_far options (reacted_by (name, Nothing) [] h) ≡ so_far options h ++ (name, None) ∷ []
  flag_more name h fresh = used_fresh name _ [] (settled (built_rules options) h).rows (no_row name h false fresh)

  value_more : (name v : Text) (h : Held) → has_name name (so_far options h) ≡ false
      → so_far options (reacted_by (name, Value) (v ∷ []) h) ≡ so_far options h ++ (name, Some v) ∷ []
  value_more name v h fresh = used_fresh name _ (v ∷ []) (settled (built_rules options) h).rows (no_row name h false fresh)

  opened_more : (name v : Text) (h : Held) → bytes_eq [] name ≡ false → takes_of options name ≡ Some Value → has_name name (so_far options h) ≡ false
      → so_far options (opened options name (v ∷ []) h) ≡ so_far options h ++ (name, Some v) ∷ []
  opened_more name v h named takes fresh =
      let found = id_of name Value named takes in
      rw found (used_fresh name _ (v ∷ []) (settled (built_rules options) h).rows (no_row name h false fresh))

  opened_fault : (name : Text) (values : List Text) (h : Held) → bytes_eq [] name ≡ false → takes_of options name ≡ Some Value
      → settle_fault (built_rules options) false (opened options name values h) ≡ use_fault false (built_option (name, Value)) values (settled (built_rules options) h).rows
  opened_fault name values h named takes =
      let found = id_of name Value named takes in
      rw found refl

  placed_more : (w : Text) (h : Held) → has_name [] (so_far options h) ≡ false → so_far options (placed options w h) ≡ so_far options h ++ ([], Some w) ∷ []
  placed_more w h fresh = used_fresh [] _ (w ∷ []) (settled (built_rules options) h).rows (no_row [] h false fresh)

  -- ---- the law

  abbrev Reads : List Text → Type 0
  Reads words = (h : Held) (second : Bool) → are_lawful words ≡ true → Stands options h second
      → Follows (join (so_far options h) (given_in options None words)) (total options command (at h (place second)) words) (final options command (at h (place second)) words)

  abbrev ReadsBehind : List Text → Type 0
  ReadsBehind words = (name : Text) (h : Held) (second : Bool) → bytes_eq [] name ≡ false → takes_of options name ≡ Some Value → are_lawful words ≡ true → Stands options h second
      → Follows (join (so_far options h) (given_in options (Some name) words)) (total options command (behind name (opened options name [] h) (place second)) words) (final options command (behind name (opened options name [] h) (place second)) words)

  reads_none : Reads []
  unfolding walk_fault given_in joined
  reads_none h second lawful s = (s.settles, refl)

  behind_none : ReadsBehind []
  unfolding walk_fault given_in
  behind_none name h second named takes lawful s = λ none.
      some_kind kind.InvalidValue [] (sym (value_wanted name (settled (built_rules options) h).rows) ∙ sym (opened_fault name [] h named takes) ∙ none)

  -- one more is given
  more : (words : List Text) (o : Option (List Given)) (g : Given) (h : Held) → o ≡ join (so_far options h) (with_given g (given_in options None words))
      → (b : Bool) → has_name g.0 (so_far options h) ≡ b → o ≡ cond b None (join (so_far options h ++ g ∷ []) (given_in options None words))
  more words o g h is b e = is ∙ join_with (so_far options h) g (given_in options None words)
      ∙ ap (λ c. cond {A = Option (List Given)} c None (join (so_far options h ++ g ∷ []) (given_in options None words))) e

  follows_at : (words : List Text) (before : List Given) (now : Held) (second : Bool) → so_far options now ≡ before
      → Follows (join (so_far options now) (given_in options None words)) (total options command (at now (place second)) words) (final options command (at now (place second)) words)
      → Follows (join before (given_in options None words)) (total options command (at now (place second)) words) (final options command (at now (place second)) words)
  follows_at words before now second same follows =
      subst (λ gs. Follows (join gs (given_in options None words)) (total options command (at now (place second)) words) (final options command (at now (place second)) words)) same follows

  reads_plain : (w : Text) (words : List Text) → Reads words → is_plain w ≡ true → are_lawful words ≡ true → (h : Held) (second : Bool) → Stands options h second
      → Follows (join (so_far options h) (given_in options None (w ∷ words))) (total options command (at h (place second)) (w ∷ words)) (final options command (at h (place second)) (w ∷ words))
  reads_plain w words rest is lawful h true s =
      let none = more words _ ([], Some w) h (ap (join (so_far options h)) (given_plain options w words is)) true s.word in
      fails options command _ (at h 2) w words _ kind.UnknownArgument [] none (second_word_fault options command w h is)
  reads_plain w words rest is lawful h false s =
      let now = placed options w h in
      let given = more words _ ([], Some w) h (ap (join (so_far options h)) (given_plain options w words is)) false s.word in
      let added = placed_more w h s.word in
      let stands : Stands options now true = record {
        settles = word_fresh w (settled (built_rules options) h).rows (no_row [] h false s.word);
        word = ap (has_name []) added ∙ name_more [] (so_far options h) ([], Some w) ∙ any_true (has_name [] (so_far options h));
      } in
      goes options command _ _ (at h 1) (at now 2) w words given (first_word_fault options command w h is ∙ s.settles) (first_word options command w h is)
      (follows_at words _ now true added (rest now true lawful stands))
    where
      any_true : (b : Bool) → (b || true) ≡ true
      any_true true = refl
      any_true false = refl

  module _ (w : Text) (words : List Text) (name : Text) (value : Option Text) (is : option_in w ≡ Some (name, value)) (no_plain : is_plain w ≡ false) (lawful : are_lawful words ≡ true) where
    seen : IsOptionWord w name value
    seen = option_word w name value is

    given_is : (h : Held) (t : Option Takes) → takes_of options name ≡ t → (v : Option Text) → value ≡ v
        → join (so_far options h) (given_in options None (w ∷ words)) ≡ join (so_far options h) (by_takes t name v (given_in options None words) (given_in options (Some name) words))
    given_is h t takes v same = ap (join (so_far options h)) (given_option options w name value words no_plain is
        ∙ ap₂ (λ (t : Option Takes) (v : Option Text). by_takes t name v (given_in options None words) (given_in options (Some name) words)) takes same)

    reads_flag : Reads words → takes_of options name ≡ Some Nothing → value ≡ None → (h : Held) (second : Bool) → Stands options h second
        → (b : Bool) → has_name name (so_far options h) ≡ b
        → Follows (join (so_far options h) (given_in options None (w ∷ words))) (total options command (at h (place second)) (w ∷ words)) (final options command (at h (place second)) (w ∷ words))
    reads_flag rest takes same h second s true again =
        let none = more words _ (name, None) h (given_is h _ takes _ same) true again in
        fails options command _ (at h (place second)) w words _ kind.ArgumentConflict [] none
        (flag_fault options command w name value seen idle refl h (place second) same takes ∙ reacts (built_option (name, Nothing)) [] h (kind.ArgumentConflict ∷ []) s.settles (flag_again name (settled (built_rules options) h).rows (no_row name h true again)))
    reads_flag rest takes same h second s false fresh =
        let now = reacted_by (name, Nothing) [] h in
        let given = more words _ (name, None) h (given_is h _ takes _ same) false fresh in
        let added = flag_more name h fresh in
        goes options command _ _ (at h (place second)) (at now (place second)) w words given
        (flag_fault options command w name value seen idle refl h (place second) same takes ∙ reacts (built_option (name, Nothing)) [] h [] s.settles (flag_fresh name (settled (built_rules options) h).rows (no_row name h false fresh)))
        (flag_step options command w name value seen idle refl h (place second) same takes)
        (follows_at words _ now second added (rest now second lawful (stands_with name None h now second seen.named s refl added)))

    reads_attached : (v : Text) → Reads words → is_plain v ≡ true → takes_of options name ≡ Some Value → value ≡ Some v → (h : Held) (second : Bool) → Stands options h second
        → (b : Bool) → has_name name (so_far options h) ≡ b
        → Follows (join (so_far options h) (given_in options None (w ∷ words))) (total options command (at h (place second)) (w ∷ words)) (final options command (at h (place second)) (w ∷ words))
    reads_attached v rest v_plain takes same h second s true again =
        let none = more words _ (name, Some v) h (given_is h _ takes _ same ∙ rw v_plain refl) true again in
        fails options command _ (at h (place second)) w words _ kind.ArgumentConflict [] none
        (attached_fault options command w name value seen idle refl h (place second) v same takes ∙ reacts (built_option (name, Value)) (v ∷ []) h (kind.ArgumentConflict ∷ []) s.settles (value_again name v (settled (built_rules options) h).rows (no_row name h true again)))
    reads_attached v rest v_plain takes same h second s false fresh =
        let now = reacted_by (name, Value) (v ∷ []) h in
        let given = more words _ (name, Some v) h (given_is h _ takes _ same ∙ rw v_plain refl) false fresh in
        let added = value_more name v h fresh in
        goes options command _ _ (at h (place second)) (at now (place second)) w words given
        (attached_fault options command w name value seen idle refl h (place second) v same takes ∙ reacts (built_option (name, Value)) (v ∷ []) h [] s.settles (value_fresh name v (settled (built_rules options) h).rows (no_row name h false fresh)))
        (attached_step options command w name value seen idle refl h (place second) v same takes)
        (follows_at words _ now second added (rest now second lawful (stands_with name (Some v) h now second seen.named s refl added)))

    reads_option : Reads words → ReadsBehind words → is_plain_value value ≡ true → (h : Held) (second : Bool) → Stands options h second
        → Follows (join (so_far options h) (given_in options None (w ∷ words))) (total options command (at h (place second)) (w ∷ words)) (final options command (at h (place second)) (w ∷ words))
    reads_option rest behind_rest is_lawful_value h second s = go (takes_of options name) refl value refl
      where
        go : (t : Option Takes) → takes_of options name ≡ t → (v : Option Text) → value ≡ v
            → Follows (join (so_far options h) (given_in options None (w ∷ words))) (total options command (at h (place second)) (w ∷ words)) (final options command (at h (place second)) (w ∷ words))
        go None takes v same =
            fails options command _ (at h (place second)) w words _ kind.UnknownArgument [] (given_is h None takes v same)
            (unknown_fault options command w name value seen idle refl h (place second) takes)
        go (Some Nothing) takes (Some v) same =
            fails options command _ (at h (place second)) w words _ kind.TooManyValues [] (given_is h (Some Nothing) takes (Some v) same)
            (flag_value_fault options command w name value seen idle refl h (place second) v same takes)
        go (Some Nothing) takes None same = reads_flag rest takes same h second s (has_name name (so_far options h)) refl
        go (Some Value) takes (Some v) same =
            let v_plain : is_plain v ≡ true = rw same at is_lawful_value in
            reads_attached v rest v_plain takes same h second s (has_name name (so_far options h)) refl
        go (Some Value) takes None same =
            goes options command _ _ (at h (place second)) (behind name (opened options name [] h) (place second)) w words (given_is h (Some Value) takes None same)
            (waiting_fault options command w name value seen idle refl h (place second) same takes ∙ s.settles)
            (waiting_step options command w name value seen idle refl h (place second) same takes)
            (behind_rest name h second seen.named takes lawful s)

    -- an option where a value is wanted is refused
    behind_option : (other : Text) (h : Held) (second : Bool) → bytes_eq [] other ≡ false → takes_of options other ≡ Some Value
        → Follows (join (so_far options h) (given_in options (Some other) (w ∷ words))) (total options command (behind other (opened options other [] h) (place second)) (w ∷ words))
        (final options command (behind other (opened options other [] h) (place second)) (w ∷ words))
    behind_option other h second named takes =
        let open_fault = opened_fault other [] h named takes ∙ value_wanted other (settled (built_rules options) h).rows in
        let bad = stuck_word w (waits_for other) (opened options other [] h) (place second) kind.InvalidValue [] open_fault name value seen refl in
        fails options command _ (behind other (opened options other [] h) (place second)) w words _ bad.0 bad.1
        (ap (join (so_far options h)) (no_value options w other words no_plain)) bad.2

  behind_value : (w : Text) (words : List Text) → Reads words → is_plain w ≡ true → are_lawful words ≡ true
      → (name : Text) (h : Held) (second : Bool) → bytes_eq [] name ≡ false → takes_of options name ≡ Some Value → Stands options h second
      → Follows (join (so_far options h) (given_in options (Some name) (w ∷ words))) (total options command (behind name (opened options name [] h) (place second)) (w ∷ words))
      (final options command (behind name (opened options name [] h) (place second)) (w ∷ words))
  behind_value w words rest w_plain lawful name h second named takes s = go (has_name name (so_far options h)) refl
    where
      go : (b : Bool) → has_name name (so_far options h) ≡ b
          → Follows (join (so_far options h) (given_in options (Some name) (w ∷ words))) (total options command (behind name (opened options name [] h) (place second)) (w ∷ words))
          (final options command (behind name (opened options name [] h) (place second)) (w ∷ words))
      go true again =
          let now = opened options name (w ∷ []) h in
          let none = more words (join (so_far options h) (given_in options (Some name) (w ∷ words))) (name, Some w) h (ap (join (so_far options h)) (given_value options w name words w_plain)) true again in
          let fault = opened_fault name (w ∷ []) h named takes ∙ value_again name w (settled (built_rules options) h).rows (no_row name h true again) in
          goes options command (join (so_far options h) (given_in options (Some name) (w ∷ words))) None (behind name (opened options name [] h) (place second)) (at now (place second)) w words none
          (value_fault options command name w named takes h (place second) w_plain) (value_step options command name w named takes h (place second) w_plain)
          (stuck words now second kind.ArgumentConflict [] lawful fault)
      go false fresh =
          let now = opened options name (w ∷ []) h in
          let given = more words (join (so_far options h) (given_in options (Some name) (w ∷ words))) (name, Some w) h (ap (join (so_far options h)) (given_value options w name words w_plain)) false fresh in
          let fault = opened_fault name (w ∷ []) h named takes ∙ value_fresh name w (settled (built_rules options) h).rows (no_row name h false fresh) in
          let added = opened_more name w h named takes fresh in
          goes options command (join (so_far options h) (given_in options (Some name) (w ∷ words))) (join (so_far options h ++ (name, Some w) ∷ []) (given_in options None words))
          (behind name (opened options name [] h) (place second)) (at now (place second)) w words given
          (value_fault options command name w named takes h (place second) w_plain) (value_step options command name w named takes h (place second) w_plain)
          (follows_at words (so_far options h ++ (name, Some w) ∷ []) now second added (rest now second lawful (stands_with name (Some w) h now second named s fault added)))

  pub reads : (words : List Text) → Reads words × ReadsBehind words
  reads [] = (reads_none, behind_none)
  reads (w ∷ words) = go (reads words).0 (reads words).1
    where
      go : Reads words → ReadsBehind words → Reads (w ∷ words) × ReadsBehind (w ∷ words)
      go rest behind_rest = (
        λ h second lawful s. at_word h second s (both (is_lawful w) (are_lawful words) lawful).1 (lawful_word w (both (is_lawful w) (are_lawful words) lawful).0),
        λ name h second named takes lawful s. behind_word name h second named takes s (both (is_lawful w) (are_lawful words) lawful).1 (lawful_word w (both (is_lawful w) (are_lawful words) lawful).0),
      )
        where
          at_word : (h : Held) (second : Bool) → Stands options h second → are_lawful words ≡ true → IsWord w
              → Follows (join (so_far options h) (given_in options None (w ∷ words))) (total options command (at h (place second)) (w ∷ words)) (final options command (at h (place second)) (w ∷ words))
          at_word h second s lawful (is_value is) = reads_plain w words rest is lawful h second s
          at_word h second s lawful (is_option name value is no_plain value_plain) =
              reads_option w words name value is no_plain lawful rest behind_rest value_plain h second s

          behind_word : (name : Text) (h : Held) (second : Bool) → bytes_eq [] name ≡ false → takes_of options name ≡ Some Value → Stands options h second → are_lawful words ≡ true → IsWord w
              → Follows (join (so_far options h) (given_in options (Some name) (w ∷ words))) (total options command (behind name (opened options name [] h) (place second)) (w ∷ words))
              (final options command (behind name (opened options name [] h) (place second)) (w ∷ words))
          behind_word other h second named takes s lawful (is_value is) = behind_value w words rest is lawful other h second named takes s
          behind_word other h second named takes s lawful (is_option name value is no_plain value_plain) =
              behind_option w words name value is no_plain lawful other h second named takes

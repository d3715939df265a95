-- The token that is read at the front of a text is the longest one that stands there, and each token that stands there alone is
-- read.
use Rattle.std.proofs.Common.{◌≡◌, ℕ, ◌+◌, ◌≤◌, Bool, true, false, cond, List, [], ◌∷◌, ◌++◌, length, Option, Some, None, refl, sym, ap, subst, ◌∙◌, append_assoc, append-nil, length-append, arith}
use Rattle.std.specs.Prelude.{bytes_eq, find, ◌&&◌, ◌==◌}
use Rattle.std.proofs.lemmas.Slice.Eq.{bytes_eq-Decides}
use Rattle.std.specs.List.{list_all}
use Rattle.std.proofs.lemmas.Bool.{eqb-true, eq-eqb, and_parts, not-false}
use Rattle.sig_base.proofs.OptionLemmas.{some_is}
use Rattle.xml_names.specs.Characters.{is_name_start}
use Rattle.xpath_words.specs.Characters.{is_digit, is_quote, is_point, is_star, differs, begins_name, is_in_name, begins, is_empty, first, behind_first, front, behind}
use Rattle.xpath_words.specs.Words.{sign_text, IsNCName, AreDigits, Spells, sign, literal, whole, decimal, fraction, name, qualified, any_in, IsLongest}
use Rattle.xpath_words.specs.Reading.{Front, long_signs, short_signs, long_sign, short_sign, long_before, signed, longer, sign_of, literal_until, literal_of, number_with, number_of, fraction_of, follows, name_with, name_of, word_of}
use Rattle.xpath_words.specs.declared.word.Sign.{Sign}
use Rattle.xpath_words.specs.declared.word.Sign.TheVariants as signs
use Rattle.xpath_words.specs.declared.word.Word.{Word}
use Rattle.xpath_words.specs.declared.word.Word.TheVariants as words
use Rattle.xpath_words.proofs.Letters.{digit_is_no_name, low_is_no_name, quote_low, quote_is_no_digit, start_is_in_name, start_is_no_star, colon_is_not_in_name}
use Rattle.xpath_words.proofs.Runs.{run_parts, run_passes, behind_run, front_run, behind_at, front_at, behind_le, behind_first_le, run_ends}

-- ---- No token is longer than the one that is read

-- something is read, and it leaves no more than these characters
abbrev pub Leaves : List ℕ → Option Front → Type 0
Leaves rest None = ⊥
Leaves rest (Some r) = length r.1 ≤ length rest

longer_leaves : (long : Option Sign) (s : Sign) (rest : List ℕ) → Leaves rest (longer long (Some s) rest)
longer_leaves None s rest = omega arith
longer_leaves (Some l) s rest = behind_first_le rest

point_leaves : (rest : List ℕ) → Leaves rest (word_of (46 ∷ rest))
unfolding word_of sign_of fraction_of short_sign is_name_start
point_leaves rest =
    elim (begins is_digit rest) as (λ b. Leaves rest (cond b (Some (fraction_of (46 ∷ rest))) (longer (long_before 46 (first rest)) (Some signs.Dot) rest))) [
      | true ↦ behind_le is_digit rest
      | false ↦ longer_leaves (long_before 46 (first rest)) signs.Dot rest
    ]

sign_leaves : (s : Sign) (rest : List ℕ) → Leaves rest (word_of (sign_text s ++ rest))
unfolding word_of sign_of short_sign long_sign is_name_start
sign_leaves signs.Open rest = longer_leaves (long_before 40 (first rest)) signs.Open rest
sign_leaves signs.Close rest = longer_leaves (long_before 41 (first rest)) signs.Close rest
sign_leaves signs.OpenBracket rest = longer_leaves (long_before 91 (first rest)) signs.OpenBracket rest
sign_leaves signs.CloseBracket rest = longer_leaves (long_before 93 (first rest)) signs.CloseBracket rest
sign_leaves signs.Dot rest = point_leaves rest
sign_leaves signs.DoubleDot rest = omega arith
sign_leaves signs.At rest = longer_leaves (long_before 64 (first rest)) signs.At rest
sign_leaves signs.Comma rest = longer_leaves (long_before 44 (first rest)) signs.Comma rest
sign_leaves signs.DoubleColon rest = omega arith
sign_leaves signs.Slash rest = longer_leaves (long_before 47 (first rest)) signs.Slash rest
sign_leaves signs.DoubleSlash rest = omega arith
sign_leaves signs.Bar rest = longer_leaves (long_before 124 (first rest)) signs.Bar rest
sign_leaves signs.Plus rest = longer_leaves (long_before 43 (first rest)) signs.Plus rest
sign_leaves signs.Minus rest = longer_leaves (long_before 45 (first rest)) signs.Minus rest
sign_leaves signs.Equal rest = longer_leaves (long_before 61 (first rest)) signs.Equal rest
sign_leaves signs.NotEqual rest = omega arith
sign_leaves signs.Less rest = longer_leaves (long_before 60 (first rest)) signs.Less rest
sign_leaves signs.LessEqual rest = omega arith
sign_leaves signs.Greater rest = longer_leaves (long_before 62 (first rest)) signs.Greater rest
sign_leaves signs.GreaterEqual rest = omega arith
sign_leaves signs.Star rest = longer_leaves (long_before 42 (first rest)) signs.Star rest
sign_leaves signs.Dollar rest = longer_leaves (long_before 36 (first rest)) signs.Dollar rest

quote_is_no_name : (c : ℕ) → is_quote c ≡ true → begins_name c ≡ false
quote_is_no_name c e = low_is_no_name c (quote_low c e)

-- the tests by which `word_of` chooses
name_chosen : (c : ℕ) (cs : List ℕ) → begins_name c ≡ true → word_of (c ∷ cs) ≡ Some (name_of (c ∷ cs))
unfolding word_of
name_chosen c cs e = rw e refl

number_chosen : (c : ℕ) (cs : List ℕ) → is_digit c ≡ true → word_of (c ∷ cs) ≡ Some (number_of (c ∷ cs))
unfolding word_of
number_chosen c cs e = rw (digit_is_no_name c e, e) refl

literal_chosen : (c : ℕ) (cs : List ℕ) → is_quote c ≡ true → word_of (c ∷ cs) ≡ literal_until c cs
unfolding word_of literal_of
literal_chosen c cs e = rw (quote_is_no_name c e, quote_is_no_digit c e, e) refl

fraction_chosen : (c : ℕ) (cs : List ℕ) → is_digit c ≡ true → word_of (46 ∷ (c ∷ cs)) ≡ Some (fraction_of (46 ∷ (c ∷ cs)))
unfolding word_of is_name_start
fraction_chosen c cs e = rw e refl

-- the mark of a literal ends the characters that differ from it
same_ends : (mark : ℕ) → differs mark mark ≡ false
same_ends mark = rw (eq-eqb mark mark refl) refl

literal_read_at : (mark : ℕ) (text rest : List ℕ) → list_all (differs mark) text ≡ true → literal_until mark (text ++ (mark ∷ rest)) ≡ Some (words.Literal text, rest)
literal_read_at mark text rest e =
    let p : ℕ → Bool = differs mark in
    let ends : p mark ≡ false = same_ends mark in
    rw (behind_run p text (mark ∷ rest) e, behind_at p mark rest ends, front_run p text (mark ∷ rest) e, front_at p mark rest ends, append-nil) refl

literal_read : (mark : ℕ) (text rest : List ℕ) → is_quote mark ≡ true → list_all (differs mark) text ≡ true
    → word_of ((mark ∷ (text ++ (mark ∷ []))) ++ rest) ≡ Some (words.Literal text, rest)
literal_read mark text rest q e =
    literal_chosen mark ((text ++ (mark ∷ [])) ++ rest) q ∙ ap (literal_until mark) (append_assoc text (mark ∷ []) rest) ∙ literal_read_at mark text rest e

-- a name passes as a run, and so do digits
name_passes : (s : List ℕ) → IsNCName s → list_all is_in_name s ≡ true
name_passes [] h = absurd h
name_passes (c ∷ cs) h = rw (start_is_in_name c h.0, h.1) refl

digits_pass : (s : List ℕ) → AreDigits s → list_all is_digit s ≡ true
digits_pass [] h = absurd h
digits_pass (c ∷ cs) h = rw (h.0, h.1) refl

name_read : (s rest : List ℕ) → IsNCName s → word_of (s ++ rest) ≡ Some (name_with (s ++ front is_in_name rest) (behind is_in_name rest))
unfolding name_of
name_read [] rest h = absurd h
name_read (c ∷ cs) rest h =
    name_chosen c (cs ++ rest) h.0
    ∙ ap (λ (t : List ℕ). Some (name_with t (behind is_in_name (c ∷ (cs ++ rest))))) (front_run is_in_name (c ∷ cs) rest (name_passes (c ∷ cs) h))
    ∙ ap (λ (t : List ℕ). Some (name_with ((c ∷ cs) ++ front is_in_name rest) t)) (behind_run is_in_name (c ∷ cs) rest (name_passes (c ∷ cs) h))

number_read : (s rest : List ℕ) → AreDigits s → word_of (s ++ rest) ≡ Some (number_with (s ++ front is_digit rest) (behind is_digit rest))
unfolding number_of
number_read [] rest h = absurd h
number_read (c ∷ cs) rest h =
    number_chosen c (cs ++ rest) h.0
    ∙ ap (λ (t : List ℕ). Some (number_with t (behind is_digit (c ∷ (cs ++ rest))))) (front_run is_digit (c ∷ cs) rest (digits_pass (c ∷ cs) h))
    ∙ ap (λ (t : List ℕ). Some (number_with ((c ∷ cs) ++ front is_digit rest) t)) (behind_run is_digit (c ∷ cs) rest (digits_pass (c ∷ cs) h))

fraction_read : (s rest : List ℕ) → AreDigits s → word_of (46 ∷ (s ++ rest)) ≡ Some (words.Number (46 ∷ (s ++ front is_digit rest)), behind is_digit rest)
unfolding fraction_of
fraction_read [] rest h = absurd h
fraction_read (c ∷ cs) rest h =
    fraction_chosen c (cs ++ rest) h.0
    ∙ ap (λ (t : List ℕ). Some (words.Number (46 ∷ t), behind is_digit (c ∷ (cs ++ rest)))) (front_run is_digit (c ∷ cs) rest (digits_pass (c ∷ cs) h))
    ∙ ap (λ (t : List ℕ). Some (words.Number (46 ∷ ((c ∷ cs) ++ front is_digit rest)), t)) (behind_run is_digit (c ∷ cs) rest (digits_pass (c ∷ cs) h))

-- what is behind a name that comes second
behind_second : (s rest : List ℕ) → IsNCName s → behind is_in_name (s ++ rest) ≡ behind is_in_name rest
behind_second s rest h = behind_run is_in_name s rest (name_passes s h)

-- a choice leaves no more than each side does
either_leaves : (b : Bool) (o q : Front) (n : ℕ) → length o.1 ≤ n → length q.1 ≤ n → length (cond {A = Front} b o q).1 ≤ n
either_leaves true o q n h k = h
either_leaves false o q n h k = k

-- what is behind two characters, and behind a run that begins with the second one
two_less : (cs : List ℕ) → length (behind_first (behind_first cs)) ≤ length cs
two_less cs = let h = behind_first_le cs in let k = behind_first_le (behind_first cs) in omega (arith, h, k)

run_less : (p : ℕ → Bool) (cs : List ℕ) → length (behind p (behind_first cs)) ≤ length cs
run_less p cs = let h = behind_first_le cs in let k = behind_le p (behind_first cs) in omega (arith, h, k)

name_with_leaves : (s cs : List ℕ) → length (name_with s cs).1 ≤ length cs
name_with_leaves s cs =
    either_leaves (follows is_star cs) _ _ _ (two_less cs)
    (either_leaves (follows begins_name cs) _ (words.Name [] s, cs) _ (run_less is_in_name cs) (omega arith))

number_with_leaves : (s cs : List ℕ) → length (number_with s cs).1 ≤ length cs
number_with_leaves s cs = either_leaves (begins is_point cs) _ (words.Number s, cs) _ (run_less is_digit cs) (omega arith)

-- behind the parts of a qualified name
colon_behind : (rest : List ℕ) → behind is_in_name (58 ∷ rest) ≡ 58 ∷ rest
colon_behind rest = behind_at is_in_name 58 rest colon_is_not_in_name

colon_front : (rest : List ℕ) → front is_in_name (58 ∷ rest) ≡ []
colon_front rest = front_at is_in_name 58 rest colon_is_not_in_name

any_in_read : (s rest : List ℕ) → IsNCName s → word_of ((s ++ (58 ∷ (42 ∷ []))) ++ rest) ≡ Some (words.AnyIn s, rest)
any_in_read s rest h =
    ap word_of (append_assoc s (58 ∷ (42 ∷ [])) rest)
    ∙ name_read s (58 ∷ (42 ∷ rest)) h
    ∙ rw (colon_behind (42 ∷ rest), colon_front (42 ∷ rest), append-nil) refl

second_follows : (s rest : List ℕ) → IsNCName s → (begins is_star (s ++ rest) ≡ false) × (begins begins_name (s ++ rest) ≡ true)
second_follows [] rest h = absurd h
second_follows (c ∷ cs) rest h = (start_is_no_star c h.0, h.0)

qualified_with : (s local rest : List ℕ) → IsNCName local
    → name_with s (58 ∷ (local ++ rest)) ≡ (words.Name s (local ++ front is_in_name rest), behind is_in_name rest)
qualified_with s local rest h =
    let f = second_follows local rest h in
    rw (f.0, f.1, front_run is_in_name local rest (name_passes local h), behind_second local rest h) refl

qualified_read : (s local rest : List ℕ) → IsNCName s → IsNCName local
    → word_of ((s ++ (58 ∷ local)) ++ rest) ≡ Some (words.Name s (local ++ front is_in_name rest), behind is_in_name rest)
qualified_read s local rest h k =
    ap word_of (append_assoc s (58 ∷ local) rest)
    ∙ name_read s (58 ∷ (local ++ rest)) h
    ∙ rw (colon_behind (local ++ rest), colon_front (local ++ rest), append-nil) (ap (λ (r : Front). Some r) (qualified_with s local rest k))

decimal_read : (s part rest : List ℕ) → AreDigits s → list_all is_digit part ≡ true
    → word_of ((s ++ (46 ∷ part)) ++ rest) ≡ Some (words.Number (s ++ (46 ∷ (part ++ front is_digit rest))), behind is_digit rest)
decimal_read s part rest h k =
    ap word_of (append_assoc s (46 ∷ part) rest)
    ∙ number_read s (46 ∷ (part ++ rest)) h
    ∙ rw (behind_at is_digit 46 (part ++ rest) refl, front_at is_digit 46 (part ++ rest) refl, append-nil, front_run is_digit part rest k, behind_run is_digit part rest k) refl

at_read : (rest : List ℕ) (o : Option Front) (r : Front) → o ≡ Some r → length r.1 ≤ length rest → Leaves rest o
at_read rest o r e h = subst (Leaves rest) (sym e) h

pub leaves : (s rest : List ℕ) (w : Word) → Spells s w → Leaves rest (word_of (s ++ rest))
leaves s rest w (sign g) = sign_leaves g rest
leaves s rest w (literal mark text q h) = at_read rest _ _ (literal_read mark text rest q h) (omega arith)
leaves s rest w (whole digits h) =
    at_read rest _ _ (number_read digits rest h) (let i = number_with_leaves (digits ++ front is_digit rest) (behind is_digit rest) in let k = behind_le is_digit rest in omega (arith, i, k))
leaves s rest w (decimal digits part h k) = at_read rest _ _ (decimal_read digits part rest h k) (behind_le is_digit rest)
leaves s rest w (fraction digits h) = at_read rest _ _ (fraction_read digits rest h) (behind_le is_digit rest)
leaves s rest w (name local h) =
    at_read rest _ _ (name_read local rest h) (let i = name_with_leaves (local ++ front is_in_name rest) (behind is_in_name rest) in let k = behind_le is_in_name rest in omega (arith, i, k))
leaves s rest w (qualified prefix local h k) = at_read rest _ _ (qualified_read prefix local rest h k) (behind_le is_in_name rest)
leaves s rest w (any_in prefix h) = at_read rest _ _ (any_in_read prefix rest h) (omega arith)

-- ---- A token alone is read whole, so that it is one token only

sign_alone : (s : Sign) → word_of (sign_text s) ≡ Some (words.Sign s, [])
unfolding word_of sign_of short_sign long_sign is_name_start
sign_alone signs.Open = refl
sign_alone signs.Close = refl
sign_alone signs.OpenBracket = refl
sign_alone signs.CloseBracket = refl
sign_alone signs.Dot = refl
sign_alone signs.DoubleDot = refl
sign_alone signs.At = refl
sign_alone signs.Comma = refl
sign_alone signs.DoubleColon = refl
sign_alone signs.Slash = refl
sign_alone signs.DoubleSlash = refl
sign_alone signs.Bar = refl
sign_alone signs.Plus = refl
sign_alone signs.Minus = refl
sign_alone signs.Equal = refl
sign_alone signs.NotEqual = refl
sign_alone signs.Less = refl
sign_alone signs.LessEqual = refl
sign_alone signs.Greater = refl
sign_alone signs.GreaterEqual = refl
sign_alone signs.Star = refl
sign_alone signs.Dollar = refl

-- a reading before nothing is one of the characters alone
alone_is : (s : List ℕ) (r : Option Front) → word_of (s ++ []) ≡ r → word_of s ≡ r
alone_is s r e = ap word_of (sym (append-nil s)) ∙ e

alone : (s : List ℕ) (w : Word) → Spells s w → word_of s ≡ Some (w, [])
unfolding front behind
alone s w (sign g) = sign_alone g
alone s w (literal mark text q h) = alone_is s _ (literal_read mark text [] q h)
alone s w (whole digits h) = alone_is digits _ (number_read digits [] h ∙ rw append-nil refl)
alone s w (decimal digits part h k) = alone_is (digits ++ (46 ∷ part)) _ (decimal_read digits part [] h k ∙ rw append-nil refl)
alone s w (fraction digits h) = alone_is (46 ∷ digits) _ (fraction_read digits [] h ∙ rw append-nil refl)
alone s w (name local h) = alone_is local _ (name_read local [] h ∙ rw append-nil refl)
alone s w (qualified prefix local h k) = alone_is (prefix ++ (58 ∷ local)) _ (qualified_read prefix local [] h k ∙ rw append-nil refl)
alone s w (any_in prefix h) = alone_is (prefix ++ (58 ∷ (42 ∷ []))) _ (any_in_read prefix [] h)

one_word_of : (w v : Word) → ◌≡◌ {A = Option Front} (Some (w, [])) (Some (v, [])) → w ≡ v
one_word_of w v e = ap (λ (r : Front). r.0) (some_is (w, []) (v, []) e)

pub one_word : (s : List ℕ) (w v : Word) → Spells s w → Spells s v → w ≡ v
one_word s w v h k = one_word_of w v (sym (alone s w h) ∙ alone s v k)

-- ---- What is read is spelled

-- the token that was read, and its characters before those behind it
pub record Read (xs : List ℕ) (r : Front) : Type 0 where
  pub spelled : List ℕ
  pub spells : Spells spelled r.0
  pub parts : xs ≡ spelled ++ r.1

abbrev IsRead : List ℕ → Option Front → Type 0
IsRead xs None = Unit {0}
IsRead xs (Some r) = Read xs r

chosen : (b : Bool) (xs : List ℕ) (o q : Option Front) → (b ≡ true → IsRead xs o) → (b ≡ false → IsRead xs q) → IsRead xs (cond b o q)
chosen true xs o q f g = f refl
chosen false xs o q f g = g refl

chosen_one : (b : Bool) (xs : List ℕ) (o q : Front) → (b ≡ true → Read xs o) → (b ≡ false → Read xs q) → Read xs (cond b o q)
chosen_one true xs o q f g = f refl
chosen_one false xs o q f g = g refl

-- the run at the front of a name is a name, and that of a number are digits
name_front : (xs : List ℕ) → begins begins_name xs ≡ true → IsNCName (front is_in_name xs)
unfolding front
name_front [] e = absurd cc
name_front (c ∷ cs) e = rw (start_is_in_name c e) (e, run_passes is_in_name cs)

digits_front : (xs : List ℕ) → begins is_digit xs ≡ true → AreDigits (front is_digit xs)
unfolding front
digits_front [] e = absurd cc
digits_front (c ∷ cs) e = rw e (e, run_passes is_digit cs)

follows_is : (p : ℕ → Bool) (cs : List ℕ) → follows p cs ≡ true → (cs ≡ 58 ∷ behind_first cs) × (begins p (behind_first cs) ≡ true)
follows_is p [] e = absurd cc
follows_is p (c ∷ cs) e = let q = and_parts (c == 58) (begins p cs) e in (ap (λ (d : ℕ). d ∷ cs) (eqb-true c 58 q.0), q.1)

begins_star : (cs : List ℕ) → begins is_star cs ≡ true → cs ≡ 42 ∷ behind_first cs
begins_star [] e = absurd cc
begins_star (c ∷ cs) e = ap (λ (d : ℕ). d ∷ cs) (eqb-true c 42 e)

begins_point : (cs : List ℕ) → begins is_point cs ≡ true → cs ≡ 46 ∷ behind_first cs
begins_point [] e = absurd cc
begins_point (c ∷ cs) e = ap (λ (d : ℕ). d ∷ cs) (eqb-true c 46 e)

name_with_read : (s cs : List ℕ) → IsNCName s → Read (s ++ cs) (name_with s cs)
name_with_read s cs h =
    chosen_one (follows is_star cs) (s ++ cs) (words.AnyIn s, behind_first (behind_first cs)) _
    (λ e.
    let q = follows_is is_star cs e in
    let star = begins_star (behind_first cs) q.1 in
    record {
      spelled = s ++ (58 ∷ (42 ∷ []));
      spells = any_in s h;
      parts = ap (λ (t : List ℕ). s ++ t) (q.0 ∙ ap (λ (t : List ℕ). 58 ∷ t) star) ∙ sym (append_assoc s (58 ∷ (42 ∷ [])) (behind_first (behind_first cs)));
    })
    (λ no_star. chosen_one (follows begins_name cs) (s ++ cs) (words.Name s (front is_in_name (behind_first cs)), behind is_in_name (behind_first cs)) (words.Name [] s, cs)
    (λ e.
    let q = follows_is begins_name cs e in
    let local = front is_in_name (behind_first cs) in
    record {
      spelled = s ++ (58 ∷ local);
      spells = qualified s local h (name_front (behind_first cs) q.1);
      parts = ap (λ (t : List ℕ). s ++ t) (q.0 ∙ ap (λ (t : List ℕ). 58 ∷ t) (run_parts is_in_name (behind_first cs))) ∙ sym (append_assoc s (58 ∷ local) (behind is_in_name (behind_first cs)));
    })
    (λ no_name. record { spelled = s; spells = name s h; parts = refl }))

number_with_read : (s cs : List ℕ) → AreDigits s → Read (s ++ cs) (number_with s cs)
number_with_read s cs h =
    chosen_one (begins is_point cs) (s ++ cs) (words.Number (s ++ (46 ∷ front is_digit (behind_first cs))), behind is_digit (behind_first cs)) (words.Number s, cs)
    (λ e.
    let part = front is_digit (behind_first cs) in
    record {
      spelled = s ++ (46 ∷ part);
      spells = decimal s part h (run_passes is_digit (behind_first cs));
      parts = ap (λ (t : List ℕ). s ++ t) (begins_point cs e ∙ ap (λ (t : List ℕ). 46 ∷ t) (run_parts is_digit (behind_first cs))) ∙ sym (append_assoc s (46 ∷ part) (behind is_digit (behind_first cs)));
    })
    (λ no_point. record { spelled = s; spells = whole s h; parts = refl })

same_text : (xs ys : List ℕ) (r : Front) → xs ≡ ys → Read ys r → Read xs r
same_text xs ys r e h = subst (λ (t : List ℕ). Read t r) (sym e) h

name_of_read : (xs : List ℕ) → begins begins_name xs ≡ true → Read xs (name_of xs)
unfolding name_of
name_of_read xs e = same_text xs _ _ (run_parts is_in_name xs) (name_with_read (front is_in_name xs) (behind is_in_name xs) (name_front xs e))

number_of_read : (xs : List ℕ) → begins is_digit xs ≡ true → Read xs (number_of xs)
unfolding number_of
number_of_read xs e = same_text xs _ _ (run_parts is_digit xs) (number_with_read (front is_digit xs) (behind is_digit xs) (digits_front xs e))

fraction_of_read : (xs : List ℕ) → begins is_point xs ≡ true → begins is_digit (behind_first xs) ≡ true → Read xs (fraction_of xs)
unfolding fraction_of
fraction_of_read xs e h =
    record {
      spelled = 46 ∷ front is_digit (behind_first xs);
      spells = fraction (front is_digit (behind_first xs)) (digits_front (behind_first xs) h);
      parts = begins_point xs e ∙ ap (λ (t : List ℕ). 46 ∷ t) (run_parts is_digit (behind_first xs));
    }

-- a literal ends at its mark
same_mark : (mark y : ℕ) → differs mark y ≡ false → y ≡ mark
same_mark mark y e = eqb-true y mark (not-false (y == mark) e)

mark_ends : (mark : ℕ) (cs ys : List ℕ) (y : ℕ) → behind (differs mark) cs ≡ y ∷ ys → y ≡ mark
mark_ends mark cs ys y e = same_mark mark y (run_ends (differs mark) cs ys y e)

ends_at : (mark : ℕ) (cs ys : List ℕ) → behind (differs mark) cs ≡ ys → is_empty ys ≡ false → ys ≡ mark ∷ behind_first ys
ends_at mark cs [] e n = absurd cc
ends_at mark cs (y ∷ ys) e n = ap (λ (c : ℕ). c ∷ ys) (mark_ends mark cs ys y e)

literal_parts : (mark : ℕ) (cs text ends : List ℕ) → front (differs mark) cs ≡ text → behind (differs mark) cs ≡ ends → is_empty ends ≡ false
    → mark ∷ cs ≡ (mark ∷ (text ++ (mark ∷ []))) ++ behind_first ends
literal_parts mark cs text ends e f n =
    ap (λ (t : List ℕ). mark ∷ t)
    (run_parts (differs mark) cs
    ∙ ap (λ (t : List ℕ). t ++ behind (differs mark) cs) e
    ∙ ap (λ (t : List ℕ). text ++ t) (f ∙ ends_at mark cs ends f n)
    ∙ sym (append_assoc text (mark ∷ []) (behind_first ends)))

literal_until_read : (mark : ℕ) (cs : List ℕ) → is_quote mark ≡ true → IsRead (mark ∷ cs) (literal_until mark cs)
literal_until_read mark cs q =
    let text : List ℕ = front (differs mark) cs in
    let ends : List ℕ = behind (differs mark) cs in
    chosen (is_empty ends) (mark ∷ cs) None (Some (words.Literal text, behind_first ends)) (λ e. tt)
    (λ e.
    record {
      spelled = mark ∷ (text ++ (mark ∷ []));
      spells = literal mark text q (run_passes (differs mark) cs);
      parts = literal_parts mark cs text ends refl refl e;
    })

literal_of_read : (xs : List ℕ) → begins is_quote xs ≡ true → IsRead xs (literal_of xs)
unfolding literal_of
literal_of_read [] e = absurd cc
literal_of_read (mark ∷ cs) e = literal_until_read mark cs e

-- a sign that was found is written so
found_is : (text : List ℕ) (all : List Sign) (s : Sign) → find (λ g. bytes_eq (sign_text g) text) all ≡ Some s → sign_text s ≡ text
found_is text [] s e = absurd cc
found_is text (g ∷ all) s e =
    elim (bytes_eq (sign_text g) text) as (λ b. bytes_eq (sign_text g) text ≡ b → cond b (Some g) (find (λ h. bytes_eq (sign_text h) text) all) ≡ Some s → sign_text s ≡ text) [
      | true ↦ λ h f. let i : g ≡ s = some_is g s f in rw (← i) ((bytes_eq-Decides (sign_text g) text).0 h)
      | false ↦ λ h f. found_is text all s f
    ] refl e

short_is : (c : ℕ) (s : Sign) → short_sign c ≡ Some s → sign_text s ≡ c ∷ []
unfolding short_sign
short_is c s e = found_is (c ∷ []) short_signs s e

long_is : (c d : ℕ) (s : Sign) → long_sign c d ≡ Some s → sign_text s ≡ c ∷ (d ∷ [])
unfolding long_sign
long_is c d s e = found_is (c ∷ (d ∷ [])) long_signs s e

sign_is_read : (xs rest : List ℕ) (s : Sign) → xs ≡ sign_text s ++ rest → Read xs (words.Sign s, rest)
sign_is_read xs rest s e = record { spelled = sign_text s; spells = sign s; parts = e }

signed_read : (o : Option Sign) (c : ℕ) (cs : List ℕ) → short_sign c ≡ o → IsRead (c ∷ cs) (signed o cs)
signed_read None c cs e = tt
signed_read (Some s) c cs e = sign_is_read (c ∷ cs) cs s (ap (λ (t : List ℕ). t ++ cs) (sym (short_is c s e)))

longer_read : (o : Option Sign) (c d : ℕ) (cs : List ℕ) → long_sign c d ≡ o → IsRead (c ∷ (d ∷ cs)) (longer o (short_sign c) (d ∷ cs))
longer_read None c d cs e = signed_read (short_sign c) c (d ∷ cs) refl
longer_read (Some s) c d cs e = sign_is_read (c ∷ (d ∷ cs)) cs s (ap (λ (t : List ℕ). t ++ cs) (sym (long_is c d s e)))

sign_of_read : (xs : List ℕ) → IsRead xs (sign_of xs)
unfolding sign_of
sign_of_read [] = tt
sign_of_read (c ∷ []) = signed_read (short_sign c) c [] refl
sign_of_read (c ∷ (d ∷ cs)) = longer_read (long_sign c d) c d cs refl

word_of_read : (xs : List ℕ) → IsRead xs (word_of xs)
unfolding word_of
word_of_read xs =
    chosen (begins begins_name xs) xs (Some (name_of xs)) _ (λ e. name_of_read xs e)
    (λ no_name. chosen (begins is_digit xs) xs (Some (number_of xs)) _ (λ e. number_of_read xs e)
    (λ no_digit. chosen (begins is_quote xs) xs (literal_of xs) _ (λ e. literal_of_read xs e)
    (λ no_quote. chosen (begins is_point xs && begins is_digit (behind_first xs)) xs (Some (fraction_of xs)) (sign_of xs)
    (λ e. let q = and_parts (begins is_point xs) (begins is_digit (behind_first xs)) e in fraction_of_read xs q.0 q.1)
    (λ no_point. sign_of_read xs))))

pub word_read : (xs : List ℕ) (r : Front) → word_of xs ≡ Some r → Read xs r
word_read xs r e = subst (IsRead xs) e (word_of_read xs)

-- ---- The longest token

pub record Longest (xs : List ℕ) (r : Front) : Type 0 where
  pub spelled : List ℕ
  pub spells : Spells spelled r.0
  pub parts : xs ≡ spelled ++ r.1
  pub longest : IsLongest spelled xs

no_longer : (xs s other rest more : List ℕ) (w : Word) (v : Word) → word_of xs ≡ Some (w, rest) → xs ≡ s ++ rest → Spells other v → xs ≡ other ++ more → length other ≤ length s
no_longer xs s other rest more w v e parts h f =
    let left : length rest ≤ length more = subst (Leaves more) (ap word_of (sym f) ∙ e) (leaves other more v h) in
    let one : length s + length rest ≡ length other + length more = sym (length-append s rest) ∙ ap length (sym parts ∙ f) ∙ length-append other more in
    omega arith

pub word_longest : (xs : List ℕ) (r : Front) → word_of xs ≡ Some r → Longest xs r
word_longest xs r e =
    let h = word_read xs r e in
    record {
      spelled = h.spelled;
      spells = h.spells;
      parts = h.parts;
      longest = λ other rest word k f. no_longer xs h.spelled other r.1 rest r.0 word e h.parts k f;
    }

-- two fronts of one length are one
same_front : (a b c d : List ℕ) → a ++ b ≡ c ++ d → length a ≡ length c → (a ≡ c) × (b ≡ d)
same_front [] b [] d e n = (refl, e)
same_front [] b (y ∷ c) d e n = absurd (omega arith)
same_front (x ∷ a) b [] d e n = absurd (omega arith)
same_front (x ∷ a) b (y ∷ c) d e n =
    let h : x ≡ y = cc in
    let f : a ++ b ≡ c ++ d = cc in
    let q = same_front a b c d f (omega arith) in (rw (h, q.0) refl, q.1)

read_is : (s rest : List ℕ) (w : Word) (o : Option Front) → Spells s w → IsLongest s (s ++ rest) → word_of (s ++ rest) ≡ o → Leaves rest o → o ≡ Some (w, rest)
read_is s rest w None h l e k = absurd k
read_is s rest w (Some r) h l e k =
    let q = word_read (s ++ rest) r e in
    let short : length q.spelled ≤ length s = l q.spelled r.1 r.0 q.spells q.parts in
    let one : length s + length rest ≡ length q.spelled + length r.1 = sym (length-append s rest) ∙ ap length q.parts ∙ length-append q.spelled r.1 in
    let same = same_front s rest q.spelled r.1 q.parts (omega arith) in
    let word : r.0 ≡ w = one_word s r.0 w (subst (λ (t : List ℕ). Spells t r.0) (sym same.0) q.spells) h in
    ap (λ (x : Front). Some x) (rw (← word, same.1) refl)

-- the longest token is read
pub longest_read : (s rest : List ℕ) (w : Word) → Spells s w → IsLongest s (s ++ rest) → word_of (s ++ rest) ≡ Some (w, rest)
longest_read s rest w h l = read_is s rest w (word_of (s ++ rest)) h l refl (leaves s rest w h)

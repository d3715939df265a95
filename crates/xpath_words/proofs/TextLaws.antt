-- The tokens of a text are just those that it spells, the longest one each time.
use Rattle.std.proofs.Common.{◌≡◌, ℕ, zero, suc, ◌-◌, ◌≤◌, ◌<◌, true, false, List, [], ◌∷◌, ◌++◌, length, Option, Some, None, refl, sym, ap, subst, ◌∙◌, length-append, arith}
use Rattle.std.specs.Prelude.{◌↔◌}
use Rattle.std.specs.List.{list_all}
use Rattle.std.proofs.lemmas.Bool.{and_parts}
use Rattle.sig_base.proofs.OptionLemmas.{some_is}
use Rattle.xpath_words.specs.Characters.{is_space}
use Rattle.xpath_words.specs.Words.{sign_text, IsNCName, AreDigits, Spells, sign, literal, whole, decimal, fraction, name, qualified, any_in, IsLongest, SpellsAll, no_more, one_more}
use Rattle.xpath_words.specs.Reading.{Front, word_of, before_all, words_behind, words_of}
use Rattle.xpath_words.specs.declared.word.Sign.{Sign}
use Rattle.xpath_words.specs.declared.word.Sign.TheVariants as signs
use Rattle.xpath_words.specs.declared.word.Word.{Word}
use Rattle.xpath_words.proofs.Letters.{digit_is_no_space, name_is_no_space, quote_is_no_space}
use Rattle.xpath_words.proofs.WordLaws.{Longest, word_longest, longest_read}

-- ---- A token begins with no white space

abbrev pub Solid : List ℕ → Type 0
Solid [] = ⊥
Solid (c ∷ cs) = is_space c ≡ false

sign_solid : (s : Sign) → Solid (sign_text s)
sign_solid signs.Open = refl
sign_solid signs.Close = refl
sign_solid signs.OpenBracket = refl
sign_solid signs.CloseBracket = refl
sign_solid signs.Dot = refl
sign_solid signs.DoubleDot = refl
sign_solid signs.At = refl
sign_solid signs.Comma = refl
sign_solid signs.DoubleColon = refl
sign_solid signs.Slash = refl
sign_solid signs.DoubleSlash = refl
sign_solid signs.Bar = refl
sign_solid signs.Plus = refl
sign_solid signs.Minus = refl
sign_solid signs.Equal = refl
sign_solid signs.NotEqual = refl
sign_solid signs.Less = refl
sign_solid signs.LessEqual = refl
sign_solid signs.Greater = refl
sign_solid signs.GreaterEqual = refl
sign_solid signs.Star = refl
sign_solid signs.Dollar = refl

digits_solid : (s rest : List ℕ) → AreDigits s → Solid (s ++ rest)
digits_solid [] rest h = absurd h
digits_solid (c ∷ cs) rest h = digit_is_no_space c h.0

name_solid : (s rest : List ℕ) → IsNCName s → Solid (s ++ rest)
name_solid [] rest h = absurd h
name_solid (c ∷ cs) rest h = name_is_no_space c h.0

alone_solid : (s : List ℕ) → Solid (s ++ []) → Solid s
alone_solid [] h = absurd h
alone_solid (c ∷ cs) h = h

pub solid : (s : List ℕ) (w : Word) → Spells s w → Solid s
solid s w (sign g) = sign_solid g
solid s w (literal mark text q h) = quote_is_no_space mark q
solid s w (whole digits h) = alone_solid digits (digits_solid digits [] h)
solid s w (decimal digits part h k) = digits_solid digits (46 ∷ part) h
solid s w (fraction digits h) = refl
solid s w (name local h) = alone_solid local (name_solid local [] h)
solid s w (qualified prefix local h k) = name_solid prefix (58 ∷ local) h
solid s w (any_in prefix h) = name_solid prefix (58 ∷ (42 ∷ [])) h

-- ---- One token of a text

-- behind the characters of a token the others are read
passed : (s rest : List ℕ) → words_behind (length s) (s ++ rest) ≡ words_behind 0 rest
unfolding words_behind
passed [] rest = refl
passed (c ∷ s) rest = passed s rest

same_length : (s rest xs : List ℕ) → xs ≡ s ++ rest → length xs - length rest ≡ length s
same_length s rest xs e = omega (arith, ap length e, length-append s rest)

pub space_read : (c : ℕ) (cs : List ℕ) → is_space c ≡ true → words_behind 0 (c ∷ cs) ≡ words_behind 0 cs
unfolding words_behind
space_read c cs h = rw h refl

one_step : (c : ℕ) (cs : List ℕ) (r : Front) → is_space c ≡ false → word_of (c ∷ cs) ≡ Some r
    → words_behind 0 (c ∷ cs) ≡ before_all r.0 (words_behind (length cs - length r.1) cs)
unfolding words_behind
one_step c cs r h e = rw (h, e) refl

pub none_read : (c : ℕ) (cs : List ℕ) → is_space c ≡ false → word_of (c ∷ cs) ≡ None → words_behind 0 (c ∷ cs) ≡ None
unfolding words_behind
none_read c cs h e = rw (h, e) refl

split_step : (c : ℕ) (cs : List ℕ) (w : Word) (s rest : List ℕ) → Solid s → is_space c ≡ false → word_of (c ∷ cs) ≡ Some (w, rest) → c ∷ cs ≡ s ++ rest
    → words_behind 0 (c ∷ cs) ≡ before_all w (words_behind 0 rest)
split_step c cs w [] rest n h e parts = absurd n
split_step c cs w (d ∷ s) rest n h e parts =
    let more : cs ≡ s ++ rest = cc in
    one_step c cs (w, rest) h e
    ∙ ap (λ (k : ℕ). before_all w (words_behind k cs)) (same_length s rest cs more)
    ∙ ap (λ (t : List ℕ). before_all w (words_behind (length s) t)) more
    ∙ ap (before_all w) (passed s rest)

pub word_step : (c : ℕ) (cs : List ℕ) (w : Word) (rest : List ℕ) → is_space c ≡ false → word_of (c ∷ cs) ≡ Some (w, rest)
    → words_behind 0 (c ∷ cs) ≡ before_all w (words_behind 0 rest)
word_step c cs w rest h e =
    let l = word_longest (c ∷ cs) (w, rest) e in split_step c cs w l.spelled rest (solid l.spelled w l.spells) h e l.parts

solid_length : (s : List ℕ) → Solid s → 1 ≤ length s
solid_length [] n = absurd n
solid_length (c ∷ cs) n = omega arith

-- a token takes a character at least
pub word_shorter : (xs rest : List ℕ) (w : Word) → word_of xs ≡ Some (w, rest) → length rest < length xs
word_shorter xs rest w e =
    let l = word_longest xs (w, rest) e in
    omega (arith, solid_length l.spelled (solid l.spelled w l.spells), ap length l.parts, length-append l.spelled rest)

-- ---- What is spelled is read

spaces_read : (space rest : List ℕ) → list_all is_space space ≡ true → words_behind 0 (space ++ rest) ≡ words_behind 0 rest
spaces_read [] rest e = refl
spaces_read (c ∷ space) rest e =
    let q = and_parts (is_space c) (list_all is_space space) e in space_read c (space ++ rest) q.0 ∙ spaces_read space rest q.1

word_first : (s rest : List ℕ) (w : Word) → Solid s → word_of (s ++ rest) ≡ Some (w, rest) → words_behind 0 (s ++ rest) ≡ before_all w (words_behind 0 rest)
word_first [] rest w n e = absurd n
word_first (c ∷ s) rest w n e = word_step c (s ++ rest) w rest n e

only_space : (space : List ℕ) → list_all is_space space ≡ true → words_behind 0 space ≡ Some []
unfolding words_behind
only_space [] e = refl
only_space (c ∷ space) e = let q = and_parts (is_space c) (list_all is_space space) e in rw q.0 (only_space space q.1)

pub all_read : (text : List ℕ) (ws : List Word) → SpellsAll text ws → words_of text ≡ Some ws
all_read text ws (no_more space e) = only_space space e
all_read text ws (one_more space s rest w more e h l others) =
    spaces_read space (s ++ rest) e
    ∙ word_first s rest w (solid s w h) (longest_read s rest w h l)
    ∙ ap (before_all w) (all_read rest more others)

-- ---- What is read is spelled

with_space : (c : ℕ) (text : List ℕ) (ws : List Word) → is_space c ≡ true → SpellsAll text ws → SpellsAll (c ∷ text) ws
with_space c text ws h (no_more space e) = no_more (c ∷ space) (rw (h, e) refl)
with_space c text ws h (one_more space s rest w more e k l others) = one_more (c ∷ space) s rest w more (rw (h, e) refl) k l others

some_before : (w : Word) (o : Option (List Word)) (ws : List Word) → before_all w o ≡ Some ws → (more : List Word) × (o ≡ Some more) × (ws ≡ w ∷ more)
some_before w None ws e = absurd cc
some_before w (Some more) ws e = (more, refl, sym (some_is (w ∷ more) ws e))

first_spelled : (xs : List ℕ) (w : Word) (rest : List ℕ) (more : List Word) → Longest xs (w, rest) → SpellsAll rest more → SpellsAll xs (w ∷ more)
first_spelled xs w rest more l others =
    subst (λ (t : List ℕ). SpellsAll t (w ∷ more)) (sym l.parts)
    (one_more [] l.spelled rest w more refl l.spells (subst (IsLongest l.spelled) l.parts l.longest) others)

-- texts of at most so many characters are spelled by the tokens that are read
abbrev AllSpelled : ℕ → Type 0
AllSpelled n = (xs : List ℕ) (ws : List Word) → length xs ≤ n → words_behind 0 xs ≡ Some ws → SpellsAll xs ws

word_spelled : (n : ℕ) (c : ℕ) (cs : List ℕ) (ws : List Word) (o : Option Front) → AllSpelled n → length cs ≤ n → is_space c ≡ false → word_of (c ∷ cs) ≡ o
    → words_behind 0 (c ∷ cs) ≡ Some ws → SpellsAll (c ∷ cs) ws
word_spelled n c cs ws None shorter h k e f = let g = sym (none_read c cs k e) ∙ f in absurd cc
word_spelled n c cs ws (Some (w, rest)) shorter h k e f =
    let q = some_before w (words_behind 0 rest) ws (sym (word_step c cs w rest k e) ∙ f) in
    let less = word_shorter (c ∷ cs) rest w e in
    subst (SpellsAll (c ∷ cs)) (sym q.2) (first_spelled (c ∷ cs) w rest q.0 (word_longest (c ∷ cs) (w, rest) e) (shorter rest q.0 (omega (arith, less, h)) q.1))

no_text : (ws : List Word) → words_behind 0 [] ≡ Some ws → SpellsAll [] ws
unfolding words_behind
no_text ws e = subst (SpellsAll []) (some_is [] ws e) (no_more [] refl)

spelled_within : (n : ℕ) → AllSpelled n
spelled_within n [] ws h e = no_text ws e
spelled_within zero (c ∷ cs) ws h e = absurd (omega arith)
spelled_within (suc n) (c ∷ cs) ws h e =
    elim (is_space c) as (λ b. is_space c ≡ b → SpellsAll (c ∷ cs) ws) [
      | true ↦ λ k. with_space c cs ws k (spelled_within n cs ws (omega arith) (sym (space_read c cs k) ∙ e))
      | false ↦ λ k. word_spelled n c cs ws (word_of (c ∷ cs)) (spelled_within n) (omega arith) k refl e
    ] refl

pub all_spelled : (text : List ℕ) (ws : List Word) → words_of text ≡ Some ws → SpellsAll text ws
all_spelled text ws e = spelled_within (length text) text ws (omega arith) e

-- a text has just the tokens that it spells
pub longest_tokens : (text : List ℕ) (ws : List Word) → (words_of text ≡ Some ws) ↔ SpellsAll text ws
longest_tokens text ws = (all_spelled text ws, all_read text ws)

-- a text has one cut at most
pub one_cut : (text : List ℕ) (these those : List Word) → SpellsAll text these → SpellsAll text those → these ≡ those
one_cut text these those h k = some_is these those (sym (all_read text these h) ∙ all_read text those k)

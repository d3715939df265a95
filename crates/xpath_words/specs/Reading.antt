-- Reading a text from left to right: the token at the front and what is behind it, or none where no token stands there. The
-- laws in proofs/ say that this gives just what the definitions of Words spell.
use Rattle.std.specs.Prelude.{ℕ, zero, suc, ◌-◌, Bool, ◌&&◌, List, [], ◌∷◌, ◌++◌, length, Option, Some, None, option_and_then, bytes_eq, find, if◌then◌else◌}
use Rattle.xpath_words.specs.Characters.{is_space, is_digit, is_quote, is_point, is_colon, is_star, differs, begins_name, is_in_name, is_empty, begins, first, behind_first, front, behind}
use Rattle.xpath_words.specs.Words.{sign_text}
use Rattle.xpath_words.specs.declared.word.Sign.{Sign}
use Rattle.xpath_words.specs.declared.word.Sign.TheVariants as signs
use Rattle.xpath_words.specs.declared.word.Word.{Word}
use Rattle.xpath_words.specs.declared.word.Word.TheVariants as words

-- a token, and the characters behind it
abbrev pub Front : Type 0
Front = Word × List ℕ

-- the signs of two characters, and those of one
abbrev pub long_signs : List Sign
long_signs = signs.DoubleDot ∷ signs.DoubleColon ∷ signs.DoubleSlash ∷ signs.NotEqual ∷ signs.LessEqual ∷ signs.GreaterEqual ∷ []

abbrev pub short_signs : List Sign
short_signs =
    signs.Open ∷ signs.Close ∷ signs.OpenBracket ∷ signs.CloseBracket ∷ signs.Dot ∷ signs.At ∷ signs.Comma ∷ signs.Slash
    ∷ signs.Bar ∷ signs.Plus ∷ signs.Minus ∷ signs.Equal ∷ signs.Less ∷ signs.Greater ∷ signs.Star ∷ signs.Dollar ∷ []

-- the sign that is written so
unfoldable pub long_sign : ℕ → ℕ → Option Sign
long_sign c d = find (λ s. bytes_eq (sign_text s) (c ∷ d ∷ [])) long_signs

unfoldable pub short_sign : ℕ → Option Sign
short_sign c = find (λ s. bytes_eq (sign_text s) (c ∷ [])) short_signs

-- the sign of a character and of the next one, if there is one
abbrev pub long_before : ℕ → Option ℕ → Option Sign
long_before c None = None
long_before c (Some d) = long_sign c d

-- a sign of one character, before these ones
abbrev pub signed : Option Sign → List ℕ → Option Front
signed None cs = None
signed (Some s) cs = Some (words.Sign s, cs)

-- a sign of two characters, of which the second one comes next, or else a sign of one
abbrev pub longer : Option Sign → Option Sign → List ℕ → Option Front
longer (Some s) short cs = Some (words.Sign s, behind_first cs)
longer None short cs = signed short cs

unfoldable pub sign_of : List ℕ → Option Front
sign_of [] = None
sign_of (c ∷ cs) = longer (long_before c (first cs)) (short_sign c) cs

-- a literal: the characters up to the mark with which it begins
abbrev pub literal_until : ℕ → List ℕ → Option Front
literal_until mark cs =
    if is_empty (behind (differs mark) cs) then None
    else Some (words.Literal (front (differs mark) cs), behind_first (behind (differs mark) cs))

unfoldable pub literal_of : List ℕ → Option Front
literal_of [] = None
literal_of (mark ∷ cs) = literal_until mark cs

-- digits, and a point with or without digits behind it where a point follows
abbrev pub number_with : List ℕ → List ℕ → Front
number_with digits cs =
    if begins is_point cs
    then (words.Number (digits ++ (46 ∷ front is_digit (behind_first cs))), behind is_digit (behind_first cs))
    else (words.Number digits, cs)

unfoldable pub number_of : List ℕ → Front
number_of cs = number_with (front is_digit cs) (behind is_digit cs)

-- a point, and the digits behind it
unfoldable pub fraction_of : List ℕ → Front
fraction_of cs = (words.Number (46 ∷ front is_digit (behind_first cs)), behind is_digit (behind_first cs))

-- the colon comes first, and then a character that passes the test
abbrev pub follows : (ℕ → Bool) → List ℕ → Bool
follows test cs = begins is_colon cs && begins test (behind_first cs)

-- a name with what follows it: a colon and the star, or a colon and a name, or neither
abbrev pub name_with : List ℕ → List ℕ → Front
name_with name cs =
    if follows is_star cs then (words.AnyIn name, behind_first (behind_first cs))
    else (if follows begins_name cs
    then (words.Name name (front is_in_name (behind_first cs)), behind is_in_name (behind_first cs))
    else (words.Name [] name, cs))

unfoldable pub name_of : List ℕ → Front
name_of cs = name_with (front is_in_name cs) (behind is_in_name cs)

-- the token at the front
unfoldable pub word_of : List ℕ → Option Front
word_of cs =
    if begins begins_name cs then Some (name_of cs)
    else (if begins is_digit cs then Some (number_of cs)
    else (if begins is_quote cs then literal_of cs
    else (if begins is_point cs && begins is_digit (behind_first cs) then Some (fraction_of cs)
    else sign_of cs)))

-- one token more before others
abbrev pub before_all : {X : Type 0} → X → Option (List X) → Option (List X)
before_all x None = None
before_all x (Some xs) = Some (x ∷ xs)

-- the tokens behind so many characters that belong to a token before
unfoldable pub words_behind : ℕ → List ℕ → Option (List Word)
words_behind k [] = Some []
words_behind (suc k) (c ∷ cs) = words_behind k cs
words_behind zero (c ∷ cs) =
    if is_space c then words_behind 0 cs
    else option_and_then (λ (x : Front). before_all x.0 (words_behind (length cs - length x.1) cs)) (word_of (c ∷ cs))

-- the tokens of a text
abbrev pub words_of : List ℕ → Option (List Word)
words_of text = words_behind 0 text

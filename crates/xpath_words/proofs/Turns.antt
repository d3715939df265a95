-- One turn of the loop over a text's tokens.
use Rattle.std.proofs.Common.{◌≡◌, ℕ, true, false, List, [], ◌∷◌, ◌++◌, Option, Some, None, refl, sym, ap, subst, ◌∙◌, append_assoc, append-nil}
use Rattle.xpath_words.specs.Characters.{is_space, is_empty, begins, behind_first}
use Rattle.xpath_words.specs.Reading.{word_of, before_all, words_behind}
use Rattle.std.specs.Prelude.{Result, Ok, Err, Vec}
use Rattle.std.specs.Result.{IsErrAnd}
use Rattle.xpath_words.specs.Given.{Fails, Collects}
use Rattle.xpath_words.specs.Code.Given.{with_front}
use Rattle.xpath_words.specs.declared.word.Word.{Word}
use Rattle.xpath_words.specs.declared.fault.TokensFault.{TokensFault}
use Rattle.xpath_words.specs.declared.fault.TokensFault.TheVariants.{NotXPath, Memory}
use Rattle.xpath_words.proofs.TextLaws.{space_read, none_read, word_step}

-- what was read goes in front of what is still to be read
pub front_again : {X : Type 0} (before : List X) (x : X) (o : Option (List X)) → with_front (before ++ (x ∷ [])) o ≡ with_front before (before_all x o)
front_again before x None = refl
front_again {X} before x (Some xs) = ap (λ (t : List X). Some t) (append_assoc before (x ∷ []) xs)

pub space_turn : (xs : List ℕ) → begins is_space xs ≡ true → words_behind 0 (behind_first xs) ≡ words_behind 0 xs
space_turn [] e = absurd cc
space_turn (c ∷ cs) e = sym (space_read c cs e)

pub word_turn : (before after : List Word) (xs rest : List ℕ) (w : Word) (all : Option (List Word)) → is_empty xs ≡ false → begins is_space xs ≡ false
    → word_of xs ≡ Some (w, rest) → with_front before (words_behind 0 xs) ≡ all → after ≡ before ++ (w ∷ []) → with_front after (words_behind 0 rest) ≡ all
word_turn before after [] rest w all n h e kept pushed = absurd cc
word_turn before after (c ∷ cs) rest w all n h e kept pushed =
    ap (λ (t : List Word). with_front t (words_behind 0 rest)) pushed
    ∙ front_again before w (words_behind 0 rest)
    ∙ ap (with_front before) (sym (word_step c cs w rest h e))
    ∙ kept

none_turn : (before : List Word) (xs : List ℕ) (all : Option (List Word)) → is_empty xs ≡ false → begins is_space xs ≡ false → word_of xs ≡ None
    → with_front before (words_behind 0 xs) ≡ all → all ≡ None
none_turn before [] all n h e kept = absurd cc
none_turn before (c ∷ cs) all n h e kept = sym kept ∙ ap (with_front before) (none_read c cs h e)

pub word_refused : (fault : TokensFault) (before : List Word) (xs : List ℕ) (all : Option (List Word)) → is_empty xs ≡ false → begins is_space xs ≡ false
    → Fails fault (word_of xs) → with_front before (words_behind 0 xs) ≡ all → Fails fault all
word_refused NotXPath before xs all n h e kept = none_turn before xs all n h e kept
word_refused Memory before xs all n h e kept = tt

pub all_words : (before : List Word) (xs : List ℕ) (all : Option (List Word)) → is_empty xs ≡ true → with_front before (words_behind 0 xs) ≡ all → all ≡ Some before
unfolding words_behind
all_words before [] all n kept = sym kept ∙ ap (λ (t : List Word). Some t) (append-nil before)
all_words before (c ∷ cs) all n kept = absurd cc

-- a fault that is passed on
pub passed_on : {X A : Type 0} (result : Result (Vec X A) TokensFault) (fault : TokensFault) (read : Option (List X)) → IsErrAnd result (λ e. e ≡ fault) → Fails fault read → Collects result read
passed_on (Ok v) fault read e h = absurd e
passed_on (Err f) fault read e h = subst (λ (t : TokensFault). Fails t read) (sym e) h

-- What the words behind a command give: its options, and the one word that is no option. This project's own command line.
use Rattle.std.specs.Prelude.{◌&&◌, ℕ, Bool, true, false, not, List, [], ◌∷◌, Option, Some, None, if◌then◌else◌, option_map, option_and_then, bytes_eq}
use Rattle.std.specs.List.{list_any, find}
use Rattle.job_words.specs.Word.{is_plain, option_in}
use Rattle.job_words.specs.declared.options.Takes.{Takes}
use Rattle.job_words.specs.declared.options.Takes.TheVariants.{Value, Nothing}

-- the options of a command: the name of each, and what it takes
abbrev pub Options : Type 0
Options = List (List ℕ × Takes)

abbrev pub takes_of : Options → (name : List ℕ) → Option Takes
takes_of options name = option_map (λ o. o.1) (find (λ o. bytes_eq o.0 name) options)

-- a name, and the value that is given under it. The word that is no option is given under the empty name
abbrev pub Given : Type 0
Given = List ℕ × Option (List ℕ)

-- one more is given, unless the rest is refused
abbrev pub with_given : Given → Option (List Given) → Option (List Given)
with_given given = option_map (λ others. given ∷ others)

-- a value is given, which must be plain
abbrev pub with_value : (name value : List ℕ) → Option (List Given) → Option (List Given)
with_value name value rest = if is_plain value then with_given (name, Some value) rest else None

-- an option, by what it takes: `rest` is what the words behind it give, `behind` where the first of them is its value
abbrev pub by_takes : Option Takes → (name : List ℕ) → Option (List ℕ) → (rest behind : Option (List Given)) → Option (List Given)
by_takes None name value rest behind = None
by_takes (Some Nothing) name None rest behind = with_given (name, None) rest
by_takes (Some Nothing) name (Some value) rest behind = None
by_takes (Some Value) name None rest behind = behind
by_takes (Some Value) name (Some value) rest behind = with_value name value rest

abbrev pub by_option : Options → Option (List ℕ × Option (List ℕ)) → (rest : Option (List Given)) → (behind : List ℕ → Option (List Given))
    → Option (List Given)
by_option options None rest behind = None
by_option options (Some option) rest behind = by_takes (takes_of options option.0) option.0 option.1 rest (behind option.0)

-- a word where no option waits for its value
abbrev pub by_word : Options → (word : List ℕ) → (rest : Option (List Given)) → (behind : List ℕ → Option (List Given))
    → Option (List Given)
by_word options word rest behind = if is_plain word then with_given ([], Some word) rest else by_option options (option_in word) rest behind

-- what the words give, in order, or none where a word is refused. An option may wait for its value
unfoldable pub given_in : Options → (waits : Option (List ℕ)) → List (List ℕ) → Option (List Given)
given_in options None [] = Some []
given_in options (Some name) [] = None
given_in options None (word ∷ words) = by_word options word (given_in options None words) (λ name. given_in options (Some name) words)
given_in options (Some name) (word ∷ words) = with_value name word (given_in options None words)

abbrev pub has_name : (name : List ℕ) → List Given → Bool
has_name name = list_any (λ given. bytes_eq given.0 name)

-- no name stands twice
abbrev pub are_once : List Given → Bool
are_once [] = true
are_once (given ∷ others) = not (has_name given.0 others) && are_once others

abbrev pub once : List Given → Option (List Given)
once given = if are_once given then Some given else None

-- what the words give, each name once at most
abbrev pub given_by : Options → List (List ℕ) → Option (List Given)
given_by options words = option_and_then once (given_in options None words)

-- the value that is given under a name
abbrev pub value_of : (name : List ℕ) → List Given → Option (List ℕ)
value_of name given = option_and_then (λ g. g.1) (find (λ g. bytes_eq g.0 name) given)

-- The base to which URIs are joined: RFC 3986, section 5.1, as a URL of the URL Standard.
use Rattle.std.specs.Prelude.{◌≡◌, ◌==◌, ◌&&◌, ℕ, Bool, false, not, List, [], ◌∷◌, is_some, None, Result, Ok, Err, if◌then◌else◌}
use Rattle.sig_base.specs.Outcomes.{Gives}
use Rattle.url.specs.Parts.{Parts}
use Rattle.url.specs.Parser.{parse_url}
use Rattle.url.specs.declared.error.ParseError.{ParseError}
use Rattle.uri_refs.specs.declared.base.BaseFault.{BaseFault}
use Rattle.uri_refs.specs.declared.base.BaseFault.TheVariants.{NotBase, Memory}

abbrev pub begins_with_slash : List ℕ → Bool
begins_with_slash [] = false
begins_with_slash (b ∷ path) = b == 47

-- a URL whose path begins with a slash, without query and fragment
abbrev pub is_base : Parts → Bool
is_base url = begins_with_slash url.path && (not (is_some url.query) && not (is_some url.fragment))

abbrev pub base_by : Result Parts ParseError → Result Parts BaseFault
base_by (Ok url) = if is_base url then Ok url else Err NotBase
base_by (Err e) = Err NotBase

-- the base that a text spells
abbrev pub base_of : List ℕ → Result Parts BaseFault
base_of text = base_by (parse_url None text)

-- an outcome is this fault; want of memory may come at any text
abbrev pub Refuses : BaseFault → Result Parts BaseFault → Type 0
Refuses NotBase outcome = outcome ≡ Err NotBase
Refuses Memory outcome = Unit {0}

-- an answer is the outcome, unless it is want of memory
abbrev pub Answers : Result Parts BaseFault → Result Parts BaseFault → Type 0
Answers result outcome = Gives Refuses (λ url. url) result outcome

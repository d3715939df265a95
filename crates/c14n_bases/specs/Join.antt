-- Joining two values of `xml:base`: a base, and a value that stands below it. The rule is this project's own, after
-- RFC 3986, section 5.2: values are texts, relative ones too, and fragments are dropped
use Rattle.std.specs.Prelude.{ℕ, Bool, true, false, not, ◌&&◌, ◌||◌, ◌==◌, Option, Some, None, List, [], ◌∷◌, ◌++◌, codes, if◌then◌else◌, drop, reverse, is_some}
use Rattle.std.specs.List.{list_any, flat_map, position_or_len, before_first, slice_split, starts_with}
use Rattle.std.specs.Str.{bytes_eq}

-- ---- cutting a value: RFC 3986, appendix B

-- the octet is one of these
abbrev pub is_one_of : List ℕ → ℕ → Bool
is_one_of stops c = list_any (λ s. s == c) stops

-- what stands before the first of these, and what stands from it on
abbrev pub before : List ℕ → List ℕ → List ℕ
before stops text = before_first (is_one_of stops) text

abbrev pub from_first : List ℕ → List ℕ → List ℕ
from_first stops text = drop (position_or_len (is_one_of stops) text) text

abbrev pub begins : List ℕ → List ℕ → Bool
begins front text = starts_with (λ a b. a == b) text front

abbrev pub is_empty : List ℕ → Bool
is_empty [] = true
is_empty (c ∷ cs) = false

-- `([^:/?#]+):` begins the text
abbrev pub has_scheme : List ℕ → Bool
has_scheme text = not (is_empty (before (codes ":/?#") text)) && begins (codes ":") (from_first (codes ":/?#") text)

abbrev pub scheme_of : List ℕ → Option (List ℕ)
scheme_of text = if has_scheme text then Some (before (codes ":/?#") text) else None

abbrev pub behind_scheme : List ℕ → List ℕ
behind_scheme text = if has_scheme text then drop 1 (from_first (codes ":/?#") text) else text

-- `//([^/?#]*)` begins the text
abbrev pub authority_of : List ℕ → Option (List ℕ)
authority_of text = if begins (codes "//") text then Some (before (codes "/?#") (drop 2 text)) else None

abbrev pub behind_authority : List ℕ → List ℕ
behind_authority text = if begins (codes "//") text then from_first (codes "/?#") (drop 2 text) else text

-- `\?([^#]*)` begins the text
abbrev pub query_of : List ℕ → Option (List ℕ)
query_of text = if begins (codes "?") text then Some (before (codes "#") (drop 1 text)) else None

-- a value in its parts, without the fragment
pub record Parts : Type 0 where
  pub scheme : Option (List ℕ)
  pub authority : Option (List ℕ)
  pub path : List ℕ
  pub query : Option (List ℕ)

-- the same of what stands behind the scheme, and behind the authority
abbrev pub cut_hierarchy : Option (List ℕ) → Option (List ℕ) → List ℕ → Parts
cut_hierarchy scheme authority text =
    record { scheme = scheme; authority = authority; path = before (codes "?#") text; query = query_of (from_first (codes "?#") text) }

abbrev pub cut : List ℕ → Parts
cut text = cut_hierarchy (scheme_of text) (authority_of (behind_scheme text)) (behind_authority (behind_scheme text))

-- ---- cleaning a path: RFC 3986, section 5.2.4, here for relative paths too, and with a run of `/` read as one

abbrev pub is_slash : ℕ → Bool
is_slash c = is_one_of (codes "/") c

abbrev pub segments : List ℕ → List (List ℕ)
segments path = slice_split is_slash path

-- a segment that leads nowhere: `.`, or the empty one, before, behind or between `/`
abbrev pub is_same : List ℕ → Bool
is_same s = bytes_eq s [] || bytes_eq s (codes ".")

-- a segment that leads upwards
abbrev pub is_up : List ℕ → Bool
is_up s = bytes_eq s (codes "..")

-- `..` takes away the last segment kept where there is one that is no `..`. Else it is dropped in a path that begins with `/`,
-- and kept in another. The segments kept so far stand with the last one first
abbrev pub upwards : (absolute : Bool) → List (List ℕ) → List (List ℕ)
upwards absolute [] = if absolute then [] else codes ".." ∷ []
upwards absolute (s ∷ kept) = if is_up s then (if absolute then s ∷ kept else codes ".." ∷ s ∷ kept) else kept

abbrev pub add : Bool → List (List ℕ) → List ℕ → List (List ℕ)
add absolute kept s = if is_same s then kept else (if is_up s then upwards absolute kept else s ∷ kept)

abbrev pub added : Bool → List (List ℕ) → List (List ℕ) → List (List ℕ)
added absolute kept [] = kept
added absolute kept (s ∷ more) = added absolute (add absolute kept s) more

-- segments with `/` between them
abbrev pub after_slash : List ℕ → List ℕ
after_slash s = codes "/" ++ s

abbrev pub between_slashes : List (List ℕ) → List ℕ
between_slashes [] = []
between_slashes (s ∷ more) = s ++ flat_map after_slash more

-- the path of these segments, and a closing `/` where asked for and where there is a segment
abbrev pub path_of : (absolute closing : Bool) → List (List ℕ) → List ℕ
path_of absolute closing [] = if absolute then codes "/" else []
path_of absolute closing (s ∷ more) = (if absolute then codes "/" else []) ++ between_slashes (s ∷ more)
    ++ (if closing then codes "/" else [])

-- what stands behind the last `/`, or the whole
abbrev pub last_segment : List ℕ → List ℕ
last_segment [] = []
last_segment (c ∷ cs) = if list_any is_slash (c ∷ cs) then last_segment cs else c ∷ cs

-- what stands up to and with the last `/`
abbrev pub directory : List ℕ → List ℕ
directory [] = []
directory (c ∷ cs) = if list_any is_slash (c ∷ cs) then c ∷ directory cs else []

abbrev pub is_absolute : List ℕ → Bool
is_absolute path = begins (codes "/") path

-- the path ends with `/`, or its last segment is `.` or `..`
abbrev pub is_open : List ℕ → Bool
is_open path = is_same (last_segment path) || is_up (last_segment path)

abbrev pub cleaned : (absolute closing : Bool) → List (List ℕ) → List ℕ
cleaned absolute closing segs = path_of absolute closing (reverse (added absolute [] segs))

abbrev pub clean : List ℕ → List ℕ
clean path = cleaned (is_absolute path) (is_open path) (segments path)

-- ---- joining: RFC 3986, section 5.2.2

-- a base's path whose last segment is `.` or `..` has `/` added
abbrev pub is_dots : List ℕ → Bool
is_dots s = bytes_eq s (codes ".") || bytes_eq s (codes "..")

abbrev pub base_path : List ℕ → List ℕ
base_path path = if is_dots (last_segment path) then path ++ codes "/" else path

-- a relative path below a base
abbrev pub relative_path : Parts → List ℕ → List ℕ
relative_path base path =
    if is_some base.authority && is_empty base.path then codes "/" ++ path else directory (base_path base.path) ++ path

abbrev pub joined_path : Parts → Parts → List ℕ
joined_path base own =
    if is_empty own.path then base_path base.path
    else (if is_absolute own.path then own.path else relative_path base own.path)

abbrev pub first_some : Option (List ℕ) → Option (List ℕ) → Option (List ℕ)
first_some (Some a) other = Some a
first_some None other = other

abbrev pub joined_query : Parts → Parts → Option (List ℕ)
joined_query base own = if is_empty own.path then first_some own.query base.query else own.query

abbrev pub below : Parts → Parts → Parts
below base own =
    if is_some own.scheme then own
    else (if is_some own.authority then record { scheme = base.scheme; authority = own.authority; path = own.path; query = own.query }
    else record { scheme = base.scheme; authority = base.authority; path = joined_path base own; query = joined_query base own })

-- putting a value together: RFC 3986, section 5.3
abbrev pub scheme_octets : Option (List ℕ) → List ℕ
scheme_octets (Some s) = s ++ codes ":"
scheme_octets None = []

abbrev pub authority_octets : Option (List ℕ) → List ℕ
authority_octets (Some a) = codes "//" ++ a
authority_octets None = []

abbrev pub query_octets : Option (List ℕ) → List ℕ
query_octets (Some q) = codes "?" ++ q
query_octets None = []

abbrev pub put_together : Option (List ℕ) → Option (List ℕ) → (path : List ℕ) → Option (List ℕ) → List ℕ
put_together scheme authority path query = scheme_octets scheme ++ authority_octets authority ++ path ++ query_octets query

abbrev pub cleaned_value : Parts → List ℕ
cleaned_value p = put_together p.scheme p.authority (clean p.path) p.query

-- the joined value
abbrev pub join : (base own : List ℕ) → List ℕ
join base own = cleaned_value (below (cut base) (cut own))

-- The functions by their names, and how many arguments each takes: XPath 1.0, section 4, and XML Signature 1.1, section 6.6.3.
use Rattle.std.specs.Prelude.{ℕ, Bool, ◌&&◌, nat_eq, nat_le, List, codes}
use Rattle.xpath_words.specs.declared.function.Function.{Function}
use Rattle.xpath_words.specs.declared.function.Function.TheVariants as function

abbrev pub function_name : Function → List ℕ
function_name function.Last = codes "last"
function_name function.Position = codes "position"
function_name function.Count = codes "count"
function_name function.Id = codes "id"
function_name function.LocalName = codes "local-name"
function_name function.NamespaceUri = codes "namespace-uri"
function_name function.Name = codes "name"
function_name function.String = codes "string"
function_name function.Concat = codes "concat"
function_name function.StartsWith = codes "starts-with"
function_name function.Contains = codes "contains"
function_name function.SubstringBefore = codes "substring-before"
function_name function.SubstringAfter = codes "substring-after"
function_name function.Substring = codes "substring"
function_name function.StringLength = codes "string-length"
function_name function.NormalizeSpace = codes "normalize-space"
function_name function.Translate = codes "translate"
function_name function.Boolean = codes "boolean"
function_name function.Not = codes "not"
function_name function.True = codes "true"
function_name function.False = codes "false"
function_name function.Lang = codes "lang"
function_name function.Number = codes "number"
function_name function.Sum = codes "sum"
function_name function.Floor = codes "floor"
function_name function.Ceiling = codes "ceiling"
function_name function.Round = codes "round"
function_name function.Here = codes "here"

-- so many arguments may be given
abbrev pub permits : Function → ℕ → Bool
permits function.Last n = nat_eq n 0
permits function.Position n = nat_eq n 0
permits function.Count n = nat_eq n 1
permits function.Id n = nat_eq n 1
permits function.LocalName n = nat_le n 1
permits function.NamespaceUri n = nat_le n 1
permits function.Name n = nat_le n 1
permits function.String n = nat_le n 1
permits function.Concat n = nat_le 2 n
permits function.StartsWith n = nat_eq n 2
permits function.Contains n = nat_eq n 2
permits function.SubstringBefore n = nat_eq n 2
permits function.SubstringAfter n = nat_eq n 2
permits function.Substring n = nat_le 2 n && nat_le n 3
permits function.StringLength n = nat_le n 1
permits function.NormalizeSpace n = nat_le n 1
permits function.Translate n = nat_eq n 3
permits function.Boolean n = nat_eq n 1
permits function.Not n = nat_eq n 1
permits function.True n = nat_eq n 0
permits function.False n = nat_eq n 0
permits function.Lang n = nat_eq n 1
permits function.Number n = nat_le n 1
permits function.Sum n = nat_eq n 1
permits function.Floor n = nat_eq n 1
permits function.Ceiling n = nat_eq n 1
permits function.Round n = nat_eq n 1
permits function.Here n = nat_eq n 0

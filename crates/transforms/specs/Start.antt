-- The data object of a Reference: XML Signature 1.1, sections 4.4.3.2 and 4.4.3.3.
use Rattle.std.specs.Prelude.{ℕ, ◌&&◌, ◌||◌, Bool, true, not, nat_le, nat_lt, List, length, Option, Some, None, Result, Ok, Err, encode_utf8_all, if◌then◌else◌}
use Rattle.sig_outside.specs.Told.{Held}
use Rattle.xml_doc.specs.Ids.{answer_of, bearers}
use Rattle.xml_doc.specs.Rows.{RowOf}
use Rattle.xml_doc.specs.Shape.{row_at}
use Rattle.xml_doc.specs.declared.ids.IdAnswer.{IdAnswer}
use Rattle.xml_doc.specs.declared.ids.IdAnswer.TheVariants as bearer
use Rattle.node_sets.specs.Members.{in_subtree, is_comment}
use Rattle.uri_refs.specs.declared.target.Target.{Target}
use Rattle.uri_refs.specs.declared.target.Target.TheVariants as target
use Rattle.sig_base.specs.Outcomes.{and_then}
use Rattle.transforms.specs.Values.{Value}
use Rattle.transforms.specs.Values.{OfNodes, OfOctets}
use Rattle.transforms.specs.declared.refusal.RefRefusal.{RefRefusal}
use Rattle.transforms.specs.declared.refusal.RefRefusal.TheVariants.{NoSuchId, AmbiguousId, Absent, TooLong}

-- the octets that a file may have: this project's limit
abbrev pub file_limit : ℕ
file_limit = 4194304

-- a row is no comment, where comments aren't wanted
abbrev pub is_wanted : (comments : Bool) → List RowOf → ℕ → Bool
is_wanted comments rows k = comments || not (is_comment (row_at rows k).kind)

-- the rows of a document
abbrev pub in_document : List RowOf → ℕ → Bool
in_document rows k = nat_lt k (length rows)

abbrev pub in_whole : (comments : Bool) → List RowOf → ℕ → Bool
in_whole comments rows k = in_document rows k && is_wanted comments rows k

abbrev pub in_element : (comments : Bool) → List RowOf → ℕ → ℕ → Bool
in_element comments rows e k = in_subtree rows e k && is_wanted comments rows k

-- the element that bears the ID, if just one does
abbrev pub selected : IdAnswer → Result ℕ RefRefusal
selected (bearer.One e) = Ok e
selected bearer.None = Err NoSuchId
selected (bearer.Several first second) = Err (AmbiguousId first second)

abbrev pub own_set : List RowOf → (ℕ → Bool) → Value
own_set rows set = OfNodes (record { own = true; rows = rows; set = set })

-- a file of the folder
abbrev pub file_value : Option (List ℕ) → Result Value RefRefusal
file_value None = Err Absent
file_value (Some octets) = if nat_le (length octets) file_limit then Ok (OfOctets octets) else Err TooLong

-- what the first Transform takes
unfoldable pub start : List RowOf → Held → Target → Result Value RefRefusal
start rows files (target.Whole comments) = Ok (own_set rows (in_whole comments rows))
start rows files (target.Element id comments) =
    and_then (selected (answer_of (bearers rows (encode_utf8_all id)))) (λ e. Ok (own_set rows (in_element comments rows e)))
start rows files (target.Named name) = file_value (files (encode_utf8_all name))

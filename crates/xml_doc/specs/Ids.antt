-- Which element bears an ID: XML Signature 1.1, section 4.4.3.2, a same-document reference by a shorthand pointer
-- (XPointer Framework, section 3.2), where no document type names the attributes that are IDs.
use Rattle.std.specs.Prelude.{ℕ, Bool, ◌&&◌, ◌||◌, List, [], ◌∷◌, length, codes}
use Rattle.std.specs.List.{filter, list_any, range_with_len}
use Rattle.std.specs.Str.{bytes_eq}
use Rattle.xml_doc.specs.Fields.{attribute_rows}
use Rattle.xml_doc.specs.Kinds.{is_element}
use Rattle.xml_doc.specs.Rows.{RowOf}
use Rattle.xml_doc.specs.Shape.{row_at, xml_name}
use Rattle.xml_doc.specs.declared.ids.IdAnswer.{IdAnswer}
use Rattle.xml_doc.specs.declared.ids.IdAnswer.TheVariants.{One, None, Several}

-- an attribute of that name is an ID: `xml:id` (xml:id 1.0, section 4), and `Id`, `ID` and `id` without a namespace
abbrev pub is_id_name : RowOf → Bool
is_id_name r =
    (bytes_eq r.uri xml_name && bytes_eq r.local_name (codes "id"))
    || (bytes_eq r.uri [] && (bytes_eq r.local_name (codes "Id") || bytes_eq r.local_name (codes "ID")
    || bytes_eq r.local_name (codes "id")))

-- the attribute is an ID, and its value is this one, octet by octet
abbrev pub gives_id : List ℕ → RowOf → Bool
gives_id id r = is_id_name r && bytes_eq r.value id

-- row e is an element that bears this ID: one of its attributes gives it
abbrev pub bears : List RowOf → List ℕ → ℕ → Bool
bears rows id e = is_element (row_at rows e).kind && list_any (λ a. gives_id id (row_at rows a)) (attribute_rows rows e)

-- the elements that bear it, in document order
abbrev pub bearers : List RowOf → List ℕ → List ℕ
bearers rows id = filter (bears rows id) (range_with_len 0 (length rows))

-- none, the only one, or the first two
abbrev pub answer_of : List ℕ → IdAnswer
answer_of [] = None
answer_of (i ∷ []) = One i
answer_of (i ∷ j ∷ more) = Several i j

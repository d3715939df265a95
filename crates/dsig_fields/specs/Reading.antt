-- Reading the children of an element in document order. The first refusal that is met is the answer: a reading is a sequence of
-- steps, each of which takes the children that are left and gives those that are left behind it.
use Rattle.std.specs.Prelude.{◌≡◌, ◌==◌, ◌-◌, ℕ, Bool, false, true, ◌&&◌, List, [], ◌∷◌, Option, Some, None, Result, Ok, Err, if◌then◌else◌, bytes_eq, option_map}
use Rattle.std.specs.List.{find, list_all}
use Rattle.sig_base.specs.Outcomes as outcomes
use Rattle.sig_base.specs.Space.{is_space}
use Rattle.xml_doc.specs.Axes.{axis_rows}
use Rattle.xml_doc.specs.Fields.{attribute_rows}
use Rattle.xml_doc.specs.Kinds.{is_element}
use Rattle.xml_doc.specs.Rows.{RowOf}
use Rattle.xml_doc.specs.Shape.{row_at}
use Rattle.xml_doc.specs.declared.axis.Axis.TheVariants.{Child}
use Rattle.xml_doc.specs.declared.row.Kind.{Kind}
use Rattle.xml_doc.specs.declared.row.Kind.TheVariants.{Root, Element, Namespace, Attribute, Text, Comment, Instruction}
use Rattle.dsig_fields.specs.Names.{local_name, namespace_of}
use Rattle.dsig_fields.specs.declared.names.ElementName.{ElementName}
use Rattle.dsig_fields.specs.declared.refusal.FieldRefusal.{FieldRefusal}
use Rattle.dsig_fields.specs.declared.refusal.FieldRefusal.TheVariants.{Missing, Extra, Memory}

-- a step behind a step, unless the first one is refused
infixl 10 ◌>>=◌
abbrev pub ◌>>=◌ : {A B : Type 0} → Result A FieldRefusal → (A → Result B FieldRefusal) → Result B FieldRefusal
Ok x >>= f = f x
Err refusal >>= f = Err refusal

-- the value, or this refusal where there is none
abbrev pub or_refusal : {A : Type 0} → FieldRefusal → Option A → Result A FieldRefusal
or_refusal refusal (Some x) = Ok x
or_refusal refusal None = Err refusal

-- the value of the attribute of this local name that is in no namespace
abbrev pub is_attribute_named : List RowOf → List ℕ → ℕ → Bool
is_attribute_named rows name y = bytes_eq (row_at rows y).uri [] && bytes_eq (row_at rows y).local_name name

abbrev pub attribute : List RowOf → ℕ → List ℕ → Option (List ℕ)
attribute rows x name = option_map (λ y. (row_at rows y).value) (find (is_attribute_named rows name) (attribute_rows rows x))

-- the children, in document order
abbrev pub children : List RowOf → ℕ → List ℕ
children rows x = axis_rows Child rows x

-- what may stand between elements: a comment, an instruction, and a text of white space alone
abbrev pub passes_over : Kind → List ℕ → Bool
passes_over Root value = false
passes_over Element value = false
passes_over Namespace value = false
passes_over Attribute value = false
passes_over Text value = list_all is_space value
passes_over Comment value = true
passes_over Instruction value = true

abbrev pub is_passed : List RowOf → ℕ → Bool
is_passed rows y = passes_over (row_at rows y).kind (row_at rows y).value

abbrev pub is_element_at : List RowOf → ℕ → Bool
is_element_at rows y = is_element (row_at rows y).kind

-- row y is an element of this name
abbrev pub is_named : List RowOf → ElementName → ℕ → Bool
is_named rows name y =
    is_element_at rows y && bytes_eq (row_at rows y).uri (namespace_of name) && bytes_eq (row_at rows y).local_name (local_name name)

-- the children from the next element on; another child before it is refused, unless it may stand between elements
unfoldable pub passed : List RowOf → List ℕ → Result (List ℕ) FieldRefusal
passed rows [] = Ok []
passed rows (y ∷ rest) =
    if is_element_at rows y then Ok (y ∷ rest) else (if is_passed rows y then passed rows rest else Err (Extra y))

-- the first of these, if it is an element of this name, and those behind it
abbrev pub taken : List RowOf → ElementName → List ℕ → Option (ℕ × List ℕ)
taken rows name [] = None
taken rows name (y ∷ rest) = if is_named rows name y then Some (y, rest) else None

-- an element that has to stand next
unfoldable pub required : List RowOf → ElementName → List ℕ → Result (ℕ × List ℕ) FieldRefusal
required rows name xs = do
  left ← passed rows xs
  or_refusal (Missing name) (taken rows name left)

abbrev pub or_none : List ℕ → Option (ℕ × List ℕ) → Option ℕ × List ℕ
or_none left (Some (y, rest)) = (Some y, rest)
or_none left None = (None, left)

-- an element that may stand next
unfoldable pub optional : List RowOf → ElementName → List ℕ → Result (Option ℕ × List ℕ) FieldRefusal
optional rows name xs = do
  left ← passed rows xs
  Ok (or_none left (taken rows name left))

-- an element that may stand next where the method permits it
abbrev pub optional_if : Bool → List RowOf → ElementName → List ℕ → Result (Option ℕ × List ℕ) FieldRefusal
optional_if true rows name xs = optional rows name xs
optional_if false rows name xs = Ok (None, xs)

abbrev pub none_left : List ℕ → Result Unit FieldRefusal
none_left [] = Ok tt
none_left (y ∷ rest) = Err (Extra y)

-- no element may stand next
unfoldable pub at_end : List RowOf → List ℕ → Result Unit FieldRefusal
at_end rows xs = do
  left ← passed rows xs
  none_left left

-- any number of elements of this name up to `room`, each read in its turn; one more is too many
unfoldable pub many : {A : Type 0} → (too_many : ℕ → FieldRefusal) → List RowOf → ElementName → (ℕ → Result A FieldRefusal) → (room : ℕ)
    → List ℕ → Result (List A × List ℕ) FieldRefusal
many too_many rows name read room [] = Ok ([], [])
many too_many rows name read room (y ∷ rest) =
    if is_named rows name y then (if room == 0 then Err (too_many y) else (do
      first ← read y
      others ← many too_many rows name read (room - 1) rest
      Ok (first ∷ others.0, others.1)))
    else (if is_element_at rows y then Ok ([], y ∷ rest)
    else (if is_passed rows y then many too_many rows name read room rest else Err (Extra y)))

-- one or more elements of this name, at most `limit`
unfoldable pub one_or_more : {A : Type 0} → (too_many : ℕ → FieldRefusal) → List RowOf → ElementName → (ℕ → Result A FieldRefusal)
    → (limit : ℕ) → List ℕ → Result (List A × List ℕ) FieldRefusal
one_or_more too_many rows name read limit xs = do
  first ← required rows name xs
  one ← read first.0
  others ← many too_many rows name read (limit - 1) first.1
  Ok (one ∷ others.0, others.1)

-- the children behind any number of elements of this name, which are passed over whole
unfoldable pub behind_all : List RowOf → ElementName → List ℕ → Result (List ℕ) FieldRefusal
behind_all rows name [] = Ok []
behind_all rows name (y ∷ rest) =
    if is_named rows name y then behind_all rows name rest
    else (if is_element_at rows y then Ok (y ∷ rest)
    else (if is_passed rows y then behind_all rows name rest else Err (Extra y)))

-- an answer is the outcome, unless it is want of memory
abbrev pub Refuses : {A : Type 0} → FieldRefusal → Result A FieldRefusal → Type 0
Refuses Memory outcome = Unit {0}
Refuses refusal outcome = outcome ≡ Err refusal

abbrev pub Gives : {T A : Type 0} → (T → A) → Result T FieldRefusal → Result A FieldRefusal → Type 0
Gives view result outcome = outcomes.Gives Refuses view result outcome

-- the same, and what is left of the children
abbrev pub Reads : {T A : Type 0} → (T → A) → Result T FieldRefusal → List ℕ → Result (A × List ℕ) FieldRefusal → Type 0
Reads view result left outcome = Gives (λ x. (view x, left)) result outcome

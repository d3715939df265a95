use Rattle.std.specs.Prelude.{ℕ, List, ◌++◌, Option, Some, None, Result, Ok, if◌then◌else◌}
use Rattle.std.specs.Option.{option_or}
use Rattle.std.specs.Str.{chars}
use Rattle.xml_doc.specs.Rows.{RowOf}
use Rattle.dsig_fields.specs.Fields.{first_of}
use Rattle.dsig_fields.specs.Reading.{◌>>=◌, is_named}
use Rattle.dsig_fields.specs.Simple.{simple_text}
use Rattle.dsig_fields.specs.declared.names.ElementName.TheVariants as element
use Rattle.dsig_fields.specs.declared.refusal.FieldRefusal.{FieldRefusal}

-- what is read of the children, behind what was read before
abbrev pub with_front : {A : Type 0} → List A → Result (List A × List ℕ) FieldRefusal → Result (List A × List ℕ) FieldRefusal
with_front {A} front outcome = ◌>>=◌ {B = List A × List ℕ} outcome (λ more. Ok (front ++ more.0, more.1))

-- the content of a KeyName; another element says nothing
abbrev pub name_at : List RowOf → ℕ → Result (Option (List ℕ)) FieldRefusal
name_at rows y = if is_named rows element.KeyName y then (do
  text ← simple_text rows y
  Ok (Some (chars text)))
    else Ok None

-- the first of the names, those that were read before among them
abbrev pub first_behind : Option (List ℕ) → Result (List (List ℕ)) FieldRefusal → Result (Option (List ℕ)) FieldRefusal
first_behind first outcome = do
  names ← outcome
  Ok (option_or first (first_of names))

-- What holds of a step, and of an element by its name.
use Rattle.std.proofs.Common.{◌≡◌, ℕ, ◌<◌, Bool, true, false, inl, inr, List, length, refl}
use Rattle.std.specs.Prelude.{Result, Ok, Err, ◌&&◌, IfOk}
use Rattle.std.proofs.lemmas.Bool.{cases_lt, false≢true}
use Rattle.std.proofs.lemmas.List.{get_or_past}
use Rattle.xml_doc.specs.Rows.{RowOf}
use Rattle.xml_doc.specs.Shape.{row_at, no_row}
use Rattle.dsig_fields.specs.Fits.{IsElement}
use Rattle.dsig_fields.specs.Reading.{◌>>=◌, is_named, is_element_at}
use Rattle.dsig_fields.specs.declared.names.ElementName.{ElementName}
use Rattle.dsig_fields.specs.declared.refusal.FieldRefusal.{FieldRefusal}

-- ---- steps
-- what a step gives decides what the next one gives
pub then_fits : {A B : Type 0} (P : A → Type 0) (Q : B → Type 0) (outcome : Result A FieldRefusal) (f : A → Result B FieldRefusal) → IfOk outcome P → ((x : A) → P x → IfOk (f x) Q) → IfOk (outcome >>= f) Q
then_fits P Q (Ok x) f p next = next x p
then_fits P Q (Err refusal) f p next = tt

-- whatever a step gives
pub in_any_case : {A B : Type 0} (Q : B → Type 0) (outcome : Result A FieldRefusal) (f : A → Result B FieldRefusal) → ((x : A) → IfOk (f x) Q) → IfOk (outcome >>= f) Q
in_any_case Q (Ok x) f next = next x
in_any_case Q (Err refusal) f next = tt

-- ---- elements
pub element_within : (rows : List RowOf) (y : ℕ) → is_element_at rows y ≡ true → y < length rows
element_within rows y e = elim (cases_lt y (length rows)) [
  | inl h ↦ h
  | inr h ↦ let past : row_at rows y ≡ no_row = get_or_past rows y no_row h in absurd (false≢true (rw past at e))
]

first_holds : (a b c : Bool) → (a && b && c) ≡ true → a ≡ true
first_holds true b c h = refl
first_holds false b c h = h

pub named_fits : (rows : List RowOf) (name : ElementName) (y : ℕ) → is_named rows name y ≡ true → IsElement rows y
named_fits rows name y n =
    let e : is_element_at rows y ≡ true = first_holds (is_element_at rows y) _ _ n in
    record { within = element_within rows y e; element = e }

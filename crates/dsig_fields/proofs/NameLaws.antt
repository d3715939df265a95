-- The first KeyName among the children of a KeyInfo.
use Rattle.std.proofs.Common.{◌≡◌, ℕ, List, [], ◌∷◌, refl, sym, ap}
use Rattle.std.specs.Prelude.{Option, Some, None, Result, Ok, Err}
use Rattle.std.specs.Option.{option_or}
use Rattle.std.specs.Str.{chars}
use Rattle.xml_doc.specs.Rows.{RowOf}
use Rattle.dsig_fields.specs.Cursor.{any_element}
use Rattle.dsig_fields.specs.Code.Cursor.{name_at, first_behind}
use Rattle.dsig_fields.specs.Fields.{key_info, key_names, first_of}
use Rattle.dsig_fields.specs.Reading.{◌>>=◌, children, passed, Refuses}
use Rattle.dsig_fields.specs.Simple.{simple_text}
use Rattle.dsig_fields.specs.declared.names.ElementName.TheVariants.{KeyName}
use Rattle.dsig_fields.specs.declared.refusal.FieldRefusal.{FieldRefusal}
use Rattle.dsig_fields.proofs.NextLaws.{by_cases}
use Rattle.dsig_fields.proofs.Refusals.{bind_refused}

pub first_or_none : {A : Type 0} (first : Option A) → option_or first None ≡ first
first_or_none (Some x) = refl
first_or_none None = refl

or_later : {A : Type 0} (first name later : Option A) → option_or (option_or first name) later ≡ option_or first (option_or name later)
or_later (Some x) name later = refl
or_later None name later = refl

pub key_info_is : (rows : List RowOf) (x : ℕ) → key_info rows x ≡ first_behind None (key_names rows (children rows x))
unfolding key_info
key_info_is rows x = refl

-- a KeyName, and what stands behind it
named : (first : Option (List ℕ)) (text : Result (List ℕ) FieldRefusal) (others : Result (List (List ℕ)) FieldRefusal)
    → first_behind first (text >>= (λ t. others >>= (λ o. Ok (t ∷ o)))) ≡ ((text >>= (λ t. Ok (Some (chars t)))) >>= (λ name. first_behind (option_or first name) others))
named first (Ok t) (Ok o) = ap Ok (sym (or_later first (Some (chars t)) (first_of o)))
named first (Ok t) (Err refusal) = refl
named first (Err refusal) others = refl

-- what comes behind the first try to go to an element
abbrev pub after : List RowOf → Option (List ℕ) → Option ℕ × List ℕ → Result (Option (List ℕ)) FieldRefusal
after rows first (Some y, left) = name_at rows y >>= (λ name. first_behind (option_or first name) (key_names rows left))
after rows first (None, left) = Ok first

pub names_are : (rows : List RowOf) (first : Option (List ℕ)) (xs : List ℕ) → first_behind first (key_names rows xs) ≡ (any_element rows xs >>= after rows first)
unfolding key_names any_element passed
names_are rows first [] = ap Ok (first_or_none first)
names_are rows first (y ∷ rest) = by_cases rows KeyName y
    (λ e n. rw (e, n, e, n) (named first (simple_text rows y) (key_names rows rest)))
    (λ e n. rw (e, n, e, n) (rw (first_or_none first) refl))
    (λ e p. rw (e, p) (names_are rows first rest))
    (λ e p. rw (e, p) refl)

pub next_refused : (rows : List RowOf) (first : Option (List ℕ)) (refusal : FieldRefusal) (xs : List ℕ) → Refuses refusal (any_element rows xs) → Refuses refusal (first_behind first (key_names rows xs))
next_refused rows first refusal xs r = rw (names_are rows first xs) (bind_refused refusal (any_element rows xs) (after rows first) r)

pub name_refused : (rows : List RowOf) (first : Option (List ℕ)) (refusal : FieldRefusal) (xs left : List ℕ) (y : ℕ) → any_element rows xs ≡ Ok (Some y, left) → Refuses refusal (name_at rows y) → Refuses refusal (first_behind first (key_names rows xs))
name_refused rows first refusal xs left y a r = rw (names_are rows first xs, a) (bind_refused refusal (name_at rows y) _ r)

pub turn : (rows : List RowOf) (first name : Option (List ℕ)) (xs left : List ℕ) (y : ℕ) → any_element rows xs ≡ Ok (Some y, left) → name_at rows y ≡ Ok name → first_behind (option_or first name) (key_names rows left) ≡ first_behind first (key_names rows xs)
turn rows first name xs left y a n = rw (names_are rows first xs, a, n) refl

pub last : (rows : List RowOf) (first : Option (List ℕ)) (xs left : List ℕ) → any_element rows xs ≡ Ok (None, left) → first_behind first (key_names rows xs) ≡ Ok first
last rows first xs left a = rw (names_are rows first xs, a) refl

-- The next element among the children that are left.
use Rattle.std.proofs.Common.{◌≡◌, ℕ, suc, ◌<◌, ◌≤◌, Bool, true, false, List, [], ◌∷◌, length, drop, refl, sym, ap, ◌∙◌, arith}
use Rattle.std.specs.Prelude.{Option, Some, None, Result, Ok, Err, ◌&&◌, bytes_eq, slice_get}
use Rattle.std.proofs.lemmas.Option.{get_or_from_slice_get, unwrap_or-slice_get}
use Rattle.std.specs.Option.{unwrap_or}
use Rattle.xml_doc.specs.Kinds.{is_element}
use Rattle.xml_doc.specs.Rows.{RowOf}
use Rattle.xml_doc.specs.Shape.{row_at, no_row}
use Rattle.dsig_fields.specs.Cursor.{any_element, parted, next_of}
use Rattle.dsig_fields.specs.Names.{local_name, namespace_of}
use Rattle.dsig_fields.specs.Reading.{◌>>=◌, passed, passes_over, or_none, taken, optional, is_element_at, is_passed, is_named}
use Rattle.dsig_fields.specs.declared.names.ElementName.{ElementName}
use Rattle.dsig_fields.specs.declared.refusal.FieldRefusal.{FieldRefusal}
use Rattle.dsig_fields.specs.declared.refusal.FieldRefusal.TheVariants.{Extra}

-- a row has that name, whatever its kind
abbrev pub bears : List RowOf → ElementName → ℕ → Bool
bears rows name y = bytes_eq (row_at rows y).uri (namespace_of name) && bytes_eq (row_at rows y).local_name (local_name name)

-- a child is an element of that name or of another, or may stand between elements or not
pub by_cases : {P : Type 0} (rows : List RowOf) (name : ElementName) (y : ℕ)
    → (is_element_at rows y ≡ true → bears rows name y ≡ true → P)
    → (is_element_at rows y ≡ true → bears rows name y ≡ false → P)
    → (is_element_at rows y ≡ false → is_passed rows y ≡ true → P)
    → (is_element_at rows y ≡ false → is_passed rows y ≡ false → P)
    → P
by_cases {P} rows name y named other passed refused = go (is_element_at rows y) (bears rows name y) (is_passed rows y) refl refl refl
  where
    go : (e n p : Bool) → is_element_at rows y ≡ e → bears rows name y ≡ n → is_passed rows y ≡ p → P
    go true true p e n q = named e n
    go true false p e n q = other e n
    go false n true e m q = passed e q
    go false n false e m q = refused e q

-- the row that a document gives of a number
seen : (rows : List RowOf) (y : ℕ) (r : RowOf) → Some r ≡ slice_get rows y → row_at rows y ≡ r
seen rows y r h = get_or_from_slice_get rows y r no_row (sym h)

pub passed_element : (rows : List RowOf) (xs : List ℕ) (y : ℕ) (r : RowOf) → next_of xs ≡ Some y → Some r ≡ slice_get rows y → is_element r.kind ≡ true → passed rows xs ≡ Ok xs
unfolding passed
passed_element rows [] y r h s e = refl
passed_element rows (z ∷ rest) y r h s e = let same : z ≡ y = cc in rw (same, seen rows y r s, e) refl

pub passed_over : (rows : List RowOf) (xs : List ℕ) (y : ℕ) (r : RowOf) → next_of xs ≡ Some y → Some r ≡ slice_get rows y → is_element r.kind ≡ false → passes_over r.kind r.value ≡ true → passed rows (drop 1 xs) ≡ passed rows xs
unfolding passed
passed_over rows [] y r h s e p = refl
passed_over rows (z ∷ rest) y r h s e p = let same : z ≡ y = cc in rw (same, seen rows y r s, e, p) refl

pub passed_refused : (rows : List RowOf) (xs : List ℕ) (y : ℕ) (r : RowOf) → next_of xs ≡ Some y → Some r ≡ slice_get rows y → is_element r.kind ≡ false → passes_over r.kind r.value ≡ false → passed rows xs ≡ Err (Extra y)
unfolding passed
passed_refused rows [] y r h s e p = cc
passed_refused rows (z ∷ rest) y r h s e p = let same : z ≡ y = cc in rw (same, seen rows y r s, e, p) refl

-- no row has that number
pub passed_no_row : (rows : List RowOf) (xs : List ℕ) (y : ℕ) → next_of xs ≡ Some y → None ≡ slice_get rows y → passed rows xs ≡ Err (Extra y)
unfolding passed
passed_no_row rows [] y h s = cc
passed_no_row rows (z ∷ rest) y h s =
    let same : z ≡ y = cc in
    let past : row_at rows y ≡ no_row = sym (unwrap_or-slice_get rows y no_row) ∙ ap (λ (o : Option RowOf). unwrap_or o no_row) (sym s) in
    rw (same, past) refl

pub passed_none : (rows : List RowOf) (xs : List ℕ) → next_of xs ≡ None → passed rows xs ≡ Ok xs
unfolding passed
passed_none rows [] h = refl
passed_none rows (z ∷ rest) h = cc

-- what is left is no more than there was
pub passed_shorter : (rows : List RowOf) (xs left : List ℕ) → passed rows xs ≡ Ok left → length left ≤ length xs
unfolding passed
passed_shorter rows [] left h = let is : [] ≡ left = cc in rw (← is) (omega arith)
passed_shorter rows (y ∷ rest) left h = go (is_element_at rows y) (is_passed rows y) (passed_shorter rows rest left) refl refl
  where
    go : (e p : Bool) → (passed rows rest ≡ Ok left → length left ≤ length rest) → is_element_at rows y ≡ e → is_passed rows y ≡ p → length left ≤ suc (length rest)
    go true p shorter e q = let said = rw e at h in let is : y ∷ rest ≡ left = cc said in rw (← is) (omega arith)
    go false true shorter e q = let said = rw (e, q) at h in omega (arith, shorter said)
    go false false shorter e q = let said = rw (e, q) at h in absurd (cc said)

abbrev pub picked : Result (Option ℕ × List ℕ) FieldRefusal → Option ℕ
picked (Ok p) = p.0
picked (Err refusal) = None

abbrev pub what_is_left : Result (Option ℕ × List ℕ) FieldRefusal → List ℕ
what_is_left (Ok p) = p.1
what_is_left (Err refusal) = []

-- a call that reads an element takes at least that one
pub optional_shorter : (rows : List RowOf) (name : ElementName) (xs left : List ℕ) (y : ℕ) → optional rows name xs ≡ Ok (Some y, left) → length left < length xs
unfolding optional
optional_shorter rows name xs left y h = go (passed rows xs) (passed_shorter rows xs) h
  where
    go : (o : Result (List ℕ) FieldRefusal) → ((l : List ℕ) → o ≡ Ok l → length l ≤ length xs) → (o >>= (λ l. Ok (or_none l (taken rows name l)))) ≡ Ok (Some y, left) → length left < length xs
    go (Ok []) s e = let wrong : None ≡ Some y = ap picked e in absurd (cc)
    go (Ok (z ∷ rest)) s e = elim (is_named rows name z) as (λ b. is_named rows name z ≡ b → length left < length xs) [
      | true ↦ λ n. let is : rest ≡ left = ap what_is_left (rw n at e) in rw (← is) (omega (arith, s (z ∷ rest) refl))
      | false ↦ λ n. let wrong : None ≡ Some y = ap picked (rw n at e) in absurd (cc)
    ] refl
    go (Err refusal) s e = let wrong : None ≡ Some y = ap picked e in absurd (cc)

pub any_shorter : (rows : List RowOf) (xs left : List ℕ) (y : ℕ) → any_element rows xs ≡ Ok (Some y, left) → length left < length xs
unfolding any_element
any_shorter rows xs left y h = go (passed rows xs) (passed_shorter rows xs) h
  where
    go : (o : Result (List ℕ) FieldRefusal) → ((l : List ℕ) → o ≡ Ok l → length l ≤ length xs) → (o >>= (λ l. Ok (parted l))) ≡ Ok (Some y, left) → length left < length xs
    go (Ok []) s e = let wrong : None ≡ Some y = ap picked e in absurd (cc)
    go (Ok (z ∷ rest)) s e = let is : rest ≡ left = ap what_is_left e in rw (← is) (omega (arith, s (z ∷ rest) refl))
    go (Err refusal) s e = let wrong : None ≡ Some y = ap picked e in absurd (cc)

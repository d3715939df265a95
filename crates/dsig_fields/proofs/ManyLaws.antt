-- Elements of one name that stand side by side.
use Rattle.std.proofs.Common.{◌≡◌, ℕ, ◌<◌, ◌-◌, ◌==◌, true, false, List, [], ◌∷◌, ◌++◌, length, refl, ap, append_assoc, append-nil}
use Rattle.std.specs.Prelude.{Option, Some, None, Result, Ok, Err, if◌then◌else◌}
use Rattle.std.specs.Option.{is_some}
use Rattle.xml_doc.specs.Rows.{RowOf}
use Rattle.dsig_fields.specs.Code.Cursor.{with_front}
use Rattle.dsig_fields.specs.Reading.{◌>>=◌, passed, optional, many, behind_all, Refuses}
use Rattle.dsig_fields.specs.declared.names.ElementName.{ElementName}
use Rattle.dsig_fields.specs.declared.refusal.FieldRefusal.{FieldRefusal}
use Rattle.dsig_fields.proofs.NextLaws.{by_cases, optional_shorter}
use Rattle.dsig_fields.proofs.Refusals.{bind_refused}

-- ---- elements that are read, each in its turn
front_more : {A : Type 0} (front : List A) (first : A) (o : Result (List A × List ℕ) FieldRefusal) → with_front (front ++ first ∷ []) o ≡ with_front front (o >>= (λ others. Ok (first ∷ others.0, others.1)))
front_more {A} front first (Ok others) = ap (λ (t : List A). Ok (t, others.1)) (append_assoc front (first ∷ []) others.0)
front_more {A} front first (Err refusal) = refl

module _ {A : Type 0} (too_many : ℕ → FieldRefusal) (rows : List RowOf) (name : ElementName) (read : ℕ → Result A FieldRefusal) where
  -- one that was read, before the others
  abbrev pub before_others : ℕ → List ℕ → A → Result (List A × List ℕ) FieldRefusal
  before_others room left first = ◌>>=◌ {B = List A × List ℕ} (many too_many rows name read room left) (λ others. Ok (first ∷ others.0, others.1))

  -- what comes behind the first try to read one
  abbrev pub after : ℕ → Option ℕ × List ℕ → Result (List A × List ℕ) FieldRefusal
  after room (Some y, left) = if room == 0 then Err (too_many y) else (read y >>= before_others (room - 1) left)
  after room (None, left) = Ok ([], left)

  pub many_is : (room : ℕ) (xs : List ℕ) → many too_many rows name read room xs ≡ (optional rows name xs >>= after room)
  unfolding many optional passed
  many_is room [] = refl
  many_is room (y ∷ rest) = by_cases rows name y (λ e n. rw (e, n, e, n) refl) (λ e n. rw (e, n, e, n) refl) (λ e p. rw (e, p) (many_is room rest)) (λ e p. rw (e, p) refl)

  module _ (room : ℕ) (front : List A) (xs : List ℕ) where
    -- what stands next is refused
    pub next_refused : (refusal : FieldRefusal) → Refuses refusal (optional rows name xs) → Refuses refusal (with_front front (many too_many rows name read room xs))
    next_refused refusal r = rw (many_is room xs) (bind_refused refusal (optional rows name xs >>= after room) _ (bind_refused refusal (optional rows name xs) (after room) r))

    -- none more stands next
    pub last : (left : List ℕ) → optional rows name xs ≡ Ok (None, left) → with_front front (many too_many rows name read room xs) ≡ Ok (front, left)
    last left o = rw (many_is room xs, o) (ap (λ (t : List A). Ok (t, left)) (append-nil front))

    module _ (left : List ℕ) (y : ℕ) (o : optional rows name xs ≡ Ok (Some y, left)) where
      -- there is no room for one more
      pub no_room : room == 0 ≡ true → with_front front (many too_many rows name read room xs) ≡ Err (too_many y)
      no_room none = rw (many_is room xs, o, none) refl

      -- one more is refused by its reader
      pub turn_refused : room == 0 ≡ false → (refusal : FieldRefusal) → Refuses refusal (read y) → Refuses refusal (with_front front (many too_many rows name read room xs))
      turn_refused some refusal r = rw (many_is room xs, o, some) (bind_refused refusal (read y >>= before_others (room - 1) left) _ (bind_refused refusal (read y) (before_others (room - 1) left) r))

      -- one more is read
      pub turn : room == 0 ≡ false → (first : A) → read y ≡ Ok first → with_front (front ++ first ∷ []) (many too_many rows name read (room - 1) left) ≡ with_front front (many too_many rows name read room xs)
      turn some first t = rw (many_is room xs, o, some, t) (front_more front first (many too_many rows name read (room - 1) left))

-- ---- elements that are passed over whole
module _ (rows : List RowOf) (name : ElementName) where
  abbrev behind : Option ℕ × List ℕ → Result (List ℕ) FieldRefusal
  behind (Some y, left) = behind_all rows name left
  behind (None, left) = Ok left

  behind_all_is : (xs : List ℕ) → behind_all rows name xs ≡ (optional rows name xs >>= behind)
  unfolding behind_all optional passed
  behind_all_is [] = refl
  behind_all_is (y ∷ rest) = by_cases rows name y (λ e n. rw (e, n, e, n) refl) (λ e n. rw (e, n, e, n) refl) (λ e p. rw (e, p) (behind_all_is rest)) (λ e p. rw (e, p) refl)

  pub behind_refused : (refusal : FieldRefusal) (xs : List ℕ) → Refuses refusal (optional rows name xs) → Refuses refusal (behind_all rows name xs)
  behind_refused refusal xs r = rw (behind_all_is xs) (bind_refused refusal (optional rows name xs) behind r)

  pub one_passed : (xs left : List ℕ) (one : Option ℕ) → is_some one ≡ true → optional rows name xs ≡ Ok (one, left) → behind_all rows name left ≡ behind_all rows name xs
  one_passed xs left (Some y) some o = rw (behind_all_is xs, o) refl
  one_passed xs left None some o = absurd (cc some)

  pub one_less : (xs left : List ℕ) (one : Option ℕ) → is_some one ≡ true → optional rows name xs ≡ Ok (one, left) → length left < length xs
  one_less xs left (Some y) some o = optional_shorter rows name xs left y o
  one_less xs left None some o = absurd (cc some)

  pub none_passed : (xs left : List ℕ) (one : Option ℕ) → is_some one ≡ false → optional rows name xs ≡ Ok (one, left) → behind_all rows name xs ≡ Ok left
  none_passed xs left (Some y) none o = absurd (cc none)
  none_passed xs left None none o = rw (behind_all_is xs, o) refl

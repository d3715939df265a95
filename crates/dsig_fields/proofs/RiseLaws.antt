-- The rows that are read from a signature stand in document order.
use Rattle.std.proofs.Common.{◌≡◌, ℕ, zero, suc, ◌+◌, ◌-◌, ◌<◌, ◌≤◌, ◌==◌, ◌&&◌, Bool, true, false, not, cond, if◌then◌else◌, eqb, nat_lt, inl, inr, List, [], ◌∷◌, length, map, refl, sym, ap, subst, arith}
use Rattle.std.specs.Prelude.{Option, Some, None, Ok, Err, IfOk, codes}
use Rattle.std.specs.List.{All, filter, range_with_len}
use Rattle.std.proofs.lemmas.Bool.{cases_lt, eqb-true, and_parts, ltb-true, false≢true}
use Rattle.std.proofs.lemmas.List.{get_or_past}
use Rattle.std.proofs.lemmas.List.Elements.{All-cons, All-nil}
use Rattle.xml_doc.specs.Axes.{is_child}
use Rattle.xml_doc.specs.Kinds.{is_element, is_field}
use Rattle.xml_doc.specs.Rows.{RowOf}
use Rattle.xml_doc.specs.Shape.{row_at, no_row, IsWellShaped}
use Rattle.xml_doc.specs.declared.row.Kind.{Kind}
use Rattle.xml_doc.specs.declared.row.Kind.TheVariants as kind
use Rattle.dsig_fields.specs.Fields.{canonicalization_method, signature_method, digest_method, transforms_if, key_info_if, reference, info_fields, fields_of}
use Rattle.dsig_fields.specs.Fits.{Rises}
use Rattle.dsig_fields.specs.Reading.{◌>>=◌, or_refusal, or_none, attribute, children, passed, taken, required, optional, behind_all, many, one_or_more, at_end, is_named, is_element_at, is_passed}
use Rattle.dsig_fields.specs.Simple.{simple_octets}
use Rattle.dsig_fields.specs.declared.names.ElementName.{ElementName}
use Rattle.dsig_fields.specs.declared.names.ElementName.TheVariants as names
use Rattle.dsig_fields.specs.declared.refusal.FieldRefusal.TheVariants.{Extra, Missing, NoUri, TooManyReferences}
use Rattle.dsig_fields.specs.declared.fields.Reference.{Reference}
use Rattle.dsig_fields.specs.declared.fields.Fields.{Fields}
use Rattle.dsig_fields.proofs.Steps.{then_fits, in_any_case, named_fits}

-- the Reference is that of row y, and its DigestValue lies in it
pub record IsIn (rows : List RowOf) (y : ℕ) (r : Reference) : Type 0 where
  pub row : r.row ≡ y
  pub below : y < r.digest_row
  pub inside : r.digest_row ≤ (row_at rows y).last
  pub named : is_named rows names.DigestValue r.digest_row ≡ true

-- they stand one behind the other, from this row on, and their subtrees end at row `end` or before
abbrev pub Follow : List RowOf → ℕ → ℕ → List Reference → Type 0
Follow rows from end [] = Unit {0}
Follow rows from end (r ∷ rs) = (from ≤ r.row) × IsIn rows r.row r × ((row_at rows r.row).last ≤ end) × Follow rows ((row_at rows r.row).last + 1) end rs

-- SignedInfo and SignatureValue are children of the Signature, this one behind all that is in that one
pub record Rise (rows : List RowOf) (x : ℕ) (fields : Fields) : Type 0 where
  pub signed_info : is_child rows x fields.signed_info ≡ true
  pub value_row : is_child rows x fields.value_row ≡ true
  pub named : is_named rows names.SignatureValue fields.value_row ≡ true
  pub apart : (row_at rows fields.signed_info).last < fields.value_row
  pub references : Follow rows (fields.signed_info + 1) (row_at rows fields.signed_info).last fields.references

module _ (rows : List RowOf) (shape : IsWellShaped rows) where
  -- children of x in document order, from this row on
  abbrev Kids : ℕ → ℕ → List ℕ → Type 0
  Kids x from [] = Unit {0}
  Kids x from (y ∷ ys) = (from ≤ y) × (is_child rows x y ≡ true) × Kids x (y + 1) ys

  kids_from : (x a b : ℕ) (ys : List ℕ) → a ≤ b → Kids x b ys → Kids x a ys
  kids_from x a b [] le h = tt
  kids_from x a b (y ∷ ys) le h = (omega (arith, le, h.0), h.1, h.2)

  kids_range : (x a n : ℕ) → Kids x a (filter (is_child rows x) (range_with_len a n))
  kids_range x a zero = tt
  kids_range x a (suc n) = go (is_child rows x a) refl (kids_range x (a + 1) n)
    where
      go : (b : Bool) → is_child rows x a ≡ b → Kids x (a + 1) (filter (is_child rows x) (range_with_len (a + 1) n)) → Kids x a (cond b (a ∷ filter (is_child rows x) (range_with_len (a + 1) n)) (filter (is_child rows x) (range_with_len (a + 1) n)))
      go true e rest = (omega arith, e, rest)
      go false e rest = kids_from x a (a + 1) (filter (is_child rows x) (range_with_len (a + 1) n)) (omega arith) rest

  kids_of : (x : ℕ) → Kids x 0 (children rows x)
  kids_of x = kids_range x 0 (length rows)

  pub parent_is : (x y : ℕ) → is_child rows x y ≡ true → (row_at rows y).parent ≡ x
  parent_is x y e = eqb-true (row_at rows y).parent x (and_parts (nat_lt 0 y) (eqb (row_at rows y).parent x) (and_parts (nat_lt 0 y && eqb (row_at rows y).parent x) (not (is_field (row_at rows y).kind)) e).0).1

  child_behind_zero : (x y : ℕ) → is_child rows x y ≡ true → 0 < y
  child_behind_zero x y e = ltb-true 0 y (and_parts (nat_lt 0 y) (eqb (row_at rows y).parent x) (and_parts (nat_lt 0 y && eqb (row_at rows y).parent x) (not (is_field (row_at rows y).kind)) e).0).0

  child_within : (x y : ℕ) → 0 < x → is_child rows x y ≡ true → y < length rows
  child_within x y pos e = elim (cases_lt y (length rows)) [
    | inl lt ↦ lt
    | inr le ↦ let up = parent_is x y e in let none : (row_at rows y).parent ≡ 0 = ap (λ (r : RowOf). r.parent) (get_or_past rows y no_row le) in omega (arith, up, none, pos)
  ]

  -- a child of x lies in it
  pub child_in : (x y : ℕ) → 0 < x → is_child rows x y ≡ true → (x < y) × (y ≤ (row_at rows y).last) × ((row_at rows y).last ≤ (row_at rows x).last)
  child_in x y pos e =
      let lt = child_within x y pos e in
      let up = parent_is x y e in
      let before = shape.nesting.parent_before y (child_behind_zero x y e) lt in
      let within = shape.nesting.last_within y lt in
      let same : (row_at rows (row_at rows y).parent).last ≡ (row_at rows x).last = ap (λ k. (row_at rows k).last) up in
      (omega (arith, up, before), shape.nesting.last_from y lt, omega (arith, within, same))

  -- the next child stands behind the subtree of one
  kids_behind : (x y : ℕ) (ys : List ℕ) → 0 < x → is_child rows x y ≡ true → Kids x (y + 1) ys → Kids x ((row_at rows y).last + 1) ys
  kids_behind x y [] pos e h = tt
  kids_behind x y (z ∷ ys) pos e h =
      let lt = child_within x z pos h.1 in
      let up = parent_is x z h.1 in
      let inside = child_in x y pos e in
      let gone = shape.nesting.ended z y lt (omega (arith, up, inside.0)) (omega (arith, h.0)) in
      (omega (arith, gone), h.1, h.2)

  passed_kids : (x from : ℕ) (xs : List ℕ) → Kids x from xs → IfOk (passed rows xs) (Kids x from)
  unfolding passed
  passed_kids x from [] h = tt
  passed_kids x from (y ∷ ys) h = go (is_element_at rows y) (is_passed rows y) (passed_kids x from ys (kids_from x from (y + 1) ys (omega (arith, h.0)) h.2))
    where
      go : (e p : Bool) → IfOk (passed rows ys) (Kids x from) → IfOk (if e then Ok (y ∷ ys) else (if p then passed rows ys else Err (Extra y))) (Kids x from)
      go true p rest = h
      go false true rest = rest
      go false false rest = tt

  abbrev Took : ℕ → ℕ → ElementName → (ℕ × List ℕ) → Type 0
  Took x from name p = (from ≤ p.0) × (is_child rows x p.0 ≡ true) × (is_named rows name p.0 ≡ true) × Kids x (p.0 + 1) p.1

  required_kids : (x from : ℕ) (name : ElementName) (xs : List ℕ) → Kids x from xs → IfOk (required rows name xs) (Took x from name)
  unfolding required
  required_kids x from name xs h = then_fits (Kids x from) (Took x from name) (passed rows xs) _ (passed_kids x from xs h) first
    where
      first : (left : List ℕ) → Kids x from left → IfOk (or_refusal (Missing name) (taken rows name left)) (Took x from name)
      first [] k = tt
      first (y ∷ ys) k = go (is_named rows name y) refl
        where
          go : (b : Bool) → is_named rows name y ≡ b → IfOk (or_refusal (Missing name) (if b then Some (y, ys) else None)) (Took x from name)
          go true e = (k.0, k.1, e, k.2)
          go false e = tt

  optional_kids : (x from : ℕ) (name : ElementName) (xs : List ℕ) → Kids x from xs → IfOk (optional rows name xs) (λ p. Kids x from p.1)
  unfolding optional
  optional_kids x from name xs h = then_fits (Kids x from) (λ (p : Option ℕ × List ℕ). Kids x from p.1) (passed rows xs) _ (passed_kids x from xs h) first
    where
      first : (left : List ℕ) → Kids x from left → Kids x from (or_none left (taken rows name left)).1
      first [] k = tt
      first (y ∷ ys) k = go (is_named rows name y)
        where
          go : (b : Bool) → Kids x from (or_none (y ∷ ys) (if b then Some (y, ys) else None)).1
          go true = kids_from x from (y + 1) ys (omega (arith, k.0)) k.2
          go false = k

  reference_in : (y : ℕ) → 0 < y → IfOk (reference rows y) (IsIn rows y)
  unfolding reference
  reference_in y pos =
      let Q = IsIn rows y in
      in_any_case Q (or_refusal (NoUri y) (attribute rows y (codes "URI"))) _ (λ uri.
      then_fits (λ (p : Option ℕ × List ℕ). Kids y 0 p.1) Q (optional rows names.Transforms (children rows y)) _ (optional_kids y 0 names.Transforms (children rows y) (kids_of y)) (λ before kids.
      in_any_case Q (transforms_if rows before.0) _ (λ steps.
      then_fits (Took y 0 names.DigestMethod) Q (required rows names.DigestMethod before.1) _ (required_kids y 0 names.DigestMethod before.1 kids) (λ method m.
      in_any_case Q (digest_method rows method.0) _ (λ digest.
      then_fits (Took y (method.0 + 1) names.DigestValue) Q (required rows names.DigestValue method.1) _ (required_kids y (method.0 + 1) names.DigestValue method.1 m.3) (λ value v.
      in_any_case Q (simple_octets rows value.0) _ (λ expected. in_any_case Q (at_end rows value.1) _ (λ nothing.
      let lies = child_in y value.0 pos v.1 in record { row = refl; below = lies.0; inside = omega (arith, lies.1, lies.2); named = v.2 }))))))))

  abbrev Refs : ℕ → ℕ → List Reference → Type 0
  Refs = Follow rows

  refs_from : (a b end : ℕ) (rs : List Reference) → a ≤ b → Refs b end rs → Refs a end rs
  refs_from a b end [] le h = tt
  refs_from a b end (r ∷ rs) le h = (omega (arith, le, h.0), h.1, h.2, h.3)

  first_ref : (x from y : ℕ) (r : Reference) (rs : List Reference) → 0 < x → from ≤ y → is_child rows x y ≡ true → IsIn rows y r → Refs ((row_at rows y).last + 1) (row_at rows x).last rs → Refs from (row_at rows x).last (r ∷ rs)
  first_ref x from y r rs pos le child is rest =
      let P : ℕ → Type 0 = λ z. (from ≤ z) × IsIn rows z r × ((row_at rows z).last ≤ (row_at rows x).last) × Refs ((row_at rows z).last + 1) (row_at rows x).last rs in
      subst P (sym is.row) (le, is, (child_in x y pos child).2, rest)

  many_refs : (x from room : ℕ) (xs : List ℕ) → 0 < x → Kids x from xs → IfOk (many (λ y. TooManyReferences) rows names.Reference (reference rows) room xs) (λ p. Refs from (row_at rows x).last p.0)
  unfolding many
  many_refs x from room [] pos h = tt
  many_refs x from room (y ∷ ys) pos h =
      go (is_named rows names.Reference y) (room == 0) (is_element_at rows y) (is_passed rows y)
      (many_refs x from room ys pos (kids_from x from (y + 1) ys (omega (arith, h.0)) h.2)) (many_refs x ((row_at rows y).last + 1) (room - 1) ys pos (kids_behind x y ys pos h.1 h.2))
    where
      go : (n none e p : Bool)
          → IfOk (many (λ z. TooManyReferences) rows names.Reference (reference rows) room ys) (λ q. Refs from (row_at rows x).last q.0)
          → IfOk (many (λ z. TooManyReferences) rows names.Reference (reference rows) (room - 1) ys) (λ q. Refs ((row_at rows y).last + 1) (row_at rows x).last q.0)
          → IfOk (if n then (if none then Err TooManyReferences else (reference rows y >>= (λ first. many (λ z. TooManyReferences) rows names.Reference (reference rows) (room - 1) ys >>= (λ o. Ok (first ∷ o.0, o.1))))) else (if e then Ok ([], y ∷ ys) else (if p then many (λ z. TooManyReferences) rows names.Reference (reference rows) room ys else Err (Extra y)))) (λ q. Refs from (row_at rows x).last q.0)
      go true true e p same less = tt
      go true false e p same less =
          then_fits (IsIn rows y) (λ (q : List Reference × List ℕ). Refs from (row_at rows x).last q.0) (reference rows y) _ (reference_in y (child_behind_zero x y h.1)) (λ first is.
          then_fits (λ (q : List Reference × List ℕ). Refs ((row_at rows y).last + 1) (row_at rows x).last q.0) (λ (q : List Reference × List ℕ). Refs from (row_at rows x).last q.0) (many (λ z. TooManyReferences) rows names.Reference (reference rows) (room - 1) ys) _ less (λ others rest.
          first_ref x from y first others.0 pos h.0 h.1 is rest))
      go false none true p same less = tt
      go false none false true same less = same
      go false none false false same less = tt

  refs_of : (x from : ℕ) (xs : List ℕ) → 0 < x → Kids x from xs → IfOk (one_or_more (λ y. TooManyReferences) rows names.Reference (reference rows) 256 xs) (λ p. Refs from (row_at rows x).last p.0)
  unfolding one_or_more
  refs_of x from xs pos h =
      let Q : List Reference × List ℕ → Type 0 = λ p. Refs from (row_at rows x).last p.0 in
      then_fits (Took x from names.Reference) Q (required rows names.Reference xs) _ (required_kids x from names.Reference xs h) (λ first t.
      then_fits (IsIn rows first.0) Q (reference rows first.0) _ (reference_in first.0 (child_behind_zero x first.0 t.1)) (λ one is.
      then_fits (λ (q : List Reference × List ℕ). Refs ((row_at rows first.0).last + 1) (row_at rows x).last q.0) Q (many (λ y. TooManyReferences) rows names.Reference (reference rows) 255 first.1) _
      (many_refs x ((row_at rows first.0).last + 1) 255 first.1 pos (kids_behind x first.0 first.1 pos t.1 t.3)) (λ others rest. first_ref x from first.0 one others.0 pos t.0 t.1 is rest)))

  info_refs : (x : ℕ) → 0 < x → IfOk (info_fields rows x) (λ i. Refs (x + 1) (row_at rows x).last i.references)
  unfolding info_fields
  info_refs x pos =
      then_fits (Took x 0 names.CanonicalizationMethod) _ (required rows names.CanonicalizationMethod (children rows x)) _ (required_kids x 0 names.CanonicalizationMethod (children rows x) (kids_of x)) (λ first f.
      in_any_case _ (canonicalization_method rows first.0) _ (λ canonicalization.
      then_fits (Took x (first.0 + 1) names.SignatureMethod) _ (required rows names.SignatureMethod first.1) _ (required_kids x (first.0 + 1) names.SignatureMethod first.1 f.3) (λ second s.
      in_any_case _ (signature_method rows second.0) _ (λ authentication.
      then_fits (λ (p : List Reference × List ℕ). Refs (x + 1) (row_at rows x).last p.0) _ (one_or_more (λ y. TooManyReferences) rows names.Reference (reference rows) 256 second.1) _
      (refs_of x (x + 1) second.1 pos (kids_from x (x + 1) (second.0 + 1) second.1 (let lies = child_in x second.0 pos s.1 in omega (arith, lies.0)) s.3)) (λ references refs.
      in_any_case _ (at_end rows references.1) _ (λ nothing. refs))))))

  rise_if : (x : ℕ) → 0 < x → IfOk (fields_of rows x) (Rise rows x)
  unfolding fields_of
  rise_if x pos =
      let Q = Rise rows x in
      then_fits (Took x 0 names.SignedInfo) Q (required rows names.SignedInfo (children rows x)) _ (required_kids x 0 names.SignedInfo (children rows x) (kids_of x)) (λ first f.
      then_fits (λ i. Refs (first.0 + 1) (row_at rows first.0).last i.references) Q (info_fields rows first.0) _ (info_refs first.0 (child_behind_zero x first.0 f.1)) (λ info refs.
      then_fits (Took x ((row_at rows first.0).last + 1) names.SignatureValue) Q (required rows names.SignatureValue first.1) _ (required_kids x ((row_at rows first.0).last + 1) names.SignatureValue first.1 (kids_behind x first.0 first.1 pos f.1 f.3)) (λ second s.
      in_any_case Q (simple_octets rows second.0) _ (λ value. in_any_case Q (optional rows names.KeyInfo second.1) _ (λ third. in_any_case Q (key_info_if rows third.0) _ (λ key_name.
      in_any_case Q (behind_all rows names.Object third.1) _ (λ left. in_any_case Q (at_end rows left) _ (λ nothing.
      record { signed_info = f.1; value_row = s.1; named = s.2; apart = omega (arith, s.0); references = refs }))))))))

  pub rise : (x : ℕ) (fields : Fields) → 0 < x → fields_of rows x ≡ Ok fields → Rise rows x fields
  rise x fields pos is = rw is at (rise_if x pos)

  -- the root is no Signature: one element alone is its child
  two_children : (y z : ℕ) → is_named rows names.SignedInfo y ≡ true → is_child rows 0 y ≡ true → is_named rows names.SignatureValue z ≡ true → is_child rows 0 z ≡ true → y + 1 ≤ z → ⊥
  two_children y z ny cy nz cz le =
      let one = named_fits rows names.SignedInfo y ny in let other = named_fits rows names.SignatureValue z nz in
      let document = shape.document_element in
      let first = document.only y one.within (kind_is (row_at rows y).kind one.element) (parent_is 0 y cy) in
      let second = document.only z other.within (kind_is (row_at rows z).kind other.element) (parent_is 0 z cz) in
      omega (arith, first, second, le)
    where
      kind_is : (k : Kind) → is_element k ≡ true → k ≡ kind.Element
      kind_is kind.Root e = absurd (false≢true e)
      kind_is kind.Element e = refl
      kind_is kind.Namespace e = absurd (false≢true e)
      kind_is kind.Attribute e = absurd (false≢true e)
      kind_is kind.Text e = absurd (false≢true e)
      kind_is kind.Comment e = absurd (false≢true e)
      kind_is kind.Instruction e = absurd (false≢true e)

  none_at_root : IfOk (fields_of rows 0) (λ (fields : Fields). ⊥)
  unfolding fields_of
  none_at_root =
      let Q : Fields → Type 0 = λ fields. ⊥ in
      then_fits (Took 0 0 names.SignedInfo) Q (required rows names.SignedInfo (children rows 0)) _ (required_kids 0 0 names.SignedInfo (children rows 0) (kids_of 0)) (λ first f.
      in_any_case Q (info_fields rows first.0) _ (λ info.
      then_fits (Took 0 (first.0 + 1) names.SignatureValue) Q (required rows names.SignatureValue first.1) _ (required_kids 0 (first.0 + 1) names.SignatureValue first.1 f.3) (λ second s.
      absurd (two_children first.0 second.0 f.2 f.1 s.2 s.1 s.0))))

  -- ---- the rows of the DigestValues
  digest_rows : (low from end : ℕ) (rs : List Reference) → low ≤ from → Follow rows from end rs → Rises low (map (λ (r : Reference). r.digest_row) rs)
  digest_rows low from end [] le h = tt
  digest_rows low from end (r ∷ rs) le h =
      let below = h.1.below in let inside = h.1.inside in
      (omega (arith, le, h.0, below), digest_rows (r.digest_row + 1) ((row_at rows r.row).last + 1) end rs (omega (arith, inside)) h.3)

  digests_end : (bound from end : ℕ) (rs : List Reference) → end < bound → Follow rows from end rs → All (λ (r : Reference). r.digest_row < bound) rs
  digests_end bound from end [] lt h = All-nil (λ (r : Reference). r.digest_row < bound)
  digests_end bound from end (r ∷ rs) lt h =
      let inside = h.1.inside in
      All-cons (λ (s : Reference). s.digest_row < bound) r rs (omega (arith, inside, h.2, lt)) (digests_end bound ((row_at rows r.row).last + 1) end rs lt h.3)

-- what stands in document order
pub record InOrder (fields : Fields) : Type 0 where
  pub digest_rows : Rises (fields.signed_info + 1) (map (λ (r : Reference). r.digest_row) fields.references)
  pub value_behind : All (λ (r : Reference). r.digest_row < fields.value_row) fields.references

module _ (rows : List RowOf) (shape : IsWellShaped rows) where
  in_order : (x : ℕ) (fields : Fields) → 0 < x → fields_of rows x ≡ Ok fields → InOrder fields
  in_order x fields pos is =
      let r = rise rows shape x fields pos is in
      record {
        digest_rows = digest_rows rows shape (fields.signed_info + 1) (fields.signed_info + 1) (row_at rows fields.signed_info).last fields.references (omega arith) r.references;
        value_behind = digests_end rows shape fields.value_row (fields.signed_info + 1) (row_at rows fields.signed_info).last fields.references r.apart r.references;
      }

  pub rows_in_order : (x : ℕ) (fields : Fields) → fields_of rows x ≡ Ok fields → InOrder fields
  rows_in_order zero fields is = let none : ⊥ = rw is at (none_at_root rows shape) in absurd none
  rows_in_order (suc n) fields is = in_order (suc n) fields (omega arith) is

-- Children that stand, passed-over ones aside, and what reading them in order gives.
use Rattle.std.proofs.Common.{◌≡◌, ◌∙◌, ℕ, ◌&&◌, Bool, true, false, List, [], ◌∷◌, ◌++◌, Option, Some, None, Result, Ok, Err, refl, ap, sym, subst}
use Rattle.std.specs.Prelude.{bytes_eq, if◌then◌else◌}
use Rattle.std.specs.List.{All}
use Rattle.std.specs.Option.{option_to_list}
use Rattle.std.proofs.lemmas.Bool.{and_parts, false≢true}
use Rattle.std.proofs.lemmas.List.{append-nil}
use Rattle.std.proofs.lemmas.Slice.Eq.{bytes_eq-Decides}
use Rattle.std.proofs.lemmas.List.Elements.{All-cons, All-head, All-nil, All-tail, All-weaker}
use Rattle.xml_doc.specs.Kinds.{is_element}
use Rattle.xml_doc.specs.Rows.{RowOf}
use Rattle.xml_doc.specs.Shape.{row_at}
use Rattle.xml_doc.specs.declared.row.Kind.{Kind}
use Rattle.xml_doc.specs.declared.row.Kind.TheVariants as kind
use Rattle.dsig_fields.specs.Content.{AreNamed, CanBeRead, ReadExactly, standing}
use Rattle.dsig_fields.specs.Fields.{fields_of, info_fields, joined_fields, key_info_if}
use Rattle.dsig_fields.specs.Names.{local_name, namespace_of}
use Rattle.dsig_fields.specs.Reading.{◌>>=◌, at_end, behind_all, children, is_element_at, is_named, is_passed, none_left, optional, or_none, or_refusal, passed, passes_over, required, taken}
use Rattle.dsig_fields.specs.Simple.{simple_octets}
use Rattle.dsig_fields.specs.declared.fields.Fields.{Fields}
use Rattle.dsig_fields.specs.declared.fields.Info.{Info}
use Rattle.dsig_fields.specs.declared.names.ElementName.{ElementName}
use Rattle.dsig_fields.specs.declared.names.ElementName.TheVariants as names
use Rattle.dsig_fields.specs.declared.refusal.FieldRefusal.{FieldRefusal}
use Rattle.dsig_fields.specs.declared.refusal.FieldRefusal.TheVariants.{Extra, Missing}

-- both steps gave a value
both_gave : {A B : Type 0} (r : Result A FieldRefusal) (f : A → Result B FieldRefusal) (y : B) → (r >>= f) ≡ Ok y → (x : A) × (r ≡ Ok x) × (f x ≡ Ok y)
both_gave (Ok x) f y e = (x, refl, e)
both_gave (Err refusal) f y e = absurd cc

ok_is : {A : Type 0} (x y : A) → ◌≡◌ {A = Result A FieldRefusal} (Ok x) (Ok y) → x ≡ y
ok_is x y e = cc

module _ (rows : List RowOf) where
  -- an element isn't passed over
  not_passed : (k : Kind) (value : List ℕ) → is_element k ≡ true → passes_over k value ≡ false
  not_passed kind.Root value h = absurd (false≢true h)
  not_passed kind.Element value h = refl
  not_passed kind.Namespace value h = absurd (false≢true h)
  not_passed kind.Attribute value h = absurd (false≢true h)
  not_passed kind.Text value h = absurd (false≢true h)
  not_passed kind.Comment value h = absurd (false≢true h)
  not_passed kind.Instruction value h = absurd (false≢true h)

  element_stands : (y : ℕ) → is_element_at rows y ≡ true → is_passed rows y ≡ false
  element_stands y e = not_passed (row_at rows y).kind (row_at rows y).value e

  named_element : (name : ElementName) (y : ℕ) → is_named rows name y ≡ true → is_element_at rows y ≡ true
  named_element name y n = (and_parts (is_element_at rows y) _ (and_parts (is_element_at rows y && _) _ n).0).0

  passes : (y : ℕ) (rest : List ℕ) → is_passed rows y ≡ true → standing rows (y ∷ rest) ≡ standing rows rest
  passes y rest p = rw p refl

  stands : (y : ℕ) (rest : List ℕ) → is_passed rows y ≡ false → standing rows (y ∷ rest) ≡ y ∷ standing rows rest
  stands y rest p = rw p refl

  abbrev Heads : List ℕ → Type 0
  Heads [] = Unit {0}
  Heads (y ∷ rest) = is_element_at rows y ≡ true

  abbrev by_tests : (e p : Bool) → ℕ → List ℕ → Result (List ℕ) FieldRefusal
  by_tests e p y rest = if e then Ok (y ∷ rest) else (if p then passed rows rest else Err (Extra y))

  passed_gave : (xs left : List ℕ) → passed rows xs ≡ Ok left → (standing rows left ≡ standing rows xs) × Heads left
  unfolding passed
  passed_gave [] left h = let is : [] ≡ left = ok_is [] left h in let P : List ℕ → Type 0 = λ t. (standing rows t ≡ []) × Heads t in subst P is (refl, tt)
  passed_gave (y ∷ rest) left h = go (is_element_at rows y) (is_passed rows y) (passed_gave rest left) refl refl h
    where
      go : (e p : Bool) → (passed rows rest ≡ Ok left → (standing rows left ≡ standing rows rest) × Heads left) → is_element_at rows y ≡ e → is_passed rows y ≡ p
          → by_tests e p y rest ≡ Ok left → (standing rows left ≡ standing rows (y ∷ rest)) × Heads left
      go true p more e q k =
          let is : y ∷ rest ≡ left = ok_is (y ∷ rest) left k in
          let P : List ℕ → Type 0 = λ t. (standing rows t ≡ standing rows (y ∷ rest)) × Heads t in
          subst P is (refl, e)
      go false true more e q k = let m = more k in (m.0 ∙ sym (passes y rest q), m.1)
      go false false more e q k = absurd cc

  passed_at : (xs : List ℕ) (y : ℕ) (ys : List ℕ) → standing rows xs ≡ y ∷ ys → is_element_at rows y ≡ true → (rest : List ℕ) × (passed rows xs ≡ Ok (y ∷ rest)) × (standing rows rest ≡ ys)
  unfolding passed
  passed_at [] y ys s element = absurd cc
  passed_at (z ∷ zs) y ys s element = go (is_element_at rows z) (is_passed rows z) (passed_at zs y ys) refl refl
    where
      go : (e p : Bool) → (standing rows zs ≡ y ∷ ys → is_element_at rows y ≡ true → (rest : List ℕ) × (passed rows zs ≡ Ok (y ∷ rest)) × (standing rows rest ≡ ys))
          → is_element_at rows z ≡ e → is_passed rows z ≡ p → (rest : List ℕ) × (by_tests e p z zs ≡ Ok (y ∷ rest)) × (standing rows rest ≡ ys)
      go true p more e q =
          let both : z ∷ standing rows zs ≡ y ∷ ys = sym (stands z zs (element_stands z e)) ∙ s in
          let same : z ≡ y = cc in
          (zs, ap (λ (t : ℕ). Ok (t ∷ zs)) same, cc)
      go false true more e q = more (sym (passes z zs q) ∙ s) element
      go false false more e q =
          let both : z ∷ standing rows zs ≡ y ∷ ys = sym (stands z zs q) ∙ s in
          let same : z ≡ y = cc in
          absurd (false≢true (sym e ∙ ap (is_element_at rows) same ∙ element))

  passed_end : (xs : List ℕ) → standing rows xs ≡ [] → passed rows xs ≡ Ok []
  unfolding passed
  passed_end [] s = refl
  passed_end (z ∷ zs) s = go (is_element_at rows z) (is_passed rows z) (passed_end zs) refl refl
    where
      go : (e p : Bool) → (standing rows zs ≡ [] → passed rows zs ≡ Ok []) → is_element_at rows z ≡ e → is_passed rows z ≡ p → by_tests e p z zs ≡ Ok []
      go true p more e q = let none = sym (stands z zs (element_stands z e)) ∙ s in cc
      go false true more e q = more (sym (passes z zs q) ∙ s)
      go false false more e q = let none = sym (stands z zs q) ∙ s in cc

  module _ (name : ElementName) where
    required_gave : (xs : List ℕ) (y : ℕ) (rest : List ℕ) → required rows name xs ≡ Ok (y, rest) → (standing rows xs ≡ y ∷ standing rows rest) × (is_named rows name y ≡ true)
    unfolding required
    required_gave xs y rest h =
        let one = both_gave (passed rows xs) (λ left. or_refusal (Missing name) (taken rows name left)) (y, rest) h in
        let was = passed_gave xs one.0 one.1 in
        go one.0 was.0 was.1 one.2
      where
        go : (left : List ℕ) → standing rows left ≡ standing rows xs → Heads left → or_refusal (Missing name) (taken rows name left) ≡ Ok (y, rest)
            → (standing rows xs ≡ y ∷ standing rows rest) × (is_named rows name y ≡ true)
        go [] s head k = absurd cc
        go (z ∷ zs) s head k = at (is_named rows name z) refl k
          where
            at : (n : Bool) → is_named rows name z ≡ n → or_refusal {A = ℕ × List ℕ} (Missing name) (if n then Some (z, zs) else None) ≡ Ok (y, rest)
                → (standing rows xs ≡ y ∷ standing rows rest) × (is_named rows name y ≡ true)
            at true n m =
                let same : ◌≡◌ {A = ℕ × List ℕ} (z, zs) (y, rest) = ok_is {A = ℕ × List ℕ} (z, zs) (y, rest) m in
                let number : z ≡ y = ap (λ (t : ℕ × List ℕ). t.0) same in
                let others : zs ≡ rest = ap (λ (t : ℕ × List ℕ). t.1) same in
                (sym s ∙ stands z zs (element_stands z head) ∙ ap (λ (t : ℕ × List ℕ). t.0 ∷ standing rows t.1) same, ap (is_named rows name) (sym number) ∙ n)
            at false n m = absurd cc

    required_at : (xs : List ℕ) (y : ℕ) (ys : List ℕ) → standing rows xs ≡ y ∷ ys → is_named rows name y ≡ true → (rest : List ℕ) × (required rows name xs ≡ Ok (y, rest)) × (standing rows rest ≡ ys)
    unfolding required
    required_at xs y ys s n =
        let one = passed_at xs y ys s (named_element name y n) in (
          one.0,
          ap (λ (r : Result (List ℕ) FieldRefusal). r >>= (λ left. or_refusal (Missing name) (taken rows name left))) one.1
              ∙ ap (λ (b : Bool). or_refusal (Missing name) (if b then Some (y, one.0) else None)) n,
          one.2,
        )

    abbrev Gave : List ℕ → Option ℕ × List ℕ → Type 0
    Gave xs t = (standing rows xs ≡ option_to_list t.0 ++ standing rows t.1) × AreNamed rows name (option_to_list t.0)

    optional_gave : (xs : List ℕ) (o : Option ℕ) (left : List ℕ) → optional rows name xs ≡ Ok (o, left) → (standing rows xs ≡ option_to_list o ++ standing rows left) × AreNamed rows name (option_to_list o)
    unfolding optional
    optional_gave xs o left h =
        let one = both_gave (passed rows xs) (λ l. Ok (or_none l (taken rows name l))) (o, left) h in
        let was = passed_gave xs one.0 one.1 in
        go one.0 was.0 was.1 (ok_is (or_none one.0 (taken rows name one.0)) (o, left) one.2)
      where
        go : (l : List ℕ) → standing rows l ≡ standing rows xs → Heads l → or_none l (taken rows name l) ≡ (o, left) → Gave xs (o, left)
        go [] s head k = subst (Gave xs) k (sym s, All-nil (λ (y : ℕ). is_named rows name y ≡ true))
        go (z ∷ zs) s head k = at (is_named rows name z) refl k
          where
            at : (n : Bool) → is_named rows name z ≡ n → or_none (z ∷ zs) (if n then Some (z, zs) else None) ≡ (o, left) → Gave xs (o, left)
            at true n m =
                subst (Gave xs) m (sym s ∙ stands z zs (element_stands z head), All-cons (λ (y : ℕ). is_named rows name y ≡ true) z [] n (All-nil (λ (y : ℕ). is_named rows name y ≡ true)))
            at false n m = subst (Gave xs) m (sym s, All-nil (λ (y : ℕ). is_named rows name y ≡ true))

    optional_at : (xs : List ℕ) (y : ℕ) (ys : List ℕ) → standing rows xs ≡ y ∷ ys → is_named rows name y ≡ true → (rest : List ℕ) × (optional rows name xs ≡ Ok (Some y, rest)) × (standing rows rest ≡ ys)
    unfolding optional
    optional_at xs y ys s n =
        let one = passed_at xs y ys s (named_element name y n) in (
          one.0,
          ap (λ (r : Result (List ℕ) FieldRefusal). r >>= (λ l. Ok (or_none l (taken rows name l)))) one.1
              ∙ ap (λ (b : Bool). Ok (or_none (y ∷ one.0) (if b then Some (y, one.0) else None))) n,
          one.2,
        )

    optional_none : (xs ys : List ℕ) → standing rows xs ≡ ys → All (λ (y : ℕ). (is_element_at rows y ≡ true) × (is_named rows name y ≡ false)) ys
        → (left : List ℕ) × (optional rows name xs ≡ Ok (None, left)) × (standing rows left ≡ ys)
    unfolding optional
    optional_none xs [] s none = ([], ap (λ (r : Result (List ℕ) FieldRefusal). r >>= (λ l. Ok (or_none l (taken rows name l)))) (passed_end xs s), refl)
    optional_none xs (y ∷ ys) s none =
        let here = All-head (λ (t : ℕ). (is_element_at rows t ≡ true) × (is_named rows name t ≡ false)) y ys none in
        let one = passed_at xs y ys s here.0 in (
          y ∷ one.0,
          ap (λ (r : Result (List ℕ) FieldRefusal). r >>= (λ l. Ok (or_none l (taken rows name l)))) one.1
              ∙ ap (λ (b : Bool). Ok (or_none (y ∷ one.0) (if b then Some (y, one.0) else None))) here.1,
          stands y one.0 (element_stands y here.0) ∙ ap (λ (t : List ℕ). y ∷ t) one.2,
        )

    abbrev behind_by : (n e p : Bool) → ℕ → List ℕ → Result (List ℕ) FieldRefusal
    behind_by n e p y rest =
        if n then behind_all rows name rest else (if e then Ok (y ∷ rest) else (if p then behind_all rows name rest else Err (Extra y)))

    abbrev Behind : List ℕ → List ℕ → Type 0
    Behind xs left = (objects : List ℕ) × (standing rows xs ≡ objects ++ standing rows left) × AreNamed rows name objects

    behind_gave : (xs left : List ℕ) → behind_all rows name xs ≡ Ok left → Behind xs left
    unfolding behind_all
    behind_gave [] left h = let is : [] ≡ left = ok_is [] left h in subst (Behind []) is ([], refl, All-nil (λ (y : ℕ). is_named rows name y ≡ true))
    behind_gave (y ∷ rest) left h = go (is_named rows name y) (is_element_at rows y) (is_passed rows y) (behind_gave rest left) refl refl refl h
      where
        go : (n e p : Bool) → (behind_all rows name rest ≡ Ok left → Behind rest left) → is_named rows name y ≡ n → is_element_at rows y ≡ e → is_passed rows y ≡ p
            → behind_by n e p y rest ≡ Ok left → Behind (y ∷ rest) left
        go true e p more n q r k =
            let m = more k in
            (y ∷ m.0, stands y rest (element_stands y (named_element name y n)) ∙ ap (λ (t : List ℕ). y ∷ t) m.1, All-cons (λ (t : ℕ). is_named rows name t ≡ true) y m.0 n m.2)
        go false true p more n q r k = let is : y ∷ rest ≡ left = ok_is (y ∷ rest) left k in subst (Behind (y ∷ rest)) is ([], refl, All-nil (λ (t : ℕ). is_named rows name t ≡ true))
        go false false true more n q r k = let m = more k in (m.0, passes y rest r ∙ m.1, m.2)
        go false false false more n q r k = absurd cc

    behind_at : (xs ys : List ℕ) → standing rows xs ≡ ys → AreNamed rows name ys → behind_all rows name xs ≡ Ok []
    unfolding behind_all
    behind_at [] ys s named = refl
    behind_at (y ∷ rest) ys s named = go (is_named rows name y) (is_element_at rows y) (is_passed rows y) (λ zs. behind_at rest zs) refl refl refl ys s named
      where
        go : (n e p : Bool) → ((zs : List ℕ) → standing rows rest ≡ zs → AreNamed rows name zs → behind_all rows name rest ≡ Ok [])
            → is_named rows name y ≡ n → is_element_at rows y ≡ e → is_passed rows y ≡ p
            → (zs : List ℕ) → standing rows (y ∷ rest) ≡ zs → AreNamed rows name zs → behind_by n e p y rest ≡ Ok []
        go true e p more n q r [] k all = let none = sym (stands y rest (element_stands y (named_element name y n))) ∙ k in absurd cc
        go true e p more n q r (z ∷ zs) k all =
            let both : y ∷ standing rows rest ≡ z ∷ zs = sym (stands y rest (element_stands y (named_element name y n))) ∙ k in
            more zs (cc) (All-tail (λ (t : ℕ). is_named rows name t ≡ true) z zs all)
        go false true p more n q r [] k all = let none = sym (stands y rest (element_stands y q)) ∙ k in absurd cc
        go false true p more n q r (z ∷ zs) k all =
            let both : y ∷ standing rows rest ≡ z ∷ zs = sym (stands y rest (element_stands y q)) ∙ k in
            let same : y ≡ z = cc in
            absurd (false≢true (sym n ∙ ap (is_named rows name) same ∙ All-head (λ (t : ℕ). is_named rows name t ≡ true) z zs all))
        go false false true more n q r zs k all = more zs (sym (passes y rest r) ∙ k) all
        go false false false more n q r [] k all = let none = sym (stands y rest r) ∙ k in absurd cc
        go false false false more n q r (z ∷ zs) k all =
            let both : y ∷ standing rows rest ≡ z ∷ zs = sym (stands y rest r) ∙ k in
            let same : y ≡ z = cc in
            absurd (false≢true (sym n ∙ ap (is_named rows name) same ∙ All-head (λ (t : ℕ). is_named rows name t ≡ true) z zs all))

  end_gave : (xs : List ℕ) → at_end rows xs ≡ Ok tt → standing rows xs ≡ []
  unfolding at_end
  end_gave xs h =
      let one = both_gave (passed rows xs) none_left tt h in
      let was = passed_gave xs one.0 one.1 in
      go one.0 was.0 one.2
    where
      go : (left : List ℕ) → standing rows left ≡ standing rows xs → none_left left ≡ Ok tt → standing rows xs ≡ []
      go [] s k = sym s
      go (y ∷ rest) s k = absurd cc

  end_at : (xs : List ℕ) → standing rows xs ≡ [] → at_end rows xs ≡ Ok tt
  unfolding at_end
  end_at xs s = ap (λ (r : Result (List ℕ) FieldRefusal). r >>= none_left) (passed_end xs s)

  -- an Object is no KeyInfo
  no_key_info : (y : ℕ) → is_named rows names.Object y ≡ true → (is_element_at rows y ≡ true) × (is_named rows names.KeyInfo y ≡ false)
  no_key_info y n = (named_element names.Object y n, other (and_parts (is_element_at rows y && _) _ n).1)
    where
      and_false : (b : Bool) → (b && false) ≡ false
      and_false true = refl
      and_false false = refl

      other : bytes_eq (row_at rows y).local_name (local_name names.Object) ≡ true → is_named rows names.KeyInfo y ≡ false
      other e =
          let same : (row_at rows y).local_name ≡ local_name names.Object = (bytes_eq-Decides (row_at rows y).local_name (local_name names.Object)).0 e in
          ap (λ (t : List ℕ). is_element_at rows y && bytes_eq (row_at rows y).uri (namespace_of names.KeyInfo) && bytes_eq t (local_name names.KeyInfo)) same
          ∙ and_false (is_element_at rows y && bytes_eq (row_at rows y).uri (namespace_of names.KeyInfo))

  -- ---- the fields of an element
  abbrev info_of : Fields → Info
  info_of fields = record { canon = fields.canon; prefixes = fields.prefixes; mac = fields.mac; bits = fields.bits; references = fields.references }

  abbrev behind_key : (x signed_info value_row : ℕ) → Info → List ℕ → Option (List ℕ) → List ℕ → Result Fields FieldRefusal
  behind_key x signed_info value_row info value key_name xs = do
    left ← behind_all rows names.Object xs
    nothing ← at_end rows left
    Ok (joined_fields x signed_info value_row info value key_name)

  abbrev behind_value : (x signed_info value_row : ℕ) → Info → List ℕ → List ℕ → Result Fields FieldRefusal
  behind_value x signed_info value_row info value xs = do
    third ← optional rows names.KeyInfo xs
    key_name ← key_info_if rows third.0
    behind_key x signed_info value_row info value key_name third.1

  abbrev behind_info : (x signed_info : ℕ) → Info → List ℕ → Result Fields FieldRefusal
  behind_info x signed_info info xs = do
    second ← required rows names.SignatureValue xs
    value ← simple_octets rows second.0
    behind_value x signed_info second.0 info value second.1

  module _ (x : ℕ) (fields : Fields) where
    can_be_read : fields_of rows x ≡ Ok fields → CanBeRead rows x fields
    unfolding fields_of
    can_be_read h =
        let one = both_gave (required rows names.SignedInfo (children rows x)) (λ first. info_fields rows first.0 >>= (λ info. behind_info x first.0 info first.1)) fields h in
        let two = both_gave (info_fields rows one.0.0) (λ info. behind_info x one.0.0 info one.0.1) fields one.2 in
        let three = both_gave (required rows names.SignatureValue one.0.1) (λ second. simple_octets rows second.0 >>= (λ value. behind_value x one.0.0 second.0 two.0 value second.1)) fields two.2 in
        let four = both_gave (simple_octets rows three.0.0) (λ value. behind_value x one.0.0 three.0.0 two.0 value three.0.1) fields three.2 in
        let five = both_gave (optional rows names.KeyInfo three.0.1) (λ third. key_info_if rows third.0 >>= (λ key_name. behind_key x one.0.0 three.0.0 two.0 four.0 key_name third.1)) fields four.2 in
        let six = both_gave (key_info_if rows five.0.0) (λ key_name. behind_key x one.0.0 three.0.0 two.0 four.0 key_name five.0.1) fields five.2 in
        let seven = both_gave (behind_all rows names.Object five.0.1) (λ left. at_end rows left >>= (λ nothing. Ok (joined_fields x one.0.0 three.0.0 two.0 four.0 six.0))) fields six.2 in
        let eight = both_gave (at_end rows seven.0) (λ nothing. Ok (joined_fields x one.0.0 three.0.0 two.0 four.0 six.0)) fields seven.2 in
        let same : joined_fields x one.0.0 three.0.0 two.0 four.0 six.0 ≡ fields = ok_is _ fields eight.2 in
        let s = required_gave names.SignedInfo (children rows x) one.0.0 one.0.1 one.1 in
        let v = required_gave names.SignatureValue one.0.1 three.0.0 three.0.1 three.1 in
        let k = optional_gave names.KeyInfo three.0.1 five.0.0 five.0.1 five.1 in
        let o = behind_gave names.Object five.0.1 seven.0 seven.1 in
        let end = end_gave seven.0 (at_end_ok seven.0 eight.0 eight.1) in
        let P : Fields → Type 0 = CanBeRead rows x in
        subst P same
        (record {
          key_info = five.0.0;
          content = record {
            objects = o.0;
            are =
                s.0 ∙ ap (λ (t : List ℕ). one.0.0 ∷ t) v.0
                ∙ ap (λ (t : List ℕ). one.0.0 ∷ (three.0.0 ∷ t)) (k.0 ∙ ap (λ (t : List ℕ). option_to_list five.0.0 ++ t) (o.1 ∙ ap (λ (t : List ℕ). o.0 ++ t) end ∙ append-nil o.0));
            first = s.1;
            second = v.1;
            third = k.1;
            others = o.2;
          };
          signature = refl;
          info = two.1;
          value = four.1;
          key_name = six.1;
        })
      where
        at_end_ok : (xs : List ℕ) (u : Unit {0}) → at_end rows xs ≡ Ok u → at_end rows xs ≡ Ok tt
        at_end_ok xs u e = e

    read_so : CanBeRead rows x fields → fields_of rows x ≡ Ok fields
    unfolding fields_of
    read_so h =
        let c = h.content in
        let one = required_at names.SignedInfo (children rows x) fields.signed_info (fields.value_row ∷ (option_to_list h.key_info ++ c.objects)) c.are c.first in
        let two = required_at names.SignatureValue one.0 fields.value_row (option_to_list h.key_info ++ c.objects) one.2 c.second in
        let three = key_part h.key_info two.0 c.objects two.2 c.third c.others in
        let four = behind_at names.Object three.0 c.objects three.2 c.others in
        let joined : joined_fields x fields.signed_info fields.value_row (info_of fields) fields.value fields.key_name ≡ fields =
        ap (λ (n : ℕ). joined_fields n fields.signed_info fields.value_row (info_of fields) fields.value fields.key_name) (sym h.signature) in
        step (required rows names.SignedInfo (children rows x)) (λ first. info_fields rows first.0 >>= (λ info. behind_info x first.0 info first.1)) (fields.signed_info, one.0) one.1
        ∙ step (info_fields rows fields.signed_info) (λ info. behind_info x fields.signed_info info one.0) (info_of fields) h.info
        ∙ step (required rows names.SignatureValue one.0) (λ second. simple_octets rows second.0 >>= (λ value. behind_value x fields.signed_info second.0 (info_of fields) value second.1)) (fields.value_row, two.0) two.1
        ∙ step (simple_octets rows fields.value_row) (λ value. behind_value x fields.signed_info fields.value_row (info_of fields) value two.0) fields.value h.value
        ∙ step (optional rows names.KeyInfo two.0) (λ third. key_info_if rows third.0 >>= (λ key_name. behind_key x fields.signed_info fields.value_row (info_of fields) fields.value key_name third.1)) (h.key_info, three.0) three.1
        ∙ step (key_info_if rows h.key_info) (λ key_name. behind_key x fields.signed_info fields.value_row (info_of fields) fields.value key_name three.0) fields.key_name h.key_name
        ∙ step (behind_all rows names.Object three.0) (λ left. at_end rows left >>= (λ nothing. Ok (joined_fields x fields.signed_info fields.value_row (info_of fields) fields.value fields.key_name))) [] four
        ∙ step (at_end rows []) (λ nothing. Ok (joined_fields x fields.signed_info fields.value_row (info_of fields) fields.value fields.key_name)) tt (end_at [] refl)
        ∙ ap Ok joined
      where
        step : {A B : Type 0} (r : Result A FieldRefusal) (f : A → Result B FieldRefusal) (y : A) → r ≡ Ok y → (r >>= f) ≡ f y
        step {A} {B} r f y e = ap (λ (t : Result A FieldRefusal). ◌>>=◌ {B = B} t f) e

        key_part : (o : Option ℕ) (xs objects : List ℕ) → standing rows xs ≡ option_to_list o ++ objects → AreNamed rows names.KeyInfo (option_to_list o) → AreNamed rows names.Object objects
            → (left : List ℕ) × (optional rows names.KeyInfo xs ≡ Ok (o, left)) × (standing rows left ≡ objects)
        key_part (Some k) xs objects s named others = optional_at names.KeyInfo xs k objects s (All-head (λ (y : ℕ). is_named rows names.KeyInfo y ≡ true) k [] named)
        key_part None xs objects s named others =
            optional_none names.KeyInfo xs objects s
            (All-weaker (λ (y : ℕ). is_named rows names.Object y ≡ true) (λ (y : ℕ). (is_element_at rows y ≡ true) × (is_named rows names.KeyInfo y ≡ false)) (λ y n. no_key_info y n) objects others)

pub read_exactly : ReadExactly
read_exactly rows x fields = (λ h. can_be_read rows x fields h, λ h. read_so rows x fields h)

-- Readings of children that say the same.
use Rattle.std.proofs.Common.{◌≡◌, ℕ, ◌-◌, ◌==◌, Bool, true, false, List, [], ◌∷◌, ◌++◌, map, refl, sym, ap, subst, ◌∙◌}
use Rattle.std.specs.Prelude.{Option, Some, None, Result, Ok, Err, ◌&&◌, bytes_eq, option_map, if◌then◌else◌}
use Rattle.std.specs.List.{list_all}
use Rattle.std.proofs.lemmas.Bool.{false≢true}
use Rattle.dsig_base64.specs.Loose.{octets_in}
use Rattle.sig_base.specs.Space.{is_space}
use Rattle.xml_doc.specs.Kinds.{is_element}
use Rattle.xml_doc.specs.Rows.{RowOf}
use Rattle.xml_doc.specs.Shape.{row_at}
use Rattle.xml_doc.specs.declared.row.Kind.{Kind}
use Rattle.xml_doc.specs.declared.row.Kind.TheVariants as kinds
use Rattle.dsig_fields.specs.Follows.{Follows}
use Rattle.dsig_fields.specs.Names.{local_name, namespace_of}
use Rattle.dsig_fields.specs.Reading.{◌>>=◌, or_refusal, passed, passes_over, taken, required, or_none, optional, optional_if, none_left, many, one_or_more, at_end, children, is_named, is_element_at, is_passed}
use Rattle.dsig_fields.specs.Same.{Item, Octet, Aside, Inner, told_before, items, Pairwise, SameItems, SaysTheSame}
use Rattle.dsig_fields.specs.Simple.{added_by, joined, simple_text, simple_octets}
use Rattle.dsig_fields.specs.declared.names.ElementName.{ElementName}
use Rattle.dsig_fields.specs.declared.refusal.FieldRefusal.{FieldRefusal}
use Rattle.dsig_fields.specs.declared.refusal.FieldRefusal.TheVariants.{BadBase64, Missing, Extra}
use Rattle.dsig_fields.proofs.ManyLaws.{after, many_is}

-- ---- outcomes of which the second is none where the first is one
abbrev pub Same : {A : Type 0} → A → A → Type 0
Same a b = a ≡ b

pub then_follows : {A B : Type 0} (R : A → A → Type 0) (S : B → B → Type 0) (one other : Result A FieldRefusal) (f g : A → Result B FieldRefusal)
    → Follows R one other → ((a b : A) → R a b → Follows S (f a) (g b)) → Follows S (one >>= f) (other >>= g)
then_follows R S (Ok a) other f g p next = subst (λ o. Follows S (f a) (o >>= g)) (sym p.1) (next a p.0 p.2)
then_follows R S (Err refusal) other f g p next = tt

pub then_same : {A B : Type 0} (S : B → B → Type 0) (one other : Result A FieldRefusal) (f g : A → Result B FieldRefusal)
    → Follows (Same {A = A}) one other → ((a : A) → Follows S (f a) (g a)) → Follows S (one >>= f) (other >>= g)
then_same S (Ok a) other f g p next = subst (λ o. Follows S (f a) (o >>= g)) (sym (p.1 ∙ ap Ok (sym p.2))) (next a)
then_same S (Err refusal) other f g p next = tt

pub same_option : {A : Type 0} (one other : FieldRefusal) (o : Option A) → Follows (Same {A = A}) (or_refusal one o) (or_refusal other o)
same_option one other None = tt
same_option one other (Some a) = (a, refl, refl)

-- what an outcome gives
abbrev given : {A : Type 0} → Result A FieldRefusal → Option A
given (Ok a) = Some a
given (Err refusal) = None

ok_is : {A : Type 0} (x y : A) → ◌≡◌ {A = Result A FieldRefusal} (Ok x) (Ok y) → x ≡ y
ok_is x y e = cc

follows_given : {A : Type 0} (one other : Result A FieldRefusal) → given one ≡ given other → Follows (Same {A = A}) one other
follows_given (Ok a) (Ok b) e = (b, refl, cc)
follows_given (Ok a) (Err refusal) e = absurd cc
follows_given (Err refusal) other e = tt

given_then : {A B : Type 0} (outcome : Result A FieldRefusal) (f : A → B) → given (outcome >>= (λ a. Ok (f a))) ≡ option_map f (given outcome)
given_then (Ok a) f = refl
given_then (Err refusal) f = refl

-- the text that the items spell, if they are octets alone
abbrev text_of : List Item → Option (List ℕ)
text_of [] = Some []
text_of (Octet c ∷ rest) = option_map (λ (t : List ℕ). c ∷ t) (text_of rest)
text_of (Aside ∷ rest) = None
text_of (Inner y ∷ rest) = None

text_behind : (value : List ℕ) (its : List Item) → text_of (map Octet value ++ its) ≡ option_map (λ (t : List ℕ). value ++ t) (text_of its)
text_behind [] its = go (text_of its)
  where
    go : (o : Option (List ℕ)) → o ≡ option_map (λ (t : List ℕ). t) o
    go None = refl
    go (Some t) = refl
text_behind (c ∷ value) its = ap (option_map (λ (t : List ℕ). c ∷ t)) (text_behind value its) ∙ go (text_of its)
  where
    go : (o : Option (List ℕ)) → option_map (λ (t : List ℕ). c ∷ t) (option_map (λ (t : List ℕ). value ++ t) o) ≡ option_map (λ (t : List ℕ). c ∷ (value ++ t)) o
    go None = refl
    go (Some t) = refl

-- ---- a reading looks at what the children say alone
module _ (rows : List RowOf) where
  -- what is left from the next element on
  abbrev next : List Item → Option (List Item)
  next [] = Some []
  next (Octet c ∷ rest) = if is_space c then next rest else None
  next (Aside ∷ rest) = next rest
  next (Inner y ∷ rest) = if is_element_at rows y then Some (Inner y ∷ rest) else None

  next_behind : (value : List ℕ) (its : List Item) → next (map Octet value ++ its) ≡ (if list_all is_space value then next its else None)
  next_behind [] its = refl
  next_behind (c ∷ value) its = go (is_space c) (next_behind value its)
    where
      go : (b : Bool) → next (map Octet value ++ its) ≡ (if list_all is_space value then next its else None)
          → (if b then next (map Octet value ++ its) else None) ≡ (if b && list_all is_space value then next its else None)
      go true more = more
      go false more = refl

  abbrev by_tests : (e p : Bool) → ℕ → List ℕ → Result (List ℕ) FieldRefusal
  by_tests e p y rest = if e then Ok (y ∷ rest) else (if p then passed rows rest else Err (Extra y))

  told_element : (y : ℕ) (k : Kind) (value : List ℕ) (its : List Item) → is_element k ≡ true → told_before y k value its ≡ Inner y ∷ its
  told_element y kinds.Root value its h = refl
  told_element y kinds.Element value its h = refl
  told_element y kinds.Namespace value its h = refl
  told_element y kinds.Attribute value its h = refl
  told_element y kinds.Text value its h = absurd (false≢true h)
  told_element y kinds.Comment value its h = absurd (false≢true h)
  told_element y kinds.Instruction value its h = absurd (false≢true h)

  pub inner_items : (y : ℕ) (rest : List ℕ) → is_element_at rows y ≡ true → items rows (y ∷ rest) ≡ Inner y ∷ items rows rest
  inner_items y rest e = told_element y (row_at rows y).kind (row_at rows y).value (items rows rest) e

  no_element : (y : ℕ) (rest : List ℕ) → is_element_at rows y ≡ false → None ≡ next (Inner y ∷ items rows rest)
  no_element y rest e = ap (λ b. if b then Some (Inner y ∷ items rows rest) else None) (sym e)

  passed_is : (xs : List ℕ) → option_map (items rows) (given (passed rows xs)) ≡ next (items rows xs)
  unfolding passed
  passed_is [] = refl
  passed_is (y ∷ rest) = go (row_at rows y).kind refl (row_at rows y).value (passed_is rest)
    where
      go : (k : Kind) → (row_at rows y).kind ≡ k → (value : List ℕ) → option_map (items rows) (given (passed rows rest)) ≡ next (items rows rest)
          → option_map (items rows) (given (by_tests (is_element k) (passes_over k value) y rest)) ≡ next (told_before y k value (items rows rest))
      go kinds.Root e value more = no_element y rest (ap is_element e)
      go kinds.Element e value more =
          ap Some (inner_items y rest (ap is_element e)) ∙ ap (λ b. if b then Some (Inner y ∷ items rows rest) else None) (sym (ap is_element e))
      go kinds.Namespace e value more = no_element y rest (ap is_element e)
      go kinds.Attribute e value more = no_element y rest (ap is_element e)
      go kinds.Comment e value more = more
      go kinds.Instruction e value more = more
      go kinds.Text e value more = by (list_all is_space value) ∙ sym (next_behind value (items rows rest))
        where
          by : (b : Bool) → option_map (items rows) (given (by_tests false b y rest)) ≡ (if b then next (items rows rest) else None)
          by true = more
          by false = refl

  abbrev Heads : List ℕ → Type 0
  Heads [] = Unit {0}
  Heads (y ∷ rest) = is_element_at rows y ≡ true

  passed_heads : (xs left : List ℕ) → passed rows xs ≡ Ok left → Heads left
  unfolding passed
  passed_heads [] left h = let is : [] ≡ left = ok_is [] left h in subst Heads is tt
  passed_heads (y ∷ rest) left h = go (is_element_at rows y) (is_passed rows y) refl (passed_heads rest left) h
    where
      go : (e p : Bool) → is_element_at rows y ≡ e → (passed rows rest ≡ Ok left → Heads left) → by_tests e p y rest ≡ Ok left → Heads left
      go true p e more k = let is : y ∷ rest ≡ left = ok_is (y ∷ rest) left k in subst Heads is e
      go false true e more k = more k
      go false false e more k = absurd cc

  joined_is : (xs : List ℕ) → given (joined rows xs) ≡ text_of (items rows xs)
  unfolding joined
  joined_is [] = refl
  joined_is (y ∷ rest) = go (row_at rows y).kind (row_at rows y).value (joined_is rest)
    where
      go : (k : Kind) (value : List ℕ) → given (joined rows rest) ≡ text_of (items rows rest)
          → given (added_by y k value >>= (λ first. joined rows rest >>= (λ others. Ok (first ++ others)))) ≡ text_of (told_before y k value (items rows rest))
      go kinds.Root value more = refl
      go kinds.Element value more = refl
      go kinds.Namespace value more = refl
      go kinds.Attribute value more = refl
      go kinds.Instruction value more = refl
      go kinds.Comment value more = by (joined rows rest) ∙ more
        where
          by : (o : Result (List ℕ) FieldRefusal) → given (o >>= (λ others. Ok ([] ++ others))) ≡ given o
          by (Ok t) = refl
          by (Err refusal) = refl
      go kinds.Text value more =
          given_then (joined rows rest) (λ (t : List ℕ). value ++ t) ∙ ap (option_map (λ (t : List ℕ). value ++ t)) more ∙ sym (text_behind value (items rows rest))

-- ---- readings of children that say the same
module _ (alike : ℕ → ℕ → Type 0) (rows others : List RowOf) (closed : (x z : ℕ) → alike x z → SaysTheSame alike rows others x z) where
  abbrev pub Rows : List ℕ → List ℕ → Type 0
  Rows xs ys = SameItems alike (items rows xs) (items others ys)

  element_same : (x y : ℕ) → alike x y → is_element_at others y ≡ is_element_at rows x
  element_same x y m = ap is_element (closed x y m).kind

  named_same : (name : ElementName) (x y : ℕ) → alike x y → is_named others name y ≡ is_named rows name x
  named_same name x y m =
      ap (λ t. t && bytes_eq (row_at others y).uri (namespace_of name) && bytes_eq (row_at others y).local_name (local_name name)) (element_same x y m)
      ∙ ap (λ t. is_element_at rows x && bytes_eq t (namespace_of name) && bytes_eq (row_at others y).local_name (local_name name)) (closed x y m).uri
      ∙ ap (λ t. is_element_at rows x && bytes_eq (row_at rows x).uri (namespace_of name) && bytes_eq t (local_name name)) (closed x y m).local_name

  -- ---- the next element
  abbrev SameNext : Option (List Item) → Option (List Item) → Type 0
  SameNext None other = Unit {0}
  SameNext (Some its) None = ⊥
  SameNext (Some its) (Some jts) = SameItems alike its jts

  next_same : (its jts : List Item) → SameItems alike its jts → SameNext (next rows its) (next others jts)
  next_same [] [] p = tt
  next_same [] (j ∷ jts) p = absurd p
  next_same (i ∷ its) [] p = absurd p
  next_same (Octet c ∷ its) (Octet d ∷ jts) p =
      subst (λ t. SameNext (if is_space c then next rows its else None) (if is_space t then next others jts else None)) p.0 (go (is_space c) (next_same its jts p.1))
    where
      go : (b : Bool) → SameNext (next rows its) (next others jts) → SameNext (if b then next rows its else None) (if b then next others jts else None)
      go true more = more
      go false more = tt
  next_same (Octet c ∷ its) (Aside ∷ jts) p = absurd p.0
  next_same (Octet c ∷ its) (Inner z ∷ jts) p = absurd p.0
  next_same (Aside ∷ its) (Octet d ∷ jts) p = absurd p.0
  next_same (Aside ∷ its) (Aside ∷ jts) p = next_same its jts p.1
  next_same (Aside ∷ its) (Inner z ∷ jts) p = absurd p.0
  next_same (Inner x ∷ its) (Octet d ∷ jts) p = absurd p.0
  next_same (Inner x ∷ its) (Aside ∷ jts) p = absurd p.0
  next_same (Inner x ∷ its) (Inner z ∷ jts) p =
      subst (λ b. SameNext (if is_element_at rows x then Some (Inner x ∷ its) else None) (if b then Some (Inner z ∷ jts) else None)) (sym (element_same x z p.0)) (go (is_element_at rows x))
    where
      go : (b : Bool) → SameNext (if b then Some (Inner x ∷ its) else None) (if b then Some (Inner z ∷ jts) else None)
      go true = p
      go false = tt

  -- the children from an element on
  abbrev pub Stands : List ℕ → List ℕ → Type 0
  Stands [] [] = Unit {0}
  Stands [] (y ∷ ys) = ⊥
  Stands (x ∷ xs) [] = ⊥
  Stands (x ∷ xs) (y ∷ ys) = alike x y × (is_element_at rows x ≡ true) × Rows xs ys

  stands_of : (xs ys : List ℕ) → Heads rows xs → Heads others ys → Rows xs ys → Stands xs ys
  stands_of [] [] h k r = tt
  stands_of [] (y ∷ ys) h k r = subst (λ t. SameItems alike [] t) (inner_items others y ys k) r
  stands_of (x ∷ xs) [] h k r = subst (λ t. SameItems alike t []) (inner_items rows x xs h) r
  stands_of (x ∷ xs) (y ∷ ys) h k r =
      let both : SameItems alike (Inner x ∷ items rows xs) (Inner y ∷ items others ys) =
      subst (λ t. SameItems alike (Inner x ∷ items rows xs) t) (inner_items others y ys k) (subst (λ t. SameItems alike t (items others (y ∷ ys))) (inner_items rows x xs h) r) in
      (both.0, h, both.1)

  pub rows_of : (xs ys : List ℕ) → Stands xs ys → Rows xs ys
  rows_of [] [] s = tt
  rows_of [] (y ∷ ys) s = absurd s
  rows_of (x ∷ xs) [] s = absurd s
  rows_of (x ∷ xs) (y ∷ ys) s =
      let both : SameItems alike (Inner x ∷ items rows xs) (Inner y ∷ items others ys) = (s.0, s.2) in
      subst (λ t. SameItems alike t (items others (y ∷ ys))) (sym (inner_items rows x xs s.1)) (subst (λ t. SameItems alike (Inner x ∷ items rows xs) t) (sym (inner_items others y ys (element_same x y s.0 ∙ s.1))) both)

  passed_follows : (xs ys : List ℕ) → Rows xs ys → Follows Stands (passed rows xs) (passed others ys)
  passed_follows xs ys r = go (passed rows xs) refl (passed others ys) refl
    where
      seen : (given_here given_there : Option (List Item)) → next rows (items rows xs) ≡ given_here → next others (items others ys) ≡ given_there → SameNext given_here given_there
      seen here there e k = subst (λ o. SameNext o there) e (subst (λ o. SameNext (next rows (items rows xs)) o) k (next_same (items rows xs) (items others ys) r))

      go : (one : Result (List ℕ) FieldRefusal) → passed rows xs ≡ one → (other : Result (List ℕ) FieldRefusal) → passed others ys ≡ other → Follows Stands one other
      go (Err refusal) e other k = tt
      go (Ok left) e (Ok left') k =
          let same : Rows left left' =
          seen (Some (items rows left)) (Some (items others left')) (sym (passed_is rows xs) ∙ ap (λ o. option_map (items rows) (given o)) e) (sym (passed_is others ys) ∙ ap (λ o. option_map (items others) (given o)) k) in
          (left', refl, stands_of left left' (passed_heads rows xs left e) (passed_heads others ys left' k) same)
      go (Ok left) e (Err refusal) k =
          absurd (seen (Some (items rows left)) None (sym (passed_is rows xs) ∙ ap (λ o. option_map (items rows) (given o)) e) (sym (passed_is others ys) ∙ ap (λ o. option_map (items others) (given o)) k))

  -- ---- an element of a name, and the children behind it
  abbrev pub Got : ElementName → (ℕ × List ℕ) → (ℕ × List ℕ) → Type 0
  Got name p q = alike p.0 q.0 × (is_named rows name p.0 ≡ true) × Rows p.1 q.1

  abbrev pub GotIf : ElementName → Option ℕ → Option ℕ → Type 0
  GotIf name None None = Unit {0}
  GotIf name None (Some y) = ⊥
  GotIf name (Some x) None = ⊥
  GotIf name (Some x) (Some y) = alike x y × (is_named rows name x ≡ true)

  taken_follows : (name : ElementName) (xs ys : List ℕ) → Stands xs ys → Follows (Got name) (or_refusal (Missing name) (taken rows name xs)) (or_refusal (Missing name) (taken others name ys))
  taken_follows name [] [] r = tt
  taken_follows name [] (y ∷ ys) r = absurd r
  taken_follows name (x ∷ xs) [] r = absurd r
  taken_follows name (x ∷ xs) (y ∷ ys) r = go (is_named rows name x) refl
    where
      go : (b : Bool) → is_named rows name x ≡ b → Follows (Got name) (or_refusal (Missing name) (if b then Some (x, xs) else None)) (or_refusal (Missing name) (if is_named others name y then Some (y, ys) else None))
      go true e = ((y, ys), ap (λ t. or_refusal (Missing name) (if t then Some (y, ys) else None)) (named_same name x y r.0 ∙ e), (r.0, e, r.2))
      go false e = tt

  pub required_follows : (name : ElementName) (xs ys : List ℕ) → Rows xs ys → Follows (Got name) (required rows name xs) (required others name ys)
  unfolding required
  required_follows name xs ys r = then_follows Stands (Got name) (passed rows xs) (passed others ys) _ _ (passed_follows xs ys r) (taken_follows name)

  abbrev pub GotOr : ElementName → (Option ℕ × List ℕ) → (Option ℕ × List ℕ) → Type 0
  GotOr name p q = GotIf name p.0 q.0 × Rows p.1 q.1

  none_follows : (name : ElementName) (xs ys : List ℕ) → Stands xs ys → Follows (GotOr name) (Ok (or_none xs (taken rows name xs))) (Ok (or_none ys (taken others name ys)))
  none_follows name [] [] r = ((None, []), refl, (tt, tt))
  none_follows name [] (y ∷ ys) r = absurd r
  none_follows name (x ∷ xs) [] r = absurd r
  none_follows name (x ∷ xs) (y ∷ ys) r = go (is_named rows name x) refl
    where
      go : (b : Bool) → is_named rows name x ≡ b → Follows (GotOr name) (Ok (or_none (x ∷ xs) (if b then Some (x, xs) else None))) (Ok (or_none (y ∷ ys) (if is_named others name y then Some (y, ys) else None)))
      go true e = ((Some y, ys), ap (λ t. Ok (or_none (y ∷ ys) (if t then Some (y, ys) else None))) (named_same name x y r.0 ∙ e), ((r.0, e), r.2))
      go false e = ((None, y ∷ ys), ap (λ t. Ok (or_none (y ∷ ys) (if t then Some (y, ys) else None))) (named_same name x y r.0 ∙ e), (tt, rows_of (x ∷ xs) (y ∷ ys) r))

  pub optional_follows : (name : ElementName) (xs ys : List ℕ) → Rows xs ys → Follows (GotOr name) (optional rows name xs) (optional others name ys)
  unfolding optional
  optional_follows name xs ys r = then_follows Stands (GotOr name) (passed rows xs) (passed others ys) _ _ (passed_follows xs ys r) (none_follows name)

  pub optional_if_follows : (b : Bool) (name : ElementName) (xs ys : List ℕ) → Rows xs ys → Follows (GotOr name) (optional_if b rows name xs) (optional_if b others name ys)
  optional_if_follows true name xs ys r = optional_follows name xs ys r
  optional_if_follows false name xs ys r = ((None, ys), refl, (tt, r))

  pub at_end_follows : (xs ys : List ℕ) → Rows xs ys → Follows (Same {A = Unit}) (at_end rows xs) (at_end others ys)
  unfolding at_end
  at_end_follows xs ys r = then_follows Stands (Same {A = Unit}) (passed rows xs) (passed others ys) _ _ (passed_follows xs ys r) none
    where
      none : (a b : List ℕ) → Stands a b → Follows (Same {A = Unit}) (none_left a) (none_left b)
      none [] [] q = (tt, refl, refl)
      none [] (y ∷ b) q = absurd q
      none (x ∷ a) b q = tt

  -- ---- elements of one name
  module _ {A : Type 0} (R : A → A → Type 0) where
    abbrev pub GotMany : (List A × List ℕ) → (List A × List ℕ) → Type 0
    GotMany p q = Pairwise R p.0 q.0 × Rows p.1 q.1

    module _ (too_many : ℕ → FieldRefusal) (name : ElementName) (read read' : ℕ → Result A FieldRefusal) (each : (x y : ℕ) → alike x y → is_named rows name x ≡ true → Follows R (read x) (read' y)) where
      -- what is read from the next element on
      many_at : (rows' : List RowOf) (read'' : ℕ → Result A FieldRefusal) (room : ℕ) (xs left : List ℕ) → passed rows' xs ≡ Ok left
          → many too_many rows' name read'' room xs ≡ after too_many rows' name read'' room (or_none left (taken rows' name left))
      unfolding optional
      many_at rows' read'' room xs left e =
          many_is too_many rows' name read'' room xs ∙ ap (λ o. ◌>>=◌ {B = List A × List ℕ} (◌>>=◌ {B = Option ℕ × List ℕ} o (λ l. Ok (or_none l (taken rows' name l)))) (after too_many rows' name read'' room)) e

      abbrev Both : ℕ → List ℕ → List ℕ → Type 0
      Both room xs ys = Follows GotMany (many too_many rows name read room xs) (many too_many others name read' room ys)

      after_follows : (room x y : ℕ) (xs ys : List ℕ) → Stands (x ∷ xs) (y ∷ ys) → (Rows xs ys → Both (room - 1) xs ys) → (b none : Bool) → is_named rows name x ≡ b → (room == 0) ≡ none
          → Follows GotMany (after too_many rows name read room (or_none (x ∷ xs) (if b then Some (x, xs) else None))) (after too_many others name read' room (or_none (y ∷ ys) (if b then Some (y, ys) else None)))
      after_follows room x y xs ys s more true true n e = rw e tt
      after_follows room x y xs ys s more true false n e =
          rw e (then_follows R GotMany (read x) (read' y) _ _ (each x y s.0 n) (λ a b ab.
          then_follows GotMany GotMany (many too_many rows name read (room - 1) xs) (many too_many others name read' (room - 1) ys) _ _ (more s.2) (λ c d cd.
          ((b ∷ d.0, d.1), refl, ((ab, cd.0), cd.1)))))
      after_follows room x y xs ys s more false none n e = (([], y ∷ ys), refl, (tt, rows_of (x ∷ xs) (y ∷ ys) s))

      skipped : (room x : ℕ) (xs : List ℕ) → is_element_at rows x ≡ false → is_passed rows x ≡ true → many too_many rows name read room (x ∷ xs) ≡ many too_many rows name read room xs
      unfolding many
      skipped room x xs e p = rw (e, p) refl

      refused : (room x : ℕ) (xs : List ℕ) → is_element_at rows x ≡ false → is_passed rows x ≡ false → many too_many rows name read room (x ∷ xs) ≡ Err (Extra x)
      unfolding many
      refused room x xs e p = rw (e, p) refl

      -- an element stands first
      many_first : (room x : ℕ) (xs ys left : List ℕ) → passed rows (x ∷ xs) ≡ Ok (x ∷ xs) → passed others ys ≡ Ok left → Stands (x ∷ xs) left
          → ((zs : List ℕ) → Follows Stands (passed rows xs) (passed others zs) → Both (room - 1) xs zs) → Both room (x ∷ xs) ys
      many_first room x xs ys [] e k s fewer = absurd s
      many_first room x xs ys (z ∷ zs) e k s fewer =
          let both = after_follows room x z xs zs s (λ r. fewer zs (passed_follows xs zs r)) (is_named rows name x) (room == 0) refl refl in
          let there : many too_many others name read' room ys ≡ after too_many others name read' room (or_none (z ∷ zs) (if is_named rows name x then Some (z, zs) else None)) =
          many_at others read' room ys (z ∷ zs) k ∙ ap (λ b. after too_many others name read' room (or_none (z ∷ zs) (if b then Some (z, zs) else None))) (named_same name x z s.0) in
          subst (λ o. Follows GotMany o (many too_many others name read' room ys)) (sym (many_at rows read room (x ∷ xs) (x ∷ xs) e))
          (subst (λ o. Follows GotMany (after too_many rows name read room (or_none (x ∷ xs) (taken rows name (x ∷ xs)))) o) (sym there) both)

      many_none : (room : ℕ) (ys left : List ℕ) → passed others ys ≡ Ok left → Stands [] left → Both room [] ys
      unfolding many
      many_none room ys [] e s = (([], []), many_at others read' room ys [] e, (tt, tt))
      many_none room ys (z ∷ zs) e s = absurd s

      many_from : (room : ℕ) (xs ys : List ℕ) → Follows Stands (passed rows xs) (passed others ys) → Both room xs ys
      unfolding passed
      many_from room [] ys f = many_none room ys f.0 f.1 f.2
      many_from room (x ∷ xs) ys f = go (is_element_at rows x) (is_passed rows x) refl refl (many_from room xs ys) (λ zs. many_from (room - 1) xs zs) f
        where
          go : (e p : Bool) → is_element_at rows x ≡ e → is_passed rows x ≡ p
              → (Follows Stands (passed rows xs) (passed others ys) → Both room xs ys)
              → ((zs : List ℕ) → Follows Stands (passed rows xs) (passed others zs) → Both (room - 1) xs zs)
              → Follows Stands (by_tests rows e p x xs) (passed others ys) → Both room (x ∷ xs) ys
          go true p e q more fewer f = many_first room x xs ys f.0 (ap (λ b. by_tests rows b (is_passed rows x) x xs) e) f.1 f.2 fewer
          go false true e q more fewer f = subst (λ o. Follows GotMany o (many too_many others name read' room ys)) (sym (skipped room x xs e q)) (more f)
          go false false e q more fewer f = subst (λ o. Follows GotMany o (many too_many others name read' room ys)) (sym (refused room x xs e q)) tt

      pub one_or_more_follows : (limit : ℕ) (xs ys : List ℕ) → Rows xs ys → Follows GotMany (one_or_more too_many rows name read limit xs) (one_or_more too_many others name read' limit ys)
      unfolding one_or_more
      one_or_more_follows limit xs ys r =
          then_follows (Got name) GotMany (required rows name xs) (required others name ys) _ _ (required_follows name xs ys r) (λ p q pq.
          then_follows R GotMany (read p.0) (read' q.0) _ _ (each p.0 q.0 pq.0 pq.1) (λ a b ab.
          then_follows GotMany GotMany (many too_many rows name read (limit - 1) p.1) (many too_many others name read' (limit - 1) q.1) _ _ (many_from (limit - 1) p.1 q.1 (passed_follows p.1 q.1 pq.2)) (λ c d cd.
          ((b ∷ d.0, d.1), refl, ((ab, cd.0), cd.1)))))

  -- ---- simple content
  text_same : (its jts : List Item) → SameItems alike its jts → text_of its ≡ text_of jts
  text_same [] [] p = refl
  text_same [] (j ∷ jts) p = absurd p
  text_same (i ∷ its) [] p = absurd p
  text_same (Octet c ∷ its) (Octet d ∷ jts) p = ap (λ t. option_map (λ (w : List ℕ). t ∷ w) (text_of its)) p.0 ∙ ap (option_map (λ (w : List ℕ). d ∷ w)) (text_same its jts p.1)
  text_same (Octet c ∷ its) (Aside ∷ jts) p = absurd p.0
  text_same (Octet c ∷ its) (Inner z ∷ jts) p = absurd p.0
  text_same (Aside ∷ its) (Octet d ∷ jts) p = absurd p.0
  text_same (Aside ∷ its) (Aside ∷ jts) p = refl
  text_same (Aside ∷ its) (Inner z ∷ jts) p = absurd p.0
  text_same (Inner x ∷ its) (Octet d ∷ jts) p = absurd p.0
  text_same (Inner x ∷ its) (Aside ∷ jts) p = absurd p.0
  text_same (Inner x ∷ its) (Inner z ∷ jts) p = refl

  joined_follows : (xs ys : List ℕ) → Rows xs ys → Follows (Same {A = List ℕ}) (joined rows xs) (joined others ys)
  joined_follows xs ys r = follows_given (joined rows xs) (joined others ys) (joined_is rows xs ∙ text_same (items rows xs) (items others ys) r ∙ sym (joined_is others ys))

  pub text_follows : (x y : ℕ) → alike x y → Follows (Same {A = List ℕ}) (simple_text rows x) (simple_text others y)
  text_follows x y m = joined_follows (children rows x) (children others y) (closed x y m).content

  pub octets_follow : (x y : ℕ) → alike x y → Follows (Same {A = List ℕ}) (simple_octets rows x) (simple_octets others y)
  unfolding simple_octets
  octets_follow x y m =
      then_same (Same {A = List ℕ}) (simple_text rows x) (simple_text others y) _ _ (text_follows x y m) (λ text. same_option (BadBase64 x) (BadBase64 y) (octets_in text))

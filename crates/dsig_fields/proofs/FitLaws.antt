-- What holds of the fields that are read: their rows are elements, and they keep within the limits.
use Rattle.std.proofs.Common.{◌≡◌, ℕ, ◌<◌, ◌≤◌, ◌-◌, ◌==◌, Bool, true, false, List, [], ◌∷◌, length, refl, sym, ◌∙◌, arith}
use Rattle.std.specs.Prelude.{Option, Some, None, Result, Ok, Err, IfOk, bytes_eq, codes, if◌then◌else◌}
use Rattle.std.specs.List.{All}
use Rattle.std.proofs.lemmas.Bool.{eqb-false, false≢true}
use Rattle.std.proofs.lemmas.List.Elements.{All-cons}
use Rattle.sig_base.specs.Methods.{is_exclusive, canon_method_of, mac_method_of}
use Rattle.sig_base.specs.declared.method.CanonMethod.{CanonMethod}
use Rattle.sig_base.specs.declared.method.MacMethod.{MacMethod}
use Rattle.xml_doc.specs.Rows.{RowOf}
use Rattle.xml_doc.specs.Shape.{IsWellShaped}
use Rattle.dsig_fields.specs.Fields.{algorithm, mac_refusal, filter_kind_in, digest_method, key_info_if, inner_prefixes, canonicalization_method, output_length, signature_method, canonicalizing_step, filter_at, other_step, step_by, transform, transforms, transforms_if, reference, info_fields, fields_of}
use Rattle.dsig_fields.specs.Fields.{bare_step, xpath_step, filters_step}
use Rattle.dsig_fields.specs.Fits.{IsElement, PrefixesFit, FilterFits, StepFits, ReferenceFits, InfoFits, FieldsFit}
use Rattle.dsig_fields.specs.Lengths.{length_in, kept_if, decimal_in, trimmed, may_keep}
use Rattle.dsig_fields.specs.Reading.{Gives, or_refusal, attribute, passed, taken, required, optional, optional_if, behind_all, many, one_or_more, at_end, children, is_named, is_element_at, is_passed}
use Rattle.dsig_fields.specs.Simple.{simple_text, simple_octets}
use Rattle.dsig_fields.specs.declared.names.ElementName.{ElementName}
use Rattle.dsig_fields.specs.declared.names.ElementName.TheVariants as names
use Rattle.dsig_fields.specs.declared.names.ElementName.TheVariants.{XPath, FilterXPath, Transform, DigestValue, SignedInfo, SignatureValue}
use Rattle.dsig_fields.specs.declared.refusal.FieldRefusal.{FieldRefusal}
use Rattle.dsig_fields.specs.declared.refusal.FieldRefusal.TheVariants.{Missing, UnknownMethod, Xslt, BadLength, BadFilter, NoUri, TooManyFilters, TooManyTransforms, TooManyReferences}
use Rattle.dsig_fields.specs.declared.fields.Filter.{Filter}
use Rattle.dsig_fields.specs.declared.fields.Step.{Step}
use Rattle.dsig_fields.specs.declared.fields.Step.TheVariants as step
use Rattle.dsig_fields.specs.declared.fields.Reference.{Reference}
use Rattle.dsig_fields.specs.declared.fields.Info.{Info}
use Rattle.dsig_fields.specs.declared.fields.Fields.{Fields}
use Rattle.dsig_fields.specs.declared.fields.Canonicalization.{Canonicalization}
use Rattle.dsig_fields.specs.declared.fields.Authentication.{Authentication}
use Rattle.dsig_fields.proofs.RiseLaws.{rows_in_order}
use Rattle.dsig_fields.proofs.Steps.{then_fits, in_any_case, named_fits}

-- ---- steps
above_zero : (n : ℕ) → (n == 0) ≡ false → 0 < n
above_zero n e = let h = eqb-false n 0 e in omega (arith, h)

taken_fits : (rows : List RowOf) (name : ElementName) (xs : List ℕ) → IfOk (or_refusal (Missing name) (taken rows name xs)) (λ p. IsElement rows p.0)
taken_fits rows name [] = tt
taken_fits rows name (y ∷ rest) = go (is_named rows name y) refl
  where
    go : (n : Bool) → is_named rows name y ≡ n → IfOk (or_refusal (Missing name) (taken rows name (y ∷ rest))) (λ p. IsElement rows p.0)
    go true e = rw e (named_fits rows name y e)
    go false e = rw e tt

required_fits : (rows : List RowOf) (name : ElementName) (xs : List ℕ) → IfOk (required rows name xs) (λ p. IsElement rows p.0)
unfolding required
required_fits rows name xs = in_any_case (λ (p : ℕ × List ℕ). IsElement rows p.0) (passed rows xs) _ (λ left. taken_fits rows name left)

many_fits : {A : Type 0} (Fits : A → Type 0) (too_many : ℕ → FieldRefusal) (rows : List RowOf) (name : ElementName) (read : ℕ → Result A FieldRefusal)
    → ((y : ℕ) → IsElement rows y → IfOk (read y) Fits)
    → (room : ℕ) (xs : List ℕ) → IfOk (many too_many rows name read room xs) (λ p. (length p.0 ≤ room) × All Fits p.0)
unfolding many
many_fits {A} Fits too_many rows name read each room [] = (omega arith, λ k d h. absurd (omega (arith, h)))
many_fits {A} Fits too_many rows name read each room (y ∷ rest) = go (is_named rows name y) (room == 0) (is_element_at rows y) (is_passed rows y) (many_fits Fits too_many rows name read each room rest) (many_fits Fits too_many rows name read each (room - 1) rest) refl refl refl refl
  where
    go : (n none e p : Bool)
        → IfOk (many too_many rows name read room rest) (λ q. (length q.0 ≤ room) × All Fits q.0)
        → IfOk (many too_many rows name read (room - 1) rest) (λ q. (length q.0 ≤ room - 1) × All Fits q.0)
        → is_named rows name y ≡ n → (room == 0) ≡ none → is_element_at rows y ≡ e → is_passed rows y ≡ p
        → IfOk (many too_many rows name read room (y ∷ rest)) (λ q. (length q.0 ≤ room) × All Fits q.0)
    go true true e p same less is_n is_none is_e is_p = rw (is_n, is_none) tt
    go true false e p same less is_n is_none is_e is_p =
        rw (is_n, is_none) (then_fits Fits (λ (q : List A × List ℕ). (length q.0 ≤ room) × All Fits q.0) (read y) _ (each y (named_fits rows name y is_n)) (λ first fit.
        then_fits (λ (q : List A × List ℕ). (length q.0 ≤ room - 1) × All Fits q.0) (λ (q : List A × List ℕ). (length q.0 ≤ room) × All Fits q.0) (many too_many rows name read (room - 1) rest) _ less (λ others h.
        (omega (arith, h.0, above_zero room is_none), All-cons Fits first others.0 fit h.1))))
    go false none true p same less is_n is_none is_e is_p = rw (is_n, is_e) (omega arith, λ k d h. absurd (omega (arith, h)))
    go false none false true same less is_n is_none is_e is_p = rw (is_n, is_e, is_p) same
    go false none false false same less is_n is_none is_e is_p = rw (is_n, is_e, is_p) tt

pub one_or_more_fits : {A : Type 0} (Fits : A → Type 0) (too_many : ℕ → FieldRefusal) (rows : List RowOf) (name : ElementName) (read : ℕ → Result A FieldRefusal)
    → ((y : ℕ) → IsElement rows y → IfOk (read y) Fits)
    → (limit : ℕ) → 0 < limit → (xs : List ℕ) → IfOk (one_or_more too_many rows name read limit xs) (λ p. (length p.0 ≤ limit) × All Fits p.0)
unfolding one_or_more
one_or_more_fits {A} Fits too_many rows name read each limit some xs =
    let Q : List A × List ℕ → Type 0 = λ q. (length q.0 ≤ limit) × All Fits q.0 in
    then_fits (λ (p : ℕ × List ℕ). IsElement rows p.0) Q (required rows name xs) _ (required_fits rows name xs) (λ first element.
    then_fits Fits Q (read first.0) _ (each first.0 element) (λ one fit.
    then_fits (λ (q : List A × List ℕ). (length q.0 ≤ limit - 1) × All Fits q.0) Q (many too_many rows name read (limit - 1) first.1) _ (many_fits Fits too_many rows name read each (limit - 1) first.1) (λ others h.
    (omega (arith, h.0, some), All-cons Fits one others.0 fit h.1))))

-- ---- methods
inner_prefixes_fit : (rows : List RowOf) (method : CanonMethod) (x : ℕ) → IfOk (inner_prefixes rows method x) (PrefixesFit method)
unfolding inner_prefixes
inner_prefixes_fit rows method x = go (is_exclusive method) refl
  where
    go : (b : Bool) → is_exclusive method ≡ b → IfOk (inner_prefixes rows method x) (λ prefixes. is_exclusive method ≡ false → prefixes ≡ [])
    go true e = let Q : List (List ℕ) → Type 0 = λ prefixes. is_exclusive method ≡ false → prefixes ≡ [] in in_any_case Q (optional_if (is_exclusive method) rows names.InclusiveNamespaces (children rows x)) _ (λ list. in_any_case Q (at_end rows list.1) _ (λ nothing no. absurd (false≢true (sym no ∙ e))))
    go false e = rw e (in_any_case (λ (prefixes : List (List ℕ)). false ≡ false → prefixes ≡ []) (at_end rows (children rows x)) _ (λ nothing no. refl))

canonicalization_fits : (rows : List RowOf) (x : ℕ) → IfOk (canonicalization_method rows x) (λ c. PrefixesFit c.method c.prefixes)
unfolding canonicalization_method
canonicalization_fits rows x =
    let Q : Canonicalization → Type 0 = λ c. PrefixesFit c.method c.prefixes in
    in_any_case Q (algorithm rows x) _ (λ uri. in_any_case Q (or_refusal (UnknownMethod x) (canon_method_of uri)) _ (λ method.
    then_fits (PrefixesFit method) Q (inner_prefixes rows method x) _ (inner_prefixes_fit rows method x) (λ prefixes fit. fit)))

kept_if_fits : (mac : MacMethod) (x : ℕ) (bits : Option ℕ) → IfOk (or_refusal (BadLength x) (kept_if mac bits)) (λ n. may_keep mac n ≡ true)
kept_if_fits mac x None = tt
kept_if_fits mac x (Some bits) = go (may_keep mac bits) refl
  where
    go : (b : Bool) → may_keep mac bits ≡ b → IfOk (or_refusal (BadLength x) (kept_if mac (Some bits))) (λ n. may_keep mac n ≡ true)
    go true e = rw e e
    go false e = rw e tt

length_fits : (mac : MacMethod) (x : ℕ) (text : List ℕ) → IfOk (or_refusal (BadLength x) (length_in mac text)) (λ n. may_keep mac n ≡ true)
unfolding length_in
length_fits mac x text = kept_if_fits mac x (decimal_in (trimmed text))

output_length_fits : (rows : List RowOf) (mac : MacMethod) (row : Option ℕ) → IfOk (output_length rows mac row) (λ bits. (n : ℕ) → bits ≡ Some n → may_keep mac n ≡ true)
output_length_fits rows mac None = λ n e. cc
output_length_fits rows mac (Some x) =
    let Q : Option ℕ → Type 0 = λ bits. (n : ℕ) → bits ≡ Some n → may_keep mac n ≡ true in
    in_any_case Q (simple_text rows x) _ (λ text.
    then_fits (λ (n : ℕ). may_keep mac n ≡ true) Q (or_refusal (BadLength x) (length_in mac text)) _ (length_fits mac x text) (λ bits kept n e. let is : bits ≡ n = cc in rw (← is) kept))

signature_method_fits : (rows : List RowOf) (x : ℕ) → IfOk (signature_method rows x) (λ a. (n : ℕ) → a.bits ≡ Some n → may_keep a.mac n ≡ true)
unfolding signature_method
signature_method_fits rows x =
    let Q : Authentication → Type 0 = λ a. (n : ℕ) → a.bits ≡ Some n → may_keep a.mac n ≡ true in
    in_any_case Q (algorithm rows x) _ (λ uri. in_any_case Q (or_refusal (mac_refusal x uri) (mac_method_of uri)) _ (λ mac. in_any_case Q (optional rows names.HmacOutputLength (children rows x)) _ (λ row.
    then_fits (λ (bits : Option ℕ). (n : ℕ) → bits ≡ Some n → may_keep mac n ≡ true) Q (output_length rows mac row.0) _ (output_length_fits rows mac row.0) (λ bits fit.
    in_any_case Q (at_end rows row.1) _ (λ nothing. fit)))))

-- ---- transforms
bare_step_fits : (rows : List RowOf) (x : ℕ) (work : Step) → StepFits rows work → IfOk (bare_step rows x work) (StepFits rows)
unfolding bare_step
bare_step_fits rows x work fit = in_any_case (StepFits rows) (at_end rows (children rows x)) _ (λ nothing. fit)

canonicalizing_step_fits : (rows : List RowOf) (x : ℕ) (method : CanonMethod) → IfOk (canonicalizing_step rows x method) (StepFits rows)
unfolding canonicalizing_step
canonicalizing_step_fits rows x method = then_fits (PrefixesFit method) (StepFits rows) (inner_prefixes rows method x) _ (inner_prefixes_fit rows method x) (λ prefixes fit. fit)

xpath_step_fits : (rows : List RowOf) (x : ℕ) → IfOk (xpath_step rows x) (StepFits rows)
unfolding xpath_step
xpath_step_fits rows x =
    then_fits (λ (p : ℕ × List ℕ). IsElement rows p.0) (StepFits rows) (required rows XPath (children rows x)) _ (required_fits rows XPath (children rows x)) (λ expression element.
    in_any_case (StepFits rows) (simple_text rows expression.0) _ (λ text. in_any_case (StepFits rows) (at_end rows expression.1) _ (λ nothing. element)))

filter_fits : (rows : List RowOf) (y : ℕ) → IsElement rows y → IfOk (filter_at rows y) (FilterFits rows)
unfolding filter_at
filter_fits rows y element =
    in_any_case (FilterFits rows) (or_refusal (BadFilter y) (filter_kind_in (attribute rows y (codes "Filter")))) _ (λ kind. in_any_case (FilterFits rows) (simple_text rows y) _ (λ text. element))

filters_step_fits : (rows : List RowOf) (x : ℕ) → IfOk (filters_step rows x) (StepFits rows)
unfolding filters_step
filters_step_fits rows x =
    then_fits (λ (p : List Filter × List ℕ). (length p.0 ≤ 16) × All (FilterFits rows) p.0) (StepFits rows) (one_or_more TooManyFilters rows FilterXPath (filter_at rows) 16 (children rows x)) _ (one_or_more_fits (FilterFits rows) TooManyFilters rows FilterXPath (filter_at rows) (filter_fits rows) 16 (omega arith) (children rows x)) (λ filters fit.
    in_any_case (StepFits rows) (at_end rows filters.1) _ (λ nothing. fit))

chosen_step_fits : (rows : List RowOf) (x : ℕ) (base64 enveloped xpath filters xslt : Bool)
    → IfOk (if base64 then bare_step rows x step.Base64 else (if enveloped then bare_step rows x step.Enveloped else (if xpath then xpath_step rows x else (if filters then filters_step rows x else (if xslt then Err (Xslt x) else Err (UnknownMethod x)))))) (StepFits rows)
chosen_step_fits rows x true enveloped xpath filters xslt = bare_step_fits rows x step.Base64 tt
chosen_step_fits rows x false true xpath filters xslt = bare_step_fits rows x step.Enveloped tt
chosen_step_fits rows x false false true filters xslt = xpath_step_fits rows x
chosen_step_fits rows x false false false true xslt = filters_step_fits rows x
chosen_step_fits rows x false false false false true = tt
chosen_step_fits rows x false false false false false = tt

other_step_fits : (rows : List RowOf) (x : ℕ) (uri : List ℕ) → IfOk (other_step rows x uri) (StepFits rows)
other_step_fits rows x uri =
    let is : List ℕ → Bool = bytes_eq uri in
    chosen_step_fits rows x (is (codes "http://www.w3.org/2000/09/xmldsig#base64")) (is (codes "http://www.w3.org/2000/09/xmldsig#enveloped-signature"))
    (is (codes "http://www.w3.org/TR/1999/REC-xpath-19991116")) (is (codes "http://www.w3.org/2002/06/xmldsig-filter2")) (is (codes "http://www.w3.org/TR/1999/REC-xslt-19991116"))

step_by_fits : (rows : List RowOf) (x : ℕ) (uri : List ℕ) (method : Option CanonMethod) → IfOk (step_by rows x uri method) (StepFits rows)
step_by_fits rows x uri (Some method) = canonicalizing_step_fits rows x method
step_by_fits rows x uri None = other_step_fits rows x uri

transform_fits : (rows : List RowOf) (x : ℕ) → IfOk (transform rows x) (StepFits rows)
unfolding transform
transform_fits rows x = in_any_case (StepFits rows) (algorithm rows x) _ (λ uri. step_by_fits rows x uri (canon_method_of uri))

abbrev StepsFit : List RowOf → List Step → Type 0
StepsFit rows steps = (length steps ≤ 16) × All (StepFits rows) steps

transforms_fit : (rows : List RowOf) (x : ℕ) → IfOk (transforms rows x) (StepsFit rows)
unfolding transforms
transforms_fit rows x =
    then_fits (λ (p : List Step × List ℕ). StepsFit rows p.0) (StepsFit rows) (one_or_more TooManyTransforms rows Transform (transform rows) 16 (children rows x)) _ (one_or_more_fits (StepFits rows) TooManyTransforms rows Transform (transform rows) (λ y element. transform_fits rows y) 16 (omega arith) (children rows x)) (λ steps fit.
    in_any_case (StepsFit rows) (at_end rows steps.1) _ (λ nothing. fit))

transforms_if_fit : (rows : List RowOf) (row : Option ℕ) → IfOk (transforms_if rows row) (StepsFit rows)
transforms_if_fit rows None = (omega arith, λ k d h. absurd (omega (arith, h)))
transforms_if_fit rows (Some x) = transforms_fit rows x

-- ---- References, SignedInfo and Signature
pub reference_fits : (rows : List RowOf) (y : ℕ) → IsElement rows y → IfOk (reference rows y) (ReferenceFits rows)
unfolding reference
reference_fits rows y element =
    let Q = ReferenceFits rows in
    in_any_case Q (or_refusal (NoUri y) (attribute rows y (codes "URI"))) _ (λ uri. in_any_case Q (optional rows names.Transforms (children rows y)) _ (λ before.
    then_fits (StepsFit rows) Q (transforms_if rows before.0) _ (transforms_if_fit rows before.0) (λ steps fit.
    in_any_case Q (required rows names.DigestMethod before.1) _ (λ method. in_any_case Q (digest_method rows method.0) _ (λ digest.
    then_fits (λ (p : ℕ × List ℕ). IsElement rows p.0) Q (required rows DigestValue method.1) _ (required_fits rows DigestValue method.1) (λ value digest_row.
    in_any_case Q (simple_octets rows value.0) _ (λ expected. in_any_case Q (at_end rows value.1) _ (λ nothing. record { row = element; digest_row = digest_row; few = fit.0; steps = fit.1 }))))))))

info_fits : (rows : List RowOf) (x : ℕ) → IfOk (info_fields rows x) (InfoFits rows)
unfolding info_fields
info_fits rows x =
    let Q = InfoFits rows in
    in_any_case Q (required rows names.CanonicalizationMethod (children rows x)) _ (λ first.
    then_fits (λ (c : Canonicalization). PrefixesFit c.method c.prefixes) Q (canonicalization_method rows first.0) _ (canonicalization_fits rows first.0) (λ canonicalization prefixes.
    in_any_case Q (required rows names.SignatureMethod first.1) _ (λ second.
    then_fits (λ (a : Authentication). (n : ℕ) → a.bits ≡ Some n → may_keep a.mac n ≡ true) Q (signature_method rows second.0) _ (signature_method_fits rows second.0) (λ authentication bits.
    then_fits (λ (p : List Reference × List ℕ). (length p.0 ≤ 256) × All (ReferenceFits rows) p.0) Q (one_or_more (λ y. TooManyReferences) rows names.Reference (reference rows) 256 second.1) _ (one_or_more_fits (ReferenceFits rows) (λ y. TooManyReferences) rows names.Reference (reference rows) (reference_fits rows) 256 (omega arith) second.1) (λ references fit.
    in_any_case Q (at_end rows references.1) _ (λ nothing. record { prefixes = prefixes; bits = bits; few = fit.0; references = fit.1 }))))))

-- all but the order of the rows
record AllFit (rows : List RowOf) (fields : Fields) : Type 0 where
  signed_info : IsElement rows fields.signed_info
  value_row : IsElement rows fields.value_row
  info : InfoFits rows (record { canon = fields.canon; prefixes = fields.prefixes; mac = fields.mac; bits = fields.bits; references = fields.references })

fields_fit_if : (rows : List RowOf) (x : ℕ) → IfOk (fields_of rows x) (AllFit rows)
unfolding fields_of
fields_fit_if rows x =
    let Q = AllFit rows in
    then_fits (λ (p : ℕ × List ℕ). IsElement rows p.0) Q (required rows SignedInfo (children rows x)) _ (required_fits rows SignedInfo (children rows x)) (λ first signed_info.
    then_fits (InfoFits rows) Q (info_fields rows first.0) _ (info_fits rows first.0) (λ info fit.
    then_fits (λ (p : ℕ × List ℕ). IsElement rows p.0) Q (required rows SignatureValue first.1) _ (required_fits rows SignatureValue first.1) (λ second value_row.
    in_any_case Q (simple_octets rows second.0) _ (λ value. in_any_case Q (optional rows names.KeyInfo second.1) _ (λ third. in_any_case Q (key_info_if rows third.0) _ (λ key_name.
    in_any_case Q (behind_all rows names.Object third.1) _ (λ left. in_any_case Q (at_end rows left) _ (λ nothing.
    record { signed_info = signed_info; value_row = value_row; info = fit }))))))))

pub read_info_fits : (rows : List RowOf) (x : ℕ) (answer : Result Info FieldRefusal) → Gives (λ (i : Info). i) answer (info_fields rows x) → IfOk answer (InfoFits rows)
read_info_fits rows x (Ok read) is = rw is at (info_fits rows x)
read_info_fits rows x (Err refusal) is = tt

pub fields_fit : (rows : List RowOf) (x : ℕ) (read : Fields) → IsWellShaped rows → fields_of rows x ≡ Ok read → FieldsFit rows read
fields_fit rows x read shape is =
    let fit : AllFit rows read = rw is at (fields_fit_if rows x) in
    let order = rows_in_order rows shape x read is in
    record {
      signed_info = fit.signed_info;
      value_row = fit.value_row;
      prefixes = fit.info.prefixes;
      bits = fit.info.bits;
      few = fit.info.few;
      references = fit.info.references;
      digest_rows = order.digest_rows;
      value_behind = order.value_behind;
    }

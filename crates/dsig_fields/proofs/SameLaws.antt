-- Elements of a signature that say the same: XML Signature 1.1, section 4.
use Rattle.std.proofs.Common.{◌≡◌, ℕ, zero, suc, Bool, true, false, List, [], ◌∷◌, refl, sym, ap, subst}
use Rattle.std.specs.Prelude.{Option, Some, None, Err, bytes_eq, codes, if◌then◌else◌}
use Rattle.std.specs.Str.{chars}
use Rattle.sig_base.specs.Methods.{is_exclusive, canon_method_of, mac_method_of, digest_method_of}
use Rattle.sig_base.specs.declared.method.CanonMethod.{CanonMethod}
use Rattle.sig_base.specs.declared.method.DigestMethod.{DigestMethod}
use Rattle.sig_base.specs.declared.method.FilterKind.{FilterKind}
use Rattle.sig_base.specs.declared.method.MacMethod.{MacMethod}
use Rattle.xml_doc.specs.Rows.{RowOf}
use Rattle.dsig_fields.specs.Fields.{algorithm, prefix_list, mac_refusal, filter_kind_in, digest_method, inner_prefixes, canonicalization_method, output_length, signature_method, bare_step, canonicalizing_step, xpath_step, filter_at, filters_step, step_by, transform, transforms, transforms_if, names_manifest, reference, info_fields}
use Rattle.dsig_fields.specs.Follows.{Follows}
use Rattle.dsig_fields.specs.Lengths.{length_in}
use Rattle.dsig_fields.specs.Prefixes.{names_in_list}
use Rattle.dsig_fields.specs.Reading.{or_refusal, attribute, required, optional, optional_if, one_or_more, at_end, children, is_named}
use Rattle.dsig_fields.specs.Same.{Item, Octet, Aside, Inner, Pairwise, SameItem, SameItems, SaysTheSame, SameTo, SameElement, SameFilter, SameStep, SameReference, SameInfo, InfoSaysTheSame}
use Rattle.dsig_fields.specs.Simple.{simple_text, simple_octets}
use Rattle.dsig_fields.specs.declared.names.ElementName.{ElementName}
use Rattle.dsig_fields.specs.declared.names.ElementName.TheVariants as names
use Rattle.dsig_fields.specs.declared.refusal.FieldRefusal.TheVariants.{NoAlgorithm, UnknownMethod, Xslt, BadLength, BadFilter, NoUri, TooManyFilters, TooManyTransforms, TooManyReferences}
use Rattle.dsig_fields.specs.declared.fields.Authentication.{Authentication}
use Rattle.dsig_fields.specs.declared.fields.Canonicalization.{Canonicalization}
use Rattle.dsig_fields.specs.declared.fields.Step.{Step}
use Rattle.dsig_fields.specs.declared.fields.Step.TheVariants as step
use Rattle.dsig_fields.proofs.SameChildren as read
use Rattle.dsig_fields.proofs.SameChildren.{Same, then_follows, then_same, same_option}

module _ (alike : ℕ → ℕ → Type 0) (rows others : List RowOf) (closed : (x z : ℕ) → alike x z → SaysTheSame alike rows others x z) where
  abbrev Rows : List ℕ → List ℕ → Type 0
  Rows = read.Rows alike rows others closed

  abbrev Got : ElementName → (ℕ × List ℕ) → (ℕ × List ℕ) → Type 0
  Got = read.Got alike rows others closed

  abbrev GotIf : ElementName → Option ℕ → Option ℕ → Type 0
  GotIf = read.GotIf alike rows others closed

  abbrev GotOr : ElementName → (Option ℕ × List ℕ) → (Option ℕ × List ℕ) → Type 0
  GotOr = read.GotOr alike rows others closed

  abbrev GotMany : {A : Type 0} → (A → A → Type 0) → (List A × List ℕ) → (List A × List ℕ) → Type 0
  GotMany {A} R = read.GotMany alike rows others closed {A = A} R

  algorithm_same : (x y : ℕ) → alike x y → Follows (Same {A = List ℕ}) (algorithm rows x) (algorithm others y)
  algorithm_same x y m = subst (λ o. Follows (Same {A = List ℕ}) (algorithm rows x) (or_refusal (NoAlgorithm y) o)) (sym ((closed x y m).attributes (codes "Algorithm"))) (same_option (NoAlgorithm x) (NoAlgorithm y) (attribute rows x (codes "Algorithm")))

  prefix_list_same : (name : ElementName) (a b : Option ℕ) → GotIf name a b → prefix_list others b ≡ prefix_list rows a
  prefix_list_same name None None g = refl
  prefix_list_same name None (Some y) g = absurd g
  prefix_list_same name (Some x) None g = absurd g
  prefix_list_same name (Some x) (Some y) g = ap names_in_list ((closed x y g.0).attributes (codes "PrefixList"))

  -- ---- methods
  inner_prefixes_same : (method : CanonMethod) (x y : ℕ) → alike x y → Follows (Same {A = List (List ℕ)}) (inner_prefixes rows method x) (inner_prefixes others method y)
  unfolding inner_prefixes
  inner_prefixes_same method x y m =
      then_follows (GotOr names.InclusiveNamespaces) (Same {A = List (List ℕ)}) (optional_if (is_exclusive method) rows names.InclusiveNamespaces (children rows x)) (optional_if (is_exclusive method) others names.InclusiveNamespaces (children others y)) _ _
      (read.optional_if_follows alike rows others closed (is_exclusive method) names.InclusiveNamespaces (children rows x) (children others y) (closed x y m).content) (λ p q pq.
      then_same (Same {A = List (List ℕ)}) (at_end rows p.1) (at_end others q.1) _ _ (read.at_end_follows alike rows others closed p.1 q.1 pq.1) (λ nothing. (prefix_list others q.0, refl, sym (prefix_list_same names.InclusiveNamespaces p.0 q.0 pq.0))))

  canonicalization_same : (x y : ℕ) → alike x y → Follows (Same {A = Canonicalization}) (canonicalization_method rows x) (canonicalization_method others y)
  unfolding canonicalization_method
  canonicalization_same x y m =
      then_same (Same {A = Canonicalization}) (algorithm rows x) (algorithm others y) _ _ (algorithm_same x y m) (λ uri.
      then_same (Same {A = Canonicalization}) (or_refusal (UnknownMethod x) (canon_method_of uri)) (or_refusal (UnknownMethod y) (canon_method_of uri)) _ _ (same_option (UnknownMethod x) (UnknownMethod y) (canon_method_of uri)) (λ method.
      then_same (Same {A = Canonicalization}) (inner_prefixes rows method x) (inner_prefixes others method y) _ _ (inner_prefixes_same method x y m) (λ prefixes. (record { method = method; prefixes = prefixes }, refl, refl))))

  output_length_same : (mac : MacMethod) (a b : Option ℕ) → GotIf names.HmacOutputLength a b → Follows (Same {A = Option ℕ}) (output_length rows mac a) (output_length others mac b)
  output_length_same mac None None g = (None, refl, refl)
  output_length_same mac None (Some y) g = absurd g
  output_length_same mac (Some x) None g = absurd g
  output_length_same mac (Some x) (Some y) g =
      then_same (Same {A = Option ℕ}) (simple_text rows x) (simple_text others y) _ _ (read.text_follows alike rows others closed x y g.0) (λ text.
      then_same (Same {A = Option ℕ}) (or_refusal (BadLength x) (length_in mac text)) (or_refusal (BadLength y) (length_in mac text)) _ _ (same_option (BadLength x) (BadLength y) (length_in mac text)) (λ bits. (Some bits, refl, refl)))

  signature_method_same : (x y : ℕ) → alike x y → Follows (Same {A = Authentication}) (signature_method rows x) (signature_method others y)
  unfolding signature_method
  signature_method_same x y m =
      then_same (Same {A = Authentication}) (algorithm rows x) (algorithm others y) _ _ (algorithm_same x y m) (λ uri.
      then_same (Same {A = Authentication}) (or_refusal (mac_refusal x uri) (mac_method_of uri)) (or_refusal (mac_refusal y uri) (mac_method_of uri)) _ _ (same_option (mac_refusal x uri) (mac_refusal y uri) (mac_method_of uri)) (λ mac.
      then_follows (GotOr names.HmacOutputLength) (Same {A = Authentication}) (optional rows names.HmacOutputLength (children rows x)) (optional others names.HmacOutputLength (children others y)) _ _
      (read.optional_follows alike rows others closed names.HmacOutputLength (children rows x) (children others y) (closed x y m).content) (λ p q pq.
      then_same (Same {A = Authentication}) (output_length rows mac p.0) (output_length others mac q.0) _ _ (output_length_same mac p.0 q.0 pq.0) (λ bits.
      then_same (Same {A = Authentication}) (at_end rows p.1) (at_end others q.1) _ _ (read.at_end_follows alike rows others closed p.1 q.1 pq.1) (λ nothing. (record { mac = mac; bits = bits }, refl, refl))))))

  digest_method_same : (x y : ℕ) → alike x y → Follows (Same {A = DigestMethod}) (digest_method rows x) (digest_method others y)
  unfolding digest_method
  digest_method_same x y m =
      then_same (Same {A = DigestMethod}) (algorithm rows x) (algorithm others y) _ _ (algorithm_same x y m) (λ uri.
      then_same (Same {A = DigestMethod}) (or_refusal (UnknownMethod x) (digest_method_of uri)) (or_refusal (UnknownMethod y) (digest_method_of uri)) _ _ (same_option (UnknownMethod x) (UnknownMethod y) (digest_method_of uri)) (λ method.
      then_same (Same {A = DigestMethod}) (at_end rows (children rows x)) (at_end others (children others y)) _ _ (read.at_end_follows alike rows others closed (children rows x) (children others y) (closed x y m).content) (λ nothing. (method, refl, refl))))

  -- ---- transforms
  bare_step_follows : (work : Step) (x y : ℕ) → SameStep work work → alike x y → Follows SameStep (bare_step rows x work) (bare_step others y work)
  unfolding bare_step
  bare_step_follows work x y s m =
      then_same SameStep (at_end rows (children rows x)) (at_end others (children others y)) _ _ (read.at_end_follows alike rows others closed (children rows x) (children others y) (closed x y m).content) (λ nothing. (work, refl, s))

  canonicalizing_step_follows : (method : CanonMethod) (x y : ℕ) → alike x y → Follows SameStep (canonicalizing_step rows x method) (canonicalizing_step others y method)
  unfolding canonicalizing_step
  canonicalizing_step_follows method x y m =
      then_same SameStep (inner_prefixes rows method x) (inner_prefixes others method y) _ _ (inner_prefixes_same method x y m) (λ prefixes. (step.Canon method prefixes, refl, refl))

  xpath_step_follows : (x y : ℕ) → alike x y → Follows SameStep (xpath_step rows x) (xpath_step others y)
  unfolding xpath_step
  xpath_step_follows x y m =
      then_follows (Got names.XPath) SameStep (required rows names.XPath (children rows x)) (required others names.XPath (children others y)) _ _
      (read.required_follows alike rows others closed names.XPath (children rows x) (children others y) (closed x y m).content) (λ p q pq.
      then_same SameStep (simple_text rows p.0) (simple_text others q.0) _ _ (read.text_follows alike rows others closed p.0 q.0 pq.0) (λ text.
      then_same SameStep (at_end rows p.1) (at_end others q.1) _ _ (read.at_end_follows alike rows others closed p.1 q.1 pq.2) (λ nothing. (step.XPath q.0 (chars text), refl, refl))))

  filter_follows : (x y : ℕ) → alike x y → is_named rows names.FilterXPath x ≡ true → Follows SameFilter (filter_at rows x) (filter_at others y)
  unfolding filter_at
  filter_follows x y m named =
      then_same SameFilter (or_refusal (BadFilter x) (filter_kind_in (attribute rows x (codes "Filter")))) (or_refusal (BadFilter y) (filter_kind_in (attribute others y (codes "Filter")))) _ _
      (subst (λ o. Follows (Same {A = FilterKind}) (or_refusal (BadFilter x) (filter_kind_in (attribute rows x (codes "Filter")))) (or_refusal (BadFilter y) (filter_kind_in o))) (sym ((closed x y m).attributes (codes "Filter")))
      (same_option (BadFilter x) (BadFilter y) (filter_kind_in (attribute rows x (codes "Filter"))))) (λ kind.
      then_same SameFilter (simple_text rows x) (simple_text others y) _ _ (read.text_follows alike rows others closed x y m) (λ text.
      (record { kind = kind; row = y; text = chars text }, refl, record { kind = refl; text = refl })))

  filters_step_follows : (x y : ℕ) → alike x y → Follows SameStep (filters_step rows x) (filters_step others y)
  unfolding filters_step
  filters_step_follows x y m =
      then_follows (GotMany SameFilter) SameStep (one_or_more TooManyFilters rows names.FilterXPath (filter_at rows) 16 (children rows x)) (one_or_more TooManyFilters others names.FilterXPath (filter_at others) 16 (children others y)) _ _
      (read.one_or_more_follows alike rows others closed SameFilter TooManyFilters names.FilterXPath (filter_at rows) (filter_at others) filter_follows 16 (children rows x) (children others y) (closed x y m).content) (λ p q pq.
      then_same SameStep (at_end rows p.1) (at_end others q.1) _ _ (read.at_end_follows alike rows others closed p.1 q.1 pq.1) (λ nothing. (step.Filters q.0, refl, pq.0)))

  chosen_step_follows : (x y : ℕ) → alike x y → (base64 enveloped xpath filters xslt : Bool)
      → Follows SameStep (if base64 then bare_step rows x step.Base64 else (if enveloped then bare_step rows x step.Enveloped else (if xpath then xpath_step rows x else (if filters then filters_step rows x else (if xslt then Err (Xslt x) else Err (UnknownMethod x))))))
      (if base64 then bare_step others y step.Base64 else (if enveloped then bare_step others y step.Enveloped else (if xpath then xpath_step others y else (if filters then filters_step others y else (if xslt then Err (Xslt y) else Err (UnknownMethod y))))))
  chosen_step_follows x y m true enveloped xpath filters xslt = bare_step_follows step.Base64 x y refl m
  chosen_step_follows x y m false true xpath filters xslt = bare_step_follows step.Enveloped x y refl m
  chosen_step_follows x y m false false true filters xslt = xpath_step_follows x y m
  chosen_step_follows x y m false false false true xslt = filters_step_follows x y m
  chosen_step_follows x y m false false false false true = tt
  chosen_step_follows x y m false false false false false = tt

  step_by_follows : (x y : ℕ) → alike x y → (uri : List ℕ) (method : Option CanonMethod) → Follows SameStep (step_by rows x uri method) (step_by others y uri method)
  step_by_follows x y m uri (Some method) = canonicalizing_step_follows method x y m
  step_by_follows x y m uri None =
      let is : List ℕ → Bool = bytes_eq uri in
      chosen_step_follows x y m (is (codes "http://www.w3.org/2000/09/xmldsig#base64")) (is (codes "http://www.w3.org/2000/09/xmldsig#enveloped-signature"))
      (is (codes "http://www.w3.org/TR/1999/REC-xpath-19991116")) (is (codes "http://www.w3.org/2002/06/xmldsig-filter2")) (is (codes "http://www.w3.org/TR/1999/REC-xslt-19991116"))

  transform_follows : (x y : ℕ) → alike x y → is_named rows names.Transform x ≡ true → Follows SameStep (transform rows x) (transform others y)
  unfolding transform
  transform_follows x y m named =
      then_same SameStep (algorithm rows x) (algorithm others y) _ _ (algorithm_same x y m) (λ uri. step_by_follows x y m uri (canon_method_of uri))

  transforms_follow : (x y : ℕ) → alike x y → Follows (Pairwise SameStep) (transforms rows x) (transforms others y)
  unfolding transforms
  transforms_follow x y m =
      then_follows (GotMany SameStep) (Pairwise SameStep) (one_or_more TooManyTransforms rows names.Transform (transform rows) 16 (children rows x)) (one_or_more TooManyTransforms others names.Transform (transform others) 16 (children others y)) _ _
      (read.one_or_more_follows alike rows others closed SameStep TooManyTransforms names.Transform (transform rows) (transform others) transform_follows 16 (children rows x) (children others y) (closed x y m).content) (λ p q pq.
      then_same (Pairwise SameStep) (at_end rows p.1) (at_end others q.1) _ _ (read.at_end_follows alike rows others closed p.1 q.1 pq.1) (λ nothing. (q.0, refl, pq.0)))

  transforms_if_follow : (a b : Option ℕ) → GotIf names.Transforms a b → Follows (Pairwise SameStep) (transforms_if rows a) (transforms_if others b)
  transforms_if_follow None None g = ([], refl, tt)
  transforms_if_follow None (Some y) g = absurd g
  transforms_if_follow (Some x) None g = absurd g
  transforms_if_follow (Some x) (Some y) g = transforms_follow x y g.0

  -- ---- References, SignedInfo and Signature
  reference_follows : (x y : ℕ) → alike x y → is_named rows names.Reference x ≡ true → Follows SameReference (reference rows x) (reference others y)
  unfolding reference
  reference_follows x y m named =
      then_same SameReference (or_refusal (NoUri x) (attribute rows x (codes "URI"))) (or_refusal (NoUri y) (attribute others y (codes "URI"))) _ _
      (subst (λ o. Follows (Same {A = List ℕ}) (or_refusal (NoUri x) (attribute rows x (codes "URI"))) (or_refusal (NoUri y) o)) (sym ((closed x y m).attributes (codes "URI"))) (same_option (NoUri x) (NoUri y) (attribute rows x (codes "URI")))) (λ uri.
      then_follows (GotOr names.Transforms) SameReference (optional rows names.Transforms (children rows x)) (optional others names.Transforms (children others y)) _ _
      (read.optional_follows alike rows others closed names.Transforms (children rows x) (children others y) (closed x y m).content) (λ before before' b.
      then_follows (Pairwise SameStep) SameReference (transforms_if rows before.0) (transforms_if others before'.0) _ _ (transforms_if_follow before.0 before'.0 b.0) (λ steps steps' s.
      then_follows (Got names.DigestMethod) SameReference (required rows names.DigestMethod before.1) (required others names.DigestMethod before'.1) _ _ (read.required_follows alike rows others closed names.DigestMethod before.1 before'.1 b.1) (λ method method' d.
      then_same SameReference (digest_method rows method.0) (digest_method others method'.0) _ _ (digest_method_same method.0 method'.0 d.0) (λ digest.
      then_follows (Got names.DigestValue) SameReference (required rows names.DigestValue method.1) (required others names.DigestValue method'.1) _ _ (read.required_follows alike rows others closed names.DigestValue method.1 method'.1 d.2) (λ value value' v.
      then_same SameReference (simple_octets rows value.0) (simple_octets others value'.0) _ _ (read.octets_follow alike rows others closed value.0 value'.0 v.0) (λ expected.
      then_same SameReference (at_end rows value.1) (at_end others value'.1) _ _ (read.at_end_follows alike rows others closed value.1 value'.1 v.2) (λ nothing. (
        record { row = y; uri = chars uri; manifest = names_manifest (attribute others y (codes "Type")); steps = steps'; digest = digest; digest_row = value'.0; expected = expected },
        refl,
        record { uri = refl; manifest = ap names_manifest (sym ((closed x y m).attributes (codes "Type"))); steps = s; digest = refl; expected = refl },
      )))))))))

  info_follows : (x y : ℕ) → alike x y → Follows SameInfo (info_fields rows x) (info_fields others y)
  unfolding info_fields
  info_follows x y m =
      then_follows (Got names.CanonicalizationMethod) SameInfo (required rows names.CanonicalizationMethod (children rows x)) (required others names.CanonicalizationMethod (children others y)) _ _
      (read.required_follows alike rows others closed names.CanonicalizationMethod (children rows x) (children others y) (closed x y m).content) (λ first first' f.
      then_same SameInfo (canonicalization_method rows first.0) (canonicalization_method others first'.0) _ _ (canonicalization_same first.0 first'.0 f.0) (λ canonicalization.
      then_follows (Got names.SignatureMethod) SameInfo (required rows names.SignatureMethod first.1) (required others names.SignatureMethod first'.1) _ _ (read.required_follows alike rows others closed names.SignatureMethod first.1 first'.1 f.2) (λ second second' s.
      then_same SameInfo (signature_method rows second.0) (signature_method others second'.0) _ _ (signature_method_same second.0 second'.0 s.0) (λ authentication.
      then_follows (GotMany SameReference) SameInfo (one_or_more (λ z. TooManyReferences) rows names.Reference (reference rows) 256 second.1) (one_or_more (λ z. TooManyReferences) others names.Reference (reference others) 256 second'.1) _ _
      (read.one_or_more_follows alike rows others closed SameReference (λ z. TooManyReferences) names.Reference (reference rows) (reference others) reference_follows 256 second.1 second'.1 s.2) (λ p q pq.
      then_same SameInfo (at_end rows p.1) (at_end others q.1) _ _ (read.at_end_follows alike rows others closed p.1 q.1 pq.1) (λ nothing.
      (record { canon = canonicalization.method; prefixes = canonicalization.prefixes; mac = authentication.mac; bits = authentication.bits; references = q.0 }, refl, record { canon = refl; prefixes = refl; mac = refl; bits = refl; references = pq.0 })))))))

-- ---- elements that say the same however deep
-- what is alike at each depth is alike however deep
limit_item : (R : ℕ → ℕ → ℕ → Type 0) (i j : Item) → ((depth : ℕ) → SameItem (R depth) i j) → SameItem (λ x z. (depth : ℕ) → R depth x z) i j
limit_item R (Octet c) (Octet d) h = h 0
limit_item R (Octet c) Aside h = absurd (h 0)
limit_item R (Octet c) (Inner z) h = absurd (h 0)
limit_item R Aside (Octet d) h = absurd (h 0)
limit_item R Aside Aside h = tt
limit_item R Aside (Inner z) h = absurd (h 0)
limit_item R (Inner x) (Octet d) h = absurd (h 0)
limit_item R (Inner x) Aside h = absurd (h 0)
limit_item R (Inner x) (Inner z) h = h

limit : (R : ℕ → ℕ → ℕ → Type 0) (its jts : List Item) → ((depth : ℕ) → SameItems (R depth) its jts) → SameItems (λ x z. (depth : ℕ) → R depth x z) its jts
limit R [] [] h = tt
limit R [] (j ∷ jts) h = absurd (h 0)
limit R (i ∷ its) [] h = absurd (h 0)
limit R (i ∷ its) (j ∷ jts) h = (limit_item R i j (λ depth. (h depth).0), limit R its jts (λ depth. (h depth).1))

module _ (rows others : List RowOf) where
  abbrev Alike : ℕ → ℕ → Type 0
  Alike x z = SameElement rows x others z

  deeper : (x z : ℕ) → Alike x z → (depth : ℕ) → SaysTheSame (SameTo depth rows others) rows others x z
  deeper x z h depth = h (suc depth)

  closed : (x z : ℕ) → Alike x z → SaysTheSame Alike rows others x z
  closed x z h = record {
    kind = (deeper x z h 0).kind;
    local_name = (deeper x z h 0).local_name;
    uri = (deeper x z h 0).uri;
    attributes = (deeper x z h 0).attributes;
    content = limit (λ (depth : ℕ). SameTo depth rows others) _ _ (λ depth. (deeper x z h depth).content);
  }

-- ---- rows that are alike by a relation that holds of what stands in them too
nearer_item : (R S : ℕ → ℕ → Type 0) → ((x z : ℕ) → R x z → S x z) → (i j : Item) → SameItem R i j → SameItem S i j
nearer_item R S f (Octet c) (Octet d) h = h
nearer_item R S f (Octet c) Aside h = h
nearer_item R S f (Octet c) (Inner z) h = h
nearer_item R S f Aside (Octet d) h = h
nearer_item R S f Aside Aside h = h
nearer_item R S f Aside (Inner z) h = h
nearer_item R S f (Inner x) (Octet d) h = h
nearer_item R S f (Inner x) Aside h = h
nearer_item R S f (Inner x) (Inner z) h = f x z h

nearer : (R S : ℕ → ℕ → Type 0) → ((x z : ℕ) → R x z → S x z) → (its jts : List Item) → SameItems R its jts → SameItems S its jts
nearer R S f [] [] h = tt
nearer R S f [] (j ∷ jts) h = h
nearer R S f (i ∷ its) [] h = h
nearer R S f (i ∷ its) (j ∷ jts) h = (nearer_item R S f i j h.0, nearer R S f its jts h.1)

module _ (alike : ℕ → ℕ → Type 0) (rows others : List RowOf) (kept : (x z : ℕ) → alike x z → SaysTheSame alike rows others x z) where
  same_to : (depth x z : ℕ) → alike x z → SameTo depth rows others x z
  same_to zero x z h = tt
  same_to (suc depth) x z h = let s = kept x z h in record {
    kind = s.kind;
    local_name = s.local_name;
    uri = s.uri;
    attributes = s.attributes;
    content = nearer alike (SameTo depth rows others) (same_to depth) _ _ s.content;
  }

  pub alike_is_same : (x z : ℕ) → alike x z → SameElement rows x others z
  alike_is_same x z h depth = same_to depth x z h

pub info_says_the_same : InfoSaysTheSame
info_says_the_same rows others x z f same e =
    subst (λ o. Follows SameInfo o (info_fields others z)) e (info_follows (Alike rows others) rows others (closed rows others) x z same)

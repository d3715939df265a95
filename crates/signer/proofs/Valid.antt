-- Both validations hold in a signed document: XML Signature 1.1, section 3.2.
use Rattle.std.proofs.Common.{◌≡◌, ℕ, zero, suc, ◌+◌, ◌-◌, ◌<◌, ◌≤◌, Bool, true, false, if◌then◌else◌, eqb, List, [], ◌∷◌, ◌++◌, length, map, Some, None, Ok, refl, sym, ap, subst, ◌∙◌, arith}
use Rattle.std.specs.Prelude.{slice_get, encode_utf8_all}
use Rattle.std.specs.List.{filter, range_with_len}
use Rattle.std.proofs.lemmas.Bool.{eqb-true, eq-eqb, and_from}
use Rattle.std.proofs.lemmas.Slice.Eq.{bytes_eq-Decides}
use Rattle.sig_base.specs.declared.method.CanonMethod.{CanonMethod}
use Rattle.sig_base.specs.declared.method.CanonMethod.TheVariants.{C10, C10Comments, C11, C11Comments, Exc, ExcComments}
use Rattle.digests_hmac.specs.Hash.{hash, hmac_of, kept}
use Rattle.dsig_base64.specs.Loose.{base64_of}
use Rattle.xml_doc.specs.Rows.{RowOf}
use Rattle.node_sets.specs.Members.{in_subtree}
use Rattle.c14n_text.specs.Namespaces.{inclusive, eleven, exclusive}
use Rattle.c14n_methods.specs.Methods.{canonical_form}
use Rattle.dsig_fields.specs.Fields.{fields_of}
use Rattle.dsig_fields.specs.Follows.{Follows}
use Rattle.dsig_fields.specs.Holds.{digest_holds, signature_holds, is_long_enough, is_mac_value, value_bits}
use Rattle.dsig_fields.specs.Reading.{is_named}
use Rattle.dsig_fields.specs.Signatures.{nth_signature, signatures}
use Rattle.dsig_fields.specs.declared.fields.Fields.{Fields}
use Rattle.dsig_fields.specs.declared.fields.Reference.{Reference}
use Rattle.dsig_fields.specs.declared.names.ElementName.TheVariants.{Signature}
use Rattle.transforms.specs.Outcome.{canonical_signed_info}
use Rattle.core_validate.specs.Laws.{references_hold}
use Rattle.moved_fields.specs.Moved.{Pairwise, moved_by, ReferenceMoves, FieldsMove}
use Rattle.moved_fields.proofs.Moves.{fields_follow}
use Rattle.xml_read.specs.Spelled.{Spells}
use Rattle.row_fills.specs.Fillings.{Filling, filling, filled_in, content_of, CanFillAll, LiesInFront}
use Rattle.row_fills.proofs.Info.{forms_in_front, spelled_once, can_front}
use Rattle.row_fills.proofs.Together.{all_together}
use Rattle.signer.specs.Signed.{Holds, digest_filling, digest_fillings, signed, unsigned, value_under}

-- ---- what stands in each element afterwards
AllDigests : (ℕ → List ℕ → List ℕ) → ℕ → List Reference → List (List ℕ) → Type 0
AllDigests content from [] views = Unit {0}
AllDigests content from (r ∷ rs) [] = Unit {0}
AllDigests content from (r ∷ rs) (v ∷ vs) = (from ≤ r.digest_row) × ((old : List ℕ) → content r.digest_row old ≡ hash r.digest v) × AllDigests content from rs vs

not_same : (a b : ℕ) → a < b → eqb a b ≡ false
not_same a b lt = by (eqb a b) refl
  where
    by : (t : Bool) → eqb a b ≡ t → t ≡ false
    by false e = refl
    by true e = let same = eqb-true a b e in absurd (omega (arith, same, lt))

digests_behind : (f : Filling) (fs : List Filling) (rs : List Reference) (vs : List (List ℕ)) → AllDigests (content_of fs) (f.row + 1) rs vs → AllDigests (content_of (f ∷ fs)) f.row rs vs
unfolding AllDigests
digests_behind f fs [] vs h = tt
digests_behind f fs (r ∷ rs) [] h = tt
digests_behind f fs (r ∷ rs) (v ∷ vs) h =
    (omega (arith, h.0), (λ old. ap (λ b. if b then f.octets else content_of fs r.digest_row old) (not_same f.row r.digest_row (omega (arith, h.0))) ∙ h.1 old), digests_behind f fs rs vs h.2)

digests_from : (content : ℕ → List ℕ → List ℕ) (a b : ℕ) (rs : List Reference) (vs : List (List ℕ)) → a ≤ b → AllDigests content b rs vs → AllDigests content a rs vs
unfolding AllDigests
digests_from content a b [] vs le h = tt
digests_from content a b (r ∷ rs) [] le h = tt
digests_from content a b (r ∷ rs) (v ∷ vs) le h = (omega (arith, le, h.0), h.1, digests_from content a b rs vs le h.2)

all_digests : (rows : List RowOf) (from : ℕ) (rs : List Reference) (vs : List (List ℕ)) (last : Filling) → CanFillAll rows from (digest_fillings rs vs ++ last ∷ []) → AllDigests (content_of (digest_fillings rs vs ++ last ∷ [])) from rs vs
unfolding AllDigests
all_digests rows from [] vs last can = tt
all_digests rows from (r ∷ rs) [] last can = tt
all_digests rows from (r ∷ rs) (v ∷ vs) last can =
    let f = digest_filling r v in
    let more = digest_fillings rs vs ++ last ∷ [] in (
      can.0,
      (λ old. ap (λ b. if b then hash r.digest v else content_of more r.digest_row old) (eq-eqb r.digest_row r.digest_row refl)),
      digests_from (content_of (f ∷ more)) from f.row rs vs can.0 (digests_behind f more rs vs (all_digests rows (f.row + 1) rs vs last can.2)),
    )

last_row : (rows : List RowOf) (from : ℕ) (fs : List Filling) (row : ℕ) (t o : List ℕ) → CanFillAll rows from (fs ++ filling row t o ∷ []) → from ≤ row
last_row rows from [] row t o can = can.0
last_row rows from (f ∷ fs) row t o can = let more = last_row rows (f.row + 1) fs row t o can.2 in omega (arith, more, can.0)

last_content : (rows : List RowOf) (from : ℕ) (fs : List Filling) (row : ℕ) (t o : List ℕ) → CanFillAll rows from (fs ++ filling row t o ∷ []) → (old : List ℕ) → content_of (fs ++ filling row t o ∷ []) row old ≡ o
last_content rows from [] row t o can old = ap (λ b. if b then o else old) (eq-eqb row row refl)
last_content rows from (f ∷ fs) row t o can old =
    let more = last_row rows (f.row + 1) fs row t o can.2 in
    ap (λ b. if b then f.octets else content_of (fs ++ filling row t o ∷ []) row old) (not_same f.row row (omega (arith, more))) ∙ last_content rows (f.row + 1) fs row t o can.2 old

-- ---- both validations
pairs_count : {A B : Type 0} (R : A → B → Type 0) (xs : List A) (ys : List B) → Pairwise R xs ys → length ys ≡ length xs
pairs_count R [] [] p = refl
pairs_count R [] (y ∷ ys) p = absurd p
pairs_count R (x ∷ xs) [] p = absurd p
pairs_count R (x ∷ xs) (y ∷ ys) p = ap suc (pairs_count R xs ys p.1)

digests_hold : (moves : ℕ → ℕ → Type 0) (content : ℕ → List ℕ → List ℕ) (from : ℕ) (rs ss : List Reference) (vs : List (List ℕ)) → Pairwise (ReferenceMoves moves content) rs ss → length vs ≡ length rs → AllDigests content from rs vs → references_hold ss vs ≡ true
unfolding AllDigests references_hold
digests_hold moves content from [] [] vs p long h = refl
digests_hold moves content from [] (s ∷ ss) vs p long h = absurd p
digests_hold moves content from (r ∷ rs) [] vs p long h = absurd p
digests_hold moves content from (r ∷ rs) (s ∷ ss) [] p long h = absurd (omega (arith, long))
digests_hold moves content from (r ∷ rs) (s ∷ ss) (v ∷ vs) p long h =
    let expected : hash s.digest v ≡ s.expected = ap (λ d. hash d v) (sym p.0.digest) ∙ sym (h.1 r.expected) ∙ sym p.0.expected in
    and_from (digest_holds s.digest v s.expected) (references_hold ss vs) ((bytes_eq-Decides (hash s.digest v) s.expected).1 expected) (digests_hold moves content from rs ss vs p.1 (omega (arith, long)) h.2)

form_same : (method : CanonMethod) (listed : List (List ℕ)) (octets : List ℕ) (rows one other : List RowOf) (fs : List Filling) (row : ℕ) (t o t' o' : List ℕ) (e : ℕ) → Spells octets rows
    → CanFillAll rows (e + 1) (fs ++ filling row t o ∷ []) → CanFillAll rows (e + 1) (fs ++ filling row t' o' ∷ []) → LiesInFront rows e row
    → Spells (filled_in octets rows (fs ++ filling row t o ∷ [])) one → Spells (filled_in octets rows (fs ++ filling row t' o' ∷ [])) other
    → canonical_form method listed one (in_subtree one e) ≡ canonical_form method listed other (in_subtree other e)
form_same C10 listed octets rows one other fs row t o t' o' e s can can' lies a b = forms_in_front inclusive false octets rows one other fs row t o t' o' e s can can' lies a b
form_same C10Comments listed octets rows one other fs row t o t' o' e s can can' lies a b = forms_in_front inclusive true octets rows one other fs row t o t' o' e s can can' lies a b
form_same C11 listed octets rows one other fs row t o t' o' e s can can' lies a b = forms_in_front eleven false octets rows one other fs row t o t' o' e s can can' lies a b
form_same C11Comments listed octets rows one other fs row t o t' o' e s can can' lies a b = forms_in_front eleven true octets rows one other fs row t o t' o' e s can can' lies a b
form_same Exc listed octets rows one other fs row t o t' o' e s can can' lies a b = forms_in_front (exclusive listed) false octets rows one other fs row t o t' o' e s can can' lies a b
form_same ExcComments listed octets rows one other fs row t o t' o' e s can can' lies a b = forms_in_front (exclusive listed) true octets rows one other fs row t o t' o' e s can can' lies a b

-- ---- the signature is found again
nth_moves : (number : ℕ → ℕ) (kept_row : ℕ → Bool) (n : ℕ) (xs ys : List ℕ) → Pairwise (moved_by number kept_row) xs ys → (x : ℕ) → slice_get xs n ≡ Some x → slice_get ys n ≡ Some (number x)
nth_moves number kept_row n [] [] p x e = absurd cc
nth_moves number kept_row n [] (y ∷ ys) p x e = absurd p
nth_moves number kept_row n (z ∷ xs) [] p x e = absurd p
nth_moves number kept_row zero (z ∷ xs) (y ∷ ys) p x e = let same : z ≡ x = cc in ap Some (p.0.1 ∙ ap number same)
nth_moves number kept_row (suc n) (z ∷ xs) (y ∷ ys) p x e = nth_moves number kept_row n xs ys p.1 x e

found_again : (rows others : List RowOf) (number : ℕ → ℕ) (kept_row : ℕ → Bool) → Pairwise (moved_by number kept_row) (signatures rows) (signatures others) → (index x : ℕ) → nth_signature rows index ≡ Some x → nth_signature others index ≡ Some (number x)
found_again rows others number kept_row p index x e = by (eqb index 0) e
  where
    by : (b : Bool) → (if b then None else slice_get (signatures rows) (index - 1)) ≡ Some x → (if b then None else slice_get (signatures others) (index - 1)) ≡ Some (number x)
    by true f = absurd cc
    by false f = nth_moves number kept_row (index - 1) (signatures rows) (signatures others) p x f

-- what is found passes
passes : (p : ℕ → Bool) (xs : List ℕ) (n x : ℕ) → slice_get (filter p xs) n ≡ Some x → p x ≡ true
passes p [] n x f = absurd cc
passes p (z ∷ xs) n x f = go (p z) refl n f (λ k g. passes p xs k x g)
  where
    go : (b : Bool) → p z ≡ b → (k : ℕ) → slice_get (if b then z ∷ filter p xs else filter p xs) k ≡ Some x → ((j : ℕ) → slice_get (filter p xs) j ≡ Some x → p x ≡ true) → p x ≡ true
    go false e k g rest = rest k g
    go true e zero g rest = let same : z ≡ x = cc in ap p (sym same) ∙ e
    go true e (suc k) g rest = rest k g

pub found_named : (rows : List RowOf) (index x : ℕ) → nth_signature rows index ≡ Some x → is_named rows Signature x ≡ true
found_named rows index x e = by (eqb index 0) e
  where
    by : (b : Bool) → (if b then None else slice_get (signatures rows) (index - 1)) ≡ Some x → is_named rows Signature x ≡ true
    by true f = absurd cc
    by false f = passes (is_named rows Signature) (range_with_len 0 (length rows)) (index - 1) x f

pub holds_signed : (octets : List ℕ) (rows one two : List RowOf) (index x : ℕ) (fields : Fields) (views : List (List ℕ)) (key : List ℕ)
    → Spells octets rows → nth_signature rows index ≡ Some x → fields_of rows x ≡ Ok fields → x < fields.signed_info
    → LiesInFront rows fields.signed_info fields.value_row → length views ≡ length fields.references
    → is_long_enough fields.mac (value_bits fields.mac fields.bits) ≡ true
    → CanFillAll rows (fields.signed_info + 1) (digest_fillings fields.references views ++ filling fields.value_row [] [] ∷ [])
    → CanFillAll rows (fields.signed_info + 1) (digest_fillings fields.references views ++ filling fields.value_row (base64_of (value_under one fields key)) (value_under one fields key) ∷ [])
    → Spells (unsigned octets rows fields views) one → Spells (signed octets rows fields views (value_under one fields key)) two
    → Holds one two index x fields views key
holds_signed octets rows one two index x fields views key spells found is less lies long enough can can' s s' =
    let fs = digest_fillings fields.references views in
    let e = fields.signed_info in
    let row = fields.value_row in
    let value = value_under one fields key in
    let all = fs ++ filling row (base64_of value) value ∷ [] in
    let pair = all_together octets rows (e + 1) fs row [] [] (base64_of value) value spells can can' in
    let b = pair.other in
    let before = can_front rows e fs row [] [] can in
    let at_x = b.front x (omega (arith, less, before)) in
    let at_e = b.front e before in
    let is_two = spelled_once (filled_in octets rows all) two b.others s' b.spells in
    let m = subst (λ r. Follows (FieldsMove (moved_by b.number b.kept) (content_of all)) r (fields_of b.others (b.number x))) is
    (fields_follow (moved_by b.number b.kept) (content_of all) rows b.others x (b.number x) b.stands (at_x.0, refl) (found_named rows index x found)) in
    let read = m.0 in
    let f = m.2 in
    let info : canonical_signed_info b.others read ≡ canonical_signed_info one fields =
    ap (λ i. canonical_form read.canon (map encode_utf8_all read.prefixes) b.others (in_subtree b.others i)) (f.signed_info.1 ∙ at_e.1)
    ∙ ap (λ c. canonical_form c (map encode_utf8_all read.prefixes) b.others (in_subtree b.others e)) (sym f.canon)
    ∙ ap (λ l. canonical_form fields.canon (map encode_utf8_all l) b.others (in_subtree b.others e)) (sym f.prefixes)
    ∙ sym (form_same fields.canon (map encode_utf8_all fields.prefixes) octets rows one b.others fs row [] [] (base64_of value) value e spells can can' lies s b.spells) in
    let value_is : read.value ≡ value = f.value ∙ last_content rows (e + 1) fs row (base64_of value) value can' fields.value in
    let made : value ≡ kept (hmac_of read.mac key (canonical_signed_info b.others read)) (value_bits read.mac read.bits) =
    ap (λ o. kept (hmac_of fields.mac key o) (value_bits fields.mac fields.bits)) (sym info)
    ∙ ap (λ a. kept (hmac_of a key (canonical_signed_info b.others read)) (value_bits a fields.bits)) f.mac
    ∙ ap (λ n. kept (hmac_of read.mac key (canonical_signed_info b.others read)) (value_bits read.mac n)) f.bits in
    let long_enough : is_long_enough read.mac (value_bits read.mac read.bits) ≡ true = ap (λ a. is_long_enough a (value_bits a read.bits)) (sym f.mac) ∙ ap (λ n. is_long_enough fields.mac (value_bits fields.mac n)) (sym f.bits) ∙ enough in
    let stands = and_from (is_long_enough read.mac (value_bits read.mac read.bits)) (is_mac_value read.mac (value_bits read.mac read.bits) key (canonical_signed_info b.others read) read.value) long_enough
    ((bytes_eq-Decides read.value (kept (hmac_of read.mac key (canonical_signed_info b.others read)) (value_bits read.mac read.bits))).1 (value_is ∙ made)) in
    let digests = digests_hold (moved_by b.number b.kept) (content_of all) (e + 1) fields.references read.references views f.references long (all_digests rows (e + 1) fields.references views (filling row (base64_of value) value) can') in
    subst (λ t. Holds one t index x fields views key) (sym is_two)
    (record {
      read = read;
      found = found_again rows b.others b.number b.kept b.signatures index x found ∙ ap Some at_x.1;
      fields_are = ap (fields_of b.others) (sym at_x.1) ∙ m.1;
      key_name = f.key_name;
      info = info;
      count = pairs_count (ReferenceMoves (moved_by b.number b.kept) (content_of all)) fields.references read.references f.references;
      holds = and_from (signature_holds read.mac read.bits key (canonical_signed_info b.others read) read.value) (references_hold read.references views) stands digests;
    })

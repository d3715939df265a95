-- References and their views side by side, and the texts that are looked at.
use Rattle.std.proofs.Common.{◌≡◌, ◌∙◌, ℕ, suc, ◌<◌, ◌+◌, Bool, true, false, not, cond, Some, None, List, [], ◌∷◌, ◌++◌, map, drop, refl, sym, ap, subst, inl, inr, arith, append_assoc}
use Rattle.std.specs.Prelude.{◌⊎◌, ◌&&◌, slice_get, Option}
use Rattle.std.specs.List.{All, find, list_all}
use Rattle.std.proofs.lemmas.Option.{slice_get_within}
use Rattle.sig_base.proofs.ListLemmas.{drop-at, drop_none}
use Rattle.xml_doc.specs.Rows.{RowOf}
use Rattle.dsig_base64.specs.Loose.{base64_of}
use Rattle.digests_hmac.specs.Hash.{hash}
use Rattle.dsig_fields.specs.declared.fields.Reference.{Reference}
use Rattle.xml_doc.specs.Shape.{row_at}
use Rattle.row_spans.specs.RowSpans.{Span}
use Rattle.row_spans.specs.Code.RowSpans.{span_of}
use Rattle.row_fills.specs.Fillings.{Filling, spans_of}
use Rattle.signer.specs.Signed.{digest_fillings}
use Rattle.signer.specs.Code.Filling.{AreThrough, BeginWith}

-- nothing is left of one of both
pub are_through : (references : List Reference) (views : List (List ℕ)) (k : ℕ) → (None ≡ slice_get references k) ⊎ (None ≡ slice_get views k) → AreThrough (drop k references) (drop k views)
are_through references views k (inl e) = subst (λ rs. AreThrough rs (drop k views)) (sym (drop_none references k e)) tt
are_through references views k (inr e) = subst (λ vs. AreThrough (drop k references) vs) (sym (drop_none views k e)) (through (drop k references))
  where
    through : (rs : List Reference) → AreThrough rs []
    through [] = tt
    through (r ∷ rs) = tt

pub begin_with : (references : List Reference) (views : List (List ℕ)) (k : ℕ) (reference : Reference) (view : List ℕ)
    → Some reference ≡ slice_get references k → Some view ≡ slice_get views k → BeginWith k references views reference view
begin_with references views k reference view e f = record {
  within = slice_get_within references k reference (sym e);
  found = e;
  references_are = drop-at references k reference e;
  views_are = drop-at views k view f;
}

-- ---- what is filled in of those that are left
pub no_fillings : (rs : List Reference) (vs : List (List ℕ)) → AreThrough rs vs → digest_fillings rs vs ≡ []
no_fillings [] vs h = refl
no_fillings (r ∷ rs) [] h = refl
no_fillings (r ∷ rs) (v ∷ vs) h = absurd h

pub next_fillings : (rows : List RowOf) (references : List Reference) (views : List (List ℕ)) (k : ℕ) (r : Reference) (v : List ℕ) → BeginWith k references views r v
    → spans_of rows (digest_fillings (drop k references) (drop k views))
    ≡ span_of (row_at rows r.digest_row) (base64_of (hash r.digest v)) ∷ spans_of rows (digest_fillings (drop (k + 1) references) (drop (k + 1) views))
next_fillings rows references views k r v b =
    ap (λ rs. spans_of rows (digest_fillings rs (drop k views))) b.references_are
    ∙ ap (λ vs. spans_of rows (digest_fillings (r ∷ drop (k + 1) references) vs)) b.views_are

-- one more span is written
pub span_added : (now new : List Span) (s : Span) (rest all : List Span) → now ++ (s ∷ rest) ≡ all → new ≡ now ++ s ∷ [] → new ++ rest ≡ all
span_added now new s rest all e f = ap (λ (t : List Span). t ++ rest) f ∙ append_assoc now (s ∷ []) rest ∙ e

pub spans_join : (rows : List RowOf) (fs gs : List Filling) → spans_of rows (fs ++ gs) ≡ spans_of rows fs ++ spans_of rows gs
spans_join rows [] gs = refl
spans_join rows (f ∷ fs) gs = ap (λ t. span_of (row_at rows f.row) f.text ∷ t) (spans_join rows fs gs)

-- ---- the first that fails a test
pub find_split : (p : ℕ → Bool) (xs ys : List ℕ) → find p xs ≡ None → find p (xs ++ ys) ≡ find p ys
find_split p [] ys e = refl
find_split p (x ∷ xs) ys e = go (p x) e (λ k. find_split p xs ys k)
  where
    go : (b : Bool) → cond b (Some x) (find p xs) ≡ None → (find p xs ≡ None → find p (xs ++ ys) ≡ find p ys) → cond b (Some x) (find p (xs ++ ys)) ≡ find p ys
    go true k rest = absurd cc
    go false k rest = rest k

pub find_front : (p : ℕ → Bool) (xs ys : List ℕ) (y : ℕ) → find p xs ≡ Some y → find p (xs ++ ys) ≡ Some y
find_front p [] ys y e = absurd cc
find_front p (x ∷ xs) ys y e = go (p x) e (λ k. find_front p xs ys y k)
  where
    go : (b : Bool) → cond b (Some x) (find p xs) ≡ Some y → (find p xs ≡ Some y → find p (xs ++ ys) ≡ Some y) → cond b (Some x) (find p (xs ++ ys)) ≡ Some y
    go true k rest = k
    go false k rest = rest k

-- ---- the texts that are left
pub texts_next : (p : ℕ → Bool) (walk rest : List ℕ) (y : ℕ) (all : Bool) → walk ≡ y ∷ rest → p y ≡ true → list_all p walk ≡ all → list_all p rest ≡ all
texts_next p walk rest y all e f g = sym (ap (λ (b : Bool). b && list_all p rest) f) ∙ sym (ap (list_all p) e) ∙ g

pub all_behind : (n : ℕ) (walk rest : List ℕ) (y : ℕ) → walk ≡ y ∷ rest → All (λ k. k < n) walk → All (λ k. k < n) rest
all_behind n walk rest y e all k d h = let P : List ℕ → Type 0 = All (λ j. j < n) in let more = subst P e all in more (suc k) d (omega (arith, h))

-- ---- the rows that are left
abbrev pub failing : (ℕ → Bool) → List Reference → Option ℕ
failing p rs = find (λ x. not (p x)) (map (λ (r : Reference). r.digest_row) rs)

pub find_next : (p : ℕ → Bool) (left rest : List Reference) (r : Reference) → left ≡ r ∷ rest → p r.digest_row ≡ true → failing p rest ≡ failing p left
find_next p left rest r e f = sym (ap (failing p) e ∙ ap (λ (b : Bool). cond (not b) (Some r.digest_row) (failing p rest)) f)

pub find_here : (p : ℕ → Bool) (left rest : List Reference) (r : Reference) → left ≡ r ∷ rest → p r.digest_row ≡ false → failing p left ≡ Some r.digest_row
find_here p left rest r e f = ap (failing p) e ∙ ap (λ (b : Bool). cond (not b) (Some r.digest_row) (failing p rest)) f

-- all spans together
pub all_spans : (rows : List RowOf) (fs : List Filling) (g : Filling) (first both : List Span) → first ≡ spans_of rows fs → both ≡ first ++ span_of (row_at rows g.row) g.text ∷ [] → both ≡ spans_of rows (fs ++ g ∷ [])
all_spans rows fs g first both e f = f ∙ ap (λ (t : List Span). t ++ span_of (row_at rows g.row) g.text ∷ []) e ∙ sym (spans_join rows fs (g ∷ []))

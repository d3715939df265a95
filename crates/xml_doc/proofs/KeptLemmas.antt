-- Rows as they are kept, and what they say.
use Rattle.std.proofs.Common.{◌≡◌, ◌∙◌, ℕ, zero, suc, ◌<◌, ◌≤◌, ◌-◌, List, [], ◌∷◌, ◌++◌, map, length, take, drop, get_or, false, Result, Ok, Err, refl, ap, sym, arith}
use Rattle.std.specs.Prelude.{slice_range}
use Rattle.std.specs.List.{All, flat_map}
use Rattle.std.proofs.lemmas.List.{map-append, take-map, drop-map}
use Rattle.std.proofs.lemmas.List.Folds.{flat_map-map}
use Rattle.std.proofs.Math.ListN.{get_or-map, get_or-append}
use Rattle.std.proofs.lemmas.List.{length-map, length-append}
use Rattle.std.proofs.lemmas.List.{get_or-map as get_or-map-within}
use Rattle.std.proofs.lemmas.List.Elements.{All-head, All-tail}
use Rattle.std.specs.Result.{OnErr}
use Rattle.xml_doc.specs.declared.kept.Common.{Common}
use Rattle.xml_doc.specs.declared.kept.Rare.{Rare}
use Rattle.xml_doc.specs.declared.row.Kind.TheVariants.{Root}
use Rattle.xml_doc.specs.Rows.{RowOf}
use Rattle.xml_doc.specs.Shape.{no_row, row_at}
use Rattle.xml_doc.specs.Values.{text_of}
use Rattle.xml_doc.specs.Code.Kept.{AreOf, Extends, IsPlaced, RareOf, kept_text, no_rare, put_together, rare_at, rare_in, rare_of, row_in}

-- the fields that are there for want of others, as goals name them
abbrev pub no_common : Common
no_common = record { local_name = record { ref_ptr = (0, 0); now = [] }; value = record { ref_ptr = (0, 0); now = [] }; parent = 0; last = 0; body_until = 0; rare = 0; kind = Root; empty_tag = false }

abbrev pub blank_rare : Rare
blank_rare = record { prefix_text = record { ref_ptr = (0, 0); now = [] }; uri = record { ref_ptr = (0, 0); now = [] }; tag_from = 0; body_from = 0 }

pub row_at-kept : (rares : List RareOf) (rows : List Common) (k : ℕ) (d : Common) → k < length (map (row_in rares) rows)
    → row_at (map (row_in rares) rows) k ≡ row_in rares (get_or rows k d)
row_at-kept rares rows k d h = get_or-map-within (row_in rares) rows k d no_row (rw (← length-map rows (row_in rares)) h)

-- nothing is added
pub extends_none : (rares : List RareOf) → Extends rares rares
extends_none rares = record { same = λ place h. refl; longer = omega arith }

-- one more
pub extends_one : (rares : List RareOf) (rare : RareOf) → Extends rares (rares ++ rare ∷ [])
extends_one rares rare = record { same = same; longer = let e = length-append rares (rare ∷ []) in omega arith }
  where
    same : (place : ℕ) → place ≤ length rares → rare_at (rares ++ rare ∷ []) place ≡ rare_at rares place
    same zero h = refl
    same (suc k) h = get_or-append rares (rare ∷ []) no_rare k (omega arith)

-- what rows say stays as it was
pub same_row : (old new : List RareOf) (n : ℕ) → n ≡ length old → Extends old new → (c : Common) → IsPlaced n c → row_in new c ≡ row_in old c
same_row old new n e x c h = rw (x.same c.rare (omega arith)) refl

pub same_rows : (old new : List RareOf) (n : ℕ) → n ≡ length old → Extends old new → (rows : List Common) → All (IsPlaced n) rows
    → map (row_in new) rows ≡ map (row_in old) rows
same_rows old new n e x [] h = refl
same_rows old new n e x (c ∷ cs) h =
    rw (same_row old new n e x c (All-head (IsPlaced n) c cs h), same_rows old new n e x cs (All-tail (IsPlaced n) c cs h)) refl

-- one row more
pub one_row_more : (old new : List RareOf) (n : ℕ) → n ≡ length old → Extends old new → (rows : List Common) → All (IsPlaced n) rows
    → (c : Common) (row : RowOf) → AreOf row c → rare_at new c.rare ≡ rare_in row
    → map (row_in new) (rows ++ c ∷ []) ≡ map (row_in old) rows ++ row ∷ []
one_row_more old new n e x rows h c row a r =
    map-append (row_in new) rows (c ∷ [])
    ∙ ap (λ t. t ++ row_in new c ∷ []) (same_rows old new n e x rows h)
    ∙ ap (λ (t : RowOf). map (row_in old) rows ++ t ∷ []) (ap (λ t. put_together t c) r ∙ a)

-- the fields at a place
pub rare_at-map : (rares : List Rare) (place : ℕ) → 0 < place → rare_of (get_or rares (place - 1) blank_rare) ≡ rare_at (map rare_of rares) place
rare_at-map rares zero h = absurd (omega arith)
rare_at-map rares (suc k) h = let e : suc k - 1 ≡ k = omega arith in rw e (sym (get_or-map rare_of rares k blank_rare))

pub on_err : {T E P : Type 0} (r : Result T E) → P → OnErr r P
on_err (Ok x) p = tt
on_err (Err e) p = p

-- the texts of a range of rows
pub texts_in_range : (rares : List RareOf) (rows : List Common) (i j : ℕ)
    → flat_map kept_text (take (j - i) (drop i rows)) ≡ flat_map text_of (slice_range (map (row_in rares) rows) i j)
texts_in_range rares rows i j =
    sym (flat_map-map text_of (row_in rares) (take (j - i) (drop i rows)))
    ∙ ap (flat_map text_of) (sym (take-map (row_in rares) (j - i) (drop i rows)) ∙ ap (take (j - i)) (sym (drop-map (row_in rares) i rows)))

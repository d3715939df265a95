-- Joined values, as they stand in a buffer.
use Rattle.std.proofs.Common.{◌≡◌, ℕ, ◌+◌, ◌||◌, Bool, true, false, cond, List, [], ◌++◌, length, drop, refl, ap, sym, ◌∙◌, append-nil}
use Rattle.std.specs.Prelude.{is_some}
use Rattle.std.proofs.lemmas.List.{drop-drop}
use Rattle.std.proofs.Math.Seq.{drop-append_seam}
use Rattle.c14n_bases.specs.Join.{Parts, is_absolute, is_empty, below, joined_path, joined_query}
use Rattle.c14n_bases.specs.declared.kind.Kind.{Kind}
use Rattle.c14n_bases.specs.declared.kind.Kind.TheVariants.{Scheme, Authority, Absolute, Empty, Relative}
use Rattle.c14n_bases.specs.Code.Clean.{kind_of}
use Rattle.c14n_bases.specs.declared.place.Start.{Start}
use Rattle.c14n_bases.specs.Code.Climbs.{climbs}
use Rattle.c14n_bases.specs.Code.Placed.{value_at}

-- ---- the scheme
pub below-scheme : (b o : Parts) → is_some (below b o).scheme ≡ (is_some b.scheme || is_some o.scheme)
below-scheme b o = go (is_some o.scheme) refl (is_some o.authority)
  where
    last : (x : Bool) → (x || true) ≡ true
    last true = refl
    last false = refl

    none : (x : Bool) → x ≡ (x || false)
    none true = refl
    none false = refl

    go : (e : Bool) → is_some o.scheme ≡ e → (f : Bool) → is_some (cond e o (cond f (record { scheme = b.scheme; authority = o.authority; path = o.path; query = o.query })
        (record { scheme = b.scheme; authority = b.authority; path = joined_path b o; query = joined_query b o }))).scheme ≡ (is_some b.scheme || e)
    go true h f = h ∙ sym (last (is_some b.scheme))
    go false h true = none (is_some b.scheme)
    go false h false = none (is_some b.scheme)

pub below_none : (b : Parts) (o : Parts) (kind : Kind) → kind ≡ kind_of o → (kind ≡ Scheme → ⊥) → is_some (below b o).scheme ≡ is_some b.scheme
below_none b o kind k not = below-scheme b o ∙ ap (λ (x : Bool). is_some b.scheme || x) (go (is_some o.scheme) refl) ∙ none (is_some b.scheme)
  where
    none : (x : Bool) → (x || false) ≡ x
    none true = refl
    none false = refl

    go : (e : Bool) → is_some o.scheme ≡ e → is_some o.scheme ≡ false
    go true h = absurd (not (k ∙ ap (λ (x : Bool). cond x Scheme (cond (is_some o.authority) Authority (cond (is_absolute o.path) Absolute (cond (is_empty o.path) Empty Relative)))) h))
    go false h = h

-- ---- what stands behind a place
pub behind-same : (begin from : ℕ) (front old new : List ℕ) → begin + length front ≡ from → drop begin new ≡ front ++ drop from old → drop from new ≡ drop from old
behind-same begin from front old new at is =
    ap (λ (n : ℕ). drop n new) (sym at) ∙ sym (drop-drop (length front) begin new) ∙ ap (drop (length front)) is ∙ drop-append_seam front (drop from old)

pub nothing-behind : (xs : List ℕ) → drop (length xs) xs ≡ []
nothing-behind xs = ap (drop (length xs)) (sym (append-nil xs)) ∙ drop-append_seam xs []

-- what is put at the end stands there alone
pub at-end : (begin : ℕ) (old front new : List ℕ) → drop begin new ≡ front ++ drop (length old) old → drop begin new ≡ front
at-end begin old front new is =
    is ∙ ap (λ (l : List ℕ). front ++ l) (nothing-behind old) ∙ append-nil front

pub written-value : (start : Start) (from : ℕ) (buffer : List ℕ) → start.upwards ≡ 0 → start.from ≡ from → value_at start buffer ≡ drop from buffer
written-value start from buffer none at = ap (λ (n : ℕ). climbs n ++ drop start.from buffer) none ∙ ap (λ (n : ℕ). drop n buffer) at

-- A base among those that are prepared.
use Rattle.std.proofs.Common.{◌≡◌, ℕ, ◌<◌, ◌≤◌, List, length, get_or, ap, sym, ◌∙◌, subst, arith}
use Rattle.std.proofs.lemmas.List.{length-map}
use Rattle.c14n_bases.specs.Join.{cut}
use Rattle.c14n_bases.specs.Joined.{base_at, PreparedBases}
use Rattle.c14n_bases.specs.declared.bases.Bases.TheInside.{Inside}
use Rattle.c14n_bases.specs.declared.bases.Prepared.{Prepared}
use Rattle.c14n_bases.specs.Code.Below.{IsKnown}
use Rattle.c14n_bases.specs.Code.Prepared.{between, base_of, IsPrepared}
use Rattle.c14n_bases.specs.Code.Stand.{prepared_bases, Stand}
use Rattle.c14n_bases.proofs.PreparedLemmas.{stand-at, base-at}

pub record Held (b : Inside) (base : List ℕ) (p : Prepared) : Type 0 where
  pub texts_up : p.from.texts ≤ p.until.texts
  pub texts_in : p.until.texts ≤ length b.texts.items
  pub starts_up : p.from.starts ≤ p.until.starts
  pub starts_in : p.until.starts ≤ length b.starts.items
  pub known : IsKnown (cut base) p.shape (between p.from.texts p.until.texts b.texts.items) (between p.from.starts p.until.starts b.starts.items)

pub place-within : (b : Inside) (v : PreparedBases) (k : ℕ) → prepared_bases b ≡ v → k < length v.bases → k < length b.places.items
place-within b v k view lt =
    let n = length-map b.places.items (base_of b.raw.items) in
    let m = ap (λ (w : PreparedBases). length w.bases) view in
    omega arith

pub held : (b : Inside) (v : PreparedBases) (k : ℕ) (p : Prepared) → prepared_bases b ≡ v → Stand b → k < length v.bases → p ≡ get_or b.places.items k p → Held b (base_at v.bases k) p
held b v k p view stand lt is =
    let ps = b.places.items in let raw = b.raw.items in let texts = b.texts.items in let starts = b.starts.items in
    let inside = place-within b v k view lt in
    let there = subst (λ (q : Prepared). IsPrepared raw texts starts q × (q.until.raw ≤ length raw) × (q.until.texts ≤ length texts) × (q.until.starts ≤ length starts)) (sym is)
    (stand-at raw texts starts (record { raw = 0; texts = 0; starts = 0 }) ps k p inside stand.stand) in
    let base_is : base_of raw p ≡ base_at v.bases k =
    ap (base_of raw) is ∙ sym (base-at raw ps k p inside) ∙ ap (λ (w : PreparedBases). base_at w.bases k) view in
    let i = there.0 in
    record {
      texts_up = i.texts_up;
      texts_in = there.2;
      starts_up = i.starts_up;
      starts_in = there.3;
      known = subst (λ (base : List ℕ). IsKnown (cut base) p.shape (between p.from.texts p.until.texts texts) (between p.from.starts p.until.starts starts)) base_is i.known;
    }

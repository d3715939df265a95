-- One base more among those that are prepared, and the first ones of them.
use Rattle.std.proofs.Common.{◌≡◌, ℕ, ◌+◌, ◌<◌, ◌≤◌, List, [], ◌∷◌, ◌++◌, length, map, take, get_or, ap, sym, ◌∙◌, subst, arith, length-append}
use Rattle.std.specs.Prelude.{vec_capacity}
use Rattle.c14n_bases.specs.Join.{cleaned_value, cut}
use Rattle.c14n_bases.specs.Joined.{weights, PreparedBases}
use Rattle.c14n_bases.specs.declared.bases.Bases.TheInside.{Inside}
use Rattle.c14n_bases.specs.declared.bases.Ends.{Ends}
use Rattle.c14n_bases.specs.declared.bases.Prepared.{Prepared}
use Rattle.c14n_bases.specs.Code.Below.{starts_below, IsShape}
use Rattle.c14n_bases.specs.Code.Prepared.{base_of, EndAt, IsPrepared, StandFrom}
use Rattle.c14n_bases.specs.Code.Stand.{prepared_bases, Stand}
use Rattle.c14n_bases.proofs.PreparedLemmas.{between-end, lengths, stand-push, bases-push, stand-take, bases-take, weights-push}

abbrev pub begin : Ends
begin = record { raw = 0; texts = 0; starts = 0 }

pub room-for : (b : Inside) (v : PreparedBases) (base : List ℕ) → prepared_bases b ≡ v → Stand b → weights (v.bases ++ base ∷ []) ≤ v.room
    → (length b.raw.items + length base + 4 ≤ vec_capacity b.raw) × (length b.texts.items + length base + 4 ≤ vec_capacity b.texts) × (length b.starts.items + length base + 4 ≤ vec_capacity b.starts)
room-for b v base view stand room =
    let l = lengths b.raw.items b.texts.items b.starts.items begin b.places.items stand.stand in
    let x = l.0 in let y = l.1 in let z = l.2 in
    let w = weights-push v.bases base in
    let e = ap (λ (w : PreparedBases). weights w.bases) view in
    let r = ap (λ (w : PreparedBases). w.room) view in
    let i = stand.raw in let j = stand.texts in let k = stand.starts in
    (omega arith, omega arith, omega arith)

module _ (raw texts starts : List ℕ) (ps : List Prepared) (stand : StandFrom raw texts starts begin ps) where
  one-more : (base : List ℕ) (p : Prepared) → IsShape (cut base) p.shape → EndAt raw texts starts p.from
      → EndAt (raw ++ base) (texts ++ cleaned_value (cut base)) (starts ++ starts_below (cut base)) p.until
      → IsPrepared (raw ++ base) (texts ++ cleaned_value (cut base)) (starts ++ starts_below (cut base)) p
  one-more base p shape from until =
      let value = cleaned_value (cut base) in let places = starts_below (cut base) in
      let a = from.raw in let b = from.texts in let c = from.starts in
      let d = until.raw in let e = until.texts in let f = until.starts in
      let x = length-append raw base in let y = length-append texts value in let z = length-append starts places in
      let is : base_of (raw ++ base) p ≡ base = between-end p.from.raw p.until.raw raw base from.raw until.raw in
      record {
        raw_up = omega arith;
        texts_up = omega arith;
        starts_up = omega arith;
        known = record {
          shape = subst (λ (l : List ℕ). IsShape (cut l) p.shape) (sym is) shape;
          text = between-end p.from.texts p.until.texts texts value from.texts until.texts ∙ ap (λ (l : List ℕ). cleaned_value (cut l)) (sym is);
          starts = between-end p.from.starts p.until.starts starts places from.starts until.starts ∙ ap (λ (l : List ℕ). starts_below (cut l)) (sym is);
        };
      }

  pub pushed : (raw_after texts_after starts_after : List ℕ) (ps_after : List Prepared) (base : List ℕ) (p : Prepared)
      → raw_after ≡ raw ++ base → texts_after ≡ texts ++ cleaned_value (cut base) → starts_after ≡ starts ++ starts_below (cut base) → ps_after ≡ ps ++ p ∷ []
      → IsShape (cut base) p.shape → EndAt raw texts starts p.from → EndAt raw_after texts_after starts_after p.until
      → StandFrom raw_after texts_after starts_after begin ps_after × (map (base_of raw_after) ps_after ≡ map (base_of raw) ps ++ base ∷ [])
  pushed raw_after texts_after starts_after ps_after base p x y z w shape from until =
      let value = cleaned_value (cut base) in let places = starts_below (cut base) in
      let end : EndAt (raw ++ base) (texts ++ value) (starts ++ places) p.until = record {
        raw = until.raw ∙ ap (length {A = ℕ}) x;
        texts = until.texts ∙ ap (length {A = ℕ}) y;
        starts = until.starts ∙ ap (length {A = ℕ}) z;
      } in
      let all = stand-push raw texts starts base value places begin ps p stand from end (one-more base p shape from end) in (
        subst (λ (l : List ℕ). StandFrom l texts_after starts_after begin ps_after) (sym x)
            (subst (λ (l : List ℕ). StandFrom (raw ++ base) l starts_after begin ps_after) (sym y)
            (subst (λ (l : List ℕ). StandFrom (raw ++ base) (texts ++ value) l begin ps_after) (sym z)
            (subst (λ (l : List Prepared). StandFrom (raw ++ base) (texts ++ value) (starts ++ places) begin l) (sym w) all))),
        ap (λ (l : List ℕ). map (base_of l) ps_after) x ∙ ap (map (base_of (raw ++ base))) w
            ∙ bases-push raw texts starts base begin ps p stand from.raw end.raw,
      )

  pub taken : (raw_after texts_after starts_after : List ℕ) (ps_after : List Prepared) (n : ℕ) (p : Prepared) → n < length ps → p ≡ get_or ps n p
      → raw_after ≡ take p.from.raw raw → texts_after ≡ take p.from.texts texts → starts_after ≡ take p.from.starts starts → ps_after ≡ take n ps
      → StandFrom raw_after texts_after starts_after begin ps_after × (map (base_of raw_after) ps_after ≡ take n (map (base_of raw) ps))
  taken raw_after texts_after starts_after ps_after n p lt is x y z w =
      let all = subst (λ (q : Prepared). StandFrom (take q.from.raw raw) (take q.from.texts texts) (take q.from.starts starts) begin (take n ps)) (sym is)
      (stand-take raw texts starts begin ps n p lt stand) in
      let bases = subst (λ (q : Prepared). map (base_of (take q.from.raw raw)) (take n ps) ≡ take n (map (base_of raw) ps)) (sym is)
      (bases-take raw texts starts begin ps n p lt stand) in (
        subst (λ (l : List ℕ). StandFrom l texts_after starts_after begin ps_after) (sym x)
            (subst (λ (l : List ℕ). StandFrom (take p.from.raw raw) l starts_after begin ps_after) (sym y)
            (subst (λ (l : List ℕ). StandFrom (take p.from.raw raw) (take p.from.texts texts) l begin ps_after) (sym z)
            (subst (λ (l : List Prepared). StandFrom (take p.from.raw raw) (take p.from.texts texts) (take p.from.starts starts) begin l) (sym w) all))),
        ap (λ (l : List ℕ). map (base_of l) ps_after) x ∙ ap (map (base_of (take p.from.raw raw))) w ∙ bases,
      )

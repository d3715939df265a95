-- Bases that are prepared, as they stand in buffers one behind another.
use Rattle.std.proofs.Common.{◌≡◌, ℕ, zero, suc, ◌+◌, ◌-◌, ◌<◌, ◌≤◌, cond, List, [], ◌∷◌, ◌++◌, length, map, take, drop, get_or, refl, ap, sym, ◌∙◌, arith, length-append, length-drop}
use Rattle.std.specs.Prelude.{codes}
use Rattle.std.proofs.lemmas.List.{take-append-le, drop-append-le, drop-take, length-take-le, take_all, map-append, get_or-map}
use Rattle.std.proofs.Math.Seq.{drop-append_seam}
use Rattle.c14n_bases.specs.Join.{Parts, is_absolute, last_segment, base_path, cleaned_value, cut}
use Rattle.c14n_bases.specs.Joined.{weights, base_at}
use Rattle.c14n_bases.specs.declared.bases.Ends.{Ends}
use Rattle.c14n_bases.specs.declared.bases.Prepared.{Prepared}
use Rattle.c14n_bases.specs.declared.prepare.Shape.{Shape}
use Rattle.c14n_bases.specs.Code.Climbs.{climbs}
use Rattle.c14n_bases.specs.Code.Below.{names_below, upwards_below, starts_below, slashed, IsKnown}
use Rattle.c14n_bases.specs.Code.Prepared.{between, base_of, IsPrepared, EndAt, StandFrom}
use Rattle.c14n_bases.proofs.LengthLemmas.{clean-most, cut-weight, value-most}
use Rattle.c14n_bases.proofs.BelowLemmas.{path-below, length-below}

-- ---- between two places
between-append : (f u : ℕ) (xs ys : List ℕ) → f ≤ u → u ≤ length xs → between f u (xs ++ ys) ≡ between f u xs
between-append f u xs ys up within =
    let n = length-drop f xs in
    ap (take (u - f)) (drop-append-le f xs ys (omega arith)) ∙ take-append-le (u - f) (drop f xs) ys (omega arith)

take-less : (n m : ℕ) (xs : List ℕ) → n ≤ m → take n (take m xs) ≡ take n xs
take-less zero m xs le = refl
take-less (suc n) zero xs le = absurd (omega arith)
take-less (suc n) (suc m) [] le = refl
take-less (suc n) (suc m) (x ∷ xs) le = ap (λ (l : List ℕ). x ∷ l) (take-less n m xs (omega arith))

between-take : (f u e : ℕ) (xs : List ℕ) → f ≤ u → u ≤ e → between f u (take e xs) ≡ between f u xs
between-take f u e xs up within =
    let n : e ≡ f + (e - f) = omega arith in
    ap (λ (k : ℕ). take (u - f) (drop f (take k xs))) n ∙ ap (take (u - f)) (drop-take f (e - f) xs) ∙ take-less (u - f) (e - f) (drop f xs) (omega arith)

pub between-end : (f u : ℕ) (xs ys : List ℕ) → f ≡ length xs → u ≡ length (xs ++ ys) → between f u (xs ++ ys) ≡ ys
between-end f u xs ys from until =
    let n = length-append xs ys in
    ap (λ (k : ℕ). take (u - f) (drop k (xs ++ ys))) from ∙ ap (take (u - f)) (drop-append_seam xs ys) ∙ take_all (u - f) ys (omega arith)

between-length : (f u : ℕ) (xs : List ℕ) → u ≤ length xs → length (between f u xs) ≡ u - f
between-length f u xs within = let n = length-drop f xs in length-take-le (u - f) (drop f xs) (omega arith)

-- ---- how much is there of a base
some_slashed : (names : List (List ℕ)) → length names ≤ length (slashed names)
some_slashed [] = omega arith
some_slashed (s ∷ more) = let n = length-append s (codes "/" ++ slashed more) in let ih = some_slashed more in omega arith

starts-most : (text : List ℕ) → length (starts_below (cut text)) ≤ length text + 4
starts-most text =
    let b = cut text in
    let root = cond (is_absolute b.path) (codes "/") [] in let ups = climbs (upwards_below b) in let names = slashed (names_below b) in let last = last_segment (base_path b.path) in
    let e = ap (length {A = ℕ}) (path-below b) in
    let f = length-append root (ups ++ (names ++ last)) in
    let g = length-append ups (names ++ last) in
    let h = length-append names last in
    let i = some_slashed (names_below b) in
    let j = length-below b in
    let k = clean-most b.path in
    let m = cut-weight text in
    omega arith

-- ---- one base, where the buffers change
known-as : (b c : Parts) (s : Shape) (v w p q : List ℕ) → c ≡ b → w ≡ v → q ≡ p → IsKnown b s v p → IsKnown c s w q
known-as b c s v w p q e f g k = record {
  shape = rw e k.shape;
  text = f ∙ k.text ∙ ap cleaned_value (sym e);
  starts = g ∙ k.starts ∙ ap starts_below (sym e);
}

abbrev ends_at : ℕ → ℕ → ℕ → Ends
ends_at a b c = record { raw = a; texts = b; starts = c }

same_ends : (e f : Ends) → e.raw ≡ f.raw → e.texts ≡ f.texts → e.starts ≡ f.starts → e ≡ f
same_ends e f x y z = ap (λ (a : ℕ). ends_at a e.texts e.starts) x ∙ ap (λ (b : ℕ). ends_at f.raw b e.starts) y ∙ ap (λ (c : ℕ). ends_at f.raw f.texts c) z

module _ (raw texts starts : List ℕ) where
  longer-prepared : (r t s : List ℕ) (p : Prepared) → p.until.raw ≤ length raw → p.until.texts ≤ length texts → p.until.starts ≤ length starts
      → IsPrepared raw texts starts p → IsPrepared (raw ++ r) (texts ++ t) (starts ++ s) p
  longer-prepared r t s p x y z i = record {
    raw_up = i.raw_up;
    texts_up = i.texts_up;
    starts_up = i.starts_up;
    known = known-as (cut (base_of raw p)) (cut (base_of (raw ++ r) p)) p.shape
        (between p.from.texts p.until.texts texts) (between p.from.texts p.until.texts (texts ++ t)) (between p.from.starts p.until.starts starts) (between p.from.starts p.until.starts (starts ++ s))
        (ap cut (between-append p.from.raw p.until.raw raw r i.raw_up x)) (between-append p.from.texts p.until.texts texts t i.texts_up y) (between-append p.from.starts p.until.starts starts s i.starts_up z) i.known;
  }

  shorter-prepared : (e : Ends) (p : Prepared) → p.until.raw ≤ e.raw → p.until.texts ≤ e.texts → p.until.starts ≤ e.starts
      → IsPrepared raw texts starts p → IsPrepared (take e.raw raw) (take e.texts texts) (take e.starts starts) p
  shorter-prepared e p x y z i = record {
    raw_up = i.raw_up;
    texts_up = i.texts_up;
    starts_up = i.starts_up;
    known = known-as (cut (base_of raw p)) (cut (base_of (take e.raw raw) p)) p.shape
        (between p.from.texts p.until.texts texts) (between p.from.texts p.until.texts (take e.texts texts)) (between p.from.starts p.until.starts starts) (between p.from.starts p.until.starts (take e.starts starts))
        (ap cut (between-take p.from.raw p.until.raw e.raw raw i.raw_up x)) (between-take p.from.texts p.until.texts e.texts texts i.texts_up y) (between-take p.from.starts p.until.starts e.starts starts i.starts_up z) i.known;
  }

  -- ---- all of them
  pub from-within : (from : Ends) (ps : List Prepared) → StandFrom raw texts starts from ps → (from.raw ≤ length raw) × (from.texts ≤ length texts) × (from.starts ≤ length starts)
  from-within from [] s = let a = s.raw in let b = s.texts in let c = s.starts in (omega arith, omega arith, omega arith)
  from-within from (p ∷ more) s =
      let ih = from-within p.until more s.2 in let i = s.1 in
      let a = i.raw_up in let b = i.texts_up in let c = i.starts_up in
      let x = ap (λ (e : Ends). e.raw) s.0 in let y = ap (λ (e : Ends). e.texts) s.0 in let z = ap (λ (e : Ends). e.starts) s.0 in
      let u = ih.0 in let v = ih.1 in let w = ih.2 in
      (omega arith, omega arith, omega arith)

  pub stand-at : (from : Ends) (ps : List Prepared) (k : ℕ) (d : Prepared) → k < length ps → StandFrom raw texts starts from ps
      → IsPrepared raw texts starts (get_or ps k d) × ((get_or ps k d).until.raw ≤ length raw) × ((get_or ps k d).until.texts ≤ length texts) × ((get_or ps k d).until.starts ≤ length starts)
  stand-at from [] k d lt s = absurd (omega arith)
  stand-at from (p ∷ more) zero d lt s = let w = from-within p.until more s.2 in (s.1, w.0, w.1, w.2)
  stand-at from (p ∷ more) (suc k) d lt s = stand-at p.until more k d (omega arith) s.2

  pub from-before : (from : Ends) (ps : List Prepared) (k : ℕ) (d : Prepared) → k < length ps → StandFrom raw texts starts from ps
      → (from.raw ≤ (get_or ps k d).from.raw) × (from.texts ≤ (get_or ps k d).from.texts) × (from.starts ≤ (get_or ps k d).from.starts)
  from-before from [] k d lt s = absurd (omega arith)
  from-before from (p ∷ more) zero d lt s =
      let x = ap (λ (e : Ends). e.raw) s.0 in let y = ap (λ (e : Ends). e.texts) s.0 in let z = ap (λ (e : Ends). e.starts) s.0 in
      (omega arith, omega arith, omega arith)
  from-before from (p ∷ more) (suc k) d lt s =
      let ih = from-before p.until more k d (omega arith) s.2 in let i = s.1 in
      let a = i.raw_up in let b = i.texts_up in let c = i.starts_up in
      let x = ap (λ (e : Ends). e.raw) s.0 in let y = ap (λ (e : Ends). e.texts) s.0 in let z = ap (λ (e : Ends). e.starts) s.0 in
      let u = ih.0 in let v = ih.1 in let w = ih.2 in
      (omega arith, omega arith, omega arith)

  -- how long the buffers are
  pub lengths : (from : Ends) (ps : List Prepared) → StandFrom raw texts starts from ps
      → (length raw ≤ from.raw + weights (map (base_of raw) ps)) × (length texts ≤ from.texts + weights (map (base_of raw) ps)) × (length starts ≤ from.starts + weights (map (base_of raw) ps))
  lengths from [] s = let a = s.raw in let b = s.texts in let c = s.starts in (omega arith, omega arith, omega arith)
  lengths from (p ∷ more) s =
      let ih = lengths p.until more s.2 in let i = s.1 in let w = from-within p.until more s.2 in
      let a = i.raw_up in let b = i.texts_up in let c = i.starts_up in
      let x = ap (λ (e : Ends). e.raw) s.0 in let y = ap (λ (e : Ends). e.texts) s.0 in let z = ap (λ (e : Ends). e.starts) s.0 in
      let base = base_of raw p in
      let one = between-length p.from.raw p.until.raw raw w.0 in
      let two = sym (between-length p.from.texts p.until.texts texts w.1) ∙ ap (length {A = ℕ}) i.known.text in
      let three = sym (between-length p.from.starts p.until.starts starts w.2) ∙ ap (length {A = ℕ}) i.known.starts in
      let most = value-most base in
      let few = starts-most base in
      let u = ih.0 in let v = ih.1 in let t = ih.2 in
      (omega arith, omega arith, omega arith)

  -- one more
  pub stand-push : (r t s : List ℕ) (from : Ends) (ps : List Prepared) (p : Prepared) → StandFrom raw texts starts from ps → EndAt raw texts starts p.from
      → EndAt (raw ++ r) (texts ++ t) (starts ++ s) p.until → IsPrepared (raw ++ r) (texts ++ t) (starts ++ s) p → StandFrom (raw ++ r) (texts ++ t) (starts ++ s) from (ps ++ p ∷ [])
  stand-push r t s from [] p st begin end i =
      (same_ends p.from from (begin.raw ∙ sym st.raw) (begin.texts ∙ sym st.texts) (begin.starts ∙ sym st.starts), i, end)
  stand-push r t s from (q ∷ more) p st begin end i =
      let w = from-within q.until more st.2 in
      (st.0, longer-prepared r t s q w.0 w.1 w.2 st.1, stand-push r t s q.until more p st.2 begin end i)

  bases-longer : (r : List ℕ) (from : Ends) (ps : List Prepared) → StandFrom raw texts starts from ps → map (base_of (raw ++ r)) ps ≡ map (base_of raw) ps
  bases-longer r from [] st = refl
  bases-longer r from (q ∷ more) st =
      let w = from-within q.until more st.2 in
      ap (λ (b : List ℕ). b ∷ map (base_of (raw ++ r)) more) (between-append q.from.raw q.until.raw raw r st.1.raw_up w.0)
      ∙ ap (λ (l : List (List ℕ)). base_of raw q ∷ l) (bases-longer r q.until more st.2)

  pub bases-push : (r : List ℕ) (from : Ends) (ps : List Prepared) (p : Prepared) → StandFrom raw texts starts from ps → p.from.raw ≡ length raw → p.until.raw ≡ length (raw ++ r)
      → map (base_of (raw ++ r)) (ps ++ p ∷ []) ≡ map (base_of raw) ps ++ r ∷ []
  bases-push r from ps p st begin end =
      map-append (base_of (raw ++ r)) ps (p ∷ []) ∙ ap (λ (l : List (List ℕ)). l ++ base_of (raw ++ r) p ∷ []) (bases-longer r from ps st)
      ∙ ap (λ (b : List ℕ). map (base_of raw) ps ++ b ∷ []) (between-end p.from.raw p.until.raw raw r begin end)

  -- the first ones
  pub stand-take : (from : Ends) (ps : List Prepared) (n : ℕ) (d : Prepared) → n < length ps → StandFrom raw texts starts from ps
      → StandFrom (take (get_or ps n d).from.raw raw) (take (get_or ps n d).from.texts texts) (take (get_or ps n d).from.starts starts) from (take n ps)
  stand-take from [] n d lt st = absurd (omega arith)
  stand-take from (p ∷ more) zero d lt st =
      let w = from-within from (p ∷ more) st in
      let x = ap (λ (e : Ends). e.raw) st.0 in let y = ap (λ (e : Ends). e.texts) st.0 in let z = ap (λ (e : Ends). e.starts) st.0 in
      record {
        raw = sym (length-take-le p.from.raw raw (let a = w.0 in omega arith) ∙ x);
        texts = sym (length-take-le p.from.texts texts (let a = w.1 in omega arith) ∙ y);
        starts = sym (length-take-le p.from.starts starts (let a = w.2 in omega arith) ∙ z);
      }
  stand-take from (p ∷ more) (suc n) d lt st =
      let less : n < length more = omega arith in
      let b = from-before p.until more n d less st.2 in
      (st.0, shorter-prepared (get_or more n d).from p b.0 b.1 b.2 st.1, stand-take p.until more n d less st.2)

  pub bases-take : (from : Ends) (ps : List Prepared) (n : ℕ) (d : Prepared) → n < length ps → StandFrom raw texts starts from ps
      → map (base_of (take (get_or ps n d).from.raw raw)) (take n ps) ≡ take n (map (base_of raw) ps)
  bases-take from [] n d lt st = absurd (omega arith)
  bases-take from (p ∷ more) zero d lt st = refl
  bases-take from (p ∷ more) (suc n) d lt st =
      let less : n < length more = omega arith in
      let b = from-before p.until more n d less st.2 in
      ap (λ (l : List ℕ). l ∷ map (base_of (take (get_or more n d).from.raw raw)) (take n more)) (between-take p.from.raw p.until.raw (get_or more n d).from.raw raw st.1.raw_up b.0)
      ∙ ap (λ (l : List (List ℕ)). base_of raw p ∷ l) (bases-take p.until more n d less st.2)

pub weights-push : (bases : List (List ℕ)) (b : List ℕ) → weights (bases ++ b ∷ []) ≡ weights bases + (length b + 4)
weights-push [] b = omega arith
weights-push (c ∷ more) b = let ih = weights-push more b in omega arith

-- the base at a place
pub base-at : (raw : List ℕ) (ps : List Prepared) (k : ℕ) (d : Prepared) → k < length ps → base_at (map (base_of raw) ps) k ≡ base_of raw (get_or ps k d)
base-at raw ps k d lt = get_or-map (base_of raw) ps k d [] lt

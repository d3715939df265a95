-- What putting attributes in order does with lists that are joined, and with attributes of one name.
use Rattle.std.proofs.Common.{◌≡◌, ℕ, zero, suc, ◌≤◌, Bool, true, false, cond, inl, inr, ◌⊎◌, List, [], ◌∷◌, ◌++◌, length, drop, refl, ap, sym, ◌∙◌, subst, arith, append-nil}
use Rattle.std.specs.List.{All, filter}
use Rattle.std.specs.Ordering.{ordering_reverse}
use Rattle.std.specs.declared.cmp.Ordering.{Ordering}
use Rattle.std.specs.declared.cmp.Ordering.TheVariants.{Less, Equal, Greater}
use Rattle.std.proofs.lemmas.List.Elements.{All-cons, All-head, All-tail}
use Rattle.xml_doc.specs.Rows.{RowOf}
use Rattle.c14n_text.specs.Attributes.{attribute_cmp, placed, put_in, in_order}
use Rattle.c14n_text.proofs.ChoiceLemmas.{Ascending, in_order-ascends}
use Rattle.c14n_rows.proofs.OrderLemmas.{total}

module _ (rows : List RowOf) where
  abbrev R : ℕ → ℕ → Ordering
  R a b = attribute_cmp rows a b

  after : (a b : ℕ) → R a b ≡ Less → R b a ≡ Greater
  after a b e = (total rows).antisymm b a ∙ ap ordering_reverse e

  ahead : (a b : ℕ) → R a b ≡ Greater → R b a ≡ Less
  ahead a b e = (total rows).antisymm b a ∙ ap ordering_reverse e

  level : (a b : ℕ) → R a b ≡ Equal → R b a ≡ Equal
  level a b e = (total rows).antisymm b a ∙ ap ordering_reverse e

  -- equal names compare alike
  alike : (l a b : ℕ) → R a b ≡ Equal → R l a ≡ R l b
  alike l a b e = (total rows).antisymm l a ∙ ap ordering_reverse ((total rows).congr a b l e) ∙ sym ((total rows).antisymm l b)

  put_less : (a b : ℕ) (u : List ℕ) → R a b ≡ Less → put_in rows a (b ∷ u) ≡ a ∷ b ∷ u
  put_less a b u e = ap (λ (o : Ordering). placed o a b u (put_in rows a u)) e

  put_equal : (a b : ℕ) (u : List ℕ) → R a b ≡ Equal → put_in rows a (b ∷ u) ≡ a ∷ u
  put_equal a b u e = ap (λ (o : Ordering). placed o a b u (put_in rows a u)) e

  put_greater : (a b : ℕ) (u : List ℕ) → R a b ≡ Greater → put_in rows a (b ∷ u) ≡ b ∷ put_in rows a u
  put_greater a b u e = ap (λ (o : Ordering). placed o a b u (put_in rows a u)) e

  -- of two of one name the later one is lost
  absorb : (a z : ℕ) (u : List ℕ) → R a z ≡ Equal → put_in rows a (put_in rows z u) ≡ put_in rows a u
  absorb a z [] e = put_equal a z [] e
  absorb a z (b ∷ u) e = go (R z b) refl (absorb a z u e)
    where
      same : (o : Ordering) → R z b ≡ o → R a b ≡ o
      same o f = (total rows).congr a z b e ∙ f

      go : (o : Ordering) → R z b ≡ o → put_in rows a (put_in rows z u) ≡ put_in rows a u → put_in rows a (placed o z b u (put_in rows z u)) ≡ put_in rows a (b ∷ u)
      go Less f ih = put_equal a z (b ∷ u) e ∙ sym (put_less a b u (same Less f))
      go Equal f ih = put_equal a z u e ∙ sym (put_equal a b u (same Equal f))
      go Greater f ih = put_greater a b (put_in rows z u) (same Greater f) ∙ ap (λ (t : List ℕ). b ∷ t) ih ∙ sym (put_greater a b u (same Greater f))

  -- two of other names may be put in either way round
  exchange : (a z : ℕ) (u : List ℕ) → R a z ≡ Less → put_in rows a (put_in rows z u) ≡ put_in rows z (put_in rows a u)
  exchange a z [] e = put_less a z [] e ∙ sym (put_greater z a [] (after a z e))
  exchange a z (b ∷ u) e = by_z (R z b) refl (exchange a z u e)
    where
      by_a : (q : Ordering) → R a b ≡ q → R z b ≡ Greater → put_in rows a (put_in rows z u) ≡ put_in rows z (put_in rows a u) → put_in rows a (put_in rows z (b ∷ u)) ≡ put_in rows z (put_in rows a (b ∷ u))
      by_a Less g f ih =
          ap (put_in rows a) (put_greater z b u f) ∙ put_less a b (put_in rows z u) g
          ∙ sym (ap (put_in rows z) (put_less a b u g) ∙ put_greater z a (b ∷ u) (after a z e) ∙ ap (λ (t : List ℕ). a ∷ t) (put_greater z b u f))
      by_a Equal g f ih =
          ap (put_in rows a) (put_greater z b u f) ∙ put_equal a b (put_in rows z u) g
          ∙ sym (ap (put_in rows z) (put_equal a b u g) ∙ put_greater z a u (after a z e))
      by_a Greater g f ih =
          ap (put_in rows a) (put_greater z b u f) ∙ put_greater a b (put_in rows z u) g ∙ ap (λ (t : List ℕ). b ∷ t) ih
          ∙ sym (ap (put_in rows z) (put_greater a b u g) ∙ put_greater z b (put_in rows a u) f)

      by_z : (o : Ordering) → R z b ≡ o → put_in rows a (put_in rows z u) ≡ put_in rows z (put_in rows a u) → put_in rows a (put_in rows z (b ∷ u)) ≡ put_in rows z (put_in rows a (b ∷ u))
      by_z Less f ih =
          let less : R a b ≡ Less = (total rows).trans a z b e f in
          ap (put_in rows a) (put_less z b u f) ∙ put_less a z (b ∷ u) e
          ∙ sym (ap (put_in rows z) (put_less a b u less) ∙ put_greater z a (b ∷ u) (after a z e) ∙ ap (λ (t : List ℕ). a ∷ t) (put_less z b u f))
      by_z Equal f ih =
          let less : R a b ≡ Less = sym (alike a z b f) ∙ e in
          ap (put_in rows a) (put_equal z b u f) ∙ put_less a z u e
          ∙ sym (ap (put_in rows z) (put_less a b u less) ∙ put_greater z a (b ∷ u) (after a z e) ∙ ap (λ (t : List ℕ). a ∷ t) (put_equal z b u f))
      by_z Greater f ih = by_a (R a b) refl f ih

  put_front : (a : ℕ) (s t : List ℕ) → in_order rows (put_in rows a s ++ t) ≡ put_in rows a (in_order rows (s ++ t))
  put_front a [] t = refl
  put_front a (b ∷ s) t = go (R a b) refl (put_front a s t)
    where
      go : (o : Ordering) → R a b ≡ o → in_order rows (put_in rows a s ++ t) ≡ put_in rows a (in_order rows (s ++ t)) → in_order rows (placed o a b s (put_in rows a s) ++ t) ≡ put_in rows a (put_in rows b (in_order rows (s ++ t)))
      go Less e ih = refl
      go Equal e ih = sym (absorb a b (in_order rows (s ++ t)) e)
      go Greater e ih = ap (put_in rows b) ih ∙ exchange b a (in_order rows (s ++ t)) (ahead a b e)

  -- a part that is in order already changes nothing
  pub order_front : (s t : List ℕ) → in_order rows (in_order rows s ++ t) ≡ in_order rows (s ++ t)
  order_front [] t = refl
  order_front (a ∷ s) t = put_front a (in_order rows s) t ∙ ap (put_in rows a) (order_front s t)

  pub order_again : (s : List ℕ) → in_order rows (in_order rows s) ≡ in_order rows s
  order_again s = sym (ap (in_order rows) (append-nil (in_order rows s))) ∙ order_front s [] ∙ ap (in_order rows) (append-nil s)

  pub order_back : (s t : List ℕ) → in_order rows (s ++ in_order rows t) ≡ in_order rows (s ++ t)
  order_back [] t = order_again t
  order_back (a ∷ s) t = ap (put_in rows a) (order_back s t)

  pub order_both : (s t : List ℕ) → in_order rows (in_order rows s ++ in_order rows t) ≡ in_order rows (s ++ t)
  order_both s t = order_front s (in_order rows t) ∙ order_back s t

  few_put : (a : ℕ) (s : List ℕ) → length (put_in rows a s) ≤ suc (length s)
  few_put a [] = omega arith
  few_put a (b ∷ s) = go (R a b) (few_put a s)
    where
      go : (o : Ordering) → length (put_in rows a s) ≤ suc (length s) → length (placed o a b s (put_in rows a s)) ≤ suc (suc (length s))
      go Less le = omega arith
      go Equal le = omega arith
      go Greater le = omega arith

  pub few_in_order : (s : List ℕ) → length (in_order rows s) ≤ length s
  few_in_order [] = omega arith
  few_in_order (a ∷ s) = let one = few_put a (in_order rows s) in let more = few_in_order s in omega arith

  module _ (P : ℕ → Type 0) where
    all_put : (a : ℕ) (s : List ℕ) → P a → All P s → All P (put_in rows a s)
    all_put a [] one all = All-cons P a [] one all
    all_put a (b ∷ s) one all = go (R a b) (all_put a s one (All-tail P b s all))
      where
        go : (o : Ordering) → All P (put_in rows a s) → All P (placed o a b s (put_in rows a s))
        go Less later = All-cons P a (b ∷ s) one all
        go Equal later = All-cons P a s one (All-tail P b s all)
        go Greater later = All-cons P b (put_in rows a s) (All-head P b s all) later

    pub all_in_order : (s : List ℕ) → All P s → All P (in_order rows s)
    all_in_order [] all = all
    all_in_order (a ∷ s) all = all_put a (in_order rows s) (All-head P a s all) (all_in_order s (All-tail P a s all))

  -- each goes behind a
  abbrev Behind : ℕ → List ℕ → Type 0
  Behind a [] = Unit {0}
  Behind a (b ∷ more) = (R a b ≡ Less) × Behind a more

  behind_of : (a : ℕ) (s : List ℕ) → Ascending rows (a ∷ s) → Behind a s
  behind_of a [] asc = tt
  behind_of a (b ∷ s) asc = ((asc.0).0, behind_of a s ((asc.0).1, (asc.1).1))

  behind_further : (a b : ℕ) (s : List ℕ) → R a b ≡ Less → Behind b s → Behind a s
  behind_further a b [] e all = tt
  behind_further a b (c ∷ s) e all = ((total rows).trans a b c e all.0, behind_further a b s e all.1)

  behind_alike : (a b : ℕ) (s : List ℕ) → R a b ≡ Equal → Behind b s → Behind a s
  behind_alike a b [] e all = tt
  behind_alike a b (c ∷ s) e all = ((total rows).congr a b c e ∙ all.0, behind_alike a b s e all.1)

  behind_append : (a : ℕ) (s t : List ℕ) → Behind a s → Behind a t → Behind a (s ++ t)
  behind_append a [] t all more = more
  behind_append a (b ∷ s) t all more = (all.0, behind_append a s t all.1 more)

  behind_put : (a b : ℕ) (s : List ℕ) → R b a ≡ Less → Behind b s → Behind b (put_in rows a s)
  behind_put a b [] e all = (e, tt)
  behind_put a b (c ∷ s) e all = go (R a c) (behind_put a b s e all.1)
    where
      go : (o : Ordering) → Behind b (put_in rows a s) → Behind b (placed o a c s (put_in rows a s))
      go Less later = (e, all)
      go Equal later = (e, all.1)
      go Greater later = (all.0, later)

  behind_order : (b : ℕ) (s : List ℕ) → Behind b s → Behind b (in_order rows s)
  behind_order b [] all = tt
  behind_order b (a ∷ s) all = behind_put a b (in_order rows s) all.0 (behind_order b s all.1)

  -- the one that goes first
  lead : (a : ℕ) (s : List ℕ) → Behind a s → put_in rows a s ≡ a ∷ s
  lead a [] all = refl
  lead a (b ∷ s) all = put_less a b s all.0

  first_goes : (b : ℕ) (s t : List ℕ) → Behind b s → Behind b t → in_order rows (s ++ b ∷ t) ≡ b ∷ in_order rows (s ++ t)
  first_goes b [] t all more = lead b (in_order rows t) (behind_order b t more)
  first_goes b (c ∷ s) t all more = ap (put_in rows c) (first_goes b s t all.1 more) ∙ put_greater c b (in_order rows (s ++ t)) (after b c all.0)

  -- a step of the merge of two runs
  pub merge_less : (a b : ℕ) (s t : List ℕ) → R a b ≡ Less → Ascending rows (a ∷ s) → Ascending rows (b ∷ t) → in_order rows ((a ∷ s) ++ b ∷ t) ≡ a ∷ in_order rows (s ++ b ∷ t)
  merge_less a b s t e first second =
      lead a (in_order rows (s ++ b ∷ t)) (behind_order a (s ++ b ∷ t) (behind_append a s (b ∷ t) (behind_of a s first) (e, behind_further a b t e (behind_of b t second))))

  pub merge_equal : (a b : ℕ) (s t : List ℕ) → R a b ≡ Equal → Ascending rows (a ∷ s) → Ascending rows (b ∷ t) → in_order rows ((a ∷ s) ++ b ∷ t) ≡ in_order rows ((a ∷ s) ++ t)
  merge_equal a b s t e first second =
      ap (put_in rows a) (first_goes b s t (behind_alike b a s (level a b e) (behind_of a s first)) (behind_of b t second))
      ∙ put_equal a b (in_order rows (s ++ t)) e
      ∙ sym (lead a (in_order rows (s ++ t)) (behind_order a (s ++ t) (behind_append a s t (behind_of a s first) (behind_alike a b t e (behind_of b t second)))))

  pub merge_greater : (a b : ℕ) (s t : List ℕ) → R a b ≡ Greater → Ascending rows (a ∷ s) → Ascending rows (b ∷ t) → in_order rows ((a ∷ s) ++ b ∷ t) ≡ b ∷ in_order rows ((a ∷ s) ++ t)
  merge_greater a b s t e first second =
      let less : R b a ≡ Less = ahead a b e in
      first_goes b (a ∷ s) t (less, behind_further b a s less (behind_of a s first)) (behind_of b t second)

  pub stands_ascends : (s : List ℕ) → in_order rows s ≡ s → Ascending rows s
  stands_ascends s e = subst (Ascending rows) e (in_order-ascends rows s)

  pub ascends_stand : (s : List ℕ) → Ascending rows s → in_order rows s ≡ s
  ascends_stand [] asc = refl
  ascends_stand (a ∷ s) asc = ap (put_in rows a) (ascends_stand s asc.1) ∙ lead a s (behind_of a s asc)

  pub drop_ascends : (i : ℕ) (s : List ℕ) → Ascending rows s → Ascending rows (drop i s)
  drop_ascends zero s asc = asc
  drop_ascends (suc i) [] asc = tt
  drop_ascends (suc i) (a ∷ s) asc = drop_ascends i s asc.1

  -- attributes that have the name of a don't matter beside it
  pub agree : (a : ℕ) (p q : ℕ → Bool) (s : List ℕ) → All (λ b. (R a b ≡ Equal) ⊎ (p b ≡ q b)) s → put_in rows a (in_order rows (filter p s)) ≡ put_in rows a (in_order rows (filter q s))
  agree a p q [] all = refl
  agree a p q (b ∷ s) all = go (agree a p q s (All-tail (λ b. (R a b ≡ Equal) ⊎ (p b ≡ q b)) b s all)) (All-head (λ b. (R a b ≡ Equal) ⊎ (p b ≡ q b)) b s all)
    where
      lost : R a b ≡ Equal → (t : Bool) (u : List ℕ) → put_in rows a (in_order rows (cond t (b ∷ u) u)) ≡ put_in rows a (in_order rows u)
      lost e true u = absorb a b (in_order rows u) e
      lost e false u = refl

      both : put_in rows a (in_order rows (filter p s)) ≡ put_in rows a (in_order rows (filter q s)) → (t : Bool) (o : Ordering) → R a b ≡ o
          → put_in rows a (in_order rows (cond t (b ∷ filter p s) (filter p s))) ≡ put_in rows a (in_order rows (cond t (b ∷ filter q s) (filter q s)))
      both ih false o e = ih
      both ih true Less e = exchange a b (in_order rows (filter p s)) e ∙ ap (put_in rows b) ih ∙ sym (exchange a b (in_order rows (filter q s)) e)
      both ih true Equal e = absorb a b (in_order rows (filter p s)) e ∙ ih ∙ sym (absorb a b (in_order rows (filter q s)) e)
      both ih true Greater e =
          let less : R b a ≡ Less = ahead a b e in
          sym (exchange b a (in_order rows (filter p s)) less) ∙ ap (put_in rows b) ih ∙ exchange b a (in_order rows (filter q s)) less

      go : put_in rows a (in_order rows (filter p s)) ≡ put_in rows a (in_order rows (filter q s)) → (R a b ≡ Equal) ⊎ (p b ≡ q b) → put_in rows a (in_order rows (filter p (b ∷ s))) ≡ put_in rows a (in_order rows (filter q (b ∷ s)))
      go ih (inl same) = lost same (p b) (filter p s) ∙ ih ∙ sym (lost same (q b) (filter q s))
      go ih (inr e) = ap (λ (t : Bool). put_in rows a (in_order rows (cond t (b ∷ filter p s) (filter p s)))) e ∙ both ih (q b) (R a b) refl

  -- attributes of one name pass a test alike: then it makes no difference whether they are put in order first
  module _ (p : ℕ → Bool) (alike_pass : (a b : ℕ) → R a b ≡ Equal → p a ≡ p b) where
    kept_out : (a : ℕ) (s : List ℕ) → p a ≡ false → filter p (put_in rows a s) ≡ filter p s
    kept_out a [] out = ap (λ (t : Bool). cond t (a ∷ []) []) out
    kept_out a (b ∷ s) out = go (R a b) refl (kept_out a s out)
      where
        go : (o : Ordering) → R a b ≡ o → filter p (put_in rows a s) ≡ filter p s → filter p (placed o a b s (put_in rows a s)) ≡ filter p (b ∷ s)
        go Less e ih = ap (λ (t : Bool). cond t (a ∷ filter p (b ∷ s)) (filter p (b ∷ s))) out
        go Equal e ih = ap (λ (t : Bool). cond t (a ∷ filter p s) (filter p s)) out ∙ sym (ap (λ (t : Bool). cond t (b ∷ filter p s) (filter p s)) (sym (alike_pass a b e) ∙ out))
        go Greater e ih = ap (λ (u : List ℕ). cond (p b) (b ∷ u) u) ih

    behind_filter : (a : ℕ) (s : List ℕ) → Behind a s → Behind a (filter p s)
    behind_filter a [] all = all
    behind_filter a (b ∷ s) all = go (p b) (behind_filter a s all.1)
      where
        go : (t : Bool) → Behind a (filter p s) → Behind a (cond t (b ∷ filter p s) (filter p s))
        go true more = (all.0, more)
        go false more = more

    kept_in : (a : ℕ) (s : List ℕ) → p a ≡ true → Ascending rows s → filter p (put_in rows a s) ≡ put_in rows a (filter p s)
    kept_in a [] is asc = ap (λ (t : Bool). cond t (a ∷ []) []) is
    kept_in a (b ∷ s) is asc = go (R a b) refl (kept_in a s is asc.1)
      where
        further : (t : Bool) → R a b ≡ Greater → filter p (put_in rows a s) ≡ put_in rows a (filter p s)
            → cond t (b ∷ filter p (put_in rows a s)) (filter p (put_in rows a s)) ≡ put_in rows a (cond t (b ∷ filter p s) (filter p s))
        further true e ih = ap (λ (u : List ℕ). b ∷ u) ih ∙ sym (put_greater a b (filter p s) e)
        further false e ih = ih

        go : (o : Ordering) → R a b ≡ o → filter p (put_in rows a s) ≡ put_in rows a (filter p s) → filter p (placed o a b s (put_in rows a s)) ≡ put_in rows a (filter p (b ∷ s))
        go Less e ih =
            ap (λ (t : Bool). cond t (a ∷ filter p (b ∷ s)) (filter p (b ∷ s))) is
            ∙ sym (lead a (filter p (b ∷ s)) (behind_filter a (b ∷ s) (e, behind_further a b s e (behind_of b s asc))))
        go Equal e ih =
            ap (λ (t : Bool). cond t (a ∷ filter p s) (filter p s)) is
            ∙ sym (ap (λ (t : Bool). put_in rows a (cond t (b ∷ filter p s) (filter p s))) (sym (alike_pass a b e) ∙ is) ∙ put_equal a b (filter p s) e)
        go Greater e ih = further (p b) e ih

    pub filter_order : (s : List ℕ) → filter p (in_order rows s) ≡ in_order rows (filter p s)
    filter_order [] = refl
    filter_order (a ∷ s) = go (p a) refl (filter_order s)
      where
        go : (t : Bool) → p a ≡ t → filter p (in_order rows s) ≡ in_order rows (filter p s) → filter p (put_in rows a (in_order rows s)) ≡ in_order rows (cond t (a ∷ filter p s) (filter p s))
        go true e ih = kept_in a (in_order rows s) e (in_order-ascends rows s) ∙ ap (put_in rows a) ih
        go false e ih = kept_out a (in_order rows s) e ∙ ih

-- Rows that are gathered, walk after walk.
use Rattle.std.proofs.Common.{◌≡◌, ℕ, ◌<◌, ◌≤◌, Bool, ◌||◌, List, [], ◌∷◌, ◌++◌, length, refl, sym, ap, subst, ◌∙◌, arith}
use Rattle.std.specs.Prelude.{Result, Ok, Err, IfOk}
use Rattle.std.specs.List.{All, filter, range_with_len}
use Rattle.std.proofs.lemmas.List.Elements.{All-append}
use Rattle.node_sets.specs.Members.{SetOf, has}
use Rattle.sig_base.specs.declared.memory.NoMemory.{NoMemory}
use Rattle.xml_doc.specs.Rows.{RowOf}
use Rattle.xpath_eval.specs.declared.gathering.Gathering.{Gathering}
use Rattle.xpath_eval.specs.declared.gathering.Gathering.TheVariants.{Listed, Marked}
use Rattle.xpath_eval.specs.Context.{is_in}
use Rattle.xpath_eval.specs.Order.{Ascends}
use Rattle.xpath_eval.specs.Code.Context.{AreRows}
use Rattle.xpath_eval.specs.Code.Gathering.{Gathers, holds_row}
use Rattle.xpath_eval.proofs.Orders.{in_both, join_ascends, ordered_is}

-- what is gathered with more rows
abbrev pub HoldsBoth : List ℕ → Gathering → Gathering → Type 0
HoldsBoth more old new = (k : ℕ) → holds_row new k ≡ (is_in more k || holds_row old k)

-- a list with more rows behind it
module _ (doc : List RowOf) (old : Gathering) (rows more : List ℕ) (end behind : ℕ) (is : old ≡ Listed rows end) (g : Result Gathering NoMemory) (made : IfOk g (λ new. new ≡ Listed (rows ++ more) behind)) where
  pub longer_gathers : Gathers doc old → Ascends end behind more → end ≤ behind → AreRows doc more → IfOk g (Gathers doc)
  longer_gathers all up le below = go g made
    where
      listed : Gathers doc (Listed rows end)
      listed = subst (Gathers doc) is all

      go : (r : Result Gathering NoMemory) → IfOk r (λ new. new ≡ Listed (rows ++ more) behind) → IfOk r (Gathers doc)
      go (Err e) h = tt
      go (Ok new) h = subst (Gathers doc) (sym h) (join_ascends 0 end behind rows more (omega arith) le listed.0 up, All-append (λ y. y < length doc) rows more listed.1 below)

  pub longer_holds : IfOk g (HoldsBoth more old)
  longer_holds = go g made
    where
      go : (r : Result Gathering NoMemory) → IfOk r (λ new. new ≡ Listed (rows ++ more) behind) → IfOk r (HoldsBoth more old)
      go (Err e) h = tt
      go (Ok new) h = λ k. ap (λ (v : Gathering). holds_row v k) h ∙ in_both rows more k ∙ ap (λ (v : Gathering). is_in more k || holds_row v k) (sym is)

-- what holds of the old rows, held as a list or as a set
pub holds_as : (more : List ℕ) (old same : Gathering) (g : Result Gathering NoMemory) → old ≡ same → IfOk g (HoldsBoth more same) → IfOk g (HoldsBoth more old)
holds_as more old same g is h = let P : Gathering → Type 0 = λ v. IfOk g (HoldsBoth more v) in subst P (sym is) h

pub gathers_as : (doc : List RowOf) (old same : Gathering) → old ≡ same → Gathers doc old → Gathers doc same
gathers_as doc old same is h = subst (Gathers doc) is h

pub listed_rows : (doc : List RowOf) (old : Gathering) (rows : List ℕ) (end : ℕ) → old ≡ Listed rows end → Gathers doc old → (rows ≡ filter (holds_row old) (range_with_len 0 (length doc))) × AreRows doc rows
listed_rows doc old rows end is h =
    let listed = gathers_as doc old (Listed rows end) is h in
    (ordered_is doc rows end listed.0 listed.1 ∙ ap (λ (v : Gathering). filter (holds_row v) (range_with_len 0 (length doc))) (sym is), listed.1)

-- Several elements that get another text, from the last one to the first, so that no offset moves before it is used.
use Rattle.std.proofs.Common.{◌≡◌, ℕ, ◌+◌, ◌-◌, ◌<◌, ◌≤◌, ◌==◌, ◌&&◌, ◌||◌, Bool, true, if◌then◌else◌, eqb, inl, inr, List, [], ◌∷◌, length, Ok, refl, sym, ap, subst, ◌∙◌, arith}
use Rattle.std.proofs.lemmas.Bool.{cases_lt, cases_eq, and_parts, and_from, false≢true}
use Rattle.std.proofs.lemmas.List.{get_or_past}
use Rattle.xml_doc.specs.Rows.{RowOf}
use Rattle.xml_doc.specs.Shape.{row_at, no_row, IsWellShaped}
use Rattle.xml_doc.specs.Kinds.{is_element}
use Rattle.xml_doc.specs.declared.row.Kind.TheVariants.{Element}
use Rattle.xml_doc.proofs.ShapeLemmas.{last_below}
use Rattle.row_spans.specs.TextAlone.{HasTextAlone, is_plain_kind}
use Rattle.row_spans.specs.Alike.{renumbered, IsRefilled}
use Rattle.row_spans.specs.RowSpans.{refilled}
use Rattle.xml_read.specs.Spelled.{Spells}
use Rattle.row_spans.proofs.Read.{read_rows}
use Rattle.row_spans.proofs.Again.{again}
use Rattle.canon_local.specs.Begin.{IsSameNode}
use Rattle.dsig_fields.specs.Reading.{attribute, children, is_named}
use Rattle.dsig_fields.specs.Signatures.{signatures}
use Rattle.dsig_fields.specs.Simple.{simple_octets}
use Rattle.dsig_fields.specs.declared.names.ElementName.TheVariants.{DigestValue, SignatureValue}
use Rattle.moved_fields.specs.Moved.{Pairwise, is_value, moved_by, StandsFor}
use Rattle.moved_fields.proofs.Children.{named_same}
use Rattle.row_fills.specs.Fillings.{Filling, filled_in, content_of, CanFill, CanFillAll, AreFilled, AllStand, Stands}
use Rattle.row_fills.proofs.One as one
use Rattle.row_fills.proofs.Texts.{stands_behind, own_stands, later_stand}

pairs_then : {A B C : Type 0} (R : A → B → Type 0) (S : B → C → Type 0) (T : A → C → Type 0) → ((a : A) (b : B) (c : C) → R a b → S b c → T a c)
    → (xs : List A) (ys : List B) (zs : List C) → Pairwise R xs ys → Pairwise S ys zs → Pairwise T xs zs
pairs_then R S T h [] [] [] p q = tt
pairs_then R S T h [] [] (z ∷ zs) p q = absurd q
pairs_then R S T h [] (y ∷ ys) zs p q = absurd p
pairs_then R S T h (x ∷ xs) [] zs p q = absurd p
pairs_then R S T h (x ∷ xs) (y ∷ ys) [] p q = absurd q
pairs_then R S T h (x ∷ xs) (y ∷ ys) (z ∷ zs) p q = (h x y z p.0 q.0, pairs_then R S T h xs ys zs p.1 q.1)

pub pairs_same : {A : Type 0} (R : A → A → Type 0) → ((a : A) → R a a) → (xs : List A) → Pairwise R xs xs
pairs_same R h [] = tt
pairs_same R h (x ∷ xs) = (h x, pairs_same R h xs)

-- rows that stand for rows that stand for others
module _ (f g : ℕ → ℕ) (k l : ℕ → Bool) (c d e : ℕ → List ℕ → List ℕ) (rows mid others : List RowOf) (first : StandsFor (moved_by f k) c rows mid) (next : StandsFor (moved_by g l) d mid others)
    (contents : (x : ℕ) (v : List ℕ) → k x ≡ true → d (f x) (c x v) ≡ e x v) where
  abbrev number : ℕ → ℕ
  number x = g (f x)

  abbrev kept : ℕ → Bool
  kept x = k x && l (f x)

  abbrev moves : ℕ → ℕ → Type 0
  moves = moved_by number kept

  one_step : (x y : ℕ) → moves x y → moved_by f k x (f x)
  one_step x y m = ((and_parts (k x) (l (f x)) m.0).0, refl)

  two_step : (x y : ℕ) → moves x y → moved_by g l (f x) y
  two_step x y m = ((and_parts (k x) (l (f x)) m.0).1, m.1)

  value_same : (x y : ℕ) → moves x y → is_value mid (f x) ≡ is_value rows x
  value_same x y m =
      ap (λ t. t || is_named mid SignatureValue (f x)) (named_same (moved_by f k) c rows mid first DigestValue x (f x) (one_step x y m))
      ∙ ap (λ t. is_named rows DigestValue x || t) (named_same (moved_by f k) c rows mid first SignatureValue x (f x) (one_step x y m))

  joins : (x y z : ℕ) → moved_by f k x y → moved_by g l y z → moves x z
  joins x y z p q = (and_from (k x) (l (f x)) p.0 (ap l (sym p.1) ∙ q.0), q.1 ∙ ap g p.1)

  pub stands_then : StandsFor (moved_by (λ x. g (f x)) (λ x. k x && l (f x))) e rows others
  stands_then = record {
    kind = λ x y m. next.kind (f x) y (two_step x y m) ∙ first.kind x (f x) (one_step x y m);
    local_name = λ x y m. next.local_name (f x) y (two_step x y m) ∙ first.local_name x (f x) (one_step x y m);
    uri = λ x y m. next.uri (f x) y (two_step x y m) ∙ first.uri x (f x) (one_step x y m);
    value = λ x y m. next.value (f x) y (two_step x y m) ∙ first.value x (f x) (one_step x y m);
    attributes = λ x y m name. next.attributes (f x) y (two_step x y m) name ∙ first.attributes x (f x) (one_step x y m) name;
    children = λ x y m plain.
        pairs_then (moved_by f k) (moved_by g l) moves joins (children rows x) (children mid (f x)) (children others y) (first.children x (f x) (one_step x y m) plain) (next.children (f x) y (two_step x y m) (value_same x y m ∙ plain));
    octets = λ x y m is v spelled.
        next.octets (f x) y (two_step x y m) (value_same x y m ∙ is) (c x v) (first.octets x (f x) (one_step x y m) is v spelled) ∙ ap Ok (contents x v (one_step x y m).0);
  }

pub stands_still : (rows : List RowOf) → StandsFor (moved_by (λ k. k) (λ k. true)) (λ x v. v) rows rows
stands_still rows = record {
  kind = λ x y m. ap (λ j. (row_at rows j).kind) m.1;
  local_name = λ x y m. ap (λ j. (row_at rows j).local_name) m.1;
  uri = λ x y m. ap (λ j. (row_at rows j).uri) m.1;
  value = λ x y m. ap (λ j. (row_at rows j).value) m.1;
  attributes = λ x y m name. ap (λ j. attribute rows j name) m.1;
  children = λ x y m plain. subst (λ j. Pairwise (moved_by (λ k. k) (λ k. true)) (children rows x) (children rows j)) (sym m.1) (pairs_same (moved_by (λ k. k) (λ k. true)) (λ a. (refl, refl)) (children rows x));
  octets = λ x y m is v spelled. ap (simple_octets rows) m.1 ∙ spelled;
}

-- the same as AreFilled, where no row need begin
pub record Past (octets : List ℕ) (rows : List RowOf) (first : ℕ) (fs : List Filling) : Type 0 where
  pub others : List RowOf
  pub number : ℕ → ℕ
  pub kept : ℕ → Bool
  pub spells : Spells (filled_in octets rows fs) others
  pub stands : StandsFor (moved_by number kept) (content_of fs) rows others
  pub parents : (k : ℕ) → kept k ≡ true → (row_at others (number k)).parent ≡ number (row_at rows k).parent
  pub signatures : Pairwise (moved_by number kept) (signatures rows) (signatures others)
  pub elements : (k : ℕ) → k < length rows → (row_at rows k).kind ≡ Element → kept k ≡ true
  pub front : (k : ℕ) → k < first → (kept k ≡ true) × (number k ≡ k)
  pub behind : (k : ℕ) → kept k ≡ true → first ≤ k → first ≤ number k
  pub within : first ≤ length others
  pub nodes : (k : ℕ) → k < first → IsSameNode (row_at rows k) (row_at others k)
  pub ended : (k : ℕ) → k < first → (row_at rows k).last < first → row_at others k ≡ row_at rows k
  pub texts : AllStand (filled_in octets rows fs) others number first fs

abbrev pub nothing_filled : (octets : List ℕ) (rows : List RowOf) → Spells octets rows → Past octets rows (length rows) []
nothing_filled octets rows spells = record {
  others = rows;
  number = λ k. k;
  kept = λ k. true;
  spells = spells;
  stands = stands_still rows;
  parents = λ k e. refl;
  signatures = pairs_same (moved_by (λ k. k) (λ k. true)) (λ a. (refl, refl)) (signatures rows);
  elements = λ k lt e. refl;
  front = λ k lt. (refl, refl);
  behind = λ k e le. le;
  within = omega arith;
  nodes = λ k lt. record { kind = refl; parent = refl; prefix_text = refl; local_name = refl; uri = refl; value = refl };
  ended = λ k lt ends. refl;
  texts = tt;
}

abbrev pub passed : (octets : List ℕ) (rows : List RowOf) (first : ℕ) (fs : List Filling) → AreFilled octets rows first fs → Past octets rows first fs
passed octets rows first fs a = record {
  others = a.others;
  number = a.number;
  kept = a.kept;
  spells = a.spells;
  stands = a.stands;
  parents = a.parents;
  signatures = a.signatures;
  elements = a.elements;
  front = a.front;
  behind = a.behind;
  within = let there = a.begins.there_too in omega arith;
  nodes = a.begins.same;
  ended = a.ended;
  texts = a.texts;
}

module _ (octets : List ℕ) (rows : List RowOf) (shape : IsWellShaped rows) (first : ℕ) (fs : List Filling) (a : Past octets rows first fs) (f : Filling) (can : CanFill rows f) (less : f.row < first) (ends : (row_at rows f.row).last < first) where
  abbrev i : ℕ
  i = f.row

  there : i < length rows
  there = can.alone.within

  row_same : row_at a.others i ≡ row_at rows i
  row_same = a.ended i less ends

  shape' : IsWellShaped a.others
  shape' = (read_rows (filled_in octets rows fs) a.others a.spells).shape

  alone' : HasTextAlone a.others i
  alone' = record {
    within = let w = a.within in omega arith;
    element = ap (λ (r : RowOf). r.kind) row_same ∙ can.alone.element;
    alone = λ k lt le.
        let last_same = ap (λ (r : RowOf). r.last) row_same in
        ap is_plain_kind (a.nodes k (omega (arith, le, last_same, ends))).kind ∙ can.alone.alone k lt (omega (arith, le, last_same));
  }

  value' : is_value a.others i ≡ true
  value' =
      let m : moved_by a.number a.kept i i = ((a.front i less).0, sym (a.front i less).1) in
      ap (λ t. t || is_named a.others SignatureValue i) (named_same (moved_by a.number a.kept) (content_of fs) rows a.others a.stands DigestValue i i m)
      ∙ ap (λ t. is_named rows DigestValue i || t) (named_same (moved_by a.number a.kept) (content_of fs) rows a.others a.stands SignatureValue i i m)
      ∙ can.value

  r : IsRefilled (filled_in octets rows fs) a.others i f.text
  r = again (filled_in octets rows fs) a.others i f.text a.spells alone' can.bare

  spells' : Spells (filled_in octets rows (f ∷ fs)) r.others
  spells' = subst (λ t. Spells (refilled (filled_in octets rows fs) t f.text) r.others) row_same r.spells

  shape'' : IsWellShaped r.others
  shape'' = (read_rows (filled_in octets rows (f ∷ fs)) r.others spells').shape

  abbrev g : ℕ → ℕ
  g = one.number (filled_in octets rows fs) a.others i f.text f.octets r shape' shape'' alone' value' can.spelled

  abbrev l : ℕ → Bool
  l = one.kept (filled_in octets rows fs) a.others i f.text f.octets r shape' shape'' alone' value' can.spelled

  step_stands : StandsFor (moved_by g l) (λ x old. if i == x then f.octets else old) a.others r.others
  step_stands = one.stands_for (filled_in octets rows fs) a.others i f.text f.octets r shape' shape'' alone' value' can.spelled

  low : (k : ℕ) → k < r.old → g k ≡ k
  low = one.low (filled_in octets rows fs) a.others i f.text f.octets r shape' shape'' alone' value' can.spelled

  high : (k : ℕ) → r.old ≤ k → g k ≡ (k + r.new) - r.old
  high = one.high (filled_in octets rows fs) a.others i f.text f.octets r shape' shape'' alone' value' can.spelled

  -- row i alone becomes row i
  one_row : (x : ℕ) → a.kept x ≡ true → eqb i (a.number x) ≡ eqb i x
  one_row x ex = elim (cases_lt x first) [
    | inl front ↦ ap (eqb i) (a.front x front).1
    | inr behind ↦ let far = a.behind x ex behind in one.not_equal i (a.number x) (λ e. omega (arith, e, far, less)) ∙ sym (one.not_equal i x (λ e. omega (arith, e, behind, less)))
  ]

  contents : (x : ℕ) (v : List ℕ) → a.kept x ≡ true → (if i == a.number x then f.octets else content_of fs x v) ≡ content_of (f ∷ fs) x v
  contents x v ex = ap (λ b. if b then f.octets else content_of fs x v) (one_row x ex)

  in_front : (k : ℕ) → k ≤ i → k < r.below
  in_front k le = let inside = r.inside in omega arith

  kept_front : (k : ℕ) → k ≤ i → l k ≡ true
  kept_front k le = one.kept_low (filled_in octets rows fs) a.others i f.text f.octets r shape' shape'' alone' value' can.spelled k (in_front k le)

  number_behind : (k : ℕ) → i ≤ k → i ≤ g k
  number_behind k le = elim (cases_lt k r.old) [
    | inl small ↦ let e = low k small in omega arith
    | inr far ↦ let e = high k far in let inside = r.inside in let starts = r.starts in let grows = r.grows in omega arith
  ]

  same_node : (k : ℕ) → k < i → IsSameNode (row_at rows k) (row_at r.others k)
  same_node k lt =
      let one_node = a.nodes k (omega (arith, lt, less)) in
      let two = r.alike.before k (in_front k (omega (arith, lt))) in
      record {
        kind = two.kind ∙ one_node.kind;
        parent = two.parent ∙ ap g one_node.parent ∙ low (row_at rows k).parent (parent_low k lt);
        prefix_text = two.prefix_text ∙ one_node.prefix_text;
        local_name = two.local_name ∙ one_node.local_name;
        uri = two.uri ∙ one_node.uri;
        value = two.value ∙ one_node.value;
      }
    where
      parent_low : (k : ℕ) → k < i → (row_at rows k).parent < r.old
      parent_low k lt =
          let inside = r.inside in
          let starts = r.starts in
          elim (cases_eq k 0) [
            | inl zero_at ↦ let up : (row_at rows k).parent ≡ (row_at rows 0).parent = ap (λ j. (row_at rows j).parent) zero_at in let root = shape.root_parent in omega arith
            | inr later ↦ let up = shape.nesting.parent_before k (omega (arith, later)) (omega (arith, lt, there)) in omega arith
          ]

  -- the texts that stood there, and this one
  texts_stand : AllStand (refilled (filled_in octets rows fs) (row_at a.others i) f.text) r.others (λ x. g (a.number x)) i (f ∷ fs)
  texts_stand =
      let still : g (a.number i) ≡ i = ap g (a.front i less).1 ∙ low i (omega (arith, in_front i (omega arith), r.starts)) in (
        omega (arith, still),
        subst (λ n. Stands (refilled (filled_in octets rows fs) (row_at a.others i) f.text) r.others n f.text) (sym still) (own_stands (filled_in octets rows fs) a.others i f.text a.spells alone' r),
        later_stand (filled_in octets rows fs) a.others i f.text a.spells alone' r a.number first (g (a.number i) + 1) fs less
            (λ k le far. let goes = high k far in omega (arith, still, goes, far, r.inside, r.grows)) a.texts,
      )

  filled : AreFilled octets rows f.row (f ∷ fs)
  filled = record {
    others = r.others;
    number = λ x. g (a.number x);
    kept = λ x. a.kept x && l (a.number x);
    spells = spells';
    stands = stands_then a.number g a.kept l (content_of fs) (λ x old. if i == x then f.octets else old) (content_of (f ∷ fs)) rows a.others r.others a.stands step_stands contents;
    parents = λ k e.
        let parts = and_parts (a.kept k) (l (a.number k)) e in
        (one.alike_at (filled_in octets rows fs) a.others i f.text f.octets r shape' shape'' alone' value' can.spelled (a.number k) parts.1).parent ∙ ap g (a.parents k parts.0);
    signatures = pairs_then (moved_by a.number a.kept) (moved_by g l) (moved_by (λ x. g (a.number x)) (λ x. a.kept x && l (a.number x)))
        (λ x y z p q. (and_from (a.kept x) (l (a.number x)) p.0 (ap l (sym p.1) ∙ q.0), q.1 ∙ ap g p.1)) (signatures rows) (signatures a.others) (signatures r.others) a.signatures
        (one.signatures_move (filled_in octets rows fs) a.others i f.text f.octets r shape' shape'' alone' value' can.spelled);
    elements = λ k lt e.
        let ek = a.elements k lt e in
        let same : (row_at a.others (a.number k)).kind ≡ Element = a.stands.kind k (a.number k) (ek, refl) ∙ e in
        and_from (a.kept k) (l (a.number k)) ek (one.element_kept (filled_in octets rows fs) a.others i f.text f.octets r shape' shape'' alone' value' can.spelled (a.number k) (element_there (a.number k) same) same);
    front = λ k lt.
        let still = a.front k (omega (arith, lt, less)) in
        (and_from (a.kept k) (l (a.number k)) still.0 (ap l still.1 ∙ kept_front k (omega (arith, lt))), ap g still.1 ∙ low k (omega (arith, in_front k (omega (arith, lt)), r.starts)));
    behind = λ k e le. number_behind (a.number k) (past k (and_parts (a.kept k) (l (a.number k)) e).0 le);
    begins = record {
      there = there;
      element = can.alone.element;
      there_too = let inside = r.inside in let starts = r.starts in let count = r.alike.count in let enough = r.alike.enough in let grows = r.grows in omega arith;
      element_too = (r.alike.before i r.inside).kind ∙ alone'.element;
      same = same_node;
    };
    ended = λ k lt stops.
        let still = a.ended k (omega (arith, lt, less)) (omega (arith, stops, less)) in
        r.same k lt (omega (arith, stops, ap (λ (t : RowOf). t.last) still)) ∙ still;
    texts = subst (λ t. AllStand (refilled (filled_in octets rows fs) t f.text) r.others (λ x. g (a.number x)) i (f ∷ fs)) row_same texts_stand;
  }
    where
      past : (k : ℕ) → a.kept k ≡ true → i ≤ k → i ≤ a.number k
      past k ek le = elim (cases_lt k first) [
        | inl before ↦ let e = (a.front k before).1 in omega arith
        | inr after ↦ let far = a.behind k ek after in omega (arith, far, less)
      ]

      element_there : (k : ℕ) → (row_at a.others k).kind ≡ Element → k < length a.others
      element_there k e = elim (cases_lt k (length a.others)) [
        | inl lt ↦ lt
        | inr le ↦ absurd (false≢true (ap is_element (ap (λ (t : RowOf). t.kind) (sym (get_or_past a.others k no_row le)) ∙ e)))
      ]

  -- one more, and how
  pub record Step : Type 0 where
    pub all : AreFilled octets rows f.row (f ∷ fs)
    pub refilled : IsRefilled (filled_in octets rows fs) a.others f.row f.text
    pub rows_are : all.others ≡ refilled.others
    pub numbers : (k : ℕ) → all.number k ≡ renumbered refilled.old refilled.new (a.number k)
    pub row_is : row_at a.others f.row ≡ row_at rows f.row
    pub alone : HasTextAlone a.others f.row
    pub one_shape : IsWellShaped a.others
    pub other_shape : IsWellShaped refilled.others

  pub step : Step
  unfolding filled
  step = record { all = filled; refilled = r; rows_are = refl; numbers = λ k. refl; row_is = row_same; alone = alone'; one_shape = shape'; other_shape = shape'' }

-- the last one
pub last_step : (octets : List ℕ) (rows : List RowOf) (spells : Spells octets rows) (f : Filling) (can : CanFill rows f)
    → Step octets rows (read_rows octets rows spells).shape (length rows) [] (nothing_filled octets rows spells) f can can.alone.within (last_below rows (read_rows octets rows spells).shape f.row can.alone.within)
last_step octets rows spells f can = step octets rows (read_rows octets rows spells).shape (length rows) [] (nothing_filled octets rows spells) f can can.alone.within (last_below rows (read_rows octets rows spells).shape f.row can.alone.within)

pub all_filled : (octets : List ℕ) (rows : List RowOf) (from : ℕ) (f : Filling) (fs : List Filling) → Spells octets rows → CanFillAll rows from (f ∷ fs) → AreFilled octets rows f.row (f ∷ fs)
all_filled octets rows from f [] spells can = (last_step octets rows spells f can.1).all
all_filled octets rows from f (g ∷ fs) spells can =
    let shape = (read_rows octets rows spells).shape in
    let more = all_filled octets rows (f.row + 1) g fs spells can.2 in
    let less : f.row < g.row = omega (arith, can.2.0) in
    (step octets rows shape g.row (g ∷ fs) (passed octets rows g.row (g ∷ fs) more) f can.1 less (stands_behind rows f.row g.row can.1.alone less can.2.1.alone.element)).all

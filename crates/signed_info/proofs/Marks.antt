-- What the nodes of a tree say, in their order, and what the children of a row say.
use Rattle.std.proofs.Common.{◌≡◌, ℕ, ◌+◌, Bool, true, false, List, [], ◌∷◌, ◌++◌, map, refl, sym, ap, ◌∙◌}
use Rattle.std.specs.Prelude.{if◌then◌else◌, max}
use Rattle.xml_resolve.specs.Resolve.{NamedTag, Resolved, nothing_in, text_in, comment_in, instruction_in, element_in}
use Rattle.c14n_subtrees.specs.Resolved.{text_before_in, unplaced_named_tag, unplaced_names}
use Rattle.dsig_fields.specs.Same.{Item, Octet, Aside, Inner, SameItem, SameItems}

-- an octet of a text, an instruction, or an element. A comment says nothing
pub data Mark : Type 0 where
  Letter : ℕ → Mark
  Between : Mark
  Node : NamedTag → Resolved → Mark

abbrev pub marks : Resolved → List Mark
marks nothing_in = []
marks (text_in w k) = map Letter w ++ marks k
marks (comment_in w k) = marks k
marks (instruction_in target w k) = Between ∷ marks k
marks (element_in tag inner until k) = Node tag inner ∷ marks k

-- ---- children beside nodes
-- R tells which row goes with which element
abbrev pub Tells : (R : ℕ → NamedTag → Resolved → Type 0) → Item → Mark → Type 0
Tells R (Octet c) (Letter d) = c ≡ d
Tells R Aside Between = Unit {0}
Tells R (Inner x) (Node tag inner) = R x tag inner
Tells R one other = ⊥

abbrev pub Told : (R : ℕ → NamedTag → Resolved → Type 0) → List Item → List Mark → Type 0
Told R [] [] = Unit {0}
Told R [] (m ∷ ms) = ⊥
Told R (i ∷ its) [] = ⊥
Told R (i ∷ its) (m ∷ ms) = Tells R i m × Told R its ms

pub told_letters : (R : ℕ → NamedTag → Resolved → Type 0) (w : List ℕ) (its : List Item) (ms : List Mark) → Told R its ms → Told R (map Octet w ++ its) (map Letter w ++ ms)
told_letters R [] its ms h = h
told_letters R (c ∷ w) its ms h = (refl, told_letters R w its ms h)

letters_both : (v w : List ℕ) (ms : List Mark) → map Letter (v ++ w) ++ ms ≡ map Letter v ++ (map Letter w ++ ms)
letters_both [] w ms = refl
letters_both (c ∷ v) w ms = ap (λ (u : List Mark). Letter c ∷ u) (letters_both v w ms)

-- a text that is joined to the next one says the same
pub marks_before : (w : List ℕ) (k : Resolved) → marks (text_before_in w k) ≡ map Letter w ++ marks k
marks_before [] k = refl
marks_before (c ∷ w) nothing_in = refl
marks_before (c ∷ w) (text_in v k) = letters_both (c ∷ w) v (marks k)
marks_before (c ∷ w) (comment_in v k) = refl
marks_before (c ∷ w) (instruction_in target v k) = refl
marks_before (c ∷ w) (element_in tag inner until k) = refl

pub marks_comment : (b : Bool) (w : List ℕ) (k : Resolved) → marks (if b then comment_in w k else k) ≡ marks k
marks_comment true w k = refl
marks_comment false w k = refl

-- ---- without offsets
abbrev pub unplaced_mark : Mark → Mark
unplaced_mark (Letter c) = Letter c
unplaced_mark Between = Between
unplaced_mark (Node tag inner) = Node (unplaced_named_tag tag) (unplaced_names inner)

letters_unplaced : (w : List ℕ) (ms : List Mark) → map Letter w ++ map unplaced_mark ms ≡ map unplaced_mark (map Letter w ++ ms)
letters_unplaced [] ms = refl
letters_unplaced (c ∷ w) ms = ap (λ (u : List Mark). Letter c ∷ u) (letters_unplaced w ms)

pub marks_unplaced : (k : Resolved) → marks (unplaced_names k) ≡ map unplaced_mark (marks k)
marks_unplaced nothing_in = refl
marks_unplaced (text_in w k) = ap (λ (u : List Mark). map Letter w ++ u) (marks_unplaced k) ∙ letters_unplaced w (marks k)
marks_unplaced (comment_in w k) = marks_unplaced k
marks_unplaced (instruction_in target w k) = ap (λ (u : List Mark). Between ∷ u) (marks_unplaced k)
marks_unplaced (element_in tag inner until k) = ap (λ (u : List Mark). Node (unplaced_named_tag tag) (unplaced_names inner) ∷ u) (marks_unplaced k)

module _ (R S : ℕ → NamedTag → Resolved → Type 0) (unplaced : (x : ℕ) (tag : NamedTag) (inner : Resolved) → R x (unplaced_named_tag tag) (unplaced_names inner) → S x tag inner) where
  tells_placed : (i : Item) (m : Mark) → Tells R i (unplaced_mark m) → Tells S i m
  tells_placed (Octet c) (Letter d) h = h
  tells_placed (Octet c) Between h = absurd h
  tells_placed (Octet c) (Node tag inner) h = absurd h
  tells_placed Aside (Letter d) h = absurd h
  tells_placed Aside Between h = h
  tells_placed Aside (Node tag inner) h = absurd h
  tells_placed (Inner x) (Letter d) h = absurd h
  tells_placed (Inner x) Between h = absurd h
  tells_placed (Inner x) (Node tag inner) h = unplaced x tag inner h

  pub told_placed : (its : List Item) (ms : List Mark) → Told R its (map unplaced_mark ms) → Told S its ms
  told_placed [] [] h = tt
  told_placed [] (m ∷ ms) h = absurd h
  told_placed (i ∷ its) [] h = absurd h
  told_placed (i ∷ its) (m ∷ ms) h = (tells_placed i m h.0, told_placed its ms h.1)

-- ---- children of two rows beside the same nodes
module _ (R S : ℕ → NamedTag → Resolved → Type 0) (alike : ℕ → ℕ → Type 0) (both : (x z : ℕ) (tag : NamedTag) (inner : Resolved) → R x tag inner → S z tag inner → alike x z) where
  same_item : (i j : Item) (m : Mark) → Tells R i m → Tells S j m → SameItem alike i j
  same_item (Octet c) (Octet d) (Letter e) h k = h ∙ sym k
  same_item (Octet c) Aside (Letter e) h k = absurd k
  same_item (Octet c) (Inner z) (Letter e) h k = absurd k
  same_item Aside j (Letter e) h k = absurd h
  same_item (Inner x) j (Letter e) h k = absurd h
  same_item (Octet c) j Between h k = absurd h
  same_item Aside (Octet d) Between h k = absurd k
  same_item Aside Aside Between h k = tt
  same_item Aside (Inner z) Between h k = absurd k
  same_item (Inner x) j Between h k = absurd h
  same_item (Octet c) j (Node tag inner) h k = absurd h
  same_item Aside j (Node tag inner) h k = absurd h
  same_item (Inner x) (Octet d) (Node tag inner) h k = absurd k
  same_item (Inner x) Aside (Node tag inner) h k = absurd k
  same_item (Inner x) (Inner z) (Node tag inner) h k = both x z tag inner h k

  pub same_items : (its jts : List Item) (ms : List Mark) → Told R its ms → Told S jts ms → SameItems alike its jts
  same_items [] [] [] h k = tt
  same_items [] (j ∷ jts) [] h k = absurd k
  same_items (i ∷ its) jts [] h k = absurd h
  same_items [] jts (m ∷ ms) h k = absurd h
  same_items (i ∷ its) [] (m ∷ ms) h k = absurd k
  same_items (i ∷ its) (j ∷ jts) (m ∷ ms) h k = (same_item i j m h.0 k.0, same_items its jts ms h.1 k.1)

-- ---- how deep a tree is
abbrev pub deep : Resolved → ℕ
deep nothing_in = 0
deep (text_in w k) = deep k
deep (comment_in w k) = deep k
deep (instruction_in target w k) = deep k
deep (element_in tag inner until k) = max (deep inner + 1) (deep k)

abbrev pub deep_marks : List Mark → ℕ
deep_marks [] = 0
deep_marks (Letter c ∷ ms) = deep_marks ms
deep_marks (Between ∷ ms) = deep_marks ms
deep_marks (Node tag inner ∷ ms) = max (deep inner + 1) (deep_marks ms)

deep_letters : (w : List ℕ) (ms : List Mark) → deep_marks (map Letter w ++ ms) ≡ deep_marks ms
deep_letters [] ms = refl
deep_letters (c ∷ w) ms = deep_letters w ms

pub deep_is : (k : Resolved) → deep_marks (marks k) ≡ deep k
deep_is nothing_in = refl
deep_is (text_in w k) = deep_letters w (marks k) ∙ deep_is k
deep_is (comment_in w k) = deep_is k
deep_is (instruction_in target w k) = deep_is k
deep_is (element_in tag inner until k) = ap (λ (n : ℕ). max (deep inner + 1) n) (deep_is k)

pub deep_unplaced : (k : Resolved) → deep (unplaced_names k) ≡ deep k
deep_unplaced nothing_in = refl
deep_unplaced (text_in w k) = deep_unplaced k
deep_unplaced (comment_in w k) = deep_unplaced k
deep_unplaced (instruction_in target w k) = deep_unplaced k
deep_unplaced (element_in tag inner until k) =
    ap (λ (n : ℕ). max (n + 1) (deep (unplaced_names k))) (deep_unplaced inner) ∙ ap (λ (n : ℕ). max (deep inner + 1) n) (deep_unplaced k)

-- two trees beside the same children
module _ (R S : ℕ → NamedTag → Resolved → Type 0) (both : (x : ℕ) (tag other : NamedTag) (inner below : Resolved) → R x tag inner → S x other below → deep inner ≡ deep below) where
  pub same_depth : (its : List Item) (ms ns : List Mark) → Told R its ms → Told S its ns → deep_marks ms ≡ deep_marks ns
  same_depth [] [] [] h k = refl
  same_depth [] [] (n ∷ ns) h k = absurd k
  same_depth [] (m ∷ ms) ns h k = absurd h
  same_depth (i ∷ its) [] ns h k = absurd h
  same_depth (i ∷ its) (m ∷ ms) [] h k = absurd k
  same_depth (Octet c ∷ its) (Letter d ∷ ms) (Letter e ∷ ns) h k = same_depth its ms ns h.1 k.1
  same_depth (Octet c ∷ its) (Letter d ∷ ms) (Between ∷ ns) h k = absurd k.0
  same_depth (Octet c ∷ its) (Letter d ∷ ms) (Node other below ∷ ns) h k = absurd k.0
  same_depth (Octet c ∷ its) (Between ∷ ms) (n ∷ ns) h k = absurd h.0
  same_depth (Octet c ∷ its) (Node tag inner ∷ ms) (n ∷ ns) h k = absurd h.0
  same_depth (Aside ∷ its) (Letter d ∷ ms) (n ∷ ns) h k = absurd h.0
  same_depth (Aside ∷ its) (Between ∷ ms) (Letter e ∷ ns) h k = absurd k.0
  same_depth (Aside ∷ its) (Between ∷ ms) (Between ∷ ns) h k = same_depth its ms ns h.1 k.1
  same_depth (Aside ∷ its) (Between ∷ ms) (Node other below ∷ ns) h k = absurd k.0
  same_depth (Aside ∷ its) (Node tag inner ∷ ms) (n ∷ ns) h k = absurd h.0
  same_depth (Inner x ∷ its) (Letter d ∷ ms) (n ∷ ns) h k = absurd h.0
  same_depth (Inner x ∷ its) (Between ∷ ms) (n ∷ ns) h k = absurd h.0
  same_depth (Inner x ∷ its) (Node tag inner ∷ ms) (Letter e ∷ ns) h k = absurd k.0
  same_depth (Inner x ∷ its) (Node tag inner ∷ ms) (Between ∷ ns) h k = absurd k.0
  same_depth (Inner x ∷ its) (Node tag inner ∷ ms) (Node other below ∷ ns) h k =
      ap (λ (n : ℕ). max (n + 1) (deep_marks ms)) (both x tag other inner below h.0 k.0) ∙ ap (λ (n : ℕ). max (deep below + 1) n) (same_depth its ms ns h.1 k.1)

-- A document in which other characters stand as the text of one element.
use Rattle.std.proofs.Common.{◌≡◌, ℕ, suc, ◌+◌, true, false, List, [], ◌∷◌, ◌++◌, length, Option, Some, refl, sym, ap, subst, ◌∙◌, append_assoc, append-nil, arith}
use Rattle.std.proofs.lemmas.Bool.{eqb-true}
use Rattle.xml_syntax.specs.Characters.{Placed, mark, Stops}
use Rattle.xml_syntax.specs.Classes.{is_plain}
use Rattle.xml_syntax.specs.Tree.{Tag, Content, followed_by, Event, events}
use Rattle.xml_syntax.specs.Tree as tree
use Rattle.xml_syntax.specs.Grammar.{SpellsName, SpellsStart, start, SpellsEmpty, start_empty, SpellsEnd, end, SpellsCharData, SpellsMisc, SpellsDeclaration, SpellsDocument, document}
use Rattle.xml_syntax.specs.Reading.{Item, Words, Empty, Start, End, misc_of, behind_prolog, document_of}
use Rattle.xml_syntax.specs.Outcome.{is_other_encoding, names_other, names_other_encoding}
use Rattle.xml_syntax.specs.Seen.{text_events}
use Rattle.xml_syntax.proofs.ItemLaws.{of_chars, SpellsItem, BeginsTag}
use Rattle.xml_syntax.proofs.DeclarationLaws.{declared_complete}
use Rattle.xml_syntax.proofs.MiscLaws.{misc_complete, tag_no_misc, no_question, misc_no_declaration}
use Rattle.xml_syntax.proofs.Documents.{prolog_complete, element_complete}
use Rattle.xml_spans.specs.Moved.{moved_events, AllFrom}
use Rattle.xml_spans.specs.Code.Moved.{moved}
use Rattle.xml_spans.proofs.Later.{AtLeast, least_front, least_behind, from_append, no_tags_from, told_from}
use Rattle.xml_spans.proofs.Moves.{Steps, steps_front, steps_behind, moved_append, item_moves, moved_end, misc_moves, moved_item}
use Rattle.xml_spans.proofs.Items.{Flat, no_items, some_item, told, Roots, element_items, ReadsElement, items_read, flat_other, flat_join, flat_split}
use Rattle.xml_spans.proofs.Holes.{misc_no_tags, followed_events, pass, Found, by_start, by_empty, find_tag, text_alone, word_items, moved_items, new_items, closing_name, start_roots, empty_roots, new_told, next_node, same_end}

-- the characters are a text, which is written as it stands
abbrev pub IsText : List Placed → List ℕ → Type 0
IsText m [] = m ≡ []
IsText m (c ∷ w) = SpellsCharData m (c ∷ w)

-- ---- the first item

record Headed (rest s : List Placed) (item : Item) (items : List Item) : Type 0 where
  pub first : List Placed
  pub others : List Placed
  pub parts : s ≡ first ++ others
  pub spells : SpellsItem item (others ++ rest) first
  pub more : Flat rest others items

headed : (rest s : List Placed) (item : Item) (items : List Item) → Flat rest s (item ∷ items) → Headed rest s item items
headed rest s item items (some_item a b item' items' h more) = record { first = a; others = b; parts = refl; spells = h; more = more }

pub moved_flat : (f : ℕ → ℕ) (rest s : List Placed) (items : List Item) → Steps f s → Flat rest s items → Flat (moved f rest) (moved f s) (moved_items f items)
moved_flat f rest s items steps no_items = no_items
moved_flat f rest s items steps (some_item a b item items' h more) =
    let P : List Placed → Type 0 = λ t. Flat (moved f rest) t (moved_items f (item ∷ items')) in
    let Q : List Placed → Type 0 = λ t. SpellsItem (moved_item f item) t (moved f a) in
    subst P (sym (moved_append f a b)) (some_item (moved f a) (moved f b) (moved_item f item) (moved_items f items') (subst Q (moved_append f b rest) (item_moves f item (b ++ rest) a (steps_front f a b steps) h)) (moved_flat f rest b items' (steps_behind f a b steps) more))

-- a tag comes next, and no character data
tag_stops : (xs : List Placed) → BeginsTag xs → Stops is_plain xs
tag_stops [] h = tt
tag_stops (x ∷ xs) h = let code-is = eqb-true x.code 60 h.less in rw code-is refl

end_stops : (e rest : List Placed) (name : List ℕ) (from : ℕ) → SpellsEnd e name from → Stops is_plain (e ++ rest)
end_stops e rest name from (end n space w from' slash close spelled spaced) = refl

start_stops : (a rest : List Placed) (tag : Tag) → SpellsStart a tag → Stops is_plain (a ++ rest)
start_stops a rest tag (start n attributes w vs from close spelled listed apart) = refl

word_flat : (rest m : List Placed) (w : List ℕ) → IsText m w → Stops is_plain rest → Flat rest m (word_items w)
word_flat rest m [] h stop = subst (λ (t : List Placed). Flat rest t []) (sym h) no_items
word_flat rest m (c ∷ w) h stop =
    let P : List Placed → Type 0 = λ t. Flat rest t (Words (c ∷ w) ∷ []) in
    subst P (append-nil m) (some_item m [] (Words (c ∷ w)) [] (of_chars m rest (c ∷ w) h stop) no_items)

-- ---- the new items, and the new document

module _ (f : ℕ → ℕ) (old rest front a' m e' s3 : List Placed) (first others : List Item) (tag' : Tag) (w : List ℕ) (until' : ℕ)
    (before : Flat old front first) (opened : SpellsStart a' tag') (inner : IsText m w) (closed : SpellsEnd e' tag'.name until') (steps : Steps f s3) (behind : Flat rest s3 others) where
  back : List Placed
  back = a' ++ (m ++ (e' ++ moved f s3))

  new_flat : (tag : Tag) (same : tag.name ≡ tag'.name) → Flat (moved f rest) (front ++ (a' ++ (m ++ (e' ++ moved f s3)))) (first ++ new_items f tag tag' same w until' others)
  new_flat tag same =
      let last = some_item e' (moved f s3) (End tag'.name until') (moved_items f others) closed (moved_flat f rest s3 others steps behind) in
      let P : List Placed → Type 0 = λ t. Stops is_plain t in
      let stop = subst P (sym (append_assoc e' (moved f s3) (moved f rest))) (end_stops e' (moved f s3 ++ moved f rest) tag'.name until' closed) in
      let content = flat_join (moved f rest) (e' ++ moved f s3) m (word_items w) (End tag'.name until' ∷ moved_items f others) (word_flat ((e' ++ moved f s3) ++ moved f rest) m w inner stop) last in
      let whole = some_item a' (m ++ (e' ++ moved f s3)) (Start tag') (word_items w ++ (End tag'.name until' ∷ moved_items f others)) opened content in
      let stop' = subst P (sym (append_assoc a' (m ++ (e' ++ moved f s3)) (moved f rest))) (start_stops a' ((m ++ (e' ++ moved f s3)) ++ moved f rest) tag' opened) in
      flat_join (moved f rest) (a' ++ (m ++ (e' ++ moved f s3))) front first (new_items f tag tag' same w until' others) (flat_other old ((a' ++ (m ++ (e' ++ moved f s3))) ++ moved f rest) front first before stop') whole

-- what reading gives, with the same declaration
pub record Reads (old xs : List Placed) (told_events : List Event) : Type 0 where
  pub tree : Content
  pub reads : document_of xs ≡ Some tree
  pub tells : events tree ≡ told_events
  pub declares : names_other_encoding xs ≡ names_other_encoding old

names_are : (d m e : List Placed) (name : Option (List ℕ)) (k : Content) → SpellsDeclaration d name → SpellsMisc m k → BeginsTag e → names_other_encoding (d ++ (m ++ e)) ≡ is_other_encoding name
unfolding names_other_encoding
names_are d m e name k declared misc begins =
    ap names_other (declared_complete d (m ++ e) name declared (misc_no_declaration m e k misc (no_question e begins.unquestioned)))

document_again : (d m e rest : List Placed) (name : Option (List ℕ)) (prolog epilog : Content) (es : List Event) → SpellsDeclaration d name → SpellsMisc m prolog → ReadsElement e rest es → SpellsMisc rest epilog
    → (t : Content) × (document_of (d ++ (m ++ e)) ≡ Some t) × (events t ≡ events prolog ++ (es ++ events epilog))
unfolding document_of behind_prolog
document_again d m e rest name prolog epilog es declared misc element behind_it =
    let epilog_read : misc_of (suc (length rest)) rest ≡ Some (epilog, []) =
    ap (misc_of (suc (length rest))) (sym (append-nil rest)) ∙ misc_complete rest epilog behind_it (suc (length rest)) [] (omega arith) refl in
    let before = prolog_complete d m e name prolog declared misc (no_question e element.begins.unquestioned) (tag_no_misc e element.begins) in (
      followed_by prolog (followed_by element.tree epilog),
      rw (before, element.reads, epilog_read) refl,
      followed_events prolog (followed_by element.tree epilog) ∙ ap (λ (u : List Event). events prolog ++ u) (followed_events element.tree epilog ∙ ap (λ (u : List Event). u ++ events epilog) element.tells),
    )

-- ---- the places of an element's content

-- behind its start tag, and before its end tag
pub record StartPlace (xs : List Placed) (tag : Tag) (until : ℕ) (before after : List Event) : Type 0 where
  pub front : List Placed
  pub greater : ℕ
  pub inner : List Placed
  pub back : List Placed
  pub not_empty : tag.is_empty ≡ false
  pub body_is : tag.body_from ≡ greater + 1
  pub parts : xs ≡ front ++ (mark 62 greater ∷ (inner ++ (mark 60 until ∷ back)))
  pub later : (n : ℕ) → AtLeast n (mark 60 until ∷ back) → AllFrom n after
  pub again : (f : ℕ → ℕ) (m : List Placed) (w : List ℕ) → Steps f (mark 60 until ∷ back) → IsText m w
      → Reads xs (front ++ (mark 62 greater ∷ (m ++ moved f (mark 60 until ∷ back)))) (before ++ (tree.Start tag ∷ (text_events w ++ (tree.End (f until) ∷ moved_events f after))))

-- in an empty-element tag, which is opened
pub record EmptyPlace (xs : List Placed) (tag : Tag) (until : ℕ) (before after : List Event) : Type 0 where
  pub front : List Placed
  pub slash : ℕ
  pub greater : ℕ
  pub back : List Placed
  pub empty : tag.is_empty ≡ true
  pub body_is : tag.body_from ≡ slash
  pub until_is : until ≡ greater + 1
  pub before_name : List Placed
  pub name : List Placed
  pub behind_name : List Placed
  pub front_is : front ≡ before_name ++ (name ++ behind_name)
  pub named : SpellsName name tag.name
  pub parts : xs ≡ front ++ (mark 47 slash ∷ (mark 62 greater ∷ back))
  pub later : (n : ℕ) → AtLeast n back → AllFrom n after
  pub again : (f : ℕ → ℕ) (m e : List Placed) (w : List ℕ) (until' : ℕ) → Steps f back → IsText m w → SpellsEnd e tag.name until'
      → Reads xs (front ++ (mark 62 slash ∷ (m ++ (e ++ moved f back)))) (before ++ (tree.Start (record { name = tag.name; attributes = tag.attributes; from = tag.from; body_from = slash + 1; is_empty = false }) ∷ (text_events w ++ (tree.End until' ∷ moved_events f after))))

pub data Place (xs : List Placed) (tag : Tag) (until : ℕ) (before after : List Event) : Type 0 where
  behind_start : StartPlace xs tag until before after → Place xs tag until before after
  in_empty : EmptyPlace xs tag until before after → Place xs tag until before after

-- the last character of a start tag
record StartParts (a : List Placed) (tag : Tag) : Type 0 where
  pub most : List Placed
  pub greater : ℕ
  pub parts : a ≡ most ++ (mark 62 greater ∷ [])
  pub body_is : tag.body_from ≡ greater + 1
  pub not_empty : tag.is_empty ≡ false

start_parts : (a : List Placed) (tag : Tag) → SpellsStart a tag → StartParts a tag
start_parts a tag (start n attributes w vs from close spelled listed apart) =
    record { most = mark 60 from ∷ (n ++ attributes); greater = close; parts = ap (λ (t : List Placed). mark 60 from ∷ t) (sym (append_assoc n attributes (mark 62 close ∷ []))); body_is = refl; not_empty = refl }

-- the last two of an empty-element tag, and the start tag in its place
record EmptyParts (a : List Placed) (tag : Tag) (until : ℕ) : Type 0 where
  pub most : List Placed
  pub slash : ℕ
  pub greater : ℕ
  pub parts : a ≡ most ++ (mark 47 slash ∷ (mark 62 greater ∷ []))
  pub body_is : tag.body_from ≡ slash
  pub until_is : until ≡ greater + 1
  pub empty : tag.is_empty ≡ true
  pub name : List Placed
  pub behind_name : List Placed
  pub most_is : most ≡ mark 60 tag.from ∷ (name ++ behind_name)
  pub named : SpellsName name tag.name
  pub opened : SpellsStart (most ++ (mark 62 slash ∷ [])) (record { name = tag.name; attributes = tag.attributes; from = tag.from; body_from = slash + 1; is_empty = false })

empty_parts : (a : List Placed) (tag : Tag) (until : ℕ) → SpellsEmpty a tag until → EmptyParts a tag until
empty_parts a tag until (start_empty n attributes w vs from slash close spelled listed apart) =
    let P : List Placed → Type 0 = λ t. SpellsStart (mark 60 from ∷ t) (record { name = w; attributes = vs; from = from; body_from = slash + 1; is_empty = false }) in
    record {
      most = mark 60 from ∷ (n ++ attributes);
      slash = slash;
      greater = close;
      parts = ap (λ (t : List Placed). mark 60 from ∷ t) (sym (append_assoc n attributes (mark 47 slash ∷ (mark 62 close ∷ []))));
      body_is = refl;
      until_is = refl;
      empty = refl;
      name = n;
      behind_name = attributes;
      most_is = refl;
      named = spelled;
      opened = subst P (sym (append_assoc n attributes (mark 62 slash ∷ []))) (start n attributes w vs from slash spelled listed apart);
    }

-- the first character of an end tag
end_parts : (e : List Placed) (name : List ℕ) (from : ℕ) → SpellsEnd e name from → (others : List Placed) × (e ≡ mark 60 from ∷ others)
end_parts e name from (end n space w from' slash close spelled spaced) = (mark 47 slash ∷ (n ++ (space ++ (mark 62 close ∷ []))), refl)

-- ---- found

module _ (d b rest : List Placed) (name : Option (List ℕ)) (prolog epilog : Content) (declared : SpellsDeclaration d name) (misc : SpellsMisc b prolog) (behind_it : SpellsMisc rest epilog)
    (s : List Placed) (items : List Item) (flat : Flat rest s items) (roots : Roots items) (tag : Tag) (until : ℕ) (before after middle : List Event)
    (before_is : before ≡ events prolog ++ middle) (begins : BeginsTag (s ++ rest)) where
  regroup_front : (front1 most m t : List Placed) (x : Placed) → d ++ (b ++ ((front1 ++ ((most ++ (x ∷ [])) ++ (m ++ t))) ++ rest)) ≡ (d ++ (b ++ (front1 ++ most))) ++ (x ∷ (m ++ (t ++ rest)))
  regroup_front front1 most m t x = simp append_assoc

  -- a new document, from the parts
  again_from : (f : ℕ → ℕ) (old front a' m e' s3 : List Placed) (first others : List Item) (tag' : Tag) (same : tag.name ≡ tag'.name) (w : List ℕ) (until' : ℕ)
      → Flat old front first → SpellsStart a' tag' → IsText m w → SpellsEnd e' tag'.name until' → Steps f s3 → Flat rest s3 others
      → Roots (first ++ new_items f tag tag' same w until' others) → middle ≡ told [] first → after ≡ told [] others ++ events epilog
      → Reads (d ++ (b ++ (s ++ rest))) (d ++ (b ++ ((front ++ (a' ++ (m ++ (e' ++ moved f s3)))) ++ moved f rest))) (before ++ (tree.Start tag' ∷ (text_events w ++ (tree.End until' ∷ moved_events f after))))
  again_from f old front a' m e' s3 first others tag' same w until' before_flat opened inner closed steps behind new_roots middle_is after_is =
      let flat' = new_flat f old rest front a' m e' s3 first others tag' w until' before_flat opened inner closed steps behind tag same in
      let element = items_read (moved f rest) (front ++ (a' ++ (m ++ (e' ++ moved f s3)))) (first ++ new_items f tag tag' same w until' others) flat' new_roots in
      let whole = document_again d b ((front ++ (a' ++ (m ++ (e' ++ moved f s3)))) ++ moved f rest) (moved f rest) name prolog epilog (told [] (first ++ new_items f tag tag' same w until' others)) declared misc element (misc_moves f rest epilog behind_it) in
      record {
        tree = whole.0;
        reads = whole.1;
        tells = whole.2
            ∙ ap (λ (u : List Event). events prolog ++ u) (new_told f tag tag' same w until' others first (events epilog) (misc_no_tags rest epilog behind_it))
            ∙ sym (append_assoc (events prolog) (told [] first) (tree.Start tag' ∷ (text_events w ++ (tree.End until' ∷ moved_events f (told [] others ++ events epilog)))))
            ∙ ap (λ (u : List Event). (events prolog ++ u) ++ (tree.Start tag' ∷ (text_events w ++ (tree.End until' ∷ moved_events f (told [] others ++ events epilog))))) (sym middle_is)
            ∙ ap (λ (u : List Event). u ++ (tree.Start tag' ∷ (text_events w ++ (tree.End until' ∷ moved_events f (told [] others ++ events epilog))))) (sym before_is)
            ∙ ap (λ (u : List Event). before ++ (tree.Start tag' ∷ (text_events w ++ (tree.End until' ∷ moved_events f u)))) (sym after_is);
        declares = names_are d b ((front ++ (a' ++ (m ++ (e' ++ moved f s3)))) ++ moved f rest) name prolog declared misc element.begins ∙ sym (names_are d b (s ++ rest) name prolog declared misc begins);
      }

  start_place : (first others0 : List Item) (w0 : List ℕ) (r : List Event) → items ≡ first ++ (Start tag ∷ others0) → middle ≡ told [] first → r ≡ told [] others0 ++ events epilog → r ≡ text_events w0 ++ (tree.End until ∷ after)
      → StartPlace (d ++ (b ++ (s ++ rest))) tag until before after
  start_place first others0 w0 r items_are middle_is rest_is text_is =
      let alone = text_alone others0 [] w0 until after (events epilog) (misc_no_tags rest epilog behind_it) (sym rest_is ∙ text_is) in
      let items_again = items_are ∙ ap (λ (u : List Item). first ++ (Start tag ∷ u)) alone.items_are in
      let split = flat_split rest s first (Start tag ∷ (alone.words ++ (End alone.name until ∷ alone.others))) (subst (λ (u : List Item). Flat rest s u) items_again flat) in
      let tag_part = headed rest split.back (Start tag) (alone.words ++ (End alone.name until ∷ alone.others)) split.behind in
      let content = flat_split rest tag_part.others alone.words (End alone.name until ∷ alone.others) tag_part.more in
      let end_part = headed rest content.back (End alone.name until) alone.others content.behind in
      let opened = start_parts tag_part.first tag tag_part.spells in
      let closed = end_parts end_part.first alone.name until end_part.spells in
      let old_roots = subst Roots items_again roots in
      let name_is : alone.name ≡ tag.name = closing_name first alone.words tag alone.name until alone.others alone.alone old_roots in
      let back_is : mark 60 until ∷ (closed.0 ++ (end_part.others ++ rest)) ≡ (end_part.first ++ end_part.others) ++ rest =
      ap (λ (u : List Placed). u ++ (end_part.others ++ rest)) (sym closed.1) ∙ sym (append_assoc end_part.first end_part.others rest) in
      let s_is : s ≡ split.front ++ ((opened.most ++ (mark 62 opened.greater ∷ [])) ++ (content.front ++ (end_part.first ++ end_part.others))) =
      split.parts ∙ ap (λ (u : List Placed). split.front ++ u) (tag_part.parts ∙ ap (λ (u : List Placed). u ++ tag_part.others) opened.parts
      ∙ ap (λ (u : List Placed). (opened.most ++ (mark 62 opened.greater ∷ [])) ++ u) (content.parts ∙ ap (λ (u : List Placed). content.front ++ u) end_part.parts)) in
      record {
        front = d ++ (b ++ (split.front ++ opened.most));
        greater = opened.greater;
        inner = content.front;
        back = closed.0 ++ (end_part.others ++ rest);
        not_empty = opened.not_empty;
        body_is = opened.body_is;
        parts = ap (λ (u : List Placed). d ++ (b ++ (u ++ rest))) s_is ∙ regroup_front split.front opened.most content.front (end_part.first ++ end_part.others) (mark 62 opened.greater)
            ∙ ap (λ (u : List Placed). (d ++ (b ++ (split.front ++ opened.most))) ++ (mark 62 opened.greater ∷ (content.front ++ u))) (sym back_is);
        later = λ n least.
            let least_all = subst (λ (u : List Placed). AtLeast n u) back_is least in
            let least_last = least_behind n end_part.first end_part.others (least_front n (end_part.first ++ end_part.others) rest least_all) in
            subst (AllFrom n) (sym alone.after_is) (from_append n (told [] alone.others) (events epilog) (told_from n rest end_part.others alone.others [] least_last end_part.more) (no_tags_from n (events epilog) (misc_no_tags rest epilog behind_it)));
        again = λ f m w steps inner.
            let steps_all = subst (λ (u : List Placed). Steps f u) back_is steps in
            let steps_last = steps_behind f end_part.first end_part.others (steps_front f (end_part.first ++ end_part.others) rest steps_all) in
            let Q : List ℕ → Type 0 = λ n. SpellsEnd (moved f end_part.first) n (f until) in
            let R : List Placed → Type 0 = λ u. SpellsStart u tag in
            let reads = again_from f (split.back ++ rest) split.front (opened.most ++ (mark 62 opened.greater ∷ [])) m (moved f end_part.first) end_part.others first alone.others tag refl w (f until)
            split.before (subst R opened.parts tag_part.spells) inner (subst Q name_is (moved_end f end_part.first alone.name until end_part.spells)) steps_last end_part.more
            (start_roots f tag tag refl w (f until) alone.others first alone.words alone.name until alone.alone old_roots) middle_is alone.after_is in
            let P : List Placed → Type 0 = λ u. Reads (d ++ (b ++ (s ++ rest))) u (before ++ (tree.Start tag ∷ (text_events w ++ (tree.End (f until) ∷ moved_events f after)))) in
            let moved_is : (moved f end_part.first ++ moved f end_part.others) ++ moved f rest ≡ moved f (mark 60 until ∷ (closed.0 ++ (end_part.others ++ rest))) =
            ap (λ (u : List Placed). u ++ moved f rest) (sym (moved_append f end_part.first end_part.others)) ∙ sym (moved_append f (end_part.first ++ end_part.others) rest) ∙ ap (moved f) (sym back_is) in
            subst P (new_parts split.front opened.most m (moved f end_part.first ++ moved f end_part.others) (moved f rest) (mark 62 opened.greater)
            ∙ ap (λ (u : List Placed). (d ++ (b ++ (split.front ++ opened.most))) ++ (mark 62 opened.greater ∷ (m ++ u))) moved_is) reads;
      }
    where
      new_parts : (front1 most m t r : List Placed) (x : Placed) → d ++ (b ++ ((front1 ++ ((most ++ (x ∷ [])) ++ (m ++ t))) ++ r)) ≡ (d ++ (b ++ (front1 ++ most))) ++ (x ∷ (m ++ (t ++ r)))
      new_parts front1 most m t r x = simp append_assoc

  empty_place : (until0 : ℕ) (first others : List Item) (w0 : List ℕ) (r : List Event) → items ≡ first ++ (Empty tag until0 ∷ others) → middle ≡ told [] first → r ≡ tree.End until0 ∷ (told [] others ++ events epilog) → r ≡ text_events w0 ++ (tree.End until ∷ after)
      → EmptyPlace (d ++ (b ++ (s ++ rest))) tag until before after
  empty_place until0 first others w0 r items_are middle_is rest_is text_is =
      let next = next_node [] w0 (tree.End until0) (tree.End until) (told [] others ++ events epilog) after tt tt (sym rest_is ∙ text_is) in
      let split = flat_split rest s first (Empty tag until0 ∷ others) (subst (λ (u : List Item). Flat rest s u) items_are flat) in
      let tag_part = headed rest split.back (Empty tag until0) others split.behind in
      let parts = empty_parts tag_part.first tag until0 tag_part.spells in
      let old_roots = subst Roots items_are roots in
      let s_is : s ≡ split.front ++ ((parts.most ++ (mark 47 parts.slash ∷ (mark 62 parts.greater ∷ []))) ++ tag_part.others) =
      split.parts ∙ ap (λ (u : List Placed). split.front ++ u) (tag_part.parts ∙ ap (λ (u : List Placed). u ++ tag_part.others) parts.parts) in
      let tag' : Tag = record { name = tag.name; attributes = tag.attributes; from = tag.from; body_from = parts.slash + 1; is_empty = false } in
      record {
        front = d ++ (b ++ (split.front ++ parts.most));
        slash = parts.slash;
        greater = parts.greater;
        back = tag_part.others ++ rest;
        empty = parts.empty;
        body_is = parts.body_is;
        until_is = sym (same_end until0 until next.1) ∙ parts.until_is;
        before_name = d ++ (b ++ (split.front ++ (mark 60 tag.from ∷ [])));
        name = parts.name;
        behind_name = parts.behind_name;
        front_is = ap (λ (u : List Placed). d ++ (b ++ (split.front ++ u))) parts.most_is ∙ name_parts split.front parts.name parts.behind_name (mark 60 tag.from);
        named = parts.named;
        parts = ap (λ (u : List Placed). d ++ (b ++ (u ++ rest))) s_is ∙ old_parts split.front parts.most tag_part.others (mark 47 parts.slash) (mark 62 parts.greater);
        later = λ n least.
            subst (AllFrom n) next.2 (from_append n (told [] others) (events epilog) (told_from n rest tag_part.others others [] (least_front n tag_part.others rest least) tag_part.more) (no_tags_from n (events epilog) (misc_no_tags rest epilog behind_it)));
        again = λ f m e w until' steps inner closed.
            let steps_last = steps_front f tag_part.others rest steps in
            let reads = again_from f (split.back ++ rest) split.front (parts.most ++ (mark 62 parts.slash ∷ [])) m e tag_part.others first others tag' refl w until'
            split.before parts.opened inner closed steps_last tag_part.more
            (empty_roots f tag tag' refl w until' others first until0 old_roots) middle_is (sym next.2) in
            let P : List Placed → Type 0 = λ u. Reads (d ++ (b ++ (s ++ rest))) u (before ++ (tree.Start tag' ∷ (text_events w ++ (tree.End until' ∷ moved_events f after)))) in
            subst P (new_parts split.front parts.most m e (moved f tag_part.others) (moved f rest) (mark 62 parts.slash)
            ∙ ap (λ (u : List Placed). (d ++ (b ++ (split.front ++ parts.most))) ++ (mark 62 parts.slash ∷ (m ++ (e ++ u)))) (sym (moved_append f tag_part.others rest))) reads;
      }
    where
      name_parts : (front1 n t : List Placed) (x : Placed) → d ++ (b ++ (front1 ++ (x ∷ (n ++ t)))) ≡ (d ++ (b ++ (front1 ++ (x ∷ [])))) ++ (n ++ t)
      name_parts front1 n t x = simp append_assoc

      old_parts : (front1 most t : List Placed) (x y : Placed) → d ++ (b ++ ((front1 ++ ((most ++ (x ∷ (y ∷ []))) ++ t)) ++ rest)) ≡ (d ++ (b ++ (front1 ++ most))) ++ (x ∷ (y ∷ (t ++ rest)))
      old_parts front1 most t x y = simp append_assoc

      new_parts : (front1 most m e t r : List Placed) (x : Placed) → d ++ (b ++ ((front1 ++ ((most ++ (x ∷ [])) ++ (m ++ (e ++ t)))) ++ r)) ≡ (d ++ (b ++ (front1 ++ most))) ++ (x ∷ (m ++ (e ++ (t ++ r))))
      new_parts front1 most m e t r x = simp append_assoc

  found_place : (w0 : List ℕ) (r : List Event) → Found items [] middle tag r (events epilog) → r ≡ text_events w0 ++ (tree.End until ∷ after) → Place (d ++ (b ++ (s ++ rest))) tag until before after
  found_place w0 r (by_start first others items_are middle_is rest_is) text_is = behind_start (start_place first others w0 r items_are middle_is rest_is text_is)
  found_place w0 r (by_empty until0 first others items_are middle_is rest_is) text_is = in_empty (empty_place until0 first others w0 r items_are middle_is rest_is text_is)

-- an element that has text alone has its place among the characters
pub place_of : (xs : List Placed) (t : Content) (tag : Tag) (w0 : List ℕ) (until : ℕ) (before after : List Event) → SpellsDocument xs t → events t ≡ before ++ (tree.Start tag ∷ (text_events w0 ++ (tree.End until ∷ after))) → Place xs tag until before after
place_of xs t tag w0 until before after (document d b inside rest name prolog k epilog declared misc here behind_it) e =
    let items = element_items (inside ++ rest) rest k (element_complete inside rest k here) in
    let events_are : events prolog ++ (told [] items.items ++ events epilog) ≡ before ++ (tree.Start tag ∷ (text_events w0 ++ (tree.End until ∷ after))) =
    ap (λ (u : List Event). events prolog ++ (u ++ events epilog)) (sym items.events_are)
    ∙ sym (followed_events prolog (followed_by k epilog) ∙ ap (λ (u : List Event). events prolog ++ u) (followed_events k epilog)) ∙ e in
    let passed = pass (events prolog) (told [] items.items ++ events epilog) before tag (text_events w0 ++ (tree.End until ∷ after)) (misc_no_tags b prolog misc) events_are in
    let found = find_tag items.items [] passed.others tag (text_events w0 ++ (tree.End until ∷ after)) (events epilog) (misc_no_tags rest epilog behind_it) passed.rest_is in
    let element = items_read rest items.spelled items.items items.flat items.roots in
    let P : List Placed → Type 0 = λ u. Place (d ++ (b ++ u)) tag until before after in
    subst P (sym items.parts) (found_place d b rest name prolog epilog declared misc behind_it items.spelled items.items items.flat items.roots tag until before after passed.others passed.before_is element.begins w0 (text_events w0 ++ (tree.End until ∷ after)) found refl)

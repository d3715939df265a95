-- What some characters spell, they spell wherever they stand.
use Rattle.std.proofs.Common.{◌≡◌, ℕ, ◌+◌, ◌-◌, ◌*◌, Bool, true, false, List, [], ◌∷◌, ◌++◌, map, refl, sym, ap, subst, ◌∙◌}
use Rattle.std.specs.Prelude.{encode_utf8, encode_utf8_all, codes}
use Rattle.xml_names.specs.Characters.{is_char, is_name_char}
use Rattle.xml_syntax.specs.Characters.{Placed, mark, utf8, Passes, SomePass, Stops, IsLiteral, Lacks, begins_with}
use Rattle.xml_syntax.specs.Code.Characters.{EndsWithout}
use Rattle.xml_syntax.specs.Classes.{is_space, is_plain, is_digit, is_hex_digit, hex_value}
use Rattle.xml_syntax.specs.Tree.{Tag, Attribute, Content, comment, instruction}
use Rattle.xml_syntax.specs.Grammar.{SpellsName, decimal_from, hex_from, SpellsReference, decimal, hexadecimal, named, SpellsValue, closed, plain, referred, SpellsAttribute, attribute, SpellsAttributes, no_more, one_more, SpellsStart, start, SpellsEmpty, start_empty, SpellsEnd, end, SpellsCharData, SpellsSection, cdata, SpellsComment, remark, SpellsInstruction, bare, valued, SpellsMisc, no_misc, some_space, misc_comment, misc_instruction}
use Rattle.xml_syntax.specs.Reading.{Item, Words, Comment, Instruction, Empty, Start, End}
use Rattle.xml_syntax.proofs.ItemLaws.{SpellsText, of_chars, of_reference, of_section, SpellsItem}
use Rattle.xml_spans.specs.Moved.{moved_tag}
use Rattle.xml_spans.specs.Code.Moved.{moved}

-- the offset behind a character moves as its own does
abbrev pub Steps : (ℕ → ℕ) → List Placed → Type 0
Steps f [] = Unit {0}
Steps f (x ∷ xs) = (f (x.at + 1) ≡ f x.at + 1) × Steps f xs

pub steps_front : (f : ℕ → ℕ) (a b : List Placed) → Steps f (a ++ b) → Steps f a
steps_front f [] b h = tt
steps_front f (x ∷ a) b h = (h.0, steps_front f a b h.1)

pub steps_behind : (f : ℕ → ℕ) (a b : List Placed) → Steps f (a ++ b) → Steps f b
steps_behind f [] b h = h
steps_behind f (x ∷ a) b h = steps_behind f a b h.1

abbrev pub moved_item : (ℕ → ℕ) → Item → Item
moved_item f (Words w) = Words w
moved_item f (Comment w) = Comment w
moved_item f (Instruction target w) = Instruction target w
moved_item f (Empty tag until) = Empty (moved_tag f tag) (f until)
moved_item f (Start tag) = Start (moved_tag f tag)
moved_item f (End name from) = End name (f from)

-- ---- runs

pub moved_append : (f : ℕ → ℕ) (a b : List Placed) → moved f (a ++ b) ≡ moved f a ++ moved f b
moved_append f [] b = refl
moved_append f (x ∷ a) b = ap (λ (t : List Placed). mark x.code (f x.at) ∷ t) (moved_append f a b)

moved3 : (f : ℕ → ℕ) (a b c : List Placed) → moved f (a ++ (b ++ c)) ≡ moved f a ++ (moved f b ++ moved f c)
moved3 f a b c = moved_append f a (b ++ c) ∙ ap (λ (t : List Placed). moved f a ++ t) (moved_append f b c)

moved4 : (f : ℕ → ℕ) (a b c d : List Placed) → moved f (a ++ (b ++ (c ++ d))) ≡ moved f a ++ (moved f b ++ (moved f c ++ moved f d))
moved4 f a b c d = moved_append f a (b ++ (c ++ d)) ∙ ap (λ (t : List Placed). moved f a ++ t) (moved3 f b c d)

moved5 : (f : ℕ → ℕ) (a b c d e : List Placed) → moved f (a ++ (b ++ (c ++ (d ++ e)))) ≡ moved f a ++ (moved f b ++ (moved f c ++ (moved f d ++ moved f e)))
moved5 f a b c d e = moved_append f a (b ++ (c ++ (d ++ e))) ∙ ap (λ (t : List Placed). moved f a ++ t) (moved4 f b c d e)

moved_codes : (f : ℕ → ℕ) (xs : List Placed) → map (λ (x : Placed). x.code) (moved f xs) ≡ map (λ (x : Placed). x.code) xs
moved_codes f [] = refl
moved_codes f (x ∷ xs) = ap (λ (t : List ℕ). x.code ∷ t) (moved_codes f xs)

pub moved_utf8 : (f : ℕ → ℕ) (xs : List Placed) → utf8 (moved f xs) ≡ utf8 xs
moved_utf8 f xs = ap encode_utf8_all (moved_codes f xs)

moved_passes : (f : ℕ → ℕ) (p : ℕ → Bool) (xs : List Placed) → Passes p xs → Passes p (moved f xs)
moved_passes f p [] h = tt
moved_passes f p (x ∷ xs) h = (h.0, moved_passes f p xs h.1)

moved_some : (f : ℕ → ℕ) (p : ℕ → Bool) (xs : List Placed) → SomePass p xs → SomePass p (moved f xs)
moved_some f p [] h = absurd h
moved_some f p (x ∷ xs) h = (h.0, moved_passes f p xs h.1)

pub moved_stops : (f : ℕ → ℕ) (p : ℕ → Bool) (xs : List Placed) → Stops p xs → Stops p (moved f xs)
moved_stops f p [] h = tt
moved_stops f p (x ∷ xs) h = h

moved_literal : (f : ℕ → ℕ) (w : List ℕ) (xs : List Placed) → IsLiteral w xs → IsLiteral w (moved f xs)
moved_literal f [] [] h = tt
moved_literal f [] (x ∷ xs) h = absurd h
moved_literal f (c ∷ w) [] h = absurd h
moved_literal f (c ∷ w) (x ∷ xs) h = (h.0, moved_literal f w xs h.1)

moved_begins : (f : ℕ → ℕ) (w : List ℕ) (xs : List Placed) → begins_with w (moved f xs) ≡ begins_with w xs
moved_begins f [] xs = refl
moved_begins f (c ∷ w) [] = refl
moved_begins f (c ∷ w) (x ∷ xs) = rw (moved_begins f w xs) refl

moved_lacks : (f : ℕ → ℕ) (w : List ℕ) (xs : List Placed) → Lacks w xs → Lacks w (moved f xs)
moved_lacks f w [] h = tt
moved_lacks f w (x ∷ xs) h = (moved_begins f w (x ∷ xs) ∙ h.0, moved_lacks f w xs h.1)

moved_ends : (f : ℕ → ℕ) (c : ℕ) (xs : List Placed) → EndsWithout c xs → EndsWithout c (moved f xs)
moved_ends f c [] h = tt
moved_ends f c (x ∷ []) h = h
moved_ends f c (x ∷ (y ∷ xs)) h = moved_ends f c (y ∷ xs) h

moved_decimal : (f : ℕ → ℕ) (n : ℕ) (xs : List Placed) → decimal_from n (moved f xs) ≡ decimal_from n xs
moved_decimal f n [] = refl
moved_decimal f n (x ∷ xs) = moved_decimal f (n * 10 + (x.code - 48)) xs

moved_hex : (f : ℕ → ℕ) (n : ℕ) (xs : List Placed) → hex_from n (moved f xs) ≡ hex_from n xs
moved_hex f n [] = refl
moved_hex f n (x ∷ xs) = moved_hex f (n * 16 + hex_value x.code) xs

-- ---- names, references and attributes

moved_name : (f : ℕ → ℕ) (s : List Placed) (w : List ℕ) → SpellsName s w → SpellsName (moved f s) w
moved_name f [] w h = absurd h
moved_name f (x ∷ xs) w h = (h.0, moved_passes f is_name_char xs h.1, h.2 ∙ sym (moved_utf8 f (x ∷ xs)))

moved_reference : (f : ℕ → ℕ) (s : List Placed) (c : ℕ) → SpellsReference s c → SpellsReference (moved f s) c
moved_reference f s c (decimal digits amp sharp close some ok) =
    let P : List Placed → Type 0 = λ t. SpellsReference (mark 38 (f amp) ∷ (mark 35 (f sharp) ∷ t)) (decimal_from 0 digits) in
    let Q : ℕ → Type 0 = λ n. SpellsReference (mark 38 (f amp) ∷ (mark 35 (f sharp) ∷ (moved f digits ++ (mark 59 (f close) ∷ [])))) n in
    subst P (sym (moved_append f digits (mark 59 close ∷ []))) (subst Q (moved_decimal f 0 digits)
    (decimal (moved f digits) (f amp) (f sharp) (f close) (moved_some f is_digit digits some) (ap is_char (moved_decimal f 0 digits) ∙ ok)))
moved_reference f s c (hexadecimal digits amp sharp ex close some ok) =
    let P : List Placed → Type 0 = λ t. SpellsReference (mark 38 (f amp) ∷ (mark 35 (f sharp) ∷ (mark 120 (f ex) ∷ t))) (hex_from 0 digits) in
    let Q : ℕ → Type 0 = λ n. SpellsReference (mark 38 (f amp) ∷ (mark 35 (f sharp) ∷ (mark 120 (f ex) ∷ (moved f digits ++ (mark 59 (f close) ∷ []))))) n in
    subst P (sym (moved_append f digits (mark 59 close ∷ []))) (subst Q (moved_hex f 0 digits)
    (hexadecimal (moved f digits) (f amp) (f sharp) (f ex) (f close) (moved_some f is_hex_digit digits some) (ap is_char (moved_hex f 0 digits) ∙ ok)))
moved_reference f s c (named name w amp close c' spelled is) =
    let P : List Placed → Type 0 = λ t. SpellsReference (mark 38 (f amp) ∷ t) c in
    subst P (sym (moved_append f name (mark 59 close ∷ []))) (named (moved f name) w (f amp) (f close) c (moved_name f name w spelled) is)

moved_value : (f : ℕ → ℕ) (q : ℕ) (s : List Placed) (w : List ℕ) → SpellsValue q s w → SpellsValue q (moved f s) w
moved_value f q s w (closed at) = closed (f at)
moved_value f q s w (plain x s' w' is more) = plain (mark x.code (f x.at)) (moved f s') w' is (moved_value f q s' w' more)
moved_value f q s w (referred a s' c w' is more) =
    let P : List Placed → Type 0 = λ t. SpellsValue q t (encode_utf8 c ++ w') in
    subst P (sym (moved_append f a s')) (referred (moved f a) (moved f s') c w' (moved_reference f a c is) (moved_value f q s' w' more))

moved_attribute : (f : ℕ → ℕ) (s : List Placed) (v : Attribute) → SpellsAttribute s v → SpellsAttribute (moved f s) v
moved_attribute f s v (attribute name before behind_it value n w equals q at spelled space spaces quote h) =
    let P : List Placed → Type 0 = λ t. SpellsAttribute t (record { name = n; value = w }) in
    let e : moved f (name ++ (before ++ (mark 61 equals ∷ (behind_it ++ (mark q at ∷ value))))) ≡ moved f name ++ (moved f before ++ (mark 61 (f equals) ∷ (moved f behind_it ++ (mark q (f at) ∷ moved f value)))) =
    moved3 f name before (mark 61 equals ∷ (behind_it ++ (mark q at ∷ value)))
    ∙ ap (λ (t : List Placed). moved f name ++ (moved f before ++ (mark 61 (f equals) ∷ t))) (moved_append f behind_it (mark q at ∷ value)) in
    subst P (sym e) (attribute (moved f name) (moved f before) (moved f behind_it) (moved f value) n w (f equals) q (f at) (moved_name f name n spelled) (moved_passes f is_space before space) (moved_passes f is_space behind_it spaces) quote (moved_value f q value w h))

moved_attributes : (f : ℕ → ℕ) (s : List Placed) (vs : List Attribute) → SpellsAttributes s vs → SpellsAttributes (moved f s) vs
moved_attributes f s vs (no_more space h) = no_more (moved f space) (moved_passes f is_space space h)
moved_attributes f s vs (one_more x space a b v vs' first h spelled more) =
    let P : List Placed → Type 0 = λ t. SpellsAttributes (mark x.code (f x.at) ∷ t) (v ∷ vs') in
    subst P (sym (moved3 f space a b)) (one_more (mark x.code (f x.at)) (moved f space) (moved f a) (moved f b) v vs' first (moved_passes f is_space space h) (moved_attribute f a v spelled) (moved_attributes f b vs' more))

-- ---- tags

pub moved_start : (f : ℕ → ℕ) (s : List Placed) (tag : Tag) → Steps f s → SpellsStart s tag → SpellsStart (moved f s) (moved_tag f tag)
moved_start f s tag steps (start name attributes w vs from close named' listed apart) =
    let P : List Placed → Type 0 = λ t. SpellsStart (mark 60 (f from) ∷ t) (moved_tag f (record { name = w; attributes = vs; from = from; body_from = close + 1; is_empty = false })) in
    let Q : ℕ → Type 0 = λ n. SpellsStart (mark 60 (f from) ∷ (moved f name ++ (moved f attributes ++ (mark 62 (f close) ∷ [])))) (record { name = w; attributes = vs; from = f from; body_from = n; is_empty = false }) in
    let e = (steps_behind f attributes (mark 62 close ∷ []) (steps_behind f name (attributes ++ (mark 62 close ∷ [])) steps.1)).0 in
    subst P (sym (moved3 f name attributes (mark 62 close ∷ []))) (subst Q (sym e) (start (moved f name) (moved f attributes) w vs (f from) (f close) (moved_name f name w named') (moved_attributes f attributes vs listed) apart))

pub moved_empty : (f : ℕ → ℕ) (s : List Placed) (tag : Tag) (until : ℕ) → Steps f s → SpellsEmpty s tag until → SpellsEmpty (moved f s) (moved_tag f tag) (f until)
moved_empty f s tag until steps (start_empty name attributes w vs from slash close named' listed apart) =
    let tag' : Tag = record { name = w; attributes = vs; from = f from; body_from = f slash; is_empty = true } in
    let P : List Placed → Type 0 = λ t. SpellsEmpty (mark 60 (f from) ∷ t) tag' (f (close + 1)) in
    let Q : ℕ → Type 0 = λ n. SpellsEmpty (mark 60 (f from) ∷ (moved f name ++ (moved f attributes ++ (mark 47 (f slash) ∷ (mark 62 (f close) ∷ []))))) tag' n in
    let e = (steps_behind f attributes (mark 47 slash ∷ (mark 62 close ∷ [])) (steps_behind f name (attributes ++ (mark 47 slash ∷ (mark 62 close ∷ []))) steps.1)).1.0 in
    subst P (sym (moved3 f name attributes (mark 47 slash ∷ (mark 62 close ∷ [])))) (subst Q (sym e) (start_empty (moved f name) (moved f attributes) w vs (f from) (f slash) (f close) (moved_name f name w named') (moved_attributes f attributes vs listed) apart))

pub moved_end : (f : ℕ → ℕ) (s : List Placed) (name : List ℕ) (from : ℕ) → SpellsEnd s name from → SpellsEnd (moved f s) name (f from)
moved_end f s name from (end n space w from' slash close named' spaced) =
    let P : List Placed → Type 0 = λ t. SpellsEnd (mark 60 (f from) ∷ (mark 47 (f slash) ∷ t)) name (f from) in
    subst P (sym (moved3 f n space (mark 62 close ∷ []))) (end (moved f n) (moved f space) name (f from) (f slash) (f close) (moved_name f n name named') (moved_passes f is_space space spaced))

-- ---- texts, comments and instructions

moved_chars : (f : ℕ → ℕ) (s : List Placed) (w : List ℕ) → SpellsCharData s w → SpellsCharData (moved f s) w
moved_chars f s w h = (moved_some f is_plain s h.0, moved_lacks f (codes "]]>") s h.1, h.2 ∙ sym (moved_utf8 f s))

moved_section : (f : ℕ → ℕ) (s : List Placed) (w : List ℕ) → SpellsSection s w → SpellsSection (moved f s) w
moved_section f s w (cdata opening chars closing opened passes lacks closes) =
    let P : List Placed → Type 0 = λ t. SpellsSection t (utf8 chars) in
    let Q : List ℕ → Type 0 = λ u. SpellsSection (moved f opening ++ (moved f chars ++ moved f closing)) u in
    subst P (sym (moved3 f opening chars closing)) (subst Q (moved_utf8 f chars)
    (cdata (moved f opening) (moved f chars) (moved f closing) (moved_literal f (codes "<![CDATA[") opening opened) (moved_passes f is_char chars passes) (moved_lacks f (codes "]]>") chars lacks) (moved_literal f (codes "]]>") closing closes)))

moved_comment : (f : ℕ → ℕ) (s : List Placed) (w : List ℕ) → SpellsComment s w → SpellsComment (moved f s) w
moved_comment f s w (remark opening chars closing opened passes lacks ends closes) =
    let P : List Placed → Type 0 = λ t. SpellsComment t (utf8 chars) in
    let Q : List ℕ → Type 0 = λ u. SpellsComment (moved f opening ++ (moved f chars ++ moved f closing)) u in
    subst P (sym (moved3 f opening chars closing)) (subst Q (moved_utf8 f chars)
    (remark (moved f opening) (moved f chars) (moved f closing) (moved_literal f (codes "<!--") opening opened) (moved_passes f is_char chars passes) (moved_lacks f (codes "--") chars lacks) (moved_ends f 45 chars ends) (moved_literal f (codes "-->") closing closes)))

moved_instruction : (f : ℕ → ℕ) (s : List Placed) (target w : List ℕ) → SpellsInstruction s target w → SpellsInstruction (moved f s) target w
moved_instruction f s target w (bare opening name closing target' opened spelled other closes) =
    let P : List Placed → Type 0 = λ t. SpellsInstruction t target [] in
    subst P (sym (moved3 f opening name closing))
    (bare (moved f opening) (moved f name) (moved f closing) target (moved_literal f (codes "<?") opening opened) (moved_name f name target spelled) other (moved_literal f (codes "?>") closing closes))
moved_instruction f s target w (valued opening name space chars closing target' opened spelled other spaced passes stops lacks closes) =
    let P : List Placed → Type 0 = λ t. SpellsInstruction t target (utf8 chars) in
    let Q : List ℕ → Type 0 = λ u. SpellsInstruction (moved f opening ++ (moved f name ++ (moved f space ++ (moved f chars ++ moved f closing)))) target u in
    subst P (sym (moved5 f opening name space chars closing)) (subst Q (moved_utf8 f chars)
    (valued (moved f opening) (moved f name) (moved f space) (moved f chars) (moved f closing) target (moved_literal f (codes "<?") opening opened) (moved_name f name target spelled) other (moved_some f is_space space spaced) (moved_passes f is_char chars passes) (moved_stops f is_space chars stops) (moved_lacks f (codes "?>") chars lacks) (moved_literal f (codes "?>") closing closes)))

-- ---- items, and what stands around the document element

moved_text : (f : ℕ → ℕ) (s rest : List Placed) (w : List ℕ) → SpellsText s w rest → SpellsText (moved f s) w (moved f rest)
moved_text f s rest w (of_chars s' rest' w' h stop) = of_chars (moved f s) (moved f rest) w (moved_chars f s w h) (moved_stops f is_plain rest stop)
moved_text f s rest w (of_reference s' rest' c h) = of_reference (moved f s) (moved f rest) c (moved_reference f s c h)
moved_text f s rest w (of_section s' rest' w' h) = of_section (moved f s) (moved f rest) w (moved_section f s w h)

pub item_moves : (f : ℕ → ℕ) (item : Item) (rest s : List Placed) → Steps f s → SpellsItem item rest s → SpellsItem (moved_item f item) (moved f rest) (moved f s)
item_moves f (Words w) rest s steps h = moved_text f s rest w h
item_moves f (Comment w) rest s steps h = moved_comment f s w h
item_moves f (Instruction target w) rest s steps h = moved_instruction f s target w h
item_moves f (Empty tag until) rest s steps h = moved_empty f s tag until steps h
item_moves f (Start tag) rest s steps h = moved_start f s tag steps h
item_moves f (End name from) rest s steps h = moved_end f s name from h

pub misc_moves : (f : ℕ → ℕ) (s : List Placed) (k : Content) → SpellsMisc s k → SpellsMisc (moved f s) k
misc_moves f s k no_misc = no_misc
misc_moves f s k (some_space a b k' h more) =
    let P : List Placed → Type 0 = λ t. SpellsMisc t k in
    subst P (sym (moved_append f a b)) (some_space (moved f a) (moved f b) k (moved_some f is_space a h) (misc_moves f b k more))
misc_moves f s k (misc_comment a b w k' h more) =
    let P : List Placed → Type 0 = λ t. SpellsMisc t (comment w k') in
    subst P (sym (moved_append f a b)) (misc_comment (moved f a) (moved f b) w k' (moved_comment f a w h) (misc_moves f b k' more))
misc_moves f s k (misc_instruction a b target w k' h more) =
    let P : List Placed → Type 0 = λ t. SpellsMisc t (instruction target w k') in
    subst P (sym (moved_append f a b)) (misc_instruction (moved f a) (moved f b) target w k' (moved_instruction f a target w h) (misc_moves f b k' more))

-- From the grammar back: each tree that characters spell meets the conditions under which it can be listed.
use Rattle.std.proofs.Common.{◌≡◌, ℕ, ◌+◌, Bool, true, false, cond, not, ◌&&◌, ◌||◌, eqb, List, [], ◌∷◌, ◌++◌, map, Some, None, refl, sym, ap, ap₂, subst, ◌∙◌, append-nil}
use Rattle.std.specs.Prelude.{encode_utf8, codes, if◌then◌else◌}
use Rattle.std.specs.Char.{len_utf8}
use Rattle.std.specs.Str.{chars, bytes_eq}
use lib.Utf8.{scalar, scalars}
use Rattle.std.proofs.lemmas.Bool.{false≢true, and_from}
use Rattle.std.proofs.lemmas.Str.{chars-encodes}
use Rattle.xml_names.specs.Characters.{is_char, is_name_char}
use Rattle.xml_syntax.specs.Characters.{Placed, mark, placed, characters, utf8, begins_with, Passes, SomePass, Stops, Lacks}
use Rattle.xml_syntax.specs.Code.Characters.{EndsWithout}
use Rattle.xml_syntax.specs.Classes.{is_space, is_plain, is_value_char, value_code}
use Rattle.xml_syntax.specs.Tree.{Attribute, Tag, Content, nothing, text, comment, instruction, element, text_before, followed_by}
use Rattle.xml_syntax.specs.Grammar.{SpellsName, SpellsReference, decimal, hexadecimal, named, entity, SpellsValue, closed, plain, referred, SpellsAttribute, attribute, SpellsAttributes, no_more, one_more, SpellsStart, start, SpellsEmpty, start_empty, SpellsSection, cdata, SpellsComment, remark, SpellsInstruction, bare, valued, SpellsContent, none, char_data, a_reference, a_section, a_comment, an_instruction, an_empty, an_element, SpellsMisc, no_misc, some_space, misc_comment, misc_instruction, SpellsElement, empty_root, root, SpellsDocument, document}
use Rattle.xml_syntax.proofs.NameLaws.{start_goes_on}
use Rattle.c14n_listing.specs.Tidy.{letters, IsName, IsText, is_no_return, IsComment, IsInstruction, AreAttributes, IsTag, IsWholeText, Tidy, AreMisc, TidyDocument}
use Rattle.c14n_listing.proofs.Letters.{zeros, utf8_zeros, char_scalar, name_char}
use Rattle.c14n_listing.proofs.Texts.{utf8_append}
use Rattle.c14n_listing.specs.Listing.{listing}
use Rattle.c14n_listing.specs.Again.{unplaced}
use Rattle.c14n_listing.proofs.Whole.{stands_alone, spelled}
use Rattle.xml_syntax.proofs.Documents.{one_tree}

abbrev codes_of : List Placed → List ℕ
codes_of s = map (λ (x : Placed). x.code) s

abbrev bare_of : List Placed → List Placed
bare_of s = zeros (codes_of s)

passes_bare : (p : ℕ → Bool) (s : List Placed) → Passes p s → Passes p (bare_of s)
passes_bare p [] h = tt
passes_bare p (x ∷ s) h = (h.0, passes_bare p s h.1)

stops_bare : (p : ℕ → Bool) (s : List Placed) → Stops p s → Stops p (bare_of s)
stops_bare p [] h = tt
stops_bare p (x ∷ s) h = h

begins_bare : (w : List ℕ) (s : List Placed) → begins_with w (bare_of s) ≡ begins_with w s
begins_bare [] s = refl
begins_bare (d ∷ w) [] = refl
begins_bare (d ∷ w) (x ∷ s) = ap (λ (b : Bool). cond (eqb x.code d) b false) (begins_bare w s)

lacks_bare : (w : List ℕ) (s : List Placed) → Lacks w s → Lacks w (bare_of s)
lacks_bare w [] h = tt
lacks_bare w (x ∷ s) h = (begins_bare w (x ∷ s) ∙ h.0, lacks_bare w s h.1)

ends_bare : (d : ℕ) (s : List Placed) → EndsWithout d s → EndsWithout d (bare_of s)
ends_bare d [] h = tt
ends_bare d (x ∷ []) h = h
ends_bare d (x ∷ (y ∷ s)) h = ends_bare d (y ∷ s) h

scalars_of : (s : List Placed) → Passes is_char s → scalars (codes_of s) ≡ true
scalars_of [] h = refl
scalars_of (x ∷ s) h = and_from (scalar x.code) (scalars (codes_of s)) (char_scalar x.code h.0) (scalars_of s h.1)

letters_of : (s : List Placed) → Passes is_char s → bare_of s ≡ letters (utf8 s)
letters_of s h = ap zeros (sym (chars-encodes (codes_of s) (scalars_of s h)))

passes_both : (p : ℕ → Bool) (a b : List Placed) → Passes p a → Passes p b → Passes p (a ++ b)
passes_both p [] b h k = k
passes_both p (x ∷ a) b h k = (h.0, passes_both p a b h.1 k)

passes_first : (p : ℕ → Bool) (a b : List Placed) → Passes p (a ++ b) → Passes p a
passes_first p [] b h = tt
passes_first p (x ∷ a) b h = (h.0, passes_first p a b h.1)

passes_second : (p : ℕ → Bool) (a b : List Placed) → Passes p (a ++ b) → Passes p b
passes_second p [] b h = h
passes_second p (x ∷ a) b h = passes_second p a b h.1

-- ---- texts and names

pub text_of : (s : List Placed) → Passes is_char s → IsText (utf8 s)
text_of s h =
    let e = letters_of s h in
    (subst (Passes is_char) e (passes_bare is_char s h), sym (utf8_zeros (codes_of s)) ∙ ap utf8 e)

pub text_both : (a b : List ℕ) → IsText a → IsText b → IsText (a ++ b)
text_both a b h k =
    let e : utf8 (letters a ++ letters b) ≡ a ++ b = utf8_append (letters a) (letters b) ∙ ap₂ (λ (u v : List ℕ). u ++ v) (sym h.1) (sym k.1) in
    subst IsText e (text_of (letters a ++ letters b) (passes_both is_char (letters a) (letters b) h.0 k.0))

text_one : (c : ℕ) → is_char c ≡ true → IsText (encode_utf8 c)
text_one c h = subst IsText (append-nil (encode_utf8 c)) (text_of (mark c 0 ∷ []) (h, tt))

names_are_chars : (s : List Placed) → Passes is_name_char s → Passes is_char s
names_are_chars [] h = tt
names_are_chars (x ∷ s) h = (name_char x.code h.0, names_are_chars s h.1)

name_of : (s : List Placed) (w : List ℕ) → SpellsName s w → IsName w
name_of [] w h = absurd h
name_of (x ∷ s) w h =
    let all = names_are_chars (x ∷ s) (start_goes_on x.code h.0, h.1) in
    let e : bare_of (x ∷ s) ≡ letters w = letters_of (x ∷ s) all ∙ ap letters (sym h.2) in
    let P : List Placed → Type 0 = λ u. SpellsName u w in
    subst P e (h.0, passes_bare is_name_char s h.1, h.2 ∙ sym (utf8_zeros (codes_of (x ∷ s))))

plain_char : (c : ℕ) → is_plain c ≡ true → is_char c ≡ true
plain_char c h = by (eqb c 60) (eqb c 38) h
  where
    by : (a b : Bool) → cond (a || b) false (is_char c) ≡ true → is_char c ≡ true
    by true b e = absurd (false≢true e)
    by false true e = absurd (false≢true e)
    by false false e = e

plain_chars : (s : List Placed) → Passes is_plain s → Passes is_char s
plain_chars [] h = tt
plain_chars (x ∷ s) h = (plain_char x.code h.0, plain_chars s h.1)

some_chars : (s : List Placed) → SomePass is_plain s → Passes is_char s
some_chars [] h = absurd h
some_chars (x ∷ s) h = plain_chars (x ∷ s) h

entity_char : (w : List ℕ) (c : ℕ) → entity w ≡ Some c → is_char c ≡ true
unfolding is_char
entity_char w c e = by (bytes_eq w (codes "lt")) (bytes_eq w (codes "gt")) (bytes_eq w (codes "amp")) (bytes_eq w (codes "apos")) (bytes_eq w (codes "quot")) e
  where
    char_at : (d : ℕ) → is_char d ≡ true → Some d ≡ Some c → is_char c ≡ true
    char_at d h f = let same : d ≡ c = cc in ap is_char (sym same) ∙ h

    by : (p q r s t : Bool) → (if p then Some 60 else (if q then Some 62 else (if r then Some 38 else (if s then Some 39 else (if t then Some 34 else None))))) ≡ Some c → is_char c ≡ true
    by true q r s t f = char_at 60 refl f
    by false true r s t f = char_at 62 refl f
    by false false true s t f = char_at 38 refl f
    by false false false true t f = char_at 39 refl f
    by false false false false true f = char_at 34 refl f
    by false false false false false f = absurd cc

reference_char : (s : List Placed) (c : ℕ) → SpellsReference s c → is_char c ≡ true
reference_char _ _ (decimal digits amp sharp close some ok) = ok
reference_char _ _ (hexadecimal digits amp sharp ex close some ok) = ok
reference_char _ c (named name w amp close _ spells is) = entity_char w c is

value_char : (q c : ℕ) → is_value_char q c ≡ true → is_char (value_code c) ≡ true
unfolding is_char
value_char q c h = by (eqb c 9) (eqb c 10) (kept (eqb c q) (eqb c 60) (eqb c 38) h)
  where
    kept : (a b d : Bool) → cond (a || b || d) false (is_char c) ≡ true → is_char c ≡ true
    kept true b d e = absurd (false≢true e)
    kept false true d e = absurd (false≢true e)
    kept false false true e = absurd (false≢true e)
    kept false false false e = e

    by : (a b : Bool) → is_char c ≡ true → is_char (cond (a || b) 32 c) ≡ true
    by true b e = refl
    by false true e = refl
    by false false e = e

value_text : (q : ℕ) (s : List Placed) (w : List ℕ) → SpellsValue q s w → IsText w
value_text q s w (closed at) = text_of [] tt
value_text q s w (plain x s' w' ok more) = text_both (encode_utf8 (value_code x.code)) w' (text_one (value_code x.code) (value_char q x.code ok)) (value_text q s' w' more)
value_text q s w (referred a s' c w' ref more) = text_both (encode_utf8 c) w' (text_one c (reference_char a c ref)) (value_text q s' w' more)

one_attribute : (s : List Placed) (a : Attribute) → SpellsAttribute s a → IsName a.name × IsText a.value
one_attribute s a (attribute name before behind_it value n w equals q at spells h k quote v) = (name_of name n spells, value_text q value w v)

attributes_of : (s : List Placed) (vs : List Attribute) → SpellsAttributes s vs → AreAttributes vs
attributes_of s vs (no_more space h) = tt
attributes_of s vs (one_more x space a b v vs' h k first others) =
    let o = one_attribute a v first in (o.0, o.1, attributes_of b vs' others)

start_tag : (s : List Placed) (tag : Tag) → SpellsStart s tag → IsTag tag.name tag.attributes
start_tag s tag (start name attributes w vs from end spells h apart) = record { is_name = name_of name w spells; are_attributes = attributes_of attributes vs h; apart = apart }

empty_tag : (s : List Placed) (tag : Tag) (until : ℕ) → SpellsEmpty s tag until → IsTag tag.name tag.attributes
empty_tag s tag until (start_empty name attributes w vs from slash end spells h apart) = record { is_name = name_of name w spells; are_attributes = attributes_of attributes vs h; apart = apart }

comment_of : (s : List Placed) (w : List ℕ) → Passes is_no_return s → SpellsComment s w → IsComment w
comment_of s w clean (remark opening inside closing o p l e c) =
    let same = letters_of inside p in
    record {
      is_text = text_of inside p;
      no_return = subst (Passes is_no_return) same (passes_bare is_no_return inside (passes_first is_no_return inside closing (passes_second is_no_return opening (inside ++ closing) clean)));
      no_dashes = subst (Lacks (codes "--")) same (lacks_bare (codes "--") inside l);
      no_dash_last = subst (EndsWithout 45) same (ends_bare 45 inside e);
    }

instruction_of : (s : List Placed) (target w : List ℕ) → Passes is_no_return s → SpellsInstruction s target w → IsInstruction target w
unfolding chars
instruction_of s target w clean (bare opening name closing t o n x c) =
    record { is_name = name_of name target n; not_xml = x; is_text = text_of [] tt; no_return = tt; no_space_first = tt; no_close = tt }
instruction_of s target w clean (valued opening name space inside closing t o n x sp p st l c) =
    let same = letters_of inside p in
    let behind_name = passes_second is_no_return name (space ++ (inside ++ closing)) (passes_second is_no_return opening (name ++ (space ++ (inside ++ closing))) clean) in
    record {
      is_name = name_of name target n;
      not_xml = x;
      is_text = text_of inside p;
      no_return = subst (Passes is_no_return) same (passes_bare is_no_return inside (passes_first is_no_return inside closing (passes_second is_no_return space (inside ++ closing) behind_name)));
      no_space_first = subst (Stops is_space) same (stops_bare is_space inside st);
      no_close = subst (Lacks (codes "?>")) same (lacks_bare (codes "?>") inside l);
    }

section_text : (s : List Placed) (w : List ℕ) → SpellsSection s w → IsText w
section_text s w (cdata opening inside closing o p l c) = text_of inside p

-- ---- content

whole_text : (w v : List ℕ) (k : Content) → IsText w → IsWholeText v k → IsWholeText (w ++ v) k
whole_text [] v k h g = g
whole_text (c ∷ w) v k h g = record { is_text = text_both (c ∷ w) v h g.is_text; alone = stands_alone v k g.alone }

pub tidy_text : (w : List ℕ) (k : Content) → IsText w → Tidy k → Tidy (text_before w k)
tidy_text [] k h g = g
tidy_text (c ∷ w) nothing h g = (record { is_text = h; alone = refl }, g)
tidy_text (c ∷ w) (text v k) h g = (whole_text (c ∷ w) v k h g.0, g.1)
tidy_text (c ∷ w) (comment v k) h g = (record { is_text = h; alone = refl }, g)
tidy_text (c ∷ w) (instruction target v k) h g = (record { is_text = h; alone = refl }, g)
tidy_text (c ∷ w) (element tag inner until k) h g = (record { is_text = h; alone = refl }, g)

content_tidy : (s : List Placed) (k : Content) → Passes is_no_return s → SpellsContent s k → Tidy k
content_tidy s k clean none = tt
content_tidy s k clean (char_data a b w k' cd st sp) =
    tidy_text w k' (subst IsText (sym cd.2) (text_of a (some_chars a cd.0))) (content_tidy b k' (passes_second is_no_return a b clean) sp)
content_tidy s k clean (a_reference a b c k' ref sp) = tidy_text (encode_utf8 c) k' (text_one c (reference_char a c ref)) (content_tidy b k' (passes_second is_no_return a b clean) sp)
content_tidy s k clean (a_section a b w k' sec sp) = tidy_text w k' (section_text a w sec) (content_tidy b k' (passes_second is_no_return a b clean) sp)
content_tidy s k clean (a_comment a b w k' said sp) = (comment_of a w (passes_first is_no_return a b clean) said, content_tidy b k' (passes_second is_no_return a b clean) sp)
content_tidy s k clean (an_instruction a b target w k' ins sp) = (instruction_of a target w (passes_first is_no_return a b clean) ins, content_tidy b k' (passes_second is_no_return a b clean) sp)
content_tidy s k clean (an_empty a b tag until k' em sp) = (empty_tag a tag until em, tt, content_tidy b k' (passes_second is_no_return a b clean) sp)
content_tidy s k clean (an_element a b c d tag inner k' until st sb se sd) =
    let behind_start = passes_second is_no_return a (b ++ (c ++ d)) clean in
    (start_tag a tag st, content_tidy b inner (passes_first is_no_return b (c ++ d) behind_start) sb, content_tidy d k' (passes_second is_no_return c d (passes_second is_no_return b (c ++ d) behind_start)) sd)

-- ---- a document

misc_tidy : (s : List Placed) (k : Content) → Passes is_no_return s → SpellsMisc s k → AreMisc k × Tidy k
misc_tidy s k clean no_misc = (tt, tt)
misc_tidy s k clean (some_space a b k' h sp) = misc_tidy b k' (passes_second is_no_return a b clean) sp
misc_tidy s k clean (misc_comment a b w k' said sp) =
    let more = misc_tidy b k' (passes_second is_no_return a b clean) sp in (more.0, (comment_of a w (passes_first is_no_return a b clean) said, more.1))
misc_tidy s k clean (misc_instruction a b target w k' ins sp) =
    let more = misc_tidy b k' (passes_second is_no_return a b clean) sp in (more.0, (instruction_of a target w (passes_first is_no_return a b clean) ins, more.1))

behind_misc : (s : List Placed) (k rest : Content) → Passes is_no_return s → SpellsMisc s k → TidyDocument rest → TidyDocument (followed_by k rest)
behind_misc s k rest clean no_misc h = h
behind_misc s k rest clean (some_space a b k' g sp) h = behind_misc b k' rest (passes_second is_no_return a b clean) sp h
behind_misc s k rest clean (misc_comment a b w k' said sp) h =
    let more = behind_misc b k' rest (passes_second is_no_return a b clean) sp h in
    record { tidy = (comment_of a w (passes_first is_no_return a b clean) said, more.tidy); one_element = more.one_element }
behind_misc s k rest clean (misc_instruction a b target w k' ins sp) h =
    let more = behind_misc b k' rest (passes_second is_no_return a b clean) sp h in
    record { tidy = (instruction_of a target w (passes_first is_no_return a b clean) ins, more.tidy); one_element = more.one_element }

element_tidy : (s : List Placed) (k epilog : Content) → Passes is_no_return s → SpellsElement s k → AreMisc epilog → Tidy epilog → TidyDocument (followed_by k epilog)
element_tidy s k epilog clean (empty_root a tag until em) m h = record { tidy = (empty_tag a tag until em, tt, h); one_element = m }
element_tidy s k epilog clean (root a b c tag inner until st sb se) m h =
    record { tidy = (start_tag a tag st, content_tidy b inner (passes_first is_no_return b c (passes_second is_no_return a (b ++ c) clean)) sb, h); one_element = m }

document_tidy : (s : List Placed) (t : Content) → Passes is_no_return s → SpellsDocument s t → TidyDocument t
document_tidy s t clean (document declaration before inside after name prolog k epilog d m e o) =
    let one = passes_second is_no_return declaration (before ++ (inside ++ after)) clean in
    let two = passes_second is_no_return before (inside ++ after) one in
    let end = misc_tidy after epilog (passes_second is_no_return inside after two) o in
    behind_misc before prolog (followed_by k epilog) (passes_first is_no_return before (inside ++ after) one) m
    (element_tidy inside k epilog (passes_first is_no_return inside after two) e end.0 end.1)

-- line ends are line feeds once a document is read
no_returns : (b : Bool) (at : ℕ) (cs : List ℕ) → Passes is_no_return (placed b at cs)
no_returns b at [] = tt
no_returns b at (c ∷ cs) = by (eqb c 13) (eqb c 10 && b) refl (λ b' at'. no_returns b' at' cs)
  where
    by : (p q : Bool) → eqb c 13 ≡ p → ((b' : Bool) (at' : ℕ) → Passes is_no_return (placed b' at' cs))
        → Passes is_no_return (cond p (mark 10 at ∷ placed true (at + 1) cs) (cond q (placed false (at + 1) cs) (mark c at ∷ placed false (at + len_utf8 c) cs)))
    by true q e more = (refl, more true (at + 1))
    by false true e more = more false (at + 1)
    by false false e more = (ap not e, more false (at + len_utf8 c))

pub spelled_tidy : (at : ℕ) (cs : List ℕ) (t : Content) → SpellsDocument (characters at cs) t → TidyDocument t
spelled_tidy at cs t h = document_tidy (characters at cs) t (no_returns false at cs) h

pub one_listing : (t u : Content) → TidyDocument t → TidyDocument u → listing t ≡ listing u → unplaced t ≡ unplaced u
one_listing t u h k e =
    let a = spelled t h in
    let b = spelled u k in
    let P : List ℕ → Type 0 = λ w. SpellsDocument (characters 0 (chars w)) a.tree in
    sym a.same ∙ ap unplaced (one_tree (characters 0 (chars (listing u))) a.tree b.tree (subst P e a.spells) b.spells) ∙ b.same

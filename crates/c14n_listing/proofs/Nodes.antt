-- The listing of each kind of node, and what the grammar takes it for.
use Rattle.std.proofs.Common.{◌≡◌, ℕ, ◌+◌, false, List, [], ◌∷◌, ◌++◌, refl, sym, subst, ◌∙◌, append-nil, append_assoc}
use Rattle.std.specs.Prelude.{encode_utf8_all, codes}
use Rattle.std.specs.List.{flat_map}
use Rattle.std.specs.Str.{chars}
use Rattle.c14n_text.specs.declared.Place.TheVariants.{AttributeValue}
use Rattle.c14n_text.specs.Escapes.{escaped, pi_octets}
use Rattle.c14n_text.specs.Canon.{comment_octets}
use Rattle.xml_names.specs.Characters.{is_char}
use Rattle.xml_syntax.specs.Characters.{Placed, mark, utf8, Passes, SomePass, Stops, Lacks, IsLiteral}
use Rattle.xml_syntax.specs.Code.Characters.{EndsWithout}
use Rattle.xml_syntax.specs.Classes.{is_space}
use Rattle.xml_syntax.specs.Tree.{Attribute}
use Rattle.xml_syntax.specs.Grammar.{SpellsName, SpellsValue, closed, SpellsAttribute, attribute, SpellsAttributes, no_more, one_more, SpellsStart, start, SpellsEnd, end, SpellsComment, remark, SpellsInstruction, bare, valued}
use Rattle.c14n_listing.specs.Listing.{attribute_listing, start_listing, end_listing}
use Rattle.c14n_listing.specs.Tidy.{IsName, IsText, IsComment, IsInstruction, AreAttributes, IsTag}
use Rattle.c14n_listing.proofs.Letters.{clean_of, clean_by, utf8_zeros, utf8_run, passes_run, stops_run, lacks_run, ends_run}
use Rattle.c14n_listing.proofs.Pieces.{Piece, join, told, nothing_piece, literal, name_piece, right4, right5, regrouped}
use Rattle.c14n_listing.proofs.Texts.{IsValueBefore, value_piece}

-- a single character of ASCII
one : (c : ℕ) (P : List Placed → Type 0) → ((at : ℕ) → P (mark c at ∷ [])) → (xs : List Placed) → IsLiteral (c ∷ []) xs → P xs
one c P p [] h = absurd h
one c P p (x ∷ []) h = subst (λ (d : ℕ). P (mark d x.at ∷ [])) (sym h.0) (p x.at)
one c P p (x ∷ (y ∷ xs)) h = absurd h.1

-- and a pair
two : (c d : ℕ) (P : List Placed → Type 0) → ((at to : ℕ) → P (mark c at ∷ (mark d to ∷ []))) → (xs : List Placed) → IsLiteral (c ∷ (d ∷ [])) xs → P xs
two c d P p [] h = absurd h
two c d P p (x ∷ xs) h =
    one d (λ ys. P (x ∷ ys)) (λ to. subst (λ (b : ℕ). P (mark b x.at ∷ (mark d to ∷ []))) (sym h.0) (p x.at to)) xs h.1

-- ---- attributes

abbrev IsValued : Attribute → List Placed → Type 0
IsValued a xs = (n : List Placed) → SpellsName n a.name → SpellsAttribute (n ++ xs) a

abbrev IsAttributeBefore : Attribute → List Placed → Type 0
IsAttributeBefore a xs = (b : List Placed) (vs : List Attribute) → SpellsAttributes b vs → SpellsAttributes (xs ++ b) (a ∷ vs)

quote_piece : (w : List ℕ) → Piece (codes "\"") (λ xs. SpellsValue 34 xs [])
unfolding is_char lib.Utf8.encode
quote_piece w = told (IsLiteral (codes "\"")) (λ xs. SpellsValue 34 xs []) (codes "\"") (one 34 (λ xs. SpellsValue 34 xs []) (λ at. closed at)) (literal (codes "\"") refl (clean_by (codes "\"") refl))

equals_piece : Piece (codes "=\"") (IsLiteral (codes "=\""))
unfolding is_char lib.Utf8.encode
equals_piece = literal (codes "=\"") refl (clean_by (codes "=\"") refl)

space_piece : Piece (codes " ") (IsLiteral (codes " "))
unfolding is_char lib.Utf8.encode
space_piece = literal (codes " ") refl (clean_by (codes " ") refl)

attribute_piece : (a : Attribute) → IsName a.name → IsText a.value → Piece (attribute_listing a) (IsAttributeBefore a)
attribute_piece a n v =
    let quoted = join (IsValueBefore a.value) (λ xs. SpellsValue 34 xs []) (λ xs. SpellsValue 34 xs a.value) (escaped AttributeValue a.value) (codes "\"")
    (λ xs ys p q. subst (SpellsValue 34 (xs ++ ys)) (append-nil a.value) (p ys [] q)) (value_piece a.value v) (quote_piece []) in
    let equated = join (IsLiteral (codes "=\"")) (λ xs. SpellsValue 34 xs a.value) (IsValued a) (codes "=\"") (escaped AttributeValue a.value ++ codes "\"")
    (λ xs ys p q. two 61 34 (λ zs. IsValued a (zs ++ ys)) (λ at to m named. attribute m [] [] ys a.name a.value at 34 to named tt tt refl q) xs p) equals_piece quoted in
    let named = join (λ xs. SpellsName xs a.name) (IsValued a) (λ xs. SpellsAttribute xs a) a.name (codes "=\"" ++ (escaped AttributeValue a.value ++ codes "\""))
    (λ xs ys p q. q xs p) (name_piece a.name n) equated in
    let spaced = join (IsLiteral (codes " ")) (λ xs. SpellsAttribute xs a) (IsAttributeBefore a) (codes " ") (a.name ++ (codes "=\"" ++ (escaped AttributeValue a.value ++ codes "\"")))
    (λ xs ys p q. one 32 (λ zs. IsAttributeBefore a (zs ++ ys)) (λ at b vs more. one_more (mark 32 at) [] ys b a vs refl tt q more) xs p) space_piece named in
    regrouped (IsAttributeBefore a) (codes " " ++ (a.name ++ (codes "=\"" ++ (escaped AttributeValue a.value ++ codes "\"")))) (attribute_listing a)
    (right5 (codes " ") a.name (codes "=\"") (escaped AttributeValue a.value) (codes "\"")) spaced

attributes_piece : (vs : List Attribute) → AreAttributes vs → Piece (flat_map attribute_listing vs) (λ xs. SpellsAttributes xs vs)
attributes_piece [] h = nothing_piece (λ xs. SpellsAttributes xs []) (no_more [] tt)
attributes_piece (a ∷ vs) h =
    join (IsAttributeBefore a) (λ xs. SpellsAttributes xs vs) (λ xs. SpellsAttributes xs (a ∷ vs)) (attribute_listing a) (flat_map attribute_listing vs)
    (λ xs ys p q. p ys vs q) (attribute_piece a h.0 h.1) (attributes_piece vs h.2)

-- ---- tags

pub record StartAt (name : List ℕ) (vs : List Attribute) (xs : List Placed) : Type 0 where
  pub from : ℕ
  pub body : ℕ
  pub spells : SpellsStart xs (record { name = name; attributes = vs; from = from; body_from = body; is_empty = false })

pub record EndAt (name : List ℕ) (xs : List Placed) : Type 0 where
  pub from : ℕ
  pub spells : SpellsEnd xs name from

greater_piece : Piece (codes ">") (IsLiteral (codes ">"))
unfolding is_char lib.Utf8.encode
greater_piece = literal (codes ">") refl (clean_by (codes ">") refl)

less_piece : Piece (codes "<") (IsLiteral (codes "<"))
unfolding is_char lib.Utf8.encode
less_piece = literal (codes "<") refl (clean_by (codes "<") refl)

end_piece_opening : Piece (codes "</") (IsLiteral (codes "</"))
unfolding is_char lib.Utf8.encode
end_piece_opening = literal (codes "</") refl (clean_by (codes "</") refl)

abbrev IsBehindName : List ℕ → List Attribute → List Placed → Type 0
IsBehindName name vs xs = (n : List Placed) (from : ℕ) → SpellsName n name → StartAt name vs (mark 60 from ∷ (n ++ xs))

abbrev IsBehindLess : List ℕ → List Attribute → List Placed → Type 0
IsBehindLess name vs xs = (from : ℕ) → StartAt name vs (mark 60 from ∷ xs)

pub start_piece : (name : List ℕ) (vs : List Attribute) → IsTag name vs → Piece (start_listing name vs) (StartAt name vs)
start_piece name vs h =
    let closes = join (λ xs. SpellsAttributes xs vs) (IsLiteral (codes ">")) (IsBehindName name vs) (flat_map attribute_listing vs) (codes ">")
    (λ xs ys p q. one 62 (λ zs. IsBehindName name vs (xs ++ zs)) (λ at n from named. record { from = from; body = at + 1; spells = start n xs name vs from at named p h.apart }) ys q)
    (attributes_piece vs h.are_attributes) greater_piece in
    let named = join (λ xs. SpellsName xs name) (IsBehindName name vs) (IsBehindLess name vs) name (flat_map attribute_listing vs ++ codes ">")
    (λ xs ys p q from. q xs from p) (name_piece name h.is_name) closes in
    let opened = join (IsLiteral (codes "<")) (IsBehindLess name vs) (StartAt name vs) (codes "<") (name ++ (flat_map attribute_listing vs ++ codes ">"))
    (λ xs ys p q. one 60 (λ zs. StartAt name vs (zs ++ ys)) (λ at. q at) xs p) less_piece named in
    regrouped (StartAt name vs) (codes "<" ++ (name ++ (flat_map attribute_listing vs ++ codes ">"))) (start_listing name vs) (right4 (codes "<") name (flat_map attribute_listing vs) (codes ">")) opened

abbrev IsNameEnd : List ℕ → List Placed → Type 0
IsNameEnd name xs = (from slash : ℕ) → SpellsEnd (mark 60 from ∷ (mark 47 slash ∷ xs)) name from

pub end_piece : (name : List ℕ) → IsName name → Piece (end_listing name) (EndAt name)
end_piece name h =
    let closes = join (λ xs. SpellsName xs name) (IsLiteral (codes ">")) (IsNameEnd name) name (codes ">")
    (λ xs ys p q. one 62 (λ zs. IsNameEnd name (xs ++ zs)) (λ at from slash. end xs [] name from slash at p tt) ys q) (name_piece name h) greater_piece in
    let opened = join (IsLiteral (codes "</")) (IsNameEnd name) (EndAt name) (codes "</") (name ++ codes ">")
    (λ xs ys p q. two 60 47 (λ zs. EndAt name (zs ++ ys)) (λ at to. record { from = at; spells = q at to }) xs p) end_piece_opening closes in
    regrouped (EndAt name) (codes "</" ++ (name ++ codes ">")) (end_listing name) (sym (append_assoc (codes "</") name (codes ">"))) opened

-- ---- comments and instructions

abbrev IsRemark : List ℕ → List Placed → Type 0
IsRemark w xs = Passes is_char xs × Lacks (codes "--") xs × EndsWithout 45 xs × (utf8 xs ≡ w)

text_code : (w : List ℕ) → IsText w → encode_utf8_all (chars w) ≡ w
text_code w h = sym (h.1 ∙ utf8_zeros (chars w))

remark_piece : (w : List ℕ) → IsComment w → Piece w (IsRemark w)
remark_piece w h = record {
  code = chars w;
  encodes = text_code w h.is_text;
  clean = clean_of (chars w) h.is_text.0 h.no_return;
  spells = λ at. (passes_run is_char at (chars w) h.is_text.0, lacks_run (codes "--") at (chars w) h.no_dashes, ends_run 45 at (chars w) h.no_dash_last, utf8_run at (chars w) ∙ text_code w h.is_text);
}

open_comment : Piece (codes "<!--") (IsLiteral (codes "<!--"))
unfolding is_char lib.Utf8.encode
open_comment = literal (codes "<!--") refl (clean_by (codes "<!--") refl)

close_comment : Piece (codes "-->") (IsLiteral (codes "-->"))
unfolding is_char lib.Utf8.encode
close_comment = literal (codes "-->") refl (clean_by (codes "-->") refl)

abbrev IsRemarkEnd : List ℕ → List Placed → Type 0
IsRemarkEnd w xs = (o : List Placed) → IsLiteral (codes "<!--") o → SpellsComment (o ++ xs) w

pub comment_piece : (w : List ℕ) → IsComment w → Piece (comment_octets w) (λ xs. SpellsComment xs w)
comment_piece w h =
    let closes = join (IsRemark w) (IsLiteral (codes "-->")) (IsRemarkEnd w) w (codes "-->")
    (λ xs ys p q o opens. subst (SpellsComment (o ++ (xs ++ ys))) p.3 (remark o xs ys opens p.0 p.1 p.2 q)) (remark_piece w h) close_comment in
    let opened = join (IsLiteral (codes "<!--")) (IsRemarkEnd w) (λ xs. SpellsComment xs w) (codes "<!--") (w ++ codes "-->") (λ xs ys p q. q xs p) open_comment closes in
    regrouped (λ xs. SpellsComment xs w) (codes "<!--" ++ (w ++ codes "-->")) (comment_octets w) (sym (append_assoc (codes "<!--") w (codes "-->"))) opened

abbrev IsValue : List ℕ → List Placed → Type 0
IsValue w xs = Passes is_char xs × Stops is_space xs × Lacks (codes "?>") xs × (utf8 xs ≡ w)

value_of_instruction : (target w : List ℕ) → IsInstruction target w → Piece w (IsValue w)
value_of_instruction target w h = record {
  code = chars w;
  encodes = text_code w h.is_text;
  clean = clean_of (chars w) h.is_text.0 h.no_return;
  spells = λ at. (passes_run is_char at (chars w) h.is_text.0, stops_run is_space at (chars w) h.no_space_first, lacks_run (codes "?>") at (chars w) h.no_close, utf8_run at (chars w) ∙ text_code w h.is_text);
}

open_instruction : Piece (codes "<?") (IsLiteral (codes "<?"))
unfolding is_char lib.Utf8.encode
open_instruction = literal (codes "<?") refl (clean_by (codes "<?") refl)

close_instruction : Piece (codes "?>") (IsLiteral (codes "?>"))
unfolding is_char lib.Utf8.encode
close_instruction = literal (codes "?>") refl (clean_by (codes "?>") refl)

abbrev IsBehindTarget : List ℕ → List ℕ → List Placed → Type 0
IsBehindTarget target w xs = (o n : List Placed) → IsLiteral (codes "<?") o → SpellsName n target → SpellsInstruction (o ++ (n ++ xs)) target w

abbrev IsBehindSpace : List ℕ → List ℕ → List Placed → Type 0
IsBehindSpace target w xs = (s o n : List Placed) → SomePass is_space s → IsLiteral (codes "<?") o → SpellsName n target → SpellsInstruction (o ++ (n ++ (s ++ xs))) target w

abbrev IsBehindQuestion : List ℕ → List ℕ → List Placed → Type 0
IsBehindQuestion target w xs = (o : List Placed) → IsLiteral (codes "<?") o → SpellsInstruction (o ++ xs) target w

with_target : (target w rest : List ℕ) → IsName target → Piece rest (IsBehindTarget target w) → Piece (codes "<?" ++ (target ++ rest)) (λ xs. SpellsInstruction xs target w)
with_target target w rest h p =
    let named = join (λ xs. SpellsName xs target) (IsBehindTarget target w) (IsBehindQuestion target w) target rest (λ xs ys n q o opens. q o xs opens n) (name_piece target h) p in
    join (IsLiteral (codes "<?")) (IsBehindQuestion target w) (λ xs. SpellsInstruction xs target w) (codes "<?") (target ++ rest) (λ xs ys o q. q xs o) open_instruction named

pub instruction_piece : (target w : List ℕ) → IsInstruction target w → Piece (pi_octets target w) (λ xs. SpellsInstruction xs target w)
instruction_piece target [] h =
    let closed_at = with_target target [] (codes "?>") h.is_name
    (told (IsLiteral (codes "?>")) (IsBehindTarget target []) (codes "?>") (λ xs closes o n opens named. bare o n xs target opens named h.not_xml closes) close_instruction) in
    regrouped (λ xs. SpellsInstruction xs target []) (codes "<?" ++ (target ++ codes "?>")) (pi_octets target []) (sym (append_assoc (codes "<?") target (codes "?>"))) closed_at
instruction_piece target (c ∷ w) h =
    let closes = join (IsValue (c ∷ w)) (IsLiteral (codes "?>")) (IsBehindSpace target (c ∷ w)) (c ∷ w) (codes "?>")
    (λ xs ys p q s o n spaced opens named. subst (SpellsInstruction (o ++ (n ++ (s ++ (xs ++ ys)))) target) p.3 (valued o n s xs ys target opens named h.not_xml spaced p.0 p.1 p.2 q)) (value_of_instruction target (c ∷ w) h) close_instruction in
    let spaced = join (IsLiteral (codes " ")) (IsBehindSpace target (c ∷ w)) (IsBehindTarget target (c ∷ w)) (codes " ") ((c ∷ w) ++ codes "?>")
    (λ xs ys p q. one 32 (λ zs. IsBehindTarget target (c ∷ w) (zs ++ ys)) (λ at o n opens named. q (mark 32 at ∷ []) o n (refl, tt) opens named) xs p) space_piece closes in
    regrouped (λ xs. SpellsInstruction xs target (c ∷ w)) (codes "<?" ++ (target ++ (codes " " ++ ((c ∷ w) ++ codes "?>")))) (pi_octets target (c ∷ w)) (right5 (codes "<?") target (codes " ") (c ∷ w) (codes "?>"))
    (with_target target (c ∷ w) (codes " " ++ ((c ∷ w) ++ codes "?>")) h.is_name spaced)

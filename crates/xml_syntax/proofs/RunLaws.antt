-- Runs of octets that stand for themselves.
use Rattle.std.proofs.Common.{◌≡◌, ℕ, ◌+◌, ◌<◌, ◌≤◌, Bool, true, false, ◌||◌, inl, inr, List, [], ◌∷◌, ◌++◌, length, take, drop, get_or, Option, Some, None, refl, sym, ap, subst, ◌∙◌, append_assoc, append-nil, arith}
use Rattle.std.specs.Prelude.{◌==◌, Result, Ok, Err, encode_utf8, codes}
use Rattle.std.specs.Char.{len_utf8}
use Rattle.std.specs.List.{All}
use Rattle.std.specs.Str.{chars, IsUtf8, IsCharBoundary}
use Rattle.std.proofs.lemmas.Bool.{lt-ltb}
use Rattle.std.proofs.lemmas.Bool.Decides.{nat_tests}
use Rattle.std.proofs.lemmas.List.Elements.{All-weaker, All-head, All-tail}
use Rattle.std.proofs.lemmas.Str.{encode_ascii, len_utf8_ascii, IsCharBoundary-from_take, IsCharBoundary-after_ascii, IsUtf8-from_ascii}
use Rattle.std.proofs.lemmas.Str.Ascii.{IsAscii-from_all}
use Rattle.sig_base.proofs.OptionLemmas.{some_is}
use Rattle.xml_names.specs.Characters.{Range, one, span, in_range, in_some, name_start_ranges, more_name_ranges, is_char, is_name_char, is_name_start}
use Rattle.xml_syntax.specs.Characters.{Placed, placed, utf8, front, behind, behind_first, begins, begins_with, passes_next}
use Rattle.xml_syntax.specs.Classes.{is_between, is_plain, is_quote, is_value_char, value_code}
use Rattle.xml_syntax.specs.Run.{in_run, ends_inner, begins_tag, BeginsSmall, IsTagBegin, IsTagNext, Takes}
use Rattle.xml_syntax.specs.declared.run.Run.{Run}
use Rattle.xml_syntax.specs.declared.run.Run.TheVariants.{Text, Value, Name, Inner}
use Rattle.xml_syntax.specs.Reading.{one_of, plain_of, until_of, value_part_of, value_of, text_follows, markup_of, tag_of}
use Rattle.xml_syntax.specs.declared.fault.SyntaxFault.{SyntaxFault}
use Rattle.xml_syntax.specs.declared.fault.SyntaxFault.TheVariants.{Encoding, DocType, NotWellFormed, Memory}
use Rattle.xml_syntax.specs.Seen.{Fails, with_front, Adds}
use Rattle.xml_syntax.proofs.Runs.{and_false, or_true}
use Rattle.xml_syntax.proofs.Turns.{ValueKeeps, value_turn, value_shorter, value_done, value_fails, one_shorter, plain_turn, until_turn, no_front, front_none}

-- ---- what the octets of a run are

or_right : (a b : Bool) → b ≡ true → (a || b) ≡ true
or_right true b h = refl
or_right false b h = h

pub run_ascii : (run : Run) (c : ℕ) → in_run run c ≡ true → c < 128
run_ascii Text c h = grind (arith, nat_tests)
run_ascii Value c h = grind (arith, nat_tests)
run_ascii Name c h = grind (arith, nat_tests)
run_ascii Inner c h = grind (arith, nat_tests)

-- a small letter belongs to each
pub small_in_run : (run : Run) (c : ℕ) → is_between 97 122 c ≡ true → in_run run c ≡ true
small_in_run Text c h = grind (arith, nat_tests)
small_in_run Value c h = grind (arith, nat_tests)
small_in_run Name c h = grind (arith, nat_tests)
small_in_run Inner c h = grind (arith, nat_tests)

run_no_return : (run : Run) (c : ℕ) → in_run run c ≡ true → (c == 13) ≡ false
run_no_return Text c h = grind (arith, nat_tests)
run_no_return Value c h = grind (arith, nat_tests)
run_no_return Name c h = grind (arith, nat_tests)
run_no_return Inner c h = grind (arith, nat_tests)

text_char : (c : ℕ) → in_run Text c ≡ true → is_plain c ≡ true
unfolding is_char
text_char c h = grind (arith, nat_tests)

text_no_close : (c : ℕ) → in_run Text c ≡ true → (c == 93) ≡ false
text_no_close c h = grind (arith, nat_tests)

inner_char : (c : ℕ) → in_run Inner c ≡ true → is_char c ≡ true
unfolding is_char
inner_char c h = grind (arith, nat_tests)

in_first : (r : Range) (rs : List Range) (c : ℕ) → in_range r c ≡ true → in_some (r ∷ rs) c ≡ true
in_first r rs c h = rw h refl

in_later : (r : Range) (rs : List Range) (c : ℕ) → in_some rs c ≡ true → in_some (r ∷ rs) c ≡ true
in_later r rs c h = or_right (in_range r c) (in_some rs c) h

starts : (c : ℕ) → in_some name_start_ranges c ≡ true → is_name_char c ≡ true
unfolding is_name_char is_name_start
starts c h = rw h refl

goes_on : (c : ℕ) → in_some more_name_ranges c ≡ true → is_name_char c ≡ true
unfolding is_name_char
goes_on c h = or_right (is_name_start c) (in_some more_name_ranges c) h

inner_no_close : (c d : ℕ) → ((d == 45) || (d == 93) || (d == 63)) ≡ true → in_run Inner c ≡ true → (c == d) ≡ false
inner_no_close c d e h = grind (arith, nat_tests)

-- the ranges of a name's characters above the ASCII characters
abbrev high_starts : List Range
high_starts = span 192 214 ∷ span 216 246 ∷ span 248 767 ∷ span 880 893 ∷ span 895 8191 ∷ span 8204 8205 ∷ span 8304 8591 ∷ span 11264 12271 ∷ span 12289 55295 ∷ span 63744 64975 ∷ span 65008 65533 ∷ span 65536 983039 ∷ []

abbrev high_more : List Range
high_more = one 183 ∷ span 768 879 ∷ span 8255 8256 ∷ []

colon : (c : ℕ) → in_range (one 58) c ≡ true → is_name_char c ≡ true
colon c h = starts c (in_first (one 58) (span 65 90 ∷ one 95 ∷ span 97 122 ∷ high_starts) c h)

capital : (c : ℕ) → in_range (span 65 90) c ≡ true → is_name_char c ≡ true
capital c h = starts c (in_later (one 58) (span 65 90 ∷ one 95 ∷ span 97 122 ∷ high_starts) c (in_first (span 65 90) (one 95 ∷ span 97 122 ∷ high_starts) c h))

low_line : (c : ℕ) → in_range (one 95) c ≡ true → is_name_char c ≡ true
low_line c h = starts c (in_later (one 58) (span 65 90 ∷ one 95 ∷ span 97 122 ∷ high_starts) c (in_later (span 65 90) (one 95 ∷ span 97 122 ∷ high_starts) c (in_first (one 95) (span 97 122 ∷ high_starts) c h)))

small : (c : ℕ) → in_range (span 97 122) c ≡ true → is_name_char c ≡ true
small c h = starts c (in_later (one 58) (span 65 90 ∷ one 95 ∷ span 97 122 ∷ high_starts) c (in_later (span 65 90) (one 95 ∷ span 97 122 ∷ high_starts) c (in_later (one 95) (span 97 122 ∷ high_starts) c (in_first (span 97 122) high_starts c h))))

hyphen : (c : ℕ) → in_range (one 45) c ≡ true → is_name_char c ≡ true
hyphen c h = goes_on c (in_first (one 45) (one 46 ∷ span 48 57 ∷ high_more) c h)

full_stop : (c : ℕ) → in_range (one 46) c ≡ true → is_name_char c ≡ true
full_stop c h = goes_on c (in_later (one 45) (one 46 ∷ span 48 57 ∷ high_more) c (in_first (one 46) (span 48 57 ∷ high_more) c h))

digit : (c : ℕ) → in_range (span 48 57) c ≡ true → is_name_char c ≡ true
digit c h = goes_on c (in_later (one 45) (one 46 ∷ span 48 57 ∷ high_more) c (in_later (one 46) (span 48 57 ∷ high_more) c (in_first (span 48 57) high_more c h)))

none : (c : ℕ) → in_some [] c ≡ true → is_name_char c ≡ true
none c h = absurd cc

either : (r : Range) (rs : List Range) (c : ℕ) → (in_range r c ≡ true → is_name_char c ≡ true) → (in_some rs c ≡ true → is_name_char c ≡ true) → in_some (r ∷ rs) c ≡ true → is_name_char c ≡ true
either r rs c f g h =
    elim (or_true (in_range r c) (in_some rs c) h) [
      | inl a ↦ f a
      | inr b ↦ g b
    ]

pub name_char : (c : ℕ) → in_run Name c ≡ true → is_name_char c ≡ true
name_char c h =
    either (one 58) (span 65 90 ∷ one 95 ∷ span 97 122 ∷ one 45 ∷ one 46 ∷ span 48 57 ∷ []) c (colon c)
    (either (span 65 90) (one 95 ∷ span 97 122 ∷ one 45 ∷ one 46 ∷ span 48 57 ∷ []) c (capital c)
    (either (one 95) (span 97 122 ∷ one 45 ∷ one 46 ∷ span 48 57 ∷ []) c (low_line c)
    (either (span 97 122) (one 45 ∷ one 46 ∷ span 48 57 ∷ []) c (small c)
    (either (one 45) (one 46 ∷ span 48 57 ∷ []) c (hyphen c)
    (either (one 46) (span 48 57 ∷ []) c (full_stop c)
    (either (span 48 57) [] c (digit c) (none c))))))) h

-- ---- a text that begins with a run

boundary : (run : Run) (bs : List ℕ) (n : ℕ) → IsUtf8 bs → n ≤ length bs → All (λ b. in_run run b ≡ true) (take n bs) → IsCharBoundary bs n
boundary run bs n u le h = IsCharBoundary-from_take bs n u le (IsUtf8-from_ascii (take n bs) (IsAscii-from_all (take n bs) (All-weaker (λ b. in_run run b ≡ true) (λ b. b < 128) (run_ascii run) (take n bs) h)))

pub run_boundary : (run : Run) (bs cs : List ℕ) (n : ℕ) → cs ≡ bs → IsUtf8 bs → n ≤ length cs → All (λ b. in_run run b ≡ true) (take n cs) → IsCharBoundary bs n
run_boundary run bs cs n same u le h = let P : List ℕ → Type 0 = λ t. n ≤ length t → All (λ b. in_run run b ≡ true) (take n t) → IsCharBoundary bs n in subst P (sym same) (boundary run bs n u) le h

pub chars_ascii : (c : ℕ) (bs : List ℕ) → c < 128 → chars (c ∷ bs) ≡ c ∷ chars bs
unfolding chars
chars_ascii c [] lt = rw (lt-ltb _ _ lt) refl
chars_ascii c (b ∷ bs) lt = rw (lt-ltb _ _ lt) refl

pub some_octets : (n : ℕ) (b : Bool) → b ≡ (n == 0) → b ≡ false → 0 < n
some_octets n b is isnt = grind (arith, nat_tests)

pub first_boundary : (text octets : List ℕ) → octets ≡ text → IsUtf8 text → 0 < length octets → get_or octets 0 0 < 128 → IsCharBoundary text 1
first_boundary text octets same u some lt =
    let P : List ℕ → Type 0 = λ t. 0 < length t → get_or t 0 0 < 128 → IsCharBoundary text 1 in
    subst P (sym same) (λ s l. IsCharBoundary-after_ascii text 0 u s l) some lt

ascii_first : (bs rest : List ℕ) → 0 < length bs → get_or bs 0 0 < 128 → rest ≡ drop 1 bs → chars bs ≡ get_or bs 0 0 ∷ chars rest
ascii_first [] rest some lt e = absurd (omega arith)
ascii_first (b ∷ bs) rest some lt e = chars_ascii b bs lt ∙ ap (λ (t : List ℕ). b ∷ chars t) (sym e)

pub first_ascii : (text octets rest : List ℕ) → octets ≡ text → 0 < length octets → get_or octets 0 0 < 128 → rest ≡ drop 1 text → chars text ≡ get_or octets 0 0 ∷ chars rest
first_ascii text octets rest same some lt e =
    ap chars (sym same) ∙ ascii_first octets rest some lt (e ∙ ap (λ (t : List ℕ). drop 1 t) (sym same))

placed_ascii : (run : Run) (at c : ℕ) (cs : List ℕ) → in_run run c ≡ true → placed false at (c ∷ cs) ≡ record { code = c; at = at } ∷ placed false (at + 1) cs
placed_ascii run at c cs h = rw (run_no_return run c h, and_false (c == 10), len_utf8_ascii c (run_ascii run c h)) refl

pub takes_run : (run : Run) (w rest : List ℕ) (at : ℕ) → All (λ b. in_run run b ≡ true) w → Takes (in_run run) w (placed false at (chars (w ++ rest))) (placed false (at + length w) (chars rest))
takes_run run [] rest at h = ap (λ (n : ℕ). placed false n (chars rest)) (omega arith)
takes_run run (c ∷ w) rest at h =
    let first = All-head (λ b. in_run run b ≡ true) c w h in
    let P : List Placed → Type 0 = λ xs. Takes (in_run run) (c ∷ w) xs (placed false (at + length (c ∷ w)) (chars rest)) in
    let Q : ℕ → Type 0 = λ n. Takes (in_run run) w (placed false (at + 1) (chars (w ++ rest))) (placed false n (chars rest)) in
    let more : Q (at + length (c ∷ w)) = subst Q (omega arith) (takes_run run w rest (at + 1) (All-tail (λ b. in_run run b ≡ true) c w h)) in
    subst P (sym (ap (placed false at) (chars_ascii c (w ++ rest) (run_ascii run c first)) ∙ placed_ascii run at c (chars (w ++ rest)) first)) (refl, first, more)

pub run_at : (run : Run) (text w rest : List ℕ) (at : ℕ) (xs : List Placed) → text ≡ w ++ rest → placed false at (chars text) ≡ xs → All (λ b. in_run run b ≡ true) w → Takes (in_run run) w xs (placed false (at + length w) (chars rest))
run_at run text w rest at xs parts is h =
    let P : List Placed → Type 0 = λ ys. Takes (in_run run) w ys (placed false (at + length w) (chars rest)) in
    subst P (ap (λ (t : List ℕ). placed false at (chars t)) (sym parts) ∙ is) (takes_run run w rest at h)

-- no more is left than there was
pub takes_shorter : (p : ℕ → Bool) (w : List ℕ) (xs left : List Placed) → Takes p w xs left → length left ≤ length xs
takes_shorter p [] xs left h = omega (arith, ap length h)
takes_shorter p (c ∷ w) [] left h = absurd h
takes_shorter p (c ∷ w) (x ∷ xs) left h = omega (arith, takes_shorter p w xs left h.2)

pub one_and_run : (p r : ℕ → Bool) (c : ℕ) (w : List ℕ) (xs ys left : List Placed) → one_of p xs ≡ Some (c, ys) → Takes r w ys left → length left < length xs
one_and_run p r c w xs ys left e h = omega (arith, one_shorter p xs ys c e, takes_shorter r w ys left h)

pub part_and_run : (q : ℕ) (before after w : List ℕ) (r : ℕ → Bool) (xs ys left : List Placed) → with_front before (value_part_of q xs) ≡ Some (after, ys) → Takes r w ys left → length left < length xs
part_and_run q before after w r xs ys left e h = omega (arith, value_shorter q before after xs ys e, takes_shorter r w ys left h)

-- ---- runs that readers take

pushed : (before w : List ℕ) (c : ℕ) → (before ++ c ∷ []) ++ w ≡ before ++ (c ∷ w)
pushed before w c = append_assoc before (c ∷ []) w

encoded : (before : List ℕ) (c : ℕ) → c < 128 → before ++ c ∷ [] ≡ before ++ encode_utf8 c
encoded before c lt = ap (λ (t : List ℕ). before ++ t) (sym (encode_ascii c lt))

one_is : (p : ℕ → Bool) (x : Placed) (xs : List Placed) (c : ℕ) → x.code ≡ c → p c ≡ true → one_of p (x ∷ xs) ≡ Some (c, xs)
one_is p x xs c e h = rw (e, h) refl

pub plain_run : (w : List ℕ) (xs left : List Placed) (before : List ℕ) (all : Option (List ℕ × List Placed)) → Takes (in_run Text) w xs left → with_front before (plain_of xs) ≡ all → with_front (before ++ w) (plain_of left) ≡ all
plain_run [] xs left before all h same = rw (h, append-nil before) same
plain_run (c ∷ w) [] left before all h same = absurd h
plain_run (c ∷ w) (x ∷ xs) left before all h same =
    let no_close : begins_with (codes "]]>") (x ∷ xs) ≡ false = rw (h.0, text_no_close c h.1) refl in
    let turned = plain_turn (x ∷ xs) xs c before (before ++ c ∷ []) all no_close (one_is is_plain x xs c h.0 (text_char c h.1)) (encoded before c (run_ascii Text c h.1)) same in
    ap (λ (t : List ℕ). with_front t (plain_of left)) (sym (pushed before w c)) ∙ plain_run w xs left (before ++ c ∷ []) all h.2 turned

pub until_run : (d : ℕ) (v w : List ℕ) (xs left : List Placed) (before : List ℕ) (all : Option (List ℕ × List Placed)) → ((d == 45) || (d == 93) || (d == 63)) ≡ true → Takes (in_run Inner) w xs left → with_front before (until_of (d ∷ v) xs) ≡ all
    → with_front (before ++ w) (until_of (d ∷ v) left) ≡ all
until_run d v [] xs left before all e h same = rw (h, append-nil before) same
until_run d v (c ∷ w) [] left before all e h same = absurd h
until_run d v (c ∷ w) (x ∷ xs) left before all e h same =
    let no_close : begins_with (d ∷ v) (x ∷ xs) ≡ false = rw (h.0, inner_no_close c d e h.1) refl in
    let turned = until_turn (d ∷ v) (x ∷ xs) xs c before (before ++ c ∷ []) all no_close (one_is is_char x xs c h.0 (inner_char c h.1)) (encoded before c (run_ascii Inner c h.1)) same in
    ap (λ (t : List ℕ). with_front t (until_of (d ∷ v) left)) (sym (pushed before w c)) ∙ until_run d v w xs left (before ++ c ∷ []) all e h.2 turned

pub front_run : (w : List ℕ) (xs left : List Placed) → Takes (in_run Name) w xs left → (utf8 (front is_name_char xs) ≡ w ++ utf8 (front is_name_char left)) × (behind is_name_char xs ≡ behind is_name_char left)
unfolding front behind
front_run [] xs left h = rw h (refl, refl)
front_run (c ∷ w) [] left h = absurd h
front_run (c ∷ w) (x ∷ xs) left h =
    let more = front_run w xs left h.2 in
    rw (h.0, name_char c h.1, encode_ascii c (run_ascii Name c h.1)) (ap (λ (t : List ℕ). c ∷ t) more.0, more.1)

pub adds_behind : {A : Type 0} (result : Result (Unit {0}) SyntaxFault) (before w after : List A) (left : List Placed) (all rest : Option (List A × List Placed)) → ((v : List A) → with_front (v ++ w) rest ≡ with_front v all) → Adds result (before ++ w) after left rest → Adds result before after left all
adds_behind (Ok x) before w after left all rest same h = sym (same before) ∙ h
adds_behind (Err Memory) before w after left all rest same h = tt
adds_behind (Err Encoding) before w after left all rest same h = h
adds_behind (Err DocType) before w after left all rest same h = h
adds_behind (Err NotWellFormed) before w after left all rest same h = front_none [] all (sym (same []) ∙ ap (with_front w) h)

with_front_within : (piece before after : List ℕ) (left : List Placed) (read : Option (List ℕ × List Placed)) → with_front before read ≡ Some (after, left) → with_front (piece ++ before) read ≡ Some (piece ++ after, left)
with_front_within piece before after left None h = absurd cc
with_front_within piece before after left (Some x) h =
    ap (λ (t : List ℕ). Some (t, x.1)) (append_assoc piece before x.0) ∙ ap (λ (y : List ℕ × List Placed). Some (piece ++ y.0, y.1)) (some_is _ _ h)

-- what is added behind a piece that stays as it is
pub adds_within : (result : Result (Unit {0}) SyntaxFault) (piece before after : List ℕ) (left : List Placed) (read : Option (List ℕ × List Placed)) → Adds result before after left read → Adds result (piece ++ before) (piece ++ after) left read
adds_within (Ok x) piece before after left read h = with_front_within piece before after left read h
adds_within (Err e) piece before after left read h = h

pub plain_behind : (result : Result (Unit {0}) SyntaxFault) (w : List ℕ) (xs ys left : List Placed) (old mid new : List ℕ) → Takes (in_run Text) w xs ys → mid ≡ old ++ w → Adds result mid new left (plain_of ys) → Adds result old new left (plain_of xs)
plain_behind result w xs ys left old mid new h is adds =
    let P : List ℕ → Type 0 = λ v. Adds result v new left (plain_of ys) in
    adds_behind result old w new left (plain_of xs) (plain_of ys) (λ v. plain_run w xs ys v (with_front v (plain_of xs)) h refl) (subst P is adds)

pub until_more : (closing w : List ℕ) (xs left : List Placed) (before : List ℕ) (all : Option (List ℕ × List Placed)) → ends_inner closing ≡ true → Takes (in_run Inner) w xs left → with_front before (until_of closing xs) ≡ all → with_front (before ++ w) (until_of closing left) ≡ all
until_more [] w xs left before all e h same = absurd cc
until_more (d ∷ v) w xs left before all e h same = until_run d v w xs left before all e h same

pub until_behind : (result : Result (Unit {0}) SyntaxFault) (closing w : List ℕ) (xs ys left : List Placed) (old mid new : List ℕ) → ends_inner closing ≡ true → Takes (in_run Inner) w xs ys → mid ≡ old ++ w → Adds result mid new left (until_of closing ys) → Adds result old new left (until_of closing xs)
until_behind result closing w xs ys left old mid new e h is adds =
    let P : List ℕ → Type 0 = λ v. Adds result v new left (until_of closing ys) in
    adds_behind result old w new left (until_of closing xs) (until_of closing ys) (λ v. until_more closing w xs ys v (with_front v (until_of closing xs)) e h refl) (subst P is adds)

-- ---- a value

value_char : (q c : ℕ) → is_quote q ≡ true → in_run Value c ≡ true → is_value_char q c ≡ true
unfolding is_char
value_char q c e h = grind (arith, nat_tests)

value_no_quote : (q c : ℕ) → is_quote q ≡ true → in_run Value c ≡ true → (c == q) ≡ false
value_no_quote q c e h = grind (arith, nat_tests)

value_no_reference : (c : ℕ) → in_run Value c ≡ true → (c == 38) ≡ false
value_no_reference c h = grind (arith, nat_tests)

value_same : (c : ℕ) → in_run Value c ≡ true → value_code c ≡ c
value_same c h = grind (arith, nat_tests)

value_part : (q c : ℕ) (xs rest : List Placed) → begins 38 xs ≡ false → one_of (is_value_char q) xs ≡ Some (c, rest) → value_code c ≡ c → encode_utf8 c ≡ c ∷ [] → value_part_of q xs ≡ Some (c ∷ [], rest)
unfolding value_part_of
value_part q c xs rest e f g k = rw (e, f, g, k) refl

value_taken : (q c : ℕ) (x : Placed) (xs : List Placed) → is_quote q ≡ true → x.code ≡ c → in_run Value c ≡ true → value_part_of q (x ∷ xs) ≡ Some (c ∷ [], xs)
value_taken q c x xs e is h =
    value_part q c (x ∷ xs) xs (rw is (value_no_reference c h)) (one_is (is_value_char q) x xs c is (value_char q c e h)) (value_same c h) (encode_ascii c (run_ascii Value c h))

pub value_run : (q : ℕ) (w : List ℕ) (xs left : List Placed) (before : List ℕ) (all : Option (List ℕ × List Placed)) → is_quote q ≡ true → Takes (in_run Value) w xs left → ValueKeeps q before xs all → ValueKeeps q (before ++ w) left all
value_run q [] xs left before all e h kept = rw (h, append-nil before) kept
value_run q (c ∷ w) [] left before all e h kept = absurd h
value_run q (c ∷ w) (x ∷ xs) left before all e h kept =
    let no_end : begins q (x ∷ xs) ≡ false = rw h.0 (value_no_quote q c e h.1) in
    let turned = value_turn q before (before ++ c ∷ []) (x ∷ xs) xs all no_end kept (ap (with_front before) (value_taken q c x xs e h.0 h.1)) in
    let P : List ℕ → Type 0 = λ t. ValueKeeps q t left all in
    subst P (pushed before w c) (value_run q w xs left (before ++ c ∷ []) all e h.2 turned)

-- a run that a value begins with
pub value_behind : (q : ℕ) (w : List ℕ) (xs left : List Placed) (before all_before : List ℕ) → is_quote q ≡ true → Takes (in_run Value) w xs left → before ≡ [] → all_before ≡ before ++ w
    → ValueKeeps q all_before left (value_of q (length xs) xs)
value_behind q w xs left before all_before e h none is =
    let start : ValueKeeps q [] xs (value_of q (length xs) xs) = record { budget = length xs; enough = omega arith; same = no_front (value_of q (length xs) xs) } in
    let P : List ℕ → Type 0 = λ t. ValueKeeps q t left (value_of q (length xs) xs) in
    subst P (sym (is ∙ ap (λ (t : List ℕ). t ++ w) none)) (value_run q w xs left [] (value_of q (length xs) xs) e h start)

pub value_read : (q : ℕ) (before : List ℕ) (xs : List Placed) (all : Option (List ℕ × List Placed)) → begins q xs ≡ true → ValueKeeps q before xs all → all ≡ Some (before, behind_first xs)
value_read q before xs all e kept = let P : Option (List ℕ × List Placed) → Type 0 = λ o. ValueKeeps q before xs o in value_done q before [] xs all e refl (subst P (sym (no_front all)) kept)

pub value_stops : (fault : SyntaxFault) (q : ℕ) (before : List ℕ) (xs : List Placed) (all : Option (List ℕ × List Placed)) → begins q xs ≡ false → ValueKeeps q before xs all → Fails fault (value_part_of q xs) → Fails fault all
value_stops fault q before xs all e kept f = let P : Option (List ℕ × List Placed) → Type 0 = λ o. ValueKeeps q before xs o in value_fails fault q before [] xs all e (subst P (sym (no_front all)) kept) f

-- ---- a tag

tag_ascii : (c : ℕ) → begins_tag c ≡ true → c < 128
tag_ascii c h = grind (arith, nat_tests)

tag_no_return : (c : ℕ) → begins_tag c ≡ true → (c == 13) ≡ false
tag_no_return c h = grind (arith, nat_tests)

tag_no_mark : (c : ℕ) → begins_tag c ≡ true → (c == 33) ≡ false
tag_no_mark c h = grind (arith, nat_tests)

tag_no_question : (c : ℕ) → begins_tag c ≡ true → (c == 63) ≡ false
tag_no_question c h = grind (arith, nat_tests)

placed_tag : (at c : ℕ) (cs : List ℕ) → begins_tag c ≡ true → placed false at (60 ∷ (c ∷ cs)) ≡ record { code = 60; at = at } ∷ (record { code = c; at = at + 1 } ∷ placed false (at + 1 + len_utf8 c) cs)
placed_tag at c cs h = rw (tag_no_return c h, and_false (c == 10)) refl

tag_placed : (at c : ℕ) (bs : List ℕ) → begins_tag c ≡ true → IsTagNext (placed false at (chars (60 ∷ (c ∷ bs))))
tag_placed at c bs h =
    let is : placed false at (chars (60 ∷ (c ∷ bs))) ≡ record { code = 60; at = at } ∷ (record { code = c; at = at + 1 } ∷ placed false (at + 1 + len_utf8 c) (chars bs)) =
    ap (placed false at) (chars_ascii 60 (c ∷ bs) (omega arith) ∙ ap (λ (t : List ℕ). 60 ∷ t) (chars_ascii c bs (tag_ascii c h))) ∙ placed_tag at c (chars bs) h in
    subst IsTagNext (sym is) (refl, rw (tag_no_mark c h) refl, rw (tag_no_mark c h) refl, rw (tag_no_question c h) refl)

tag_next : (text : List ℕ) (at : ℕ) → IsTagBegin text → IsTagNext (placed false at (chars text))
tag_next [] at h = absurd h
tag_next (a ∷ []) at h = absurd h
tag_next (a ∷ (b ∷ bs)) at h = let P : ℕ → Type 0 = λ c. IsTagNext (placed false at (chars (c ∷ (b ∷ bs)))) in subst P (sym h.0) (tag_placed at b bs h.1)

pub sees_tag : (text octets : List ℕ) (at : ℕ) (xs : List Placed) → placed false at (chars text) ≡ xs → octets ≡ text → IsTagBegin octets → IsTagNext xs
sees_tag text octets at xs view same h = subst IsTagNext view (tag_next text at (subst IsTagBegin same h))

-- a small letter begins a name
small_starts : (c : ℕ) → is_between 97 122 c ≡ true → is_name_start c ≡ true
unfolding is_name_start
small_starts c h =
    in_later (one 58) (span 65 90 ∷ one 95 ∷ span 97 122 ∷ high_starts) c
    (in_later (span 65 90) (one 95 ∷ span 97 122 ∷ high_starts) c (in_later (one 95) (span 97 122 ∷ high_starts) c (in_first (span 97 122) high_starts c h)))

small_ascii : (c : ℕ) → is_between 97 122 c ≡ true → c < 128
small_ascii c h = grind (arith, nat_tests)

small_no_return : (c : ℕ) → is_between 97 122 c ≡ true → (c == 13) ≡ false
small_no_return c h = grind (arith, nat_tests)

small_next : (text : List ℕ) (at : ℕ) → BeginsSmall text → passes_next is_name_start (placed false at (chars text)) ≡ true
small_next [] at h = absurd h
small_next (c ∷ cs) at h = rw (chars_ascii c cs (small_ascii c h), small_no_return c h, and_false (c == 10)) (small_starts c h)

pub begins_small : (text octets : List ℕ) (at : ℕ) (xs : List Placed) → placed false at (chars text) ≡ xs → octets ≡ text → BeginsSmall octets
    → passes_next is_name_start xs ≡ true
begins_small text octets at xs view same h =
    subst (λ (t : List Placed). passes_next is_name_start t ≡ true) view (small_next text at (subst BeginsSmall same h))

pub tag_begin : (octets : List ℕ) → 2 ≤ length octets → get_or octets 0 0 ≡ 60 → begins_tag (get_or octets 1 0) ≡ true → IsTagBegin octets
tag_begin [] le a b = absurd (omega arith)
tag_begin (x ∷ []) le a b = absurd (omega arith)
tag_begin (x ∷ (y ∷ ys)) le a b = (a, b)

pub tag_is_no_text : (xs : List Placed) → IsTagNext xs → false ≡ text_follows xs
tag_is_no_text xs h = rw (h.0, h.1) refl

pub tag_is_markup : (xs : List Placed) → IsTagNext xs → markup_of xs ≡ tag_of xs
unfolding markup_of
tag_is_markup xs h = rw (h.2, h.3) refl

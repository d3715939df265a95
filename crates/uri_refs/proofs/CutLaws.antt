-- Prefixes and segments of texts.
use Rattle.std.proofs.Common.{◌≡◌, ◌∙◌, ◌<◌, ℕ, ◌+◌, ◌-◌, true, false, List, [], ◌∷◌, ◌++◌, length, length-drop, take, drop, Option, Some, None, refl, ap, sym, arith}
use Rattle.std.specs.Prelude.{All, MatchOption, bytes_eq}
use Rattle.std.specs.Borrow.{Bor}
use Rattle.std.specs.Option.{option_copied}
use Rattle.std.specs.Str.Pattern.{FindsTextPrefix, StripsPrefix}
use Rattle.std.specs.List.{position_or_len}
use Rattle.std.proofs.lemmas.List.{take_all, take_at, take-append-drop}
use Rattle.std.proofs.lemmas.List.Sums.{fails_before_first}
use Rattle.std.proofs.lemmas.List.Splits.{slice_split_first, slice_split_none, length-slice_split}
use Rattle.std.proofs.lemmas.List.Elements.{All-from_get_or}
use Rattle.std.proofs.lemmas.Slice.Eq.{bytes_eq-Decides}
use Rattle.sig_base.proofs.MethodLemmas.{differ}
use Rattle.uri_refs.specs.Cuts.{behind, is_slash, segments}

-- a prefix that is found is the first part of the text
pub behind_by : (prefix text : List ℕ) (r : Option (Bor (List ℕ)))
    → MatchOption r (FindsTextPrefix prefix text None) (λ x. StripsPrefix (FindsTextPrefix prefix) text x.now)
    → option_copied r ≡ behind prefix text
behind_by prefix text None lacks =
    let no : bytes_eq prefix (take (length prefix) text) ≡ false =
    differ prefix (take (length prefix) text) (λ e. lacks (drop (length prefix) text) (sym (take-append-drop (length prefix) text) ∙ ap (λ (t : List ℕ). t ++ drop (length prefix) text) (sym e))) in
    rw no refl
behind_by prefix text (Some x) (n, (count, whole, boundary), rest, size) =
    let cut : text ≡ prefix ++ drop (length prefix) text = rw count at whole in
    let front : take (length prefix) text ≡ prefix = ap (take (length prefix)) cut ∙ take_at prefix (drop (length prefix) text) (length prefix) refl in
    let yes : bytes_eq prefix (take (length prefix) text) ≡ true = (bytes_eq-Decides prefix (take (length prefix) text)).1 (sym front) in
    rw yes (ap Some (rest ∙ ap (λ (k : ℕ). drop k text) count))

-- a path without a slash is one segment
pub one_segment : (path : List ℕ) (end : ℕ) → end ≡ position_or_len is_slash path → end ≡ length path → segments path ≡ path ∷ []
one_segment path end place all =
    let none : All (λ (b : ℕ). is_slash b ≡ false) path = All-from_get_or (λ (b : ℕ). is_slash b ≡ false) path 0 (λ i l. fails_before_first is_slash path i 0 (omega arith)) in
    slice_split_none is_slash path none

-- the first segment of another path
pub segments_cut : (path : List ℕ) (end : ℕ) → end ≡ position_or_len is_slash path → end < length path
    → segments path ≡ take end path ∷ segments (take (length path - (end + 1)) (drop (end + 1) path))
segments_cut path end place short =
    let size = length-drop (end + 1) path in
    let rest : take (length path - (end + 1)) (drop (end + 1) path) ≡ drop (end + 1) path = take_all (length path - (end + 1)) (drop (end + 1) path) (omega arith) in
    rw (rest, place) (slice_split_first is_slash path 0 (rw place at short))

-- there is always a segment
pub some_segment : (path : List ℕ) → 0 < length (segments path)
some_segment path = let count = length-slice_split is_slash path in omega (arith, count)

use Rattle.std.proofs.Common.{◌≡◌, ◌+◌, ◌-◌, ◌*◌, ◌++◌, ℕ, Bool, true, false, cond, List, [], length, take, drop, refl, ap, sym, ◌∙◌, arith, length-append}
use Rattle.std.specs.Prelude.{codes}
use Rattle.std.proofs.lemmas.List.{drop-drop}
use mir.Val.{bool_byte}
use Rattle.c14n_bases.specs.Join.{is_absolute, clean, base_path, last_segment, scheme_octets, authority_octets}
use Rattle.c14n_bases.specs.Code.Slices.{parts_of}
use Rattle.c14n_bases.specs.Code.Below.{slashed, names_below, upwards_below}
use Rattle.c14n_bases.proofs.SegmentLemmas.{rest_whole}
use Rattle.c14n_bases.proofs.LengthLemmas.{clean-most}
use Rattle.c14n_bases.proofs.ClimbLemmas.{climbs-once}
use Rattle.c14n_bases.proofs.BelowLemmas.{path-text, rest-begins, starts-below}
use Rattle.c14n_bases.proofs.prepare.push_names.Goals as goal
use Rattle.c14n_bases.proofs.prepare.push_names.Goals.{After-count_upwards-upwards}

root_byte : (b : Bool) → bool_byte b ≡ length (cond b (codes "/") [])
root_byte true = refl
root_byte false = refl

pub push_starts-requires-clause-room : goal.push_starts-requires-clause-room
push_starts-requires-clause-room c =
    let b = parts_of c.args.base in
    let roots = scheme_octets b.scheme ++ authority_octets b.authority in
    let n = ap (length {A = ℕ}) c.requires.text in
    let m = length-append (roots ++ clean b.path) [] in
    let k = length-append roots (clean b.path) in
    let most = clean-most b.path in
    let at = c.requires.roots in
    let room = c.requires.room in
    omega arith

first_is : (c : After-count_upwards-upwards) → c.args.roots + c.from.result ≡ length (scheme_octets (parts_of c.args.base).scheme ++ authority_octets (parts_of c.args.base).authority) + length (cond (is_absolute (parts_of c.args.base).path) (codes "/") [])
first_is c =
    let e = c.from.ensures ∙ ap bool_byte c.is_absolute.ensures ∙ root_byte (is_absolute c.args.base.path.now) in
    let r = c.requires.roots in
    omega arith

once : (c : After-count_upwards-upwards) → (c.count_upwards-upwards.result ≡ upwards_below (parts_of c.args.base))
    × (drop (c.args.roots + c.from.result + 3 * c.count_upwards-upwards.result) c.args.text.now ≡ slashed (names_below (parts_of c.args.base)) ++ last_segment (base_path (parts_of c.args.base).path))
once c =
    let b = parts_of c.args.base in let text = c.args.text.now in let u = c.count_upwards-upwards.result in
    let first = c.args.roots + c.from.result in
    let e = path-text b text first c.requires.text (first_is c) in
    let both = climbs-once u (upwards_below b) (drop (3 * u) (take (length text - first) (drop first text))) (slashed (names_below b) ++ last_segment (base_path b.path))
    c.count_upwards-upwards.ensures.all (rest-begins b) (sym c.count_upwards-upwards.ensures.climbs ∙ rest_whole first text ∙ e) in
    (both.0, sym (drop-drop (3 * u) first text) ∙ ap (drop (3 * u)) (sym (rest_whole first text)) ∙ both.1)

pub returns-clause-upwards : goal.returns-clause-upwards
returns-clause-upwards c = (once (goal.at.returns-clause-upwards c).After-count_upwards-upwards).0

pub returns-clause-items : goal.returns-clause-items
returns-clause-items c =
    let b = parts_of c.args.base in let text = c.args.text.now in let u = c.count_upwards-upwards.result in
    let first = c.args.roots + c.from.result in
    let there = (goal.at.returns-clause-items c).After-count_upwards-upwards in
    c.push_starts.ensures.items ∙ ap (λ (l : List ℕ). c.args.starts.now.items ++ l) (starts-below b first u (first + 3 * u) text (once there).0 refl (first_is there) (once there).1)

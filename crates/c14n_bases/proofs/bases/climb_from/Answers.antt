use Rattle.std.proofs.Common.{◌≡◌, ◌+◌, ◌-◌, ◌≤◌, ℕ, List, length, take, drop, get_or, ap, ◌∙◌, arith}
use Rattle.std.specs.Prelude.{cond, codes, false}
use Rattle.c14n_bases.specs.Join.{Parts, begins}
use Rattle.c14n_bases.specs.Code.Climbs.{Climbs}
use Rattle.c14n_bases.specs.Code.Below.{names_below, slashed, IsKnown}
use Rattle.c14n_bases.proofs.BelowLemmas.{length-below, below-slice, upwards-first, climb-is, names-apart}
use Rattle.c14n_bases.proofs.bases.climb_from.Goals as goal
use Rattle.c14n_bases.proofs.bases.climb_from.Goals.{Start, After-min-met}

some : (c : Start) → length c.args.starts.now ≡ length (names_below c.requires.known.0) + 1
some c = ap (length {A = ℕ}) c.requires.known.1.starts ∙ length-below c.requires.known.0

pub overflow_sub-names : goal.overflow_sub-names
overflow_sub-names c = let n = some (goal.at.overflow_sub-names c).Start in omega arith

pub upwards_left-requires : goal.upwards_left-requires
upwards_left-requires c =
    let known = c.requires.known.1 in
    let first = upwards-first c.requires.known.0 c.args.starts.now known.starts in
    let is = known.shape.upwards in
    let fits = c.type_inv.starts 0 in
    let few = c.requires.few in
    omega arith

pub bounds-starts-0 : goal.bounds-starts-0
bounds-starts-0 c = let n = some (goal.at.bounds-starts-0 c).Start in omega arith

pub bounds-starts-names : goal.bounds-starts-names
bounds-starts-names c = let n = some (goal.at.bounds-starts-names c).Start in omega arith

slice : (c : After-min-met) (b : Parts) → IsKnown b c.args.shape c.args.text.now c.args.starts.now
    → (take (get_or c.args.starts.now (length c.args.starts.now - 1 - c.min-met.result) 0 - get_or c.args.starts.now 0 0) (drop (get_or c.args.starts.now 0 0) c.args.text.now)
    ≡ slashed (take (length c.args.starts.now - 1 - c.min-met.result) (names_below b)))
    × (get_or c.args.starts.now (length c.args.starts.now - 1 - c.min-met.result) 0 ≤ length c.args.text.now)
    × (get_or c.args.starts.now 0 0 ≤ get_or c.args.starts.now (length c.args.starts.now - 1 - c.min-met.result) 0)
slice c b known =
    let n = ap (length {A = ℕ}) known.starts ∙ length-below b in
    below-slice b c.args.starts.now c.args.text.now (length c.args.starts.now - 1 - c.min-met.result) known.starts known.text (omega arith)

pub slice_bounds-result-count : goal.slice_bounds-result-count
slice_bounds-result-count c = (slice (goal.at.slice_bounds-result-count c).After-min-met c.requires.known.0 c.requires.known.1).2

pub slice_bounds-result-start : goal.slice_bounds-result-start
slice_bounds-result-start c =
    let s = slice (goal.at.slice_bounds-result-start c).After-min-met c.requires.known.0 c.requires.known.1 in
    let a = s.1 in let b = s.2 in omega arith

pub slice_bounds-result-end : goal.slice_bounds-result-end
slice_bounds-result-end c =
    let s = slice (goal.at.slice_bounds-result-end c).After-min-met c.requires.known.0 c.requires.known.1 in
    let a = s.1 in let b = s.2 in omega arith

pub returns-clause-joins : goal.returns-clause-joins
returns-clause-joins c = λ (b : Parts) (known : IsKnown b c.args.shape c.args.text.now c.args.starts.now) (path rest : List ℕ) (climbs : Climbs path c.args.ups rest).
    let s = slice (goal.at.returns-clause-joins c).After-min-met b known in
    let n = ap (length {A = ℕ}) known.starts ∙ length-below b in
    let met = c.min-met.ensures in
    let j = length c.args.starts.now - 1 - c.min-met.result in
    let left : c.args.ups - c.min-met.result ≡ c.args.ups - length (names_below b) = omega arith in
    let up = c.upwards_left.ensures ∙ ap (λ (k : ℕ). cond c.args.shape.absolute 0 (c.args.shape.upwards + k)) left in
    climb-is b c.args.shape.absolute c.args.shape.upwards c.upwards_left.result c.args.ups j
    (take (get_or c.args.starts.now j 0 - get_or c.args.starts.now 0 0) (drop (get_or c.args.starts.now 0 0) c.args.text.now)) path rest
    known.shape.absolute known.shape.upwards up (omega arith) s.0 climbs

pub returns-clause-all : goal.returns-clause-all
returns-clause-all c = λ (rest : List ℕ) (f : begins (codes "../") rest ≡ false).
    let b = c.requires.known.0 in
    let s = slice (goal.at.returns-clause-all c).After-min-met b c.requires.known.1 in
    let j = length c.args.starts.now - 1 - c.min-met.result in
    names-apart b j (take (get_or c.args.starts.now j 0 - get_or c.args.starts.now 0 0) (drop (get_or c.args.starts.now 0 0) c.args.text.now)) rest s.0 f

use Rattle.std.proofs.Common.{◌≡◌, sym, ap, ◌∙◌, ◌-◌, ◌++◌, ◌∷◌, [], length, arith}
use Rattle.std.specs.Prelude.{Err}
use Rattle.std.proofs.lemmas.Bool.{eq-eqb, ne_eqb}
use Rattle.std.proofs.lemmas.List.{length_push}
use Rattle.std.proofs.lemmas.Result.{err_from_is_err_and}
use Rattle.dsig_fields.proofs.ManyLaws.{turn, turn_refused, no_room, next_refused, last}
use Rattle.dsig_fields.proofs.NextLaws.{optional_shorter}
use Rattle.dsig_fields.proofs.Refusals.{refuses}
use Rattle.dsig_fields.proofs.repeated.read_more.Goals as goal

pub returns-in_err-y : goal.returns-in_err-y
returns-in_err-y g c =
    let kind = g.T.Repeated in
    let rows = c.args.doc.now in
    let members = c.loop-y.members in
    let p = err_from_is_err_and c.from_residual.result c.from_residual.ensures.1 in
    rw (p.1, p.2, ← c.loop-y.invariant)
    (next_refused kind.excess rows kind.NAME (kind.outcome rows) (kind.LIMIT - length members) members c.loop-y.children _ (rw c.NAME.ensures at c.in_err-y.ensures.reads))

pub returns-then-len-LIMIT : goal.returns-then-len-LIMIT
returns-then-len-LIMIT g c =
    let kind = g.T.Repeated in
    let rows = c.args.doc.now in
    let members = c.loop-y.members in
    let none : kind.LIMIT - length members ≡ 0 = omega arith in
    rw (← c.loop-y.invariant)
    (refuses _ _ (no_room kind.excess rows kind.NAME (kind.outcome rows) (kind.LIMIT - length members) members c.loop-y.children _ c.in-Some.y (rw (c.NAME.ensures, c.in-Some.is) at c.in_ok-y.ensures.reads) (eq-eqb _ _ none) ∙ ap Err (sym c.too_many.ensures)))

pub returns-in_err-read : goal.returns-in_err-read
returns-in_err-read g c =
    let kind = g.T.Repeated in
    let rows = c.args.doc.now in
    let members = c.loop-y.members in
    let p = err_from_is_err_and c.from_residual-in_err-read.result c.from_residual-in_err-read.ensures.1 in
    let some : kind.LIMIT - length members ≡ 0 → ⊥ = λ e. omega arith in
    rw (p.1, p.2, ← c.loop-y.invariant)
    (turn_refused kind.excess rows kind.NAME (kind.outcome rows) (kind.LIMIT - length members) members c.loop-y.children _ c.in-Some.y (rw (c.NAME.ensures, c.in-Some.is) at c.in_ok-y.ensures.reads) (ne_eqb _ _ some) _ c.in_err-read.ensures)

pub loop-y-smaller : goal.loop-y-smaller
loop-y-smaller g c = optional_shorter c.args.doc.now _ c.loop-y.children _ _ (rw c.in-Some.is at c.in_ok-y.ensures.reads)

pub loop-y-preserved : goal.loop-y-preserved
loop-y-preserved g c =
    let kind = g.T.Repeated in
    let rows = c.args.doc.now in
    let members = c.loop-y.members in
    let some : kind.LIMIT - length members ≡ 0 → ⊥ = λ e. omega arith in
    let one_less : kind.LIMIT - length (members ++ c.in_ok-read.field-0 ∷ []) ≡ kind.LIMIT - length members - 1 = omega (arith, length_push members c.in_ok-read.field-0) in
    rw (c.in_ok-push.ensures.ok, one_less, ← c.loop-y.invariant)
    (turn kind.excess rows kind.NAME (kind.outcome rows) (kind.LIMIT - length members) members c.loop-y.children _ c.in-Some.y (rw (c.NAME.ensures, c.in-Some.is) at c.in_ok-y.ensures.reads) (ne_eqb _ _ some) _ c.in_ok-read.ensures)

pub returns : goal.returns
returns g c =
    let kind = g.T.Repeated in
    let rows = c.args.doc.now in
    let members = c.loop-y.members in
    rw (← c.loop-y.invariant)
    (last kind.excess rows kind.NAME (kind.outcome rows) (kind.LIMIT - length members) members c.loop-y.children _ (rw (c.NAME.ensures, c.in_default.is) at c.in_ok-y.ensures.reads))

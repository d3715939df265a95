use Rattle.std.proofs.Common.{◌≡◌, ◌+◌, ℕ, length, ap, sym, ◌∙◌, arith, subst}
use Rattle.std.specs.Prelude.{IfOk}
use Rattle.c14n_rows.specs.Joined.{weights}
use Rattle.c14n_rows.specs.Code.Joined.{if_base}
use Rattle.c14n_rows.proofs.BaseLemmas.{base_here, no_base_here}
use Rattle.c14n_rows.proofs.renderer.count_value.Goals as goal

pub returns-then-is_base : goal.returns-then-is_base
returns-then-is_base c =
    let rows = c.args.doc.now in
    let w = ap (weights rows) (base_here rows c.args.a (sym c.is_base.ensures ∙ c.if-is_base.true)) in
    let v = ap (length {A = ℕ}) c.value.ensures in
    let e : length c.value.result.now + 4 ≡ weights rows (if_base rows c.args.a) = omega arith in
    let P : ℕ → Type 0 = λ n. IfOk c.add.result (λ m. m ≡ n) in
    subst P e c.add.ensures

pub returns-else-is_base : goal.returns-else-is_base
returns-else-is_base c = sym (ap (weights c.args.doc.now) (no_base_here c.args.doc.now c.args.a (sym c.is_base.ensures ∙ c.if-is_base.false)))

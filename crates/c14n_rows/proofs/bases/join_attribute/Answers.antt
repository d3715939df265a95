use Rattle.std.proofs.Common.{ℕ, Option, length, ap, sym, ◌∙◌, arith}
use Rattle.c14n_bases.proofs.LengthLemmas.{join_length}
use Rattle.c14n_text.specs.Bases.{with_bases}
use Rattle.c14n_rows.specs.Joined.{weights}
use Rattle.c14n_rows.specs.Code.Joined.{with_value, filled}
use Rattle.c14n_rows.proofs.BaseLemmas.{base_here, no_base_here}
use Rattle.c14n_rows.proofs.bases.join_attribute.Goals as goal

pub returns-then-not-is_base-clause-value : goal.returns-then-not-is_base-clause-value
returns-then-not-is_base-clause-value c =
    sym (ap (with_bases c.args.doc.now (with_value c.args.place c.args.own.now.value)) (no_base_here c.args.doc.now c.args.a (sym c.if-not-is_base.ensures)))

pub returns-in-Some-clause-few : goal.returns-in-Some-clause-few
returns-in-Some-clause-few c =
    let rows = c.args.doc.now in let a = c.args.a in
    let w = ap (weights rows) (base_here rows a (sym c.if-not-is_base.ensures)) in
    let f = ap (λ (o : Option ℕ). filled o c.args.own.now.value) c.in-Some.is in
    let v = ap (length {A = ℕ}) (c.as_bytes-value.ensures.value ∙ c.value.ensures) in
    let n = ap (length {A = ℕ}) c.join_below.ensures.value in
    let few = join_length c.as_bytes-value.result.now c.args.own.now.value in
    omega arith

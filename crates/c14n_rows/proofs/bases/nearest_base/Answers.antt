use Rattle.std.proofs.Common.{◌≡◌, ℕ, List, length, take, true, false, refl, ap, sym, ◌∙◌, arith}
use Rattle.std.specs.Prelude.{slice_get}
use Rattle.std.proofs.lemmas.Bool.{eqb-false}
use Rattle.std.proofs.lemmas.List.{take_all}
use Rattle.xml_doc.specs.Kinds.{is_element}
use Rattle.c14n_text.specs.Rows.{kind_of}
use Rattle.c14n_rows.specs.Code.Stacks.{run_on}
use Rattle.c14n_rows.proofs.StackLemmas.{when_empty}
use Rattle.c14n_rows.proofs.BaseLemmas.{run-more, run-stops}
use Rattle.c14n_rows.proofs.bases.nearest_base.Goals as goal

pub returns-then-is_empty-clause-nearest : goal.returns-then-is_empty-clause-nearest
returns-then-is_empty-clause-nearest c =
    let rows = c.args.doc.now in
    sym (ap (λ (l : List ℕ). slice_get (run_on rows l) 0) (when_empty c.args.runs.now (sym c.is_empty.ensures ∙ c.if-is_empty.true)))

pub returns-then-is_element-clause-nearest : goal.returns-then-is_element-clause-nearest
returns-then-is_element-clause-nearest c =
    let rows = c.args.doc.now in let runs = c.args.runs.now in let n = length runs in
    let some = eqb-false (length runs) 0 (sym c.is_empty.ensures ∙ c.if-is_empty.false) in
    let all : take n runs ≡ runs = take_all n runs (omega arith) in
    let outer : is_element (kind_of rows _) ≡ true = ap is_element (sym c.kind.ensures) ∙ sym c.is_element.ensures ∙ c.if-is_element.true in
    let none = run-stops rows runs n _ (omega arith) (omega arith) refl outer in
    sym (ap (λ (l : List ℕ). slice_get (run_on rows l) 0) (sym all) ∙ ap (λ (l : List ℕ). slice_get l 0) none)

pub returns-else-is_element-clause-nearest : goal.returns-else-is_element-clause-nearest
returns-else-is_element-clause-nearest c =
    let rows = c.args.doc.now in let runs = c.args.runs.now in let n = length runs in
    let some = eqb-false (length runs) 0 (sym c.is_empty.ensures ∙ c.if-is_empty.false) in
    let all : take n runs ≡ runs = take_all n runs (omega arith) in
    let inner : is_element (kind_of rows _) ≡ false = ap is_element (sym c.kind.ensures) ∙ sym c.is_element.ensures ∙ c.if-is_element.false in
    let more = run-more rows runs n _ (omega arith) (omega arith) refl inner in
    sym (ap (λ (l : List ℕ). slice_get (run_on rows l) 0) (sym all) ∙ ap (λ (l : List ℕ). slice_get l 0) more)

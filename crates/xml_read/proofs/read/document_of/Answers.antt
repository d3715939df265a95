use Rattle.std.proofs.Common.{◌∙◌, ap, subst, sym, arith, length, [], Ok, Err}
use Rattle.xml_syntax.specs.Seen.{seen_all}
use Rattle.xml_resolve.specs.Resolve.{resolve}
use Rattle.xml_read.specs.ReadOutcome.{Answers, resolved_outcome}
use Rattle.xml_read.specs.declared.read.ReadRefusal.{ReadRefusal}
use Rattle.xml_resolve.proofs.ShapedLaws.{rows_shaped}
use Rattle.xml_read.proofs.Outcomes.{resolves, all_rows, row_refused}
use Rattle.xml_read.proofs.read.document_of.Goals as goal

pub from_rows-requires-clause-few : goal.from_rows-requires-clause-few
from_rows-requires-clause-few c =
    let r = resolves c.requires.tree (c.in-Ok.ensures.tree c.requires.tree (ap seen_all c.deref.ensures.value ∙ c.requires.are)) in
    let b = c.in-Ok-build_rows.ensures.tree c.requires.tree r.resolved c.requires.are r.is in
    let e = ap length b.0 in
    let few = b.1 in
    omega (arith, e, few)

pub from_rows-requires-clause-shaped : goal.from_rows-requires-clause-shaped
from_rows-requires-clause-shaped c =
    let r = resolves c.requires.tree (c.in-Ok.ensures.tree c.requires.tree (ap seen_all c.deref.ensures.value ∙ c.requires.are)) in
    let b = c.in-Ok-build_rows.ensures.tree c.requires.tree r.resolved c.requires.are r.is in
    rw b.0 (rows_shaped c.requires.tree r.resolved c.requires.whole r.is)

pub returns-in-Ok-build_rows : goal.returns-in-Ok-build_rows
returns-in-Ok-build_rows c = λ t told.
    let r = resolves t (c.in-Ok.ensures.tree t (ap seen_all c.deref.ensures.value ∙ told)) in
    let b = c.in-Ok-build_rows.ensures.tree t r.resolved told r.is in
    let d = c.depth_of.ensures.tree t (ap seen_all c.deref-2.ensures.value ∙ told) in
    let shallow = c.if-depth_of-gt-DEPTH_LIMIT.false in
    all_rows t r.resolved r.is (omega (arith, d, shallow)) b.1 ∙ ap Ok (sym b.0 ∙ sym c.from_rows.ensures)

pub returns-in-Err : goal.returns-in-Err
returns-in-Err c = λ t told.
    let r = resolves t (c.in-Ok.ensures.tree t (ap seen_all c.deref.ensures.value ∙ told)) in
    let d = c.depth_of.ensures.tree t (ap seen_all c.deref-2.ensures.value ∙ told) in
    let shallow = c.if-depth_of-gt-DEPTH_LIMIT.false in
    let refused = row_refused c.in-Err.fault t r.resolved r.is (omega (arith, d, shallow)) (c.in-Err.ensures.tree t r.resolved told r.is) in
    subst (λ (e : ReadRefusal). Answers (Err e) (resolved_outcome t (resolve [] t))) (sym c.row_refusal.ensures) refused

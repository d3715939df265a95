use Rattle.std.proofs.Common.{◌≡◌, ℕ, ◌<◌, ◌≤◌, ◌+◌, ◌&&◌, ◌||◌, Bool, List, cond, length, refl, ap, sym, subst, ◌∙◌, arith}
use Rattle.xml_doc.specs.Rows.{RowOf}
use Rattle.xml_doc.specs.Shape.{IsWellShaped, row_at}
use Rattle.node_sets.specs.Members.{has, in_subtree}
use Rattle.filter2.specs.Code.Covered.{Reached, covered}
use Rattle.filter2.proofs.CoveredLemmas.{or-false, reached-begin, reached-passed, walked-past, walked-on, reached-on}
use Rattle.filter2.proofs.filters.expand.Goals as goal
use Rattle.filter2.proofs.filters.expand.Goals.{then-i-until, else-i-until}

pub loop-i-init : goal.loop-i-init
loop-i-init c =
    let w : IsWellShaped c.args.nodes.now.rows = subst IsWellShaped c.doc-doc.ensures c.rows-i-end.ensures.shaped in
    record { rows = refl; members = λ (k : ℕ). sym (or-false (has c.args.nodes.now.members k)); reached = reached-begin c.args.nodes.now.rows w (has c.args.nodes.now.members) }

pub loop-i-preserved : goal.loop-i-preserved
loop-i-preserved c =
    let rows = c.args.nodes.now.rows in let nodes = has c.args.nodes.now.members in let i = c.loop-i.i in let until = c.loop-i.until in
    let inv = c.loop-i.invariant in
    let w : IsWellShaped rows = subst IsWellShaped c.doc-doc.ensures c.rows-i-end.ensures.shaped in
    let lt : i < length rows = let e = ap length c.doc-doc.ensures in let n = c.rows-i-end.ensures.count in let t = c.loop-i-test.true in omega arith in
    elim c.if-i-until.branch [
      | then-i-until b ↦
          let change = λ (k : ℕ). b.expand_row-until.ensures.members.members k ∙ ap (λ (rs : List RowOf). (has c.loop-i.nodes.members i && in_subtree rs i k) || has c.loop-i.nodes.members k) inv.rows in
          let behind = b.expand_row-until.ensures.until ∙ ap (λ (rs : List RowOf). cond (has c.loop-i.nodes.members i) ((row_at rs i).last + 1) until) inv.rows in
          rw (b.nodes-is, b.until-is) (record {
            rows = b.expand_row-until.ensures.members.rows ∙ inv.rows;
            members = walked-on rows w nodes (has c.loop-i.nodes.members) (has b.expand_row-until.new.nodes.members) i until lt inv.reached inv.members b.if-i-until.true change;
            reached = reached-on rows w nodes (has c.loop-i.nodes.members) (has b.expand_row-until.new.nodes.members) i until lt inv.reached inv.members b.expand_row-until.result b.if-i-until.true behind;
          })
      | else-i-until b ↦
          rw (b.nodes-is, b.until-is) (record {
            rows = inv.rows;
            members = walked-past rows w nodes (has c.loop-i.nodes.members) (has c.loop-i.nodes.members) i until lt inv.reached inv.members b.if-i-until.false;
            reached = reached-passed rows w nodes i until inv.reached lt b.if-i-until.false;
          })
    ]

pub returns : goal.returns
returns c =
    let rows = c.args.nodes.now.rows in let nodes = has c.args.nodes.now.members in let inv = c.loop-i.invariant in
    let at_end : c.loop-i.i ≡ length rows = let e = ap length c.doc-doc.ensures in let n = c.rows-i-end.ensures.count in let t = c.loop-i-test.false in let b = c.loop-i.auto.i-end in omega arith in
    record { members = λ (k : ℕ). inv.members k ∙ ap (λ (n : ℕ). nodes k || covered rows nodes n k) at_end; rows = inv.rows }

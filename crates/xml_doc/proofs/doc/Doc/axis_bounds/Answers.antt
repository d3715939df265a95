use Rattle.std.proofs.Common.{◌<◌, ◌≤◌, ◌+◌, arith}
use Rattle.xml_doc.specs.Shape.{row_at}
use Rattle.xml_doc.proofs.AxisLemmas.{no_child_before, no_ancestor_behind, no_following_before, no_preceding_before, no_preceding_behind}
use Rattle.xml_doc.proofs.FieldLemmas.{no_namespace_before, no_namespace_behind}
use Rattle.xml_doc.proofs.doc.Doc.axis_bounds.Goals as goal

pub returns-in-Child-clause-before : goal.returns-in-Child-clause-before
returns-in-Child-clause-before c = λ z h l. rw c.in-Child.is (no_child_before c.args.self.now c.rows-count.ensures.shaped c.args.x z c.requires l)

pub returns-in-Some-parent-clause-behind : goal.returns-in-Some-parent-clause-behind
returns-in-Some-parent-clause-behind c = λ z h l.
    let k : (row_at c.args.self.now c.args.x).parent + 1 ≤ z = (let e = c.in-Some-parent.ensures.value.2 in omega arith) in
    rw c.in-Ancestor.is (no_ancestor_behind c.args.self.now c.rows-count.ensures.shaped c.args.x z c.requires k)

pub returns-in-Some-parent-2-clause-before : goal.returns-in-Some-parent-2-clause-before
returns-in-Some-parent-2-clause-before c = λ z h l.
    let k : z < (row_at c.args.self.now c.args.x).last + 1 = (let e = c.behind-in-Some-parent-2.ensures.value in omega arith) in
    rw c.in-FollowingSibling.is (no_following_before c.args.self.now c.rows-count.ensures.shaped c.args.x z c.requires k)

pub returns-in-Some-parent-3-clause-before : goal.returns-in-Some-parent-3-clause-before
returns-in-Some-parent-3-clause-before c = λ z h l.
    let k : z < (row_at c.args.self.now c.args.x).parent + 1 = (let e = c.in-Some-parent-3.ensures.value.2 in omega arith) in
    rw c.in-PrecedingSibling.is (no_preceding_before c.args.self.now c.rows-count.ensures.shaped c.args.x z c.requires k)

pub returns-in-Preceding-clause-behind : goal.returns-in-Preceding-clause-behind
returns-in-Preceding-clause-behind c = λ z h l. rw c.in-Preceding.is (no_preceding_behind c.args.self.now c.rows-count.ensures.shaped c.args.x z h l)

pub returns-in-Namespace-clause-before : goal.returns-in-Namespace-clause-before
returns-in-Namespace-clause-before c = λ z h l. rw c.in-Namespace.is (no_namespace_before c.args.self.now c.rows-count.ensures.shaped c.args.x z c.requires l)

pub returns-in-Namespace-clause-behind : goal.returns-in-Namespace-clause-behind
returns-in-Namespace-clause-behind c = λ z h l. rw c.in-Namespace.is (no_namespace_behind c.args.self.now c.rows-count.ensures.shaped c.args.x c.namespaces_end.result c.requires c.namespaces_end.ensures z h l)

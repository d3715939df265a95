use Rattle.std.proofs.Common.{◌≡◌, ℕ, ◌+◌, ◌-◌, length, ap, sym, ◌∙◌, arith}
use Rattle.std.proofs.lemmas.List.FromFn.{length-range_with_len}
use Rattle.node_sets.specs.View.{in_view}
use Rattle.xml_doc.proofs.Ranges.{numbers, numbers-end}
use Rattle.c14n_rows.specs.Code.Utilized.{marks_of}
use Rattle.c14n_rows.proofs.UtilizedLemmas.{marks-begin, marks-length, numbers-last}
use Rattle.c14n_rows.proofs.utilized.mark_attributes.Goals as goal

pub unmark-requires : goal.unmark-requires
unmark-requires c =
    let n = ap (length {A = ℕ}) c.own_rows-own.ensures.namespaces in
    let l = length-range_with_len (c.args.e + 1) (c.own_rows-own.result.first_attribute - (c.args.e + 1)) in
    let room = c.requires.room in
    omega arith

pub loop-a-init : goal.loop-a-init
loop-a-init c =
    let rows = c.args.doc.now in let set = in_view c.args.set in let own = c.own_rows-own.ensures in let fin = c.own_rows-own.result.first_attribute in
    record {
      marked = c.unmark.ensures.items ∙ marks-begin rows set c.args.e fin own.namespaces _ (omega arith) ∙ ap (marks_of rows set c.args.e) (sym (numbers-end fin fin (omega arith)));
      kept = c.unmark.ensures.capacity;
    }

pub mark_attribute-requires-clause-marks : goal.mark_attribute-requires-clause-marks
mark_attribute-requires-clause-marks c =
    marks-length c.args.doc.now (in_view c.args.set) c.args.e c.own_rows-own.result.first_attribute c.own_rows-own.ensures.namespaces c.loop-a.marks.items _ c.loop-a.invariant.marked

pub loop-a-preserved : goal.loop-a-preserved
loop-a-preserved c =
    let fin = c.own_rows-own.result.first_attribute in
    record {
      marked = c.mark_attribute.ensures.marked (numbers fin c.loop-a.a) c.loop-a.invariant.marked
          ∙ ap (marks_of c.args.doc.now (in_view c.args.set) c.args.e) (numbers-last fin c.loop-a.a (omega (arith, c.loop-a.auto.a)));
      kept = let k = c.loop-a.invariant.kept in let m = c.mark_attribute.ensures.capacity in omega arith;
    }

pub returns-clause-marked : goal.returns-clause-marked
returns-clause-marked c =
    let own = c.own_rows-own.ensures in let fin = c.own_rows-own.result.first_attribute in let ordered = own.ordered in
    let at_end : c.loop-a.a ≡ c.own_rows-own.result.first_child = omega (arith, c.loop-a-test.false, c.loop-a.auto.a-end) in
    c.loop-a.invariant.marked ∙ ap (marks_of c.args.doc.now (in_view c.args.set) c.args.e) (ap (numbers fin) at_end ∙ sym own.attributes)

use Rattle.std.proofs.Common.{append-nil, sym, arith}
use Rattle.c14n_rows.specs.Rules.{rule_of}
use Rattle.c14n_rows.specs.Code.Order.{may_import}
use Rattle.c14n_rows.proofs.NearestLemmas.{kept_end, kept_room, kept_step}
use Rattle.c14n_rows.proofs.nearest.push_kept.Goals as goal

pub loop-a-init : goal.loop-a-init
loop-a-init c = record { items = sym (append-nil c.args.attributes.now.items); kept = omega arith }

pub push_import-requires-clause-room : goal.push_import-requires-clause-room
push_import-requires-clause-room c =
    let kept = c.loop-a.invariant.kept in let room = c.requires.room in
    kept_room (may_import c.args.doc.now (rule_of c.args.method) c.args.x) c.args.attributes.now.items c.args.kept.now c.loop-a.attributes.items c.loop-a.a-index c.loop-a.invariant.items c.loop-a-test.true _ (omega arith)

pub loop-a-preserved : goal.loop-a-preserved
loop-a-preserved c =
    let kept = c.loop-a.invariant.kept in
    record {
      items = kept_step (may_import c.args.doc.now (rule_of c.args.method) c.args.x) c.args.attributes.now.items c.args.kept.now c.loop-a.attributes.items c.loop-a.a-index c.loop-a.invariant.items c.loop-a-test.true c.push_import.new.attributes.items _ c.push_import.ensures.items;
      kept = omega (arith, c.push_import.ensures.capacity);
    }

pub returns-clause-items : goal.returns-clause-items
returns-clause-items c =
    kept_end (may_import c.args.doc.now (rule_of c.args.method) c.args.x) c.args.attributes.now.items c.args.kept.now c.loop-a.attributes.items c.loop-a.a-index c.loop-a.invariant.items (omega (arith, c.loop-a-test.false))

pub returns-clause-capacity : goal.returns-clause-capacity
returns-clause-capacity c = c.loop-a.invariant.kept

use Rattle.std.proofs.Common.{◌<◌, ◌∷◌, [], length, arith, length-append}
use Rattle.std.proofs.lemmas.List.Elements.{All-push}
use Rattle.node_sets.specs.View.{in_view}
use Rattle.c14n_text.specs.Bases.{is_own}
use Rattle.c14n_rows.specs.Code.Joined.{base_of}
use Rattle.c14n_rows.proofs.ImportLemmas.{own_one, own_none, own_end}
use Rattle.c14n_rows.proofs.imports.push_own.Goals as goal
use Rattle.c14n_rows.proofs.imports.push_own.Goals.{then-is_own, else-is_own}

pub push_row-requires : goal.push_row-requires
push_row-requires c =
    let few = c.loop-a.invariant.few in let kept = c.loop-a.invariant.kept in let room = c.requires.room in let t = c.loop-a-test.true in
    omega arith

pub loop-a-preserved : goal.loop-a-preserved
loop-a-preserved c =
    let t = c.loop-a-test.true in let within = c.requires.within in let few = c.loop-a.invariant.few in let kept = c.loop-a.invariant.kept in
    elim c.if-is_own.branch [
      | then-is_own b ↦
          rw (b.attributes-is, b.push_row.ensures.items) (record {
            so_far = own_one (is_own c.args.doc.now (in_view c.args.set) (base_of c.args.base)) c.loop-a.attributes.items _ c.loop-a.a c.args.until c.loop-a-test.true b.if-is_own.ensures c.loop-a.invariant.so_far;
            fit = All-push (λ b. b < length c.args.doc.now) c.loop-a.attributes.items _ c.loop-a.invariant.fit (omega arith);
            few = let n = length-append c.loop-a.attributes.items (c.loop-a.a ∷ []) in omega arith;
            kept = omega (arith, b.push_row.ensures.capacity);
          })
      | else-is_own b ↦
          rw b.attributes-is (record {
            so_far = own_none (is_own c.args.doc.now (in_view c.args.set) (base_of c.args.base)) c.loop-a.attributes.items _ c.loop-a.a c.args.until c.loop-a-test.true b.if-is_own.ensures c.loop-a.invariant.so_far;
            fit = c.loop-a.invariant.fit;
            few = omega arith;
            kept = c.loop-a.invariant.kept;
          })
    ]

pub returns-clause-items : goal.returns-clause-items
returns-clause-items c = own_end (is_own c.args.doc.now (in_view c.args.set) (base_of c.args.base)) c.loop-a.attributes.items _ c.loop-a.a c.args.until c.loop-a-test.false c.loop-a.invariant.so_far

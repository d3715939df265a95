use Rattle.std.proofs.Common.{◌∙◌, ◌<◌, length, sym, arith}
use Rattle.std.proofs.lemmas.Option.{slice_get_within}
use Rattle.manifests.proofs.FindLaws.{finding_ends, finding_goes}
use Rattle.manifests.proofs.findings.find_manifests.Goals as goal

pub loop-reference-preserved : goal.loop-reference-preserved
loop-reference-preserved c =
    let all = c.args.references.now in let n = c.loop-reference.number in let r = c.in-Some.reference.now in
    let inside : n < length all = slice_get_within all n r (sym c.in-Some.ensures) in
    record {
      within = omega arith;
      room = c.in_ok-add.ensures.room;
      fit = c.in_ok-add.ensures.fit;
      left =
          finding_goes c.args.doc.now c.args.place.now all c.loop-reference.search c.add.new.self n r c.in-Some.ensures c.in_ok-add.ensures.added
          ∙ c.loop-reference.invariant.left;
    }

pub returns-clause-findings : goal.returns-clause-findings
returns-clause-findings c =
    sym (finding_ends c.args.doc.now c.args.place.now c.args.references.now c.loop-reference.search c.loop-reference.number c.in_default.ensures)
    ∙ c.loop-reference.invariant.left

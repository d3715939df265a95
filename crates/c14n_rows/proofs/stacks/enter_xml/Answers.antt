use Rattle.std.proofs.Common.{ℕ, ◌<◌, ◌++◌, List, length, reverse, ap, sym, ◌∙◌, arith}
use Rattle.std.specs.List.{filter}
use Rattle.std.proofs.lemmas.List.Elements.{All-push}
use Rattle.c14n_text.specs.Attributes.{is_xml}
use Rattle.xml_doc.proofs.Ranges.{numbers}
use Rattle.c14n_rows.proofs.XmlLemmas.{xml_room, xml_entered, put_one, put_none, put_room}
use Rattle.c14n_rows.proofs.stacks.enter_xml.Goals as goal

pub loop-a-init : goal.loop-a-init
loop-a-init c =
    let rows = c.args.doc.now in let own = c.own_rows-own.result in
    record {
      until = c.own_rows-own.ensures.ordered;
      within = omega arith;
      rest = ap (λ (ys : List ℕ). ys ++ reverse (filter (is_xml rows) (numbers own.first_attribute own.first_child))) c.requires.xml_are
          ∙ sym (xml_entered rows c.rows-rows.ensures.shaped c.args.x own.first_attribute own.first_child c.requires.below c.requires.here c.own_rows-own.ensures.attributes);
      fit = c.requires.xml_fit;
      kept = omega arith;
    }

pub push_row-requires : goal.push_row-requires
push_row-requires c =
    let rows = c.args.doc.now in let own = c.own_rows-own.result in
    let n = put_room (is_xml rows) c.loop-a.xml.items _ own.first_attribute c.loop-a.a c.loop-a-test.true (sym c.if-is_xml.ensures) c.loop-a.invariant.rest in
    let room = xml_room rows c.rows-rows.ensures.shaped c.args.x _ c.requires.room in
    let kept = c.loop-a.invariant.kept in
    omega arith

pub loop-a-preserved-then-is_xml : goal.loop-a-preserved-then-is_xml
loop-a-preserved-then-is_xml c =
    let rows = c.args.doc.now in let own = c.own_rows-own.result in
    let u = c.loop-a.invariant.until in let i = c.loop-a.invariant.within in let f = c.own_rows-own.ensures.within in let k = c.loop-a.invariant.kept in let t = c.loop-a-test.true in
    rw c.push_row.ensures.items (record {
      until = omega arith;
      within = omega arith;
      rest = put_one (is_xml rows) c.loop-a.xml.items _ own.first_attribute c.loop-a.a c.loop-a-test.true (sym c.if-is_xml.ensures) c.loop-a.invariant.rest;
      fit = All-push (λ b. b < length rows) c.loop-a.xml.items _ c.loop-a.invariant.fit (omega arith);
      kept = omega (arith, c.push_row.ensures.capacity);
    })

pub loop-a-preserved : goal.loop-a-preserved
loop-a-preserved c =
    let rows = c.args.doc.now in let own = c.own_rows-own.result in
    let u = c.loop-a.invariant.until in let i = c.loop-a.invariant.within in let t = c.loop-a-test.true in
    record {
      until = omega arith;
      within = omega arith;
      rest = put_none (is_xml rows) c.loop-a.xml.items _ own.first_attribute c.loop-a.a c.loop-a-test.true (sym c.if-is_xml.ensures) c.loop-a.invariant.rest;
      fit = c.loop-a.invariant.fit;
      kept = c.loop-a.invariant.kept;
    }

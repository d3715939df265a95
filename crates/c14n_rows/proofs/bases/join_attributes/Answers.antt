use Rattle.std.proofs.Common.{◌+◌, ap, sym, ◌∙◌, arith}
use Rattle.std.specs.List.{filter}
use Rattle.c14n_text.specs.Bases.{is_base, with_bases}
use Rattle.c14n_rows.specs.Code.Joined.{with_value, if_base}
use Rattle.xml_doc.proofs.Ranges.{numbers}
use Rattle.c14n_rows.proofs.BaseLemmas.{bases-more, bases-end, weights-more, weights-end, with_bases-append}
use Rattle.c14n_rows.proofs.bases.join_attributes.Goals as goal

pub join_attribute-place-requires-clause-room : goal.join_attribute-place-requires-clause-room
join_attribute-place-requires-clause-room c =
    let more = weights-more c.args.doc.now c.loop-a.a c.args.until c.loop-a-test.true in
    let few = c.loop-a.invariant.few in let e = c.requires.room in let s = c.loop-a.invariant.room in
    omega arith

pub join_attribute-place-requires-clause-spare : goal.join_attribute-place-requires-clause-spare
join_attribute-place-requires-clause-spare c =
    let more = weights-more c.args.doc.now c.loop-a.a c.args.until c.loop-a-test.true in
    let few = c.loop-a.invariant.few in let e = c.requires.spare in let s = c.loop-a.invariant.capacity in
    omega arith

pub loop-a-preserved : goal.loop-a-preserved
loop-a-preserved c =
    let rows = c.args.doc.now in let a = c.loop-a.a in let left = filter (is_base rows) (numbers (a + 1) c.args.until) in
    let more = weights-more rows a c.args.until c.loop-a-test.true in
    let few = c.loop-a.invariant.few in let one = c.join_attribute-place.ensures.few in
    record {
      there = c.join_attribute-place.ensures.there;
      settled = c.join_attribute-place.ensures.settled;
      rest = ap (λ o. with_bases rows o left) c.join_attribute-place.ensures.value
          ∙ sym (with_bases-append rows (with_value c.loop-a.place c.loop-a.own.value) (if_base rows a) left)
          ∙ ap (with_bases rows (with_value c.loop-a.place c.loop-a.own.value)) (sym (bases-more rows a c.args.until c.loop-a-test.true)) ∙ c.loop-a.invariant.rest;
      few = omega arith;
      room = c.join_attribute-place.ensures.room ∙ c.loop-a.invariant.room;
      capacity = let s = c.loop-a.invariant.capacity in let k = c.join_attribute-place.ensures.capacity in omega arith;
    }

pub returns-clause-value : goal.returns-clause-value
returns-clause-value c =
    let rows = c.args.doc.now in
    sym (ap (with_bases rows (with_value c.loop-a.place c.loop-a.own.value)) (bases-end rows c.loop-a.a c.args.until c.loop-a-test.false)) ∙ c.loop-a.invariant.rest

pub returns-clause-few : goal.returns-clause-few
returns-clause-few c =
    let none = weights-end c.args.doc.now c.loop-a.a c.args.until c.loop-a-test.false in let few = c.loop-a.invariant.few in
    omega arith

use Rattle.std.proofs.Common.{◌≡◌, ℕ, ◌<◌, ◌∷◌, [], ◌++◌, List, length, reverse, true, false, ap, sym, ◌∙◌, arith, length-append}
use Rattle.std.specs.List.{filter}
use Rattle.std.proofs.lemmas.List.Elements.{All-push}
use Rattle.node_sets.specs.View.{in_view}
use Rattle.c14n_text.specs.Namespaces.{eleven}
use Rattle.c14n_text.specs.Rows.{parent_of}
use Rattle.c14n_text.specs.Bases.{is_base}
use Rattle.c14n_rows.specs.Code.Stacks.{runs_at, run_entries, values_on}
use Rattle.xml_doc.proofs.Ranges.{numbers}
use Rattle.c14n_rows.proofs.RunLemmas.{runs_at-more, entries_in, entries_out, runs_room, values-element, values-base, attribute_is_none, push_room}
use Rattle.c14n_rows.proofs.StacksLemmas.{room_for_bases-all, room_for_bases-then, room_for_bases-same}
use Rattle.c14n_rows.proofs.XmlLemmas.{put_one, put_none, put_room}
use Rattle.c14n_rows.proofs.stacks.enter_runs.Goals as goal

pub push_row-requires : goal.push_row-requires
push_row-requires c =
    let rows = c.args.doc.now in let set = in_view c.args.set in let x = c.args.x in let pos = c.requires.below in
    let in_set : set x ≡ true = sym c.contains.ensures ∙ c.if-contains.true in
    let e = ap (length {A = ℕ}) (runs_at-more rows set eleven c.rows-rows.ensures.shaped x (λ (z : x ≡ 0). omega arith) c.requires.here) in
    let m = length-append (runs_at rows set eleven (parent_of rows x)) (run_entries rows set eleven x) in
    let k = ap (length {A = ℕ}) (entries_in rows set x c.requires.element in_set) in
    let n = ap (length {A = ℕ}) c.requires.runs_are in
    let room = runs_room rows set eleven x _ c.requires.room in
    omega arith

pub returns-then-contains-clause-runs_are : goal.returns-then-contains-clause-runs_are
returns-then-contains-clause-runs_are c =
    let rows = c.args.doc.now in let set = in_view c.args.set in let x = c.args.x in let pos = c.requires.below in
    let in_set : set x ≡ true = sym c.contains.ensures ∙ c.if-contains.true in
    c.push_row.ensures.items ∙ ap (λ (l : List ℕ). l ++ x ∷ []) c.requires.runs_are
    ∙ sym (runs_at-more rows set eleven c.rows-rows.ensures.shaped x (λ (z : x ≡ 0). omega arith) c.requires.here
    ∙ ap (λ (l : List ℕ). runs_at rows set eleven (parent_of rows x) ++ l) (entries_in rows set x c.requires.element in_set))

pub returns-then-contains-clause-runs_fit : goal.returns-then-contains-clause-runs_fit
returns-then-contains-clause-runs_fit c = rw c.push_row.ensures.items (All-push (λ b. b < length c.args.doc.now) c.args.runs.now.items c.args.x c.requires.runs_fit c.requires.here)

pub loop-a-init : goal.loop-a-init
loop-a-init c =
    let rows = c.args.doc.now in let own = c.own_rows-own.result in let set = in_view c.args.set in let x = c.args.x in let pos = c.requires.below in
    let out : set x ≡ false = sym c.contains.ensures ∙ c.if-contains.false in
    record {
      until = c.own_rows-own.ensures.ordered;
      within = omega arith;
      rest = ap (λ (ys : List ℕ). ys ++ reverse (filter (is_base rows) (numbers own.first_attribute own.first_child))) c.requires.runs_are
          ∙ sym (runs_at-more rows set eleven c.rows-rows.ensures.shaped x (λ (z : x ≡ 0). omega arith) c.requires.here
          ∙ ap (λ (l : List ℕ). runs_at rows set eleven (parent_of rows x) ++ l) (entries_out rows set x c.requires.element out ∙ ap (λ (ys : List ℕ). reverse (filter (is_base rows) ys)) c.own_rows-own.ensures.attributes));
      fit = c.requires.runs_fit;
      kept = omega arith;
      values = c.requires.prepared_are;
      bases_kept = room_for_bases-all c.args.prepared.now;
    }

pub push_row-requires-then-is_base : goal.push_row-requires-then-is_base
push_row-requires-then-is_base c =
    let rows = c.args.doc.now in let own = c.own_rows-own.result in
    let n = put_room (is_base rows) c.loop-a.runs.items _ own.first_attribute c.loop-a.a c.loop-a-test.true (sym c.if-is_base.ensures) c.loop-a.invariant.rest in
    let room = runs_room rows (in_view c.args.set) eleven c.args.x _ c.requires.room in
    let kept = c.loop-a.invariant.kept in
    omega arith

pub loop-a-preserved-then-is_base : goal.loop-a-preserved-then-is_base
loop-a-preserved-then-is_base c =
    let rows = c.args.doc.now in let own = c.own_rows-own.result in
    let u = c.loop-a.invariant.until in let i = c.loop-a.invariant.within in let f = c.own_rows-own.ensures.within in let k = c.loop-a.invariant.kept in let t = c.loop-a-test.true in
    rw c.push_row-then-is_base.ensures.items (record {
      until = omega arith;
      within = omega arith;
      rest = put_one (is_base rows) c.loop-a.runs.items _ own.first_attribute c.loop-a.a c.loop-a-test.true (sym c.if-is_base.ensures) c.loop-a.invariant.rest;
      fit = All-push (λ b. b < length rows) c.loop-a.runs.items _ c.loop-a.invariant.fit (omega arith);
      kept = omega (arith, c.push_row-then-is_base.ensures.capacity);
      values = c.push.ensures.bases ∙ ap (λ (vs : List (List ℕ)). vs ++ c.as_bytes.result.now ∷ []) c.loop-a.invariant.values
          ∙ ap (λ (v : List ℕ). values_on rows c.loop-a.runs.items ++ v ∷ []) (c.as_bytes.ensures.value ∙ c.value.ensures)
          ∙ sym (values-base rows c.loop-a.runs.items _ (attribute_is_none rows c.args.x own.first_attribute own.first_child _ c.own_rows-own.ensures.attributes (omega arith) (omega arith)));
      bases_kept = room_for_bases-then c.args.prepared.now c.loop-a.prepared c.push.new.self c.loop-a.invariant.bases_kept (room_for_bases-same c.loop-a.prepared c.push.new.self c.push.ensures.count c.push.ensures.room);
    })

pub loop-a-preserved : goal.loop-a-preserved
loop-a-preserved c =
    let rows = c.args.doc.now in let own = c.own_rows-own.result in
    let u = c.loop-a.invariant.until in let i = c.loop-a.invariant.within in let t = c.loop-a-test.true in
    record {
      until = omega arith;
      within = omega arith;
      rest = put_none (is_base rows) c.loop-a.runs.items _ own.first_attribute c.loop-a.a c.loop-a-test.true (sym c.if-is_base.ensures) c.loop-a.invariant.rest;
      fit = c.loop-a.invariant.fit;
      kept = c.loop-a.invariant.kept;
      values = c.loop-a.invariant.values;
      bases_kept = c.loop-a.invariant.bases_kept;
    }

pub returns-then-contains-clause-prepared_are : goal.returns-then-contains-clause-prepared_are
returns-then-contains-clause-prepared_are c =
    c.requires.prepared_are ∙ sym (ap (values_on c.args.doc.now) c.push_row.ensures.items ∙ values-element c.args.doc.now c.args.runs.now.items c.args.x c.requires.element)

pub returns-then-contains-clause-prepared_room : goal.returns-then-contains-clause-prepared_room
returns-then-contains-clause-prepared_room c = room_for_bases-all c.args.prepared.now

pub push-requires-clause-count : goal.push-requires-clause-count
push-requires-clause-count c =
    let rows = c.args.doc.now in let own = c.own_rows-own.result in
    let i = c.loop-a.invariant.within in let t = c.loop-a-test.true in
    let none = attribute_is_none rows c.args.x own.first_attribute own.first_child _ c.own_rows-own.ensures.attributes (omega arith) (omega arith) in
    let rest = put_one (is_base rows) c.loop-a.runs.items _ own.first_attribute c.loop-a.a c.loop-a-test.true (sym c.if-is_base.ensures) c.loop-a.invariant.rest in
    (push_room rows (in_view c.args.set) c.args.x _ c.loop-a.runs.items _ c.args.prepared.now c.loop-a.prepared rest none c.loop-a.invariant.values c.requires.octets c.loop-a.invariant.bases_kept).0

pub push-requires-clause-room : goal.push-requires-clause-room
push-requires-clause-room c =
    let rows = c.args.doc.now in let own = c.own_rows-own.result in
    let i = c.loop-a.invariant.within in let t = c.loop-a-test.true in
    let none = attribute_is_none rows c.args.x own.first_attribute own.first_child _ c.own_rows-own.ensures.attributes (omega arith) (omega arith) in
    let rest = put_one (is_base rows) c.loop-a.runs.items _ own.first_attribute c.loop-a.a c.loop-a-test.true (sym c.if-is_base.ensures) c.loop-a.invariant.rest in
    rw (c.as_bytes.ensures.value ∙ c.value.ensures) (push_room rows (in_view c.args.set) c.args.x _ c.loop-a.runs.items _ c.args.prepared.now c.loop-a.prepared rest none c.loop-a.invariant.values c.requires.octets c.loop-a.invariant.bases_kept).1

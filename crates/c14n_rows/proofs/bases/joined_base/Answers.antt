use Rattle.std.proofs.Common.{◌≡◌, ◌++◌, ℕ, List, Some, None, ap, sym, ◌∙◌, subst, arith}
use Rattle.std.specs.Prelude.{slice_get}
use Rattle.node_sets.specs.View.{in_view}
use Rattle.c14n_text.specs.Rows.{parent_of}
use Rattle.c14n_text.specs.Bases.{bases, omitted_bases, with_bases}
use Rattle.c14n_rows.specs.Rules.{rule_of}
use Rattle.c14n_rows.specs.Joined.{weights}
use Rattle.c14n_rows.specs.Stacks.{total, octets_of, upwards}
use Rattle.c14n_rows.specs.Code.Joined.{IsRun}
use Rattle.c14n_rows.specs.Code.Stacks.{run_on}
use Rattle.c14n_rows.proofs.Chains.{parent_there}
use Rattle.c14n_rows.proofs.RunLemmas.{run_fits}
use Rattle.c14n_rows.proofs.BaseLemmas.{none_is, some_is, joined_before, joined_after, joined-out, joined-none, joined-some, is_eleven_here, run_here}
use Rattle.c14n_rows.proofs.StacksLemmas.{bases-fewer, keeps-all}
use Rattle.c14n_rows.proofs.bases.joined_base.Goals as goal

pub returns-then-not-joins-clause-value : goal.returns-then-not-joins-clause-value
returns-then-not-joins-clause-value c = sym (joined-out c.args.doc.now (in_view c.args.set) (rule_of c.args.method) c.args.x (sym c.if-not-joins.ensures))

pub returns-then-not-joins-clause-kept : goal.returns-then-not-joins-clause-kept
returns-then-not-joins-clause-kept c = keeps-all c.args.stacks.now

pub returns-in-None-clause-value : goal.returns-in-None-clause-value
returns-in-None-clause-value c =
    let rows = c.args.doc.now in let set = in_view c.args.set in let rule = rule_of c.args.method in let x = c.args.x in
    let run = run_here rows set rule x c.rows-rows.ensures.shaped c.requires.here (sym c.if-not-joins.ensures) c.args.stacks.now.runs.items c.requires.stacks.runs_are in
    let e = c.in-None.ensures.nearest ∙ ap (λ (l : List ℕ). slice_get (run_on rows l) 0) c.deref.ensures.value ∙ ap (λ (l : List ℕ). slice_get l 0) run in
    sym (joined-none rows set rule x (none_is (omitted_bases rows set x) e))

pub returns-in-None-clause-kept : goal.returns-in-None-clause-kept
returns-in-None-clause-kept c = keeps-all c.args.stacks.now

pub join_element-requires-clause-nearest : goal.join_element-requires-clause-nearest
join_element-requires-clause-nearest c =
    let rows = c.args.doc.now in
    c.in-Some.ensures.nearest ∙ ap (λ (l : List ℕ). slice_get (run_on rows l) 0) (c.deref.ensures.value ∙ sym c.deref-in-Some.ensures.value)

pub join_element-requires-clause-runs_fit : goal.join_element-requires-clause-runs_fit
join_element-requires-clause-runs_fit c = rw c.deref-in-Some.ensures.value c.requires.stacks.runs_fit

pub join_element-requires-clause-fit : goal.join_element-requires-clause-fit
join_element-requires-clause-fit c =
    let rows = c.args.doc.now in let set = in_view c.args.set in let rule = rule_of c.args.method in let x = c.args.x in
    let run = run_here rows set rule x c.rows-rows.ensures.shaped c.requires.here (sym c.if-not-joins.ensures) c.args.stacks.now.runs.items c.requires.stacks.runs_are in
    let w = ap (weights rows) (ap (run_on rows) c.deref-in-Some.ensures.value ∙ run) in
    let few = run_fits rows c.rows-rows.ensures.shaped set x (total (octets_of rows) (upwards rows x)) c.requires.below c.requires.here (omega arith) in
    bases-fewer _ (total (octets_of rows) (upwards rows x)) c.args.stacks.now.joining (omega arith) (c.requires.room.joining (is_eleven_here rows set rule x (sym c.if-not-joins.ensures)))

pub join_element-requires-clause-joined : goal.join_element-requires-clause-joined
join_element-requires-clause-joined c = λ (same : c.args.stacks.now.joining.nearest ≡ Some c.in-Some.b).
    let rows = c.args.doc.now in let set = in_view c.args.set in let rule = rule_of c.args.method in let x = c.args.x in
    let w = c.rows-rows.ensures.shaped in
    let run = run_here rows set rule x w c.requires.here (sym c.if-not-joins.ensures) c.args.stacks.now.runs.items c.requires.stacks.runs_are in
    let first = c.in-Some.ensures.nearest ∙ ap (λ (l : List ℕ). slice_get (run_on rows l) 0) c.deref.ensures.value ∙ ap (λ (l : List ℕ). slice_get l 0) run in
    subst (IsRun c.in-Some.b c.args.stacks.now.joining.run) (sym (ap (with_bases rows None) (ap (run_on rows) c.deref-in-Some.ensures.value ∙ run)))
    (joined_before rows w set (parent_of rows x) (parent_there rows w x c.requires.here) c.args.stacks.now.joining.nearest c.args.stacks.now.joining.run c.in-Some.b first c.requires.stacks.is_joined same)

pub returns-in-Some-clause-value : goal.returns-in-Some-clause-value
returns-in-Some-clause-value c =
    let rows = c.args.doc.now in let set = in_view c.args.set in let rule = rule_of c.args.method in let x = c.args.x in
    let run = run_here rows set rule x c.rows-rows.ensures.shaped c.requires.here (sym c.if-not-joins.ensures) c.args.stacks.now.runs.items c.requires.stacks.runs_are in
    let first = c.in-Some.ensures.nearest ∙ ap (λ (l : List ℕ). slice_get (run_on rows l) 0) c.deref.ensures.value ∙ ap (λ (l : List ℕ). slice_get l 0) run in
    c.join_element.ensures.value
    ∙ ap (λ (l : List ℕ). with_bases rows None (bases rows x ++ l)) (ap (run_on rows) c.deref-in-Some.ensures.value ∙ run)
    ∙ sym (joined-some rows set rule x (sym c.if-not-joins.ensures) (some_is (omitted_bases rows set x) c.in-Some.b first))

pub returns-in-Some-clause-stacks : goal.returns-in-Some-clause-stacks
returns-in-Some-clause-stacks c =
    let rows = c.args.doc.now in let set = in_view c.args.set in let rule = rule_of c.args.method in let x = c.args.x in
    let w = c.rows-rows.ensures.shaped in let h = c.requires.stacks in
    let run = run_here rows set rule x w c.requires.here (sym c.if-not-joins.ensures) c.args.stacks.now.runs.items h.runs_are in
    let first = c.in-Some.ensures.nearest ∙ ap (λ (l : List ℕ). slice_get (run_on rows l) 0) c.deref.ensures.value ∙ ap (λ (l : List ℕ). slice_get l 0) run in
    let e = ap (with_bases rows None) (ap (run_on rows) c.deref-in-Some.ensures.value ∙ run) in
    record {
      slots_are = h.slots_are;
      slots_fit = h.slots_fit;
      xml_are = h.xml_are;
      xml_fit = h.xml_fit;
      nearest_are = h.nearest_are;
      runs_are = h.runs_are;
      runs_fit = h.runs_fit;
      prepared_are = h.prepared_are;
      is_joined = joined_after rows w set (parent_of rows x) (parent_there rows w x c.requires.here) c.args.stacks.now.joining c.join_element.new.joining c.in-Some.b first h.is_joined (rw e at c.join_element.ensures.joined);
    }

pub returns-in-Some-clause-kept : goal.returns-in-Some-clause-kept
returns-in-Some-clause-kept c = record {
  slots = omega arith;
  xml = omega arith;
  runs = omega arith;
  prepared = record { count = omega arith; room = omega arith };
  marks = omega arith;
  joining = c.join_element.ensures.kept;
}

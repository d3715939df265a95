use Rattle.std.proofs.Common.{◌≡◌, ◌-◌, ℕ, List, length, true, false, ap, sym, arith, ◌∙◌}
use Rattle.std.specs.List.{filter}
use Rattle.node_sets.specs.View.{in_view}
use Rattle.c14n_text.specs.Bases.{bases, is_base}
use Rattle.c14n_rows.specs.Code.Stacks.{values_on}
use Rattle.c14n_rows.proofs.RunLemmas.{left_in, values_in, few_left, left_out, few_values_left, values_out}
use Rattle.c14n_rows.proofs.stacks.leave_runs.Goals as goal

pub returns-then-contains-clause-runs_are : goal.returns-then-contains-clause-runs_are
returns-then-contains-clause-runs_are c =
    c.truncate.ensures.items
    ∙ left_in c.args.doc.now c.rows-rows.ensures.shaped (in_view c.args.set) c.args.x c.requires.below c.requires.here c.requires.element c.args.runs.now.items c.requires.runs_are
    (c.len-kept.result - 1) (sym c.contains.ensures ∙ c.if-contains.true) (omega arith)

pub returns-then-contains-clause-prepared_are : goal.returns-then-contains-clause-prepared_are
returns-then-contains-clause-prepared_are c =
    let rows = c.args.doc.now in let w = c.rows-rows.ensures.shaped in let set = in_view c.args.set in
    let in_set : set c.args.x ≡ true = sym c.contains.ensures ∙ c.if-contains.true in
    c.requires.prepared_are ∙ values_in rows w set c.args.x c.requires.below c.requires.here c.requires.element c.args.runs.now.items c.requires.runs_are in_set
    ∙ sym (ap (values_on rows) (c.truncate.ensures.items
    ∙ left_in rows w set c.args.x c.requires.below c.requires.here c.requires.element c.args.runs.now.items c.requires.runs_are (c.len-kept.result - 1) in_set (omega arith)))

pub overflow_sub-kept-2 : goal.overflow_sub-kept-2
overflow_sub-kept-2 c =
    let rows = c.args.doc.now in
    let count : c.count_bases-count.result ≡ length (bases rows c.args.x) = c.count_bases-count.ensures ∙ ap (λ (ys : List ℕ). length (filter (is_base rows) ys)) (sym c.own_rows-own.ensures.attributes) in
    let few = few_left rows c.rows-rows.ensures.shaped (in_view c.args.set) c.args.x c.requires.below c.requires.here c.requires.element c.args.runs.now.items c.requires.runs_are
    (sym c.contains.ensures ∙ c.if-contains.false) c.count_bases-count.result count in
    let n = c.len.ensures in
    omega arith

pub overflow_sub-kept_bases : goal.overflow_sub-kept_bases
overflow_sub-kept_bases c =
    let rows = c.args.doc.now in
    let count : c.count_bases-count.result ≡ length (bases rows c.args.x) = c.count_bases-count.ensures ∙ ap (λ (ys : List ℕ). length (filter (is_base rows) ys)) (sym c.own_rows-own.ensures.attributes) in
    let few = few_values_left rows c.rows-rows.ensures.shaped (in_view c.args.set) c.args.x c.requires.below c.requires.here c.requires.element c.args.runs.now.items c.requires.runs_are
    (sym c.contains.ensures ∙ c.if-contains.false) c.count_bases-count.result count c.args.prepared.now.bases c.requires.prepared_are in
    let n = c.len-2.ensures in
    omega arith

pub returns-clause-runs_are : goal.returns-clause-runs_are
returns-clause-runs_are c =
    let rows = c.args.doc.now in
    let count : c.count_bases-count.result ≡ length (bases rows c.args.x) = c.count_bases-count.ensures ∙ ap (λ (ys : List ℕ). length (filter (is_base rows) ys)) (sym c.own_rows-own.ensures.attributes) in
    c.truncate-2.ensures.items
    ∙ left_out rows c.rows-rows.ensures.shaped (in_view c.args.set) c.args.x c.requires.below c.requires.here c.requires.element c.args.runs.now.items c.requires.runs_are
    (sym c.contains.ensures ∙ c.if-contains.false) c.count_bases-count.result count (c.len.result - c.count_bases-count.result) (omega arith)

pub returns-clause-prepared_are : goal.returns-clause-prepared_are
returns-clause-prepared_are c =
    let rows = c.args.doc.now in let w = c.rows-rows.ensures.shaped in let set = in_view c.args.set in let n = c.count_bases-count.result in
    let out : set c.args.x ≡ false = sym c.contains.ensures ∙ c.if-contains.false in
    let count : n ≡ length (bases rows c.args.x) = c.count_bases-count.ensures ∙ ap (λ (ys : List ℕ). length (filter (is_base rows) ys)) (sym c.own_rows-own.ensures.attributes) in
    c.truncate-3.ensures.bases
    ∙ values_out rows w set c.args.x c.requires.below c.requires.here c.requires.element c.args.runs.now.items c.requires.runs_are out n count c.args.prepared.now.bases (c.len-2.result - n) c.requires.prepared_are (ap (λ (m : ℕ). m - n) c.len-2.ensures)
    ∙ sym (ap (values_on rows) (c.truncate-2.ensures.items
    ∙ left_out rows w set c.args.x c.requires.below c.requires.here c.requires.element c.args.runs.now.items c.requires.runs_are out n count (c.len.result - n) (omega arith)))

use Rattle.std.proofs.Common.{◌-◌, ℕ, List, Some, None, length, take, ap, sym, ◌∙◌, arith}
use Rattle.xml_doc.specs.Shape.{row_at}
use Rattle.c14n_bases.specs.Join.{join}
use Rattle.c14n_bases.specs.Joined.{base_at}
use Rattle.c14n_bases.proofs.LengthLemmas.{join_length}
use Rattle.c14n_text.specs.Bases.{with_bases}
use Rattle.c14n_rows.specs.Joined.{weights}
use Rattle.c14n_rows.specs.Code.Stacks.{run_on}
use Rattle.c14n_rows.proofs.ValueLemmas.{TwoOnTop, two_on_top}
use Rattle.c14n_rows.proofs.bases.join_bases.Goals as goal
use Rattle.c14n_rows.proofs.bases.join_bases.Goals.{After-len-nearest}

top : (c : After-len-nearest) → TwoOnTop c.args.doc.now c.args.runs.now c.args.prepared.now.bases c.len-nearest.result c.args.b
top c = two_on_top c.args.doc.now c.args.runs.now c.args.prepared.now.bases c.len-nearest.result c.args.b c.requires.nearest c.requires.more c.requires.prepared c.len-nearest.ensures

pub overflow_sub-nearest : goal.overflow_sub-nearest
overflow_sub-nearest c = let two = (top (goal.at.overflow_sub-nearest c).After-len-nearest).prepared in omega arith

pub overflow_sub-nearest-2 : goal.overflow_sub-nearest-2
overflow_sub-nearest-2 c = let two = (top (goal.at.overflow_sub-nearest-2 c).After-len-nearest).prepared in omega arith

pub overflow_sub-nearest-3 : goal.overflow_sub-nearest-3
overflow_sub-nearest-3 c = let two = (top (goal.at.overflow_sub-nearest-3 c).After-len-nearest).prepared in omega arith

pub join_two-requires-clause-inner : goal.join_two-requires-clause-inner
join_two-requires-clause-inner c = let two = (top (goal.at.join_two-requires-clause-inner c).After-len-nearest).prepared in let n = c.len-nearest.ensures in omega arith

pub join_two-requires-clause-outer : goal.join_two-requires-clause-outer
join_two-requires-clause-outer c = let two = (top (goal.at.join_two-requires-clause-outer c).After-len-nearest).prepared in let n = c.len-nearest.ensures in omega arith

pub join_two-requires-clause-room : goal.join_two-requires-clause-room
join_two-requires-clause-room c =
    let two = top (goal.at.join_two-requires-clause-room c).After-len-nearest in
    let w = ap (weights c.args.doc.now) two.run in let n = ap (length {A = ℕ}) two.inner in let m = ap (length {A = ℕ}) two.outer in let r = c.requires.room in
    omega arith

pub join_run-requires-clause-prepared : goal.join_run-requires-clause-prepared
join_run-requires-clause-prepared c = (top (goal.at.join_run-requires-clause-prepared c).After-len-nearest).left

pub join_run-requires-clause-room : goal.join_run-requires-clause-room
join_run-requires-clause-room c =
    let bases = c.args.prepared.now.bases in let n = c.len-nearest.result in let two = top (goal.at.join_run-requires-clause-room c).After-len-nearest in
    let w = ap (weights c.args.doc.now) two.run in let i = ap (length {A = ℕ}) two.inner in let o = ap (length {A = ℕ}) two.outer in
    let v = ap (length {A = ℕ}) c.join_two.ensures.value in let few = join_length (base_at bases (n - 1 - 1)) (base_at bases (n - 1)) in
    let r = c.requires.room in let k = c.join_two.ensures.room in
    omega arith

pub join_run-requires-clause-spare : goal.join_run-requires-clause-spare
join_run-requires-clause-spare c =
    let bases = c.args.prepared.now.bases in let n = c.len-nearest.result in let two = top (goal.at.join_run-requires-clause-spare c).After-len-nearest in
    let w = ap (weights c.args.doc.now) two.run in let i = ap (length {A = ℕ}) two.inner in let o = ap (length {A = ℕ}) two.outer in
    let v = ap (length {A = ℕ}) c.join_two.ensures.value in let few = join_length (base_at bases (n - 1 - 1)) (base_at bases (n - 1)) in
    let r = c.requires.spare in
    omega arith

pub returns-clause-joined : goal.returns-clause-joined
returns-clause-joined c =
    let rows = c.args.doc.now in let runs = c.args.runs.now in let bases = c.args.prepared.now.bases in let n = c.len-nearest.result in
    let two = top (goal.at.returns-clause-joined c).After-len-nearest in
    record {
      is = ap (λ (v : List ℕ). Some (c.args.b, v)) c.settle.ensures.value ∙ c.join_run.ensures.joined c.args.b
          ∙ ap (λ (v : List ℕ). with_bases rows (Some (c.args.b, v)) (run_on rows (take (length runs - 2) runs)))
          (c.join_two.ensures.value ∙ ap (λ (o : List ℕ). join o (base_at bases (n - 1))) two.outer ∙ ap (join (row_at rows two.next).value) two.inner)
          ∙ ap (with_bases rows None) (sym two.run);
      settled = c.settle.ensures.settled;
    }

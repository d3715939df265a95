use Rattle.std.proofs.Common.{ℕ, List, ◌++◌, take, ap, ◌∙◌, arith}
use Rattle.c14n_rows.proofs.ImportLemmas.{fewer_merged, few_merged, fit_merged, merged_into}
use Rattle.c14n_rows.proofs.imports.merge.Goals as goal

pub append-requires : goal.append-requires
append-requires c =
    let items = c.args.ordered.now.attributes.items in
    let e = c.deref-3.ensures.value ∙ merged_into c.args.doc.now items _ _ _ _ c.args.start c.args.middle c.requires.start c.clear.ensures.items c.deref.ensures.value c.deref-2.ensures.value c.merge_into.ensures.items in
    let k = c.truncate.ensures.capacity in
    let start = c.requires.start in let middle = c.requires.middle in let room = c.requires.room in
    few_merged c.args.doc.now items _ _ c.args.start _ (omega arith) c.truncate.ensures.items e (omega arith)

sorted : goal.returns-clause-attributes
sorted c =
    let items = c.args.ordered.now.attributes.items in
    let e = c.deref-3.ensures.value ∙ merged_into c.args.doc.now items _ _ _ _ c.args.start c.args.middle c.requires.start c.clear.ensures.items c.deref.ensures.value c.deref-2.ensures.value c.merge_into.ensures.items in
    c.append.ensures.items
    ∙ ap (λ (l : List ℕ). l ++ c.deref-3.result.now) c.truncate.ensures.items
    ∙ ap (λ (l : List ℕ). take c.args.start items ++ l) e

pub returns-clause-attributes : goal.returns-clause-attributes
returns-clause-attributes c = sorted c

pub returns-clause-fit : goal.returns-clause-fit
returns-clause-fit c = fit_merged c.args.doc.now c.args.ordered.now.attributes.items c.append.new.list.items c.args.start c.requires.fit (sorted c)

pub returns-clause-few : goal.returns-clause-few
returns-clause-few c =
    let start = c.requires.start in let middle = c.requires.middle in
    fewer_merged c.args.doc.now c.args.ordered.now.attributes.items c.append.new.list.items c.args.start (omega arith) (sorted c)

use Rattle.std.proofs.Common.{◌++◌, List, ℕ, reverse, take, ap, ◌∙◌}
use Rattle.std.specs.List.{filter}
use Rattle.c14n_text.specs.Attributes.{in_order}
use Rattle.c14n_rows.specs.Rules.{rule_of}
use Rattle.c14n_rows.specs.Code.Order.{may_import}
use Rattle.c14n_rows.proofs.ImportLemmas.{imports_of_root}
use Rattle.c14n_rows.proofs.nearest.keep_part.Goals as goal

pub returns-clause-nearest : goal.returns-clause-nearest
returns-clause-nearest c =
    let rows = c.args.doc.now in let rule = rule_of c.args.method in let first = take c.args.count c.args.xml.now in
    c.write_part.ensures.parts rows rule c.args.xml.now c.requires.nearest c.requires.few c.requires.more
    (c.deref.ensures.value ∙ c.push_nearest.ensures.attributes
    ∙ ap (λ (l : List ℕ). l ++ in_order rows (filter (may_import rows rule 0) (reverse first))) c.clear.ensures.items
    ∙ imports_of_root rows c.rows-rows.ensures.shaped rule first)

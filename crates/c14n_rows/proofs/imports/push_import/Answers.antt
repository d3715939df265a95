use Rattle.std.proofs.Common.{◌++◌, ◌∷◌, [], Bool, cond, ap, sym, ◌∙◌, append-nil}
use Rattle.c14n_rows.proofs.imports.push_import.Goals as goal

pub returns-then-may_import-clause-items : goal.returns-then-may_import-clause-items
returns-then-may_import-clause-items c = c.push_row.ensures.items ∙ ap (λ (t : Bool). c.args.attributes.now.items ++ cond t (c.args.a ∷ []) []) c.if-may_import.ensures

pub returns-else-may_import-clause-items : goal.returns-else-may_import-clause-items
returns-else-may_import-clause-items c = sym (append-nil c.args.attributes.now.items) ∙ ap (λ (t : Bool). c.args.attributes.now.items ++ cond t (c.args.a ∷ []) []) c.if-may_import.ensures

use Rattle.xml_doc.proofs.FieldLemmas.{no_attribute_before, no_attribute_behind}
use Rattle.xml_doc.proofs.doc.Doc.attribute_bounds.Goals as goal

pub returns-clause-before : goal.returns-clause-before
returns-clause-before c = λ z h l. no_attribute_before c.args.self.now c.rows-count.ensures.shaped c.args.x c.namespaces_end-from.result z c.requires c.namespaces_end-from.ensures l

pub returns-clause-behind : goal.returns-clause-behind
returns-clause-behind c = λ z h l. no_attribute_behind c.args.self.now c.rows-count.ensures.shaped c.args.x c.namespaces_end-from.result c.attributes_end.result c.requires c.namespaces_end-from.ensures c.attributes_end.ensures z h l

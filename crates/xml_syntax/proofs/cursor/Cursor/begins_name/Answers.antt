use Rattle.std.proofs.Common.{◌∙◌, sym}
use Rattle.xml_syntax.proofs.RunLaws.{begins_small}
use Rattle.xml_syntax.proofs.cursor.Cursor.begins_name.Goals as goal

pub returns-then-begins_small : goal.returns-then-begins_small
returns-then-begins_small c =
    c.if-begins_small.true ∙ sym (begins_small _ _ _ _ c.self.view_is c.as_bytes.ensures.value (c.begins_small.ensures c.if-begins_small.true))

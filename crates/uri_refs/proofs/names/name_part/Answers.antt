use Rattle.std.proofs.Common.{refl, sym, ◌∙◌}
use Rattle.std.proofs.lemmas.Str.{is_utf8-from_IsUtf8}
use Rattle.sig_base.proofs.LineLaws.{not_utf8}
use Rattle.uri_refs.proofs.names.name_part.Goals as goal

pub returns-in_default : goal.returns-in_default
returns-in_default c = let no = not_utf8 c.args.part.now c.in_default.ensures.cases.0 in rw no refl

pub returns-then-is_plain_part : goal.returns-then-is_plain_part
returns-then-is_plain_part c =
    let text = is_utf8-from_IsUtf8 c.args.part.now c.in-Ok.ensures.cases.1 in
    (c.in-Ok.ensures.cases.0, rw text (sym c.is_plain_part.ensures ∙ c.if-is_plain_part.true))

pub returns-else-is_plain_part : goal.returns-else-is_plain_part
returns-else-is_plain_part c =
    let text = is_utf8-from_IsUtf8 c.args.part.now c.in-Ok.ensures.cases.1 in
    rw text (sym c.is_plain_part.ensures ∙ c.if-is_plain_part.false)

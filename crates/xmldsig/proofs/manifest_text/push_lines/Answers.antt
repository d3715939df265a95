use Rattle.std.proofs.Common.{◌∙◌, ◌++◌, ap, string_bytes}
use Rattle.xmldsig.specs.Texts.{manifest_line}
use Rattle.xmldsig.proofs.Lines.{written_all, written_more}
use Rattle.xmldsig.proofs.manifest_text.push_lines.Goals as goal

pub loop-line-preserved : goal.loop-line-preserved
loop-line-preserved c =
    written_more manifest_line c.args.lines.now c.loop-line.k c.in-Some.line.now (string_bytes c.loop-line.text) _ _ c.in-Some.ensures
    (c.in_ok-push_str.ensures.bytes ∙ ap (λ t. string_bytes c.loop-line.text ++ t) (c.deref.ensures ∙ c.in_ok-manifest_line.ensures))
    c.loop-line.invariant

pub returns : goal.returns
returns c =
    written_all manifest_line c.args.lines.now c.loop-line.k (string_bytes c.loop-line.text) _ c.in_default.ensures c.loop-line.invariant

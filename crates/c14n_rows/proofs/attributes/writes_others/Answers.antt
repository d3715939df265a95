use Rattle.std.proofs.Common.{◌≡◌, false, Option, None, Some, not, refl, ap, sym, ◌∙◌}
use Rattle.std.specs.Prelude.{is_some}
use Rattle.std.proofs.lemmas.Bool.{not-false, false≢true}
use Rattle.node_sets.specs.View.{in_view}
use Rattle.c14n_text.specs.Bases.{written_attributes}
use Rattle.c14n_rows.specs.declared.bases.Base.{Base}
use Rattle.c14n_rows.specs.Code.Joined.{base_of}
use Rattle.c14n_rows.specs.Rules.{rule_of}
use Rattle.c14n_rows.proofs.OrderLemmas.{written_alone}
use Rattle.c14n_rows.proofs.StackLemmas.{when_empty}
use Rattle.c14n_rows.proofs.attributes.writes_others.Goals as goal

-- no base is lent
no_base : (o : Option Base) → is_some o ≡ false → base_of o ≡ None
no_base None e = refl
no_base (Some b) e = absurd (false≢true (sym e))

pub returns-clause-own : goal.returns-clause-own
returns-clause-own c = λ (some : not c.is_empty.result ≡ false).
    let rows = c.args.doc.now in let set = in_view c.args.set in let rule = rule_of c.args.method in let x = c.args.x in
    let none = when_empty c.args.xml.now (sym c.is_empty.ensures ∙ not-false c.is_empty.result some) in
    let base = no_base c.args.base (sym c.is_some.ensures ∙ c.if-is_some.false) in
    ap (λ b. written_attributes rows set rule b x) base
    ∙ written_alone rows c.rows-rows.ensures.shaped set rule x c.requires.here (sym c.requires.xml_are ∙ none)

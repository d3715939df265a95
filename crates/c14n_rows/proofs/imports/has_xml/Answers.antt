use Rattle.std.proofs.Common.{◌≡◌, ◌<◌, true, false, sym, ◌∙◌, arith}
use Rattle.std.proofs.lemmas.Bool.{false≢true}
use Rattle.c14n_rows.proofs.OrderLemmas.{own_of_name}
use Rattle.c14n_rows.proofs.imports.has_xml.Goals as goal

pub returns-then-behind-own : goal.returns-then-behind-own
returns-then-behind-own c =
    own_of_name c.args.doc.now c.rows-rows.ensures.shaped c.args.x c.args.own.first_attribute c.args.own.first_child c.requires.own.ordered c.requires.own.within c.requires.own.attributes
    c.args.a c.first_behind-behind.result c.requires.is_xml c.first_behind-behind.ensures c.is_xml_named.result
    (λ (e : c.is_xml_named.result ≡ true). (c.if-behind-own.true, sym c.is_xml_named.ensures ∙ e))
    (λ (e : c.is_xml_named.result ≡ false) (lt : c.args.own.first_attribute < c.first_behind-behind.result). sym c.is_xml_named.ensures ∙ e)

pub returns-else-behind-own : goal.returns-else-behind-own
returns-else-behind-own c =
    own_of_name c.args.doc.now c.rows-rows.ensures.shaped c.args.x c.args.own.first_attribute c.args.own.first_child c.requires.own.ordered c.requires.own.within c.requires.own.attributes
    c.args.a c.first_behind-behind.result c.requires.is_xml c.first_behind-behind.ensures false
    (λ (e : false ≡ true). absurd (false≢true e))
    (λ (e : false ≡ false) (lt : c.args.own.first_attribute < c.first_behind-behind.result). let not_behind = c.if-behind-own.false in absurd (omega arith))

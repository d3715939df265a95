use Rattle.std.proofs.Common.{◌<◌, ℕ, List, [], ◌∷◌, length, sym, ap, subst, ◌∙◌, arith, append-nil}
use Rattle.std.proofs.lemmas.List.Elements.{All-push}
use Rattle.xml_doc.specs.Ids.{answer_of, bearers}
use Rattle.xpath_eval.specs.Functions.{identified}
use Rattle.xpath_eval.specs.Code.Context.{AreRows}
use Rattle.xpath_eval.proofs.Tokens.{bearer_within, bearing_all, bearing_refused, bearing_turn}
use Rattle.xpath_eval.proofs.ids.bearing.Goals.{in-None, in-One+in_ok-push-in-One}
use Rattle.xpath_eval.proofs.ids.bearing.Goals as goal

pub returns-in-Several-clause-value : goal.returns-in-Several-clause-value
returns-in-Several-clause-value c =
    bearing_refused c.args.doc.now c.args.tokens.now c.loop-token.token-index c.token-item.result c.loop-token.ys c.element_by_id.result _ (omega (arith, c.loop-token-test.true)) c.token-item.is
    (c.element_by_id.ensures ∙ ap (λ id. answer_of (bearers c.args.doc.now id)) c.as_str.ensures.bytes) c.loop-token.invariant.value c.in-Several.y c.in-Several.z (ap identified c.in-Several.is)

pub loop-token-preserved : goal.loop-token-preserved
loop-token-preserved c =
    let Within : List ℕ → Type 0 = AreRows c.args.doc.now in
    let lt : c.loop-token.token-index < length c.args.tokens.now = omega (arith, c.loop-token-test.true) in
    let answer = c.element_by_id.ensures ∙ ap (λ id. answer_of (bearers c.args.doc.now id)) c.as_str.ensures.bytes in
    record {
      value = elim c.match-element_by_id.branch [
        | in-None w ↦ bearing_turn c.args.doc.now c.args.tokens.now c.loop-token.token-index c.token-item.result c.loop-token.ys c.element_by_id.result _ lt c.token-item.is answer c.loop-token.invariant.value
            c.match-element_by_id.ys [] (ap identified w.in-None.is) (w.ys-is ∙ sym (append-nil c.loop-token.ys))
        | in-One+in_ok-push-in-One w ↦ bearing_turn c.args.doc.now c.args.tokens.now c.loop-token.token-index c.token-item.result c.loop-token.ys c.element_by_id.result _ lt c.token-item.is answer c.loop-token.invariant.value
            c.match-element_by_id.ys (w.in-One.y ∷ []) (ap identified w.in-One.is) (w.ys-is ∙ w.in_ok-push-in-One.ensures.ok)
      ];
      rows = elim c.match-element_by_id.branch [
        | in-None w ↦ subst Within (sym w.ys-is) c.loop-token.invariant.rows
        | in-One+in_ok-push-in-One w ↦ subst Within (sym (w.ys-is ∙ w.in_ok-push-in-One.ensures.ok))
            (All-push (λ y. y < length c.args.doc.now) c.loop-token.ys w.in-One.y c.loop-token.invariant.rows (bearer_within c.args.doc.now _ w.in-One.y (sym w.in-One.is ∙ c.element_by_id.ensures)))
      ];
    }

pub returns-clause-value : goal.returns-clause-value
returns-clause-value c = bearing_all c.args.doc.now c.args.tokens.now c.loop-token.token-index c.loop-token.ys _ (omega (arith, c.loop-token-test.false)) c.loop-token.invariant.value

use Rattle.std.proofs.Common.{Some, None, [], ◌∷◌, not, cond, ◌∙◌, map, ap, sym, Bool}
use Rattle.dsig_fields.specs.declared.fields.Reference.{Reference}
use Rattle.signer.specs.Outcome.{has_texts}
use Rattle.signer.proofs.PairLaws.{find_front, find_split}
use Rattle.signer.proofs.reading.not_text.Goals as goal

pub returns-in-Some : goal.returns-in-Some
returns-in-Some c =
    let fields = c.args.fields.now in
    sym (find_front (λ x. not (has_texts c.args.doc.now x)) (map (λ (r : Reference). r.digest_row) fields.references) (fields.value_row ∷ []) c.in-Some.row (sym c.in-Some.ensures))

pub returns-then-has_texts : goal.returns-then-has_texts
returns-then-has_texts c =
    let fields = c.args.fields.now in
    sym (find_split (λ x. not (has_texts c.args.doc.now x)) (map (λ (r : Reference). r.digest_row) fields.references) (fields.value_row ∷ []) (sym c.in-None.ensures)
    ∙ ap (λ (b : Bool). cond (not b) (Some fields.value_row) None) (sym c.has_texts.ensures ∙ c.if-has_texts.true))

pub returns-else-has_texts : goal.returns-else-has_texts
returns-else-has_texts c =
    let fields = c.args.fields.now in
    sym (find_split (λ x. not (has_texts c.args.doc.now x)) (map (λ (r : Reference). r.digest_row) fields.references) (fields.value_row ∷ []) (sym c.in-None.ensures)
    ∙ ap (λ (b : Bool). cond (not b) (Some fields.value_row) None) (sym c.has_texts.ensures ∙ c.if-has_texts.false))

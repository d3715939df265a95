use Rattle.std.proofs.Common.{◌∙◌, ◌<◌, ℕ, List, length, ap, sym, subst}
use Rattle.std.specs.List.{All, list_all}
use Rattle.xml_doc.specs.Kinds.{is_text}
use Rattle.xml_doc.specs.Shape.{row_at}
use Rattle.dsig_fields.proofs.SimpleLaws.{children_within}
use Rattle.signer.specs.Outcome.{has_texts}
use Rattle.signer.proofs.PairLaws.{all_behind, texts_next}
use Rattle.signer.proofs.reading.has_texts.Goals as goal

pub loop-y-init : goal.loop-y-init
loop-y-init c =
    let Within : List ℕ → Type 0 = All (λ y. y < length c.args.doc.now) in
    record {
      within = subst Within (sym c.axis-walk.ensures.rows) (children_within c.args.doc.now c.args.x);
      left = ap (list_all (λ y. is_text (row_at c.args.doc.now y).kind)) c.axis-walk.ensures.rows;
    }

pub loop-y-preserved : goal.loop-y-preserved
loop-y-preserved c =
    record {
      within = all_behind (length c.args.doc.now) c.loop-y.walk c.next.new.self c.in-Some.y c.in-Some.ensures.steps c.loop-y.invariant.within;
      left = texts_next (λ y. is_text (row_at c.args.doc.now y).kind) c.loop-y.walk c.next.new.self c.in-Some.y (has_texts c.args.doc.now c.args.x) c.in-Some.ensures.steps
          (sym c.is_text_at.ensures ∙ c.if-not-is_text_at.false) c.loop-y.invariant.left;
    }

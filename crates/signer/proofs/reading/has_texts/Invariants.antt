use Rattle.std.proofs.Common.{◌≡◌, ◌<◌, length}
use Rattle.std.specs.List.{All, list_all}
use Rattle.xml_doc.specs.Kinds.{is_text}
use Rattle.xml_doc.specs.Shape.{row_at}
use Rattle.signer.specs.Outcome.{has_texts}
use Rattle.signer.proofs.reading.has_texts.Given as goal

-- the children that are left decide
abbrev pub invariant-loop-y : goal.invariant-loop-y
invariant-loop-y l = record {
  within : All (λ y. y < length l.doc) l.walk;
  left : list_all (λ y. is_text (row_at l.doc y).kind) l.walk ≡ has_texts l.doc l.x;
}

abbrev pub decreases-loop-y : goal.decreases-loop-y
decreases-loop-y l = length l.walk

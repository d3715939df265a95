-- What is filled in lies in order within the octets.
use Rattle.std.proofs.Common.{ℕ, ◌+◌, ◌≤◌, List, [], ◌∷◌, length, arith}
use Rattle.xml_doc.specs.Rows.{RowOf}
use Rattle.xml_doc.specs.Shape.{row_at}
use Rattle.xml_read.specs.Spelled.{Spells}
use Rattle.row_spans.specs.RowSpans.{InOrder}
use Rattle.row_spans.proofs.Order.{order_at}
use Rattle.row_spans.proofs.Places.{lies_at}
use Rattle.row_spans.proofs.Within.{within_at}
use Rattle.row_fills.specs.Fillings.{Filling, CanFill, CanFillAll, spans_of}

module _ (octets : List ℕ) (rows : List RowOf) (spells : Spells octets rows) where
  begins_first : (f : Filling) → CanFill rows f → (row_at rows f.row).body_from ≤ (row_at rows f.row).body_until
  begins_first f can = let lies = lies_at octets rows f.row spells can.alone in omega (arith, lies.ends)

  behind : (f : Filling) (fs : List Filling) → CanFill rows f → CanFillAll rows (f.row + 1) fs → InOrder (row_at rows f.row).body_until (length octets) (spans_of rows fs)
  behind f [] can rest = (within_at octets rows f.row spells can.alone.within).1
  behind f (g ∷ gs) can rest = (
    order_at octets rows f.row g.row spells can.alone (omega (arith, rest.0)) rest.1.alone.within rest.1.alone.element,
    begins_first g rest.1,
    behind g gs rest.1 rest.2,
  )

  pub in_order : (fs : List Filling) → CanFillAll rows 0 fs → InOrder 0 (length octets) (spans_of rows fs)
  in_order [] can = omega arith
  in_order (f ∷ fs) can = (omega arith, begins_first f can.1, behind f fs can.1 can.2)

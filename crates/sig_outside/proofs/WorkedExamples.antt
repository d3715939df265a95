-- The definitions, computed on examples that were worked by hand.
use Rattle.std.proofs.Common.{◌≡◌, refl, [], ◌∷◌}
use Rattle.std.specs.Prelude.{codes}
use Rattle.sig_outside.specs.Bounds.{octets_of}

nothing_held : octets_of [] ≡ 0
nothing_held = refl

-- the views count, and their names don't
views_alone : octets_of ((codes "v/view-001", codes "one") ∷ (codes "v/view-002", []) ∷ (codes "v/view-003", codes "three") ∷ []) ≡ 8
views_alone = refl

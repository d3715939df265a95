use Rattle.std.proofs.Common.{◌≡◌, length}
use Rattle.dsig_fields.specs.Code.Cursor.{first_behind}
use Rattle.dsig_fields.specs.Fields.{key_info, key_names}
use Rattle.dsig_fields.proofs.key_info.key_info.Given as goal

abbrev pub invariant-loop-first : goal.invariant-loop-first
invariant-loop-first l = first_behind l.first (key_names l.doc l.children) ≡ key_info l.doc l.x

abbrev pub decreases-loop-first : goal.decreases-loop-first
decreases-loop-first l = length l.children

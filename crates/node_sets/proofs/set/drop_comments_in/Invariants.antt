use Rattle.std.proofs.Common.{◌≡◌, ℕ, ◌&&◌, not, nat_lt, nat_le, length}
use Rattle.xml_doc.specs.Shape.{row_at}
use Rattle.node_sets.specs.Members.{has, is_comment}
use Rattle.node_sets.proofs.set.drop_comments_in.Given as goal

-- the comments from the range's first number to before i are out
abbrev pub invariant-loop-i : goal.invariant-loop-i
invariant-loop-i l = record {
  size : length l.bits ≡ length l.fn.bits;
  members : (k : ℕ) → has l.bits k ≡ (has l.fn.bits k && not (nat_le l.fn.span.from k && nat_lt k l.i && is_comment (row_at l.doc k).kind));
}

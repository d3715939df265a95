use Rattle.xml_resolve.proofs.TableSteps.{text_taken, comment_taken, instruction_taken}
use Rattle.xml_resolve.proofs.table.take_event.Goals as goal

pub returns-in-Text : goal.returns-in-Text
returns-in-Text c = rw c.in-Text.is (text_taken c.push_text.result _ _ _ _ _ c.parent.ensures c.push_text.ensures)

pub returns-in-Comment : goal.returns-in-Comment
returns-in-Comment c = rw (c.in-Comment.is, ← c.deref.ensures) (comment_taken c.push_node.result _ _ _ _ _ c.parent-in-Comment.ensures c.push_node.ensures)

pub returns-in-Instruction : goal.returns-in-Instruction
returns-in-Instruction c = rw (c.in-Instruction.is, ← c.deref-in-Instruction.ensures) (instruction_taken c.push_node-in-Instruction.result _ _ _ _ _ _ c.parent-in-Instruction.ensures c.push_node-in-Instruction.ensures)

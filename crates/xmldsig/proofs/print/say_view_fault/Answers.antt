use Rattle.xmldsig.proofs.print.say_view_fault.Goals as goal

pub returns : goal.returns
returns g c = rw (← c.view_fault_line-line.ensures, ← c.as_str.ensures.value, ← c.as_bytes.ensures.value) c.say_err.ensures

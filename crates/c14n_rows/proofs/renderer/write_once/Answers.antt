use Rattle.c14n_rows.proofs.renderer.write_once.Goals as goal

pub returns-in-None-clause-puts : goal.returns-in-None-clause-puts
returns-in-None-clause-puts g c = rw (← c.doc-doc.ensures) c.write_nothing.ensures

pub returns-in_ok-memory-in-Some-clause-puts : goal.returns-in_ok-memory-in-Some-clause-puts
returns-in_ok-memory-in-Some-clause-puts g c = rw (← c.doc-doc.ensures) c.write_walked.ensures.puts

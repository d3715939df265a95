use Rattle.std.proofs.Common.{length}
use Rattle.c14n_rows.proofs.imports.+push_imports.Given as goal

abbrev pub decreases-push_imports : goal.decreases-push_imports
decreases-push_imports l = length l.xml.now

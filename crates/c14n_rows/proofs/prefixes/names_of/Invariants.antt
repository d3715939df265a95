use Rattle.c14n_rows.proofs.PrefixLemmas.{HasSoFar}
use Rattle.c14n_rows.proofs.prefixes.names_of.Given as goal

abbrev pub invariant-loop-k : goal.invariant-loop-k
invariant-loop-k l = HasSoFar l.prefixes l.k l.names

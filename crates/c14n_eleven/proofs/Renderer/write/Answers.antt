use Rattle.std.proofs.Common.{rules}
use Rattle.c14n_eleven.proofs.Renderer.write.Goals as goal

pub returns-clause-puts : goal.returns-clause-puts
returns-clause-puts g c = rw (← c.self.view_is) c.write.ensures.puts

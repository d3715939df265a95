use Rattle.std.proofs.Common.{map, string_bytes}
use Rattle.job_words.specs.Job.{job_of}
use Rattle.xmldsig.proofs.Runs.{headline}
use Rattle.xmldsig.proofs.top.run.Goals as goal

pub returns : goal.returns
returns g c =
    headline g.K.ViewKeeper.pairs g.K.ViewKeeper.faults (job_of (map string_bytes c.args.words.now))
    (g.F.Folder.held c.args.folder.now) c.settle-ending.result c.print.result _ _ _ _ _ _ _ _
    c.settle-ending.ensures c.print.ensures

use Rattle.std.proofs.Common.{map, string_bytes}
use Rattle.job_words.specs.Job.{job_of}
use Rattle.xmldsig.proofs.Endings.{usage_settled, words_memory_settled}
use Rattle.xmldsig.proofs.settle.settle.Goals as goal

pub returns-in-Ok : goal.returns-in-Ok
returns-in-Ok g c = rw c.in-Ok.ensures c.settle_job.ensures

pub returns-in-Err-Usage : goal.returns-in-Err-Usage
returns-in-Err-Usage g c =
    rw (rw c.in-Err-Usage.field-0-is at c.in-Err-Usage.ensures) (usage_settled g.K.ViewKeeper.pairs g.K.ViewKeeper.faults _ _ _)

pub returns-in-Err-Memory : goal.returns-in-Err-Memory
returns-in-Err-Memory g c =
    words_memory_settled g.K.ViewKeeper.pairs g.K.ViewKeeper.faults (job_of (map string_bytes c.args.words.now)) _ _ _

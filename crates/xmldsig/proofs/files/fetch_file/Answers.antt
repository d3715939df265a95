use Rattle.xmldsig.proofs.FilesAnswer.{file_too_long}
use Rattle.xmldsig.proofs.files.fetch_file.Goals as goal

pub returns-in-TooLong-clause-outcome : goal.returns-in-TooLong-clause-outcome
returns-in-TooLong-clause-outcome g c =
    λ files e. file_too_long files _ _ c.args.limit c.args.absent c.args.too_long c.as_str.ensures.bytes
    (c.in-TooLong.ensures.answer files e)

use Rattle.std.proofs.Common.{rules}
use Rattle.dsig_fields.specs.Fields.{fields_of}
use Rattle.dsig_fields.proofs.FitLaws.{fields_fit}
use Rattle.dsig_fields.proofs.read.read_fields.Goals as goal

pub returns-clause-fit : goal.returns-clause-fit
unfolding fields_of
returns-clause-fit c = fields_fit c.args.doc.now c.args.signature _ c.rows-count.ensures.shaped (search rules)

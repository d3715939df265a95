use Rattle.dsig_fields.proofs.FitLaws.{read_info_fits}
use Rattle.dsig_fields.proofs.info.read_info.Goals as goal

pub returns-clause-fit : goal.returns-clause-fit
returns-clause-fit c = read_info_fits c.args.doc.now c.args.signed_info c.info_fields.result c.info_fields.ensures

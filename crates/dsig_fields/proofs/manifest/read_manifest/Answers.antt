use Rattle.std.proofs.Common.{rules}
use Rattle.dsig_fields.specs.Manifests.{manifest_of}
use Rattle.dsig_fields.proofs.ManifestLaws.{read_fits}
use Rattle.dsig_fields.proofs.manifest.read_manifest.Goals as goal

pub returns-clause-few : goal.returns-clause-few
unfolding manifest_of
returns-clause-few c = (read_fits c.args.doc.now c.args.manifest _ (search rules)).0

pub returns-clause-fit : goal.returns-clause-fit
unfolding manifest_of
returns-clause-fit c = (read_fits c.args.doc.now c.args.manifest _ (search rules)).1

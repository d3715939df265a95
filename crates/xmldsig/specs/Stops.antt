-- How the answer of a step stands to its outcome, and what it does to the folder.
use Rattle.digests_hmac.specs.declared.key_table.KeyFault.{KeyFault}
use Rattle.digests_hmac.specs.declared.key_table.KeyFault.TheVariants as keys
use Rattle.uri_refs.specs.declared.catalog.CatalogFault.{CatalogFault}
use Rattle.uri_refs.specs.declared.catalog.CatalogFault.TheVariants as catalog
use Rattle.xml_read.specs.declared.read.ReadRefusal.{ReadRefusal}
use Rattle.xml_read.specs.declared.read.ReadRefusal.TheVariants as read
use Rattle.xpath_syntax.specs.declared.refusal.SyntaxRefusal.{SyntaxRefusal}
use Rattle.xpath_syntax.specs.declared.refusal.SyntaxRefusal.TheVariants as syntax
use Rattle.xpath_eval.specs.declared.refusal.EvalRefusal.{EvalRefusal}
use Rattle.xpath_eval.specs.declared.refusal.EvalRefusal.TheVariants as eval
use Rattle.transforms.specs.declared.outcome.ValidateRefusal.{ValidateRefusal}
use Rattle.transforms.specs.declared.outcome.ValidateRefusal.TheVariants as validation
use Rattle.manifests.specs.declared.lines.ManifestStop.{ManifestStop}
use Rattle.manifests.specs.declared.lines.ManifestStop.TheVariants as manifest
use Rattle.self_test.specs.declared.refusal.TestRefusal.{TestRefusal}
use Rattle.self_test.specs.declared.refusal.TestRefusal.TheVariants as test
use Rattle.signer.specs.declared.refusal.SignRefusal.{SignRefusal}
use Rattle.signer.specs.declared.refusal.SignRefusal.TheVariants as signing
use Rattle.signer.specs.declared.template.TemplateRefusal.{TemplateRefusal}
use Rattle.signer.specs.declared.template.TemplateRefusal.TheVariants as template
use Rattle.xmldsig.specs.SelfTest.{test_cause}
use Rattle.xmldsig.specs.Sign.{sign_cause}
use Rattle.xmldsig.specs.declared.ending.Refusal.TheVariants as refusal
use Rattle.xmldsig.specs.declared.stop.Stop.{Stop}
use Rattle.xmldsig.specs.declared.stop.Stop.TheVariants as stop

-- why the answers of the parts stop a job: want of memory is the same here and there
abbrev pub keys_stop : KeyFault → Stop
keys_stop keys.Memory = stop.Memory
keys_stop fault = stop.Refused (refusal.Keys fault)

abbrev pub catalog_stop : CatalogFault → Stop
catalog_stop catalog.Memory = stop.Memory
catalog_stop fault = stop.Refused (refusal.Catalog fault)

abbrev pub read_stop : ReadRefusal → Stop
read_stop read.Memory = stop.Memory
read_stop cause = stop.Refused (refusal.Read cause)

abbrev pub syntax_stop : SyntaxRefusal → Stop
syntax_stop syntax.Memory = stop.Memory
syntax_stop cause = stop.Refused (refusal.Syntax cause)

abbrev pub eval_stop : EvalRefusal → Stop
eval_stop eval.Memory = stop.Memory
eval_stop cause = stop.Refused (refusal.Eval cause)

abbrev pub validate_stop : ValidateRefusal → Stop
validate_stop validation.FetchFailed = stop.ReadFault
validate_stop validation.Memory = stop.Memory
validate_stop cause = stop.Refused (refusal.Validate cause)

abbrev pub manifest_stop : ManifestStop → Stop
manifest_stop manifest.FetchFailed = stop.ReadFault
manifest_stop manifest.Memory = stop.Memory

abbrev pub sign_stop : SignRefusal → Stop
sign_stop signing.FetchFailed = stop.ReadFault
sign_stop signing.Memory = stop.Memory
sign_stop cause = stop.Refused (sign_cause cause)

abbrev pub template_stop : TemplateRefusal → Stop
template_stop template.Memory = stop.Memory
template_stop (template.Read cause) = stop.Refused (refusal.Read cause)

abbrev pub test_stop : TestRefusal → Stop
test_stop test.Memory = stop.Memory
test_stop cause = stop.Refused (test_cause cause)

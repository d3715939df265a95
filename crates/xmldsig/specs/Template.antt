-- What the words of `template` come to over the files that a folder holds: the document with a template in it.
use Rattle.std.specs.Prelude.{ℕ, List, Option, Result}
use Rattle.sig_base.specs.Outcomes.{and_then, with_cause}
use Rattle.sig_base.specs.declared.method.DigestMethod.{DigestMethod}
use Rattle.sig_base.specs.declared.method.MacMethod.{MacMethod}
use Rattle.sig_outside.specs.Told.{Held}
use Rattle.xml_read.specs.declared.read.ReadRefusal.TheVariants as read
use Rattle.signer.specs.Template as signer
use Rattle.signer.specs.declared.template.TemplateOptions.{TemplateOptions}
use Rattle.signer.specs.declared.template.TemplateRefusal.{TemplateRefusal}
use Rattle.signer.specs.declared.template.TemplateRefusal.TheVariants as template
use Rattle.xmldsig.specs.Files as file
use Rattle.xmldsig.specs.declared.ending.Refusal.{Refusal}
use Rattle.xmldsig.specs.declared.ending.Refusal.TheVariants as refusal

-- what the words ask of the template
abbrev pub options_for : MacMethod → DigestMethod → (key : Option (List ℕ)) → TemplateOptions
options_for mac digest key = record { mac = mac; digest = digest; key_name = key }

-- a document gets no template where it can't be read. Want of memory is no refusal, and no outcome has it
abbrev pub template_cause : TemplateRefusal → Refusal
template_cause (template.Read cause) = refusal.Read cause
template_cause template.Memory = refusal.Read read.Memory

-- a document with the template in it, and the same of a file
abbrev pub document_outcome : TemplateOptions → List ℕ → Result (List ℕ) Refusal
document_outcome options bytes = with_cause template_cause (signer.template_outcome bytes options)

abbrev pub template_outcome : (doc : List ℕ) → TemplateOptions → Held → Result (List ℕ) Refusal
template_outcome doc options files = and_then (file.document_outcome doc files) (document_outcome options)

-- What is printed. This project's own texts.
use Rattle.std.specs.Prelude.{ℕ, ◌+◌, List, [], ◌∷◌, ◌++◌, codes, decimal, Result, Ok, Err}
use Rattle.std.specs.List.{flat_map}
use Rattle.transforms.specs.declared.outcome.Report.{Report}
use Rattle.transforms.specs.declared.outcome.Report.TheVariants.{SignatureDiffers, ShortTruncation, Valid, DigestsDiffer}
use Rattle.digests_hmac.specs.declared.key_table.KeyFault.{KeyFault}
use Rattle.digests_hmac.specs.declared.key_table.KeyFault.TheVariants as key
use Rattle.dsig_fields.specs.Names.{local_name}
use Rattle.dsig_fields.specs.declared.refusal.FieldRefusal.{FieldRefusal}
use Rattle.dsig_fields.specs.declared.refusal.FieldRefusal.TheVariants as field
use Rattle.transforms.specs.declared.refusal.RefRefusal.{RefRefusal}
use Rattle.transforms.specs.declared.refusal.RefRefusal.TheVariants as target
use Rattle.transforms.specs.declared.outcome.ValidateRefusal.{ValidateRefusal}
use Rattle.transforms.specs.declared.outcome.ValidateRefusal.TheVariants as validation
use Rattle.manifests.specs.declared.lines.ManifestKind.{ManifestKind}
use Rattle.manifests.specs.declared.lines.ManifestKind.TheVariants as manifest
use Rattle.manifests.specs.declared.lines.ManifestLine.{ManifestLine}
use Rattle.signer.specs.declared.refusal.SignRefusal.{SignRefusal}
use Rattle.signer.specs.declared.refusal.SignRefusal.TheVariants as signing
use Rattle.uri_refs.specs.declared.catalog.CatalogFault.{CatalogFault}
use Rattle.uri_refs.specs.declared.catalog.CatalogFault.TheVariants as catalog
use Rattle.uri_refs.specs.declared.refusal.UriRefusal.{UriRefusal}
use Rattle.uri_refs.specs.declared.refusal.UriRefusal.TheVariants as uri
use Rattle.xpath_eval.specs.declared.refusal.EvalRefusal.{EvalRefusal}
use Rattle.xpath_eval.specs.declared.refusal.EvalRefusal.TheVariants as evaluated
use Rattle.xpath_syntax.specs.declared.refusal.SyntaxRefusal.{SyntaxRefusal}
use Rattle.xpath_syntax.specs.declared.refusal.SyntaxRefusal.TheVariants as parsed
use Rattle.xml_read.specs.declared.read.ReadRefusal.{ReadRefusal}
use Rattle.xml_read.specs.declared.read.ReadRefusal.TheVariants as read
use Rattle.xmldsig.specs.Outcome.{Answer}
use Rattle.xmldsig.specs.Outcome.{OfReport, OfOctets}
use Rattle.xmldsig.specs.declared.ending.Refusal.{Refusal}
use Rattle.xmldsig.specs.declared.ending.Refusal.TheVariants as refusal
use Rattle.xmldsig.specs.declared.ending.Validated.{Validated}

-- the line of the view of reference number i
abbrev pub reference_line : (i octets : ℕ) → List ℕ
reference_line i octets = codes "reference " ++ decimal i ++ codes " octets " ++ decimal octets ++ codes "\n"

-- a line for each view, counted from i
abbrev pub reference_lines : (i : ℕ) (lengths : List ℕ) → List ℕ
reference_lines i [] = []
reference_lines i (octets ∷ others) = reference_line i octets ++ reference_lines (i + 1) others

abbrev pub number_word : ℕ → List ℕ
number_word i = codes " " ++ decimal i

-- the text of a report
abbrev pub report_text : Report → List ℕ
report_text (Valid views) = codes "valid\n" ++ reference_lines 1 views.lengths
report_text SignatureDiffers = codes "invalid signature\n"
report_text (ShortTruncation bits) = codes "invalid truncation " ++ decimal bits ++ codes "\n"
report_text (DigestsDiffer numbers) = codes "invalid digests" ++ flat_map number_word numbers ++ codes "\n"

-- a word of a refusal and its numbers
abbrev pub one_numbered : List ℕ → ℕ → List ℕ
one_numbered word n = word ++ number_word n

abbrev pub two_numbered : List ℕ → ℕ → ℕ → List ℕ
two_numbered word n m = word ++ number_word n ++ number_word m

-- the words of refusals, a space before each. Want of memory is no refusal, and no outcome has it
abbrev pub read_words : ReadRefusal → List ℕ
read_words read.TooLarge = codes " TooLarge"
read_words read.Encoding = codes " Encoding"
read_words read.DocType = codes " DocType"
read_words read.NotWellFormed = codes " NotWellFormed"
read_words read.Namespaces = codes " Namespaces"
read_words read.TooDeep = codes " TooDeep"
read_words read.TooManyRows = codes " TooManyRows"
read_words read.Memory = codes " Memory"

abbrev pub key_words : KeyFault → List ℕ
key_words (key.BadLine line) = one_numbered (codes " KeyBadLine") line
key_words (key.Repeated line earlier) = two_numbered (codes " KeyRepeated") line earlier
key_words key.TooMany = codes " KeyTooMany"
key_words key.Memory = codes " Memory"

abbrev pub field_words : FieldRefusal → List ℕ
field_words (field.Missing name) = codes " Missing " ++ local_name name
field_words (field.Extra row) = one_numbered (codes " Extra") row
field_words (field.NoAlgorithm row) = one_numbered (codes " NoAlgorithm") row
field_words (field.UnknownMethod row) = one_numbered (codes " UnknownMethod") row
field_words (field.Xslt row) = one_numbered (codes " Xslt") row
field_words (field.PublicKey row) = one_numbered (codes " PublicKey") row
field_words (field.BadLength row) = one_numbered (codes " BadLength") row
field_words (field.BadBase64 row) = one_numbered (codes " BadBase64") row
field_words (field.BadFilter row) = one_numbered (codes " BadFilter") row
field_words (field.NoUri row) = one_numbered (codes " NoUri") row
field_words field.TooManyReferences = codes " TooManyReferences"
field_words (field.TooManyTransforms row) = one_numbered (codes " TooManyTransforms") row
field_words (field.TooManyFilters row) = one_numbered (codes " TooManyFilters") row
field_words field.Memory = codes " Memory"

abbrev pub catalog_words : CatalogFault → List ℕ
catalog_words (catalog.BadLine line) = one_numbered (codes " CatalogBadLine") line
catalog_words (catalog.Repeated line earlier) = two_numbered (codes " CatalogRepeated") line earlier
catalog_words catalog.TooMany = codes " CatalogTooMany"
catalog_words catalog.Memory = codes " Memory"

abbrev pub uri_words : UriRefusal → List ℕ
uri_words uri.UnknownPointer = codes " UnknownPointer"
uri_words uri.NotUri = codes " NotUri"
uri_words uri.HasFragment = codes " HasFragment"
uri_words uri.HasQuery = codes " HasQuery"
uri_words uri.Foreign = codes " Foreign"
uri_words uri.BadSegment = codes " BadSegment"
uri_words uri.Memory = codes " Memory"

-- where a step is refused, its number stands before the words
abbrev pub step_words : (step : ℕ) → (words : List ℕ) → List ℕ
step_words step words = one_numbered (codes " step") step ++ words

-- and that of the expression within it
abbrev pub part_words : (step part : ℕ) → (words : List ℕ) → List ℕ
part_words step part words = step_words step (one_numbered (codes " part") part ++ words)

abbrev pub syntax_words : SyntaxRefusal → List ℕ
syntax_words parsed.TooLong = codes " TooLong"
syntax_words parsed.NotXPath = codes " NotXPath"
syntax_words parsed.TooDeep = codes " TooDeep"
syntax_words parsed.Fraction = codes " Fraction"
syntax_words parsed.NumberRange = codes " NumberRange"
syntax_words parsed.Div = codes " Div"
syntax_words parsed.Variable = codes " Variable"
syntax_words parsed.UnknownFunction = codes " UnknownFunction"
syntax_words parsed.Arity = codes " Arity"
syntax_words parsed.UnboundPrefix = codes " UnboundPrefix"
syntax_words parsed.Memory = codes " Memory"

abbrev pub eval_words : EvalRefusal → List ℕ
eval_words evaluated.Fraction = codes " Fraction"
eval_words evaluated.NumberRange = codes " NumberRange"
eval_words evaluated.NotNodes = codes " NotNodes"
eval_words (evaluated.AmbiguousId first second) = two_numbered (codes " AmbiguousId") first second
eval_words evaluated.HereElsewhere = codes " HereElsewhere"
eval_words evaluated.Memory = codes " Memory"

-- a fault of the folder is no refusal, and no outcome has it; of a sink there is none
abbrev pub reference_words : RefRefusal → List ℕ
reference_words (target.Uri cause) = uri_words cause
reference_words target.NoSuchId = codes " NoSuchId"
reference_words (target.AmbiguousId first second) = two_numbered (codes " AmbiguousId") first second
reference_words target.Absent = codes " Absent"
reference_words target.TooLong = codes " TooLong"
reference_words (target.Read step cause) = step_words step (read_words cause)
reference_words (target.Syntax step part cause) = part_words step part (syntax_words cause)
reference_words (target.Eval step part cause) = part_words step part (eval_words cause)
reference_words (target.NotBase64 step) = step_words step (codes " NotBase64")
reference_words (target.EnvelopedElsewhere step) = step_words step (codes " EnvelopedElsewhere")
reference_words (target.OctetsTooLong step) = step_words step (codes " OctetsTooLong")
reference_words target.FetchFailed = codes " FetchFailed"
reference_words target.SinkRefused = codes " SinkRefused"
reference_words target.Memory = codes " Memory"

abbrev pub validate_words : ValidateRefusal → List ℕ
validate_words validation.NoSignature = codes " NoSignature"
validate_words (validation.Fields cause) = field_words cause
validate_words validation.NoKey = codes " NoKey"
validate_words validation.UnknownKey = codes " UnknownKey"
validate_words validation.OctetsTooLong = codes " OctetsTooLong"
validate_words (validation.Reference i cause) = one_numbered (codes " reference") i ++ reference_words cause
validate_words validation.FetchFailed = codes " FetchFailed"
validate_words validation.Memory = codes " Memory"

-- before why the filled template can't be read stands a word
abbrev pub sign_words : SignRefusal → List ℕ
sign_words (signing.Read cause) = read_words cause
sign_words signing.NoSignature = codes " NoSignature"
sign_words (signing.Fields cause) = field_words cause
sign_words signing.NoKey = codes " NoKey"
sign_words signing.UnknownKey = codes " UnknownKey"
sign_words (signing.ShortTruncation bits) = one_numbered (codes " ShortTruncation") bits
sign_words (signing.NotText row) = one_numbered (codes " NotText") row
sign_words (signing.Reference i cause) = one_numbered (codes " reference") i ++ reference_words cause
sign_words (signing.Filled cause) = codes " filled" ++ read_words cause
sign_words signing.OctetsTooLong = codes " OctetsTooLong"
sign_words (signing.CoversItself i) = one_numbered (codes " CoversItself") i
sign_words signing.FetchFailed = codes " FetchFailed"
sign_words signing.Memory = codes " Memory"

abbrev pub refusal_words : Refusal → List ℕ
refusal_words refusal.NoDocument = codes " NoDocument"
refusal_words refusal.NoKeys = codes " NoKeys"
refusal_words refusal.KeysTooLarge = codes " KeysTooLarge"
refusal_words (refusal.Keys fault) = key_words fault
refusal_words refusal.NoCatalog = codes " NoCatalog"
refusal_words refusal.CatalogTooLarge = codes " CatalogTooLarge"
refusal_words (refusal.Catalog fault) = catalog_words fault
refusal_words (refusal.Read cause) = read_words cause
refusal_words (refusal.Validate cause) = validate_words cause
refusal_words (refusal.Sign cause) = sign_words cause
refusal_words (refusal.Syntax cause) = syntax_words cause
refusal_words (refusal.Eval cause) = eval_words cause
refusal_words refusal.NoSuchId = codes " NoSuchId"
refusal_words (refusal.AmbiguousId first second) = two_numbered (codes " AmbiguousId") first second
refusal_words refusal.OctetsTooLong = codes " OctetsTooLong"

-- ---- the lines of Manifests

-- the number of an entry, and what is told of it
abbrev pub entry_words : (entry : ℕ) → (words : List ℕ) → List ℕ
entry_words entry words = one_numbered (codes " entry") entry ++ words

-- the first three are told of an entry, the others of a Manifest
abbrev pub manifest_words : (entry : ℕ) → ManifestKind → List ℕ
manifest_words entry manifest.Same = entry_words entry (codes " same")
manifest_words entry manifest.Differs = entry_words entry (codes " differs")
manifest_words entry (manifest.Refused cause) = entry_words entry (codes " refused" ++ reference_words cause)
manifest_words entry manifest.ManifestTransforms = codes " transforms"
manifest_words entry manifest.NotManifest = codes " not-manifest"
manifest_words entry (manifest.Fields cause) = codes " fields" ++ field_words cause
manifest_words entry manifest.TooMany = codes " too-many"

-- the number of the Reference that refers to the Manifest stands first
abbrev pub manifest_line : ManifestLine → List ℕ
manifest_line line = one_numbered (codes "manifest") line.reference ++ manifest_words line.entry line.kind ++ codes "\n"

-- the text of a report with the lines of Manifests behind it, on out
abbrev pub validated_text : Validated → List ℕ
validated_text told = report_text told.report ++ flat_map manifest_line told.lines

-- ---- the lines on err

abbrev pub refusal_line : Refusal → List ℕ
refusal_line cause = codes "refused" ++ refusal_words cause ++ codes "\n"

abbrev pub usage_line : List ℕ
usage_line = codes "usage: xmldsig validate|sign|canon|template|selftest\n"

abbrev pub read_fault_line : List ℕ
read_fault_line = codes "fault read\n"

abbrev pub write_fault_line : List ℕ
write_fault_line = codes "fault write\n"

-- the numbers of the view and of the keeper, from 1
abbrev pub view_fault_line : (view keeper : ℕ) → List ℕ
view_fault_line view keeper = codes "fault view " ++ decimal view ++ codes " " ++ decimal keeper ++ codes "\n"

abbrev pub memory_line : List ℕ
memory_line = codes "fault memory\n"

-- what an outcome prints on out, and on err
abbrev pub out_text : Result Answer Refusal → List ℕ
out_text (Ok (OfReport told)) = validated_text told
out_text (Ok (OfOctets octets)) = octets
out_text (Err cause) = []

abbrev pub err_text : Result Answer Refusal → List ℕ
err_text (Ok answer) = []
err_text (Err cause) = refusal_line cause

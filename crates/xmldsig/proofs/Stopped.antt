-- What the answers of the parts say of a job that they stop.
use Rattle.std.proofs.Common.{◌≢◌, ap, refl, ℕ, List, Result, Ok, Err}
use Rattle.sig_base.specs.Outcomes.{and_then, with_cause}
use Rattle.digests_hmac.specs.KeyEntries.{KeyEntry}
use Rattle.digests_hmac.specs.Keys as keys
use Rattle.digests_hmac.specs.declared.key_table.KeyFault.{KeyFault}
use Rattle.digests_hmac.specs.declared.key_table.KeyFault.TheVariants as key
use Rattle.uri_refs.specs.CatalogEntries.{CatalogEntry}
use Rattle.uri_refs.specs.Catalogs as catalogs
use Rattle.uri_refs.specs.declared.catalog.CatalogFault.{CatalogFault}
use Rattle.uri_refs.specs.declared.catalog.CatalogFault.TheVariants as catalog
use Rattle.xml_doc.specs.Rows.{RowOf}
use Rattle.xml_read.specs.ReadOutcome as reading
use Rattle.xml_read.specs.declared.read.ReadRefusal.{ReadRefusal}
use Rattle.xml_read.specs.declared.read.ReadRefusal.TheVariants as read
use Rattle.xpath_syntax.specs.Outcome as parsing
use Rattle.xpath_syntax.specs.declared.expr.Expr.{Expr}
use Rattle.xpath_syntax.specs.declared.refusal.SyntaxRefusal.{SyntaxRefusal}
use Rattle.xpath_syntax.specs.declared.refusal.SyntaxRefusal.TheVariants as syntax
use Rattle.xpath_eval.specs.Context.{is_in}
use Rattle.xpath_eval.specs.Outcome as evaluating
use Rattle.xpath_eval.specs.declared.refusal.EvalRefusal.{EvalRefusal}
use Rattle.xpath_eval.specs.declared.refusal.EvalRefusal.TheVariants as eval
use Rattle.core_validate.specs.Answers as answers
use Rattle.transforms.specs.declared.outcome.Report.{Report}
use Rattle.transforms.specs.declared.outcome.ValidateRefusal.{ValidateRefusal}
use Rattle.transforms.specs.declared.outcome.ValidateRefusal.TheVariants as validation
use Rattle.self_test.specs.Outcome as testing
use Rattle.self_test.specs.declared.refusal.TestRefusal.{TestRefusal}
use Rattle.self_test.specs.declared.refusal.TestRefusal.TheVariants as test
use Rattle.signer.specs.Answers as signing
use Rattle.signer.specs.declared.refusal.SignRefusal.{SignRefusal}
use Rattle.signer.specs.declared.refusal.SignRefusal.TheVariants as sign
use Rattle.signer.specs.declared.template.TemplateRefusal.{TemplateRefusal}
use Rattle.signer.specs.declared.template.TemplateRefusal.TheVariants as template
use Rattle.xmldsig.specs.Stops.{catalog_stop, eval_stop, keys_stop, read_stop, sign_stop, syntax_stop, template_stop, test_stop, validate_stop}
use Rattle.xmldsig.specs.SelfTest.{test_cause}
use Rattle.xmldsig.specs.Sign.{sign_cause}
use Rattle.xmldsig.specs.Template.{template_cause}
use Rattle.xmldsig.specs.Code.Form.{Selects}
use Rattle.xmldsig.specs.Code.Stops.{Answers, AsksAll, StopCounts}
use Rattle.xmldsig.specs.declared.ending.Refusal.TheVariants as refusal
use Rattle.xmldsig.specs.declared.stop.Stop.{Stop}
use Rattle.xmldsig.specs.declared.stop.Stop.TheVariants as stop

-- ---- a key file

pub keys_stopped : (outcome : Result (List KeyEntry) KeyFault) (fault : KeyFault) → keys.Refuses fault outcome
    → Answers {A = List KeyEntry} (Err (keys_stop fault)) (with_cause refusal.Keys outcome)
keys_stopped outcome (key.BadLine line) e = ap (with_cause refusal.Keys) e
keys_stopped outcome (key.Repeated line earlier) e = ap (with_cause refusal.Keys) e
keys_stopped outcome key.TooMany e = ap (with_cause refusal.Keys) e
keys_stopped outcome key.Memory e = tt

pub keys_calm : (A : Type 0) (fault : KeyFault) → let r : Result A Stop = Err (keys_stop fault) in r ≢ Err stop.ReadFault
keys_calm A (key.BadLine line) = λ e. cc
keys_calm A (key.Repeated line earlier) = λ e. cc
keys_calm A key.TooMany = λ e. cc
keys_calm A key.Memory = λ e. cc

-- ---- a catalog

pub catalog_stopped : (outcome : Result (List CatalogEntry) CatalogFault) (fault : CatalogFault) → catalogs.Refuses fault outcome
    → Answers {A = List CatalogEntry} (Err (catalog_stop fault)) (with_cause refusal.Catalog outcome)
catalog_stopped outcome (catalog.BadLine line) e = ap (with_cause refusal.Catalog) e
catalog_stopped outcome (catalog.Repeated line earlier) e = ap (with_cause refusal.Catalog) e
catalog_stopped outcome catalog.TooMany e = ap (with_cause refusal.Catalog) e
catalog_stopped outcome catalog.Memory e = tt

pub catalog_calm : (A : Type 0) (fault : CatalogFault) → let r : Result A Stop = Err (catalog_stop fault) in r ≢ Err stop.ReadFault
catalog_calm A (catalog.BadLine line) = λ e. cc
catalog_calm A (catalog.Repeated line earlier) = λ e. cc
catalog_calm A catalog.TooMany = λ e. cc
catalog_calm A catalog.Memory = λ e. cc

-- ---- a document

pub read_stopped : (outcome : Result (List RowOf) ReadRefusal) (cause : ReadRefusal) → reading.Refuses cause outcome
    → Answers {A = List RowOf} (Err (read_stop cause)) (with_cause refusal.Read outcome)
read_stopped outcome read.TooLarge e = ap (with_cause refusal.Read) e
read_stopped outcome read.Encoding e = ap (with_cause refusal.Read) e
read_stopped outcome read.DocType e = ap (with_cause refusal.Read) e
read_stopped outcome read.NotWellFormed e = ap (with_cause refusal.Read) e
read_stopped outcome read.Namespaces e = ap (with_cause refusal.Read) e
read_stopped outcome read.TooDeep e = ap (with_cause refusal.Read) e
read_stopped outcome read.TooManyRows e = ap (with_cause refusal.Read) e
read_stopped outcome read.Memory e = tt

pub read_calm : (A : Type 0) (cause : ReadRefusal) → let r : Result A Stop = Err (read_stop cause) in r ≢ Err stop.ReadFault
read_calm A read.TooLarge = λ e. cc
read_calm A read.Encoding = λ e. cc
read_calm A read.DocType = λ e. cc
read_calm A read.NotWellFormed = λ e. cc
read_calm A read.Namespaces = λ e. cc
read_calm A read.TooDeep = λ e. cc
read_calm A read.TooManyRows = λ e. cc
read_calm A read.Memory = λ e. cc

pub read_counts : (A : Type 0) (cause : ReadRefusal) (before : ℕ) → StopCounts {A = A} (Err (read_stop cause)) before before
read_counts A read.TooLarge before = refl
read_counts A read.Encoding before = refl
read_counts A read.DocType before = refl
read_counts A read.NotWellFormed before = refl
read_counts A read.Namespaces before = refl
read_counts A read.TooDeep before = refl
read_counts A read.TooManyRows before = refl
read_counts A read.Memory before = refl

-- ---- an expression

pub syntax_stopped : (outcome : Result Expr SyntaxRefusal) (cause : SyntaxRefusal) → parsing.Refuses cause outcome
    → Answers {A = Expr} (Err (syntax_stop cause)) (with_cause refusal.Syntax outcome)
syntax_stopped outcome syntax.TooLong e = ap (with_cause refusal.Syntax) e
syntax_stopped outcome syntax.NotXPath e = ap (with_cause refusal.Syntax) e
syntax_stopped outcome syntax.TooDeep e = ap (with_cause refusal.Syntax) e
syntax_stopped outcome syntax.Fraction e = ap (with_cause refusal.Syntax) e
syntax_stopped outcome syntax.NumberRange e = ap (with_cause refusal.Syntax) e
syntax_stopped outcome syntax.Div e = ap (with_cause refusal.Syntax) e
syntax_stopped outcome syntax.Variable e = ap (with_cause refusal.Syntax) e
syntax_stopped outcome syntax.UnknownFunction e = ap (with_cause refusal.Syntax) e
syntax_stopped outcome syntax.Arity e = ap (with_cause refusal.Syntax) e
syntax_stopped outcome syntax.UnboundPrefix e = ap (with_cause refusal.Syntax) e
syntax_stopped outcome syntax.Memory e = tt

pub syntax_calm : (A : Type 0) (cause : SyntaxRefusal) → let r : Result A Stop = Err (syntax_stop cause) in r ≢ Err stop.ReadFault
syntax_calm A syntax.TooLong = λ e. cc
syntax_calm A syntax.NotXPath = λ e. cc
syntax_calm A syntax.TooDeep = λ e. cc
syntax_calm A syntax.Fraction = λ e. cc
syntax_calm A syntax.NumberRange = λ e. cc
syntax_calm A syntax.Div = λ e. cc
syntax_calm A syntax.Variable = λ e. cc
syntax_calm A syntax.UnknownFunction = λ e. cc
syntax_calm A syntax.Arity = λ e. cc
syntax_calm A syntax.UnboundPrefix = λ e. cc
syntax_calm A syntax.Memory = λ e. cc

pub eval_stopped : (outcome : Result (List ℕ) EvalRefusal) (cause : EvalRefusal) → evaluating.Refuses cause outcome
    → Selects (Err (eval_stop cause)) (and_then (with_cause refusal.Eval outcome) (λ ys. Ok (is_in ys)))
eval_stopped outcome eval.Fraction e = ap (λ o. and_then (with_cause refusal.Eval o) (λ ys. Ok (is_in ys))) e
eval_stopped outcome eval.NumberRange e = ap (λ o. and_then (with_cause refusal.Eval o) (λ ys. Ok (is_in ys))) e
eval_stopped outcome eval.NotNodes e = ap (λ o. and_then (with_cause refusal.Eval o) (λ ys. Ok (is_in ys))) e
eval_stopped outcome (eval.AmbiguousId first second) e = ap (λ o. and_then (with_cause refusal.Eval o) (λ ys. Ok (is_in ys))) e
eval_stopped outcome eval.HereElsewhere e = ap (λ o. and_then (with_cause refusal.Eval o) (λ ys. Ok (is_in ys))) e
eval_stopped outcome eval.Memory e = tt

pub eval_calm : (A : Type 0) (cause : EvalRefusal) → let r : Result A Stop = Err (eval_stop cause) in r ≢ Err stop.ReadFault
eval_calm A eval.Fraction = λ e. cc
eval_calm A eval.NumberRange = λ e. cc
eval_calm A eval.NotNodes = λ e. cc
eval_calm A (eval.AmbiguousId first second) = λ e. cc
eval_calm A eval.HereElsewhere = λ e. cc
eval_calm A eval.Memory = λ e. cc

-- ---- a signature

pub validate_stopped : (outcome : Result Report ValidateRefusal) (cause : ValidateRefusal) → answers.Refuses cause outcome
    → Answers {A = Report} (Err (validate_stop cause)) (with_cause refusal.Validate outcome)
validate_stopped outcome validation.NoSignature e = ap (with_cause refusal.Validate) e
validate_stopped outcome (validation.Fields field) e = ap (with_cause refusal.Validate) e
validate_stopped outcome validation.NoKey e = ap (with_cause refusal.Validate) e
validate_stopped outcome validation.UnknownKey e = ap (with_cause refusal.Validate) e
validate_stopped outcome validation.OctetsTooLong e = ap (with_cause refusal.Validate) e
validate_stopped outcome (validation.Reference i target) e = ap (with_cause refusal.Validate) e
validate_stopped outcome validation.FetchFailed e = tt
validate_stopped outcome validation.Memory e = tt

pub validate_asks : (cause : ValidateRefusal) (names old new : List (List ℕ)) → answers.AsksAll {A = Report} (Err cause) names old new
    → AsksAll {A = Report} (Err (validate_stop cause)) names old new
validate_asks validation.NoSignature names old new e = e
validate_asks (validation.Fields field) names old new e = e
validate_asks validation.NoKey names old new e = e
validate_asks validation.UnknownKey names old new e = e
validate_asks validation.OctetsTooLong names old new e = e
validate_asks (validation.Reference i target) names old new e = e
validate_asks validation.FetchFailed names old new e = e
validate_asks validation.Memory names old new e = e

pub validate_counts : (cause : ValidateRefusal) (before now : ℕ) → answers.FaultCounts {A = Report} (Err cause) before now
    → StopCounts {A = Report} (Err (validate_stop cause)) before now
validate_counts validation.NoSignature before now e = e
validate_counts (validation.Fields field) before now e = e
validate_counts validation.NoKey before now e = e
validate_counts validation.UnknownKey before now e = e
validate_counts validation.OctetsTooLong before now e = e
validate_counts (validation.Reference i target) before now e = e
validate_counts validation.FetchFailed before now e = e
validate_counts validation.Memory before now e = e

-- ---- a template that is filled in

pub sign_stopped : (outcome : Result (List ℕ) SignRefusal) (cause : SignRefusal) → signing.Refuses cause outcome
    → Answers {A = List ℕ} (Err (sign_stop cause)) (with_cause sign_cause outcome)
sign_stopped outcome (sign.Read why) e = ap (with_cause sign_cause) e
sign_stopped outcome sign.NoSignature e = ap (with_cause sign_cause) e
sign_stopped outcome (sign.Fields field) e = ap (with_cause sign_cause) e
sign_stopped outcome sign.NoKey e = ap (with_cause sign_cause) e
sign_stopped outcome sign.UnknownKey e = ap (with_cause sign_cause) e
sign_stopped outcome (sign.ShortTruncation bits) e = ap (with_cause sign_cause) e
sign_stopped outcome (sign.NotText row) e = ap (with_cause sign_cause) e
sign_stopped outcome (sign.Reference i target) e = ap (with_cause sign_cause) e
sign_stopped outcome (sign.Filled why) e = ap (with_cause sign_cause) e
sign_stopped outcome sign.OctetsTooLong e = ap (with_cause sign_cause) e
sign_stopped outcome (sign.CoversItself i) e = ap (with_cause sign_cause) e
sign_stopped outcome sign.FetchFailed e = tt
sign_stopped outcome sign.Memory e = tt

pub sign_asks : (cause : SignRefusal) (names old new : List (List ℕ)) → signing.AsksAll {A = List ℕ} (Err cause) names old new
    → AsksAll {A = List ℕ} (Err (sign_stop cause)) names old new
sign_asks (sign.Read why) names old new e = e
sign_asks sign.NoSignature names old new e = e
sign_asks (sign.Fields field) names old new e = e
sign_asks sign.NoKey names old new e = e
sign_asks sign.UnknownKey names old new e = e
sign_asks (sign.ShortTruncation bits) names old new e = e
sign_asks (sign.NotText row) names old new e = e
sign_asks (sign.Reference i target) names old new e = e
sign_asks (sign.Filled why) names old new e = e
sign_asks sign.OctetsTooLong names old new e = e
sign_asks (sign.CoversItself i) names old new e = e
sign_asks sign.FetchFailed names old new e = e
sign_asks sign.Memory names old new e = e

pub sign_counts : (cause : SignRefusal) (before now : ℕ) → signing.FaultCounts {A = List ℕ} (Err cause) before now
    → StopCounts {A = List ℕ} (Err (sign_stop cause)) before now
sign_counts (sign.Read why) before now e = e
sign_counts sign.NoSignature before now e = e
sign_counts (sign.Fields field) before now e = e
sign_counts sign.NoKey before now e = e
sign_counts sign.UnknownKey before now e = e
sign_counts (sign.ShortTruncation bits) before now e = e
sign_counts (sign.NotText row) before now e = e
sign_counts (sign.Reference i target) before now e = e
sign_counts (sign.Filled why) before now e = e
sign_counts sign.OctetsTooLong before now e = e
sign_counts (sign.CoversItself i) before now e = e
sign_counts sign.FetchFailed before now e = e
sign_counts sign.Memory before now e = e

-- ---- a template

pub template_stopped : (outcome : Result (List ℕ) TemplateRefusal) (cause : TemplateRefusal) → signing.TemplateRefuses cause outcome
    → Answers {A = List ℕ} (Err (template_stop cause)) (with_cause template_cause outcome)
template_stopped outcome (template.Read cause) e = ap (with_cause template_cause) e
template_stopped outcome template.Memory e = tt

pub template_calm : (A : Type 0) (cause : TemplateRefusal) → let r : Result A Stop = Err (template_stop cause) in r ≢ Err stop.ReadFault
template_calm A (template.Read cause) = λ e. cc
template_calm A template.Memory = λ e. cc

-- ---- a self-test

pub test_stopped : (outcome : Result (List ℕ) TestRefusal) (cause : TestRefusal) → testing.Refuses cause outcome
    → Answers {A = List ℕ} (Err (test_stop cause)) (with_cause test_cause outcome)
test_stopped outcome (test.Sign why) e = ap (with_cause test_cause) e
test_stopped outcome (test.Read why) e = ap (with_cause test_cause) e
test_stopped outcome (test.Validate why) e = ap (with_cause test_cause) e
test_stopped outcome test.Memory e = tt

pub test_calm : (A : Type 0) (cause : TestRefusal) → let r : Result A Stop = Err (test_stop cause) in r ≢ Err stop.ReadFault
test_calm A (test.Sign why) = λ e. cc
test_calm A (test.Read why) = λ e. cc
test_calm A (test.Validate why) = λ e. cc
test_calm A test.Memory = λ e. cc

use Rattle.std.proofs.Common.{◌≡◌, ◌∙◌, Ok, Err, map, Result, List, ℕ}
use Rattle.std.specs.Prelude.{encode_utf8_all}
use Rattle.std.proofs.lemmas.Result.{err_from_is_err_and}
use Rattle.dsig_base64.specs.Loose.{octets_in}
use Rattle.c14n_methods.specs.Methods.{canonical_form}
use Rattle.dsig_fields.specs.declared.fields.Step.TheVariants as step
use Rattle.transforms.specs.Code.Answers.{nodes_of}
use Rattle.transforms.specs.Expressions.{nodes_filtered, xpath_filtered}
use Rattle.transforms.specs.Steps.{enveloped, nodes_step, spelled, text_of_set, within}
use Rattle.transforms.specs.Values.{origin_of}
use Rattle.transforms.proofs.StepLaws.{base64_given, canon_given, enveloped_is, filters_is, xpath_is}
use Rattle.transforms.proofs.Stops.{refuses_on}
use Rattle.transforms.proofs.nodes.change.Goals as goal

pub returns-in_err-canonical-in-Canon-clause-value : goal.returns-in_err-canonical-in-Canon-clause-value
returns-in_err-canonical-in-Canon-clause-value c =
    let origin = origin_of c.args.doc.now c.args.signature in let nodes = nodes_of c.args.own c.args.set.now in let n = c.args.number in
    let cause = c.in_err-canonical-in-Canon.field-0.0 in
    let m = c.in-Canon.method in let prefixes = c.in-Canon.prefixes in
    let p = err_from_is_err_and c.from_residual.result c.from_residual.ensures.1 in
    rw (p.1, p.2, c.in-Canon.is)
    (refuses_on cause (within n (canonical_form m (map encode_utf8_all prefixes) nodes.rows nodes.set)) (nodes_step origin n (step.Canon m prefixes) nodes)
    (canon_given origin n nodes m prefixes (Err cause)) c.in_err-canonical-in-Canon.ensures)

pub returns-in_ok-canonical-in-Canon-clause-value : goal.returns-in_ok-canonical-in-Canon-clause-value
returns-in_ok-canonical-in-Canon-clause-value c =
    rw c.in-Canon.is
    (canon_given (origin_of c.args.doc.now c.args.signature) c.args.number (nodes_of c.args.own c.args.set.now) c.in-Canon.method c.in-Canon.prefixes (Ok c.in_ok-canonical-in-Canon.field-0) c.in_ok-canonical-in-Canon.ensures)

pub returns-in_err-decode_texts-in-Base64-clause-value : goal.returns-in_err-decode_texts-in-Base64-clause-value
returns-in_err-decode_texts-in-Base64-clause-value c =
    let origin = origin_of c.args.doc.now c.args.signature in let nodes = nodes_of c.args.own c.args.set.now in let n = c.args.number in
    let cause = c.in_err-decode_texts-in-Base64.field-0.0 in
    let p = err_from_is_err_and c.from_residual-in_err-decode_texts-in-Base64.result c.from_residual-in_err-decode_texts-in-Base64.ensures.1 in
    rw (p.1, p.2, c.in-Base64.is)
    (refuses_on cause (spelled n (octets_in (text_of_set nodes.rows nodes.set))) (nodes_step origin n step.Base64 nodes)
    (base64_given origin n nodes (Err cause)) c.in_err-decode_texts-in-Base64.ensures)

pub returns-in_ok-decode_texts-in-Base64-clause-value : goal.returns-in_ok-decode_texts-in-Base64-clause-value
returns-in_ok-decode_texts-in-Base64-clause-value c =
    rw c.in-Base64.is
    (base64_given (origin_of c.args.doc.now c.args.signature) c.args.number (nodes_of c.args.own c.args.set.now) (Ok c.in_ok-decode_texts-in-Base64.field-0) c.in_ok-decode_texts-in-Base64.ensures)

pub returns-in_err-leave_out-in-Enveloped-clause-value : goal.returns-in_err-leave_out-in-Enveloped-clause-value
returns-in_err-leave_out-in-Enveloped-clause-value c =
    let origin = origin_of c.args.doc.now c.args.signature in let nodes = nodes_of c.args.own c.args.set.now in let n = c.args.number in
    let cause = c.in_err-leave_out-in-Enveloped.field-0.0 in
    let p = err_from_is_err_and c.from_residual-in_err-leave_out-in-Enveloped.result c.from_residual-in_err-leave_out-in-Enveloped.ensures.1 in
    rw (p.1, p.2, c.in-Enveloped.is)
    (refuses_on cause (enveloped n c.args.signature nodes) (nodes_step origin n step.Enveloped nodes)
    (λ e. enveloped_is origin n nodes ∙ e) c.in_err-leave_out-in-Enveloped.ensures.members)

pub returns-in_ok-leave_out-in-Enveloped-clause-value : goal.returns-in_ok-leave_out-in-Enveloped-clause-value
returns-in_ok-leave_out-in-Enveloped-clause-value c =
    rw c.in-Enveloped.is
    (enveloped_is (origin_of c.args.doc.now c.args.signature) c.args.number (nodes_of c.args.own c.args.set.now) ∙ c.in_ok-leave_out-in-Enveloped.ensures.members)

pub returns-in_err-filter_by-in-XPath-clause-value : goal.returns-in_err-filter_by-in-XPath-clause-value
returns-in_err-filter_by-in-XPath-clause-value c =
    let origin = origin_of c.args.doc.now c.args.signature in let nodes = nodes_of c.args.own c.args.set.now in let n = c.args.number in
    let row = c.in-XPath.row in let text = c.in-XPath.text in
    let cause = c.in_err-filter_by-in-XPath.field-0.0 in
    let p = err_from_is_err_and c.from_residual-in_err-filter_by-in-XPath.result c.from_residual-in_err-filter_by-in-XPath.ensures.1 in
    rw (p.1, p.2, c.in-XPath.is)
    (refuses_on cause (xpath_filtered c.args.doc.now n row text nodes) (nodes_step origin n (step.XPath row text) nodes)
    (λ e. xpath_is origin n nodes row text ∙ e) c.in_err-filter_by-in-XPath.ensures.members)

pub returns-in_ok-filter_by-in-XPath-clause-value : goal.returns-in_ok-filter_by-in-XPath-clause-value
returns-in_ok-filter_by-in-XPath-clause-value c =
    rw c.in-XPath.is
    (xpath_is (origin_of c.args.doc.now c.args.signature) c.args.number (nodes_of c.args.own c.args.set.now) c.in-XPath.row c.in-XPath.text
    ∙ c.in_ok-filter_by-in-XPath.ensures.members)

pub returns-in_err-apply_filters-in-Filters-clause-value : goal.returns-in_err-apply_filters-in-Filters-clause-value
returns-in_err-apply_filters-in-Filters-clause-value c =
    let origin = origin_of c.args.doc.now c.args.signature in let nodes = nodes_of c.args.own c.args.set.now in let n = c.args.number in
    let filters = c.in-Filters.filters in
    let cause = c.in_err-apply_filters-in-Filters.field-0.0 in
    let p = err_from_is_err_and c.from_residual-in_err-apply_filters-in-Filters.result c.from_residual-in_err-apply_filters-in-Filters.ensures.1 in
    rw (p.1, p.2, c.in-Filters.is)
    (refuses_on cause (nodes_filtered c.args.doc.now n filters nodes) (nodes_step origin n (step.Filters filters) nodes)
    (λ e. filters_is origin n nodes filters ∙ e) c.in_err-apply_filters-in-Filters.ensures.members)

pub returns-in_ok-apply_filters-in-Filters-clause-value : goal.returns-in_ok-apply_filters-in-Filters-clause-value
returns-in_ok-apply_filters-in-Filters-clause-value c =
    rw c.in-Filters.is
    (filters_is (origin_of c.args.doc.now c.args.signature) c.args.number (nodes_of c.args.own c.args.set.now) c.in-Filters.filters
    ∙ c.in_ok-apply_filters-in-Filters.ensures.members)

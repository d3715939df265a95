use Rattle.std.proofs.Common.{◌≡◌, ◌∙◌, ℕ, List, [], length, ap, sym}
use Rattle.digests_hmac.specs.Hash.{hash}
use Rattle.core_validate.proofs.MeasureLaws.{kept_is}
use Rattle.core_validate.proofs.view.measure_kept.Goals as goal

pub returns-in-Ok-clause-measured : goal.returns-in-Ok-clause-measured
returns-in-Ok-clause-measured g c = λ files tells.
    let whole = (c.in-Ok.ensures.view files tells).by in
    let octets : c.finish-view.result ≡ whole.view = c.finish-view.ensures ∙ sym (whole.appended.at [] (sym (ap (λ (s : List ℕ × ℕ). s.0) c.new-sink.ensures))) in
    let count : c.len.result ≡ length whole.view = c.len.ensures ∙ ap (λ (t : List ℕ). length t) octets in
    let value : c.digest.result ≡ hash c.args.reference.now.digest whole.view = c.digest.ensures.value ∙ ap (hash c.args.reference.now.digest) (c.bytes.ensures ∙ octets) in
    record { view = whole.view; outcome_is = whole.is; is = kept_is c.args.reference.now.digest c.len.result c.digest.result c.finish-view.result whole.view count value octets }

pub returns-in-Ok-clause-shape : goal.returns-in-Ok-clause-shape
returns-in-Ok-clause-shape g c =
    let limited = c.in-Ok.ensures.sink.by in
    let octets : c.finish-view.result ≡ limited.view = c.finish-view.ensures ∙ sym (limited.appended.at [] (sym (ap (λ (s : List ℕ × ℕ). s.0) c.new-sink.ensures))) in
    let count : c.len.result ≡ length limited.view = c.len.ensures ∙ ap (λ (t : List ℕ). length t) octets in
    let value : c.digest.result ≡ hash c.args.reference.now.digest limited.view = c.digest.ensures.value ∙ ap (hash c.args.reference.now.digest) (c.bytes.ensures ∙ octets) in
    record { view = limited.view; within = limited.within; is = kept_is c.args.reference.now.digest c.len.result c.digest.result c.finish-view.result limited.view count value octets }

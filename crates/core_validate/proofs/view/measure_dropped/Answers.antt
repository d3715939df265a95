use Rattle.std.proofs.Common.{◌≡◌, ◌∙◌, ◌≤◌, ℕ, List, [], length, min, ap, sym, arith}
use Rattle.digests_hmac.specs.Hash.{hash}
use Rattle.core_validate.proofs.MeasureLaws.{dropped_is}
use Rattle.core_validate.proofs.view.measure_dropped.Goals as goal

pub returns-in-Ok-clause-measured : goal.returns-in-Ok-clause-measured
returns-in-Ok-clause-measured g c = λ files tells.
    let whole = (c.in-Ok.ensures.view files tells).by in
    let limited = c.in-Ok.ensures.sink.by in
    let counted = whole.appended.at [] c.new-sink.ensures.empty in
    let short = limited.appended.at [] c.new-sink.ensures.empty in
    let one : c.count.result ≡ min (length whole.view) 18446744073709551615 = c.count.ensures ∙ counted.count in
    let other : c.count.result ≡ min (length limited.view) 18446744073709551615 = c.count.ensures ∙ short.count in
    let within : length limited.view ≤ 33554432 = limited.within in
    let count : c.count.result ≡ length whole.view = omega arith in
    let value : c.finish.result ≡ hash c.args.reference.now.digest whole.view =
    c.finish.ensures whole.view counted.digest ∙ whole.appended.same whole.view ∙ c.new-sink.ensures.makes whole.view in
    record { view = whole.view; outcome_is = whole.is; is = dropped_is c.args.reference.now.digest c.count.result c.finish.result whole.view count value }

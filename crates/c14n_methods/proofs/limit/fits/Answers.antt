use Rattle.std.proofs.Common.{◌∙◌, ap, []}
use Rattle.std.specs.Prelude.{nat_le}
use Rattle.c14n_methods.specs.Limits.{octet_limit}
use Rattle.c14n_methods.proofs.WithinLaws.{count_within, nothing_counted, refused_at}
use Rattle.c14n_methods.proofs.limit.fits.Goals as goal

pub returns-in-Ok : goal.returns-in-Ok
returns-in-Ok c =
    let counts = c.in-Ok.ensures.by.at [] (nothing_counted c.new-sink.result c.new-sink.ensures) in
    c.is_within.ensures ∙ ap (λ n. nat_le n octet_limit) counts.0 ∙ count_within _

pub returns-in-Err-SinkRefused : goal.returns-in-Err-SinkRefused
returns-in-Err-SinkRefused c =
    let stopped = rw c.in-Err-SinkRefused.field-0-is at c.in-Err-SinkRefused.ensures.by in
    let counts = stopped.appended.at [] (nothing_counted c.new-sink.result c.new-sink.ensures) in
    refused_at c.new-sink.result c.canon.new.sink stopped.front stopped.back _ c.new-sink.ensures stopped.joined stopped.rose counts

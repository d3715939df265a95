use Rattle.std.proofs.Common.{◌-◌, ℕ, length, take, drop, ap, ◌∙◌, arith}
use Rattle.c14n_bases.specs.Join.{join}
use Rattle.c14n_bases.specs.Code.Placed.{value_at}
use Rattle.c14n_bases.specs.declared.place.Start.{Start}
use Rattle.c14n_bases.proofs.LengthLemmas.{join_length}
use Rattle.c14n_bases.proofs.SegmentLemmas.{rest_whole}
use Rattle.c14n_bases.proofs.JoinedLemmas.{at-end, written-value}
use Rattle.c14n_bases.proofs.joined.join_anew.Goals as goal

pub put_before-begin-requires-clause-room : goal.put_before-begin-requires-clause-room
put_before-begin-requires-clause-room c =
    let buffer = c.args.buffer.now in let from = c.args.from in
    let n = ap (length {A = ℕ}) (c.deref.ensures.value ∙ c.join_into.ensures.items) in
    let most = join_length c.args.base.now (take (length buffer - from) (drop from buffer)) in
    let whole = ap (length {A = ℕ}) (rest_whole from buffer) in
    let room = c.requires.room in
    omega arith

pub returns-clause-value : goal.returns-clause-value
returns-clause-value c =
    let later = c.put_before-begin.new.buffer in let start = c.start_of-start.ensures in
    ap (λ (s : Start). value_at s later) c.known_place.ensures.start
    ∙ written-value c.start_of-start.result c.put_before-begin.result later start.upwards start.from
    ∙ at-end c.put_before-begin.result c.args.buffer.now c.deref.result.now later c.put_before-begin.ensures.value ∙ c.deref.ensures.value ∙ c.join_into.ensures.items
    ∙ ap (join c.args.base.now) (rest_whole c.args.from c.args.buffer.now)

pub returns-clause-upwards : goal.returns-clause-upwards
returns-clause-upwards c = ap (λ (s : Start). s.upwards) c.known_place.ensures.start ∙ c.start_of-start.ensures.upwards

pub returns-clause-stands : goal.returns-clause-stands
returns-clause-stands c =
    let buffer = c.args.buffer.now in let from = c.args.from in
    let later = c.put_before-begin.new.buffer in let start = c.start_of-start.ensures in
    let is = written-value c.start_of-start.result c.put_before-begin.result later start.upwards start.from
    ∙ at-end c.put_before-begin.result buffer c.deref.result.now later c.put_before-begin.ensures.value ∙ c.deref.ensures.value ∙ c.join_into.ensures.items in
    c.known_place.ensures.stands c.args.base.now (take (length buffer - from) (drop from buffer)) is c.is_scheme_below-with_scheme.ensures

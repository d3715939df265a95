use Rattle.std.proofs.Common.{◌≡◌, ◌-◌, ℕ, List, length, take, drop, ap, ◌∙◌, arith}
use Rattle.c14n_bases.specs.Join.{cleaned_value, cut}
use Rattle.c14n_bases.specs.declared.kind.Kind.{Kind}
use Rattle.c14n_bases.specs.declared.place.Start.{Start}
use Rattle.c14n_bases.specs.Code.Clean.{kind_of}
use Rattle.c14n_bases.specs.Code.Placed.{CleansTo}
use Rattle.c14n_bases.proofs.LengthLemmas.{cleaned-length}
use Rattle.c14n_bases.proofs.SegmentLemmas.{rest_whole}
use Rattle.c14n_bases.proofs.JoinedLemmas.{at-end, written-value}
use Rattle.c14n_bases.proofs.joined.join_raw.Goals as goal

pub put_before-begin-requires-clause-room : goal.put_before-begin-requires-clause-room
put_before-begin-requires-clause-room c =
    let buffer = c.args.buffer.now in let from = c.args.from in
    let n = ap (length {A = ℕ}) (c.deref.ensures.value ∙ c.clean_own-kind.ensures.items) in
    let few = cleaned-length (take (length buffer - from) (drop from buffer)) in
    let whole = ap (length {A = ℕ}) (rest_whole from buffer) in let room = c.requires.room in
    omega arith

-- the value that is put at the end is what the text cleans to
put : (from begin : ℕ) (buffer spare octets later : List ℕ) (kind : Kind) (start : Start) → drop begin later ≡ octets → octets ≡ spare
    → spare ≡ cleaned_value (cut (take (length buffer - from) (drop from buffer))) → kind ≡ kind_of (cut (take (length buffer - from) (drop from buffer)))
    → start.upwards ≡ 0 → start.from ≡ begin → CleansTo (drop from buffer) kind start.upwards (drop start.from later)
put from begin buffer spare octets later kind start is same cleaned k none at =
    let e = rest_whole from buffer in
    record {
      is = written-value start begin later none at ∙ is ∙ same ∙ cleaned ∙ ap (λ (l : List ℕ). cleaned_value (cut l)) e;
      by_parts = k ∙ ap (λ (l : List ℕ). kind_of (cut l)) e;
      only = λ not. none;
    }

pub join_cleaned-requires-clause-room : goal.join_cleaned-requires-clause-room
join_cleaned-requires-clause-room c =
    let buffer = c.args.buffer.now in let from = c.args.from in let begin = c.put_before-begin.result in let later = c.put_before-begin.new.buffer in
    let start = c.start_of-start in let own = c.clean_own-kind in
    let auto = c.put_before-begin.auto.buffer in let room = c.requires.room in
    record {
      text = drop from buffer;
      cleans = put from begin buffer own.new.spare.items c.deref.result.now later own.result start.result
          (at-end begin buffer c.deref.result.now later c.put_before-begin.ensures.value) c.deref.ensures.value own.ensures.items own.ensures.kind
          start.ensures.upwards start.ensures.from;
      room = omega arith;
    }

pub returns-clause-value : goal.returns-clause-value
returns-clause-value c =
    let buffer = c.args.buffer.now in let from = c.args.from in let begin = c.put_before-begin.result in let later = c.put_before-begin.new.buffer in
    let start = c.start_of-start in let own = c.clean_own-kind in
    c.join_cleaned.ensures.value (drop from buffer)
    (put from begin buffer own.new.spare.items c.deref.result.now later own.result start.result
    (at-end begin buffer c.deref.result.now later c.put_before-begin.ensures.value) c.deref.ensures.value own.ensures.items own.ensures.kind
    start.ensures.upwards start.ensures.from)

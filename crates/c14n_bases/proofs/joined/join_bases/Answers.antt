use Rattle.std.proofs.Common.{◌++◌, ℕ, List, length, drop, ap, ◌∙◌, append-nil, arith}
use Rattle.c14n_bases.specs.Joined.{base_at}
use Rattle.c14n_bases.specs.Code.Placed.{CleansTo, front_octets}
use Rattle.c14n_bases.proofs.LengthLemmas.{cleaned-length}
use Rattle.c14n_bases.proofs.JoinedLemmas.{nothing-behind}
use Rattle.c14n_bases.proofs.joined.join_bases.Goals as goal

pub put_front-start-requires-clause-room : goal.put_front-start-requires-clause-room
put_front-start-requires-clause-room c =
    let inner = base_at c.args.bases.now.bases c.args.inner in
    let long = ap (length {A = ℕ}) c.whole_front-front.ensures.octets in let few = cleaned-length inner in let from = c.start_of-end.ensures.from in
    let room = c.requires.room in
    omega arith

pub join_cleaned-requires-clause-room : goal.join_cleaned-requires-clause-room
join_cleaned-requires-clause-room c =
    let inner = base_at c.args.bases.now.bases c.args.inner in let buffer = c.args.buffer.now in let room = c.requires.room in
    let auto = c.put_front-start.auto.buffer in
    let cleans : CleansTo inner c.kind.result c.put_front-start.result.upwards (drop c.put_front-start.result.from c.put_front-start.new.buffer) =
    record {
      is = c.put_front-start.ensures.value
          ∙ ap (λ (l : List ℕ). front_octets c.whole_front-front.result ++ l) (ap (λ (n : ℕ). drop n buffer) c.start_of-end.ensures.from ∙ nothing-behind buffer)
          ∙ append-nil (front_octets c.whole_front-front.result) ∙ c.whole_front-front.ensures.octets;
      by_parts = c.kind.ensures;
      only = λ not. c.put_front-start.ensures.counted (c.whole_front-front.ensures.only (λ e. not (c.kind.ensures ∙ e)));
    } in
    record { text = inner; cleans = cleans; room = omega arith }

pub returns-clause-value : goal.returns-clause-value
returns-clause-value c =
    let inner = base_at c.args.bases.now.bases c.args.inner in let buffer = c.args.buffer.now in
    let cleans : CleansTo inner c.kind.result c.put_front-start.result.upwards (drop c.put_front-start.result.from c.put_front-start.new.buffer) =
    record {
      is = c.put_front-start.ensures.value
          ∙ ap (λ (l : List ℕ). front_octets c.whole_front-front.result ++ l) (ap (λ (n : ℕ). drop n buffer) c.start_of-end.ensures.from ∙ nothing-behind buffer)
          ∙ append-nil (front_octets c.whole_front-front.result) ∙ c.whole_front-front.ensures.octets;
      by_parts = c.kind.ensures;
      only = λ not. c.put_front-start.ensures.counted (c.whole_front-front.ensures.only (λ e. not (c.kind.ensures ∙ e)));
    } in
    c.join_cleaned.ensures.value inner cleans

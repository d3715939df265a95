use Rattle.std.proofs.Common.{◌≡◌, ◌+◌, ◌++◌, ℕ, cond, List, [], length, drop, ap, ◌∙◌, arith}
use Rattle.std.specs.Prelude.{codes}
use Rattle.c14n_bases.specs.Code.Climbs.{climbs}
use Rattle.c14n_bases.specs.Code.Placed.{front_octets}
use Rattle.c14n_bases.proofs.JoinedLemmas.{behind-same}
use Rattle.c14n_bases.proofs.UpwardsLemmas.{front-length, front-pieces}
use Rattle.c14n_bases.proofs.joined.put_octets.Goals as goal

pub returns-then-begins_upwards-clause-behind : goal.returns-then-begins_upwards-clause-behind
returns-then-begins_upwards-clause-behind c =
    let put = c.put_before-behind.ensures in
    behind-same c.put_before-behind.result c.args.from c.args.front.names.now c.args.buffer.now c.put_before-behind.new.buffer put.begin put.value

pub returns-then-begins_upwards-clause-room : goal.returns-then-begins_upwards-clause-room
returns-then-begins_upwards-clause-room c =
    let f = c.args.front in let long = front-length f.roots.now (cond f.absolute (codes "/") []) f.names.now f.upwards in
    let begin = c.put_before-behind.ensures.begin in let room = c.requires.room in
    omega arith

pub put_upwards-upwards-requires-clause-room : goal.put_upwards-upwards-requires-clause-room
put_upwards-upwards-requires-clause-room c =
    let f = c.args.front in let long = front-length f.roots.now (cond f.absolute (codes "/") []) f.names.now f.upwards in
    let begin = c.put_before-behind.ensures.begin in let room = c.requires.room in
    omega arith

pub put_before-root-requires-clause-room : goal.put_before-root-requires-clause-room
put_before-root-requires-clause-room c =
    let f = c.args.front in let long = front-length f.roots.now (cond f.absolute (codes "/") []) f.names.now f.upwards in
    let slash = ap (length {A = ℕ}) c.slash_if.ensures in
    let begin = c.put_before-behind.ensures.begin in let next = c.put_upwards-upwards.ensures.begin in let room = c.requires.room in
    omega arith

pub put_before-requires-clause-room : goal.put_before-requires-clause-room
put_before-requires-clause-room c =
    let f = c.args.front in let long = front-length f.roots.now (cond f.absolute (codes "/") []) f.names.now f.upwards in
    let slash = ap (length {A = ℕ}) c.slash_if.ensures in
    let begin = c.put_before-behind.ensures.begin in let next = c.put_upwards-upwards.ensures.begin in let last = c.put_before-root.ensures.begin in
    let room = c.requires.room in
    omega arith

pub returns-clause-behind : goal.returns-clause-behind
returns-clause-behind c =
    let f = c.args.front in let slash = cond f.absolute (codes "/") [] in let text = drop c.args.from c.args.buffer.now in
    let is = c.put_before.ensures.value
    ∙ ap (λ (l : List ℕ). f.roots.now ++ l) (c.put_before-root.ensures.value
    ∙ ap (λ (l : List ℕ). l ++ drop c.put_upwards-upwards.result c.put_upwards-upwards.new.buffer) c.slash_if.ensures
    ∙ ap (λ (l : List ℕ). slash ++ l) (c.put_upwards-upwards.ensures.value ∙ ap (λ (l : List ℕ). climbs f.upwards ++ l) c.put_before-behind.ensures.value))
    ∙ front-pieces f.roots.now slash f.names.now text f.upwards in
    let long = front-length f.roots.now slash f.names.now f.upwards in
    let same = ap (length {A = ℕ}) c.slash_if.ensures in
    let begin = c.put_before-behind.ensures.begin in let next = c.put_upwards-upwards.ensures.begin in let root = c.put_before-root.ensures.begin in
    let last = c.put_before.ensures.begin in
    let at : c.put_before.result + length (front_octets f) ≡ c.args.from = omega arith in
    behind-same c.put_before.result c.args.from (front_octets f) c.args.buffer.now c.put_before.new.buffer at is

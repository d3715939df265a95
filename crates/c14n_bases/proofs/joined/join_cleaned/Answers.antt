use Rattle.std.proofs.Common.{◌≡◌, ◌-◌, ◌++◌, ℕ, false, List, length, take, drop, ap, sym, ◌∙◌, arith, length-append}
use Rattle.std.specs.Prelude.{codes}
use Rattle.std.proofs.lemmas.List.{length-drop}
use Rattle.c14n_bases.specs.Join.{begins, join}
use Rattle.c14n_bases.specs.Joined.{base_at}
use Rattle.c14n_bases.specs.declared.front.Front.{Front}
use Rattle.c14n_bases.specs.declared.kind.Kind.{Kind}
use Rattle.c14n_bases.specs.declared.kind.Kind.TheVariants.{Relative}
use Rattle.c14n_bases.specs.declared.place.Start.{Start}
use Rattle.c14n_bases.specs.Code.Climbs.{climbs}
use Rattle.c14n_bases.specs.Code.Placed.{CleansTo, front_octets, value_at}
use Rattle.c14n_bases.proofs.LengthLemmas.{join_length}
use Rattle.c14n_bases.proofs.SegmentLemmas.{rest_whole}
use Rattle.c14n_bases.proofs.UpwardsLemmas.{cleans-same}
use Rattle.c14n_bases.proofs.joined.join_cleaned.Goals as goal

-- the front that is found stands before the value, whose `../` are counted
joins : (base text buffer : List ℕ) (kind : Kind) (old start : Start) (front : Front) → CleansTo text kind old.upwards (drop old.from buffer)
    → value_at start buffer ≡ value_at old buffer → ((kind ≡ Relative → ⊥) → start.upwards ≡ old.upwards) → (kind ≡ Relative → begins (codes "../") (drop start.from buffer) ≡ false)
    → ((text : List ℕ) → CleansTo text kind start.upwards (take (length buffer - start.from) (drop start.from buffer))
    → (kind ≡ Relative → begins (codes "../") (take (length buffer - start.from) (drop start.from buffer)) ≡ false)
    → front_octets front ++ take (length buffer - start.from) (drop start.from buffer) ≡ join base text)
    → front_octets front ++ drop start.from buffer ≡ join base text
joins base text buffer kind old start front cleans same only all found =
    let e = rest_whole start.from buffer in
    let tail = take (length buffer - start.from) (drop start.from buffer) in
    ap (λ (l : List ℕ). front_octets front ++ l) (sym e)
    ∙ found text (cleans-same text kind old.upwards start.upwards (drop old.from buffer) tail cleans (ap (λ (l : List ℕ). climbs start.upwards ++ l) e ∙ same) only)
    (λ k. ap (begins (codes "../")) e ∙ all k)

pub put_front-begin-requires-clause-room : goal.put_front-begin-requires-clause-room
put_front-begin-requires-clause-room c =
    let base = base_at c.args.bases.now.bases c.args.k in let buffer = c.args.buffer.now in let start = c.counted-start.result in
    let counted = c.counted-start.ensures in let front = front_octets c.front_of-front.result in
    let has = c.requires.room in
    let e = joins base has.text buffer c.args.kind c.args.start start c.front_of-front.result has.cleans counted.value counted.only counted.all c.front_of-front.ensures in
    let long = sym (length-append front (drop start.from buffer)) ∙ ap (length {A = ℕ}) e in
    let most = join_length base has.text in let left = length-drop start.from buffer in
    let within = counted.starts.within in let room = has.room in
    omega arith

pub returns-clause-value : goal.returns-clause-value
returns-clause-value c = λ (text : List ℕ) (cleans : CleansTo text c.args.kind c.args.start.upwards (drop c.args.start.from c.args.buffer.now)).
    let base = base_at c.args.bases.now.bases c.args.k in let counted = c.counted-start.ensures in
    ap (λ (s : Start). value_at s c.put_front-begin.new.buffer) c.known_place.ensures.start ∙ c.put_front-begin.ensures.value
    ∙ joins base text c.args.buffer.now c.args.kind c.args.start c.counted-start.result c.front_of-front.result cleans counted.value counted.only counted.all c.front_of-front.ensures

pub returns-clause-stands : goal.returns-clause-stands
returns-clause-stands c =
    let base = base_at c.args.bases.now.bases c.args.k in let counted = c.counted-start.ensures in
    let has = c.requires.room in
    c.known_place.ensures.stands base has.text
    (c.put_front-begin.ensures.value
    ∙ joins base has.text c.args.buffer.now c.args.kind c.args.start c.counted-start.result c.front_of-front.result has.cleans counted.value counted.only counted.all c.front_of-front.ensures)
    (c.is_with_scheme-with_scheme.ensures has.text has.cleans.by_parts)

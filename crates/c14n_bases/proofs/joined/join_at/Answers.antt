use Rattle.std.proofs.Common.{drop, subst}
use Rattle.std.specs.Prelude.{Option}
use Rattle.c14n_bases.specs.declared.kind.Kind.{Kind}
use Rattle.c14n_bases.specs.Code.Clean.{Fits}
use Rattle.c14n_bases.specs.Code.Placed.{value_at}
use Rattle.c14n_bases.proofs.UpwardsLemmas.{cleans-known}
use Rattle.c14n_bases.proofs.joined.join_at.Goals as goal

pub join_cleaned-requires-clause-room : goal.join_cleaned-requires-clause-room
join_cleaned-requires-clause-room c =
    let start = c.args.place.start in let buffer = c.args.buffer.now in
    let fits = subst (λ (o : Option Kind). Fits o (value_at start buffer)) c.in-Some.is c.requires.stands.fits in
    record { text = value_at start buffer; cleans = cleans-known c.in-Some.kind start.upwards (drop start.from buffer) fits; room = c.requires.room }

pub returns-in-Some-clause-value : goal.returns-in-Some-clause-value
returns-in-Some-clause-value c =
    let start = c.args.place.start in let buffer = c.args.buffer.now in
    let fits = subst (λ (o : Option Kind). Fits o (value_at start buffer)) c.in-Some.is c.requires.stands.fits in
    c.join_cleaned.ensures.value (value_at start buffer) (cleans-known c.in-Some.kind start.upwards (drop start.from buffer) fits)

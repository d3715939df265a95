use Rattle.std.proofs.Common.{ap, sym, subst, ◌∙◌}
use Rattle.c14n_rows.specs.declared.bases.Joining.{Joining}
use Rattle.c14n_rows.specs.Rules.{rule_of}
use Rattle.c14n_rows.specs.Code.Joined.{found_of, IsSettled}
use Rattle.c14n_rows.proofs.StacksLemmas.{keeps-then, keeps_ordered-then, ordered_at-kept, room-kept}
use Rattle.c14n_rows.proofs.walk.open_row.Goals as goal

pub joined_base-found-requires-clause-room : goal.joined_base-found-requires-clause-room
joined_base-found-requires-clause-room g c = room-kept c.args.doc.now (rule_of c.args.method) c.args.x c.args.stacks.now _ c.keep_imports.ensures.kept c.requires.room

pub put_opening-requires-clause-there : goal.put_opening-requires-clause-there
put_opening-requires-clause-there g c = c.lend-base.ensures.there c.args.doc.now c.joined_base-found.ensures.there

pub put_opening-requires-clause-base : goal.put_opening-requires-clause-base
put_opening-requires-clause-base g c = c.lend-base.ensures.value ∙ ap (found_of c.joined_base-found.result) c.mark_prefixes.ensures.joining ∙ c.joined_base-found.ensures.value

pub put_opening-requires-clause-ordered : goal.put_opening-requires-clause-ordered
put_opening-requires-clause-ordered g c = ordered_at-kept c.args.doc.now c.args.x c.args.ordered.now _ c.keep_imports.ensures.ordered_kept c.requires.ordered_room

pub mark_prefixes-requires-clause-room : goal.mark_prefixes-requires-clause-room
mark_prefixes-requires-clause-room g c =
    room-kept c.args.doc.now (rule_of c.args.method) c.args.x c.args.stacks.now _ (keeps-then c.args.stacks.now _ _ c.keep_imports.ensures.kept c.joined_base-found.ensures.kept) c.requires.room

pub enter-requires-clause-room : goal.enter-requires-clause-room
enter-requires-clause-room g c =
    room-kept c.args.doc.now (rule_of c.args.method) c.args.x c.args.stacks.now _
    (keeps-then c.args.stacks.now _ _ (keeps-then c.args.stacks.now _ _ c.keep_imports.ensures.kept c.joined_base-found.ensures.kept) c.mark_prefixes.ensures.kept) c.requires.room

pub returns-in-Refused-clause-kept : goal.returns-in-Refused-clause-kept
returns-in-Refused-clause-kept g c =
    keeps-then c.args.stacks.now _ _ (keeps-then c.args.stacks.now _ _ c.keep_imports.ensures.kept c.joined_base-found.ensures.kept) c.mark_prefixes.ensures.kept

pub returns-in-Refused-clause-ordered_kept : goal.returns-in-Refused-clause-ordered_kept
returns-in-Refused-clause-ordered_kept g c = keeps_ordered-then c.args.ordered.now _ _ c.keep_imports.ensures.ordered_kept c.in-Refused.ensures.kept

pub returns-clause-kept : goal.returns-clause-kept
returns-clause-kept g c =
    keeps-then c.args.stacks.now _ _
    (keeps-then c.args.stacks.now _ _ (keeps-then c.args.stacks.now _ _ c.keep_imports.ensures.kept c.joined_base-found.ensures.kept) c.mark_prefixes.ensures.kept) c.enter.ensures.kept

pub returns-clause-ordered_kept : goal.returns-clause-ordered_kept
returns-clause-ordered_kept g c = keeps_ordered-then c.args.ordered.now _ _ c.keep_imports.ensures.ordered_kept c.in_default.ensures.kept

pub lend-base-requires : goal.lend-base-requires
lend-base-requires g c = subst (λ (j : Joining). IsSettled c.joined_base-found.result j) (sym c.mark_prefixes.ensures.joining) c.joined_base-found.ensures.settled

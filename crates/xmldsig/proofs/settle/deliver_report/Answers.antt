use Rattle.std.proofs.Common.{◌∙◌, ap, length}
use Rattle.std.proofs.lemmas.List.FromFn.{length-map-range_with_len}
use Rattle.signed_views.specs.Names.{name_at, view_names}
use Rattle.signed_views.specs.declared.handing.Handed.TheVariants as handed
use Rattle.xmldsig.specs.Outcome.{pairs_for}
use Rattle.xmldsig.proofs.Endings.{have_handed, have_handed_pairs, have_prefix, pairs_are}
use Rattle.xmldsig.proofs.settle.deliver_report.Goals as goal

pub returns-in_default-clause-keepers : goal.returns-in_default-clause-keepers
returns-in_default-clause-keepers g c = have_prefix _ _ _

pub returns-in_default-view_names-clause-keepers : goal.returns-in_default-view_names-clause-keepers
returns-in_default-view_names-clause-keepers g c = have_prefix _ _ _

pub hand_on-requires : goal.hand_on-requires
hand_on-requires g c = ap length c.in-Ok-view_names.ensures ∙ length-map-range_with_len (name_at c.as_str.result.now) 0 _ ∙ c.len.ensures

pub returns-in-Memory-clause-keepers : goal.returns-in-Memory-clause-keepers
returns-in-Memory-clause-keepers g c =
    let names = c.in-Ok-view_names.ensures ∙ ap (view_names c.as_str.result.now) c.len.ensures in
    let same = pairs_are c.args.views.now c.args.told.report c.in-Some.dir c.as_str.result.now c.in-Valid.kept _ c.in-Some.is c.in-Valid.is c.as_str.ensures.bytes names in
    have_handed g.K.ViewKeeper.pairs _ _ (pairs_for c.args.views.now c.args.told.report) (handed.Memory c.in-Memory.view c.in-Memory.keeper)
    (have_handed_pairs g.K.ViewKeeper.pairs _ _ c.args.views.now c.args.told.report _ (handed.Memory c.in-Memory.view c.in-Memory.keeper) same c.in-Memory.ensures.grew)

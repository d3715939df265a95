use Rattle.std.proofs.Common.{◌≡◌, ℕ, List, length, arith}
use Rattle.c14n_bases.specs.Code.Kept.{KeptIn}
use Rattle.c14n_bases.proofs.KeptLemmas.{name_kept, name_gone, up_kept_if}
use Rattle.c14n_bases.proofs.fill.add_segment.Goals as goal

pub returns-then-not-is_up-clause-kept : goal.returns-then-not-is_up-clause-kept
returns-then-not-is_up-clause-kept c = λ (front : List ℕ) (kept : List (List ℕ)) (at : c.args.floor ≡ length front) (k : KeptIn c.args.absolute front kept c.args.into.now.items c.args.names.now).
    name_kept c.args.absolute front c.args.floor at kept c.args.into.now.items c.push_segment.new.into.items c.args.segment.now c.args.names.now c.if-is_same.ensures c.if-not-is_up.ensures c.requires.plain c.push_segment.ensures.items k

pub returns-then-names-gt0-clause-kept : goal.returns-then-names-gt0-clause-kept
returns-then-names-gt0-clause-kept c = λ (front : List ℕ) (kept : List (List ℕ)) (at : c.args.floor ≡ length front) (k : KeptIn c.args.absolute front kept c.args.into.now.items c.args.names.now).
    name_gone c.args.absolute front c.args.floor at kept c.args.into.now.items c.cut_back.new.into.items c.args.segment.now c.args.names.now c.if-is_same.ensures c.if-not-is_up.ensures c.if-names-gt0.true c.cut_back.ensures.items k

pub returns-then-not-absolute-clause-kept : goal.returns-then-not-absolute-clause-kept
returns-then-not-absolute-clause-kept c = λ (front : List ℕ) (kept : List (List ℕ)) (at : c.args.floor ≡ length front) (k : KeptIn c.args.absolute front kept c.args.into.now.items c.args.names.now).
    up_kept_if c.args.absolute front c.args.floor at c.if-not-absolute.true kept c.args.into.now.items c.push_segment-then-not-absolute.new.into.items c.args.segment.now c.args.names.now c.if-is_same.ensures c.if-not-is_up.ensures
    (let n = c.if-names-gt0.false in omega arith) c.requires.plain c.push_segment-then-not-absolute.ensures.items k

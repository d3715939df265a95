use Rattle.std.proofs.Common.{sym}
use Rattle.xpath_words.proofs.Groups.{group_turn, group_refused, all_groups}
use Rattle.xpath_words.proofs.Turns.{passed_on}
use Rattle.xpath_words.proofs.group.grouped.Goals as goal

pub returns-in_err-token : goal.returns-in_err-token
returns-in_err-token c =
    passed_on _ _ _ c.from_residual.ensures.1
    (group_refused _ _ _ _ _ _ (sym c.in-Some.ensures.value) (rw c.behind_first-behind.ensures at c.in_err-token.ensures) c.loop-first.invariant)

pub loop-first-preserved : goal.loop-first-preserved
loop-first-preserved c =
    group_turn _ _ _ _ _ _ _ _ _ (sym c.in-Some.ensures.value) (rw c.behind_first-behind.ensures at c.in_ok-token.ensures) c.loop-first.invariant c.in_ok-push.ensures.items
    (rw c.behind_first-behind.ensures at c.behind_many-rest.ensures)

pub returns : goal.returns
returns c = all_groups _ _ _ _ (sym c.in_default.ensures.value) c.loop-first.invariant

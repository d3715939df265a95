use Rattle.std.proofs.Common.{sym, ap, ◌∙◌}
use Rattle.xpath_words.specs.Characters.{behind}
use Rattle.xpath_words.specs.Classes.{test_of}
use Rattle.xpath_words.proofs.Runs.{behind_taken, behind_kept, behind_all, front_taken, front_kept, front_all}
use Rattle.xpath_words.proofs.cursor.take_run.Goals as goal

pub loop-c-preserved : goal.loop-c-preserved
loop-c-preserved c =
    let p = test_of c.args.class in (
      rw c.next.ensures.rest (front_taken p _ c.in-Some.c _ _ _ (sym c.in-Some.ensures) (sym c.if-not-holds.ensures) c.in_ok-push.ensures.ok c.loop-c.invariant.0),
      ap (behind p) c.next.ensures.rest ∙ behind_taken p _ c.in-Some.c (sym c.in-Some.ensures) (sym c.if-not-holds.ensures) ∙ c.loop-c.invariant.1,
    )

pub returns-then-not-holds-clause-taken : goal.returns-then-not-holds-clause-taken
returns-then-not-holds-clause-taken c = front_kept (test_of c.args.class) _ c.in-Some.c _ _ (sym c.in-Some.ensures) (sym c.if-not-holds.ensures) c.loop-c.invariant.0

pub returns-then-not-holds-clause-rest : goal.returns-then-not-holds-clause-rest
returns-then-not-holds-clause-rest c = sym (behind_kept (test_of c.args.class) _ c.in-Some.c (sym c.in-Some.ensures) (sym c.if-not-holds.ensures)) ∙ c.loop-c.invariant.1

pub returns-in_default-clause-taken : goal.returns-in_default-clause-taken
returns-in_default-clause-taken c = front_all (test_of c.args.class) _ _ _ (sym c.in_default.ensures) c.loop-c.invariant.0

pub returns-in_default-clause-rest : goal.returns-in_default-clause-rest
returns-in_default-clause-rest c = sym (behind_all (test_of c.args.class) _ (sym c.in_default.ensures)) ∙ c.loop-c.invariant.1

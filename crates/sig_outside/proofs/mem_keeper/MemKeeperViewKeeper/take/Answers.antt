use Rattle.sig_outside.proofs.mem_keeper.MemKeeperViewKeeper.take.Goals as goal

pub returns-then-is_listed-clause-listed : goal.returns-then-is_listed-clause-listed
returns-then-is_listed-clause-listed c =
    rw (← c.self.view_is) (λ _. c.is_listed.ensures.0 c.if-is_listed.true, λ _. c.refuse.ensures.answer)

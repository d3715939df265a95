use Rattle.std.proofs.Common.{inl, inr, refl}
use Rattle.xmldsig.proofs.Told.{grew_nothing}
use Rattle.xmldsig.proofs.print.say_err.Goals as goal

pub returns-in-Done : goal.returns-in-Done
returns-in-Done g c = inl record {
  status = refl;
  on_out = record { told = grew_nothing _; calm = refl };
  on_err = record { told = c.in-Done.ensures.written; calm = c.in-Done.ensures.cause };
}

pub returns-in-Failed : goal.returns-in-Failed
returns-in-Failed g c = inr (inr record {
  status = refl;
  none = refl;
  on_out = record { told = grew_nothing _; calm = refl };
  on_err = record {
    kept = c.in-Failed.ensures.written.0;
    told = c.in-Failed.ensures.written.1;
    later = c.in-Failed.ensures.cause.0;
    rose = c.in-Failed.ensures.cause.1;
  };
})

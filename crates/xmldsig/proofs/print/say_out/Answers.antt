use Rattle.std.proofs.Common.{inl, inr, refl}
use Rattle.xmldsig.specs.Texts.{write_fault_line}
use Rattle.xmldsig.proofs.Told.{tried, grew_nothing}
use Rattle.xmldsig.proofs.print.say_out.Goals as goal

pub returns-in-Done : goal.returns-in-Done
returns-in-Done g c = inl record {
  status = refl;
  on_out = record { told = c.in-Done.ensures.written; calm = c.in-Done.ensures.cause };
  on_err = record { told = grew_nothing _; calm = refl };
}

pub returns-in-Failed : goal.returns-in-Failed
returns-in-Failed g c = inr (inl record {
  status = refl;
  silent = refl;
  on_out = record {
    kept = c.in-Failed.ensures.written.0;
    told = c.in-Failed.ensures.written.1;
    later = c.in-Failed.ensures.cause.0;
    rose = c.in-Failed.ensures.cause.1;
  };
  on_err = tried write_fault_line c.write_all-in-Failed.result _ _ c.write_all-in-Failed.ensures.written c.write_all-in-Failed.ensures.cause;
})

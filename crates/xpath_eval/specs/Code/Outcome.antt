use Rattle.std.specs.Prelude.{◌≡◌, Result, Ok, Err}
use Rattle.xpath_eval.specs.declared.refusal.EvalRefusal.{EvalRefusal}
use Rattle.xpath_eval.specs.Found.{Outcome}
use Rattle.xpath_eval.specs.Outcome.{Refuses}

-- the answer is the outcome, unless memory ran out
abbrev pub Answers : {A : Type 0} → Result A EvalRefusal → Outcome A → Type 0
Answers (Ok x) outcome = outcome ≡ Ok x
Answers (Err e) outcome = Refuses e outcome

-- What a call returned is what an expression comes to, unless memory ran out.
use Rattle.std.specs.Prelude.{◌≡◌, Err}
use Rattle.xpath_eval.specs.declared.refusal.EvalRefusal.{EvalRefusal}
use Rattle.xpath_eval.specs.declared.refusal.EvalRefusal.TheVariants as refusal
use Rattle.xpath_eval.specs.Found.{Outcome}

abbrev pub Refuses : {A : Type 0} → EvalRefusal → Outcome A → Type 0
Refuses refusal.Memory outcome = Unit {0}
Refuses e outcome = outcome ≡ Err e

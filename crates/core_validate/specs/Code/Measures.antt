use Rattle.std.specs.Prelude.{◌≡◌, ◌-◌, ℕ, Bool, List, Result, Ok, Err}
use Rattle.sig_base.specs.declared.method.DigestMethod.{DigestMethod}
use Rattle.transforms.specs.Code.Answers.{Refuses}
use Rattle.transforms.specs.declared.refusal.RefRefusal.{RefRefusal}
use Rattle.transforms.specs.declared.refusal.RefRefusal.TheVariants.{FetchFailed}
use Rattle.core_validate.specs.declared.view.Measured.{Measured}
use Rattle.core_validate.specs.Measures.{measure_of}

-- it is that of the view
pub record Measure (keep : Bool) (method : DigestMethod) (measured : Measured) (outcome : Result (List ℕ) RefRefusal) : Type 0 where
  pub view : List ℕ
  pub outcome_is : outcome ≡ Ok view
  pub is : measured ≡ measure_of keep method view

abbrev pub Measures : (keep : Bool) → DigestMethod → Result Measured RefRefusal → Result (List ℕ) RefRefusal → Type 0
Measures keep method (Ok measured) outcome = Measure keep method measured outcome
Measures keep method (Err FetchFailed) outcome = Unit {0}
Measures keep method (Err cause) outcome = Refuses cause outcome

-- What a call returned is what reading gives, unless memory ran out.
use Rattle.std.specs.Prelude.{◌≡◌, List, Option, Some, None, Result, Ok, Err}
use Rattle.xpath_syntax.specs.declared.mode.Mode.{Mode}
use Rattle.xpath_syntax.specs.declared.frame.Frame.{Frame}
use Rattle.xpath_syntax.specs.declared.refusal.SyntaxRefusal.{SyntaxRefusal}
use Rattle.xpath_syntax.specs.declared.refusal.SyntaxRefusal.TheVariants.{NotXPath, Memory}
use Rattle.xpath_syntax.specs.Reading.{State}

abbrev pub Fails : {Y : Type 0} → SyntaxRefusal → Option Y → Type 0
Fails Memory read = Unit {0}
Fails NotXPath read = read ≡ None
Fails _ read = ⊥

abbrev pub Gives : {X : Type 0} → Result X SyntaxRefusal → Option X → Type 0
Gives (Ok x) read = read ≡ Some x
Gives (Err e) read = Fails e read

abbrev pub Steps : Result Mode SyntaxRefusal → List Frame → Option State → Type 0
Steps (Ok mode) left read = read ≡ Some (left, mode)
Steps (Err e) left read = Fails e read

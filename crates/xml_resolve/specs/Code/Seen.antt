use Rattle.std.specs.Prelude.{◌≡◌, List, ◌∷◌, Option, Some, None, Result, Ok, Err, false}
use Rattle.xml_names.specs.Scopes.{Entry}
use Rattle.xml_syntax.specs.Tree as tree
use Rattle.xml_resolve.specs.Steps.{resolves}
use Rattle.xml_resolve.specs.declared.resolve.ResolveFault.{ResolveFault}
use Rattle.xml_resolve.specs.declared.resolve.ResolveFault.TheVariants as faults

-- a call fails where there is nothing to be found, or where memory runs out
abbrev pub Fails : {Y : Type 0} → ResolveFault → Option Y → Type 0
Fails faults.Memory found = Unit {0}
Fails faults.Namespaces found = found ≡ None

-- a call leads to what is found
abbrev pub Leads : {Y : Type 0} → Result (Unit {0}) ResolveFault → Y → Option Y → Type 0
Leads (Ok x) after found = found ≡ Some after
Leads (Err e) after found = Fails e found

-- a call that takes an event leads to where the events behind it are taken
abbrev pub Takes : {X : Type 0} → Result X ResolveFault → List Entry → List Entry → tree.Event → Type 0
Takes (Ok x) before after event = (others : List tree.Event) → resolves before (event ∷ others) ≡ resolves after others
Takes (Err faults.Memory) before after event = Unit {0}
Takes (Err faults.Namespaces) before after event = (others : List tree.Event) → resolves before (event ∷ others) ≡ false

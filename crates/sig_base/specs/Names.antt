-- The name that the prefix xml is bound to.
use Rattle.std.specs.Prelude.{ℕ, List, codes}

-- the namespace name of the prefix xml (Namespaces in XML 1.0 §3)
abbrev pub xml_name : List ℕ
xml_name = codes "http://www.w3.org/XML/1998/namespace"

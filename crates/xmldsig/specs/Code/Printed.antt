use Rattle.std.specs.Prelude.{ℕ, List, []}
use Rattle.xmldsig.specs.declared.ending.Ending.{Ending}
use Rattle.xmldsig.specs.declared.ending.Ending.TheVariants as ending

-- the text on out
abbrev pub out_of : Ending → List ℕ
out_of (ending.Reported told text) = text
out_of (ending.Written octets) = octets
out_of other = []

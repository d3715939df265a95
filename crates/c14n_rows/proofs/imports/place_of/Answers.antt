use Rattle.std.proofs.Common.{Option, ap, sym, ◌∙◌}
use Rattle.c14n_text.specs.Bases.{base_place}
use Rattle.c14n_rows.specs.declared.bases.Base.{Base}
use Rattle.c14n_rows.specs.Code.Joined.{base_of}
use Rattle.c14n_rows.proofs.ImportLemmas.{place_some, place_none}
use Rattle.c14n_rows.proofs.imports.place_of.Goals as goal

pub returns-then-is_empty-clause-value : goal.returns-then-is_empty-clause-value
returns-then-is_empty-clause-value c = ap (λ (b : Option Base). base_place (base_of b)) c.in-Some.is ∙ place_none c.in-Some.joined.place c.in-Some.joined.value.now (sym c.is_empty.ensures ∙ c.if-is_empty.true)

pub returns-else-is_empty-clause-value : goal.returns-else-is_empty-clause-value
returns-else-is_empty-clause-value c = ap (λ (b : Option Base). base_place (base_of b)) c.in-Some.is ∙ place_some c.in-Some.joined.place c.in-Some.joined.value.now (sym c.is_empty.ensures ∙ c.if-is_empty.false)

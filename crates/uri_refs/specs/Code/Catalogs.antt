use Rattle.std.specs.Prelude.{List, Result}
use Rattle.sig_base.specs.Outcomes.{Gives}
use Rattle.uri_refs.specs.CatalogEntries.{CatalogEntry}
use Rattle.uri_refs.specs.declared.catalog.CatalogFault.{CatalogFault}
use Rattle.uri_refs.specs.Catalogs.{Refuses}

-- the same of a call that changes the entries to these
abbrev pub Changes : {A : Type 0} → Result A CatalogFault → List CatalogEntry → Result (List CatalogEntry) CatalogFault → Type 0
Changes result entries outcome = Gives Refuses (λ done. entries) result outcome

use Rattle.std.specs.Prelude.{List, Result}
use Rattle.sig_base.specs.Outcomes.{Gives}
use Rattle.digests_hmac.specs.declared.key_table.KeyFault.{KeyFault}
use Rattle.digests_hmac.specs.KeyEntries.{KeyEntry}
use Rattle.digests_hmac.specs.Keys.{Refuses}

-- the same of a call that changes the keys to these
abbrev pub Changes : {A : Type 0} → Result A KeyFault → List KeyEntry → Result (List KeyEntry) KeyFault → Type 0
Changes result keys outcome = Gives Refuses (λ done. keys) result outcome

use Rattle.std.proofs.Common.{◌≡◌, ◌≤◌, ◌-◌, not, length, map, drop}
use Rattle.std.specs.List.{find}
use Rattle.dsig_fields.specs.declared.fields.Reference.{Reference}
use Rattle.signer.specs.Outcome.{has_texts}
use Rattle.signer.proofs.reading.digest_without_text.Given as goal

-- the References that are left decide
abbrev pub invariant-loop-reference : goal.invariant-loop-reference
invariant-loop-reference l = record {
  within : l.k ≤ length l.fields.references;
  left : find (λ x. not (has_texts l.doc x)) (map (λ (r : Reference). r.digest_row) (drop l.k l.fields.references))
      ≡ find (λ x. not (has_texts l.doc x)) (map (λ (r : Reference). r.digest_row) l.fields.references);
}

abbrev pub decreases-loop-reference : goal.decreases-loop-reference
decreases-loop-reference l = length l.fields.references - l.k

use Rattle.std.proofs.Common.{◌≡◌, ◌≤◌, ◌-◌, ◌++◌, length, map, drop}
use Rattle.row_fills.specs.Fillings.{spans_of}
use Rattle.row_spans.specs.Seen.{seen_span}
use Rattle.signer.specs.Signed.{digest_fillings}
use Rattle.signer.proofs.filling.add_digests.Given as goal

-- the spans, and those that are left, are all
abbrev pub invariant-loop-reference : goal.invariant-loop-reference
invariant-loop-reference l = record {
  within : l.k ≤ length l.fields.references;
  told : map seen_span l.spans.items ++ spans_of l.doc (digest_fillings (drop l.k l.fields.references) (drop l.k l.views))
      ≡ map seen_span l.initial.spans.items ++ spans_of l.doc (digest_fillings l.fields.references l.views);
}

abbrev pub decreases-loop-reference : goal.decreases-loop-reference
decreases-loop-reference l = length l.fields.references - l.k

use Rattle.std.proofs.Common.{◌≡◌, ◌++◌, ◌||◌, List, ℕ}
use Rattle.sig_base.specs.Puts.{Appended}
use Rattle.c14n_bases.specs.Join.{segments}
use Rattle.c14n_bases.specs.Code.Slices.{octets_of, segments_left, most_left}
use Rattle.c14n_bases.specs.Code.Surplus.{names_kept, is_any, led}
use Rattle.c14n_bases.proofs.clean.put_names.Given as goal

abbrev pub invariant-loop-next : goal.invariant-loop-next
invariant-loop-next g l = record {
  written : List ℕ;
  appended : Appended g.S.OctetSink.stands_for g.S.OctetSink.refusals g.S.OctetSink.makes l.initial.sink l.sink written;
  joined : written ++ led l.begun (names_kept l.behind (segments_left (octets_of l.next))) ≡ led l.initial.begun (names_kept l.behind (segments l.fn.path));
  begun : (l.begun || is_any (names_kept l.behind (segments_left (octets_of l.next)))) ≡ (l.initial.begun || is_any (names_kept l.behind (segments l.fn.path)));
}

abbrev pub decreases-loop-next : goal.decreases-loop-next
decreases-loop-next g l = most_left (octets_of l.next)

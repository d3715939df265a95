use Rattle.std.proofs.Common.{◌≡◌, ℕ, List, sym, ◌∙◌}
use Rattle.c14n_bases.specs.Join.{cut}
use Rattle.c14n_bases.specs.Joined.{base_at}
use Rattle.c14n_bases.specs.Code.Clean.{kind_of}
use Rattle.c14n_bases.proofs.JoinedLemmas.{below_none}
use Rattle.c14n_bases.proofs.joined.is_with_scheme.Goals as goal

pub returns-in_default : goal.returns-in_default
returns-in_default c = λ (text : List ℕ) (k : c.args.kind ≡ kind_of (cut text)).
    c.has_scheme.ensures ∙ sym (below_none (cut (base_at c.args.bases.now.bases c.args.k)) (cut text) c.args.kind k c.in_default.not-Scheme)

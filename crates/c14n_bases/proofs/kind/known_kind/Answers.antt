use Rattle.std.proofs.Common.{◌≡◌, ◌&&◌, Bool, false, not, ℕ, List, ap, sym, ◌∙◌, subst}
use Rattle.std.specs.Prelude.{is_some}
use Rattle.c14n_bases.specs.Join.{below, cut, has_scheme, join}
use Rattle.c14n_bases.specs.Code.Clean.{IsClean}
use Rattle.c14n_bases.proofs.FormedLemmas.{joined-clean}
use Rattle.c14n_bases.proofs.kind.known_kind.Goals as goal

pub returns-else-is_misread : goal.returns-else-is_misread
returns-else-is_misread c = λ (base own : List ℕ) (are : c.args.value.now ≡ join base own) (with_scheme : c.args.with_scheme ≡ is_some (below (cut base) (cut own)).scheme).
    let none = λ (f : is_some (below (cut base) (cut own)).scheme ≡ false).
    ap has_scheme (sym are) ∙ sym c.requires ∙ ap (λ (b : Bool). not b && c.args.is_scheme) (sym (with_scheme ∙ f)) ∙ sym c.is_misread.ensures ∙ c.if-is_misread.false
    in
    (subst IsClean (sym are) (joined-clean base own none), c.kind_of.ensures)

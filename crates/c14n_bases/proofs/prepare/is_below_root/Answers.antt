use Rattle.std.proofs.Common.{◌||◌, Bool, ap, sym, ◌∙◌}
use Rattle.c14n_bases.specs.Join.{is_absolute}
use Rattle.c14n_bases.specs.Code.Slices.{parts_of}
use Rattle.c14n_bases.proofs.BelowLemmas.{root-below}
use Rattle.c14n_bases.proofs.prepare.is_below_root.Goals as goal

pub returns-then-has_no_path : goal.returns-then-has_no_path
returns-then-has_no_path c =
    let b = parts_of c.args.base in
    c.if-has_no_path.true ∙ ap (λ (t : Bool). t || is_absolute b.path) (sym c.if-has_no_path.true ∙ c.has_no_path.ensures) ∙ root-below b

pub returns-else-has_no_path : goal.returns-else-has_no_path
returns-else-has_no_path c =
    let b = parts_of c.args.base in
    c.is_absolute.ensures ∙ ap (λ (t : Bool). t || is_absolute b.path) (sym c.if-has_no_path.false ∙ c.has_no_path.ensures) ∙ root-below b

use Rattle.std.proofs.Common.{◌≡◌, ◌++◌, ◌&&◌, List, ℕ, Bool, false, cond, length, arith, ap, sym, ◌∙◌}
use Rattle.std.specs.Prelude.{codes, is_some}
use Rattle.c14n_bases.specs.Join.{segments, is_open, is_absolute, is_empty, directory, base_path, clean, cleaned}
use Rattle.c14n_bases.specs.Code.Slices.{octets_of}
use Rattle.c14n_bases.proofs.JoinLemmas.{below_dotted, below_plain}
use Rattle.c14n_bases.proofs.LengthLemmas.{directory-length}
use Rattle.c14n_bases.proofs.join.directory_of.Goals as goal

-- neither an authority with an empty path
other_path : (none : Bool) (a b : List ℕ) → none ≡ false → clean (cond none a b) ≡ clean b
other_path none a b f = ap (λ (t : Bool). clean (cond t a b)) f

pub returns-then-is_dotted-clause-below : goal.returns-then-is_dotted-clause-below
returns-then-is_dotted-clause-below c = λ (s : List ℕ) (some : is_empty s ≡ false) (relative : is_absolute s ≡ false).
    let p = c.args.base.path.now in
    let bare = is_some (octets_of c.args.base.authority) && is_empty p in
    other_path bare (codes "/" ++ s) (directory (base_path p) ++ s) (sym c.has_no_path.ensures ∙ c.if-has_no_path.false)
    ∙ sym (below_dotted p s (sym c.is_dotted.ensures ∙ c.if-is_dotted.true))
    ∙ ap (λ (a : Bool). cleaned a (is_open s) (segments p ++ segments s)) (sym c.is_absolute.ensures)

pub returns-else-is_dotted-clause-below : goal.returns-else-is_dotted-clause-below
returns-else-is_dotted-clause-below c = λ (s : List ℕ) (some : is_empty s ≡ false) (relative : is_absolute s ≡ false).
    let p = c.args.base.path.now in
    let bare = is_some (octets_of c.args.base.authority) && is_empty p in
    let e = other_path bare (codes "/" ++ s) (directory (base_path p) ++ s) (sym c.has_no_path.ensures ∙ c.if-has_no_path.false)
    ∙ sym (below_plain p s (sym c.is_dotted.ensures ∙ c.if-is_dotted.false) relative) in
    e ∙ ap (λ (d : List ℕ). cleaned (is_absolute d) (is_open s) (segments d ++ segments s)) (sym c.directory-first.ensures)
    ∙ ap (λ (a : Bool). cleaned a (is_open s) (segments c.directory-first.result.now ++ segments s)) (sym c.is_absolute-else-is_dotted.ensures)

pub returns-else-is_dotted-clause-shorter : goal.returns-else-is_dotted-clause-shorter
returns-else-is_dotted-clause-shorter c =
    let d = ap (length {A = ℕ}) c.directory-first.ensures in
    let few = directory-length c.args.base.path.now in
    omega arith

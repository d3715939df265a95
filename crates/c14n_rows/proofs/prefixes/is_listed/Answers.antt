use Rattle.std.proofs.Common.{ℕ, Bool, ◌||◌, ◌+◌, List, map, drop, encode_utf8_all, sym, ap, ◌∙◌}
use Rattle.std.specs.List.{list_any}
use Rattle.std.specs.Str.{bytes_eq}
use Rattle.sig_base.proofs.ListLemmas.{drop-at, drop_none}
use Rattle.c14n_rows.proofs.prefixes.is_listed.Goals as goal

-- the members from k on
abbrev listed : List ℕ → List (List ℕ) → Bool
listed name prefixes = list_any (bytes_eq name) (map encode_utf8_all prefixes)

pub returns-then-eq : goal.returns-then-eq
returns-then-eq c =
    let name = c.args.name.now in let all = c.args.prefixes.now in let k = c.loop-k.k in
    let here = drop-at all k c.in-Some.prefix.now c.in-Some.ensures in
    sym (c.loop-k.invariant ∙ ap (listed name) here ∙ ap (λ (t : Bool). t || listed name (drop (k + 1) all)) (ap (bytes_eq name) (sym c.as_str.ensures.bytes) ∙ sym c.if-eq.ensures))

pub returns-in-None : goal.returns-in-None
returns-in-None c = sym (c.loop-k.invariant ∙ ap (listed c.args.name.now) (drop_none c.args.prefixes.now c.loop-k.k c.in-None.ensures))

pub loop-k-preserved : goal.loop-k-preserved
loop-k-preserved c =
    let name = c.args.name.now in let all = c.args.prefixes.now in let k = c.loop-k.k in
    let here = drop-at all k c.in-Some.prefix.now c.in-Some.ensures in
    let differs = ap (bytes_eq name) (sym c.as_str.ensures.bytes) ∙ sym c.if-eq.ensures in
    c.loop-k.invariant ∙ ap (listed name) here ∙ ap (λ (t : Bool). t || listed name (drop (k + 1) all)) differs

use Rattle.std.proofs.Common.{◌≡◌, ◌++◌, ℕ, Bool, false, not, cond, List, ap, sym, ◌∙◌, append_assoc}
use Rattle.std.specs.Prelude.{None, codes}
use Rattle.c14n_bases.specs.Join.{begins, clean, cut, put_together, query_octets, relative_path, scheme_octets, authority_octets}
use Rattle.c14n_bases.specs.Joined.{base_at}
use Rattle.c14n_bases.specs.declared.kind.Kind.TheVariants.{Relative}
use Rattle.c14n_bases.specs.Code.Placed.{CleansTo, front_octets}
use Rattle.c14n_bases.proofs.FrontLemmas.{authority-front, absolute-front, empty-front, relative_parts, relative-value, relative-front}
use Rattle.c14n_bases.proofs.UpwardsLemmas.{cleans-plain, climbs-path}
use Rattle.c14n_bases.proofs.front.front_of.Goals as goal

pub returns-in-Authority : goal.returns-in-Authority
returns-in-Authority c = λ (text : List ℕ) (cleans : CleansTo text c.args.kind c.args.upwards c.args.tail.now)
    (all : c.args.kind ≡ Relative → begins (codes "../") c.args.tail.now ≡ false).
    let v = c.args.tail.now in let o = cut text in let b = cut (base_at c.args.bases.now.bases c.args.k) in
    let whole = cleans-plain text c.args.kind c.args.upwards v cleans (λ e. cc (c.in-Authority.is, e)) in
    ap (λ (l : List ℕ). l ++ v) (c.plain-in-Authority.ensures.octets ∙ c.scheme.ensures)
    ∙ authority-front b o.scheme o.authority o.path o.query v whole (sym c.in-Authority.is ∙ cleans.by_parts)

pub returns-in-Absolute : goal.returns-in-Absolute
returns-in-Absolute c = λ (text : List ℕ) (cleans : CleansTo text c.args.kind c.args.upwards c.args.tail.now)
    (all : c.args.kind ≡ Relative → begins (codes "../") c.args.tail.now ≡ false).
    let v = c.args.tail.now in let o = cut text in let b = cut (base_at c.args.bases.now.bases c.args.k) in
    let whole = cleans-plain text c.args.kind c.args.upwards v cleans (λ e. cc (c.in-Absolute.is, e)) in
    ap (λ (l : List ℕ). l ++ v) (c.plain-in-Absolute.ensures.octets ∙ c.roots.ensures)
    ∙ absolute-front b o.scheme o.authority o.path o.query v whole (sym c.in-Absolute.is ∙ cleans.by_parts)

pub returns-in-Empty : goal.returns-in-Empty
returns-in-Empty c = λ (text : List ℕ) (cleans : CleansTo text c.args.kind c.args.upwards c.args.tail.now)
    (all : c.args.kind ≡ Relative → begins (codes "../") c.args.tail.now ≡ false).
    let v = c.args.tail.now in let o = cut text in let b = cut (base_at c.args.bases.now.bases c.args.k) in
    let whole = cleans-plain text c.args.kind c.args.upwards v cleans (λ e. cc (c.in-Empty.is, e)) in
    ap (λ (l : List ℕ). l ++ v)
    (c.whole_front.ensures.octets ∙ ap (λ (e : Bool). put_together b.scheme b.authority (clean b.path) (cond (not e) None b.query)) c.is_empty.ensures)
    ∙ empty-front b o.scheme o.authority o.path o.query v whole (sym c.in-Empty.is ∙ cleans.by_parts)

pub returns-in-Relative : goal.returns-in-Relative
returns-in-Relative c = λ (text : List ℕ) (cleans : CleansTo text c.args.kind c.args.upwards c.args.tail.now)
    (all : c.args.kind ≡ Relative → begins (codes "../") c.args.tail.now ≡ false).
    let tail = c.args.tail.now in let o = cut text in let b = cut (base_at c.args.bases.now.bases c.args.k) in
    let front = front_octets c.relative_front.result in
    let roots = scheme_octets b.scheme ++ authority_octets b.authority in
    let r = relative_parts o.scheme o.authority o.path o.query (sym c.in-Relative.is ∙ cleans.by_parts) in
    let e = cleans.is ∙ relative-value o.scheme o.authority (clean o.path) o.query r.0 r.1 in
    let s = climbs-path c.args.upwards tail o.path o.query e (all c.in-Relative.is) r.2 r.3 in
    ap (λ (l : List ℕ). front ++ l) s.2 ∙ sym (append_assoc front s.0 (query_octets o.query))
    ∙ ap (λ (l : List ℕ). l ++ query_octets o.query) (c.relative_front.ensures o.path s.0 s.1)
    ∙ append_assoc roots (clean (relative_path b o.path)) (query_octets o.query)
    ∙ relative-front b o.scheme o.authority o.path o.query r.0 r.1 r.2 r.3

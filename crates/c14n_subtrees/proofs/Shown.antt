-- What it takes that a namespace row is written, and that `xmlns=""` is.
use Rattle.std.proofs.Common.{◌≡◌, ℕ, Bool, true, false, not, ◌&&◌, ◌||◌, List, [], Some}
use Rattle.std.specs.Prelude.{codes}
use Rattle.std.specs.Str.{bytes_eq}
use Rattle.std.proofs.lemmas.Bool.{and_parts, not-true}
use Rattle.xml_doc.specs.Rows.{RowOf}
use Rattle.xml_doc.specs.Shape.{row_at}
use Rattle.c14n_text.specs.Namespaces.{Rule, follows_inclusive_rule, visibly_utilizes, renders, nearest, has_binding, has_default, is_written, undeclares}

module _ (rows : List RowOf) (set : ℕ → Bool) (rule : Rule) where
  abbrev local : ℕ → List ℕ
  local z = (row_at rows z).local_name

  abbrev value : ℕ → List ℕ
  value z = (row_at rows z).value

  -- the prefix counts at x
  abbrev pub serves : List ℕ → ℕ → Bool
  serves p x = follows_inclusive_rule rule p || (set x && visibly_utilizes rows set x p)

  pub record IsWritten (x z : ℕ) : Type 0 where
    pub member : set z ≡ true
    pub no_xml : bytes_eq (local z) (codes "xml") ≡ false
    pub serves_it : serves (local z) x ≡ true
    pub unbound : has_binding rows set (local z) (value z) (nearest rows set rule (local z) x) ≡ false

  pub written_parts : (x z : ℕ) → is_written rows set rule x z ≡ true → IsWritten x z
  written_parts x z e =
      let c = has_binding rows set (local z) (value z) (nearest rows set rule (local z) x) in
      let k = bytes_eq (local z) (codes "xml") in
      let p = and_parts ((set z && not k) && serves (local z) x) (not c) e in
      let q = and_parts (set z && not k) (serves (local z) x) p.0 in
      let r = and_parts (set z) (not k) q.0 in
      record { member = r.0; no_xml = not-true k r.1; serves_it = q.1; unbound = not-true c p.1 }

  pub record IsUndeclared (x : ℕ) : Type 0 where
    pub rendered : renders rows set rule [] x ≡ true
    pub no_default : has_default rows set (Some x) ≡ false
    pub default_above : has_default rows set (nearest rows set rule [] x) ≡ true

  pub undeclared_parts : (x : ℕ) → undeclares rows set rule x ≡ true → IsUndeclared x
  undeclared_parts x e =
      let a = renders rows set rule [] x in
      let b = has_default rows set (Some x) in
      let c = has_default rows set (nearest rows set rule [] x) in
      let p = and_parts (a && not b) c e in
      let q = and_parts a (not b) p.0 in
      record { rendered = q.0; no_default = not-true b q.1; default_above = p.1 }

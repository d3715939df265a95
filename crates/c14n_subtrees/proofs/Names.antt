-- Names and declarations that are put together again from their parts.
use Rattle.std.proofs.Common.{◌≡◌, ℕ, true, false, ⊎_elim, List, [], ◌∷◌, ◌++◌, Option, Some, None, refl, sym, ap, subst, ◌∙◌, append_assoc}
use Rattle.std.specs.Prelude.{codes, if◌then◌else◌, is_none}
use Rattle.std.specs.Str.{chars, bytes_eq, IsUtf8}
use Rattle.std.proofs.lemmas.Bool.{false≢true}
use Rattle.std.proofs.lemmas.Slice.Eq.{bytes_eq-Decides}
use Rattle.xml_names.specs.Names.{qname_of, is_ncname, IsUnprefixed, IsPrefixed, IsQName}
use Rattle.xml_names.specs.Scopes.{is_empty, declared_fault}
use Rattle.xml_names.proofs.QNames.{split_qnames}
use Rattle.xml_resolve.specs.Resolve.{is_declaration, declaration_of}
use Rattle.c14n_text.specs.Escapes.{qname}
use Rattle.c14n_listing.specs.Tidy.{IsName, IsText}
use Rattle.c14n_listing.proofs.Letters.{name_clean, name_octets, scalars_clean}
use Rattle.c14n_subtrees.specs.Subtree.{declaration_name}
use Rattle.c14n_subtrees.specs.Named.{DeclaresPrefix}

name_utf8 : (w : List ℕ) → IsName w → IsUtf8 w
name_utf8 w h = (chars w, (scalars_clean (chars w) (name_clean (chars w) w h), name_octets (chars w) w h))

is_qname : (w : List ℕ) (q : List ℕ × List ℕ) → IsName w → qname_of w ≡ Some q → IsQName w q.0 q.1
is_qname w q h e = (split_qnames w (name_utf8 w h) q.0 q.1).0 e

some_part : is_ncname [] ≡ true → ⊥
unfolding is_ncname chars
some_part e = false≢true e

unprefixed_again : (w a b : List ℕ) → IsUnprefixed w a b → qname a b ≡ w
unprefixed_again w [] b h = sym h.whole
unprefixed_again w (c ∷ a) b h = absurd (let e = h.no_prefix in cc)

prefixed_again : (w a b : List ℕ) → IsPrefixed w a b → qname a b ≡ w
prefixed_again w [] b h = absurd (some_part h.prefix_part)
prefixed_again w (c ∷ a) b h = append_assoc (c ∷ a) (codes ":") b ∙ sym h.joined

qname_again : (w : List ℕ) (q : List ℕ × List ℕ) → IsName w → qname_of w ≡ Some q → qname q.0 q.1 ≡ w
qname_again w q h e = ⊎_elim (λ (k : IsUnprefixed w q.0 q.1). unprefixed_again w q.0 q.1 k) (λ (k : IsPrefixed w q.0 q.1). prefixed_again w q.0 q.1 k) (is_qname w q h e)

unprefixed_declaration : (w a b : List ℕ) → IsUnprefixed w a b → bytes_eq (if is_empty a then b else a) (codes "xmlns") ≡ true → declaration_name (if is_empty a then [] else b) ≡ w
unprefixed_declaration w [] b h e = sym ((bytes_eq-Decides b (codes "xmlns")).0 e) ∙ sym h.whole
unprefixed_declaration w (c ∷ a) b h e = absurd (let f = h.no_prefix in cc)

prefixed_declaration : (w a b : List ℕ) → IsPrefixed w a b → bytes_eq (if is_empty a then b else a) (codes "xmlns") ≡ true → declaration_name (if is_empty a then [] else b) ≡ w
prefixed_declaration w [] b h e = absurd (some_part h.prefix_part)
prefixed_declaration w (c ∷ a) [] h e = absurd (some_part h.local_part)
prefixed_declaration w (c ∷ a) (d ∷ b) h e =
    sym (h.joined ∙ ap (λ (u : List ℕ). u ++ (58 ∷ (d ∷ b))) ((bytes_eq-Decides (c ∷ a) (codes "xmlns")).0 e))

declaration_again : (w : List ℕ) (q : List ℕ × List ℕ) (uri : List ℕ) → IsName w → qname_of w ≡ Some q → is_declaration q ≡ true → declaration_name (declaration_of q uri).prefix ≡ w
declaration_again w q uri h e d =
    ⊎_elim (λ (k : IsUnprefixed w q.0 q.1). unprefixed_declaration w q.0 q.1 k d) (λ (k : IsPrefixed w q.0 q.1). prefixed_declaration w q.0 q.1 k d) (is_qname w q h e)

-- ---- what is said of the parts

-- the name of an element
pub record IsWhole (prefix local : List ℕ) : Type 0 where
  pub spelled : IsName (qname prefix local)
  pub split : qname_of (qname prefix local) ≡ Some (prefix, local)

-- a declaration
pub record IsDeclared (prefix uri : List ℕ) : Type 0 where
  pub spelled : IsName (declaration_name prefix)
  pub is_text : IsText uri
  pub declares : DeclaresPrefix prefix
  pub allowed : declared_fault prefix uri ≡ None

-- an attribute that is no declaration
pub record IsValued (prefix local value : List ℕ) : Type 0 where
  pub whole : IsWhole prefix local
  pub is_text : IsText value
  pub no_declaration : is_declaration (prefix, local) ≡ false

pub whole_of : (w : List ℕ) (q : List ℕ × List ℕ) → IsName w → qname_of w ≡ Some q → IsWhole q.0 q.1
whole_of w q h e =
    let again = qname_again w q h e in
    record { spelled = subst IsName (sym again) h; split = ap qname_of again ∙ e }

pub valued_of : (w value : List ℕ) (q : List ℕ × List ℕ) → IsName w → IsText value → qname_of w ≡ Some q → is_declaration q ≡ false → IsValued q.0 q.1 value
valued_of w value q h v e is = record { whole = whole_of w q h e; is_text = v; no_declaration = is }

no_fault : {A : Type 0} (o : Option A) → is_none o ≡ true → o ≡ None
no_fault None e = refl
no_fault (Some x) e = absurd (false≢true e)

pub declared_of : (w uri : List ℕ) (q : List ℕ × List ℕ) → IsName w → IsText uri → qname_of w ≡ Some q → is_declaration q ≡ true
    → is_none (declared_fault (declaration_of q uri).prefix uri) ≡ true → IsDeclared (declaration_of q uri).prefix uri
declared_of w uri q h v e is fine =
    let again = declaration_again w q uri h e is in
    record {
      spelled = subst IsName (sym again) h;
      is_text = v;
      declares = record { parts = q; split = ap qname_of again ∙ e; declares = is; prefix = λ u. refl };
      allowed = no_fault (declared_fault (declaration_of q uri).prefix uri) fine;
    }

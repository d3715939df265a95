-- Lines, entry by entry.
use Rattle.std.proofs.Common.{◌≡◌, ◌∙◌, inl, inr, ℕ, ◌+◌, List, [], ◌∷◌, ◌++◌, drop, Option, Some, None, Result, Ok, Err, ap, sym, append_assoc, append-nil}
use Rattle.std.specs.Prelude.{slice_get}
use Rattle.std.specs.List.{flat_map}
use Rattle.sig_base.proofs.ListLemmas.{drop-at, drop_none}
use Rattle.sig_outside.specs.Told.{Held}
use Rattle.uri_refs.specs.declared.target.Place.{Place}
use Rattle.uri_refs.specs.declared.target.Target.{Target}
use Rattle.uri_refs.specs.declared.target.Target.TheVariants as target
use Rattle.dsig_fields.specs.declared.fields.Reference.{Reference}
use Rattle.transforms.specs.Answers.{Tells, names_of}
use Rattle.transforms.specs.Values.{Origin}
use Rattle.transforms.specs.Views.{view_of}
use Rattle.transforms.specs.declared.refusal.RefRefusal.{RefRefusal}
use Rattle.manifests.specs.Answers.{TellsNames}
use Rattle.manifests.specs.Manifests.{entry_lines, kind_of, line}
use Rattle.manifests.specs.declared.lines.ManifestLine.{ManifestLine}
use Rattle.manifests.proofs.Lists.{nothing_at}

-- ---- what the folder tells
tells_some : (t : Result Target RefRefusal) (told : Option Held) (files : Held) → told ≡ Some files → Tells t told files
tells_some (Ok (target.Named name)) told files e = e
tells_some (Ok (target.Whole comments)) told files e = tt
tells_some (Ok (target.Element id comments)) told files e = tt
tells_some (Err cause) told files e = tt

tells_none : (t : Result Target RefRefusal) (told : Option Held) (files : Held) → names_of t ≡ [] → Tells t told files
tells_none (Ok (target.Named name)) told files e = absurd cc
tells_none (Ok (target.Whole comments)) told files e = tt
tells_none (Ok (target.Element id comments)) told files e = tt
tells_none (Err cause) told files e = tt

pub tells_target : (t : Result Target RefRefusal) (told : Option Held) (files : Held) → TellsNames (names_of t) told files → Tells t told files
tells_target t told files (inl e) = tells_some t told files e
tells_target t told files (inr e) = tells_none t told files e

-- of a member of a list
pub tells_at : {X : Type 0} (f : X → List (List ℕ)) (xs : List X) (k : ℕ) (x : X) (told now : Option Held) (files : Held)
    → now ≡ told → Some x ≡ slice_get xs k → TellsNames (flat_map f xs) told files → TellsNames (f x) now files
tells_at f xs k x told now files same at (inl e) = inl (same ∙ e)
tells_at f xs k x told now files same at (inr e) = inr (nothing_at f xs k x e at)

-- ---- the lines that are left
module _ (origin : Origin) (place : Place) (files : Held) (reference : ℕ) (entries : List Reference) where
  abbrev pub left_lines : ℕ → List ManifestLine
  left_lines k = entry_lines origin place files reference (k + 1) (drop k entries)

  pub one_line : (k : ℕ) (entry : Reference) → Some entry ≡ slice_get entries k
      → left_lines k ≡ line reference (k + 1) (kind_of entry (view_of origin place files entry)) ∷ left_lines (k + 1)
  unfolding entry_lines
  one_line k entry at = ap (entry_lines origin place files reference (k + 1)) (drop-at entries k entry at)

  pub no_line : (k : ℕ) → None ≡ slice_get entries k → left_lines k ≡ []
  unfolding entry_lines
  no_line k at = ap (entry_lines origin place files reference (k + 1)) (drop_none entries k at)

-- one more of them is there
pub line_goes : {X : Type 0} (old new all left more : List X) (x : X) → left ≡ x ∷ more → new ≡ old ++ x ∷ [] → old ++ left ≡ all → new ++ more ≡ all
line_goes old new all left more x e f g =
    ap (λ (t : List _). t ++ more) f ∙ append_assoc old (x ∷ []) more ∙ ap (λ (t : List _). old ++ t) (sym e) ∙ g

-- the same of several
pub lines_go : {X : Type 0} (old new all left some more : List X) → left ≡ some ++ more → new ≡ old ++ some → old ++ left ≡ all → new ++ more ≡ all
lines_go old new all left some more e f g =
    ap (λ (t : List _). t ++ more) f ∙ append_assoc old some more ∙ ap (λ (t : List _). old ++ t) (sym e) ∙ g

-- none is left
pub lines_end : {X : Type 0} (lines all left : List X) → left ≡ [] → lines ++ left ≡ all → lines ≡ all
lines_end lines all left e g = sym (append-nil lines) ∙ ap (λ (t : List _). lines ++ t) (sym e) ∙ g

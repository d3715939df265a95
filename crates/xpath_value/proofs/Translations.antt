-- What one more character brings to a translation.
use Rattle.std.proofs.Common.{◌≡◌, refl, ap, ◌∙◌, ◌++◌, ℕ, List, [], ◌∷◌, Some, None, append-nil, sym}
use Rattle.std.specs.Prelude.{filter_map}
use Rattle.std.proofs.lemmas.List.Elements.{filter_map-append}
use Rattle.xpath_value.specs.Texts.{replacement, translated}

pub translated-nil : (characters others : List ℕ) → [] ≡ translated characters others []
unfolding translated
translated-nil characters others = refl

pub step_some : (characters others out new met : List ℕ) (c d : ℕ) → out ≡ translated characters others met → replacement characters others c ≡ Some d → new ≡ out ++ d ∷ []
    → new ≡ translated characters others (met ++ c ∷ [])
unfolding translated
step_some characters others out new met c d e r n =
    let last : filter_map (replacement characters others) (c ∷ []) ≡ d ∷ [] = rw r refl in
    n ∙ ap (λ (t : List ℕ). t ++ d ∷ []) e
    ∙ sym (filter_map-append (replacement characters others) met (c ∷ []) ∙ ap (λ (t : List ℕ). filter_map (replacement characters others) met ++ t) last)

pub step_none : (characters others out met : List ℕ) (c : ℕ) → out ≡ translated characters others met → replacement characters others c ≡ None
    → out ≡ translated characters others (met ++ c ∷ [])
unfolding translated
step_none characters others out met c e r =
    let last : filter_map (replacement characters others) (c ∷ []) ≡ [] = rw r refl in
    e
    ∙ sym (
    filter_map-append (replacement characters others) met (c ∷ []) ∙ ap (λ (t : List ℕ). filter_map (replacement characters others) met ++ t) last
    ∙ append-nil _)

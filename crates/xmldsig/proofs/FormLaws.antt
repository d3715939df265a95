-- Canonical forms of sets.
use Rattle.std.proofs.Common.{◌≡◌, refl, ℕ, Bool, false, List, []}
use Rattle.sig_base.specs.Methods.{is_exclusive}
use Rattle.sig_base.specs.declared.method.CanonMethod.{CanonMethod}
use Rattle.sig_base.specs.declared.method.CanonMethod.TheVariants.{C10, C10Comments, C11, C11Comments, Exc, ExcComments}
use Rattle.c14n_methods.specs.Methods.{canonical_form}
use Rattle.xml_doc.specs.Rows.{RowOf}

-- a method that isn't exclusive takes no prefixes
pub takes_no_prefixes : (method : CanonMethod) (listed : List (List ℕ)) (rows : List RowOf) (set : ℕ → Bool) → is_exclusive method ≡ false
    → canonical_form method [] rows set ≡ canonical_form method listed rows set
takes_no_prefixes C10 listed rows set e = refl
takes_no_prefixes C10Comments listed rows set e = refl
takes_no_prefixes C11 listed rows set e = refl
takes_no_prefixes C11Comments listed rows set e = refl
takes_no_prefixes Exc listed rows set e = cc
takes_no_prefixes ExcComments listed rows set e = cc

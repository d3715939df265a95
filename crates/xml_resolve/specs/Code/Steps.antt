use Rattle.std.specs.Prelude.{ℕ, Bool, true, false, ◌&&◌, List, [], ◌∷◌, ◌+◌, Option, Some, None, if◌then◌else◌}
use Rattle.std.specs.Ordering.{is_lt}
use Rattle.xml_names.specs.Names.{qname_of}
use Rattle.xml_syntax.specs.Tree.{Attribute}
use Rattle.xml_resolve.specs.Resolve.{attribute_uri, is_declaration}
use Rattle.xml_resolve.specs.Steps.{Key, key_cmp}
use Rattle.xml_names.specs.Scopes.{Entry, Enter, Declared}

-- how many elements are open
abbrev pub enters : List Entry → ℕ
enters [] = 0
enters (Enter ∷ es) = enters es + 1
enters (Declared p u ∷ es) = enters es

-- an expanded name comes behind the last one, if there was one
abbrev pub is_behind : Option Key → Key → Bool
is_behind None k = true
is_behind (Some j) k = is_lt (key_cmp j k)

-- there is one, and the test holds of it
abbrev pub is_one : {A : Type 0} → Option A → (A → Bool) → Bool
is_one None f = false
is_one (Some x) f = f x

-- the attributes that are no declarations have expanded names, each of which comes behind the one before
unfoldable pub rises : (List ℕ → Option (List ℕ)) → Option Key → List Attribute → Bool
rises bound last [] = true
rises bound last (a ∷ others) =
    is_one (qname_of a.name) (λ q.
    if is_declaration q then rises bound last others
    else is_one (attribute_uri bound q.0) (λ uri. is_behind last (uri, q.1) && rises bound (Some (uri, q.1)) others))

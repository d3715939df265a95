-- The definitions at small documents, computed. The first is
--     <a xmlns="u:a" p="1"><q:b xmlns:q="u:q" q:c="2"/>t</a>
use Rattle.std.proofs.Common.{◌≡◌, ℕ, true, false, List, [], ◌∷◌, Some, None, refl}
use Rattle.std.specs.Prelude.{codes}
use Rattle.std.specs.Str.{chars}
use Rattle.xml_names.specs.Characters.{is_name_start, is_name_char}
use Rattle.xml_names.specs.Names.{qname_of, is_ncname}
use Rattle.xml_names.specs.Scopes.{xml_name, declared_fault}
use Rattle.xml_doc.specs.Rows.{plain_row}
use Rattle.xml_doc.specs.declared.row.Kind.TheVariants as kinds
use Rattle.xml_syntax.specs.Tree.{Attribute, Content, nothing, text, instruction, element}
use Rattle.xml_resolve.specs.Resolve.{Name, Resolved, nothing_in, text_in, element_in, declared_in, found_above, bound_above, declared_by, element_name, named_by, resolve_tag, resolve}
use Rattle.xml_resolve.specs.Rows.{field_rows, rows_from, rows_of}

abbrev attribute : List ℕ → List ℕ → Attribute
attribute name value = record { name = name; value = value }

-- an empty element with these attributes, whatever its offsets
abbrev alone : List ℕ → List Attribute → Content
alone name attributes = element (record { name = name; attributes = attributes; from = 0; body_from = 0; is_empty = true }) nothing 0 nothing

abbrev inner_attributes : List Attribute
inner_attributes = attribute (codes "xmlns:q") (codes "u:q") ∷ (attribute (codes "q:c") (codes "2") ∷ [])

abbrev outer_attributes : List Attribute
outer_attributes = attribute (codes "xmlns") (codes "u:a") ∷ (attribute (codes "p") (codes "1") ∷ [])

abbrev small : Content
small =
    element (record { name = codes "a"; attributes = outer_attributes; from = 0; body_from = 21; is_empty = false })
    (element (record { name = codes "q:b"; attributes = inner_attributes; from = 21; body_from = 47; is_empty = true }) nothing 49 (text (codes "t") nothing))
    50 nothing

abbrev name : List ℕ → List ℕ → List ℕ → Name
name prefix local uri = record { prefix = prefix; local = local; uri = uri }

-- an attribute has the default namespace name nowhere
abbrev small_resolved : Resolved
small_resolved =
    element_in
    (record {
      name = name [] (codes "a") (codes "u:a");
      declared = record { prefix = []; uri = codes "u:a" } ∷ [];
      attributes = record { name = name [] (codes "p") []; value = codes "1" } ∷ [];
      from = 0;
      body_from = 21;
      is_empty = false;
    })
    (element_in
    (record {
      name = name (codes "q") (codes "b") (codes "u:q");
      declared = record { prefix = codes "q"; uri = codes "u:q" } ∷ [];
      attributes = record { name = name (codes "q") (codes "c") (codes "u:q"); value = codes "2" } ∷ [];
      from = 21;
      body_from = 47;
      is_empty = true;
    })
    nothing_in 49 (text_in (codes "t") nothing_in))
    50 nothing_in

is_resolved : resolve [] small ≡ Some small_resolved
unfolding resolve resolve_tag declared_by element_name named_by bound_above found_above declared_in declared_fault qname_of is_ncname is_name_start is_name_char chars
is_resolved = refl

-- a prefix that is declared nowhere, two attributes of one expanded name, a relative namespace name, and a target with a colon
no_prefix : resolve [] (alone (codes "p:a") []) ≡ None
unfolding resolve resolve_tag declared_by element_name named_by bound_above found_above declared_in declared_fault qname_of is_ncname is_name_start is_name_char chars
no_prefix = refl

abbrev twins : List Attribute
twins = attribute (codes "xmlns:p") (codes "u:x") ∷ (attribute (codes "xmlns:q") (codes "u:x") ∷ (attribute (codes "p:k") [] ∷ (attribute (codes "q:k") [] ∷ [])))

two_of_one_name : resolve [] (alone (codes "a") twins) ≡ None
unfolding resolve resolve_tag declared_by element_name named_by bound_above found_above declared_in declared_fault qname_of is_ncname is_name_start is_name_char chars
two_of_one_name = refl

relative : resolve [] (alone (codes "a") (attribute (codes "xmlns") (codes "x") ∷ [])) ≡ None
unfolding resolve resolve_tag declared_by element_name named_by bound_above found_above declared_in declared_fault qname_of is_ncname is_name_start is_name_char chars
relative = refl

no_target : resolve [] (instruction (codes "p:q") [] nothing) ≡ None
unfolding resolve is_ncname is_name_start is_name_char chars
no_target = refl

-- the rows: the root, an element with its namespaces and its attribute, one below it, and a text
are_rows : rows_of small_resolved
    ≡ plain_row kinds.Root 0 10
    ∷ (record (plain_row kinds.Element 0 10) { local_name = codes "a"; uri = codes "u:a"; body_from = 21; body_until = 50 }
    ∷ (record (plain_row kinds.Namespace 1 2) { value = codes "u:a" }
    ∷ (record (plain_row kinds.Namespace 1 3) { local_name = codes "xml"; value = xml_name }
    ∷ (record (plain_row kinds.Attribute 1 4) { local_name = codes "p"; value = codes "1" }
    ∷ (record (plain_row kinds.Element 1 9) {
      prefix_text = codes "q";
      local_name = codes "b";
      uri = codes "u:q";
      tag_from = 21;
      body_from = 47;
      body_until = 49;
      empty_tag = true;
    }
    ∷ (record (plain_row kinds.Namespace 5 6) { value = codes "u:a" }
    ∷ (record (plain_row kinds.Namespace 5 7) { local_name = codes "q"; value = codes "u:q" }
    ∷ (record (plain_row kinds.Namespace 5 8) { local_name = codes "xml"; value = xml_name }
    ∷ (record (plain_row kinds.Attribute 5 9) { prefix_text = codes "q"; local_name = codes "c"; uri = codes "u:q"; value = codes "2" }
    ∷ (record (plain_row kinds.Text 1 10) { value = codes "t" }
    ∷ []))))))))))
unfolding rows_of rows_from field_rows
are_rows = refl

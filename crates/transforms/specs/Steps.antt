-- Transforms: XML Signature 1.1, section 6.6.
use Rattle.std.specs.Prelude.{ℕ, ◌&&◌, Bool, true, false, not, nat_le, List, [], ◌∷◌, length, map, Option, Some, None, Result, Ok, Err, encode_utf8_all, if◌then◌else◌}
use Rattle.std.specs.List.{flat_map, range_with_len}
use Rattle.xml_doc.specs.Rows.{RowOf}
use Rattle.xml_doc.specs.Shape.{row_at}
use Rattle.xml_doc.specs.Values.{text_of}
use Rattle.node_sets.specs.Members.{in_subtree}
pub use Rattle.c14n_methods.specs.Limits.{octet_limit}
use Rattle.c14n_methods.specs.Methods.{canonical_form}
use Rattle.dsig_base64.specs.Loose.{octets_in}
use Rattle.dsig_fields.specs.declared.fields.Step.{Step}
use Rattle.dsig_fields.specs.declared.fields.Step.TheVariants as step
use Rattle.xml_read.specs.ReadOutcome.{read_outcome}
use Rattle.xml_read.specs.declared.read.ReadRefusal.{ReadRefusal}
use Rattle.sig_base.specs.Outcomes.{and_then}
use Rattle.transforms.specs.Expressions.{nodes_filtered, xpath_filtered}
use Rattle.transforms.specs.Start.{in_document}
use Rattle.transforms.specs.Values.{Nodes, Origin, Value}
use Rattle.transforms.specs.Values.{OfNodes, OfOctets}
use Rattle.transforms.specs.declared.refusal.RefRefusal.{RefRefusal}
use Rattle.transforms.specs.declared.refusal.RefRefusal.TheVariants.{Read, NotBase64, EnvelopedElsewhere, OctetsTooLong}

-- octets within the limit of a canonical form or a view, as those of the step of this number
abbrev pub within : (number : ℕ) → List ℕ → Result (List ℕ) RefRefusal
within number octets = if nat_le (length octets) octet_limit then Ok octets else Err (OctetsTooLong number)

-- canonicalization: section 6.6.1
abbrev pub as_octets : Result (List ℕ) RefRefusal → Result Value RefRefusal
as_octets octets = and_then octets (λ o. Ok (OfOctets o))

-- base64: section 6.6.2
abbrev pub spelled : (number : ℕ) → Option (List ℕ) → Result (List ℕ) RefRefusal
spelled number (Some octets) = Ok octets
spelled number None = Err (NotBase64 number)

-- the characters of a set are those of its text nodes, in document order
abbrev pub text_in : List RowOf → (ℕ → Bool) → ℕ → List ℕ
text_in rows set k = if set k then text_of (row_at rows k) else []

unfoldable pub text_of_set : List RowOf → (ℕ → Bool) → List ℕ
text_of_set rows set = flat_map (text_in rows set) (range_with_len 0 (length rows))

-- the enveloped signature transform: section 6.6.4. Only of the document in which the signature stands, as it was read
abbrev pub outside : List RowOf → ℕ → (ℕ → Bool) → ℕ → Bool
outside rows signature set k = set k && not (in_subtree rows signature k)

abbrev pub enveloped : (number : ℕ) → Option ℕ → Nodes → Result Value RefRefusal
enveloped number None nodes = Err (EnvelopedElsewhere number)
enveloped number (Some signature) nodes =
    if nodes.own then Ok (OfNodes (record { own = true; rows = nodes.rows; set = outside nodes.rows signature nodes.set }))
    else Err (EnvelopedElsewhere number)

-- the step of this number, on a node set
unfoldable pub nodes_step : Origin → (number : ℕ) → Step → Nodes → Result Value RefRefusal
nodes_step origin number (step.Canon method prefixes) nodes =
    as_octets (within number (canonical_form method (map encode_utf8_all prefixes) nodes.rows nodes.set))
nodes_step origin number step.Base64 nodes = as_octets (spelled number (octets_in (text_of_set nodes.rows nodes.set)))
nodes_step origin number (step.XPath row text) nodes = xpath_filtered origin.rows number row text nodes
nodes_step origin number (step.Filters filters) nodes = nodes_filtered origin.rows number filters nodes
nodes_step origin number step.Enveloped nodes = enveloped number origin.signature nodes

-- octets that are wanted as a node set are read as a document, of which all nodes are the set (section 4.4.3.2)
abbrev pub all_nodes : List RowOf → Nodes
all_nodes rows = record { own = false; rows = rows; set = in_document rows }

abbrev pub parsed : (number : ℕ) → Result (List RowOf) ReadRefusal → Result Nodes RefRefusal
parsed number (Ok rows) = Ok (all_nodes rows)
parsed number (Err cause) = Err (Read number cause)

-- base64 alone wants octets as they are
abbrev pub wants_octets : Step → Bool
wants_octets (step.Canon method prefixes) = false
wants_octets step.Base64 = true
wants_octets (step.XPath row text) = false
wants_octets (step.Filters filters) = false
wants_octets step.Enveloped = false

-- the step of this number
unfoldable pub step_value : Origin → (number : ℕ) → Step → Value → Result Value RefRefusal
step_value origin number step (OfNodes nodes) = nodes_step origin number step nodes
step_value origin number step (OfOctets octets) =
    if wants_octets step then as_octets (spelled number (octets_in octets))
    else and_then (parsed number (read_outcome octets)) (nodes_step origin number step)

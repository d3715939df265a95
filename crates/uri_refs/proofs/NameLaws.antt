-- Names of files, part by part.
use Rattle.std.proofs.Common.{◌≡◌, ◌∙◌, ◌<◌, ℕ, List, [], ◌∷◌, ◌++◌, length, Result, Ok, Err, refl, ap, sym, arith, append_assoc}
use Rattle.uri_refs.specs.Answers.{Refuses}
use Rattle.uri_refs.specs.Cuts.{segments}
use Rattle.sig_base.specs.Outcomes.{and_then}
use Rattle.uri_refs.specs.Names.{name_of_segments, part_of}
use Rattle.uri_refs.specs.declared.refusal.UriRefusal.{UriRefusal}
use Rattle.uri_refs.specs.declared.refusal.UriRefusal.TheVariants as refusal
use Rattle.uri_refs.proofs.CutLaws.{some_segment}

-- a name behind what is had of it
abbrev pub continued : List ℕ → Result (List ℕ) UriRefusal → Result (List ℕ) UriRefusal
continued name outcome = and_then outcome (λ rest. Ok (name ++ rest))

pub nothing_yet : (outcome : Result (List ℕ) UriRefusal) → continued [] outcome ≡ outcome
nothing_yet (Ok name) = refl
nothing_yet (Err cause) = refl

-- the last segment
pub last_part : (name part segment : List ℕ) (total : Result (List ℕ) UriRefusal)
    → continued name (name_of_segments (segment ∷ [])) ≡ total → part_of segment ≡ Ok part → total ≡ Ok (name ++ part)
unfolding name_of_segments
last_part name part segment total e is = sym e ∙ rw is refl

turned : (name part : List ℕ) (outcome : Result (List ℕ) UriRefusal)
    → continued name (and_then outcome (λ rest. Ok (part ++ 47 ∷ rest))) ≡ continued ((name ++ part) ++ 47 ∷ []) outcome
turned name part (Ok rest) = ap Ok (sym (append_assoc name part (47 ∷ rest)) ∙ sym (append_assoc (name ++ part) (47 ∷ []) rest))
turned name part (Err cause) = refl

several : (name part segment : List ℕ) (more : List (List ℕ)) → 0 < length more → part_of segment ≡ Ok part
    → continued name (name_of_segments (segment ∷ more)) ≡ continued ((name ++ part) ++ 47 ∷ []) (name_of_segments more)
unfolding name_of_segments
several name part segment [] h is = absurd (omega arith)
several name part segment (next ∷ more) h is = rw is (turned name part (name_of_segments (next ∷ more)))

-- a segment that others follow
pub next_part : (name part segment path : List ℕ) (total : Result (List ℕ) UriRefusal)
    → continued name (name_of_segments (segment ∷ segments path)) ≡ total → part_of segment ≡ Ok part
    → continued ((name ++ part) ++ 47 ∷ []) (name_of_segments (segments path)) ≡ total
next_part name part segment path total e is = sym (several name part segment (segments path) (some_segment path) is) ∙ e

stopped : (name segment : List ℕ) (more : List (List ℕ)) (cause : UriRefusal) → part_of segment ≡ Err cause → continued name (name_of_segments (segment ∷ more)) ≡ Err cause
unfolding name_of_segments
stopped name segment [] cause is = rw is refl
stopped name segment (next ∷ more) cause is = rw is refl

-- a segment that is refused
pub bad_part : (name segment : List ℕ) (more : List (List ℕ)) (total : Result (List ℕ) UriRefusal) (cause : UriRefusal)
    → continued name (name_of_segments (segment ∷ more)) ≡ total → Refuses cause (part_of segment) → Refuses cause total
bad_part name segment more total refusal.Memory e is = tt
bad_part name segment more total refusal.UnknownPointer e is = sym e ∙ stopped name segment more refusal.UnknownPointer is
bad_part name segment more total refusal.NotUri e is = sym e ∙ stopped name segment more refusal.NotUri is
bad_part name segment more total refusal.HasFragment e is = sym e ∙ stopped name segment more refusal.HasFragment is
bad_part name segment more total refusal.HasQuery e is = sym e ∙ stopped name segment more refusal.HasQuery is
bad_part name segment more total refusal.Foreign e is = sym e ∙ stopped name segment more refusal.Foreign is
bad_part name segment more total refusal.BadSegment e is = sym e ∙ stopped name segment more refusal.BadSegment is

-- The stacks as a whole.
use Rattle.std.proofs.Common.{◌≡◌, ℕ, ◌<◌, ◌≤◌, Bool, false, Option, None, IfSome, List, [], length, sym, ◌∙◌, subst, ap, refl, true, arith}
use Rattle.std.specs.Prelude.{Result, Ok, Err, IfOk}
use Rattle.std.proofs.lemmas.List.Elements.{All-same, All-nil}
use Rattle.xml_doc.specs.Kinds.{is_element}
use Rattle.xml_doc.specs.Rows.{RowOf}
use Rattle.xml_doc.specs.Shape.{IsWellShaped}
use Rattle.c14n_text.specs.Rows.{kind_of, parent_of}
use Rattle.c14n_text.specs.Code.Rows.{last_of}
use Rattle.c14n_text.specs.Namespaces.{Rule, eleven}
use Rattle.c14n_text.specs.Bases.{is_eleven, with_bases}
use Rattle.c14n_bases.specs.Joined.{PreparedBases}
use Rattle.c14n_rows.specs.declared.imports.Ordered.{Ordered}
use Rattle.c14n_rows.specs.declared.renderer.Memory.{Memory}
use Rattle.c14n_rows.specs.declared.stacks.Stacks.{Stacks}
use Rattle.c14n_rows.specs.declared.bases.Joining.{Joining}
use Rattle.c14n_rows.specs.Joined.{BasesFit, PreparedFit}
use Rattle.c14n_rows.specs.Code.Joined.{IsRun, KeepsBases}
use Rattle.c14n_rows.specs.Stacks.{count_of, octets_of, total, upwards, IsEmpty, OrderedAt, OrderedIn, RoomAt, RoomIn}
use Rattle.c14n_rows.specs.Code.Stacks.{run_bases, values_on, HasRoom, IsTaken, IsTakenFor, Keeps, KeepsOrdered, KeepsRoom, SlotFits, StacksAt}
use Rattle.c14n_rows.proofs.StackLemmas.{slots_at-skip, slots_at-root, xml_at-skip, xml_at-root}
use Rattle.c14n_rows.proofs.RunLemmas.{runs_at-skip, runs_at-root}
use Rattle.c14n_rows.proofs.EntryLemmas.{total-above}
use Rattle.c14n_rows.proofs.NearestLemmas.{nearest-none}

pub stacks-skip : (rows : List RowOf) (set : ℕ → Bool) (rule : Rule) → IsWellShaped rows → (x : ℕ) (stacks : Stacks) → (x ≡ 0 → ⊥) → x < length rows → is_element (kind_of rows x) ≡ false
    → StacksAt rows set rule (parent_of rows x) stacks → StacksAt rows set rule x stacks
stacks-skip rows set rule w x stacks not_root lt is h = record {
  slots_are = h.slots_are ∙ sym (slots_at-skip rows set rule w x not_root lt is);
  slots_fit = h.slots_fit;
  xml_are = h.xml_are ∙ sym (xml_at-skip rows w x not_root lt is);
  xml_fit = h.xml_fit;
  nearest_are = h.nearest_are;
  runs_are = h.runs_are ∙ sym (runs_at-skip rows set rule w x not_root lt is);
  runs_fit = h.runs_fit;
  prepared_are = h.prepared_are;
  is_joined = h.is_joined;
}

pub stacks-unskip : (rows : List RowOf) (set : ℕ → Bool) (rule : Rule) → IsWellShaped rows → (x : ℕ) (stacks : Stacks) → (x ≡ 0 → ⊥) → x < length rows → is_element (kind_of rows x) ≡ false
    → StacksAt rows set rule x stacks → StacksAt rows set rule (parent_of rows x) stacks
stacks-unskip rows set rule w x stacks not_root lt is h = record {
  slots_are = h.slots_are ∙ slots_at-skip rows set rule w x not_root lt is;
  slots_fit = h.slots_fit;
  xml_are = h.xml_are ∙ xml_at-skip rows w x not_root lt is;
  xml_fit = h.xml_fit;
  nearest_are = h.nearest_are;
  runs_are = h.runs_are ∙ runs_at-skip rows set rule w x not_root lt is;
  runs_fit = h.runs_fit;
  prepared_are = h.prepared_are;
  is_joined = h.is_joined;
}

pub stacks-root : (rows : List RowOf) (set : ℕ → Bool) (rule : Rule) → IsWellShaped rows → (stacks : Stacks) → IsEmpty stacks → StacksAt rows set rule 0 stacks
stacks-root rows set rule w stacks none = record {
  slots_are = none.slots ∙ sym (slots_at-root rows set rule w);
  slots_fit = All-same (SlotFits rows) stacks.slots.items [] none.slots (All-nil (SlotFits rows));
  xml_are = none.xml ∙ sym (xml_at-root rows w);
  xml_fit = All-same (λ a. a < length rows) stacks.xml.items [] none.xml (All-nil (λ a. a < length rows));
  nearest_are = nearest-none rows rule stacks.xml.items stacks.nearest none.parts;
  runs_are = none.runs ∙ sym (runs_at-root rows set rule w);
  runs_fit = All-same (λ b. b < length rows) stacks.runs.items [] none.runs (All-nil (λ b. b < length rows));
  prepared_are = none.prepared ∙ sym (ap (values_on rows) none.runs);
  is_joined = subst (λ (o : Option ℕ). IfSome o (λ b. IsRun b stacks.joining.run (with_bases rows None (run_bases rows set (parent_of rows b))))) (sym none.nearest) tt;
}

-- the memory for joining
pub bases-all : (joining : Joining) → KeepsBases joining joining
bases-all joining = record { run = omega arith; own = omega arith; spare = omega arith }

bases-then : (old now new : Joining) → KeepsBases old now → KeepsBases now new → KeepsBases old new
bases-then old now new a b = record {
  run = let m = a.run in let n = b.run in omega arith;
  own = let m = a.own in let n = b.own in omega arith;
  spare = let m = a.spare in let n = b.spare in omega arith;
}

pub bases-kept : (octets : ℕ) (old new : Joining) → KeepsBases old new → BasesFit octets old → BasesFit octets new
bases-kept octets old new k f = record {
  run = let m = k.run in let n = f.run in omega arith;
  own = let m = k.own in let n = f.own in omega arith;
  spare = let m = k.spare in let n = f.spare in omega arith;
}

pub bases-fewer : (few many : ℕ) (joining : Joining) → few ≤ many → BasesFit many joining → BasesFit few joining
bases-fewer few many joining le f = record {
  run = let n = f.run in omega arith;
  own = let n = f.own in omega arith;
  spare = let n = f.spare in omega arith;
}

-- the memory for what is prepared
pub room_for_bases-all : (bases : PreparedBases) → KeepsRoom bases bases
room_for_bases-all bases = record { count = omega arith; room = omega arith }

pub room_for_bases-then : (old now new : PreparedBases) → KeepsRoom old now → KeepsRoom now new → KeepsRoom old new
room_for_bases-then old now new a b = record {
  count = let m = a.count in let n = b.count in omega arith;
  room = let m = a.room in let n = b.room in omega arith;
}

-- what neither counts nor room change
pub room_for_bases-same : (old new : PreparedBases) → new.count ≡ old.count → new.room ≡ old.room → KeepsRoom old new
room_for_bases-same old new c r = record { count = omega arith; room = omega arith }

pub prepared-kept : (octets : ℕ) (old new : PreparedBases) → KeepsRoom old new → PreparedFit octets old → PreparedFit octets new
prepared-kept octets old new k f = record {
  count = let m = k.count in let n = f.count in omega arith;
  room = let m = k.room in let n = f.room in omega arith;
}

pub prepared-fewer : (few many : ℕ) (bases : PreparedBases) → few ≤ many → PreparedFit many bases → PreparedFit few bases
prepared-fewer few many bases le f = record {
  count = let n = f.count in omega arith;
  room = let n = f.room in omega arith;
}

pub keeps-all : (stacks : Stacks) → Keeps stacks stacks
keeps-all stacks = record { slots = omega arith; xml = omega arith; runs = omega arith; prepared = room_for_bases-all stacks.prepared; marks = omega arith; joining = bases-all stacks.joining }

pub keeps-then : (old now new : Stacks) → Keeps old now → Keeps now new → Keeps old new
keeps-then old now new a b = record {
  slots = let m = a.slots in let n = b.slots in omega arith;
  xml = let m = a.xml in let n = b.xml in omega arith;
  runs = let m = a.runs in let n = b.runs in omega arith;
  prepared = room_for_bases-then old.prepared now.prepared new.prepared a.prepared b.prepared;
  marks = let m = a.marks in let n = b.marks in omega arith;
  joining = bases-then old.joining now.joining new.joining a.joining b.joining;
}

pub room-kept : (rows : List RowOf) (rule : Rule) (x : ℕ) (old new : Stacks) → Keeps old new → RoomAt rows rule x old → RoomAt rows rule x new
room-kept rows rule x old new k r = record {
  slots = let m = r.slots in let n = k.slots in omega arith;
  xml = let m = r.xml in let n = k.xml in omega arith;
  runs = let m = r.runs in let n = k.runs in omega arith;
  marks = let m = r.marks in let n = k.marks in omega arith;
  prepared = λ (is : is_eleven rule ≡ true). prepared-kept (total (octets_of rows) (upwards rows x)) old.prepared new.prepared k.prepared (r.prepared is);
  joining = λ (is : is_eleven rule ≡ true). bases-kept (total (octets_of rows) (upwards rows x)) old.joining new.joining k.joining (r.joining is);
}

pub room_in-kept : (rows : List RowOf) (rule : Rule) (first until : ℕ) (old new : Stacks) → Keeps old new → RoomIn rows rule first until old → RoomIn rows rule first until new
room_in-kept rows rule first until old new k r = record { at = λ (x : ℕ) (le : first ≤ x) (lt : x < until). room-kept rows rule x old new k (r.at x le lt) }

-- an element above a row has no more to keep
pub room-above : (rows : List RowOf) (rule : Rule) → IsWellShaped rows → (y x : ℕ) (stacks : Stacks) → y ≤ x → x ≤ last_of rows y → x < length rows → RoomAt rows rule x stacks → RoomAt rows rule y stacks
room-above rows rule w y x stacks le within lt r =
    let entries = total-above rows w (count_of rows) y x le within lt in
    let octets = total-above rows w (octets_of rows) y x le within lt in
    record {
      slots = let m = r.slots in omega arith;
      xml = let m = r.xml in omega arith;
      runs = let m = r.runs in omega arith;
      marks = let m = r.marks in omega arith;
      prepared = λ (is : is_eleven rule ≡ true). prepared-fewer (total (octets_of rows) (upwards rows y)) (total (octets_of rows) (upwards rows x)) stacks.prepared octets (r.prepared is);
      joining = λ (is : is_eleven rule ≡ true). bases-fewer (total (octets_of rows) (upwards rows y)) (total (octets_of rows) (upwards rows x)) stacks.joining octets (r.joining is);
    }

-- what was taken is enough
pub room-taken : (rows : List RowOf) (rule : Rule) (first until entries octets : ℕ) (stacks : Stacks) → HasRoom rows (count_of rows) first until entries → (is_eleven rule ≡ true → HasRoom rows (octets_of rows) first until octets)
    → IsTaken entries octets stacks → RoomIn rows rule first until stacks
room-taken rows rule first until entries octets stacks e o t = record {
  at = λ (x : ℕ) (le : first ≤ x) (lt : x < until).
      let m = e.room x le lt in
      record {
        slots = let k = t.slots in omega arith;
        xml = let k = t.xml in omega arith;
        runs = let k = t.runs in omega arith;
        marks = let k = t.marks in omega arith;
        prepared = λ (is : is_eleven rule ≡ true). prepared-fewer (total (octets_of rows) (upwards rows x)) octets stacks.prepared ((o is).room x le lt) t.prepared;
        joining = λ (is : is_eleven rule ≡ true). bases-fewer (total (octets_of rows) (upwards rows x)) octets stacks.joining ((o is).room x le lt) t.joining;
      };
}

pub room-if_taken : {E : Type 0} (rows : List RowOf) (rule : Rule) (first until entries octets : ℕ) (taken : Result Memory E) → HasRoom rows (count_of rows) first until entries → (is_eleven rule ≡ true → HasRoom rows (octets_of rows) first until octets)
    → IfOk taken (λ m. IsTaken entries octets m.stacks) → IfOk taken (λ m. RoomIn rows rule first until m.stacks)
room-if_taken rows rule first until entries octets (Ok m) e o t = room-taken rows rule first until entries octets m.stacks e o t
room-if_taken rows rule first until entries octets (Err fault) e o t = tt

pub room_in-less : (rows : List RowOf) (rule : Rule) (first until start fin : ℕ) (stacks : Stacks) → first ≤ start → fin ≤ until → RoomIn rows rule first until stacks → RoomIn rows rule start fin stacks
room_in-less rows rule first until start fin stacks le less r = record { at = λ (x : ℕ) (ge : start ≤ x) (lt : x < fin). r.at x (omega arith) (omega arith) }

-- what is room for Canonical XML 1.1 is room for each rule
pub room-any : (rows : List RowOf) (rule : Rule) (x : ℕ) (stacks : Stacks) → RoomAt rows eleven x stacks → RoomAt rows rule x stacks
room-any rows rule x stacks r = record {
  slots = r.slots;
  xml = r.xml;
  runs = r.runs;
  marks = r.marks;
  prepared = λ (is : is_eleven rule ≡ true). r.prepared refl;
  joining = λ (is : is_eleven rule ≡ true). r.joining refl;
}

pub room_in-any : (rows : List RowOf) (rule : Rule) (first until : ℕ) (stacks : Stacks) → RoomIn rows eleven first until stacks → RoomIn rows rule first until stacks
room_in-any rows rule first until stacks r = record { at = λ (x : ℕ) (le : first ≤ x) (lt : x < until). room-any rows rule x stacks (r.at x le lt) }

-- without rows no room is needed
pub room-if_none : {E : Type 0} (rows : List RowOf) (rule : Rule) (taken : Result Memory E) → length rows ≤ 1 → IfOk taken (λ m. RoomIn rows rule 1 (length rows) m.stacks)
room-if_none rows rule (Ok m) none = record { at = λ (x : ℕ) (le : 1 ≤ x) (lt : x < length rows). absurd (omega arith) }
room-if_none rows rule (Err fault) none = tt

-- the memory in which attributes are put in order
pub keeps_ordered-all : (ordered : Ordered) → KeepsOrdered ordered ordered
keeps_ordered-all ordered = record { attributes = omega arith; spare = omega arith }

pub keeps_ordered-then : (old now new : Ordered) → KeepsOrdered old now → KeepsOrdered now new → KeepsOrdered old new
keeps_ordered-then old now new a b = record {
  attributes = let m = a.attributes in let n = b.attributes in omega arith;
  spare = let m = a.spare in let n = b.spare in omega arith;
}

pub ordered_at-kept : (rows : List RowOf) (x : ℕ) (old new : Ordered) → KeepsOrdered old new → OrderedAt rows x old → OrderedAt rows x new
ordered_at-kept rows x old new k room = record {
  attributes = let m = room.attributes in let n = k.attributes in omega arith;
  spare = let m = room.spare in let n = k.spare in omega arith;
}

pub ordered_in-kept : (rows : List RowOf) (first until : ℕ) (old new : Ordered) → KeepsOrdered old new → OrderedIn rows first until old → OrderedIn rows first until new
ordered_in-kept rows first until old new k r = record { at = λ (x : ℕ) (le : first ≤ x) (lt : x < until). ordered_at-kept rows x old new k (r.at x le lt) }

pub ordered_in-less : (rows : List RowOf) (first until start fin : ℕ) (ordered : Ordered) → first ≤ start → fin ≤ until → OrderedIn rows first until ordered → OrderedIn rows start fin ordered
ordered_in-less rows first until start fin ordered le less r = record { at = λ (x : ℕ) (ge : start ≤ x) (lt : x < fin). r.at x (omega arith) (omega arith) }

pub ordered-if_taken : {E : Type 0} (rows : List RowOf) (first until entries : ℕ) (taken : Result Memory E) → HasRoom rows (count_of rows) first until entries
    → IfOk taken (λ m. IsTakenFor entries m.ordered) → IfOk taken (λ m. OrderedIn rows first until m.ordered)
ordered-if_taken rows first until entries (Ok m) e t = record {
  at = λ (x : ℕ) (le : first ≤ x) (lt : x < until).
      let n = e.room x le lt in
      record {
        attributes = let k = t.attributes in omega arith;
        spare = let k = t.spare in omega arith;
      };
}
ordered-if_taken rows first until entries (Err fault) e t = tt

pub ordered-if_none : {E : Type 0} (rows : List RowOf) (taken : Result Memory E) → length rows ≤ 1 → IfOk taken (λ m. OrderedIn rows 1 (length rows) m.ordered)
ordered-if_none rows (Ok m) none = record { at = λ (x : ℕ) (le : 1 ≤ x) (lt : x < length rows). absurd (omega arith) }
ordered-if_none rows (Err fault) none = tt

-- How the fields of the forms in memory are seen.
use Rattle.std.specs.Prelude.{◌≤◌, map, string_bytes, vec_len, vec_capacity}
use Rattle.sig_outside.specs.Pairs.{pair_of}
use Rattle.sig_outside.specs.MemStates.{KeeperState, SinkState, FolderState}
use Rattle.sig_outside.specs.declared.mem_keeper.MemKeeper.TheInside as keeper
use Rattle.sig_outside.specs.declared.mem_sink.MemSink.TheInside as sink
use Rattle.sig_outside.specs.declared.mem_folder.MemFolder.TheInside as folder

abbrev pub keeper_state : keeper.Inside → KeeperState
keeper_state s = record { pairs = map pair_of s.entries.items; failing = s.failing.items; calls = s.calls; faults = s.faults }

abbrev pub sink_state : sink.Inside → SinkState
sink_state s = record { written = s.bytes.items; room = s.room; failing = s.failing.items; calls = s.calls; faults = s.faults }

-- the room is there from the start
abbrev pub HasRoom : sink.Inside → Type 0
HasRoom s = (vec_len s.bytes ≤ s.room) × (s.room ≤ vec_capacity s.bytes)

abbrev pub folder_state : folder.Inside → FolderState
folder_state s = record {
  files = map pair_of s.files.items;
  asked = map string_bytes s.asked.items;
  failing = s.failing.items;
  calls = s.calls;
  faults = s.faults;
}

-- A dialler in memory: its story, the replies of the dials to come, its room and its calls.
use Rattle.std.specs.Prelude.{ℕ, ◌+◌, ◌-◌, ◌^◌, ◌<◌, nat_lt, if◌then◌else◌, Option, None, Some, List, [], ◌∷◌, ◌++◌, length, drop}
use Rattle.std.specs.Option.{option_map}
use Rattle.oc_link.specs.DialsView.{cut_dial}
use Rattle.oc_link.specs.Story.{Story, dials, unused, wrote, broken, through, hung_up}
use Rattle.oc_link.specs.ConnectionsView.{at, further}
use Rattle.oc_io.specs.Tally.{Tally, fresh, called, faulted}

-- the story, the replies of the dials to come, the room, and the calls
pub record MemDiallerView : Type 0 where
  pub story : Story
  pub replies : List (List ℕ)
  -- the number of bytes that can still be kept, of the written bytes and of addresses
  pub room : ℕ
  -- the greatest number of bytes of one read
  pub cut : ℕ
  -- the calls that are to fail, the number of calls and the number of failures
  pub calls : Tally

-- a new dialler, whose dials give these replies in order
abbrev pub dialler_of : List (List ℕ) → ℕ → ℕ → List ℕ → MemDiallerView
dialler_of replies room cut listed = record {
  story = record { ended = []; outgoing = None };
  replies = replies;
  room = room;
  cut = cut;
  calls = fresh listed;
}

-- the count of failed calls is below the greatest u64
abbrev pub CountsFaults : MemDiallerView → Type 0
CountsFaults v = v.calls.faults < 2 ^ 64 - 1

-- The story is told as long as every failed call is counted: the dials past the last reply are kept as a count alone.
abbrev pub told : MemDiallerView → Option Story
told v = if nat_lt v.calls.faults (2 ^ 64 - 1) then Some v.story else None

-- the dialler after a call that did not fail
abbrev pub passed : MemDiallerView → MemDiallerView
passed v = record v { calls = called v.calls }

-- the dialler after a failed call on the outgoing connection
abbrev pub call_failed : MemDiallerView → MemDiallerView
call_failed v = record v {
  story = record v.story { outgoing = option_map (through broken) v.story.outgoing };
  calls = faulted (called v.calls);
}

-- the dialler after a failed dial, which took the next reply if there was one
abbrev pub dial_failed : MemDiallerView → MemDiallerView
dial_failed v = record v {
  story = record (hung_up v.story) { ended = dials v.story ++ cut_dial (at v.replies 0) ∷ [] };
  replies = drop 1 v.replies;
  calls = faulted (called v.calls);
}

-- the dialler after a dial that gives the next reply
abbrev pub after_dial : List ℕ → List ℕ → MemDiallerView → MemDiallerView
after_dial address bytes v = record (passed v) {
  story = record (hung_up v.story) {
    outgoing = Some (record { address = address; connection = wrote bytes (unused (at v.replies 0)) });
  };
  replies = drop 1 v.replies;
  room = v.room - (length address + length bytes);
}

-- the dialler after these bytes were written on the outgoing connection
abbrev pub after_dial_more : List ℕ → MemDiallerView → MemDiallerView
after_dial_more bytes v = record (passed v) {
  story = record v.story { outgoing = option_map (through (wrote bytes)) v.story.outgoing };
  room = v.room - length bytes;
}

-- the dialler after this number of bytes were read from the outgoing connection
abbrev pub after_dial_read : ℕ → MemDiallerView → MemDiallerView
after_dial_read n v = record (passed v) {
  story = record v.story { outgoing = option_map (through (further n)) v.story.outgoing };
}

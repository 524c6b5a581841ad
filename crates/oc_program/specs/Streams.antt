-- A run over bytes in memory, and a run over streams whose numbers of bytes are known.
use Rattle.std.specs.Prelude.{◌≡◌, ℕ, ◌<◌, ◌≤◌, ◌^◌, ◌-◌, ◌+◌, ◌⊎◌, List, [], length, ◌++◌, min, Err}
use Rattle.oc_io.specs.declared.traffic.Traffic.{Traffic}
use Rattle.oc_base.specs.declared.limits.TheConstants.{MAX_SCHEDULE_BYTES}
use Rattle.oc_replay.specs.Pieces.{SomeFront}
use Rattle.oc_schedule.specs.Schedule.{schedule_of}
use Rattle.oc_schedule.specs.declared.fault.ScheduleFault.TheVariants.{Limit}
use Rattle.oc_commands.specs.Outside.{Input, OnError, Output}
use Rattle.oc_commands.specs.Telling.{IsToldOf}

-- In memory

-- the bytes that were read, which are the first ones of the input
abbrev pub IsFrontRead : List ℕ → ℕ → List ℕ → Type 0
IsFrontRead bytes read front = ((rest : List ℕ) × (bytes ≡ front ++ rest)) × (read ≡ length front)

-- an input of which this number of bytes was read
abbrev pub at_bytes : List ℕ → ℕ → Input
at_bytes bytes read = record {
  says = λ scale says. (schedule_of scale bytes ≡ says) × (read ≡ length bytes);
  passes = λ scale what. (schedule_of scale bytes ≡ Err (Limit what)) × (read ≤ length bytes);
  whole = λ all. (all ≡ bytes) × (read ≡ length bytes);
  long = (MAX_SCHEDULE_BYTES < length bytes) × (read ≤ length bytes);
  failed = read ≤ length bytes;
  came = read ≤ length bytes;
  gave = λ front. IsFrontRead bytes read front;
  broke = λ front. IsFrontRead bytes read front;
  unread = read ≡ 0;
}

-- an output that is this text
abbrev pub at_text : List ℕ → Output
at_text output = record { written = λ text. output ≡ text; cut_off = λ text. output ≡ text }

-- a text that grew by these bytes
abbrev pub Grew : List ℕ → List ℕ → List ℕ → Type 0
Grew old bytes new = new ≡ old ++ bytes

-- an error output with the progress lines and this line after them, or a prefix of this line
abbrev pub IsLineOrFront : List ℕ → List ℕ → List ℕ → Type 0
IsLineOrFront output told line = (output ≡ told ++ line) ⊎ SomeFront line (λ front. output ≡ told ++ front)

-- an error output on which these bytes were written as progress
abbrev pub at_lines : List ℕ → OnError
at_lines told = record {
  told = λ whole bytes. IsToldOf (λ text. IsLineOrFront told [] text) whole bytes;
  silent = told ≡ [];
}

-- Over streams

-- traffic of the number of these bytes, as far as a u64 goes
abbrev pub IsCountOf : Traffic → List ℕ → Type 0
IsCountOf traffic bytes = traffic.bytes ≡ min (length bytes) (2 ^ 64 - 1)

-- traffic with a failed call
abbrev pub HasFailed : Traffic → Type 0
HasFailed traffic = 0 < traffic.faults

-- traffic of the number of these bytes, without a failed call
abbrev pub IsSoundCountOf : Traffic → List ℕ → Type 0
IsSoundCountOf traffic bytes = IsCountOf traffic bytes × (traffic.faults ≡ 0)

-- an input of which the number of bytes read is that of a text with this meaning, and no call failed; or one failed
abbrev pub at_input : Traffic → Input
at_input traffic = record {
  says = λ scale says. (bytes : List ℕ) × IsSoundCountOf traffic bytes × (schedule_of scale bytes ≡ says);
  passes = λ scale what. (bytes : List ℕ) × IsSoundCountOf traffic bytes × (schedule_of scale bytes ≡ Err (Limit what));
  whole = λ bytes. IsSoundCountOf traffic bytes;
  long = (bytes : List ℕ) × IsSoundCountOf traffic bytes × (MAX_SCHEDULE_BYTES < length bytes);
  failed = HasFailed traffic;
  came = (bytes : List ℕ) × IsSoundCountOf traffic bytes;
  gave = λ bytes. IsSoundCountOf traffic bytes;
  broke = λ bytes. IsCountOf traffic bytes × HasFailed traffic;
  unread = (traffic.bytes ≡ 0) × (traffic.faults ≡ 0);
}

-- an output whose number of bytes is that of this text, and no call failed; or where one failed after them
abbrev pub at_output : Traffic → Output
at_output traffic = record {
  written = λ text. IsSoundCountOf traffic text;
  cut_off = λ text. IsCountOf traffic text × HasFailed traffic;
}

-- traffic that grew by the number of these bytes
abbrev pub IsCountBehind : Traffic → Traffic → List ℕ → Type 0
IsCountBehind before traffic bytes = traffic.bytes ≡ min (before.bytes + length bytes) (2 ^ 64 - 1)

-- traffic that grew by these bytes, without a failed call
abbrev pub WentOn : Traffic → List ℕ → Traffic → Type 0
WentOn before bytes traffic = IsCountBehind before traffic bytes × (traffic.faults ≡ before.faults)

-- traffic that grew by these bytes, before a call failed
abbrev pub WentOnAndFailed : Traffic → List ℕ → Traffic → Type 0
WentOnAndFailed before bytes traffic = IsCountBehind before traffic bytes × HasFailed traffic

-- traffic that grew by the length of this line; or by that of a prefix of the line,
-- before a call failed
abbrev pub IsCountOfLineOrFront : Traffic → Traffic → List ℕ → Type 0
IsCountOfLineOrFront before traffic line = IsCountBehind before traffic line ⊎ (SomeFront line (λ front. IsCountBehind before traffic front) × HasFailed traffic)

-- no traffic
abbrev pub no_traffic : Traffic
no_traffic = record { bytes = 0; faults = 0 }

-- an error output on which this traffic was written as progress
abbrev pub at_told : Traffic → OnError
at_told told = record {
  told = λ whole bytes. IsToldOf (λ text. IsCountOfLineOrFront no_traffic told text) whole bytes;
  silent = (told.bytes ≡ 0) × (told.faults ≡ 0);
}

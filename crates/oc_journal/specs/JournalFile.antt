-- The meaning of the bytes of a journal file.
use Rattle.std.specs.Prelude.{◌≡◌, ◌≢◌, ◌⊎◌, ℕ, zero, suc, ◌+◌, ◌^◌, ◌<◌, Bool, true, false, ◌&&◌, List, [], ◌∷◌, ◌++◌, length, take, drop, if◌then◌else◌, ◌==◌, nat_lt}
use Rattle.std.specs.Int.{w32, to_be_bytes, from_be_bytes}

-- the magic bytes, `OVERCST1`
abbrev pub magic : List ℕ
magic = 79 ∷ 86 ∷ 69 ∷ 82 ∷ 67 ∷ 83 ∷ 84 ∷ 49 ∷ []

-- the file of a journal without frames: the magic and a closed gate
abbrev pub header : List ℕ
header = magic ++ 0 ∷ []

-- the length of the body that begins with these bytes
abbrev pub length_in : List ℕ → ℕ
length_in behind_gate = from_be_bytes w32 behind_gate

-- whether the length, the body and the next gate are within the file
abbrev pub is_whole : List ℕ → Bool
is_whole behind_gate = nat_lt (4 + length_in behind_gate) (length behind_gate)

-- the body of the frame that begins with these bytes
abbrev pub body_in : List ℕ → List ℕ
body_in behind_gate = take (length_in behind_gate) (drop 4 behind_gate)

-- the bytes from the next gate on
abbrev pub next_gate : List ℕ → List ℕ
next_gate behind_gate = drop (4 + length_in behind_gate) behind_gate

-- the bodies of the frames with open gates, at most n, from a gate on
abbrev pub frames_within : ℕ → List ℕ → List (List ℕ)
frames_within zero bytes = []
frames_within (suc n) [] = []
frames_within (suc n) (gate ∷ rest) =
    if (gate == 1) && is_whole rest then body_in rest ∷ frames_within n (next_gate rest) else []

-- the bodies of the frames, from the first gate up to the first gate that is not open
abbrev pub frames_of : List ℕ → List (List ℕ)
frames_of file = if nat_lt 9 (length file) then frames_within (length file) (drop 8 file) else []

-- one of at most n frames from a gate on has an open gate, but is cut off
abbrev pub is_broken_within : ℕ → List ℕ → Bool
is_broken_within zero bytes = false
is_broken_within (suc n) [] = false
is_broken_within (suc n) (gate ∷ rest) =
    if gate == 1 then (if is_whole rest then is_broken_within n (next_gate rest) else true) else false

-- a file longer than a header that does not begin with the magic, or has an open gate without a full frame after it
abbrev pub IsNoJournal : List ℕ → Type 0
IsNoJournal file =
    (9 < length file) × ((take 8 file ≢ magic) ⊎ (is_broken_within (length file) (drop 8 file) ≡ true))

-- the bytes that are written after the closed gate: the length, the body and the next gate
abbrev pub encoded : List ℕ → List ℕ
encoded body = to_be_bytes w32 (length body) ++ (body ++ 0 ∷ [])

-- these bodies as frames, each after an open gate
abbrev pub blocks : List (List ℕ) → List ℕ
blocks [] = []
blocks (body ∷ bodies) = 1 ∷ (to_be_bytes w32 (length body) ++ (body ++ blocks bodies))

-- the offset of the end of the frames with these bodies, which is that of the gate after them
abbrev pub end_of : List (List ℕ) → ℕ
end_of bodies = length (magic ++ blocks bodies)

-- the length of each body fits four bytes
abbrev pub AreShort : List (List ℕ) → Type 0
AreShort [] = Unit {0}
AreShort (body ∷ bodies) = (length body < 2 ^ 32) × AreShort bodies

-- the file has the frames of these bodies, which end at this offset, and then a gate that is not open
pub record EndsAt (file : List ℕ) (bodies : List (List ℕ)) (offset : ℕ) : Type 0 where
  pub gate : ℕ
  pub stale : List ℕ
  pub parts : file ≡ (magic ++ blocks bodies) ++ (gate ∷ stale)
  pub shut : gate ≢ 1
  pub end : offset ≡ end_of bodies
  pub short : AreShort bodies

-- the file is a journal with these frames
pub record IsJournalOf (bodies : List (List ℕ)) (file : List ℕ) : Type 0 where
  pub journal : ¬ IsNoJournal file
  pub frames : frames_of file ≡ bodies

-- the file has the frames, with or without one more
abbrev pub IsBeforeOrAfter : List (List ℕ) → List ℕ → List ℕ → Type 0
IsBeforeOrAfter frames body file = (frames_of file ≡ frames) ⊎ (frames_of file ≡ frames ++ body ∷ [])

-- the file has these frames, or none
abbrev pub IsAllOrNone : List (List ℕ) → List ℕ → Type 0
IsAllOrNone frames file = (frames_of file ≡ frames) ⊎ (frames_of file ≡ [])

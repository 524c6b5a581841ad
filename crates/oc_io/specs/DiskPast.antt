-- The images of a disk in memory, by the record of its calls.
use Rattle.std.specs.Prelude.{◌≡◌, ◌⊎◌, ℕ, ◌≤◌, List, [], ◌∷◌, length}
use Rattle.oc_io.specs.Calls.{Call, Wrote, Synced, undone}
use Rattle.oc_io.specs.DiskView.{IsTorn}

-- a crash now may leave this image
abbrev pub MayLeave : List ℕ → List Call → List ℕ → Type 0
MayLeave bytes [] c = c ≡ bytes
MayLeave bytes (Synced ∷ past) c = c ≡ bytes
MayLeave bytes (Wrote at over n ∷ past) c =
    (c ≡ bytes) ⊎ ((d : List ℕ) × MayLeave (undone (Wrote at over n) bytes) past d × IsTorn at n d c)

-- a crash at some moment since t may have left this image; moments are counted by calls
abbrev pub HadLeft : List ℕ → List Call → ℕ → List ℕ → Type 0
HadLeft bytes [] t c = c ≡ bytes
HadLeft bytes (call ∷ past) t c =
    MayLeave bytes (call ∷ past) c ⊎ ((t ≤ length past) × HadLeft (undone call bytes) past t c)

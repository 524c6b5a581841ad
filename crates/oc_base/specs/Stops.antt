-- The frame after a stop partway through its append: the four device calls write the frame with a closed gate, sync, open the gate
-- before the frame, and sync.
use Rattle.std.specs.Prelude.{◌≡◌, ℕ, Bool, ◌==◌, ◌&&◌, ◌||◌, ◌⊎◌}

-- the frame is kept if the first k of the four calls work, and a crash then leaves this byte as the gate
abbrev pub IsKeptNew : ℕ → ℕ → Type 0
IsKeptNew k image = (k ≡ 4) ⊎ ((k ≡ 3) × (image ≡ 1))

-- whether the frame is kept
abbrev pub is_kept_new : ℕ → ℕ → Bool
is_kept_new k image = k == 4 || (k == 3 && image == 1)

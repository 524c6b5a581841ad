-- The readings after a sequence of puts.
use Rattle.std.proofs.Common.{◌≡◌, ℕ, ◌≤◌, ◌==◌, if◌then◌else◌, List, [], ◌∷◌, length, replicate, arith, sym, ap, subst, refl, ◌∙◌, get_or-set_other}
use Rattle.std.proofs.lemmas.Grind.{common_steps}
use Rattle.oc_model.specs.declared.reading.Reading.{Reading}
use Rattle.oc_model.specs.Measures.{reading_of, with_reading}
use Rattle.oc_model.specs.Node.{no_reading}
use Rattle.oc_updown.specs.Puts.{Put, OfPeers, after_puts, last_put}

-- a reading is found where it was put, and each other stays
pub reading_put : (ms : List Reading) (p : Put) (x : ℕ) → 1 ≤ x → x ≤ length ms → 1 ≤ p.peer → reading_of (with_reading ms p.peer p.reading) x ≡ (if p.peer == x then p.reading else reading_of ms x)
reading_put ms p x low high peer = grind (arith, common_steps, get_or-set_other)

-- putting keeps the number of readings
pub length_put : (ms : List Reading) (p : Put) → length (with_reading ms p.peer p.reading) ≡ length ms
length_put ms p = grind (arith, common_steps)

-- the reading of x after any puts is the last that was put, or the one before them
pub reading_after : (ps : List Put) (ms : List Reading) (x : ℕ) → 1 ≤ x → x ≤ length ms → OfPeers ps → reading_of (after_puts ms ps) x ≡ last_put x (reading_of ms x) ps
reading_after [] ms x low high peers = refl
reading_after (p ∷ ps) ms x low high peers =
    reading_after ps (with_reading ms p.peer p.reading) x low (subst (λ (n : ℕ). x ≤ n) (sym (length_put ms p)) high) peers.1
    ∙ ap (λ (r : Reading). last_put x r ps) (reading_put ms p x low high peers.0)

-- nothing was measured at first
pub reading_first : (nodes x : ℕ) → 1 ≤ x → x ≤ nodes → reading_of (replicate nodes no_reading) x ≡ no_reading
reading_first nodes x low high = grind (arith, common_steps)

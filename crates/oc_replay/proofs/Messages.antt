-- The lines of messages, one after another.
use Rattle.std.proofs.Common.{◌≡◌, ℕ, zero, suc, ◌+◌, ◌-◌, ◌<◌, List, [], ◌∷◌, ◌++◌, drop, refl, sym, ap, arith}
use Rattle.std.specs.Prelude.{slice_get}
use Rattle.std.proofs.lemmas.List.{append_assoc}
use Rattle.oc_model.specs.declared.message.Message.{Message}
use Rattle.oc_model.specs.World.{message_at}
use Rattle.oc_replay.specs.Lines.{messages_text}
use Rattle.oc_replay.specs.Report.{message_text}

-- the message at a place, and those after it
messages_text-drop : (net : List Message) (k place : ℕ) → messages_text k (drop place net) ≡ message_text k (slice_get net place) ++ messages_text (k + 1) (drop (suc place) net)
messages_text-drop [] k zero = refl
messages_text-drop [] k (suc place) = refl
messages_text-drop (m ∷ ms) k zero = refl
messages_text-drop (m ∷ ms) k (suc place) = messages_text-drop ms k place

-- with the line of one message put, those after it are left
pub message-put : (out : List ℕ) (net : List Message) (k : ℕ) → 0 < k → (out ++ message_text k (message_at net k)) ++ messages_text (k + 1) (drop (k + 1 - 1) net) ≡ out ++ messages_text k (drop (k - 1) net)
message-put out net zero positive = absurd (omega (arith, positive))
message-put out net (suc place) positive =
    let after : suc place + 1 - 1 ≡ suc place = omega arith in
    let before : suc place - 1 ≡ place = omega arith in
    rw (after, before, append_assoc) (ap (λ text. out ++ text) (sym (messages_text-drop net (suc place) place)))

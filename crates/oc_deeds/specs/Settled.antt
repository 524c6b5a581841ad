-- The works between any two deeds, by the calls of the link, and the bytes that connections are given.
use Rattle.std.specs.Prelude.{◌≡◌, ◌⊎◌, ℕ, List, [], ◌∷◌, ◌++◌}
use Rattle.oc_link.specs.Calls.{IsFront}
use Rattle.oc_link.specs.Traffic.{given}
use Rattle.oc_link.specs.declared.call.Call.{Call}
use Rattle.oc_link.specs.declared.phase.Phase.{Phase}
use Rattle.oc_link.specs.declared.phase.Phase.TheVariants.{Answering, Awaiting, Whole}
use Rattle.oc_deeds.specs.Deeds.{Deed, Running, Setting, after_all, calls_of}
use Rattle.oc_deeds.specs.Replying.{IsOrdered, phase_on, replied_all, works_on}
use Rattle.oc_deeds.specs.declared.work.Work.{Work}

-- the works on a connection at this phase: one where a reply is under way, and else none
abbrev pub Fits : Phase → List Work → Type 0
Fits Answering ws = (w : Work) × (ws ≡ w ∷ [])
Fits phase ws = ws ≡ []

-- the works fit each connection after these calls
abbrev pub IsSettled : List Call → List Work → Type 0
IsSettled made ws = (c : ℕ) → Fits (phase_on c made) (works_on c ws)

-- These deeds were done in order from a moment without works, and each connection was given a beginning of the replies to its
-- requests, and all of them where its next request is awaited or its last reply is whole.
pub record AreServed (s : Setting) (made later : List Call) (deeds : List Deed) (a : Running) : Type 0 where
  pub calls : later ≡ made ++ calls_of s deeds a
  pub ordered : IsOrdered s made deeds a
  pub front : (c : ℕ) → IsFront (given c (calls_of s deeds a)) (replied_all c deeds (after_all deeds a).node.groups)
  pub whole : (c : ℕ) → (phase_on c later ≡ Awaiting) ⊎ (phase_on c later ≡ Whole) → given c (calls_of s deeds a) ≡ replied_all c deeds (after_all deeds a).node.groups

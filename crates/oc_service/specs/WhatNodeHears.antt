-- The observations of a node's turns are the reports of its link, as they were read.
use Rattle.std.specs.Prelude.{◌≡◌, ◌⊎◌, ℕ, Option, None, Some, List, [], ◌∷◌, ◌++◌}
use Rattle.std.specs.Option.{option_map}
use Rattle.oc_link.specs.declared.call.Call.{Call}
use Rattle.oc_routes.specs.Verdicts.{NodeTerms}
use Rattle.oc_deeds.specs.Deeds.{Setting, calls_of, errand_in}
use Rattle.oc_server.specs.Runs.{IsLent, after_reading}
use Rattle.oc_deeds.specs.Measured.{IsMeasured}
use Rattle.oc_deeds.specs.Rereading.{MeansLook}
use Rattle.oc_deeds.specs.Turns.{Means, Observation, terms_in}
use Rattle.oc_deeds.specs.declared.reread.Reread.TheVariants as rereads
use Rattle.oc_service.specs.WhatNodeDoes.{Machine, after_turn, due_at, turn_deeds}

-- The event is that reported by the link, read by these terms. If the link tells its story, these
-- calls were made before the turn.
pub record IsHeard (terms : NodeTerms) (calls : Option (List Call)) (t : Observation) (m : Machine) : Type 0 where
  pub lent : List ℕ
  pub is_lent : IsLent (after_reading t.before calls) calls t.event t.bytes lent
  pub means : Means terms lent (errand_in t.event m.running.dials) t.event t.came
  pub measured : IsMeasured m.probing t.came t.now t.median

-- a turn asks the link where nothing is due by itself
abbrev pub MayHear : NodeTerms → Option (List Call) → Option ℕ → Observation → Machine → Type 0
MayHear terms calls None t m = IsHeard terms calls t m
MayHear terms calls (Some place) t m = Unit {0}

-- the calls that were made after a turn
abbrev pub calls_after : Setting → Observation → Machine → Option (List Call) → Option (List Call)
calls_after s t m calls = option_map (λ (cs : List Call). cs ++ calls_of s (turn_deeds s t m) m.running) calls

-- what a turn heard, and what it read of its configuration
abbrev pub HearsAll : Setting → Option (List Call) → Observation → Machine → Type 0
HearsAll s calls t m = MayHear (terms_in s m.running) calls (due_at t m) t m × MeansLook m.reading t.look t.reread

-- the same for each of the turns
abbrev pub AreHeard : Setting → Option (List Call) → List Observation → Machine → Type 0
AreHeard s calls [] m = Unit {0}
AreHeard s calls (t ∷ ts) m = HearsAll s calls t m × AreHeard s (calls_after s t m calls) ts (after_turn s t m)

-- where a turn ended partway through: what the look gave was read, or nothing was done by it
abbrev pub MayReread : Observation → Machine → Type 0
MayReread t m = (t.reread ≡ rereads.Nothing) ⊎ MeansLook m.reading t.look t.reread

-- the calls after these turns
abbrev pub all_calls_after : Setting → List Observation → Machine → Option (List Call) → Option (List Call)
all_calls_after s [] m calls = calls
all_calls_after s (t ∷ ts) m calls = all_calls_after s ts (after_turn s t m) (calls_after s t m calls)

-- the calls that were made until a moment, if the link tells them to the end
abbrev pub until : Option (List Call) → Option (List Call) → Option (List Call)
until (Some calls) (Some all) = Some calls
until calls all = None

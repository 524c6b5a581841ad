-- Worked examples: requests that fail, and requests that are cut.
use Rattle.std.specs.Prelude.{◌≡◌, ℕ, true, false, None, Some, List, [], ◌∷◌, codes}
use Rattle.oc_link.specs.Traffic.{held}
use Rattle.oc_link.specs.declared.call.Call.TheVariants.{Next}
use Rattle.oc_link.specs.declared.event.Coming.{Coming}
use Rattle.oc_link.specs.declared.event.Coming.TheVariants as comings
use Rattle.oc_link.specs.declared.event.LinkEvent.{LinkEvent}
use Rattle.oc_link.specs.declared.event.LinkEvent.TheVariants as events
use Rattle.oc_link.specs.declared.event.Loss.TheVariants as losses
use Rattle.oc_model.specs.Node.{new_node}
use Rattle.oc_routes.specs.Refusals.{refusing}
use Rattle.oc_routes.specs.Verdicts.{arrival}
use Rattle.oc_routes.specs.Tallies.{first_tally}
use Rattle.oc_routes.specs.declared.verdict.Verdict.TheVariants as verdicts
use Rattle.oc_routes.specs.declared.refused.Refused.{Refused}
use Rattle.oc_routes.specs.declared.refused.Refused.TheVariants as refusals
use Rattle.oc_deeds.specs.Deeds.{Deed, Drops, Looks, Reads, Refuses, Running, Sees, Setting, lines}
use Rattle.oc_deeds.specs.Examples.{first_about, two_nodes}
use Rattle.oc_deeds.specs.declared.reread.Reread.TheVariants as rereads
use Rattle.oc_link.specs.declared.look.Look.TheVariants as looks
use Rattle.oc_deeds.specs.Turns.{Observation, turn}
use Rattle.oc_deeds.specs.declared.came.Came.TheVariants as comes
use Rattle.oc_deeds.specs.declared.log.Log.TheVariants.{Inputs}
use Rattle.oc_deeds.specs.declared.pace.Pace.{Pace}
use Rattle.oc_service.specs.Alike.{AreAlike, told_request}
use Rattle.oc_service.specs.Failures.{AreBorneOut}

-- node 1 of 2, new, whose tick is not due
abbrev example : Setting
example = record {
  me = 1;
  log = Inputs;
}

abbrev idle : Running
idle = record { node = new_node (record { nodes = 2; chain = 1; chunk = 4096; areas = 0 ∷ 0 ∷ [] }) 1; outbox = []; works = []; dials = []; config = two_nodes; tally = first_tally 2; about = first_about }

abbrev ticked : Pace
ticked = record { last = Some 0; interval = 100; most = 1000; whole = false; second = None }

-- the observation of a quiet turn
abbrev quiet : Observation
quiet = record { before = 0; event = events.Quiet; bytes = []; came = comes.Nothing; now = 5; median = 0; started = 5; seconds = 7; look = looks.Nothing; reread = rereads.Nothing }

-- the event that tells of a request on connection 8, whose bytes end in this way
abbrev request : Coming → LinkEvent
request coming = events.Request (arrival 8 1 false coming)

-- The deeds of a turn that is told such a request, with these new bytes and this number of bytes held, and that refuses the request.
abbrev refuses : Coming → List ℕ → ℕ → Refused → List Deed
refuses coming bytes count why = turn ticked None (told_request quiet (arrival 8 1 false coming) bytes (comes.Request 8 count (verdicts.Refuse (refusing None why)))) example idle

pub record AreTold : Type 0 where
  -- `! source` after a read that failed, and `! write` after a reply that could not be sent
  pub reads : refuses comings.Failed (codes "GE") 2 refusals.Source ≡ Reads 0 ∷ Sees (request comings.Failed) 100 (codes "GE") ∷ Reads 5 ∷ Refuses 8 2 (refusing None refusals.Source) ∷ Looks looks.Nothing ∷ []
  pub read : AreBorneOut events.Quiet (refuses comings.Failed (codes "GE") 2 refusals.Source)
  pub sent : AreBorneOut events.Quiet (Sees (events.Gone 8 losses.Failed) 100 [] ∷ Reads 5 ∷ Drops 8 true ∷ [])
  -- a failure is not borne out by a request that ended, nor by a connection that gave way
  pub ended : AreBorneOut events.Quiet (refuses comings.Ended (codes "GE") 2 refusals.Source) → ⊥
  pub gave_way : AreBorneOut events.Quiet (Sees (events.Gone 8 losses.GaveWay) 100 [] ∷ Reads 5 ∷ Drops 8 true ∷ []) → ⊥
  -- a failure is not borne out a turn later
  pub late : AreBorneOut events.Quiet (Sees (request comings.Failed) 100 [] ∷ Sees events.Quiet 100 [] ∷ Refuses 8 2 (refusing None refusals.Source) ∷ []) → ⊥

pub record AreCut : Type 0 where
  -- a request in two pieces
  pub held_of_two : held 8 (Next (request comings.Open) (codes "GET /a H") ∷ Next (request comings.Open) (codes "TTP/1.1\r\n") ∷ []) ≡ codes "GET /a HTTP/1.1\r\n"
  -- a request that is refused by its first line, and by all of its bytes
  pub line : lines example (refuses comings.Open (codes "GET /!x HTTP/1.1\r\n") 18 refusals.Path) ≡ codes "! path\n"
  pub alike : AreAlike example (refuses comings.Open (codes "GET /!x HTTP/1.1\r\n") 18 refusals.Path) (refuses comings.Ended (codes "\r\n") 20 refusals.Path) idle

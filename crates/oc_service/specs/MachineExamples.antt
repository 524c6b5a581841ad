-- Worked example: a node that reads its configuration again, goes by one that it can go by, and
-- keeps it where another one needs a new start.
use Rattle.std.specs.Prelude.{◌≡◌, ℕ, true, false, None, Some, List, [], ◌∷◌, codes}
use Rattle.oc_link.specs.declared.call.Call.TheVariants.{Dial, Look as LooksAt, Millis, Next, Report}
use Rattle.oc_link.specs.declared.event.LinkEvent.TheVariants.{Quiet}
use Rattle.oc_link.specs.declared.look.Look.TheVariants.{Text}
use Rattle.oc_http.specs.Writing.{probe_text}
use Rattle.oc_config.specs.Settings.{Settings}
use Rattle.oc_config.specs.declared.config_key.ConfigKey.TheVariants.{Chain}
use Rattle.oc_model.specs.Node.{Node, new_node}
use Rattle.oc_deeds.specs.Deeds.{Keeps, Looks, Probes, Reads, Rereads, Sees, Setting, calls_of}
use Rattle.oc_deeds.specs.Dials.{dialling}
use Rattle.oc_deeds.specs.Examples.{first_about, two_nodes}
use Rattle.oc_deeds.specs.Rereading.{MeansLook}
use Rattle.oc_deeds.specs.Turns.{Observation}
use Rattle.oc_deeds.specs.declared.came.Came.TheVariants as comes
use Rattle.oc_deeds.specs.declared.dials.Errand.TheVariants as errands
use Rattle.oc_deeds.specs.declared.log.Log.TheVariants.{Inputs}
use Rattle.oc_deeds.specs.declared.reread.Reread.{Reread}
use Rattle.oc_deeds.specs.declared.reread.Reread.TheVariants as rereads
use Rattle.oc_deeds.specs.declared.unfit.Unfit.TheVariants.{Restart}
use Rattle.oc_service.specs.WhatNodeDoes.{Machine, after_turns, node_at_first, turns_deeds}

-- node 1 of two
abbrev example : Setting
example = record { me = 1; log = Inputs }

abbrev node : Node
node = new_node (record { nodes = 2; chain = 1; chunk = 4096; areas = 0 ∷ 0 ∷ [] }) 1

-- its configuration was read from these bytes; a tick was taken, and no peer is left to probe
abbrev running : Machine
running = record {
  running = node_at_first two_nodes first_about node;
  pace = record { last = Some 0; interval = 100; most = 1000; whole = false; second = None };
  probing = Some (record { gauge = [] ∷ [] ∷ []; rotation = record { coming = [] } });
  reading = Some (codes "one");
}

-- a quiet turn in which the file of the configuration has these bytes, which are read so
abbrev reads : List ℕ → Reread → Observation
reads bytes reread = record { before = 0; event = Quiet; bytes = []; came = comes.Nothing; now = 5; median = 0; started = 5; seconds = 7; look = Text bytes; reread = reread }

-- node 2 at another address, and then another chain, too
abbrev moved : Settings
moved = record two_nodes { addresses = Some (codes "a:1") ∷ Some (codes "c:3") ∷ [] }

abbrev chained : Settings
chained = record moved { chain = 2 }

-- a turn in which the file was changed to the one, and a turn in which it was changed to the other
abbrev moves : Observation
moves = reads (codes "two") (rereads.Config moved)

abbrev restarts : Observation
restarts = reads (codes "three") (rereads.Config chained)

pub record Computes : Type 0 where
  -- the deeds of these turns: the node goes by the new address, and keeps its chain
  pub deeds : turns_deeds example (moves ∷ restarts ∷ []) running
      ≡ Reads 0 ∷ Sees Quiet 100 [] ∷ Reads 5 ∷ Looks (Text (codes "two")) ∷ Rereads moved
      ∷ Reads 0 ∷ Sees Quiet 100 [] ∷ Reads 5 ∷ Reads 5 ∷ Probes 2 0 5 ∷ Looks (Text (codes "three")) ∷ Keeps (Restart Chain) ∷ []
  -- their calls: the new address is dialled, and both changes are told of
  pub calls : calls_of example (turns_deeds example (moves ∷ restarts ∷ []) running) running.running
      ≡ Millis 0 ∷ Next Quiet [] ∷ Millis 5 ∷ LooksAt (Text (codes "two")) ∷ Report (codes "overcast: configuration read again\n")
      ∷ Millis 0 ∷ Next Quiet [] ∷ Millis 5 ∷ Millis 5 ∷ Dial 0 (codes "c:3") (probe_text (codes "c:3"))
      ∷ LooksAt (Text (codes "three")) ∷ Report (codes "overcast: config: restart chain\n") ∷ []
  -- after the first turn the node goes by the new configuration, whose peers it probes next
  pub goes_by : after_turns example (moves ∷ []) running ≡ record running {
    running = node_at_first moved first_about node;
    probing = Some (record { gauge = [] ∷ [] ∷ []; rotation = record { coming = 2 ∷ [] } });
    reading = Some (codes "two");
  }
  -- after the second turn it still goes by that one, and the last one was refused
  pub keeps : (after_turns example (moves ∷ restarts ∷ []) running).running
      ≡ record (node_at_first moved (record first_about { refused = true }) node) { dials = dialling 0 (errands.Probe 2 5) ∷ [] }
  -- the bytes that were refused are passed over in the next turn
  pub passed_over : MeansLook (after_turns example (moves ∷ restarts ∷ []) running).reading (Text (codes "three")) rereads.Nothing

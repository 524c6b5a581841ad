-- The effect of a node's run on its three files, its link and its output.
use Rattle.std.specs.Prelude.{◌≡◌, ◌⊎◌, ℕ, ◌+◌, ◌<◌, Bool, true, false, Option, Some, None, List, [], ◌∷◌, ◌++◌, length, replicate, take}
use Rattle.std.specs.List.{AllByRecursion}
use Rattle.std.specs.Option.{option_map}
use Rattle.oc_config.specs.Settings.{Settings}
use Rattle.oc_link.specs.Calls.{IsFront}
use Rattle.oc_link.specs.Counts.{CountsFailure}
use Rattle.oc_link.specs.Told.{AddsAll}
use Rattle.oc_link.specs.declared.call.Call.{Call}
use Rattle.oc_link.specs.declared.call.Call.TheVariants as acts
use Rattle.oc_link.specs.declared.counts.LinkCounts.{LinkCounts}
use Rattle.oc_link.specs.declared.event.LinkEvent.TheVariants.{Quiet}
use Rattle.oc_io.specs.DiskView.{DiskView}
use Rattle.oc_io.specs.Faults.{Rose}
use Rattle.oc_keep.specs.Files.{Disks, AllGoOn, AreHonest, Leaves, OneRose, SameAsEither, Survives}
use Rattle.oc_keep.specs.KeptView.{IsFullOn, header}
use Rattle.oc_keep.specs.Promises.{LoadsSafely, RefusesNode}
use Rattle.oc_keep.specs.Trials.{first_node}
use Rattle.oc_keep.specs.Errors.{IsOutOfMemory}
use Rattle.oc_keep.specs.declared.errors.KeepLoad.{KeepLoad}
use Rattle.oc_model.specs.declared.input.Input.{Input}
use Rattle.oc_model.specs.Node.{Header, Node}
use Rattle.oc_model.specs.Step.{step}
use Rattle.oc_probe.specs.Turns.{peers_of}
use Rattle.oc_probe.specs.declared.probing.Probing.{Probing}
use Rattle.oc_routes.specs.Responses.{address_of}
use Rattle.oc_routes.specs.Sights.{about_of}
use Rattle.oc_base.specs.declared.limits.TheConstants.{MAX_NODES}
use Rattle.oc_deeds.specs.Areas.{areas_among}
use Rattle.oc_deeds.specs.Changes.{KeepAreas, after_changes, changes_of}
use Rattle.oc_deeds.specs.declared.log.Log.TheVariants.{Record}
use Rattle.oc_deeds.specs.Deeds.{Deed, Setting, calls_of, inputs_of, line, lines}
use Rattle.oc_deeds.specs.Pace.{most_interval}
use Rattle.oc_deeds.specs.Under.{Cuts}
use Rattle.oc_deeds.specs.Recorded.{IsRecordOf}
use Rattle.oc_deeds.specs.Records.{is_record}
use Rattle.oc_deeds.specs.Done.{CountsAll}
use Rattle.oc_server.specs.Scenes.{CountsAt, WritesAt}
use Rattle.oc_deeds.specs.Under.{Idle, Taking, Under, under_line}
use Rattle.oc_deeds.specs.Turns.{Observation, terms_in}
use Rattle.oc_deeds.specs.Within.{IsWithin}
use Rattle.oc_deeds.specs.declared.ends.TurnEnd.{TurnEnd}
use Rattle.oc_deeds.specs.declared.ends.TurnEnd.TheVariants as ends
use Rattle.oc_service.specs.AtAnyMoment.{AlwaysRecovers}
use Rattle.oc_service.specs.Failures.{AreBorneOut}
use Rattle.oc_service.specs.WhatNodeDoes.{Machine, at_first, begins, begun, due_at, machine_after, node_at_first, node_deeds, turn_deeds}
use Rattle.oc_service.specs.WhatNodeGives.{GivesReplies}
use Rattle.oc_service.specs.WhatNodeHears.{AreHeard, MayHear, MayReread, all_calls_after, until}
use Rattle.oc_service.specs.declared.running.NodeEnd.{NodeEnd}
use Rattle.oc_service.specs.declared.running.NodeEnd.TheVariants.{Load, Turned}
use Rattle.oc_service.specs.declared.running.Task.{Task}

-- A node of a configuration

-- the header of the network of a configuration
abbrev pub header_of_settings : Settings → Header
header_of_settings c = header (length c.addresses) c.chain c.chunk c.areas

-- the header that a node is loaded with: that of its configuration, if it writes a record, which has one header; any other node has room for all
-- ids that there can be, so that more nodes may come while it runs
abbrev pub header_by : Bool → Settings → Header
header_by true c = header_of_settings c
header_by false c = header MAX_NODES c.chain c.chunk (areas_among MAX_NODES c.areas)

abbrev pub header_for : Task → Settings → Header
header_for task c = header_by (is_record task.log) c

-- the number of the node, and the form of the log
abbrev pub setting_of : Task → Setting
setting_of task = record {
  me = task.me;
  log = task.log;
}

-- the state of probing at first: no rates of peers, and all other nodes that have an address in turn
abbrev pub probing_of : ℕ → ℕ → List (Option (List ℕ)) → Probing
probing_of nodes me addresses = record { gauge = replicate nodes []; rotation = record { coming = peers_of me addresses } }

abbrev pub probing_at_first : Bool → ℕ → ℕ → List (Option (List ℕ)) → Option Probing
probing_at_first true nodes me addresses = Some (probing_of nodes me addresses)
probing_at_first false nodes me addresses = None

-- the machine of the node recovered from its files
abbrev pub machine_on : {D : Type 0} → (D → DiskView) → Settings → Task → Disks D → Machine
machine_on view c task d = at_first (is_record task.log) (most_interval task.probes task.me) (probing_at_first task.probes (header_for task c).nodes task.me c.addresses) task.text
    (node_at_first c (about_of task.about) (first_node view (header_for task c) task.me d))

-- The link of the node

-- the link listens, and then each deed makes its calls
abbrev pub node_calls : Settings → Task → List Deed → Machine → List Call
node_calls c task ds m = acts.Listen (address_of c.listens task.me) ∷ calls_of (setting_of task) ds m.running

-- the calls before its first turn, if the link tells them to the end
abbrev pub heard_before : Settings → ℕ → Option (List Call) → Option (List Call) → Option (List Call)
heard_before c me old new = option_map (λ (cs : List Call). cs ++ acts.Listen (address_of c.listens me) ∷ []) (until old new)

-- All turns

-- The deeds are those of the machine, in this number of turns, for the reports of the link. Each
-- deed made its calls, each connection was given the replies to its requests, a line of a failure
-- was written only if the link reported one, a record has their inputs, which are within their
-- ranges, and keeps the areas of the node, and every crash leaves the node after the deeds; at every
-- moment of the run the same holds of a prefix of the deeds, whose lines were written.
pub record DidOn {D L K : Type 0} (view : D → DiskView) (story : L → Option (List Call)) (counts : L → LinkCounts) (takes : K → List ℕ → K → Type 0) (c : Settings) (task : Task) (deeds : List Deed) (old new : Disks D) (link after : L) (sink written : K) : Type 0 where
  pub told : List Observation
  pub many : length told ≡ task.turns
  pub are : AreHonest view old → deeds ≡ node_deeds (setting_of task) c.measures told (machine_on view c task old)
  pub heard : AreHonest view old
      → AreHeard (setting_of task) (heard_before c task.me (story link) (story after)) told (begun (setting_of task) c.measures (machine_on view c task old))
  pub calls : AreHonest view old → AddsAll (node_calls c task deeds (machine_on view c task old)) (story link) (story after)
  pub replies : AreHonest view old → GivesReplies (setting_of task) deeds (machine_on view c task old).running (heard_before c task.me (story link) (story after)) (story after)
  pub failures : AreHonest view old → AreBorneOut Quiet deeds
  pub recorded : AreHonest view old → IsRecordOf (setting_of task) (first_node view (header_for task c) task.me old) deeds []
  pub areas : AreHonest view old → task.log ≡ Record → KeepAreas (first_node view (header_for task c) task.me old).control deeds
  pub within : AllByRecursion (IsWithin (header_for task c).nodes task.me) (inputs_of deeds)
  pub counted : CountsAll deeds (counts link) (counts after)
  pub goes_on : AllGoOn view old new
  pub survives : AreHonest view old → Survives view (header_for task c) task.me new (after_changes (first_node view (header_for task c) task.me old) (changes_of deeds))
  pub moments : AreHonest view old → AlwaysRecovers view (header_for task c) task.me takes (line (setting_of task)) deeds Idle old new sink written

-- An early end

-- the state after every crash if the run ended with this under way: if a disk or the output failed,
-- perhaps with one more input
abbrev pub LeavesOne : {D : Type 0} → (D → DiskView) → Header → ℕ → Disks D → Node → Under → Type 0
LeavesOne view h me d n (Taking i) = Leaves view h me d (SameAsEither n (step n i).node)
LeavesOne view h me d n under = Survives view h me d n

abbrev pub LeavesBehind : {D : Type 0} → (D → DiskView) → Header → ℕ → Disks D → TurnEnd → Node → Under → Type 0
LeavesBehind view h me d ends.Disk n under = LeavesOne view h me d n under
LeavesBehind view h me d ends.Sink n under = LeavesOne view h me d n under
LeavesBehind view h me d end n under = LeavesOne view h me d n Idle

-- the file of this input would pass its limit, at the node n, with the files that any crash of the new disks leaves
abbrev pub IsFullFor : {D : Type 0} → (D → DiskView) → Input → Node → Disks D → Disks D → Type 0
IsFullFor view i n old new = AreHonest view old → IsFullOn view new n i

-- the reason why the run ended, if the output is not to blame: a file is full for the input that is
-- under way, and for no other
abbrev pub HasCauseOn : {D : Type 0} → (D → DiskView) → TurnEnd → Under → Node → Disks D → Disks D → LinkCounts → LinkCounts → Type 0
HasCauseOn view ends.Disk under n old new before behind = OneRose view old new
HasCauseOn view ends.Link under n old new before behind = Rose before.listening behind.listening
HasCauseOn view ends.Full (Taking i) n old new before behind = IsFullFor view i n old new
HasCauseOn view ends.Full under n old new before behind = ⊥
HasCauseOn view ends.Served under n old new before behind = ⊥
HasCauseOn view end under n old new before behind = Unit {0}

-- the change of the link's counts over these deeds, up to this end
abbrev pub CountsUntil : TurnEnd → List Deed → LinkCounts → LinkCounts → Type 0
CountsUntil end deeds old new = (at : LinkCounts) × CountsAll deeds old at × CountsAt end at new

-- The run ended after these deeds, a prefix of those of the machine: after whole turns, in the
-- midst of a turn with the observation `last`, or before the first. In a turn with more deeds than
-- the asking of the link, the event was read, and so was the configuration, if anything was done by
-- it. Each connection was given the replies to its requests
-- until then, and a line of a failure was written, or begun, only if the link reported one. A
-- record has the inputs of these deeds, which are within their ranges, and perhaps the next input.
-- At every moment the lines of a prefix of the deeds were written, and every crash leaves its node.
pub record StoppedOn {D L K : Type 0} (view : D → DiskView) (story : L → Option (List Call)) (counts : L → LinkCounts) (takes fails : K → List ℕ → K → Type 0) (c : Settings) (task : Task) (end : TurnEnd) (deeds : List Deed) (under : Under) (old new : Disks D) (link after : L) (sink written : K) : Type 0 where
  pub told : List Observation
  pub last : Observation
  -- fewer turns than were asked for come before the last one, or the run ended before the first
  pub few : (length told < task.turns) ⊎ (AreHonest view old → Cuts (begins (setting_of task) c.measures (first_node view (header_for task c) task.me old)) deeds under)
  pub cut : AreHonest view old
      → Cuts (node_deeds (setting_of task) c.measures told (machine_on view c task old) ++ turn_deeds (setting_of task) last (machine_after (setting_of task) c.measures told (machine_on view c task old))) deeds under
  pub heard : AreHonest view old
      → AreHeard (setting_of task) (heard_before c task.me (story link) (story after)) told (begun (setting_of task) c.measures (machine_on view c task old))
  pub last_heard : AreHonest view old
      → (length deeds < length (node_deeds (setting_of task) c.measures told (machine_on view c task old)) + 3)
      ⊎ MayHear (terms_in (setting_of task) (machine_after (setting_of task) c.measures told (machine_on view c task old)).running)
      (all_calls_after (setting_of task) told (begun (setting_of task) c.measures (machine_on view c task old)) (heard_before c task.me (story link) (story after)))
      (due_at last (machine_after (setting_of task) c.measures told (machine_on view c task old))) last (machine_after (setting_of task) c.measures told (machine_on view c task old))
  pub last_reread : AreHonest view old → MayReread last (machine_after (setting_of task) c.measures told (machine_on view c task old))
  pub calls : AreHonest view old → AddsAll (node_calls c task deeds (machine_on view c task old)) (story link) (story after)
  pub replies : AreHonest view old → GivesReplies (setting_of task) deeds (machine_on view c task old).running (heard_before c task.me (story link) (story after)) (story after)
  pub failures : (honest : AreHonest view old) → AreBorneOut Quiet (deeds ++ take 1 (cut honest).behind)
  pub recorded : (honest : AreHonest view old) → IsRecordOf (setting_of task) (first_node view (header_for task c) task.me old) deeds (cut honest).behind
  pub areas : AreHonest view old → task.log ≡ Record → KeepAreas (first_node view (header_for task c) task.me old).control deeds
  pub within : AllByRecursion (IsWithin (header_for task c).nodes task.me) (inputs_of deeds)
  pub counted : CountsUntil end deeds (counts link) (counts after)
  pub goes_on : AllGoOn view old new
  pub leaves : AreHonest view old → LeavesBehind view (header_for task c) task.me new end (after_changes (first_node view (header_for task c) task.me old) (changes_of deeds)) under
  -- the output when its last deed was done; then, where the output failed, it took some prefix of the line under way, and else nothing more
  pub so_far : K
  pub rest : WritesAt takes fails so_far written end [] (under_line (setting_of task) under)
  pub moments : AreHonest view old → AlwaysRecovers view (header_for task c) task.me takes (line (setting_of task)) deeds under old new sink so_far
  pub cause : HasCauseOn view end under (after_changes (first_node view (header_for task c) task.me old) (changes_of deeds)) old new (counts link) (counts after)

-- the link could not listen: nothing was done
pub record WasDeaf {D L K : Type 0} (view : D → DiskView) (story : L → Option (List Call)) (counts : L → LinkCounts) (takes : K → List ℕ → K → Type 0) (c : Settings) (task : Task) (old new : Disks D) (link after : L) (sink written : K) : Type 0 where
  pub goes_on : AllGoOn view old new
  pub survives : AreHonest view old → Survives view (header_for task c) task.me new (first_node view (header_for task c) task.me old)
  pub moments : AreHonest view old → AlwaysRecovers view (header_for task c) task.me takes (line (setting_of task)) [] Idle old new sink written
  pub calls : story after ≡ story link
  pub counted : CountsFailure (counts link) (counts after)

-- All ends

-- the lines of these deeds were written; if the output is to blame, a prefix of the line under way
-- after them, and then it failed
abbrev pub Writes : (List ℕ → Type 0) → (List ℕ → Type 0) → Setting → TurnEnd → List Deed → Under → Type 0
Writes written cut_off s ends.Sink deeds under = (front : List ℕ) × IsFront front (under_line s under) × cut_off (lines s deeds ++ front)
Writes written cut_off s end deeds under = written (lines s deeds)

-- the knowledge of the files and the link of a run, and of its output at each moment
pub record OnRun : Type 1 where
  -- the node was not loaded, for this cause, and nothing was done
  pub refused : KeepLoad → Type 0
  -- all turns were made, by these deeds
  pub did : List Deed → Type 0
  -- the run ended after these deeds, with this under way
  pub stopped : TurnEnd → List Deed → Under → Type 0
  -- the link could not listen
  pub deaf : Type 0

abbrev pub at_run : {D L K : Type 0} → (D → DiskView) → (L → Option (List Call)) → (L → LinkCounts) → (K → List ℕ → K → Type 0) → (K → List ℕ → K → Type 0) → Settings → Task → Disks D → Disks D → L → L → K → K → OnRun
at_run view story counts takes fails c task old new link after sink written = record {
  refused = λ error. RefusesNode view (length c.addresses) old new error × LoadsSafely view (header_for task c) task.me old new × (after ≡ link);
  did = λ deeds. DidOn view story counts takes c task deeds old new link after sink written;
  stopped = λ end deeds under. StoppedOn view story counts takes fails c task end deeds under old new link after sink written;
  deaf = WasDeaf view story counts takes c task old new link after sink written;
}

module _ (run : OnRun) (written cut_off : List ℕ → Type 0) (s : Setting) where
  abbrev pub Stops : TurnEnd → Type 0
  Stops end = (deeds : List Deed) × (under : Under) × Writes written cut_off s end deeds under × run.stopped end deeds under

  -- The end of a node's run with this setting: the node was not loaded, or made all its turns, or its run ended
  -- early.
  abbrev pub NodeEnds : NodeEnd → Type 0
  NodeEnds (Load error) = run.refused error × written []
  NodeEnds (Turned ends.Served) = (deeds : List Deed) × written (lines s deeds) × run.did deeds
  NodeEnds (Turned ends.Link) = (written [] × run.deaf) ⊎ Stops ends.Link
  NodeEnds (Turned end) = Stops end

-- all turns were made, or memory ran out, or a file was full
abbrev pub EndsUnfailed : NodeEnd → Type 0
EndsUnfailed (Load error) = IsOutOfMemory error
EndsUnfailed (Turned ends.Served) = Unit {0}
EndsUnfailed (Turned ends.Full) = Unit {0}
EndsUnfailed (Turned ends.Memory) = Unit {0}
EndsUnfailed (Turned end) = ⊥

-- The effect on the outside, stated in other relations that follow.
use Rattle.std.proofs.Common.{◌≡◌, ℕ, Bool, true, false, List, length, Option, Some, None, Result, Ok, Err, inl, inr, subst, take}
use Rattle.oc_config.specs.Settings.{Settings}
use Rattle.oc_config.specs.declared.fault.ConfigFault.TheVariants as faults
use Rattle.oc_client.specs.declared.end.GetEnd.{GetEnd}
use Rattle.oc_client.specs.declared.end.GetEnd.TheVariants as gets
use Rattle.oc_client.specs.declared.put_end.PutEnd.{PutEnd}
use Rattle.oc_client.specs.declared.put_end.PutEnd.TheVariants as puts
use Rattle.oc_client.specs.declared.publication.Publication.{Publication}
use Rattle.oc_merge.specs.Told.{Records}
use Rattle.oc_merge.specs.declared.fault.Most.{Most}
use Rattle.oc_merge.specs.declared.fault.Most.TheVariants as mosts
use Rattle.oc_merge.specs.declared.fault.RecordsFault.{RecordsFault}
use Rattle.oc_replay.specs.declared.end.ReplayEnd.{ReplayEnd}
use Rattle.oc_replay.specs.declared.end.ReplayEnd.TheVariants as replays
use Rattle.oc_schedule.specs.Script.{Script}
use Rattle.oc_schedule.specs.declared.fault.ScheduleFault.{ScheduleFault}
use Rattle.oc_schedule.specs.declared.fault.What.{What}
use Rattle.oc_schedule.specs.declared.scale.Scale.{Scale}
use Rattle.oc_words.specs.declared.request.Download.{Download}
use Rattle.oc_model.specs.declared.header.Sizes.{Sizes}
use Rattle.oc_words.specs.declared.request.Invocation.{Invocation}
use Rattle.oc_words.specs.declared.request.Sample.{Sample}
use Rattle.oc_words.specs.declared.request.Service.{Service}
use Rattle.oc_words.specs.declared.request.Upload.{Upload}
use Rattle.oc_commands.specs.AtCheck.{HappenedAtCheck, sizes_in, sizes_of}
use Rattle.oc_commands.specs.AtConfig.{ReadsConfig}
use Rattle.oc_commands.specs.AtConfigured.{HappenedAtConfigured}
use Rattle.oc_commands.specs.AtGen.{HappenedAtGen}
use Rattle.oc_commands.specs.AtGet.{Downloaded, HappenedAtGet, Tells as GetTells, Wrote, is_done as is_got}
use Rattle.oc_commands.specs.AtMerge.{HappenedAtMerge, PassesMost, TellsRecords}
use Rattle.oc_commands.specs.AtNode.{HappenedAtNode, UnlessRan, task_of}
use Rattle.oc_commands.specs.AtPut.{Came, CameSo, HappenedAtPut, Published as Posted, Tells as PutTells, is_done as is_put, plan_of}
use Rattle.oc_commands.specs.AtReplay.{HappenedAtReplay, scale_of}
use Rattle.oc_commands.specs.AtRules.{HappenedAtRules}
use Rattle.oc_commands.specs.AtToken.{ReadsToken, TakesToken}
use Rattle.oc_commands.specs.Lines.{version_line}
use Rattle.oc_commands.specs.Outside.{Input, OnError, OnFiles, OnLink, OnNode, OnStage, Output, Outside, at_node}
use Rattle.oc_commands.specs.Run.{Happened, IsAlone, IsFileless, IsOffline, IsUnplayed}
use Rattle.oc_commands.specs.declared.checking.CheckEnd.{CheckEnd}
use Rattle.oc_commands.specs.declared.checking.CheckEnd.TheVariants as checks
use Rattle.oc_commands.specs.declared.checking.ConfiguredEnd.{ConfiguredEnd}
use Rattle.oc_commands.specs.declared.checking.ConfiguredEnd.TheVariants as configured
use Rattle.oc_commands.specs.declared.configuring.ConfigEnd.{ConfigEnd}
use Rattle.oc_commands.specs.declared.configuring.ConfigEnd.TheVariants as configs
use Rattle.oc_commands.specs.declared.ending.End.{End}
use Rattle.oc_commands.specs.declared.ending.End.TheVariants.{Helped, HelpFailed, Versioned, VersionFailed, Misused, NoMemory, Replayed, Generated, Merged, Listed, Checked, CheckedConfigured, NoToken, Got, Published, Served}
use Rattle.oc_commands.specs.declared.generating.GenEnd.{GenEnd}
use Rattle.oc_commands.specs.declared.generating.GenEnd.TheVariants as gens
use Rattle.oc_commands.specs.declared.listing.RulesEnd.{RulesEnd}
use Rattle.oc_commands.specs.declared.listing.RulesEnd.TheVariants as lists
use Rattle.oc_commands.specs.declared.merging.RecordsEnd.{RecordsEnd}
use Rattle.oc_commands.specs.declared.merging.RecordsEnd.TheVariants as records
use Rattle.oc_commands.specs.declared.serving.ServiceEnd.{ServiceEnd}
use Rattle.oc_commands.specs.declared.serving.ServiceEnd.TheVariants as services
use Rattle.oc_commands.specs.declared.token.TokenEnd.{TokenEnd}
use Rattle.oc_commands.specs.declared.token.TokenEnd.TheVariants as tokens
use Rattle.oc_deeds.specs.Deeds.{Setting}
use Rattle.oc_service.specs.OnSite.{NodeEnds, OnRun, Stops, setting_of}
use Rattle.oc_service.specs.declared.running.Task.{Task}
use Rattle.oc_service.proofs.Retold.{TellsRun, run_retold}
use Rattle.oc_io.specs.DiskView.{DiskView}
use Rattle.oc_keep.specs.Files.{Disks}
use Rattle.oc_link.specs.declared.call.Call.{Call}
use Rattle.oc_link.specs.declared.counts.LinkCounts.{LinkCounts}
use Rattle.oc_service.specs.declared.running.NodeEnd.{NodeEnd}
use Rattle.oc_service.specs.declared.running.NodeEnd.TheVariants as nodes
use Rattle.oc_deeds.specs.declared.ends.TurnEnd.{TurnEnd}
use Rattle.oc_deeds.specs.declared.ends.TurnEnd.TheVariants as turns

-- statements of one input that hold of another
pub record TellsInput (i j : Input) : Type 0 where
  pub says : (scale : Scale) (r : Result Script ScheduleFault) → i.says scale r → j.says scale r
  pub passes : (scale : Scale) (what : What) → i.passes scale what → j.passes scale what
  pub whole : (bytes : List ℕ) → i.whole bytes → j.whole bytes
  pub long : i.long → j.long
  pub failed : i.failed → j.failed
  pub came : i.came → j.came
  pub gave : (bytes : List ℕ) → i.gave bytes → j.gave bytes
  pub broke : (bytes : List ℕ) → i.broke bytes → j.broke bytes
  pub unread : i.unread → j.unread

-- statements of one output that hold of another
pub record TellsOutput (o p : Output) : Type 0 where
  pub written : (text : List ℕ) → o.written text → p.written text
  pub cut_off : (text : List ℕ) → o.cut_off text → p.cut_off text

-- statements of one error output that hold of another
pub record TellsError (d e : OnError) : Type 0 where
  pub told : (whole : Bool) (count : ℕ) → d.told whole count → e.told whole count
  pub silent : d.silent → e.silent

-- statements of one node that hold of another
pub record TellsNode (m n : OnNode) : Type 0 where
  pub run : (s : Settings) (task : Task) → TellsRun (m.run s task) (n.run s task)
  pub untouched : m.untouched → n.untouched

-- the statements about a node whose output is seen as another one, from this state to that one
module _ {D N K J : Type 0} (view : D → DiskView) (story : N → Option (List Call)) (counts : N → LinkCounts) (takes fails : K → List ℕ → K → Type 0) (adds adds_less : J → List ℕ → J → Type 0) (seen : K → J)
    (added : (a b : K) (text : List ℕ) → takes a text b → adds (seen a) text (seen b)) (added_less : (a b : K) (text : List ℕ) → fails a text b → adds_less (seen a) text (seen b)) where
  pub node_seen : (old new : Disks D) (link after : N) (sink written : K) (first last : J) → seen sink ≡ first → seen written ≡ last
      → TellsNode (at_node view story counts takes fails old new link after sink written) (at_node view story counts adds adds_less old new link after first last)
  node_seen old new link after sink written first last begins ends =
      subst (λ (x : J). TellsNode (at_node view story counts takes fails old new link after sink written) (at_node view story counts adds adds_less old new link after x last)) begins
      (subst (λ (y : J). TellsNode (at_node view story counts takes fails old new link after sink written) (at_node view story counts adds adds_less old new link after (seen sink) y)) ends
      (record {
        run = λ s task. run_retold view takes fails adds adds_less seen added added_less story counts s task old new link after sink written;
        untouched = λ same. same;
      }))

-- a statement that holds unless the node was run leads to another such statement
unless_told : (a b : Type 0) → (a → b) → (end : ServiceEnd) → UnlessRan end a → UnlessRan end b
unless_told a b tells (services.Config end) h = tells h
unless_told a b tells services.Stranger h = tells h
unless_told a b tells (services.Ran end) h = h

module _ (i j : Input) (o p : Output) (d e : OnError) (stage : OnStage) (input : TellsInput i j) (output : TellsOutput o p) (error : TellsError d e) where
  -- the end of a replay
  replay_told : (scale : Scale) (summary : Bool) (end : ReplayEnd) → HappenedAtReplay i o stage scale summary end → HappenedAtReplay j p stage scale summary end
  replay_told scale summary replays.Done h = let (s, says, lawful, written, played, holds) = h in (s, input.says scale _ says, lawful, output.written _ written, played, holds)
  replay_told scale summary (replays.Text line why) h = (input.says scale _ h.0, output.written _ h.1, h.2)
  replay_told scale summary (replays.Limit what) h = (input.passes scale _ h.0, output.written _ h.1, h.2)
  replay_told scale summary replays.Source h = (input.failed h.0, output.written _ h.1, h.2)
  replay_told scale summary replays.Sink h = let (s, says, lawful, cut, played, holds) = h in (s, input.says scale _ says, lawful, (cut.0, output.cut_off _ cut.1), played, holds)
  replay_told scale summary replays.Memory (inl h) = inl (input.came h.0, output.written _ h.1, h.2)
  replay_told scale summary replays.Memory (inr h) = let (s, says, lawful, front, holds) = h in inr (s, input.says scale _ says, lawful, (front.0, output.written _ front.1), holds)

  -- the end of `gen`
  gen_told : (sample : Sample) (end : GenEnd) → HappenedAtGen o sample end → HappenedAtGen p sample end
  gen_told sample gens.Done h = output.written _ h
  gen_told sample gens.Sink h = (h.0, output.cut_off _ h.1)
  gen_told sample gens.Memory h = output.written _ h

  -- the end of `merge`
  records_told : (r : Result Records RecordsFault) → TellsRecords i r → TellsRecords j r
  records_told r h = (h.0, input.whole _ h.1, h.2)

  most_told : (most : Most) → PassesMost i most → PassesMost j most
  most_told mosts.Bytes h = (h.0, input.gave _ h.1, h.2)
  most_told mosts.Lines h = records_told _ h
  most_told mosts.Published h = records_told _ h

  merge_told : (end : RecordsEnd) → HappenedAtMerge i o end → HappenedAtMerge j p end
  merge_told (records.Merged end) h = let (r, told, text, is, written) = h in (r, records_told _ told, text, is, output.written _ written)
  merge_told records.Sink h = let (r, told, text, end, is, cut) = h in (r, records_told _ told, text, end, is, (cut.0, output.cut_off (take cut.0 text) cut.1))
  merge_told (records.Text line cause) h = (records_told _ h.0, output.written _ h.1)
  merge_told (records.Limit most) h = (most_told most h.0, output.written _ h.1)
  merge_told records.Source h = (input.failed h.0, output.written _ h.1)
  merge_told records.Memory h = (input.came h.0, output.written _ h.1)

  -- the reading of a configuration
  config_told : (read : Result Settings ConfigEnd) → ReadsConfig i read → ReadsConfig j read
  config_told (Ok settings) h = (h.0, input.whole _ h.1, h.2)
  config_told (Err configs.Source) h = input.failed h
  config_told (Err configs.Long) h = input.long h
  config_told (Err (configs.Fault faults.Memory)) h = input.came h
  config_told (Err (configs.Fault (faults.Toml line))) h = (h.0, input.whole _ h.1, h.2)
  config_told (Err (configs.Fault (faults.Missing place key))) h = (h.0, input.whole _ h.1, h.2)
  config_told (Err (configs.Fault (faults.Value place key))) h = (h.0, input.whole _ h.1, h.2)
  config_told (Err (configs.Fault (faults.Repeat place id))) h = (h.0, input.whole _ h.1, h.2)
  config_told (Err (configs.Fault (faults.Measure number why))) h = (h.0, input.whole _ h.1, h.2)
  config_told (Err (configs.Fault (faults.Unknown place key))) h = (h.0, input.whole _ h.1, h.2)

  -- the end of `rules`
  rules_told : (end : RulesEnd) → HappenedAtRules i o end → HappenedAtRules j p end
  rules_told lists.Done h = let (settings, read, w) = h in (settings, config_told (Ok settings) read, (w.0, w.1, output.written _ w.2))
  rules_told lists.Sink h = let (settings, read, w) = h in let (text, listing, cut) = w in (settings, config_told (Ok settings) read, (text, listing, (cut.0, output.cut_off (take cut.0 text) cut.1)))
  rules_told lists.Memory h = let (settings, read, written) = h in (settings, config_told (Ok settings) read, output.written _ written)
  rules_told (lists.Config end) h = (config_told (Err end) h.0, output.written _ h.1)

  -- the end of `check`
  check_told : (files : OnFiles) (n : Sizes) (id : ℕ) (end : CheckEnd) → HappenedAtCheck files o n id end → HappenedAtCheck files p n id end
  check_told files n id checks.Done h = let (shown, safely) = h in ((shown.0, shown.1, output.written _ shown.2), safely)
  check_told files n id checks.Sink h = let (shown, safely) = h in let (text, shows, cut) = shown in ((text, shows, (cut.0, output.cut_off (take cut.0 text) cut.1)), safely)
  check_told files n id (checks.Load error) h = let (refused, safely) = h in ((refused.0, output.written _ refused.1), safely)

  -- the end of `check` for a node of a configuration
  configured_told : (files : OnFiles) (id : ℕ) (end : ConfiguredEnd) → HappenedAtConfigured i files o id end → HappenedAtConfigured j files p id end
  configured_told files id (configured.Config end) h = (config_told (Err end) h.0, output.written _ h.1)
  configured_told files id configured.Stranger h = let (settings, read, rest) = h in (settings, config_told (Ok settings) read, (rest.0, output.written _ rest.1))
  configured_told files id (configured.Checked end) h = let (settings, read, rest) = h in (settings, config_told (Ok settings) read, (rest.0, check_told files (sizes_in settings) id end rest.1))

  -- the end of `get`
  wrote_told : (bytes : List ℕ) (end : GetEnd) → Wrote o bytes end → Wrote p bytes end
  wrote_told bytes gets.Sink h = output.cut_off _ h
  wrote_told bytes gets.Done h = output.written _ h
  wrote_told bytes gets.BadUrl h = output.written _ h
  wrote_told bytes (gets.Refused status) h = output.written _ h
  wrote_told bytes gets.Redirects h = output.written _ h
  wrote_told bytes gets.Reply h = output.written _ h
  wrote_told bytes gets.Link h = output.written _ h
  wrote_told bytes gets.Memory h = output.written _ h

  downloaded_told : (link : OnLink) (download : Download) (token : Option (List ℕ)) (end : GetEnd) → Downloaded link o download token end → Downloaded link p download token end
  downloaded_told link download token end h = record {
    turns = h.turns;
    written = h.written;
    makes = h.makes;
    wrote = wrote_told h.written end h.wrote;
    downloads = h.downloads;
    bad = h.bad;
    blames = h.blames;
    complete = h.complete;
  }

  got_told : (wanted : Bool) (end : GetEnd) (count : ℕ) → GetTells d wanted end count → GetTells e wanted end count
  got_told false end count h = error.silent h
  got_told true end count h = error.told (is_got end) count h

  get_told : (link : OnLink) (download : Download) (token : Option (List ℕ)) (end : GetEnd) → HappenedAtGet link o d download token end → HappenedAtGet link p e download token end
  unfolding downloaded_told
  get_told link download token end h = record {
    did = downloaded_told link download token end h.did;
    tells = got_told download.progress end (length h.did.written) h.tells;
  }

  -- the end of `put`
  came_so : (bytes : List ℕ) (over : Bool) → CameSo i bytes over → CameSo j bytes over
  came_so bytes true h = input.whole bytes h
  came_so bytes false h = input.gave bytes h

  came_told : (bytes : List ℕ) (over : Bool) (end : PutEnd) → Came i bytes over end → Came j bytes over end
  came_told bytes over puts.Input h = input.broke bytes h
  came_told bytes over puts.Done h = came_so bytes over h
  came_told bytes over puts.BadUrl h = came_so bytes over h
  came_told bytes over (puts.Refused status) h = came_so bytes over h
  came_told bytes over (puts.Length length) h = came_so bytes over h
  came_told bytes over puts.Short h = came_so bytes over h
  came_told bytes over puts.Reply h = came_so bytes over h
  came_told bytes over puts.Link h = came_so bytes over h
  came_told bytes over puts.Memory h = came_so bytes over h

  published_told : (link : OnLink) (plan : Publication) (address : List ℕ) (token : Option (List ℕ)) (end : PutEnd) → Posted link i plan address token end → Posted link j plan address token end
  published_told link plan address token end (inl (none, silent, unread)) = inl (none, silent, input.unread unread)
  published_told link plan address token end (inr (url, is, at)) = inr (
    url,
    is,
    record {
      turns = at.turns;
      bytes = at.bytes;
      over = at.over;
      publishes = at.publishes;
      makes = at.makes;
      came = came_told at.bytes at.over end at.came;
    },
  )

  posted_told : (wanted : Bool) (end : PutEnd) → PutTells d i wanted end → PutTells e j wanted end
  posted_told false end h = error.silent h
  posted_told true end h = (
    h.0,
    error.told (is_put end) h.0 h.1,
    record {
      bytes = h.2.bytes;
      came = came_told h.2.bytes false end h.2.came;
      within = h.2.within;
      all = h.2.all;
    },
  )

  put_told : (link : OnLink) (u : Upload) (token : Option (List ℕ)) (end : PutEnd) → HappenedAtPut link i d u token end → HappenedAtPut link j e u token end
  put_told link u token end h = record {
    published = published_told link (plan_of u) u.address token end h.published;
    bad = h.bad;
    blames = h.blames;
    tells = posted_told u.progress end h.tells;
  }

  -- the end of `node`
  stops_told : (run other : OnRun) → TellsRun run other → (s : Setting) (end : TurnEnd) → Stops run o.written o.cut_off s end → Stops other p.written p.cut_off s end
  stops_told run other tells s turns.Sink h = let (deeds, under, cut, stopped) = h in (deeds, under, (cut.0, cut.1, output.cut_off _ cut.2), tells.stopped turns.Sink deeds under stopped)
  stops_told run other tells s turns.Served h = let (deeds, under, written, stopped) = h in (deeds, under, output.written _ written, tells.stopped turns.Served deeds under stopped)
  stops_told run other tells s turns.Link h = let (deeds, under, written, stopped) = h in (deeds, under, output.written _ written, tells.stopped turns.Link deeds under stopped)
  stops_told run other tells s turns.Disk h = let (deeds, under, written, stopped) = h in (deeds, under, output.written _ written, tells.stopped turns.Disk deeds under stopped)
  stops_told run other tells s turns.Full h = let (deeds, under, written, stopped) = h in (deeds, under, output.written _ written, tells.stopped turns.Full deeds under stopped)
  stops_told run other tells s turns.Memory h = let (deeds, under, written, stopped) = h in (deeds, under, output.written _ written, tells.stopped turns.Memory deeds under stopped)

  run_told : (run other : OnRun) → TellsRun run other → (s : Setting) (end : NodeEnd) → NodeEnds run o.written o.cut_off s end → NodeEnds other p.written p.cut_off s end
  run_told run other tells s (nodes.Load error) h = (tells.refused error h.0, output.written _ h.1)
  run_told run other tells s (nodes.Turned turns.Served) h = let (deeds, written, did) = h in (deeds, output.written _ written, tells.did deeds did)
  run_told run other tells s (nodes.Turned turns.Link) (inl h) = inl (output.written _ h.0, tells.deaf h.1)
  run_told run other tells s (nodes.Turned turns.Link) (inr h) = inr (stops_told run other tells s turns.Link h)
  run_told run other tells s (nodes.Turned turns.Disk) h = stops_told run other tells s turns.Disk h
  run_told run other tells s (nodes.Turned turns.Full) h = stops_told run other tells s turns.Full h
  run_told run other tells s (nodes.Turned turns.Sink) h = stops_told run other tells s turns.Sink h
  run_told run other tells s (nodes.Turned turns.Memory) h = stops_told run other tells s turns.Memory h

  node_told : (node other : OnNode) → TellsNode node other → (v : Service) (end : ServiceEnd) → HappenedAtNode i node o v end → HappenedAtNode j other p v end
  node_told node other tells v (services.Config end) h = (config_told (Err end) h.0, output.written _ h.1)
  node_told node other tells v services.Stranger h = let (c, read, rest) = h in (c, (input.whole _ read.0, read.1), (rest.0, output.written _ rest.1))
  node_told node other tells v (services.Ran end) h =
      let (c, read, rest) = h in
      let task = task_of v c.text rest.1 in
      (c, (input.whole _ read.0, read.1), (rest.0, rest.1, rest.2, run_told (node.run c.config task) (other.run c.config task) (tells.run c.config task) (setting_of task) end rest.3))

  module _ (asked : Option Invocation) (files : OnFiles) (link : OnLink) (node other : OnNode) (t u : Input) (tells : TellsNode node other) (token : TellsInput t u) where
    abbrev before : Outside
    before = record { asked = asked; input = i; output = o; error = d; stage = stage; files = files; link = link; token = t; node = node }

    abbrev after : Outside
    after = record { asked = asked; input = j; output = p; error = e; stage = stage; files = files; link = link; token = u; node = other }

    unplayed_told : IsUnplayed before → IsUnplayed after
    unplayed_told n = record { input = input.unread n.input; stage = n.stage }

    alone_told : IsAlone before → IsAlone after
    alone_told a = record { error = error.silent a.error; files = a.files; link = a.link; token = token.unread a.token; node = tells.untouched a.node }

    offline_told : IsOffline before → IsOffline after
    offline_told a = record { error = error.silent a.error; link = a.link; token = token.unread a.token; node = tells.untouched a.node }

    fileless_told : IsFileless before → IsFileless after
    fileless_told a = record { files = a.files; node = tells.untouched a.node }

    -- the reading of a token
    token_told : (read : Result (List ℕ) TokenEnd) → ReadsToken t read → ReadsToken u read
    token_told (Ok text) h = (h.0, token.whole _ h.1, h.2)
    token_told (Err tokens.Source) h = token.failed h
    token_told (Err tokens.Long) h = token.long h
    token_told (Err tokens.Memory) h = token.came h
    token_told (Err tokens.Fault) h = (h.0, token.whole _ h.1, h.2)

    took_told : (name bearer : Option (List ℕ)) → TakesToken t name bearer → TakesToken u name bearer
    took_told None None h = token.unread h
    took_told None (Some text) h = absurd h
    took_told (Some name) None h = absurd h
    took_told (Some name) (Some text) h = token_told (Ok text) h

    -- each end of a run
    pub happened_told : (end : End) → Happened before end → Happened after end
    happened_told Helped h = let (a, (text, some, written), x, n) = h in (a, (text, some, output.written _ written), unplayed_told x, alone_told n)
    happened_told HelpFailed h = let (a, (text, cut), x, n) = h in (a, (text, output.cut_off _ cut), unplayed_told x, alone_told n)
    happened_told Versioned h = let (a, written, x, n) = h in (a, output.written _ written, unplayed_told x, alone_told n)
    happened_told VersionFailed h = let (a, cut, x, n) = h in (a, (cut.0, output.cut_off (take cut.0 version_line) cut.1), unplayed_told x, alone_told n)
    happened_told Misused h = let (a, written, x, n) = h in (a, output.written _ written, unplayed_told x, alone_told n)
    happened_told NoMemory h = let (written, x, n) = h in (output.written _ written, unplayed_told x, alone_told n)
    happened_told (Replayed large end) h = let ((summary, file, a, at), n) = h in ((summary, file, a, replay_told (scale_of large) summary end at), alone_told n)
    happened_told (Generated end) h = let ((sample, a, at), x, n) = h in ((sample, a, gen_told sample end at), unplayed_told x, alone_told n)
    happened_told (Merged end) h = let (a, at, unplayed, n) = h in (a, merge_told end at, unplayed, alone_told n)
    happened_told (Listed end) h = let (a, at, unplayed, n) = h in (a, rules_told end at, unplayed, alone_told n)
    happened_told (Checked end) h = let ((member, folder, a, at), x, n) = h in ((member, folder, a, check_told files (sizes_of member) member.id end at), unplayed_told x, offline_told n)
    happened_told (CheckedConfigured end) h = let ((id, paths, a, at), unplayed, n, f) = h in ((id, paths, a, configured_told files id end at), unplayed, offline_told n, f)
    happened_told (NoToken end) h = let ((file, a, read), written, x, l, n, q) = h in ((file, a, token_told (Err end) read), output.written _ written, unplayed_told x, l, fileless_told n, error.silent q)
    happened_told (Got end) h = let ((download, a, bearer, took, at), x, n) = h in ((download, a, bearer, took_told download.token_file bearer took, get_told link download bearer end at), unplayed_told x, fileless_told n)
    happened_told (Published end) h = let ((upload, a, bearer, took, at), written, unplayed, n) = h in ((upload, a, bearer, took_told upload.token_file bearer took, put_told link upload bearer end at), output.written _ written, unplayed, fileless_told n)
    happened_told (Served end) h = let ((service, paths, a, at), unplayed, f, l, k, c, q) = h in ((service, paths, a, node_told node other tells service end at), unplayed, f, l, token.unread k, unless_told node.untouched other.untouched tells.untouched end c, error.silent q)

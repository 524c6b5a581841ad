-- A node that was loaded from its files, or not.
use Rattle.std.specs.Prelude.{◌≡◌, ◌≤◌, ℕ, Bool, Option, Some, IfSome, List, [], length}
use Rattle.std.specs.List.{AllByRecursion}
use Rattle.oc_base.specs.declared.limits.TheConstants.{MAX_AREA}
use Rattle.oc_config.specs.Settings.{Settings}
use Rattle.oc_io.specs.DiskView.{DiskView}
use Rattle.oc_keep.specs.Files.{disks_in}
use Rattle.oc_keep.specs.KeptView.{disks_of}
use Rattle.oc_keep.specs.Promises.{IsNodeOf, LoadsSafely, RefusesNode}
use Rattle.oc_keep.specs.declared.errors.KeepLoad.{KeepLoad}
use Rattle.oc_model.specs.declared.message.Message.{Message}
use Rattle.oc_probe.specs.declared.probing.Probing.{Probing}
use Rattle.oc_routes.specs.Tallies.{TallyView, first_tally}
use Rattle.oc_deeds.specs.Lawful.{IsMadeFor}
use Rattle.oc_server.specs.Lawful.{IsReady}
use Rattle.oc_deeds.specs.Pace.{first_pace, most_interval}
use Rattle.oc_deeds.specs.Records.{is_record}
use Rattle.oc_server.specs.declared.turns.Turns.{Turns}
use Rattle.oc_service.specs.OnSite.{header_by, header_for, probing_at_first}
use Rattle.oc_service.specs.declared.running.Task.{Task}
use Rattle.oc_service.specs.declared.site.Site.{Site}

-- the state of a node besides its files: the areas, no messages to send, nothing counted, and the
-- state of its probing
pub record IsEquipped (c : Settings) (recorded probes : Bool) (me : ℕ) (areas : List ℕ) (outbox : List Message) (tally : TallyView) (probing : Option Probing) : Type 0 where
  pub same : areas ≡ (header_by recorded c).areas
  pub bytes : AllByRecursion (λ a. a ≤ MAX_AREA) areas
  pub empty : outbox ≡ []
  pub uncounted : tally ≡ first_tally (header_by recorded c).nodes
  pub first : probing ≡ probing_at_first probes (header_by recorded c).nodes me c.addresses
  pub made : IfSome probing (IsMadeFor (header_by recorded c).nodes)

-- The node recovered from the files, ready to turn, with no message to send and no request under
-- way.
pub record IsLoaded {D L K : Type 0} (view : D → DiskView) (c : Settings) (task : Task) (site : Site D L K) (turns : Turns D L K) : Type 0 where
  pub ready : IsReady turns
  pub node : IsNodeOf view (header_for task c) task.me (disks_in site.files) turns.server.kept
  pub safely : LoadsSafely view (header_for task c) task.me (disks_in site.files) (disks_of turns.server.kept)
  pub outbox : turns.server.outbox ≡ []
  pub works : turns.server.works ≡ []
  pub dials : turns.server.dials ≡ []
  pub tally : turns.server.tally ≡ first_tally (header_for task c).nodes
  pub pace : turns.pace ≡ first_pace (is_record task.log) (most_interval task.probes task.me)
  pub probing : turns.probing ≡ probing_at_first task.probes (header_for task c).nodes task.me c.addresses
  pub reading : turns.reading ≡ Some task.text
  pub config : turns.server.config ≡ c
  pub log : turns.server.log ≡ task.log
  pub about : turns.server.about ≡ task.about
  pub link : turns.server.link ≡ site.link
  pub sink : turns.server.sink ≡ site.sink

-- The node was not loaded, for this reason, and its site was given back.
pub record IsUnloaded {D L K : Type 0} (view : D → DiskView) (c : Settings) (task : Task) (site back : Site D L K) (error : KeepLoad) : Type 0 where
  pub refuses : RefusesNode view (length c.addresses) (disks_in site.files) (disks_in back.files) error
  pub safely : LoadsSafely view (header_for task c) task.me (disks_in site.files) (disks_in back.files)
  pub link : back.link ≡ site.link
  pub sink : back.sink ≡ site.sink

-- The effect of `node` at each of its ends.
use Rattle.std.specs.Prelude.{◌≡◌, ℕ, ◌-◌, ◌<◌, ◌⊎◌, true, false, Option, Some, None, is_some, Result, Ok, Err, List, [], length, slice_index_or, ⊤}
use Rattle.oc_base.specs.Lawful.{IsNode}
use Rattle.oc_base.specs.declared.limits.TheConstants.{MAX_SCHEDULE_BYTES}
use Rattle.oc_config.specs.Reading.{settings_of}
use Rattle.oc_config.specs.Settings.{Settings}
use Rattle.oc_config.specs.declared.fault.ConfigFault.{ConfigFault}
use Rattle.oc_io.specs.DiskView.{DiskView}
use Rattle.oc_keep.specs.Files.{Disks}
use Rattle.oc_keep.specs.Promises.{HoldFiles}
use Rattle.oc_deeds.specs.declared.log.Log.{Log}
use Rattle.oc_deeds.specs.declared.log.Log.TheVariants as logs
use Rattle.oc_routes.specs.Sights.{AboutView, about_of}
use Rattle.oc_routes.specs.declared.about.About.{About}
use Rattle.oc_service.specs.OnSite.{NodeEnds, setting_of}
use Rattle.oc_service.specs.declared.running.Task.{Task}
use Rattle.oc_words.specs.declared.request.LogWord.{LogWord}
use Rattle.oc_words.specs.declared.request.LogWord.TheVariants.{Brief, Inputs, Record}
use Rattle.oc_words.specs.declared.command.TheConstants.{VERSION}
use Rattle.oc_words.specs.declared.request.Service.{Service}
use Rattle.oc_commands.specs.AtConfig.{ReadsConfig, ReadsConfigured}
use Rattle.oc_commands.specs.AtRules.{status_of_settings}
use Rattle.oc_commands.specs.Outside.{Input, OnNode, Output}
use Rattle.oc_commands.specs.declared.configuring.Configured.{Configured}
use Rattle.oc_commands.specs.declared.serving.ServiceEnd.{ServiceEnd}
use Rattle.oc_commands.specs.declared.serving.ServiceEnd.TheVariants.{Config, Stranger, Ran}

-- the id of a node that has an address
abbrev pub HasAddress : List (Option (List ℕ)) → ℕ → Type 0
HasAddress addresses id = IsNode (length addresses) id × (is_some (slice_index_or addresses (id - 1) None) ≡ true)

-- the configuration has a node of this id, with an address
abbrev pub HasNode : Settings → Service → Type 0
HasNode s v = HasAddress s.addresses v.id

-- the form in which the node logs its inputs
abbrev pub log_of : LogWord → Log
log_of Inputs = logs.Inputs
log_of Record = logs.Record
log_of Brief = logs.Brief

-- the program, which started at this second since 1970
abbrev pub about : ℕ → AboutView
about started = record { version = VERSION.now; started = started; refused = false }

-- this is what a node is told of the program, which started at some second
abbrev pub IsStarted : About → Type 0
IsStarted program = (started : ℕ) × (about_of program ≡ about started)

-- the task of that node, whose configuration was read from these bytes, and which is told this of the program
abbrev pub task_of : Service → List ℕ → About → Task
task_of v text program = record { me = v.id; turns = v.turns; probes = v.probes; log = log_of v.log; text = text; about = program }

-- no node of the configuration has this id and an address, or the node ran, and was told of the program that started
abbrev pub RunsService : OnNode → Output → Configured → Service → ServiceEnd → Type 0
RunsService node output c v Stranger = (HasNode c.config v → ⊥) × output.written []
RunsService node output c v (Ran end) =
    HasNode c.config v × (program : About) × IsStarted program
    × NodeEnds (node.run c.config (task_of v c.text program)) output.written output.cut_off (setting_of (task_of v c.text program)) end
RunsService node output c v (Config end) = ⊥

-- the effect of this end
abbrev pub HappenedAtNode : Input → OnNode → Output → Service → ServiceEnd → Type 0
HappenedAtNode input node output v (Config end) = ReadsConfig input (Err end) × output.written []
HappenedAtNode input node output v end = (c : Configured) × ReadsConfigured input (Ok c) × RunsService node output c v end

-- a statement that holds unless the node ran
abbrev pub UnlessRan : ServiceEnd → Type 0 → Type 0
UnlessRan (Ran end) so = ⊤
UnlessRan end so = so

-- the node of this id among `nodes` nodes, if there is one
abbrev pub IsMemberOf : ℕ → ℕ → Option ℕ → Type 0
IsMemberOf nodes id (Some me) = IsNode nodes id × (me ≡ id)
IsMemberOf nodes id None = IsNode nodes id → ⊥

-- the node of this id, if it has an address
abbrev pub IsPlacedOf : List (Option (List ℕ)) → ℕ → Option ℕ → Type 0
IsPlacedOf addresses id (Some me) = HasAddress addresses id × (me ≡ id)
IsPlacedOf addresses id None = HasAddress addresses id → ⊥

-- The status that has to come

-- The status is 3 for a configuration without a node that has this id and an address. Otherwise,
-- over the files of a node, it is 0, or 5 if a file is full.
abbrev pub IsStatusOver : {D : Type 0} → (D → DiskView) → Disks D → Settings → Service → ℕ → Type 0
IsStatusOver view d s v status =
    ((HasNode s v → ⊥) × (status ≡ 3)) ⊎ (HasNode s v × (HoldFiles view (length s.addresses) d → (status ≡ 0) ⊎ (status ≡ 5)))

-- the status for a text; the line that `toml` names makes no difference
abbrev pub IsStatusOf : {D : Type 0} → (D → DiskView) → Disks D → Service → Result Settings ConfigFault → ℕ → Type 0
IsStatusOf view d v (Ok s) status = IsStatusOver view d s v status
IsStatusOf view d v (Err fault) status = status ≡ status_of_settings (Err fault)

-- these bytes came, which are the whole input; or more than a configuration may have
pub record HasServiceStatus {S D : Type 0} (gives : S → List ℕ → S → Type 0) (ended : S → Type 0) (view : D → DiskView) (d : Disks D) (v : Service) (old new : S) (status : ℕ) : Type 0 where
  pub bytes : List ℕ
  pub came : gives old bytes new
  pub status_is : (ended new × IsStatusOf view d v (settings_of 1 bytes) status) ⊎ ((MAX_SCHEDULE_BYTES < length bytes) × (status ≡ 5))

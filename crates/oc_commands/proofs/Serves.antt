-- The effect of an end gives `node` the status of its configuration, if nothing fails.
use Rattle.std.proofs.Common.{◌≡◌, ◌∙◌, ℕ, ◌⊎◌, inl, inr, refl, sym, subst, List, length, Option, Some, Err, Ok, Result}
use Rattle.oc_keep.proofs.Complete.{only_memory}
use Rattle.oc_config.specs.Reading.{settings_of}
use Rattle.oc_config.specs.Settings.{Settings}
use Rattle.oc_config.specs.declared.fault.ConfigFault.{ConfigFault}
use Rattle.oc_config.specs.declared.fault.ConfigFault.TheVariants as faults
use Rattle.oc_link.specs.declared.call.Call.{Call}
use Rattle.oc_link.specs.declared.counts.LinkCounts.{LinkCounts}
use Rattle.oc_io.specs.DiskView.{DiskView}
use Rattle.oc_io.specs.Faults.{Rose}
use Rattle.oc_keep.specs.Files.{Disks, AreHonest, OneRose}
use Rattle.oc_keep.specs.FileError.{FileError}
use Rattle.oc_keep.specs.FileError.TheVariants as causes
use Rattle.oc_keep.specs.Errors.{cause_of}
use Rattle.oc_keep.specs.Promises.{RefusesNode}
use Rattle.oc_keep.specs.declared.errors.KeepLoad.{KeepLoad}
use Rattle.oc_routes.specs.declared.about.About.{About}
use Rattle.oc_service.specs.OnSite.{NodeEnds, at_run, setting_of}
use Rattle.oc_service.specs.declared.running.NodeEnd.{NodeEnd}
use Rattle.oc_service.specs.declared.running.NodeEnd.TheVariants as nodes
use Rattle.oc_deeds.specs.declared.ends.TurnEnd.TheVariants as turns
use Rattle.oc_words.specs.declared.request.Paths.{Paths}
use Rattle.oc_words.specs.declared.request.Invocation.{Invocation}
use Rattle.oc_words.specs.declared.request.Invocation.TheVariants.{Node}
use Rattle.oc_words.specs.declared.request.Service.{Service}
use Rattle.oc_commands.specs.AtNode.{HappenedAtNode, HasNode, HasServiceStatus, IsStatusOf, IsStatusOver, task_of}
use Rattle.oc_commands.specs.Ends.{status_of, status_of_cause, status_of_run, status_of_service}
use Rattle.oc_commands.specs.Outside.{Input, OnError, OnLink, OnStage, Output, at_files, at_node, at_source}
use Rattle.oc_commands.specs.Run.{Happened}
use Rattle.oc_words.specs.Status.{number_of}
use Rattle.oc_commands.specs.declared.configuring.ConfigEnd.TheVariants as configs
use Rattle.oc_commands.specs.declared.ending.End.{End}
use Rattle.oc_commands.specs.declared.ending.End.TheVariants.{Helped, HelpFailed, Versioned, VersionFailed, Misused, NoMemory, Replayed, Generated, Merged, Listed, Checked, CheckedConfigured, NoToken, Got, Published, Served}
use Rattle.oc_commands.specs.declared.serving.ServiceEnd.{ServiceEnd}
use Rattle.oc_commands.specs.declared.serving.ServiceEnd.TheVariants as services
use Rattle.oc_commands.proofs.AnyLine.{status_over}
use Rattle.oc_commands.proofs.Completes.{IsSound}
use Rattle.oc_commands.proofs.Tokens.{untokened}

-- a request for one node is for no other
same_service : (asked : Option Invocation) (v w : Service) (p q : Paths) → asked ≡ Some (Node v p) → asked ≡ Some (Node w q) → w ≡ v
same_service asked v w p q is also = cc

module _ {S D N K : Type 0} (gives fails : S → List ℕ → S → Type 0) (ended : S → Type 0) (faulty : S → ℕ) (old new : S) (view : D → DiskView) (d e : Disks D) (story : N → Option (List Call)) (counts : N → LinkCounts) (takes takes_less : K → List ℕ → K → Type 0) (link after : N) (sink written : K) (output : Output)
    (honest : AreHonest view d) (unfailed : OneRose view d e → ⊥) (waiting : Rose (counts link).listening (counts after).listening → ⊥) (sourced : Rose (faulty old) (faulty new) → ⊥) (sound : IsSound output) where
  -- a status, or that of lack of memory
  abbrev OrMemory : (ℕ → Type 0) → ℕ → Type 0
  OrMemory P status = P status ⊎ (status ≡ 4)

  -- the status of files that were not loaded, by the cause
  load_has : (s : Settings) (v : Service) (error : KeepLoad) (cause : FileError) → cause_of error ≡ cause → HasNode s v → RefusesNode view (length s.addresses) d e error → OrMemory (IsStatusOver view d s v) (number_of (status_of_cause cause))
  load_has s v error causes.Disk is node h =
      inl (inr (node, λ files. let also : causes.Disk ≡ causes.Memory = sym is ∙ only_memory view (length s.addresses) d e honest files unfailed error h in absurd cc))
  load_has s v error causes.NotJournal is node h =
      inl (inr (node, λ files. let also : causes.NotJournal ≡ causes.Memory = sym is ∙ only_memory view (length s.addresses) d e honest files unfailed error h in absurd cc))
  load_has s v error (causes.BadFrame i) is node h =
      inl (inr (node, λ files. let also : causes.BadFrame i ≡ causes.Memory = sym is ∙ only_memory view (length s.addresses) d e honest files unfailed error h in absurd cc))
  load_has s v error causes.Memory is node h = inr refl

  -- the status over the files of a node
  run_has : (s : Settings) (v : Service) (text : List ℕ) (program : About) (end : NodeEnd) → HasNode s v → NodeEnds (at_run view story counts takes takes_less s (task_of v text program) d e link after sink written) output.written output.cut_off (setting_of (task_of v text program)) end
      → OrMemory (IsStatusOver view d s v) (number_of (status_of_run end))
  run_has s v text program (nodes.Load error) node h = load_has s v error (cause_of error) refl node h.0.0
  run_has s v text program (nodes.Turned turns.Served) node h = inl (inr (node, λ files. inl refl))
  run_has s v text program (nodes.Turned turns.Link) node (inl h) = absurd (waiting h.1.counted.listening)
  run_has s v text program (nodes.Turned turns.Link) node (inr h) = absurd (waiting h.3.cause)
  run_has s v text program (nodes.Turned turns.Disk) node h = absurd (unfailed h.3.cause)
  run_has s v text program (nodes.Turned turns.Full) node h = inl (inr (node, λ files. inr refl))
  run_has s v text program (nodes.Turned turns.Memory) node h = inr refl
  run_has s v text program (nodes.Turned turns.Sink) node h = absurd (sound _ h.2.2)

  -- the status by the meaning of all bytes of the input
  told : (v : Service) (said : Result Settings ConfigFault) (status : ℕ) (bytes : List ℕ) → gives old bytes new → ended new → (line : ℕ) → settings_of line bytes ≡ said → OrMemory (IsStatusOf view d v said) status
      → OrMemory (HasServiceStatus gives ended view d v old new) status
  told v said status bytes came whole line is (inl has) = inl (record { bytes = bytes; came = came; status_is = inl (whole, status_over view d v line bytes status (subst (λ r. IsStatusOf view d v r status) (sym is) has)) })
  told v said status bytes came whole line is (inr memory) = inr memory

  service_has : (v : Service) (end : ServiceEnd) → HappenedAtNode (at_source gives fails ended faulty old new) (at_node view story counts takes takes_less d e link after sink written) output v end
      → OrMemory (HasServiceStatus gives ended view d v old new) (number_of (status_of_service end))
  service_has v (services.Config configs.Source) h = absurd (sourced h.0.1)
  service_has v (services.Config configs.Long) h = let (bytes, came, long) = h.0 in inl (record { bytes = bytes; came = came; status_is = inr (long, refl) })
  service_has v (services.Config (configs.Fault faults.Memory)) h = inr refl
  service_has v (services.Config (configs.Fault (faults.Toml line))) h = let (bytes, whole, is) = h.0 in told v (Err (faults.Toml line)) 3 bytes whole.0 whole.1 is.line is.gives (inl refl)
  service_has v (services.Config (configs.Fault (faults.Missing place key))) h = let (bytes, whole, is) = h.0 in told v (Err (faults.Missing place key)) 3 bytes whole.0 whole.1 is.line is.gives (inl refl)
  service_has v (services.Config (configs.Fault (faults.Value place key))) h = let (bytes, whole, is) = h.0 in told v (Err (faults.Value place key)) 3 bytes whole.0 whole.1 is.line is.gives (inl refl)
  service_has v (services.Config (configs.Fault (faults.Repeat place id))) h = let (bytes, whole, is) = h.0 in told v (Err (faults.Repeat place id)) 3 bytes whole.0 whole.1 is.line is.gives (inl refl)
  service_has v (services.Config (configs.Fault (faults.Measure number why))) h = let (bytes, whole, is) = h.0 in told v (Err (faults.Measure number why)) 3 bytes whole.0 whole.1 is.line is.gives (inl refl)
  service_has v (services.Config (configs.Fault (faults.Unknown place key))) h = let (bytes, whole, is) = h.0 in told v (Err (faults.Unknown place key)) 3 bytes whole.0 whole.1 is.line is.gives (inl refl)
  service_has v services.Stranger h = let (c, read, rest) = h in told v (Ok c.config) 3 c.text read.0.0 read.0.1 read.1.line read.1.gives (inl (inl (rest.0, refl)))
  service_has v (services.Ran end) h =
      let (c, read, rest) = h in
      told v (Ok c.config) (number_of (status_of_run end)) c.text read.0.0 read.0.1 read.1.line read.1.gives (run_has c.config v c.text rest.1 end rest.0 rest.3)

  pub served : (error : OnError) (stage : OnStage) (dialler : OnLink) (token : Input) (asked : Option Invocation) (v : Service) (p : Paths) (end : End) → asked ≡ Some (Node v p)
      → Happened (record { asked = asked; input = at_source gives fails ended faulty old new; output = output; error = error; stage = stage; files = at_files view d e; link = dialler; token = token; node = at_node view story counts takes takes_less d e link after sink written }) end
      → HasServiceStatus gives ended view d v old new (number_of (status_of end)) ⊎ (number_of (status_of end) ≡ 4)
  served error stage dialler token asked v p Helped is h = let also = h.0 in cc
  served error stage dialler token asked v p HelpFailed is h = let also = h.0 in cc
  served error stage dialler token asked v p Versioned is h = let also = h.0 in cc
  served error stage dialler token asked v p VersionFailed is h = let also = h.0 in cc
  served error stage dialler token asked v p Misused is h = let also = h.0 in cc
  served error stage dialler token asked v p NoMemory is h = inr refl
  served error stage dialler token asked v p (Replayed large end) is h = let also = h.0.2 in cc
  served error stage dialler token asked v p (Generated end) is h = let also = h.0.1 in cc
  served error stage dialler token asked v p (Merged end) is h = let also = h.0 in cc
  served error stage dialler token asked v p (Listed end) is h = let also = h.0.1 in cc
  served error stage dialler token asked v p (Checked end) is h = let also = h.0.2 in cc
  served error stage dialler token asked v p (CheckedConfigured end) is h = let also = h.0.2 in cc
  served error stage dialler token asked v p (NoToken end) is h = absurd (untokened asked (Node v p) h.0.0 is refl h.0.1)
  served error stage dialler token asked v p (Got end) is h = let also = h.0.1 in cc
  served error stage dialler token asked v p (Published end) is h = let also = h.0.1 in cc
  served error stage dialler token asked v p (Served end) is h =
      let (w, q, also, at) = h.0 in
      service_has v end (subst (λ x. HappenedAtNode (at_source gives fails ended faulty old new) (at_node view story counts takes takes_less d e link after sink written) output x end) (same_service asked v w p q is also) at)

-- The effect of an end gives `check` of a node of a configuration its status, if nothing fails.
use Rattle.std.proofs.Common.{◌≡◌, ◌∙◌, ℕ, ◌⊎◌, inl, inr, refl, sym, subst, List, length, Option, Some, Err, Ok, Result}
use Rattle.oc_base.specs.Lawful.{IsNode}
use Rattle.oc_keep.proofs.Complete.{only_memory}
use Rattle.oc_config.specs.Reading.{settings_of}
use Rattle.oc_config.specs.Settings.{Settings}
use Rattle.oc_config.specs.declared.fault.ConfigFault.{ConfigFault}
use Rattle.oc_config.specs.declared.fault.ConfigFault.TheVariants as faults
use Rattle.oc_io.specs.DiskView.{DiskView}
use Rattle.oc_io.specs.Faults.{Rose}
use Rattle.oc_keep.specs.Files.{Disks, AreHonest, OneRose}
use Rattle.oc_keep.specs.FileError.{FileError}
use Rattle.oc_keep.specs.FileError.TheVariants as causes
use Rattle.oc_keep.specs.Errors.{cause_of}
use Rattle.oc_keep.specs.Promises.{RefusesNode}
use Rattle.oc_keep.specs.declared.errors.KeepLoad.{KeepLoad}
use Rattle.oc_words.specs.declared.request.Paths.{Paths}
use Rattle.oc_words.specs.declared.request.Invocation.{Invocation}
use Rattle.oc_words.specs.declared.request.Invocation.TheVariants.{CheckConfigured as CheckRequest}
use Rattle.oc_commands.specs.AtCheck.{HappenedAtCheck, sizes_in}
use Rattle.oc_commands.specs.AtConfigured.{HappenedAtConfigured, HasShownStatus, IsShownOf, IsShownOver}
use Rattle.oc_commands.specs.Ends.{status_of, status_of_cause, status_of_check, status_of_configured}
use Rattle.oc_commands.specs.Outside.{Input, OnError, OnLink, OnNode, OnStage, Output, at_files, at_source}
use Rattle.oc_commands.specs.Run.{Happened}
use Rattle.oc_words.specs.Status.{number_of}
use Rattle.oc_commands.specs.declared.checking.CheckEnd.{CheckEnd}
use Rattle.oc_commands.specs.declared.checking.CheckEnd.TheVariants as checks
use Rattle.oc_commands.specs.declared.checking.ConfiguredEnd.{ConfiguredEnd}
use Rattle.oc_commands.specs.declared.checking.ConfiguredEnd.TheVariants as configured
use Rattle.oc_commands.specs.declared.configuring.ConfigEnd.TheVariants as configs
use Rattle.oc_commands.specs.declared.ending.End.{End}
use Rattle.oc_commands.specs.declared.ending.End.TheVariants.{Helped, HelpFailed, Versioned, VersionFailed, Misused, NoMemory, Replayed, Generated, Merged, Listed, Checked, CheckedConfigured, NoToken, Got, Published, Served}
use Rattle.oc_commands.proofs.AnyLine.{shown_over}
use Rattle.oc_commands.proofs.Completes.{IsSound}
use Rattle.oc_commands.proofs.Tokens.{untokened}

-- a request for one node is for no other
same_id : (asked : Option Invocation) (m n : ℕ) (p q : Paths) → asked ≡ Some (CheckRequest m p) → asked ≡ Some (CheckRequest n q) → n ≡ m
same_id asked m n p q is also = cc

module _ {S D : Type 0} (gives fails : S → List ℕ → S → Type 0) (ended : S → Type 0) (faulty : S → ℕ) (old new : S) (view : D → DiskView) (d e : Disks D) (output : Output)
    (honest : AreHonest view d) (unfailed : OneRose view d e → ⊥) (sourced : Rose (faulty old) (faulty new) → ⊥) (sound : IsSound output) where
  -- the status of files that were not loaded, by the cause
  load_has : (s : Settings) (id : ℕ) (error : KeepLoad) (cause : FileError) → cause_of error ≡ cause → IsNode (length s.addresses) id → RefusesNode view (length s.addresses) d e error → IsShownOver view d s id (number_of (status_of_cause cause)) ⊎ (number_of (status_of_cause cause) ≡ 4)
  load_has s id error causes.Disk is node h =
      inl (inr (node, λ files. let also : causes.Disk ≡ causes.Memory = sym is ∙ only_memory view (length s.addresses) d e honest files unfailed error h in absurd cc))
  load_has s id error causes.NotJournal is node h =
      inl (inr (node, λ files. let also : causes.NotJournal ≡ causes.Memory = sym is ∙ only_memory view (length s.addresses) d e honest files unfailed error h in absurd cc))
  load_has s id error (causes.BadFrame i) is node h =
      inl (inr (node, λ files. let also : causes.BadFrame i ≡ causes.Memory = sym is ∙ only_memory view (length s.addresses) d e honest files unfailed error h in absurd cc))
  load_has s id error causes.Memory is node h = inr refl

  -- the status over the files of a node
  check_has : (s : Settings) (id : ℕ) (end : CheckEnd) → IsNode (length s.addresses) id → HappenedAtCheck (at_files view d e) output (sizes_in s) id end
      → IsShownOver view d s id (number_of (status_of_check end)) ⊎ (number_of (status_of_check end) ≡ 4)
  check_has s id checks.Done node h = inl (inr (node, λ files. refl))
  check_has s id checks.Sink node h = let (text, shows, cut) = h.0 in absurd (sound _ cut.1)
  check_has s id (checks.Load error) node h = load_has s id error (cause_of error) refl node h.0.0

  -- the status by the meaning of all bytes of the input
  told : (id : ℕ) (said : Result Settings ConfigFault) (status : ℕ) (bytes : List ℕ) → gives old bytes new → ended new → (line : ℕ) → settings_of line bytes ≡ said → IsShownOf view d id said status ⊎ (status ≡ 4)
      → HasShownStatus gives ended view d id old new status ⊎ (status ≡ 4)
  told id said status bytes came whole line is (inl has) = inl (record { bytes = bytes; came = came; status_is = inl (whole, shown_over view d id line bytes status (subst (λ r. IsShownOf view d id r status) (sym is) has)) })
  told id said status bytes came whole line is (inr memory) = inr memory

  configured_has : (id : ℕ) (end : ConfiguredEnd) → HappenedAtConfigured (at_source gives fails ended faulty old new) (at_files view d e) output id end
      → HasShownStatus gives ended view d id old new (number_of (status_of_configured end)) ⊎ (number_of (status_of_configured end) ≡ 4)
  configured_has id (configured.Config configs.Source) h = absurd (sourced h.0.1)
  configured_has id (configured.Config configs.Long) h = let (bytes, came, long) = h.0 in inl (record { bytes = bytes; came = came; status_is = inr (long, refl) })
  configured_has id (configured.Config (configs.Fault faults.Memory)) h = inr refl
  configured_has id (configured.Config (configs.Fault (faults.Toml line))) h = let (bytes, whole, is) = h.0 in told id (Err (faults.Toml line)) 3 bytes whole.0 whole.1 is.line is.gives (inl refl)
  configured_has id (configured.Config (configs.Fault (faults.Missing place key))) h = let (bytes, whole, is) = h.0 in told id (Err (faults.Missing place key)) 3 bytes whole.0 whole.1 is.line is.gives (inl refl)
  configured_has id (configured.Config (configs.Fault (faults.Value place key))) h = let (bytes, whole, is) = h.0 in told id (Err (faults.Value place key)) 3 bytes whole.0 whole.1 is.line is.gives (inl refl)
  configured_has id (configured.Config (configs.Fault (faults.Repeat place number))) h = let (bytes, whole, is) = h.0 in told id (Err (faults.Repeat place number)) 3 bytes whole.0 whole.1 is.line is.gives (inl refl)
  configured_has id (configured.Config (configs.Fault (faults.Measure number why))) h = let (bytes, whole, is) = h.0 in told id (Err (faults.Measure number why)) 3 bytes whole.0 whole.1 is.line is.gives (inl refl)
  configured_has id (configured.Config (configs.Fault (faults.Unknown place key))) h = let (bytes, whole, is) = h.0 in told id (Err (faults.Unknown place key)) 3 bytes whole.0 whole.1 is.line is.gives (inl refl)
  configured_has id configured.Stranger h = let (s, read, rest) = h in let (bytes, whole, is) = read in told id (Ok s) 3 bytes whole.0 whole.1 is.line is.gives (inl (inl (rest.0, refl)))
  configured_has id (configured.Checked end) h =
      let (s, read, rest) = h in
      let (bytes, whole, is) = read in
      told id (Ok s) (number_of (status_of_check end)) bytes whole.0 whole.1 is.line is.gives (check_has s id end rest.0 rest.1)

  pub shown : (error : OnError) (stage : OnStage) (link : OnLink) (token : Input) (node : OnNode) (asked : Option Invocation) (id : ℕ) (p : Paths) (end : End) → asked ≡ Some (CheckRequest id p)
      → Happened (record { asked = asked; input = at_source gives fails ended faulty old new; output = output; error = error; stage = stage; files = at_files view d e; link = link; token = token; node = node }) end
      → HasShownStatus gives ended view d id old new (number_of (status_of end)) ⊎ (number_of (status_of end) ≡ 4)
  shown error stage link token node asked id p Helped is h = let also = h.0 in cc
  shown error stage link token node asked id p HelpFailed is h = let also = h.0 in cc
  shown error stage link token node asked id p Versioned is h = let also = h.0 in cc
  shown error stage link token node asked id p VersionFailed is h = let also = h.0 in cc
  shown error stage link token node asked id p Misused is h = let also = h.0 in cc
  shown error stage link token node asked id p NoMemory is h = inr refl
  shown error stage link token node asked id p (Replayed large end) is h = let also = h.0.2 in cc
  shown error stage link token node asked id p (Generated end) is h = let also = h.0.1 in cc
  shown error stage link token node asked id p (Merged end) is h = let also = h.0 in cc
  shown error stage link token node asked id p (Listed end) is h = let also = h.0.1 in cc
  shown error stage link token node asked id p (Checked end) is h = let also = h.0.2 in cc
  shown error stage link token node asked id p (CheckedConfigured end) is h =
      let (n, q, also, at) = h.0 in
      configured_has id end (subst (λ x. HappenedAtConfigured (at_source gives fails ended faulty old new) (at_files view d e) output x end) (same_id asked id n p q is also) at)
  shown error stage link token node asked id p (NoToken end) is h = absurd (untokened asked (CheckRequest id p) h.0.0 is refl h.0.1)
  shown error stage link token node asked id p (Got end) is h = let also = h.0.1 in cc
  shown error stage link token node asked id p (Published end) is h = let also = h.0.1 in cc
  shown error stage link token node asked id p (Served end) is h = let also = h.0.2 in cc

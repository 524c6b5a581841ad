-- The effect of an end gives each request its status.
use Rattle.std.proofs.Common.{◌≡◌, ◌∙◌, ℕ, ◌⊎◌, List, Option, Some, None, inl, inr, refl, ap}
use Rattle.oc_commands.specs.Outside as sayings
use Rattle.oc_commands.specs.Outside.{Input, OnError, OnFiles, OnLink, OnNode, OnStage, Output, at_files, at_link, at_node, at_sink, at_source, at_stage}
use Rattle.oc_commands.specs.Ends.{status_of}
use Rattle.oc_commands.specs.Run.{Happened}
use Rattle.oc_commands.specs.Telling.{at_error}
use Rattle.oc_commands.specs.declared.ending.End.{End}
use Rattle.oc_commands.specs.declared.ending.End.TheVariants.{Misused, NoMemory}
use Rattle.oc_commands.proofs.Completes.{IsSound, checked, fetched}
use Rattle.oc_commands.proofs.Configured.{shown}
use Rattle.oc_commands.proofs.Serves.{served}
use Rattle.oc_commands.proofs.Works.{generated, helped, listed, merged, replayed, versioned}
use Rattle.oc_link.specs.declared.call.Call.{Call}
use Rattle.oc_link.specs.declared.counts.LinkCounts.{LinkCounts}
use Rattle.oc_io.specs.DiskView.{DiskView}
use Rattle.oc_keep.specs.Files.{Disks, disks_in}
use Rattle.oc_link.specs.Story.{Story}
use Rattle.oc_model.specs.World.{World}
use Rattle.oc_words.specs.Status.{number_of}
use Rattle.oc_words.specs.declared.request.Download.{Download}
use Rattle.oc_words.specs.declared.request.Invocation.{Invocation}
use Rattle.oc_words.specs.declared.request.Invocation.TheVariants.{Check, CheckConfigured, Gen, Get, Help, Merge, Node, Put, Replay, Rules, Version}
use Rattle.oc_program.specs.Seen.{seen}
use Rattle.oc_program.specs.StatusFor.{OutputHeld, StatusFor, StatusForGet}
use Rattle.oc_program.specs.declared.outside.Outside.{Outside}

-- the status of an end is 2 or 4 where the end is one of these two
misused_number : (end : End) → (end ≡ Misused) ⊎ (end ≡ NoMemory) → (number_of (status_of end) ≡ 2) ⊎ (number_of (status_of end) ≡ 4)
misused_number end (inl is) = inl (ap (λ e. number_of (status_of e)) is)
misused_number end (inr is) = inr (ap (λ e. number_of (status_of e)) is)

module _ {S K E T D L N P : Type 0} (gives gives_less : S → List ℕ → S → Type 0) (ended : S → Type 0) (input_faults : S → ℕ)
    (takes takes_less : K → List ℕ → K → Type 0) (output_faults : K → ℕ) (writes writes_less : E → List ℕ → E → Type 0) (error_faults : E → ℕ) (world : T → World) (view : D → DiskView)
    (dials : L → Option Story) (dial_faults : L → ℕ) (calls : N → Option (List Call)) (counts : N → LinkCounts) (old : Outside S K E T D L N P) (told : E) (new : Outside S K E T D L N P) where
  abbrev o : Option Invocation → sayings.Outside
  o asked = seen gives gives_less ended input_faults takes takes_less output_faults writes writes_less error_faults world view dials dial_faults calls counts asked old told new

  abbrev For : Option Invocation → ℕ → Type 0
  For asked status = StatusFor gives ended input_faults output_faults view dials dial_faults counts old new asked status

  abbrev output : Output
  output = at_sink takes takes_less output_faults old.output new.output

  abbrev error : OnError
  error = at_error writes writes_less error_faults old.error told

  abbrev stage : OnStage
  stage = at_stage world old.stage new.stage

  abbrev before : Disks D
  before = disks_in old.files

  abbrev behind : Disks D
  behind = disks_in new.files

  abbrev files : OnFiles
  files = at_files view before behind

  abbrev link : OnLink
  link = at_link dials dial_faults old.dialler new.dialler

  abbrev node : OnNode
  node = at_node view calls counts takes takes_less before behind old.link new.link old.output new.output

  sound_of : OutputHeld gives ended input_faults output_faults view dials dial_faults counts old new → IsSound output
  sound_of held text cut = held cut.1

  abbrev token : Input
  token = at_source gives gives_less ended input_faults old.token new.token

  get_for : (d : Download) (times : Option ℕ) (file : Option (List ℕ)) (end : End) → d.times ≡ times → d.token_file ≡ file → Happened (o (Some (Get d))) end
      → StatusForGet gives ended input_faults output_faults view dials dial_faults counts old new d.address d.start times file (number_of (status_of end))
  get_for d None None end is_once is_plain h = λ whole dialled held.
      fetched dials dial_faults old.dialler new.dialler output (sound_of held) dialled
      (o None).input error stage files token node (Some (Get d)) d.address d.start d.progress end
      (ap (λ t. Some (Get (record { address = d.address; times = t; start = d.start; token_file = d.token_file; progress = d.progress }))) is_once
      ∙ ap (λ f. Some (Get (record { address = d.address; times = None; start = d.start; token_file = f; progress = d.progress }))) is_plain) whole h
  get_for d None (Some file) end is_once is_plain h = tt
  get_for d (Some times) file end is_once is_plain h = tt

  pub status_for : (asked : Option Invocation) (end : End) → Happened (o asked) end → (asked ≡ None → (end ≡ Misused) ⊎ (end ≡ NoMemory)) → For asked (number_of (status_of end))
  status_for None end h misused = misused_number end (misused refl)
  status_for (Some Help) end h misused = λ held. helped (o (Some Help)) (sound_of held) end refl h
  status_for (Some Version) end h misused = λ held. versioned (o (Some Version)) (sound_of held) end refl h
  status_for (Some (Gen sample)) end h misused = λ held. generated (o (Some (Gen sample))) (sound_of held) sample end refl h
  status_for (Some (Replay large summary file)) end h misused = λ came held.
      replayed gives gives_less ended input_faults old.input new.input output stage came (sound_of held)
      (Some (Replay large summary file)) error files link token node large summary file end refl h
  status_for (Some Merge) end h misused = λ came held.
      merged gives gives_less ended input_faults old.input new.input output stage came (sound_of held)
      (Some Merge) error files link token node end refl h
  status_for (Some (Rules file)) end h misused = λ came held.
      listed gives gives_less ended input_faults old.input new.input output stage came (sound_of held)
      (Some (Rules file)) error files link token node file end refl h
  status_for (Some (Check member folder)) end h misused = λ kept held there.
      checked view before behind output (sound_of held) kept.0 kept.1
      (o None).input error stage link token node (Some (Check member folder)) member folder end refl there h
  status_for (Some (CheckConfigured id paths)) end h misused = λ kept came held.
      shown gives gives_less ended input_faults old.input new.input view before behind output kept.0 kept.1 came (sound_of held)
      error stage link token node (Some (CheckConfigured id paths)) id paths end refl h
  status_for (Some (Get download)) end h misused = get_for download download.times download.token_file end refl refl h
  status_for (Some (Put upload)) end h misused = tt
  status_for (Some (Node service paths)) end h misused = λ kept waiting came held.
      served gives gives_less ended input_faults old.input new.input view before behind calls counts takes takes_less old.link new.link old.output new.output output kept.0 kept.1 waiting came (sound_of held)
      error stage link token (Some (Node service paths)) service paths end refl h

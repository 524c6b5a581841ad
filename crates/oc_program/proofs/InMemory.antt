-- The status of a replay over bytes in memory.
use Rattle.std.proofs.Common.{◌≡◌, ℕ, Bool, ◌⊎◌, List, Option, Some, ap, sym, subst, refl, inl, inr}
use Rattle.oc_replay.specs.declared.end.ReplayEnd.{ReplayEnd}
use Rattle.oc_replay.specs.declared.end.ReplayEnd.TheVariants as replays
use Rattle.oc_schedule.specs.Schedule.{schedule_of}
use Rattle.oc_schedule.specs.declared.scale.Scale.{Scale}
use Rattle.oc_words.specs.declared.request.Invocation.{Invocation}
use Rattle.oc_words.specs.declared.request.Invocation.TheVariants.{Replay}
use Rattle.oc_commands.specs.AtReplay.{HappenedAtReplay, scale_of, status_for}
use Rattle.oc_commands.specs.Ends.{status_of, status_of_replay}
use Rattle.oc_commands.proofs.Tokens.{untokened}
use Rattle.oc_commands.proofs.Works.{same_scale}
use Rattle.oc_commands.specs.Outside.{Input, OnError, OnFiles, OnLink, OnNode, OnStage, Output}
use Rattle.oc_commands.specs.Run.{Happened}
use Rattle.oc_words.specs.Status.{number_of}
use Rattle.oc_commands.specs.declared.ending.End.{End}
use Rattle.oc_commands.specs.declared.ending.End.TheVariants.{Helped, HelpFailed, Versioned, VersionFailed, Misused, NoMemory, Replayed, Generated, Merged, Listed, Checked, CheckedConfigured, NoToken, Got, Published, Served}
use Rattle.oc_program.specs.Streams.{at_bytes}

module _ (bytes : List ℕ) (read : ℕ) (output : Output) (error : OnError) (stage : OnStage) where
  -- the status for the bytes, or that of a failure, or lack of memory
  abbrev IsRightOf : Scale → ℕ → Type 0
  IsRightOf scale status = (status ≡ status_for (schedule_of scale bytes)) ⊎ (status ≡ 1) ⊎ (status ≡ 4)

  replay_is_right_of : (scale : Scale) (summary : Bool) (end : ReplayEnd) → HappenedAtReplay (at_bytes bytes read) output stage scale summary end → IsRightOf scale (number_of (status_of_replay end))
  replay_is_right_of scale summary replays.Done h = let (s, says, lawful, written, played, holds) = h in inl (sym (ap status_for says.0))
  replay_is_right_of scale summary (replays.Text line why) h = inl (sym (ap status_for h.0.0))
  replay_is_right_of scale summary (replays.Limit what) h = inl (sym (ap status_for h.0.0))
  replay_is_right_of scale summary replays.Source h = inr (inl refl)
  replay_is_right_of scale summary replays.Sink h = inr (inl refl)
  replay_is_right_of scale summary replays.Memory h = inr (inr refl)

  pub replayed_of : (files : OnFiles) (link : OnLink) (token : Input) (node : OnNode) (large summary : Bool) (file : Option (List ℕ)) (asked : Option Invocation) (end : End) → asked ≡ Some (Replay large summary file)
      → Happened (record { asked = asked; input = at_bytes bytes read; output = output; error = error; stage = stage; files = files; link = link; token = token; node = node }) end
      → IsRightOf (scale_of large) (number_of (status_of end))
  replayed_of files link token node large summary file asked Helped is h = let asks = h.0 in cc
  replayed_of files link token node large summary file asked HelpFailed is h = let asks = h.0 in cc
  replayed_of files link token node large summary file asked Versioned is h = let asks = h.0 in cc
  replayed_of files link token node large summary file asked VersionFailed is h = let asks = h.0 in cc
  replayed_of files link token node large summary file asked Misused is h = let asks = h.0 in cc
  replayed_of files link token node large summary file asked NoMemory is h = inr (inr refl)
  replayed_of files link token node large summary file asked (Replayed big end) is h =
      subst (λ (b : Bool). IsRightOf (scale_of b) (number_of (status_of_replay end)))
      (same_scale asked large summary file big h.0.0 h.0.1 is h.0.2) (replay_is_right_of (scale_of big) h.0.0 end h.0.3)
  replayed_of files link token node large summary file asked (Generated end) is h = let asks = h.0.1 in cc
  replayed_of files link token node large summary file asked (Merged end) is h = let asks = h.0 in cc
  replayed_of files link token node large summary file asked (Listed end) is h = let asks = h.0.1 in cc
  replayed_of files link token node large summary file asked (Checked end) is h = let asks = h.0.2 in cc
  replayed_of files link token node large summary file asked (CheckedConfigured end) is h = let asks = h.0.2 in cc
  replayed_of files link token node large summary file asked (NoToken end) is h = absurd (untokened asked (Replay large summary file) h.0.0 is refl h.0.1)
  replayed_of files link token node large summary file asked (Got end) is h = let asks = h.0.1 in cc
  replayed_of files link token node large summary file asked (Published end) is h = let asks = h.0.1 in cc
  replayed_of files link token node large summary file asked (Served end) is h = let asks = h.0.2 in cc

-- The run of a node ends well where nothing fails that may.
use Rattle.std.proofs.Common.{inl, inr, ℕ, Option, List, length}
use Rattle.oc_keep.proofs.Complete.{only_memory}
use Rattle.oc_config.specs.Settings.{Settings}
use Rattle.oc_link.specs.declared.call.Call.{Call}
use Rattle.oc_link.specs.declared.counts.LinkCounts.{LinkCounts}
use Rattle.oc_io.specs.DiskView.{DiskView}
use Rattle.oc_io.specs.Faults.{Rose}
use Rattle.oc_keep.specs.Files.{Disks, AreHonest, OneRose}
use Rattle.oc_keep.specs.Promises.{HoldFiles}
use Rattle.oc_deeds.specs.declared.ends.TurnEnd.TheVariants as ends
use Rattle.oc_service.specs.OnSite.{EndsUnfailed, NodeEnds, at_run, setting_of}
use Rattle.oc_service.specs.declared.running.NodeEnd.{NodeEnd}
use Rattle.oc_service.specs.declared.running.NodeEnd.TheVariants.{Load, Turned}
use Rattle.oc_service.specs.declared.running.Task.{Task}

module _ {D L K : Type 0} (view : D → DiskView) (story : L → Option (List Call)) (counts : L → LinkCounts) (takes fails : K → List ℕ → K → Type 0) (written cut_off : List ℕ → Type 0) (c : Settings) (task : Task) (old new : Disks D) (link after : L) (first last : K)
    (honest : AreHonest view old) (files : HoldFiles view (length c.addresses) old) (sound : OneRose view old new → ⊥)
    (asked : Rose (counts link).listening (counts after).listening → ⊥) (sink : (text : List ℕ) → cut_off text → ⊥) where
  pub unfailed : (end : NodeEnd) → NodeEnds (at_run view story counts takes fails c task old new link after first last) written cut_off (setting_of task) end → EndsUnfailed end
  unfailed (Load error) h = only_memory view (length c.addresses) old new honest files sound error h.0.0
  unfailed (Turned ends.Served) h = tt
  unfailed (Turned ends.Link) (inl h) = absurd (asked h.1.counted.listening)
  unfailed (Turned ends.Link) (inr h) = absurd (asked h.3.cause)
  unfailed (Turned ends.Disk) h = absurd (sound h.3.cause)
  unfailed (Turned ends.Sink) h = absurd (sink _ h.2.2)
  unfailed (Turned ends.Full) h = tt
  unfailed (Turned ends.Memory) h = tt

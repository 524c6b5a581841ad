-- The works between any two turns, by the calls of the link, and the bytes that connections are given over turns.
use Rattle.std.specs.Prelude.{ℕ, zero, suc, Option, List, [], ◌++◌}
use Rattle.oc_link.specs.declared.call.Call.{Call}
use Rattle.oc_link.specs.declared.counts.LinkCounts.{LinkCounts}
use Rattle.oc_io.specs.DiskView.{DiskView}
use Rattle.oc_deeds.specs.Deeds.{Deed}
use Rattle.oc_server.specs.Runs.{ServeEnds, Serves, ServesUpTo}
use Rattle.oc_deeds.specs.declared.ends.TurnEnd.{TurnEnd}
use Rattle.oc_deeds.specs.declared.ends.TurnEnd.TheVariants as ends
use Rattle.oc_server.specs.declared.turns.Turns.{Turns}

-- The deeds of turns

-- the deeds of this many turns, one after another
abbrev pub deeds_of : {D L K : Type 0} (view : D → DiskView) (takes : K → List ℕ → K → Type 0) (faults : K → ℕ) (story : L → Option (List Call)) (counts : L → LinkCounts) (n : ℕ) (old new : Turns D L K)
    → Serves view takes faults story counts n old new → List Deed
deeds_of view takes faults story counts zero old new same = []
deeds_of view takes faults story counts (suc n) old new (served, at, turned, rest) = turned.does.deeds ++ deeds_of view takes faults story counts n at new rest

-- the deeds of turns, with those of one that ended partway through
abbrev pub deeds_up_to : {D L K : Type 0} (view : D → DiskView) (takes fails : K → List ℕ → K → Type 0) (faults : K → ℕ) (story : L → Option (List Call)) (counts : L → LinkCounts) (most : ℕ) (end : TurnEnd) (old new : Turns D L K)
    → ServesUpTo view takes fails faults story counts most end old new → List Deed
deeds_up_to view takes fails faults story counts most end old new up = deeds_of view takes faults story counts up.done old up.at up.serves ++ up.stops.stops.deeds

-- all that was done, however it ended
abbrev pub deeds_until : {D L K : Type 0} (view : D → DiskView) (takes fails : K → List ℕ → K → Type 0) (faults : K → ℕ) (story : L → Option (List Call)) (counts : L → LinkCounts) (most : ℕ) (end : TurnEnd) (old new : Turns D L K)
    → ServeEnds view takes fails faults story counts most end old new → List Deed
deeds_until view takes fails faults story counts most ends.Served old new ended = deeds_of view takes faults story counts most old new ended
deeds_until view takes fails faults story counts most ends.Link old new ended = deeds_up_to view takes fails faults story counts most ends.Link old new ended
deeds_until view takes fails faults story counts most ends.Disk old new ended = deeds_up_to view takes fails faults story counts most ends.Disk old new ended
deeds_until view takes fails faults story counts most ends.Full old new ended = deeds_up_to view takes fails faults story counts most ends.Full old new ended
deeds_until view takes fails faults story counts most ends.Sink old new ended = deeds_up_to view takes fails faults story counts most ends.Sink old new ended
deeds_until view takes fails faults story counts most ends.Memory old new ended = deeds_up_to view takes fails faults story counts most ends.Memory old new ended

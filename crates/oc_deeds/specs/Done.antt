-- The effect of deeds on a running node, on the story of its link and on its counts.
use Rattle.std.specs.Prelude.{◌≡◌, Option, List, [], ◌∷◌}
use Rattle.oc_link.specs.Counts.{CountsEvent}
use Rattle.oc_link.specs.Told.{AddsAll}
use Rattle.oc_link.specs.declared.call.Call.{Call}
use Rattle.oc_link.specs.declared.counts.LinkCounts.{LinkCounts}
use Rattle.oc_deeds.specs.Deeds.{Deed, Running, Sees, Setting, after_all, calls_of}

-- the change of a link's counts: an event tells of one failure at most and waits no longer than it may, and nothing else changes them
abbrev pub CountsAll : List Deed → LinkCounts → LinkCounts → Type 0
CountsAll [] old new = new ≡ old
CountsAll (Sees event wait bytes ∷ ds) old new = (at : LinkCounts) × CountsEvent event wait old at × CountsAll ds at new
CountsAll (d ∷ ds) old new = CountsAll ds old new

-- the effect of deeds on a running node, and on the story of its link
pub record AreDone (s : Setting) (deeds : List Deed) (a b : Running) (old new : Option (List Call)) : Type 0 where
  pub after : b ≡ after_all deeds a
  pub calls : AddsAll (calls_of s deeds a) old new

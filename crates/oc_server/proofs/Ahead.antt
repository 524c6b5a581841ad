-- The text of an input before its frame, and then a part that takes the input.
use Rattle.std.proofs.Common.{◌≡◌, ℕ, false, Option, List, [], ◌∷◌, ◌++◌, refl, sym, subst}
use Rattle.oc_link.specs.declared.call.Call.{Call}
use Rattle.oc_link.specs.declared.counts.LinkCounts.{LinkCounts}
use Rattle.oc_io.specs.DiskView.{DiskView}
use Rattle.oc_model.specs.Lawful.{IsInput}
use Rattle.oc_model.specs.Node.{Header}
use Rattle.oc_model.specs.declared.input.Input.{Input}
use Rattle.oc_deeds.specs.Deeds.{Says}
use Rattle.oc_server.specs.Noting.{NoteBreaks}
use Rattle.oc_server.specs.Parts.{Does, Stops}
use Rattle.oc_deeds.specs.Parts.{Part, ◌>>◌}
use Rattle.oc_deeds.specs.Records.{told_ahead}
use Rattle.oc_server.specs.Scenes.{Did, IsServing}
use Rattle.oc_deeds.specs.Telling.{says_ahead}
use Rattle.oc_deeds.specs.declared.ends.TurnEnd.{TurnEnd}
use Rattle.oc_server.specs.declared.server.Server.{Server}
use Rattle.oc_server.proofs.Parts.{does_one, stops_behind, stops_in}
use Rattle.oc_server.proofs.Scenes.{still_serving}
use Rattle.oc_server.proofs.Stopping.{note_stops}

module _ {D L K : Type 0} (view : D → DiskView) (takes fails : K → List ℕ → K → Type 0) (faults : K → ℕ) (story : L → Option (List Call)) (counts : L → LinkCounts) (i : Input) (a : Server D L K) where
  abbrev line : List ℕ
  line = told_ahead a.log a.kept.node.control.me i

  -- a part that ended in the line of its input
  pub ahead_stops : (takes_nothing : (k : K) → takes k [] k) (end : TurnEnd) (p : Part) (c : Server D L K) → a.kept.closed ≡ false → NoteBreaks view takes fails faults story counts end line a c
      → Stops view takes fails faults story counts end (says_ahead i >> p) a c
  ahead_stops takes_nothing end p c is_open breaks =
      stops_in view takes fails faults story counts end (says_ahead i) p a c
      (note_stops view takes fails faults story counts takes_nothing end line (Says line) (says_ahead i) a c is_open (λ honest. refl) refl breaks)

  module _ (b : Server D L K) (did : Did view takes faults story counts (Says line ∷ []) a b) where
    -- the line was written
    pub said : Does view takes faults story counts (says_ahead i) a b
    said = does_one view takes fails faults story counts (Says line) (says_ahead i) a b (λ honest. refl) did

    pub ahead_serving : IsServing a → IsServing b
    ahead_serving serving = still_serving view takes fails faults story counts (Says line ∷ []) a b did serving

    pub ahead_input : IsInput a.kept.node.control.nodes a.kept.node.control.me i → IsInput b.kept.node.control.nodes b.kept.node.control.me i
    ahead_input lawful =
        subst (λ (me : ℕ). IsInput b.kept.node.control.nodes me i) (sym did.same.me)
        (subst (λ (h : Header). IsInput h.nodes a.kept.node.control.me i) (sym did.same.header) lawful)

    pub ahead_then_stops : (takes_then : (x y z : K) (s t : List ℕ) → takes x s y → takes y t z → takes x (s ++ t) z) (end : TurnEnd) (p : Part) (c : Server D L K) → Stops view takes fails faults story counts end p b c
        → Stops view takes fails faults story counts end (says_ahead i >> p) a c
    ahead_then_stops takes_then end p c stops = stops_behind view takes fails faults story counts takes_then end (says_ahead i) p a b c said stops

-- The state kept for probes is still that of a node.
use Rattle.std.proofs.Common.{◌≡◌, ℕ, Option, IfSome, List, sym, subst}
use Rattle.oc_probe.specs.declared.probing.Probing.{Probing}
use Rattle.oc_keep.specs.KeptView.{sizes_of}
use Rattle.oc_model.specs.Node.{Header}
use Rattle.oc_deeds.specs.Lawful.{IsMadeFor}
use Rattle.oc_server.specs.Lawful.{IsReady}
use Rattle.oc_server.specs.Scenes.{IsServing}
use Rattle.oc_deeds.specs.Turns.{probed}
use Rattle.oc_deeds.specs.declared.came.Came.{Came}
use Rattle.oc_deeds.specs.declared.dials.Dialling.{Dialling}
use Rattle.oc_server.specs.declared.turns.Turns.{Turns}
use Rattle.oc_deeds.proofs.Probings.{made_probed}

-- The node is ready for another turn
module _ {D L K : Type 0} (old new : Turns D L K) (ready : IsReady old) (serving : IsServing new.server) (same : sizes_of new.server.kept.node.control ≡ sizes_of old.server.kept.node.control) where
  ready_if : IfSome new.probing (IsMadeFor old.server.kept.node.control.nodes) → IsReady new
  ready_if made = record { serving = serving; probing = subst (λ (h : Header). IfSome new.probing (IsMadeFor h.nodes)) (sym same) made }

  -- the state after this news
  pub ready_then : (came : Came) (now : ℕ) (ds : List Dialling) → new.probing ≡ probed came now ds old.probing → IsReady new
  ready_then came now ds is =
      ready_if (subst (λ (o : Option Probing). IfSome o (IsMadeFor old.server.kept.node.control.nodes)) (sym is) (made_probed old.server.kept.node.control.nodes came now ds old.probing ready.probing))

  -- the state for probes as before
  pub ready_still : new.probing ≡ old.probing → IsReady new
  ready_still is = ready_if (subst (λ (o : Option Probing). IfSome o (IsMadeFor old.server.kept.node.control.nodes)) (sym is) ready.probing)

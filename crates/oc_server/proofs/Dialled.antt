-- Dials that begin.
use Rattle.std.proofs.Common.{remove, ◌≡◌, ℕ, false, Option, Some, List, [], ◌∷◌, ◌++◌, slice_get, refl, sym, ap, subst, ◌∙◌, arith}
use Rattle.std.specs.List.{AllByRecursion}
use Rattle.oc_base.specs.Lawful.{IsNode}
use Rattle.oc_link.specs.Told.{AddsAll}
use Rattle.oc_link.specs.declared.call.Call.{Call}
use Rattle.oc_link.specs.declared.call.Call.TheVariants as acts
use Rattle.oc_link.specs.declared.counts.LinkCounts.{LinkCounts}
use Rattle.oc_http.specs.Writing.{probe_text}
use Rattle.oc_io.specs.DiskView.{DiskView}
use Rattle.oc_keep.specs.KeptView.{node_of}
use Rattle.oc_model.specs.declared.message.Message.{Message}
use Rattle.oc_routes.specs.Responses.{address_of}
use Rattle.oc_routes.specs.Sights.{about_of}
use Rattle.oc_deeds.specs.Deeds.{Dials, Probes, dial_text}
use Rattle.oc_deeds.specs.Dials.{brings, dialling}
use Rattle.oc_server.specs.Scenes.{Did, IsLawful}
use Rattle.oc_deeds.specs.Lawful.{IsLawfulDial}
use Rattle.oc_deeds.specs.Sending.{AreSendable}
use Rattle.oc_deeds.specs.declared.dials.Dialling.{Dialling}
use Rattle.oc_deeds.specs.declared.dials.Errand.TheVariants as errands
use Rattle.oc_server.specs.declared.server.Server.{Server}
use Rattle.oc_deeds.proofs.Lawful.{dials_with}
use Rattle.oc_server.proofs.Lawful.{lawful_of}
use Rattle.oc_server.proofs.Looking.{looks_none}
use Rattle.oc_deeds.proofs.Messages.{one_sendable, receiver_of_sendable, without_place}
use Rattle.oc_config.specs.Settings.{key_of}
use Rattle.oc_server.proofs.Steps.{did_step}

module _ {D L K : Type 0} (view : D → DiskView) (takes fails : K → List ℕ → K → Type 0) (faults : K → ℕ) (story : L → Option (List Call)) (counts : L → LinkCounts) where
  -- a message was taken out of the outbox and dialled
  pub dialled : (takes_nothing : (k : K) → takes k [] k) (place : ℕ) (m : Message) (d : ℕ) (old : Server D L K) (outbox : List Message) (ds : List Dialling) (link : L) (address text : List ℕ)
      → old.kept.closed ≡ false → slice_get old.outbox place ≡ Some m → outbox ≡ remove old.outbox place → ds ≡ old.dials ++ dialling d (brings m) ∷ []
      → address ≡ address_of old.config.addresses m.to → text ≡ dial_text (key_of old.config.keys) (address_of old.config.addresses m.to) m → AddsAll (acts.Dial d address text ∷ []) (story old.link) (story link) → counts link ≡ counts old.link
      → Did view takes faults story counts (Dials place m d ∷ []) old (record old { outbox = outbox; dials = ds; link = link })
  dialled takes_nothing place m d old outbox ds link address text is_open there rest begun at said made counted =
      did_step view takes fails faults story counts (Dials place m d) old (record old { outbox = outbox; dials = ds; link = link }) refl refl refl refl (takes_nothing old.sink) (omega arith) counted (looks_none view old.kept is_open)
      lawful
      (λ honest.
      ap (λ (ms : List Message). record { node = node_of old.kept; outbox = ms; works = old.works; dials = ds; config = old.config; tally = old.tally; about = about_of old.about }) rest
      ∙ ap (λ (x : List Dialling). record { node = node_of old.kept; outbox = remove old.outbox place; works = old.works; dials = x; config = old.config; tally = old.tally; about = about_of old.about }) begun)
      (λ honest.
      subst (λ (t : List ℕ). AddsAll (acts.Dial d (address_of old.config.addresses m.to) t ∷ []) (story old.link) (story link)) said
      (subst (λ (a : List ℕ). AddsAll (acts.Dial d a text ∷ []) (story old.link) (story link)) at made))
    where
      nodes : ℕ
      nodes = old.kept.node.control.nodes

      lawful : IsLawful old → IsLawful (record old { outbox = outbox; dials = ds; link = link })
      lawful was =
          lawful_of old (record old { outbox = outbox; dials = ds; link = link }) (record { me = refl; header = refl })
          (λ all. subst (λ (ms : List Message). AreSendable nodes ms) (sym rest) (without_place nodes place old.outbox all)) (λ all. all)
          (λ all. subst (λ (x : List Dialling). AllByRecursion (IsLawfulDial nodes) x) (sym begun)
          (dials_with nodes old.dials (dialling d (brings m)) all (receiver_of_sendable nodes m (one_sendable nodes old.outbox place m there was.sendable)))) was

  -- a probe began
  pub probed : (takes_nothing : (k : K) → takes k [] k) (peer d now : ℕ) (old : Server D L K) (ds : List Dialling) (link : L) (address text : List ℕ)
      → old.kept.closed ≡ false → IsNode old.kept.node.control.nodes peer → ds ≡ old.dials ++ dialling d (errands.Probe peer now) ∷ []
      → address ≡ address_of old.config.addresses peer → text ≡ probe_text address → AddsAll (acts.Dial d address text ∷ []) (story old.link) (story link) → counts link ≡ counts old.link
      → Did view takes faults story counts (Probes peer d now ∷ []) old (record old { dials = ds; link = link })
  probed takes_nothing peer d now old ds link address text is_open node begun at written made counted =
      did_step view takes fails faults story counts (Probes peer d now) old (record old { dials = ds; link = link }) refl refl refl refl (takes_nothing old.sink) (omega arith) counted (looks_none view old.kept is_open)
      (lawful_of old (record old { dials = ds; link = link }) (record { me = refl; header = refl }) (λ all. all) (λ all. all)
      (λ all. subst (λ (x : List Dialling). AllByRecursion (IsLawfulDial old.kept.node.control.nodes) x) (sym begun) (dials_with old.kept.node.control.nodes old.dials (dialling d (errands.Probe peer now)) all node)))
      (λ honest. ap (λ (x : List Dialling). record { node = node_of old.kept; outbox = old.outbox; works = old.works; dials = x; config = old.config; tally = old.tally; about = about_of old.about }) begun)
      (λ honest. subst (λ (a : List ℕ). AddsAll (acts.Dial d a (probe_text a) ∷ []) (story old.link) (story link)) at
      (subst (λ (t : List ℕ). AddsAll (acts.Dial d address t ∷ []) (story old.link) (story link)) written made))

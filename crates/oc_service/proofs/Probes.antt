-- The state of probing, as it is made for the addresses of nodes.
use Rattle.std.proofs.Common.{◌≡◌, ◌≤◌, ℕ, Option, List, [], length, map, replicate, ap, ap₂, ◌∙◌, sym, subst, arith}
use Rattle.std.specs.Prelude.{option_map}
use Rattle.std.proofs.lemmas.List.{length-replicate}
use Rattle.std.specs.List.{AllByRecursion}
use Rattle.oc_base.specs.Lawful.{IsNode}
use Rattle.oc_probe.specs.Turns.{RotationView, peers_of}
use Rattle.oc_probe.specs.declared.probing.Probing.{Probing}
use Rattle.oc_deeds.proofs.Peers.{all_peers, same_peers}
use Rattle.oc_deeds.specs.Lawful.{IsMadeFor}
use Rattle.oc_service.specs.OnSite.{probing_of}

pub made_for : {A : Type 0} (me nodes : ℕ) (places : List (Option A)) (p : Probing) → length places ≤ nodes → p.gauge ≡ replicate nodes [] → p.rotation ≡ record { coming = peers_of me places } → IsMadeFor nodes p
made_for me nodes places p within gauge rotation = record {
  rates = subst (λ (g : List (List ℕ)). length g ≡ nodes) (sym gauge) (length-replicate nodes []);
  peers = subst (λ (r : RotationView). AllByRecursion (IsNode nodes) r.coming) (sym rotation) (all_peers me nodes 1 places (omega arith) (omega (arith, within)));
}

abbrev probing_from : List (List ℕ) → RotationView → Probing
probing_from gauge rotation = record { gauge = gauge; rotation = rotation }

-- a node begins with this state for probes
pub first_is : {A : Type 0} (f : A → List ℕ) (me nodes : ℕ) (places : List (Option A)) (p : Probing) → p.gauge ≡ replicate nodes [] → p.rotation ≡ record { coming = peers_of me places }
    → p ≡ probing_of nodes me (map (option_map f) places)
first_is f me nodes places p gauge rotation = ap₂ probing_from gauge (rotation ∙ ap (λ (ids : List ℕ). record { coming = ids }) (sym (same_peers f me 1 places)))

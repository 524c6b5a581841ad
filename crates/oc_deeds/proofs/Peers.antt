-- The peers of a node that have an address.
use Rattle.std.proofs.Common.{◌≡◌, ℕ, ◌+◌, ◌≤◌, Bool, true, false, Option, Some, None, List, [], ◌∷◌, length, map, refl, ap, ◌∙◌, sym, subst, arith, if◌then◌else◌}
use Rattle.std.specs.Prelude.{◌==◌, option_map, IfSome}
use Rattle.std.specs.List.{AllByRecursion}
use Rattle.oc_base.specs.Lawful.{IsNode}
use Rattle.oc_probe.specs.Turns.{RotationView, peers_from, peers_of}
use Rattle.oc_probe.specs.declared.probing.Probing.{Probing}
use Rattle.oc_deeds.specs.Lawful.{IsMadeFor}

-- each peer of some places is a node
pub all_peers : {A : Type 0} (me nodes id : ℕ) (places : List (Option A)) → 1 ≤ id → id + length places ≤ nodes + 1 → AllByRecursion (IsNode nodes) (peers_from me id places)
all_peers me nodes id [] some within = tt
all_peers me nodes id (None ∷ places) some within = all_peers me nodes (id + 1) places (omega (arith, some)) (omega (arith, within))
all_peers me nodes id (Some x ∷ places) some within = by_test (id == me) (all_peers me nodes (id + 1) places (omega (arith, some)) (omega (arith, within)))
  where
    by_test : (b : Bool) → AllByRecursion (IsNode nodes) (peers_from me (id + 1) places) → AllByRecursion (IsNode nodes) (if b then peers_from me (id + 1) places else id ∷ peers_from me (id + 1) places)
    by_test true rest = rest
    by_test false rest = ((some, omega (arith, within)), rest)

-- what is there of a list is there of what is read of it
pub same_peers : {A B : Type 0} (f : A → B) (me id : ℕ) (places : List (Option A)) → peers_from me id (map (option_map f) places) ≡ peers_from me id places
same_peers f me id [] = refl
same_peers f me id (None ∷ places) = same_peers f me (id + 1) places
same_peers f me id (Some x ∷ places) = ap (λ (ids : List ℕ). if id == me then ids else id ∷ ids) (same_peers f me (id + 1) places)

-- peers in turn, from the first one on
abbrev pub rotation_of : List ℕ → RotationView
rotation_of ids = record { coming = ids }

-- the peers are the same by what is read of the places
pub peers_read : {A B : Type 0} (f : A → B) (me : ℕ) (places : List (Option A)) (shown : List (Option B)) → shown ≡ map (option_map f) places → peers_of me places ≡ peers_of me shown
peers_read f me places shown is = sym (same_peers f me 1 places) ∙ ap (λ (ps : List (Option _)). peers_of me ps) (sym is)

-- what is probed with other peers, of no more places than there are nodes, is made for these
pub made_rerouted : {A : Type 0} (me nodes : ℕ) (places : List (Option A)) (p : Probing) (r : RotationView) → length places ≤ nodes → r ≡ record { coming = peers_of me places } → IsMadeFor nodes p → IsMadeFor nodes (record p { rotation = r })
made_rerouted me nodes places p r within is made = record {
  rates = made.rates;
  peers = subst (λ (x : RotationView). AllByRecursion (IsNode nodes) x.coming) (sym is) (all_peers me nodes 1 places (omega arith) (omega (arith, within)));
}

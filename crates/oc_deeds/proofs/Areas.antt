-- The areas and the places of a configuration that a node goes by.
use Rattle.std.proofs.Common.{◌≡◌, ◌≤◌, ℕ, ◌+◌, ◌-◌, Bool, true, false, List, [], ◌∷◌, ◌++◌, length, replicate, refl, ap, ◌∙◌, append-nil, length-append, arith}
use Rattle.std.proofs.lemmas.List.{length-replicate}
use Rattle.std.specs.List.{AllByRecursion}
use Rattle.oc_base.specs.declared.limits.TheConstants.{MAX_AREA, MAX_NODES}
use Rattle.oc_config.specs.Changes.{Stays}
use Rattle.oc_config.specs.Settings.{Settings}
use Rattle.oc_config.specs.declared.change.Running.{Running as Changing}
use Rattle.oc_deeds.specs.Areas.{areas_among}

abbrev pub running_of : ℕ → Bool → Changing
running_of me recorded = record { me = me; recorded = recorded }

-- a configuration that is taken over has no more places than there are nodes
pub still_placed : (me : ℕ) (recorded : Bool) (nodes : ℕ) (old new : Settings) → Stays (running_of me recorded) old new → length old.addresses ≤ nodes → (recorded ≡ false → nodes ≡ MAX_NODES) → length new.addresses ≤ MAX_NODES → length new.addresses ≤ nodes
still_placed me true nodes old new stays within room few = let same : length old.addresses ≡ length new.addresses = (stays.recorded refl).0 in omega (arith, same, within)
still_placed me false nodes old new stays within room few = let all : nodes ≡ MAX_NODES = room refl in omega (arith, all, few)

-- areas of all nodes are their areas
pub areas_whole : (nodes : ℕ) (areas : List ℕ) → length areas ≡ nodes → areas_among nodes areas ≡ areas
areas_whole nodes areas all =
    let none : nodes - length areas ≡ 0 = omega (arith, all) in
    ap (λ (n : ℕ). areas ++ replicate n 0) none ∙ append-nil areas

-- one area more
pub areas_push : (areas : List ℕ) (area : ℕ) → AllByRecursion (λ a. a ≤ MAX_AREA) areas → area ≤ MAX_AREA → AllByRecursion (λ a. a ≤ MAX_AREA) (areas ++ area ∷ [])
areas_push [] area all here = (here, tt)
areas_push (x ∷ xs) area all here = (all.0, areas_push xs area all.1 here)

-- there is an area for each node
pub areas_many : (nodes : ℕ) (areas all : List ℕ) → all ≡ areas_among nodes areas → length areas ≤ nodes → length all ≡ nodes
areas_many nodes areas all is within =
    ap (λ (xs : List ℕ). length xs) is ∙ length-append areas (replicate (nodes - length areas) 0) ∙ ap (λ (n : ℕ). length areas + n) (length-replicate (nodes - length areas) 0) ∙ omega (arith, within)

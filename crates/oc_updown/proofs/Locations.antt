-- The texts of Locations, as they are put together.
use Rattle.std.proofs.Common.{◌≡◌, ℕ, List, ◌++◌, sym, ap, ne_eqb}
use Rattle.std.proofs.lemmas.Bool.{eq-eqb}
use Rattle.std.proofs.lemmas.List.{append_assoc}
use Rattle.std.specs.Prelude.{codes, decimal}
use Rattle.oc_updown.specs.Locations.{follow_location_text}

-- the URL from the first byte on
pub follow_from_first : (address group : List ℕ) (start : ℕ) → start ≡ 0 → codes "http://" ++ (address ++ (group ++ codes "?follow")) ≡ follow_location_text address group start
follow_from_first address group start is =
    rw (eq-eqb _ _ is) (ap (λ (x : List ℕ). codes "http://" ++ x) (sym (append_assoc address group (codes "?follow"))))

-- the URL from a later byte on
pub follow_from_later : (address group : List ℕ) (start : ℕ) → (start ≡ 0 → ⊥) → codes "http://" ++ (address ++ (group ++ (codes "?start=" ++ (decimal start ++ codes "&follow")))) ≡ follow_location_text address group start
follow_from_later address group start later =
    rw (ne_eqb _ _ later) (ap (λ (x : List ℕ). codes "http://" ++ x) (sym (append_assoc address group (codes "?start=" ++ (decimal start ++ codes "&follow")))))

-- The rank beneath one that was told, where it is better than the node's own.
use Rattle.std.proofs.Common.{◌≡◌, Bool, true, false, nat_lt, Option, Some, None, refl, sym, subst, ◌∙◌}
use Rattle.std.proofs.lemmas.Bool.{and_parts}
use Rattle.oc_base.specs.declared.limits.TheConstants.{MAX_DEPTH}
use Rattle.oc_base.specs.declared.rank.Rank.{Rank}
use Rattle.oc_base.specs.Rank.{beneath_of}
use Rattle.oc_model.specs.Adoption.{precedes, is_better, take_rank}
use Rattle.oc_laws_step.proofs.RankOrder.{precedes_fact, precedes_irreflexive}
use Rattle.oc_state.specs.Modes.{better_rank}

-- a better rank is another than the node's own
better_is_other : (own : Option Rank) (told : Rank) → is_better own told ≡ true → Some (beneath_of told) ≡ own → ⊥
better_is_other None told better same = cc
better_is_other (Some r) told better same =
    let own : beneath_of told ≡ r = cc in
    let before : precedes (beneath_of told) r ≡ true = (and_parts (nat_lt told.depth MAX_DEPTH) (precedes (beneath_of told) r) better).1 in
    precedes_irreflexive r (precedes_fact r r (subst (λ (q : Rank). precedes q r ≡ true) own before))

-- the rank that is taken is the node's own, or a better one
pub better_left : (own taken : Option Rank) (told : Rank) → taken ≡ take_rank own told → taken ≡ own → better_rank own told ≡ None
better_left own taken told e same = by_test (is_better own told) refl where
  by_test : (b : Bool) → is_better own told ≡ b → better_rank own told ≡ None
  by_test true h = let some : take_rank own told ≡ Some (beneath_of told) = rw h in absurd (better_is_other own told h (sym some ∙ (sym e ∙ same)))
  by_test false h = rw h

pub better_found : (own taken : Option Rank) (told : Rank) → taken ≡ take_rank own told → (taken ≡ own → ⊥) → better_rank own told ≡ taken
better_found own taken told e other = by_test (is_better own told) refl where
  by_test : (b : Bool) → is_better own told ≡ b → better_rank own told ≡ taken
  by_test true h = let some : take_rank own told ≡ Some (beneath_of told) = rw h in let found : better_rank own told ≡ Some (beneath_of told) = rw h in found ∙ sym (e ∙ some)
  by_test false h = let none : take_rank own told ≡ own = rw h in absurd (other (e ∙ none))

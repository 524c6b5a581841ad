-- The order of ranks.
use Rattle.std.proofs.Common.{◌≡◌, ℕ, ◌<◌, true, ◌&&◌, ◌==◌, nat_lt, ◌⊎◌, inl, inr, ⊎_elim, Option, Some, None, refl, ap₂, sym, arith, eqb-true, eq-eqb, ltb-true, lt-ltb}
use Rattle.std.proofs.lemmas.Bool.{or_cases, or_left, or_right, and_parts, and_from, cases_order, cond_both}
use Rattle.oc_base.specs.declared.rank.Rank.{Rank}
use Rattle.oc_base.specs.Rank.{Precedes, beneath_of}
use Rattle.oc_laws_step.specs.Order.{IsNoWorse}
use Rattle.oc_model.specs.Adoption.{precedes, is_better, take_rank}
use Rattle.oc_base.specs.declared.limits.TheConstants.{MAX_DEPTH}

-- Ranks

-- the test passes only for the fact
pub precedes_fact : (a b : Rank) → precedes a b ≡ true → Precedes a b
precedes_fact a b h = ⊎_elim
    (λ more. inl (ltb-true b.epoch a.epoch more))
    (λ both. let parts = and_parts (a.epoch == b.epoch) (nat_lt a.depth b.depth) both in inr (eqb-true a.epoch b.epoch parts.0, ltb-true a.depth b.depth parts.1))
    (or_cases (nat_lt b.epoch a.epoch) (a.epoch == b.epoch && nat_lt a.depth b.depth) h)

-- the reverse
pub fact_precedes : (a b : Rank) → Precedes a b → precedes a b ≡ true
fact_precedes a b (inl more) = or_left (nat_lt b.epoch a.epoch) (a.epoch == b.epoch && nat_lt a.depth b.depth) (lt-ltb b.epoch a.epoch more)
fact_precedes a b (inr same) =
    or_right (nat_lt b.epoch a.epoch) (a.epoch == b.epoch && nat_lt a.depth b.depth)
    (and_from (a.epoch == b.epoch) (nat_lt a.depth b.depth) (eq-eqb a.epoch b.epoch same.0) (lt-ltb a.depth b.depth same.1))

-- no rank precedes itself
pub precedes_irreflexive : (a : Rank) → Precedes a a → ⊥
precedes_irreflexive a (inl more) = omega arith
precedes_irreflexive a (inr same) = omega (arith, same.1)

-- precedence is transitive
pub precedes_transitive : (a b c : Rank) → Precedes a b → Precedes b c → Precedes a c
precedes_transitive a b c (inl h) (inl k) = inl (omega arith)
precedes_transitive a b c (inl h) (inr k) = inl (omega (arith, k.0))
precedes_transitive a b c (inr h) (inl k) = inl (omega (arith, h.0))
precedes_transitive a b c (inr h) (inr k) = inr (omega (arith, h.0, k.0), omega (arith, h.1, k.1))

abbrev rank_by : ℕ → ℕ → Rank
rank_by e d = record { epoch = e; depth = d }

-- of two ranks one precedes, or they are equal
pub precedes_total : (a b : Rank) → Precedes a b ⊎ (Precedes b a ⊎ (a ≡ b))
precedes_total a b = by_epoch (cases_order a.epoch b.epoch) (cases_order a.depth b.depth) where
  by_epoch : (a.epoch ≡ b.epoch) ⊎ ((a.epoch < b.epoch) ⊎ (b.epoch < a.epoch)) → (a.depth ≡ b.depth) ⊎ ((a.depth < b.depth) ⊎ (b.depth < a.depth)) → Precedes a b ⊎ (Precedes b a ⊎ (a ≡ b))
  by_epoch (inr (inl less)) depths = inr (inl (inl less))
  by_epoch (inr (inr more)) depths = inl (inl more)
  by_epoch (inl same) (inr (inl less)) = inl (inr (same, less))
  by_epoch (inl same) (inr (inr more)) = inr (inl (inr (sym same, more)))
  by_epoch (inl same) (inl even) = inr (inr (ap₂ rank_by same even))

-- no change is no step back
no_worse_itself : (own : Option Rank) → IsNoWorse own own
no_worse_itself None = tt
no_worse_itself (Some o) = inl refl

-- a rank that is better than the node's own is no worse
better_no_worse : (own : Option Rank) (told : Rank) → is_better own told ≡ true → IsNoWorse own (Some (beneath_of told))
better_no_worse None told h = tt
better_no_worse (Some o) told h = inr (precedes_fact (beneath_of told) o (and_parts (nat_lt told.depth MAX_DEPTH) (precedes (beneath_of told) o) h).1)

-- the rank that a node takes is its own or a better one
pub take_rank_no_worse : (own : Option Rank) (told : Rank) → IsNoWorse own (take_rank own told)
take_rank_no_worse own told =
    cond_both (is_better own told) (Some (beneath_of told)) own (IsNoWorse own) (better_no_worse own told) (λ _. no_worse_itself own)

-- The rise of a rank by the small changes.
use Rattle.std.proofs.Common.{◌≡◌, ℕ, zero, suc, ◌+◌, ◌<◌, Bool, true, false, nat_lt, Option, Some, None, ◌⊎◌, inl, inr, refl, ap₂, sym, subst, arith, ltb-true, ◌==◌}
use Rattle.std.proofs.lemmas.Bool.{and_parts, cases_order}
use Rattle.oc_base.specs.declared.rank.Rank.{Rank}
use Rattle.oc_base.specs.Rank.{Precedes, beneath_of}
use Rattle.oc_model.specs.Adoption.{precedes, precedes_any, rank_or_last, is_better}
use Rattle.oc_base.specs.declared.limits.TheConstants.{MAX_DEPTH}
use Rattle.oc_model.specs.Asking.{next_epoch}
use Rattle.oc_model.specs.Numbers.{number_end}
use Rattle.oc_laws_step.specs.Order.{IsNoWorse}
use Rattle.oc_laws_step.proofs.RankOrder.{precedes_fact, precedes_transitive}
use Rattle.oc_laws_world.specs.Ranks.{IsAtLeast, IsRanked}

-- a rank becomes another one: it is not lost and does not become worse
abbrev pub Rises : Option Rank → Option Rank → Type 0
Rises None None = Unit {0}
Rises (Some a) None = ⊥
Rises old (Some b) = IsAtLeast b (rank_or_last old)

abbrev rank_by : ℕ → ℕ → Rank
rank_by e d = record { epoch = e; depth = d }

-- Ranks that are at least as good

pub at_least_then : (a b c : Rank) → IsAtLeast a b → IsAtLeast b c → IsAtLeast a c
at_least_then a b c (inl e) k = subst (λ r. IsAtLeast r c) (sym e) k
at_least_then a b c (inr h) (inl e) = inr (subst (λ r. Precedes a r) e h)
at_least_then a b c (inr h) (inr k) = inr (precedes_transitive a b c h k)

pub precedes_by : (a b c : Rank) → IsAtLeast a b → Precedes b c → Precedes a c
precedes_by a b c (inl e) k = subst (λ r. Precedes r c) (sym e) k
precedes_by a b c (inr h) k = precedes_transitive a b c h k

-- a rank that precedes another one is at least as good one level deeper
pub deeper : (r o : Rank) → Precedes r o → IsAtLeast (beneath_of r) o
deeper r o (inl more) = inr (inl more)
deeper r o (inr same) = by_depth (cases_order (r.depth + 1) o.depth) where
  by_depth : (r.depth + 1 ≡ o.depth) ⊎ ((r.depth + 1 < o.depth) ⊎ (o.depth < r.depth + 1)) → IsAtLeast (beneath_of r) o
  by_depth (inl even) = inl (ap₂ rank_by same.0 even)
  by_depth (inr (inl less)) = inr (inr (same.0, less))
  by_depth (inr (inr more)) = let d = same.1 in absurd (omega (arith, more, d))

-- a rank precedes the one beneath it
pub precedes_beneath : (r : Rank) → Precedes r (beneath_of r)
precedes_beneath r = inr (refl, omega arith)

-- a rank that is not too deep precedes the last of all
pub precedes_last : (r : Rank) → nat_lt r.depth MAX_DEPTH ≡ true → Precedes r (rank_or_last None)
precedes_last r shallow = by_epoch (cases_order r.epoch 0) where
  by_epoch : (r.epoch ≡ 0) ⊎ ((r.epoch < 0) ⊎ (0 < r.epoch)) → Precedes r (rank_or_last None)
  by_epoch (inl even) = inr (even, ltb-true r.depth MAX_DEPTH shallow)
  by_epoch (inr (inl less)) = absurd (omega (arith, less))
  by_epoch (inr (inr more)) = inl more

-- Rising

pub rises_itself : (own : Option Rank) → Rises own own
rises_itself None = tt
rises_itself (Some a) = inl refl

-- a rise to a rank at least as good as the old one, where no rank counts as the last
pub rises_to : (own : Option Rank) (r : Rank) → IsAtLeast r (rank_or_last own) → Rises own (Some r)
rises_to None r h = h
rises_to (Some a) r h = h

-- a rise also holds where no rank counts as the last
pub rises_read : (a b : Option Rank) → Rises a b → IsAtLeast (rank_or_last b) (rank_or_last a)
rises_read None None h = inl refl
rises_read (Some a) None h = absurd h
rises_read None (Some b) h = h
rises_read (Some a) (Some b) h = h

pub rises_then : (a b c : Option Rank) → Rises a b → Rises b c → Rises a c
rises_then a b (Some c) h k = rises_to a c (at_least_then c (rank_or_last b) (rank_or_last a) (rises_read b (Some c) k) (rises_read a b h))
rises_then None None None h k = tt
rises_then (Some a) None None h k = absurd h
rises_then a (Some b) None h k = absurd k

-- a rank that rises is not lost
pub rises_ranked : (a b : Option Rank) → Rises a b → IsRanked a → IsRanked b
rises_ranked a (Some b) h has = (b, refl)
rises_ranked None None h has = has
rises_ranked (Some a) None h has = absurd h

-- a rank that rises is no worse
pub rises_no_worse : (a b : Option Rank) → Rises a b → IsNoWorse a b
rises_no_worse None b h = tt
rises_no_worse (Some a) None h = absurd h
rises_no_worse (Some a) (Some b) h = h

-- Rises by the small changes

-- a greater epoch
pub rises_epoch : (own : Option Rank) (e : ℕ) → (rank_or_last own).epoch < e → Rises own (Some (rank_by e 0))
rises_epoch own e above = rises_to own (rank_by e 0) (inr (inl above))

-- the next epoch, or the last one
pub rises_acting : (own : Option Rank) → Rises own (Some (rank_by (next_epoch (rank_or_last own)) 0))
rises_acting own = rises_to own (rank_by (next_epoch r) 0) (by_test (r.epoch == number_end) refl) where
  r : Rank
  r = rank_or_last own

  by_depth : (d : ℕ) → IsAtLeast (rank_by r.epoch 0) (rank_by r.epoch d)
  by_depth zero = inl refl
  by_depth (suc d) = inr (inr (refl, omega arith))

  by_test : (b : Bool) → (r.epoch == number_end) ≡ b → IsAtLeast (rank_by (next_epoch r) 0) r
  by_test true e = rw e (by_depth r.depth)
  by_test false e = rw e (inr (inl (omega arith)))

-- a rank that a parent may have precedes the node's own, where no rank counts as the last
pub parent_precedes : (own : Option Rank) (r : Rank) → nat_lt r.depth MAX_DEPTH ≡ true → precedes_any r own ≡ true → Precedes r (rank_or_last own)
parent_precedes None r shallow h = precedes_last r shallow
parent_precedes (Some a) r shallow h = precedes_fact r a h

-- the rank beneath such a parent's
pub rises_joined : (own : Option Rank) (r : Rank) → nat_lt r.depth MAX_DEPTH ≡ true → precedes_any r own ≡ true → Rises own (Some (beneath_of r))
rises_joined own r shallow h = rises_to own (beneath_of r) (deeper r (rank_or_last own) (parent_precedes own r shallow h))

-- a better rank that the parent told
pub rises_better : (own : Option Rank) (r : Rank) → is_better own r ≡ true → Rises own (Some (beneath_of r))
rises_better None r h = deeper r (rank_or_last None) (precedes_last r (and_parts (nat_lt r.depth MAX_DEPTH) (precedes_any (beneath_of r) None) h).0)
rises_better (Some a) r h = inr (precedes_fact (beneath_of r) a (and_parts (nat_lt r.depth MAX_DEPTH) (precedes (beneath_of r) a) h).1)

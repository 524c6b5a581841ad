-- The order of certificates of one subject.
use Rattle.std.proofs.Common.{◌≡◌, ℕ, ◌+◌, ◌*◌, ◌<◌, ◌≤◌, Bool, true, false, not, ◌&&◌, ◌||◌, ◌==◌, nat_lt, ◌⊎◌, inl, inr, refl, ap, sym, arith, eqb-true, eq-eqb, ltb-true, lt-ltb}
use Rattle.std.proofs.lemmas.Bool.{or_cases, or_left, or_right, and_parts, and_from, cases_order, true≢false}
use Rattle.oc_base.specs.declared.cert.Cert.{Cert}
use Rattle.oc_base.specs.Cert.{Outranks}
use Rattle.oc_model.specs.Certificates.{outranks, same_state}
use Rattle.oc_laws_step.specs.Order.{AreEven}

-- death comes after life
abbrev dead_as : Bool → ℕ
dead_as true = 1
dead_as false = 0

dead_most : (d : Bool) → dead_as d ≤ 1
dead_most true = omega arith
dead_most false = omega arith

-- two states that are at one place are one
dead_same : (d e : Bool) → dead_as d ≡ dead_as e → d ≡ e
dead_same true true h = refl
dead_same true false h = absurd (omega (arith, h))
dead_same false true h = absurd (omega (arith, h))
dead_same false false h = refl

dead_less : (d e : Bool) → dead_as e < dead_as d → (d ≡ true) × (e ≡ false)
dead_less true true h = absurd (omega arith)
dead_less true false h = (refl, refl)
dead_less false e h = absurd (omega arith)

-- a certificate's place in the order of one subject, except for its own number
abbrev pub stamp : Cert → ℕ
stamp k = 2 * k.seq + dead_as k.dead

abbrev pub Later : Cert → Cert → Type 0
Later k f = (stamp f < stamp k) ⊎ ((stamp k ≡ stamp f) × (f.number < k.number))

-- the fact as numbers
pub later_fact : (k f : Cert) → Outranks k f → Later k f
later_fact k f (inl more) = inl (omega (arith, dead_most f.dead))
later_fact k f (inr (inl death)) = inl (let d : dead_as k.dead ≡ 1 = ap dead_as death.1 in let e : dead_as f.dead ≡ 0 = ap dead_as death.2 in omega (arith, death.0))
later_fact k f (inr (inr same)) = inr (let d : dead_as k.dead ≡ dead_as f.dead = ap dead_as same.1 in omega (arith, same.0), same.2)

-- the reverse
pub fact_later : (k f : Cert) → Later k f → Outranks k f
fact_later k f h = by_seq (cases_order k.seq f.seq) h where
  by_seq : (k.seq ≡ f.seq) ⊎ ((k.seq < f.seq) ⊎ (f.seq < k.seq)) → Later k f → Outranks k f
  by_seq (inr (inr more)) h = inl more
  by_seq (inr (inl less)) (inl h) = absurd (omega (arith, dead_most k.dead))
  by_seq (inr (inl less)) (inr h) = absurd (omega (arith, dead_most k.dead, h.0))
  by_seq (inl same) (inl h) = let d : dead_as f.dead < dead_as k.dead = omega (arith, same) in let both = dead_less k.dead f.dead d in inr (inl (same, both.0, both.1))
  by_seq (inl same) (inr h) = let d : dead_as k.dead ≡ dead_as f.dead = omega (arith, same, h.0) in inr (inr (same, dead_same k.dead f.dead d, h.1))

-- the test of two states
same_state_true : (d e : Bool) → same_state d e ≡ true → d ≡ e
same_state_true true true h = refl
same_state_true true false h = absurd (true≢false (sym h))
same_state_true false true h = absurd (true≢false (sym h))
same_state_true false false h = refl

same_state_itself : (d e : Bool) → d ≡ e → same_state d e ≡ true
same_state_itself true e h = rw (← h) refl
same_state_itself false e h = rw (← h) refl

died : (d e : Bool) → (d && not e) ≡ true → (d ≡ true) × (e ≡ false)
died true true h = absurd (true≢false (sym h))
died true false h = (refl, refl)
died false e h = absurd (true≢false (sym h))

-- the test passes only for the fact
pub outranks_fact : (k f : Cert) → outranks k f ≡ true → Outranks k f
outranks_fact k f h = by_case (or_cases (nat_lt f.seq k.seq) (k.seq == f.seq && rest) h) where
  rest : Bool
  rest = (k.dead && not f.dead) || (same_state k.dead f.dead && nat_lt f.number k.number)

  by_state : k.seq ≡ f.seq → ((k.dead && not f.dead) ≡ true) ⊎ ((same_state k.dead f.dead && nat_lt f.number k.number) ≡ true) → Outranks k f
  by_state same (inl death) = let both = died k.dead f.dead death in inr (inl (same, both.0, both.1))
  by_state same (inr more) =
      let both = and_parts (same_state k.dead f.dead) (nat_lt f.number k.number) more in
      inr (inr (same, same_state_true k.dead f.dead both.0, ltb-true f.number k.number both.1))

  by_case : (nat_lt f.seq k.seq ≡ true) ⊎ ((k.seq == f.seq && rest) ≡ true) → Outranks k f
  by_case (inl more) = inl (ltb-true f.seq k.seq more)
  by_case (inr both) =
      let parts = and_parts (k.seq == f.seq) rest both in
      by_state (eqb-true k.seq f.seq parts.0) (or_cases (k.dead && not f.dead) (same_state k.dead f.dead && nat_lt f.number k.number) parts.1)

-- the reverse
pub fact_outranks : (k f : Cert) → Outranks k f → outranks k f ≡ true
fact_outranks k f (inl more) = or_left (nat_lt f.seq k.seq) _ (lt-ltb f.seq k.seq more)
fact_outranks k f (inr (inl death)) =
    or_right (nat_lt f.seq k.seq) _ (and_from (k.seq == f.seq) _ (eq-eqb k.seq f.seq death.0) (or_left (k.dead && not f.dead) _ (rw (death.1, death.2) refl)))
fact_outranks k f (inr (inr same)) =
    or_right (nat_lt f.seq k.seq) _ (and_from (k.seq == f.seq) _ (eq-eqb k.seq f.seq same.0)
    (or_right (k.dead && not f.dead) _ (and_from (same_state k.dead f.dead) _ (same_state_itself k.dead f.dead same.1) (lt-ltb f.number k.number same.2))))

-- no certificate outranks itself
pub outranks_irreflexive : (k : Cert) → Outranks k k → ⊥
outranks_irreflexive k h = by_case (later_fact k k h) where
  by_case : Later k k → ⊥
  by_case (inl less) = omega arith
  by_case (inr same) = omega (arith, same.1)

-- outranking is transitive
pub outranks_transitive : (a b c : Cert) → Outranks a b → Outranks b c → Outranks a c
outranks_transitive a b c h k = fact_later a c (by_case (later_fact a b h) (later_fact b c k)) where
  by_case : Later a b → Later b c → Later a c
  by_case (inl h) (inl k) = inl (omega arith)
  by_case (inl h) (inr k) = inl (omega (arith, k.0))
  by_case (inr h) (inl k) = inl (omega (arith, h.0))
  by_case (inr h) (inr k) = inr (omega (arith, h.0, k.0), omega (arith, h.1, k.1))

-- of two certificates one outranks the other, or they are even
pub outranks_total : (k f : Cert) → Outranks k f ⊎ (Outranks f k ⊎ AreEven k f)
outranks_total k f = by_seq (cases_order k.seq f.seq) (cases_order (dead_as k.dead) (dead_as f.dead)) (cases_order k.number f.number) where
  by_seq : (k.seq ≡ f.seq) ⊎ ((k.seq < f.seq) ⊎ (f.seq < k.seq)) → (dead_as k.dead ≡ dead_as f.dead) ⊎ ((dead_as k.dead < dead_as f.dead) ⊎ (dead_as f.dead < dead_as k.dead))
      → (k.number ≡ f.number) ⊎ ((k.number < f.number) ⊎ (f.number < k.number)) → Outranks k f ⊎ (Outranks f k ⊎ AreEven k f)
  by_seq (inr (inl less)) d n = inr (inl (inl less))
  by_seq (inr (inr more)) d n = inl (inl more)
  by_seq (inl same) (inr (inl less)) n = inr (inl (fact_later f k (inl (omega (arith, same)))))
  by_seq (inl same) (inr (inr more)) n = inl (fact_later k f (inl (omega (arith, same))))
  by_seq (inl same) (inl state) (inr (inl less)) = inr (inl (fact_later f k (inr (omega (arith, same, state), less))))
  by_seq (inl same) (inl state) (inr (inr more)) = inl (fact_later k f (inr (omega (arith, same, state), more)))
  by_seq (inl same) (inl state) (inl even) = inr (inr (same, dead_same k.dead f.dead state, even))

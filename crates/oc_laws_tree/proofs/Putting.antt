-- The turn of a node in step 3 of heal: it comes under the chain member before it, and all nodes in place stay there.
use Rattle.std.proofs.Common.{◌≡◌, ℕ, ◌+◌, ◌≤◌, true, if◌then◌else◌, Some, None, List, refl, ap, sym, subst, ◌∙◌, ⊎_elim, arith, eq-eqb}
use Rattle.std.proofs.lemmas.Bool.{cases_eq}
use Rattle.oc_base.specs.declared.cert.Cert.{Cert}
use Rattle.oc_model.specs.Adopting.{birth}
use Rattle.oc_model.specs.Chains.{IsUp}
use Rattle.oc_model.specs.ClaimsTree.{table_of, seq_of}
use Rattle.oc_model.specs.Node.{Header, Control}
use Rattle.oc_model.specs.Plan.{Plan}
use Rattle.oc_model.specs.Ready.{HoldsLease}
use Rattle.oc_model.specs.Runs.{Run}
use Rattle.oc_model.specs.Table.{lease_number, leased_by, put, is_news, merge}
use Rattle.oc_model.specs.World.{World}
use Rattle.oc_laws_step.proofs.Tables.{newest-put_same}
use Rattle.oc_laws_tree.proofs.LeasesAhead.{leased_merge_other}
use Rattle.oc_laws_tree.proofs.Core.{Core, core_of}
use Rattle.oc_laws_tree.proofs.Held.{Stays, Steady, stays_same, stays_core, IsHeld, IsCurrent}
use Rattle.oc_laws_tree.proofs.Joining.{ComesBeneath, AsksInVain, is_new}
use Rattle.oc_laws_tree.proofs.Placing.{IsHealing, ChangesAt}
use Rattle.oc_laws_tree.proofs.Reached.{Reached}

-- Changes

-- a current lease stays current while its child keeps its place
current_by : (w v : World) (y z s : ℕ) → Stays w v z → IsCurrent w y z s → IsCurrent v y z s
current_by w v y z s stays is = (stays.up ∙ is.0, stays.joined y is.1, stays.seq y is.1 ∙ is.2)

-- no parent holds the lease of x, if x is a member
abbrev pub IsLoose : Header → World → ℕ → Type 0
IsLoose h w x = x ≤ h.chain → (y : ℕ) → IsHeld w y x → ⊥

-- a lease of x that is current is a link that holds
held_by : (w : World) (y x s : ℕ) → IsUp w y → IsCurrent w y x s → HoldsLease w y x s → IsHeld w y x
held_by w y x s up is leased = record { host = up; up = is.0; joined = is.1; lease = leased ∙ ap (λ (k : ℕ). Some k) (sym is.2) }

-- a change that keeps all places and leases, and makes none
pub steady_changes : (h : Header) (m x : ℕ) (w v : World) → IsHealing h m w → Reached h v → Steady w v → ((z : ℕ) → seq_of v z ≡ seq_of w z) → ((a b s : ℕ) → HoldsLease v a b s → HoldsLease w a b s) → ((a b : ℕ) → IsHeld w a b → IsHeld v a b)
    → ChangesAt h x w v
steady_changes h m x w v healing reached steady seqs only held = record {
  reached = reached;
  up = λ y. (steady y).up;
  stays = λ y other. steady y;
  seqs = λ y other. seqs y;
  current = λ y z s up member leased. current_by w v y z s (steady z) (healing.current y z s (sym (steady y).up ∙ up) member (only y z s leased));
  leases = λ y z other is. subst (HoldsLease v y z) (seqs z) (held y z is).lease;
}

-- an ask in vain is such a change
pub vain_changes : (h : Header) (m x q : ℕ) (w : World) (o : Plan) (r : Run) → IsHealing h m w → IsLoose h w x → (x ≡ q → ⊥) → AsksInVain h w x q o r → ChangesAt h x w r.world
vain_changes h m x q w o r healing loose other vain = record {
  reached = vain.reached;
  up = vain.up;
  stays = stays;
  seqs = λ y apart. ⊎_elim (λ (same : q ≡ y). subst (λ (z : ℕ). seq_of r.world z ≡ seq_of w z) same (ap (λ (k : Core). k.seq) vain.host)) (λ not_host. ap (λ (k : Control). k.kept.seq) (vain.others y apart not_host)) (cases_eq q y);
  current = λ y z s up member leased.
      let was : HoldsLease w y z s = ap (λ (t : List Cert). leased_by t y z) (sym (tables y)) ∙ leased in
      let up_then : IsUp w y = sym (vain.up y) ∙ up in
      let is : IsCurrent w y z s = healing.current y z s up_then member was in
      current_by w r.world y z s (stays z (λ same.
      absurd (loose (subst (λ (k : ℕ). k ≤ h.chain) (sym same) member) y (subst (IsHeld w y) (sym same) (held_by w y z s up_then is was))))) is;
  leases = λ y z apart held. ap (λ (t : List Cert). leased_by t y z) (tables y) ∙ held.lease;
} where
  tables : (y : ℕ) → table_of r.world y ≡ table_of w y
  tables y = ⊎_elim
      (λ (same : x ≡ y). subst (λ (z : ℕ). table_of r.world z ≡ table_of w z) same vain.child_table)
      (λ apart. ⊎_elim
      (λ (same : q ≡ y). subst (λ (z : ℕ). table_of r.world z ≡ table_of w z) same vain.table)
      (λ not_host. ap (λ (k : Control). k.kept.table) (vain.others y apart not_host)) (cases_eq q y))
      (cases_eq x y)

  stays : (y : ℕ) → (x ≡ y → ⊥) → Stays w r.world y
  stays y apart = ⊎_elim
      (λ (same : q ≡ y). subst (Stays w r.world) same (stays_same w r.world q (vain.up q) (ap (λ (k : Core). k.mode) vain.host) (ap (λ (k : Core). k.seq) vain.host)))
      (λ not_host. stays_core w r.world y (vain.up y) (ap core_of (vain.others y apart not_host))) (cases_eq q y)

-- the host has the lease of x
lease_came : (h : Header) (x q : ℕ) (w : World) (o : Plan) (r : Run) → Reached h w → ComesBeneath h w x q o r → leased_by (table_of r.world q) q x ≡ Some (seq_of w x + 1)
lease_came h x q w o r reached came =
    let born : Cert = birth x (seq_of w x + 1) q in
    let news : is_news (table_of w q) born ≡ true = (is_new h w q x (seq_of w x + 1) reached (omega arith)).news in
    ap (λ (t : List Cert). leased_by t q x) came.table
    ∙ (ap (λ b. leased_by (if b then put (table_of w q) born else table_of w q) q x) news
    ∙ (ap (lease_number q) (newest-put_same (table_of w q) born x refl) ∙ ap (λ b. if b then Some (seq_of w x + 1) else None) (eq-eqb q q refl)))

-- a granted ask is a change at x
pub came_changes : (h : Header) (m x q : ℕ) (w : World) (o : Plan) (r : Run) → IsHealing h m w → IsLoose h w x → (x ≡ q → ⊥) → IsUp w x → ComesBeneath h w x q o r → ChangesAt h x w r.world
came_changes h m x q w o r healing loose other up_x came = record {
  reached = came.reached;
  up = came.up;
  stays = stays;
  seqs = λ y apart. ⊎_elim (λ (same : q ≡ y). subst (λ (z : ℕ). seq_of r.world z ≡ seq_of w z) same (ap (λ (k : Core). k.seq) came.host)) (λ not_host. ap (λ (k : Control). k.kept.seq) (came.others y apart not_host)) (cases_eq q y);
  current = λ y z s up member leased. ⊎_elim
      (λ (same : q ≡ y). subst (λ (k : ℕ). IsCurrent r.world k z s) same (at_host z s (subst (IsUp r.world) (sym same) up) member (subst (λ (k : ℕ). HoldsLease r.world k z s) (sym same) leased)))
      (λ not_host. elsewhere y z s (sym (came.up y) ∙ up) member (ap (λ (t : List Cert). leased_by t y z) (sym (tables y not_host)) ∙ leased)) (cases_eq q y);
  leases = λ y z apart held. ⊎_elim
      (λ (same : q ≡ y). ap (λ (t : List Cert). leased_by t y z) (subst (λ (k : ℕ). table_of r.world k ≡ merge (table_of w k) born) same came.table) ∙ (leased_merge_other (table_of w y) born y z apart ∙ held.lease))
      (λ not_host. ap (λ (t : List Cert). leased_by t y z) (tables y not_host) ∙ held.lease) (cases_eq q y);
} where
  born : Cert
  born = birth x (seq_of w x + 1) q

  tables : (y : ℕ) → (q ≡ y → ⊥) → table_of r.world y ≡ table_of w y
  tables y not_host = ⊎_elim
      (λ (same : x ≡ y). subst (λ (z : ℕ). table_of r.world z ≡ table_of w z) same came.child_table)
      (λ apart. ap (λ (k : Control). k.kept.table) (came.others y apart not_host)) (cases_eq x y)

  stays : (y : ℕ) → (x ≡ y → ⊥) → Stays w r.world y
  stays y apart = ⊎_elim
      (λ (same : q ≡ y). subst (Stays w r.world) same (stays_same w r.world q (came.up q) (ap (λ (k : Core). k.mode) came.host) (ap (λ (k : Core). k.seq) came.host)))
      (λ not_host. stays_core w r.world y (came.up y) (ap core_of (came.others y apart not_host))) (cases_eq q y)

  -- an old lease that is current is not one of x
  elsewhere : (y z s : ℕ) → IsUp w y → z ≤ h.chain → HoldsLease w y z s → IsCurrent r.world y z s
  elsewhere y z s up member was =
      let is : IsCurrent w y z s = healing.current y z s up member was in
      current_by w r.world y z s (stays z (λ same. absurd (loose (subst (λ (k : ℕ). k ≤ h.chain) (sym same) member) y (subst (IsHeld w y) (sym same) (held_by w y z s up is was))))) is

  at_host : (z s : ℕ) → IsUp r.world q → z ≤ h.chain → HoldsLease r.world q z s → IsCurrent r.world q z s
  at_host z s up member leased = ⊎_elim
      (λ (same : x ≡ z).
      let found : Some (seq_of w x + 1) ≡ Some s = sym (lease_came h x q w o r healing.reached came) ∙ subst (λ (k : ℕ). leased_by (table_of r.world q) q k ≡ Some s) (sym same) leased in
      let number : seq_of w x + 1 ≡ s = cc in
      subst (λ (k : ℕ). IsCurrent r.world q k s) same (came.up x ∙ up_x, ap (λ (k : Core). k.mode) came.child, ap (λ (k : Core). k.seq) came.child ∙ number))
      (λ apart. elsewhere q z s (sym (came.up q) ∙ up) member (sym (leased_merge_other (table_of w q) born q z apart) ∙ (ap (λ (t : List Cert). leased_by t q z) (sym came.table) ∙ leased)))
      (cases_eq x z)

-- x is in place where its host is
pub came_held : (h : Header) (m x q : ℕ) (w : World) (o : Plan) (r : Run) → IsHealing h m w → IsUp w x → IsUp w q → ComesBeneath h w x q o r → IsHeld r.world q x
came_held h m x q w o r healing up_x up_q came = record {
  host = came.up q ∙ up_q;
  up = came.up x ∙ up_x;
  joined = ap (λ (k : Core). k.mode) came.child;
  lease = lease_came h x q w o r healing.reached came ∙ ap (λ (s : ℕ). Some s) (sym (ap (λ (k : Core). k.seq) came.child));
}

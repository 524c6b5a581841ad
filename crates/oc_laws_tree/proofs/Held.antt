-- Links that hold: a node is joined to one that is up and has its lease. The effect of a step of settle on such links and on
-- the rest.
use Rattle.std.proofs.Common.{◌≡◌, ℕ, ◌<◌, ◌≤◌, false, Option, Some, ◌⊎◌, inl, inr, refl, ap, sym, subst, ◌∙◌, arith}
use Rattle.std.proofs.lemmas.Bool.{cases_order, false_from_ne_true}
use Rattle.oc_base.specs.declared.cert.Cert.{Cert}
use Rattle.oc_base.specs.Cert.{Outranks}
use Rattle.oc_model.specs.declared.mode.Mode.TheVariants.{Acting}
use Rattle.oc_model.specs.Certificates.{outranks}
use Rattle.oc_model.specs.Chains.{IsUp, IsJoined}
use Rattle.oc_model.specs.ClaimsTree.{table_of, seq_of}
use Rattle.oc_model.specs.Node.{Header}
use Rattle.oc_model.specs.Numbers.{IsAmong}
use Rattle.oc_model.specs.Ready.{HoldsLease}
use Rattle.oc_model.specs.Table.{newest, is_news_to}
use Rattle.oc_model.specs.World.{World, is_up, mode_of}
use Rattle.oc_laws_step.proofs.CertOrder.{outranks_fact}
use Rattle.oc_laws_world.proofs.Lifts.{control_of}
use Rattle.oc_laws_world.specs.Numbers.{IsAnywhere, GoesWith}
use Rattle.oc_laws_tree.specs.Sessions.{log_of}
use Rattle.oc_laws_tree.proofs.Known.{Knows}
use Rattle.oc_laws_tree.proofs.Rising.{row_goes}
use Rattle.oc_laws_tree.proofs.Rows.{IsLiveRow, lease_row}
use Rattle.oc_laws_tree.proofs.Together.{AllHold, tree_holds}
use Rattle.oc_laws_tree.proofs.TreeHolds.{TreeHolds}
use Rattle.oc_laws_tree.proofs.Core.{Core, core_of, HasChecked}
use Rattle.oc_laws_tree.proofs.Points.{all_after}
use Rattle.oc_laws_tree.proofs.Reached.{Reached, of_reached}

-- Places

-- a node keeps its parent at its ask number, a node without a parent gets none, and a root stays a root
pub record Stays (w v : World) (y : ℕ) : Type 0 where
  pub up : is_up v y ≡ is_up w y
  pub joined : (p : ℕ) → IsJoined w y p → IsJoined v y p
  pub seq : (p : ℕ) → IsJoined w y p → seq_of v y ≡ seq_of w y
  pub back : (p : ℕ) → IsJoined v y p → IsJoined w y p
  pub acts : mode_of w y ≡ Acting → mode_of v y ≡ Acting

abbrev pub Steady : World → World → Type 0
Steady w v = (y : ℕ) → Stays w v y

pub stays_same : (w v : World) (y : ℕ) → is_up v y ≡ is_up w y → mode_of v y ≡ mode_of w y → seq_of v y ≡ seq_of w y → Stays w v y
stays_same w v y up mode seq = record { up = up; joined = λ p e. mode ∙ e; seq = λ p e. seq; back = λ p e. sym mode ∙ e; acts = λ e. mode ∙ e }

-- a node whose core is as it was, or was checked, keeps its place
pub stays_core : (w v : World) (y : ℕ) → is_up v y ≡ is_up w y → core_of (control_of v y) ≡ core_of (control_of w y) → Stays w v y
stays_core w v y up core = stays_same w v y up (ap (λ (k : Core). k.mode) core) (ap (λ (k : Core). k.seq) core)

pub stays_checked : (w v : World) (y : ℕ) → is_up v y ≡ is_up w y → HasChecked (core_of (control_of w y)) (core_of (control_of v y)) → Stays w v y
stays_checked w v y up checked = record { up = up; joined = λ p e. (checked.joined p e).0; seq = λ p e. (checked.joined p e).1; back = checked.back; acts = checked.acts }

pub steady_itself : (w : World) → Steady w w
steady_itself w y = stays_same w w y refl refl refl

pub stays_then : (w v u : World) (y : ℕ) → Stays w v y → Stays v u y → Stays w u y
stays_then w v u y first second = record {
  up = second.up ∙ first.up;
  joined = λ p e. second.joined p (first.joined p e);
  seq = λ p e. second.seq p (first.joined p e) ∙ first.seq p e;
  back = λ p e. first.back p (second.back p e);
  acts = λ e. second.acts (first.acts e);
}

-- Links

-- x is joined to y, both are up, and y holds the lease of x
pub record IsHeld (w : World) (y x : ℕ) : Type 0 where
  pub host : IsUp w y
  pub up : IsUp w x
  pub joined : IsJoined w x y
  pub lease : HoldsLease w y x (seq_of w x)

-- a lease at y belongs to such a node x
abbrev pub IsCurrent : World → ℕ → ℕ → ℕ → Type 0
IsCurrent w y x s = IsUp w x × IsJoined w x y × (seq_of w x ≡ s)

pub current_stays : (w v : World) → Steady w v → (y x s : ℕ) → IsCurrent w y x s → IsCurrent v y x s
current_stays w v steady y x s is = ((steady x).up ∙ is.0, (steady x).joined y is.1, (steady x).seq y is.1 ∙ is.2)

pub current_back : (w v : World) → Steady w v → (y x s : ℕ) → IsCurrent v y x s → IsCurrent w y x s
current_back w v steady y x s is = let joined : IsJoined w x y = (steady x).back y is.1 in (sym (steady x).up ∙ is.0, joined, sym ((steady x).seq y joined) ∙ is.2)

-- a link still holds where places and its lease stay
pub held_on : (w v : World) → Steady w v → (y x : ℕ) → IsHeld w y x → (HoldsLease w y x (seq_of w x) → HoldsLease v y x (seq_of w x)) → IsHeld v y x
held_on w v steady y x held keeps = record {
  host = (steady y).up ∙ held.host;
  up = (steady x).up ∙ held.up;
  joined = (steady x).joined y held.joined;
  lease = subst (HoldsLease v y x) (sym ((steady x).seq y held.joined)) (keeps held.lease);
}

-- a link that holds afterwards held before
pub held_before : (w v : World) → Steady w v → (y x : ℕ) → IsHeld v y x → (HoldsLease v y x (seq_of w x) → HoldsLease w y x (seq_of w x)) → IsHeld w y x
held_before w v steady y x held had =
    let joined : IsJoined w x y = (steady x).back y held.joined in
    record {
      host = sym (steady y).up ∙ held.host;
      up = sym (steady x).up ∙ held.up;
      joined = joined;
      lease = had (subst (HoldsLease v y x) ((steady x).seq y joined) held.lease);
    }

-- The facts in a child's log

pub all_hold : (h : Header) (w : World) → Reached h w → AllHold w
all_hold h w reached = of_reached AllHold all_after h w reached

pub tree_of : (h : Header) (w : World) → Reached h w → TreeHolds w
tree_of h w reached = tree_holds w (all_hold h w reached)

-- y knows each fact that names it
pub known_own : (h : Header) (w : World) → Reached h w → (x y : ℕ) (c : Cert) → IsAmong c (log_of w x).waiting → c.parent ≡ y → Knows (table_of w y) c
known_own h w reached x y c among own = subst (λ (z : ℕ). Knows (table_of w z) c) own ((tree_of h w reached).granted c (inr (inl (x, among))))

-- y knows each fact about a child of its own whose lease it holds at the child's number
pub known_child : (h : Header) (w : World) → Reached h w → (x y z : ℕ) (c : Cert) → IsAmong c (log_of w x).waiting → c.subject ≡ z → HoldsLease w y z (seq_of w z) → Knows (table_of w y) c
known_child h w reached x y z c among same leased =
    let tree : TreeHolds w = tree_of h w reached in
    let anywhere : IsAnywhere w c = inr (inl (x, among)) in
    let goes : GoesWith w z c.seq c.parent = inr (inr (c, anywhere, same, refl, refl)) in
    let row = lease_row (table_of w y) y z (seq_of w z) leased in
    let most : c.seq ≤ seq_of w z = tree.asks z c.seq c.parent goes in
    by_order row.0 row.1 goes most (cases_order c.seq (seq_of w z)) where
      old : (k : Cert) → IsLiveRow (table_of w y) z y (seq_of w z) k.number k → c.seq < seq_of w z → Knows (table_of w y) c
      old k row less =
          let here : newest (table_of w y) c.subject ≡ Some k = ap (newest (table_of w y)) same ∙ row.found in
          let none : outranks c k ≡ false = false_from_ne_true (outranks c k) (λ e. by_fact (outranks_fact c k e)) in
          ap (λ (o : Option Cert). is_news_to o c) here ∙ none where
            by_fact : Outranks c k → ⊥
            by_fact (inl more) = omega (arith, more, less, row.seq)
            by_fact (inr (inl death)) = omega (arith, death.0, less, row.seq)
            by_fact (inr (inr number)) = omega (arith, number.0, less, row.seq)

      by_order : (k : Cert) → IsLiveRow (table_of w y) z y (seq_of w z) k.number k → GoesWith w z c.seq c.parent → c.seq ≤ seq_of w z
          → (c.seq ≡ seq_of w z) ⊎ ((c.seq < seq_of w z) ⊎ (seq_of w z < c.seq)) → Knows (table_of w y) c
      by_order k row goes most (inl e) =
          let lease_goes : GoesWith w z (seq_of w z) y = subst (λ (s : ℕ). GoesWith w z s y) row.seq (subst (GoesWith w z k.seq) row.parent (row_goes w y z k row.found)) in
          let own : c.parent ≡ y = (tree_of h w reached).peers z (seq_of w z) c.parent y (subst (λ (s : ℕ). GoesWith w z s c.parent) e goes) lease_goes in
          known_own h w reached x y c among own
      by_order k row goes most (inr (inl less)) = old k row less
      by_order k row goes most (inr (inr more)) = absurd (omega (arith, most, more))

-- The laws of sessions and of coverage hold of a new world, and every run keeps them.
use Rattle.std.proofs.Common.{◌≡◌, ℕ, ◌≤◌, List, [], ◌⊎◌, inl, inr, ap, sym, subst, ⊎_elim, arith}
use Rattle.std.specs.List.{range_with_len}
use Rattle.oc_base.specs.declared.cert.Cert.{Cert}
use Rattle.oc_model.specs.declared.message.Message.{Message}
use Rattle.oc_model.specs.declared.mode.Mode.TheVariants as modes
use Rattle.oc_model.specs.Chains.{IsJoined}
use Rattle.oc_model.specs.ClaimsTree.{table_of, seq_of}
use Rattle.oc_model.specs.Node.{Header, Control}
use Rattle.oc_model.specs.Numbers.{IsAmong}
use Rattle.oc_model.specs.World.{World, Process, process, mode_of, new_world}
use Rattle.oc_model.proofs.Processes.{IsNew, process_in-me, process_in-new}
use Rattle.oc_laws_world.proofs.Lifts.{control_of, Becomes, IsLaw, at_each}
use Rattle.oc_laws_tree.specs.Sessions.{log_of, HasCheckedIn, HasAcknowledgedAmong, HasAcknowledged}
use Rattle.oc_laws_tree.proofs.Known.{Knows, table_with, Grow, now_begins, now_ends, now_later}
use Rattle.oc_laws_tree.proofs.CheckMessages.{HasCheckedInNow, HasAcknowledgedNow, check_in_own, ack_own, check_in_later, check_in_either, ack_either}
use Rattle.oc_laws_tree.proofs.LogPlaces.{IsWhole, HoldsBefore, before_weaker}
use Rattle.oc_laws_tree.proofs.SessionsHold.{IsToldIn, SessionsHold, IsInSession}
use Rattle.oc_laws_tree.proofs.SessionChanges.{in_session}

-- the laws hold for x before the change
session_begins : (w : World) (x : ℕ) → SessionsHold w → IsInSession w x (control_of w x) []
session_begins w x holds = record {
  me = process_in-me w.processes x;
  own = tt;
  whole = holds.whole x;
  numbered = λ y s upto certs a. holds.numbered x y s upto certs (check_in y s upto certs a);
  silent = λ p e y upto certs a. holds.silent x p e y upto certs (check_in y (seq_of w x) upto certs a);
  tells = λ y e upto certs a. before_weaker (log_of w x) upto (IsToldIn (table_of w y) certs) (IsToldIn (table_with w x (table_of w x) y) certs)
      (λ f. ⊎_elim (λ among. inl among) (λ k. inr (now_begins w x y f k))) (holds.tells x y e upto certs (check_in y (seq_of w x) upto certs a));
  known = λ y e upto a. before_weaker (log_of w x) upto (Knows (table_of w y)) (Knows (table_with w x (table_of w x) y)) (now_begins w x y) (holds.known x y e upto (acknowledgement y upto a));
  rows = λ y e f among. ⊎_elim (λ k. inl (now_begins w x y f k)) (λ waits. inr waits) (holds.rows x y f e among);
  grows = λ f k. k;
  answered = λ y z s upto a. absurd (a.2);
  acked = λ z e upto a. absurd (a.2);
} where
  check_in : (y s upto : ℕ) (certs : List Cert) → HasCheckedInNow w [] x y s upto certs → HasCheckedIn w x y s upto certs
  check_in y s upto certs (inl old) = old
  check_in y s upto certs (inr none) = absurd (none.3)

  acknowledgement : (y upto : ℕ) → HasAcknowledgedNow w [] y x (seq_of w x) upto → HasAcknowledged w y x (seq_of w x) upto
  acknowledgement y upto (inl old) = old
  acknowledgement y upto (inr none) = absurd (none.2)

-- the laws hold of the world after the change
session_ends : (w v : World) (x : ℕ) (n : Control) (ms : List Message) → SessionsHold w → Becomes w x n ms v → IsInSession w x n ms → SessionsHold v
session_ends w v x n ms holds becomes h = record {
  numbered = λ y z s upto certs a. at_each w v x n ms becomes (λ y c. (z s upto : ℕ) (certs : List Cert) → HasCheckedInNow w ms y z s upto certs → s ≤ c.kept.seq) h.numbered
      (λ y apart z s upto certs a. holds.numbered y z s upto certs (check_in_of y z s upto certs apart a)) y z s upto certs (check_in_either w ms v.net becomes.net y z s upto certs a);
  answered = λ y z s upto a. by_answer y z s upto (ack_either w ms v.net becomes.net y z s upto a);
  silent = λ y p e z upto certs a. at_each w v x n ms becomes (λ y c. (p : ℕ) → c.kept.mode ≡ modes.Asking p → (z upto : ℕ) (certs : List Cert) → HasCheckedInNow w ms y z c.kept.seq upto certs → ⊥) h.silent
      (λ y apart p e z upto certs a. holds.silent y p e z upto certs (check_in_of y z (seq_of w y) upto certs apart a)) y p e z upto certs (check_in_either w ms v.net becomes.net y z (seq_of v y) upto certs a);
  whole = at_each w v x n ms becomes (λ y c. IsWhole c.kept.log) h.whole (λ y apart. holds.whole y);
  tells = λ y z e upto certs a. at_each w v x n ms becomes
      (λ y c. (z : ℕ) → c.kept.mode ≡ modes.Joined z → (upto : ℕ) (certs : List Cert) → HasCheckedInNow w ms y z c.kept.seq upto certs → HoldsBefore c.kept.log upto (IsToldIn (table_of v z) certs))
      (λ z e upto certs a. before_weaker n.kept.log upto (IsToldIn (table_with w x n.kept.table z) certs) (IsToldIn (table_of v z) certs)
      (λ f. ⊎_elim (λ among. inl among) (λ k. inr (after z f k))) (h.tells z e upto certs a))
      (λ y apart z e upto certs a. before_weaker (log_of w y) upto (IsToldIn (table_of w z) certs) (IsToldIn (table_of v z) certs) (λ f. ⊎_elim (λ among. inl among) (λ k. inr (later z f k)))
      (holds.tells y z e upto certs (check_in_of y z (seq_of w y) upto certs apart a)))
      y z e upto certs (check_in_either w ms v.net becomes.net y z (seq_of v y) upto certs a);
  known = λ y z e upto a. at_each w v x n ms becomes (λ y c. (z : ℕ) → c.kept.mode ≡ modes.Joined z → (upto : ℕ) → HasAcknowledgedNow w ms z y c.kept.seq upto → HoldsBefore c.kept.log upto (Knows (table_of v z)))
      (λ z e upto a. before_weaker n.kept.log upto (Knows (table_with w x n.kept.table z)) (Knows (table_of v z)) (after z) (h.known z e upto a))
      (λ y apart. of_other y) y z e upto (ack_either w ms v.net becomes.net z y (seq_of v y) upto a);
  rows = λ y z f e among. at_each w v x n ms becomes (λ y c. (z : ℕ) → c.kept.mode ≡ modes.Joined z → (f : Cert) → IsAmong f c.kept.table → Knows (table_of v z) f ⊎ IsAmong f c.kept.log.waiting)
      (λ z e f among. ⊎_elim (λ k. inl (after z f k)) (λ waits. inr waits) (h.rows z e f among))
      (λ y apart z e f among. ⊎_elim (λ k. inl (later z f k)) (λ waits. inr waits) (holds.rows y z f e among)) y z e f among;
} where
  -- facts that are known before or within the change are known after it
  after : Grow (table_with w x n.kept.table) (table_of v)
  after = now_ends w v x n ms becomes

  later : Grow (table_of w) (table_of v)
  later = now_later w v x n ms becomes h.grows

  -- a check-in of another node was sent before
  check_in_of : (y z s upto : ℕ) (certs : List Cert) → (x ≡ y → ⊥) → HasCheckedInNow w ms y z s upto certs → HasCheckedIn w y z s upto certs
  check_in_of y z s upto certs apart (inl old) = old
  check_in_of y z s upto certs apart (inr new) = absurd (apart (sym (check_in_own x ms h.own y z s upto certs new)))

  by_answer : (y z s upto : ℕ) → HasAcknowledgedNow w ms y z s upto → (certs : List Cert) × HasCheckedIn v z y s upto certs
  by_answer y z s upto (inl old) = let k = holds.answered y z s upto old in (k.0, check_in_later w ms v.net becomes.net z y s upto k.0 k.1)
  by_answer y z s upto (inr new) = let k = h.answered y z s upto new in (k.0, check_in_later w ms v.net becomes.net z y s upto k.0 k.1)

  -- the case of another node that its parent acknowledged
  of_other : (y z : ℕ) → IsJoined w y z → (upto : ℕ) → HasAcknowledgedNow w ms z y (seq_of w y) upto → HoldsBefore (log_of w y) upto (Knows (table_of v z))
  of_other y z e upto (inl old) = before_weaker (log_of w y) upto (Knows (table_of w z)) (Knows (table_of v z)) (later z) (holds.known y z e upto old)
  of_other y z e upto (inr new) =
      let same : z ≡ x = ack_own x ms h.own z y (seq_of w y) upto new in
      before_weaker (log_of w y) upto (Knows n.kept.table) (Knows (table_of v z)) (of_parent same)
      (h.acked y (subst (λ (q : ℕ). IsJoined w y q) same e) upto (subst (λ (q : ℕ). HasAcknowledgedAmong ms q y (seq_of w y) upto) same new)) where
        of_parent : z ≡ x → (f : Cert) → Knows n.kept.table f → Knows (table_of v z) f
        of_parent same f k = subst (λ (q : ℕ). Knows (table_of v q) f) (sym same) (subst (λ (c : Control). Knows c.kept.table f) (sym becomes.here) k)

pub sessions_law : IsLaw SessionsHold IsInSession
sessions_law = record { begins = session_begins; keeps = in_session; ends = session_ends }

-- in a new world nothing was sent, and no node is joined
pub sessions_new : (h : Header) → SessionsHold (new_world h)
sessions_new h = record {
  numbered = λ x y s upto certs a. absurd (a.3);
  answered = λ y x s upto a. absurd (a.2);
  silent = λ x p e y upto certs a. absurd (a.3);
  whole = λ x. subst (λ (p : Process). IsWhole p.node.control.kept.log) (sym (new x).1) (omega arith);
  tells = λ x y e upto certs a. absurd (a.3);
  known = λ x y e upto a. absurd (a.2);
  rows = λ x y f e among. absurd (cc (new_mode x, e));
} where
  new : (x : ℕ) → IsNew x (process (new_world h) x)
  new x = process_in-new h (range_with_len 1 h.nodes) x

  new_mode : (x : ℕ) → mode_of (new_world h) x ≡ modes.Idle
  new_mode x = ap (λ (p : Process). p.node.control.kept.mode) (new x).1

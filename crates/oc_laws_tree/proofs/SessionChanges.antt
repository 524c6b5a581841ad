-- Each small change of a node carries the laws of sessions and of coverage.
use Rattle.std.proofs.Common.{◌≡◌, ℕ, ◌+◌, ◌<◌, ◌≤◌, true, List, [], ◌∷◌, ◌⊎◌, inl, inr, ap, sym, subst, ◌∙◌, ⊎_elim, arith}
use Rattle.std.specs.List.{AllByRecursion}
use Rattle.oc_base.specs.declared.cert.Cert.{Cert}
use Rattle.oc_base.specs.declared.rank.Rank.{Rank}
use Rattle.oc_model.specs.declared.message.Body.{Body}
use Rattle.oc_model.specs.declared.message.Body.TheVariants as bodies
use Rattle.oc_model.specs.declared.message.Message.{Message}
use Rattle.oc_model.specs.declared.mode.Mode.{Mode}
use Rattle.oc_model.specs.declared.mode.Mode.TheVariants as modes
use Rattle.oc_model.specs.Adopting.{birth}
use Rattle.oc_model.specs.Adoption.{rank_or_last}
use Rattle.oc_model.specs.ChangeLog.{begun_with, ack, is_ahead, next_certs, place_after}
use Rattle.oc_model.specs.Chains.{IsJoined}
use Rattle.oc_model.specs.Checking.{life}
use Rattle.oc_model.specs.ClaimsTree.{table_of, seq_of}
use Rattle.oc_model.specs.Node.{Control, empty_log}
use Rattle.oc_model.specs.Numbers.{IsAmong}
use Rattle.oc_model.specs.Records.{entered, noted}
use Rattle.oc_model.specs.Table.{merge}
use Rattle.oc_model.specs.World.{World}
use Rattle.oc_model.proofs.Lists.{all_append}
use Rattle.oc_laws_step.proofs.Tables.{merge_keeps}
use Rattle.oc_laws_world.proofs.Lifts.{HasSent}
use Rattle.oc_laws_world.proofs.Listed.{all_among}
use Rattle.oc_laws_world.proofs.Machine.{IsMachine, and_sent, with_kept}
use Rattle.oc_laws_tree.specs.Sessions.{log_of, HasCheckedIn, before_place}
use Rattle.oc_laws_tree.proofs.Known.{Knows, table_with, among_merge, Grow, now_own, now_grows}
use Rattle.oc_laws_tree.proofs.CheckMessages.{HasCheckedInNow, HasAcknowledgedNow, IsAck, ack_split, check_in_now, ack_now, IsNoCheckIn, IsNoAck, check_in_before, ack_before, ack_among, loose_no_check_in, loose_no_ack, check_in_says, answers}
use Rattle.oc_laws_tree.proofs.LogPlaces.{HoldsBefore, before_weaker, whole_noted, before_noted, among_noted, whole_ack, before_ack, among_ack, before_next}
use Rattle.oc_laws_tree.proofs.SessionsHold.{IsToldIn, SessionsHold, Session, IsInSession}

-- Messages

-- one more message that is neither a check-in nor an acknowledgement
and_other : (w : World) (x : ℕ) (n : Control) (ms : List Message) (p : ℕ) (b : Body) → IsNoCheckIn b → IsNoAck b → IsInSession w x n ms → IsInSession w x n (and_sent n ms p b)
and_other w x n ms p b no_check_in no_ack h =
    let m : Message = record { from = n.me; to = p; body = b } in
    record {
      me = h.me;
      own = all_append (λ (l : Message). l.from ≡ x) ms (m ∷ []) h.own (h.me, tt);
      whole = h.whole;
      numbered = λ y s upto certs a. h.numbered y s upto certs (check_in_before w ms m no_check_in x y s upto certs a);
      silent = λ q e y upto certs a. h.silent q e y upto certs (check_in_before w ms m no_check_in x y n.kept.seq upto certs a);
      tells = λ y e upto certs a. h.tells y e upto certs (check_in_before w ms m no_check_in x y n.kept.seq upto certs a);
      known = λ y e upto a. h.known y e upto (ack_before w ms m no_ack y x n.kept.seq upto a);
      rows = h.rows;
      grows = h.grows;
      answered = λ y z s upto a. h.answered y z s upto (ack_among ms m no_ack y z s upto a);
      acked = λ z e upto a. h.acked z e upto (ack_among ms m no_ack x z (seq_of w z) upto a);
    }

-- one more check-in, of a node that is joined
and_checked_in : (w : World) (x : ℕ) (n : Control) (ms : List Message) (p rate : ℕ) → n.kept.mode ≡ modes.Joined p → IsInSession w x n ms
    → IsInSession w x n (and_sent n ms p (bodies.CheckIn n.kept.seq (place_after n.kept.log) rate n.kept.number n.kept.clients (next_certs n.kept.log)))
and_checked_in w x n ms p rate joined h = record {
  me = h.me;
  own = all_append (λ (l : Message). l.from ≡ x) ms (m ∷ []) h.own (h.me, tt);
  whole = h.whole;
  numbered = λ y s upto certs a. ⊎_elim (λ old. h.numbered y s upto certs old) (λ new. let e = (check_in_says m x y s upto certs new).0 in omega (arith, e)) (check_in_now w ms m x y s upto certs a);
  silent = λ q e y upto certs a. absurd cc;
  tells = λ y e upto certs a. ⊎_elim (λ old. h.tells y e upto certs old) (λ new. all_told y upto certs (check_in_says m x y n.kept.seq upto certs new)) (check_in_now w ms m x y n.kept.seq upto certs a);
  known = λ y e upto a. h.known y e upto (ack_before w ms m tt y x n.kept.seq upto a);
  rows = h.rows;
  grows = h.grows;
  answered = λ y z s upto a. h.answered y z s upto (ack_among ms m tt y z s upto a);
  acked = λ z e upto a. h.acked z e upto (ack_among ms m tt x z (seq_of w z) upto a);
} where
  m : Message
  m = record { from = n.me; to = p; body = bodies.CheckIn n.kept.seq (place_after n.kept.log) rate n.kept.number n.kept.clients (next_certs n.kept.log) }

  -- a check-in tells all facts before its place
  all_told : (y upto : ℕ) (certs : List Cert) → (n.kept.seq ≡ n.kept.seq) × (place_after n.kept.log ≡ upto) × (next_certs n.kept.log ≡ certs)
      → HoldsBefore n.kept.log upto (IsToldIn (table_with w x n.kept.table y) certs)
  all_told y upto certs e =
      before_weaker n.kept.log upto (λ f. IsAmong f certs) (IsToldIn (table_with w x n.kept.table y) certs) (λ f k. inl k)
      (subst (λ (cs : List Cert). HoldsBefore n.kept.log upto (λ f. IsAmong f cs)) e.2
      (subst (λ (place : ℕ). HoldsBefore n.kept.log place (λ f. IsAmong f (next_certs n.kept.log))) e.1 (before_next n.kept.log h.whole)))

-- one more acknowledgement, of a check-in all of whose facts the node knows
and_acknowledged : (w : World) (x : ℕ) (n : Control) (ms : List Message) (p s upto rate number clients : ℕ) (certs : List Cert) → SessionsHold w
    → HasSent w x p (bodies.CheckIn s upto rate number clients certs) → AllByRecursion (Knows n.kept.table) (life p s n.me number clients ∷ certs) → (r : Rank) (ancestors : List ℕ)
    → IsInSession w x n ms → IsInSession w x n (and_sent n ms p (bodies.CheckAck s upto r ancestors))
and_acknowledged w x n ms p s upto rate number clients certs holds sent all r ancestors h = record {
  me = h.me;
  own = all_append (λ (l : Message). l.from ≡ x) ms (m ∷ []) h.own (h.me, tt);
  whole = h.whole;
  numbered = λ y t place cs a. h.numbered y t place cs (check_in_before w ms m tt x y t place cs a);
  silent = λ q e y place cs a. h.silent q e y place cs (check_in_before w ms m tt x y n.kept.seq place cs a);
  tells = λ y e place cs a. h.tells y e place cs (check_in_before w ms m tt x y n.kept.seq place cs a);
  known = λ y e place a. ⊎_elim (λ old. h.known y e place old) (λ new. of_own y e place new) (ack_now w ms m y x n.kept.seq place a);
  rows = h.rows;
  grows = h.grows;
  answered = λ y z t place a. ⊎_elim (λ old. h.answered y z t place old) (λ new. (certs, checked_in y z t place new)) (ack_split ms m y z t place a);
  acked = λ z e place a. ⊎_elim (λ old. h.acked z e place old) (λ new. of_other z e place new) (ack_split ms m x z (seq_of w z) place a);
} where
  m : Message
  m = record { from = n.me; to = p; body = bodies.CheckAck s upto r ancestors }

  checked_in : (y z t place : ℕ) → IsAck m y z t place → HasCheckedIn w z y t place certs
  checked_in y z t place new = answers w m certs y z t place (subst (λ (q : ℕ). HasCheckedIn w p q s upto certs) (sym h.me) (rate, number, clients, sent)) new

  knows : (f : Cert) → IsAmong f certs → Knows n.kept.table f
  knows f among = all_among (Knows n.kept.table) (life p s n.me number clients ∷ certs) f all (inr among)

  -- the case of a node that is its own parent
  of_own : (y : ℕ) → n.kept.mode ≡ modes.Joined y → (place : ℕ) → IsAck m y x n.kept.seq place → HoldsBefore n.kept.log place (Knows (table_with w x n.kept.table y))
  of_own y e place new =
      let self : x ≡ y = sym h.me ∙ ap (λ (l : Message). l.from) new.2 in
      before_weaker n.kept.log place (IsToldIn (table_with w x n.kept.table y) certs) (Knows (table_with w x n.kept.table y))
      (λ f. ⊎_elim (λ among. subst (λ (z : ℕ). Knows (table_with w x n.kept.table z) f) self (subst (λ (t : List Cert). Knows t f) (sym (now_own w x n)) (knows f among))) (λ k. k))
      (h.tells y e place certs (inl (checked_in y x n.kept.seq place new)))

  of_other : (z : ℕ) → IsJoined w z x → (place : ℕ) → IsAck m x z (seq_of w z) place → HoldsBefore (log_of w z) place (Knows n.kept.table)
  of_other z e place new =
      before_weaker (log_of w z) place (IsToldIn (table_of w x) certs) (Knows n.kept.table) (λ f. ⊎_elim (λ among. knows f among) (λ k. h.grows f k))
      (holds.tells z x e place certs (checked_in x z (seq_of w z) place new))

-- Changes

-- a certificate is added to the table, and to the log of a node that is joined
and_entered : (w : World) (x : ℕ) (n : Control) (ms : List Message) (c : Cert) → IsInSession w x n ms → IsInSession w x (with_kept n (entered n.kept c)) ms
and_entered w x n ms c h = record {
  me = h.me;
  own = h.own;
  whole = whole_noted n.kept.mode n.kept.log c h.whole;
  numbered = h.numbered;
  silent = h.silent;
  tells = λ y e upto certs a.
      before_noted n.kept.mode n.kept.log c upto (IsToldIn (table_with w x (merge n.kept.table c) y) certs) h.whole
      (before_weaker n.kept.log upto (IsToldIn (table_with w x n.kept.table y) certs) (IsToldIn (table_with w x (merge n.kept.table c) y) certs)
      (λ f. ⊎_elim (λ among. inl among) (λ k. inr (keeps y f k))) (h.tells y e upto certs a));
  known = λ y e upto a.
      before_noted n.kept.mode n.kept.log c upto (Knows (table_with w x (merge n.kept.table c) y)) h.whole
      (before_weaker n.kept.log upto (Knows (table_with w x n.kept.table y)) (Knows (table_with w x (merge n.kept.table c) y)) (keeps y) (h.known y e upto a));
  rows = λ y e f among. by_row y e f (among_merge n.kept.table c f among);
  grows = λ f k. merge_keeps n.kept.table c f (h.grows f k);
  answered = h.answered;
  acked = λ z e upto a. before_weaker (log_of w z) upto (Knows n.kept.table) (Knows (merge n.kept.table c)) (λ f k. merge_keeps n.kept.table c f k) (h.acked z e upto a);
} where
  keeps : Grow (table_with w x n.kept.table) (table_with w x (merge n.kept.table c))
  keeps = now_grows w x n (with_kept n (entered n.kept c)) (λ f k. merge_keeps n.kept.table c f k)

  by_row : (y : ℕ) → n.kept.mode ≡ modes.Joined y → (f : Cert) → IsAmong f n.kept.table ⊎ (c ≡ f) → Knows (table_with w x (merge n.kept.table c) y) f ⊎ IsAmong f (noted n.kept.mode n.kept.log c).waiting
  by_row y e f (inl old) = ⊎_elim (λ k. inl (keeps y f k)) (λ waits. inr (among_noted n.kept.mode y n.kept.log c f e (inl waits))) (h.rows y e f old)
  by_row y e f (inr new) = inr (among_noted n.kept.mode y n.kept.log c f e (inr new))

-- the log is acknowledged up to a place, and the parent knows all facts before it
and_acked : (w : World) (x : ℕ) (n : Control) (ms : List Message) (p place : ℕ) (r : Rank) (xs : List ℕ)
    → HasSent w x p (bodies.CheckAck n.kept.seq place r xs) → n.kept.mode ≡ modes.Joined p → is_ahead n.kept.log place ≡ true
    → IsInSession w x n ms → IsInSession w x (with_kept n (record n.kept { log = ack n.kept.log place })) ms
and_acked w x n ms p place r xs sent joined ahead h = record {
  me = h.me;
  own = h.own;
  whole = whole_ack n.kept.log place ahead h.whole;
  numbered = h.numbered;
  silent = h.silent;
  tells = λ y e upto certs a. before_ack n.kept.log place ahead upto (IsToldIn (table_with w x n.kept.table y) certs) (h.tells y e upto certs a);
  known = λ y e upto a. before_ack n.kept.log place ahead upto (Knows (table_with w x n.kept.table y)) (h.known y e upto a);
  rows = λ y e f among. ⊎_elim (λ k. inl k) (λ waits. by_place y e f (among_ack n.kept.log place ahead f waits)) (h.rows y e f among);
  grows = h.grows;
  answered = h.answered;
  acked = h.acked;
} where
  by_place : (y : ℕ) → n.kept.mode ≡ modes.Joined y → (f : Cert) → IsAmong f (before_place n.kept.log place) ⊎ IsAmong f (ack n.kept.log place).waiting
      → Knows (table_with w x n.kept.table y) f ⊎ IsAmong f (ack n.kept.log place).waiting
  by_place y e f (inl stood) =
      let parent : p ≡ y = cc (joined, e) in
      inl ((h.known y e place (inl (r, xs, subst (λ (q : ℕ). HasSent w x q (bodies.CheckAck n.kept.seq place r xs)) parent sent))).1 f stood)
  by_place y e f (inr waits) = inr waits

-- the parent is lost and another node is asked or none, so the log is empty
and_parted : (w : World) (x : ℕ) (n : Control) (ms : List Message) (seq : ℕ) (mode : Mode)
    → n.kept.seq ≤ seq → ((p : ℕ) → mode ≡ modes.Joined p → ⊥) → ((p : ℕ) → mode ≡ modes.Asking p → n.kept.seq < seq)
    → IsInSession w x n ms → Session w x n.me seq mode n.kept.table empty_log ms
and_parted w x n ms seq mode most apart asking h = record {
  me = h.me;
  own = h.own;
  whole = omega arith;
  numbered = λ y s upto certs a. let below = h.numbered y s upto certs a in omega (arith, below, most);
  silent = λ p e y upto certs a. let below = h.numbered y seq upto certs a in let above = asking p e in absurd (omega (arith, below, above));
  tells = λ y e. absurd (apart y e);
  known = λ y e. absurd (apart y e);
  rows = λ y e. absurd (apart y e);
  grows = h.grows;
  answered = h.answered;
  acked = h.acked;
}

-- the node that asked becomes a child, and its whole table waits
and_joined : (w : World) (x : ℕ) (n : Control) (ms : List Message) (p : ℕ) → n.kept.mode ≡ modes.Asking p → SessionsHold w → IsInSession w x n ms
    → Session w x n.me n.kept.seq (modes.Joined p) n.kept.table (begun_with n.kept.table) ms
and_joined w x n ms p asking holds h = record {
  me = h.me;
  own = h.own;
  whole = omega arith;
  numbered = h.numbered;
  silent = λ q e. absurd cc;
  tells = λ y e upto certs a. absurd (h.silent p asking y upto certs a);
  known = λ y e upto a. absurd (unanswered y upto a);
  rows = λ y e f among. inr among;
  grows = h.grows;
  answered = h.answered;
  acked = h.acked;
} where
  unanswered : (y upto : ℕ) → HasAcknowledgedNow w ms y x n.kept.seq upto → ⊥
  unanswered y upto (inl old) = let k = holds.answered y x n.kept.seq upto old in h.silent p asking y upto k.0 (inl k.1)
  unanswered y upto (inr new) = let k = h.answered y x n.kept.seq upto new in h.silent p asking y upto k.0 (inl k.1)

-- the sent messages are lost
and_dropped : (w : World) (x : ℕ) (n : Control) (ms : List Message) → IsInSession w x n ms → IsInSession w x n []
and_dropped w x n ms h = record {
  me = h.me;
  own = tt;
  whole = h.whole;
  numbered = λ y s upto certs a. h.numbered y s upto certs (check_in y s upto certs a);
  silent = λ p e y upto certs a. h.silent p e y upto certs (check_in y n.kept.seq upto certs a);
  tells = λ y e upto certs a. h.tells y e upto certs (check_in y n.kept.seq upto certs a);
  known = λ y e upto a. h.known y e upto (acknowledgement y upto a);
  rows = h.rows;
  grows = h.grows;
  answered = λ y z s upto a. absurd (a.2);
  acked = λ z e upto a. absurd (a.2);
} where
  check_in : (y s upto : ℕ) (certs : List Cert) → HasCheckedInNow w [] x y s upto certs → HasCheckedInNow w ms x y s upto certs
  check_in y s upto certs (inl old) = inl old
  check_in y s upto certs (inr none) = absurd (none.3)

  acknowledgement : (y upto : ℕ) → HasAcknowledgedNow w [] y x n.kept.seq upto → HasAcknowledgedNow w ms y x n.kept.seq upto
  acknowledgement y upto (inl old) = inl old
  acknowledgement y upto (inr none) = absurd (none.2)

-- each small change keeps the laws
pub in_session : (w : World) (x : ℕ) → SessionsHold w → IsMachine (HasSent w x) (IsInSession w x)
in_session w x holds = record {
  soft = λ n ms s h. h;
  lists = λ n ms leases rates counts h. h;
  aside = λ n ms ancestors measures h. h;
  falls = λ n ms h. and_parted w x n ms n.kept.seq modes.Idle (omega arith) (λ p e. cc) (λ p e. absurd cc) h;
  asks = λ n ms p unspent h. and_parted w x n ms (n.kept.seq + 1) (modes.Asking p) (omega arith) (λ q e. cc) (λ q e. omega arith) h;
  acts = λ n ms h. and_parted w x n ms n.kept.seq modes.Acting (omega arith) (λ p e. cc) (λ p e. absurd cc) h;
  raises = λ n ms e acting above h. h;
  joins = λ n ms p r xs sent asking shallow before h. and_joined w x n ms p asking holds h;
  ranks = λ n ms p upto r xs sent joined better h. h;
  acks = λ n ms p upto r xs sent joined ahead h. and_acked w x n ms p upto r xs sent joined ahead h;
  adopts = λ n ms y s r sent tree news h. and_entered w x n ms (birth y s n.me) h;
  merges = λ n ms y s upto rate number clients certs c sent among news h. and_entered w x n ms c h;
  ends = λ n ms y e found own news h. and_entered w x n ms (record e { dead = true }) h;
  counts = λ n ms clients more h. h;
  says = λ n ms p b loose h. and_other w x n ms p b (loose_no_check_in b loose) (loose_no_ack b loose) h;
  says_ask = λ n ms p asking h. and_other w x n ms p (bodies.Ask n.kept.seq n.kept.rank) tt tt h;
  says_yes = λ n ms y s r sent tree leased h. and_other w x n ms y (bodies.Yes s (rank_or_last n.kept.rank) n.kept.ancestors) tt tt h;
  says_check_in = λ n ms p rate joined h. and_checked_in w x n ms p rate joined h;
  says_check_ack = λ n ms y s upto rate number clients certs sent all h. and_acknowledged w x n ms y s upto rate number clients certs holds sent all (rank_or_last n.kept.rank) n.kept.ancestors h;
  drops = λ n ms h. and_dropped w x n ms h;
  starts = λ n ms h. h;
}

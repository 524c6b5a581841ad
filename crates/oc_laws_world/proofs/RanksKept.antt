-- The law of ranks: told ranks hold, a parent's rank precedes its child's, and no rank worsens. So parent links form no cycle.
use Rattle.std.proofs.Common.{◌≡◌, ℕ, true, Option, Some, List, [], ◌∷◌, ◌++◌, inl, inr, refl, ap, sym, subst}
use Rattle.std.specs.List.{AllByRecursion, range_with_len}
use Rattle.oc_base.specs.declared.rank.Rank.{Rank}
use Rattle.oc_base.specs.Rank.{Precedes, beneath_of}
use Rattle.oc_model.specs.declared.event.Event.{Event}
use Rattle.oc_model.specs.declared.message.Body.{Body}
use Rattle.oc_model.specs.declared.message.Body.TheVariants as bodies
use Rattle.oc_model.specs.declared.message.Message.{Message}
use Rattle.oc_model.specs.declared.mode.Mode.{Mode}
use Rattle.oc_model.specs.declared.mode.Mode.TheVariants as modes
use Rattle.oc_model.specs.Adopting.{in_tree}
use Rattle.oc_model.specs.Adoption.{rank_or_last}
use Rattle.oc_model.specs.Chains.{AreJoined, HasNoCycle}
use Rattle.oc_model.specs.NextWorld.{next_world}
use Rattle.oc_model.specs.Node.{Header, Control}
use Rattle.oc_model.specs.Numbers.{IsAmong}
use Rattle.oc_model.specs.World.{World, Process, process, mode_of, new_world}
use Rattle.oc_model.proofs.Lists.{all_weaker, all_append}
use Rattle.oc_model.proofs.Processes.{IsNew, process_in-me, process_in-new}
use Rattle.oc_laws_step.proofs.RankOrder.{precedes_irreflexive, precedes_transitive}
use Rattle.oc_laws_world.specs.Ranks.{own_rank, rank_of, IsRanked, IsAtLeast, NoRankWorsens, InTreeAreRanked, IsBacked, ToldRanksHold, ParentsPrecede}
use Rattle.oc_laws_world.specs.Throughout.{Throughout}
use Rattle.oc_laws_world.proofs.Laws.{HasTable, both_laws, tables_law, tables_new, law_event, law_throughout}
use Rattle.oc_laws_world.proofs.Lifts.{control_of, HasSent, AreTables, Becomes, IsLaw, at_each}
use Rattle.oc_laws_world.proofs.Machine.{IsMachine, IsLoose, and_sent}
use Rattle.oc_laws_world.proofs.RankSteps.{Rises, precedes_by, at_least_then, precedes_beneath, rises_itself, rises_read, rises_then, rises_ranked, rises_no_worse, rises_epoch, rises_acting, rises_joined, rises_better}

-- the law of ranks in a world, together with an earlier one
pub record RanksHold (old w : World) : Type 0 where
  pub placed : InTreeAreRanked w
  pub told : ToldRanksHold w
  pub parents : ParentsPrecede w
  pub rise : (x : ℕ) → Rises (own_rank old x) (own_rank w x)

-- a message of a node with this rank tells no better rank
abbrev pub IsBackedBy : Option Rank → Body → Type 0
IsBackedBy own (bodies.Yes seq rank ancestors) = IsRanked own × IsAtLeast (rank_or_last own) rank
IsBackedBy own (bodies.CheckAck seq upto rank ancestors) = IsAtLeast (rank_or_last own) rank
IsBackedBy own body = Unit {0}

-- a message that a rank backs is backed by any rank to which that rose
backed_rises : (a b : Option Rank) → Rises a b → (body : Body) → IsBackedBy a body → IsBackedBy b body
backed_rises a b h (bodies.Yes seq rank ancestors) k = (rises_ranked a b h k.0, at_least_then (rank_or_last b) (rank_or_last a) rank (rises_read a b h) k.1)
backed_rises a b h (bodies.CheckAck seq upto rank ancestors) k = at_least_then (rank_or_last b) (rank_or_last a) rank (rises_read a b h) k
backed_rises a b h body k = tt

abbrev pub IsBackedSend : ℕ → Option Rank → Message → Type 0
IsBackedSend x own m = (m.from ≡ x) × IsBackedBy own m.body

-- the parent in this mode has a rank in the world, which precedes this one
abbrev pub HasParentAbove : World → Mode → Option Rank → Type 0
HasParentAbove w mode own = (y : ℕ) → mode ≡ modes.Joined y → IsRanked (own_rank w y) × Precedes (rank_of w y) (rank_or_last own)

-- the law for the node x in the middle of a change of this world
pub record IsClimbing (w : World) (x : ℕ) (n : Control) (ms : List Message) : Type 0 where
  pub me : n.me ≡ x
  pub rises : Rises (own_rank w x) n.kept.rank
  pub placed : in_tree n.kept.mode ≡ true → IsRanked n.kept.rank
  pub parent : HasParentAbove w n.kept.mode n.kept.rank
  pub sent : AllByRecursion (IsBackedSend x n.kept.rank) ms

-- the messages so far are backed by the risen rank
sent_rise : (x : ℕ) (a b : Option Rank) (ms : List Message) → Rises a b → AllByRecursion (IsBackedSend x a) ms → AllByRecursion (IsBackedSend x b) ms
sent_rise x a b ms h sent = all_weaker (IsBackedSend x a) (IsBackedSend x b) (λ m k. (k.0, backed_rises a b h m.body k.1)) ms sent

-- one more message
and_backed : (w : World) (x : ℕ) (n : Control) (ms : List Message) (p : ℕ) (b : Body) → IsBackedBy n.kept.rank b → IsClimbing w x n ms → IsClimbing w x n (and_sent n ms p b)
and_backed w x n ms p b backed h = record {
  me = h.me;
  rises = h.rises;
  placed = h.placed;
  parent = h.parent;
  sent = all_append (IsBackedSend x n.kept.rank) ms (record { from = n.me; to = p; body = b } ∷ []) h.sent ((h.me, backed), tt);
}

-- a message of which the tree's laws do not speak
loose_backed : (own : Option Rank) (b : Body) → IsLoose b → IsBackedBy own b
loose_backed own (bodies.Yes seq rank ancestors) loose = absurd loose
loose_backed own (bodies.CheckAck seq upto rank ancestors) loose = absurd loose
loose_backed own b loose = tt

-- a sent message is backed in the world
sent_backed : (w : World) → ToldRanksHold w → (m : Message) → IsAmong m w.net → IsBacked w m.from m.body
sent_backed w told m among = by_list w.net told among where
  by_list : (ms : List Message) → AllByRecursion (λ l. IsBacked w l.from l.body) ms → IsAmong m ms → IsBacked w m.from m.body
  by_list (a ∷ rest) all (inl e) = subst (λ (l : Message). IsBacked w l.from l.body) e all.0
  by_list (a ∷ rest) all (inr later) = by_list rest all.1 later
  by_list [] all none = absurd none

-- each small change keeps the law
climbs : (old w : World) (x : ℕ) → RanksHold old w → IsMachine (HasSent w x) (IsClimbing w x)
climbs old w x holds = record {
  soft = λ n ms s h. record { me = h.me; rises = h.rises; placed = h.placed; parent = h.parent; sent = h.sent };
  lists = λ n ms leases rates counts h. record { me = h.me; rises = h.rises; placed = h.placed; parent = h.parent; sent = h.sent };
  aside = λ n ms ancestors measures h. record { me = h.me; rises = h.rises; placed = h.placed; parent = h.parent; sent = h.sent };
  falls = λ n ms h. record { me = h.me; rises = h.rises; placed = λ e. absurd cc; parent = λ y e. absurd cc; sent = h.sent };
  asks = λ n ms p unspent h. record { me = h.me; rises = h.rises; placed = λ e. absurd cc; parent = λ y e. absurd cc; sent = h.sent };
  acts = λ n ms h.
      let up = rises_acting n.kept.rank in
      record {
        me = h.me;
        rises = rises_then (own_rank w x) n.kept.rank (Some _) h.rises up;
        placed = λ e. (_, refl);
        parent = λ y e. absurd cc;
        sent = sent_rise x n.kept.rank (Some _) ms up h.sent;
      };
  raises = λ n ms e acting above h.
      let up = rises_epoch n.kept.rank e above in
      record {
        me = h.me;
        rises = rises_then (own_rank w x) n.kept.rank (Some _) h.rises up;
        placed = λ f. (_, refl);
        parent = λ y f. absurd (cc (acting, f));
        sent = sent_rise x n.kept.rank (Some _) ms up h.sent;
      };
  joins = λ n ms p r xs sent asking shallow before h.
      let up = rises_joined n.kept.rank r shallow before in
      let backed = sent_backed w holds.told (record { from = p; to = x; body = bodies.Yes n.kept.seq r xs }) sent in
      record {
        me = h.me;
        rises = rises_then (own_rank w x) n.kept.rank (Some (beneath_of r)) h.rises up;
        placed = λ e. (beneath_of r, refl);
        parent = λ y e.
            let same : p ≡ y = cc e in
            subst (λ (z : ℕ). IsRanked (own_rank w z) × Precedes (rank_of w z) (beneath_of r)) same
            (backed.0, precedes_by (rank_of w p) r (beneath_of r) backed.1 (precedes_beneath r));
        sent = sent_rise x n.kept.rank (Some (beneath_of r)) ms up h.sent;
      };
  ranks = λ n ms p upto r xs sent joined better h.
      let up = rises_better n.kept.rank r better in
      let backed = sent_backed w holds.told (record { from = p; to = x; body = bodies.CheckAck n.kept.seq upto r xs }) sent in
      record {
        me = h.me;
        rises = rises_then (own_rank w x) n.kept.rank (Some (beneath_of r)) h.rises up;
        placed = λ e. (beneath_of r, refl);
        parent = λ y e.
            let same : p ≡ y = cc (joined, e) in
            ((h.parent y e).0, subst (λ (z : ℕ). Precedes (rank_of w z) (beneath_of r)) same (precedes_by (rank_of w p) r (beneath_of r) backed (precedes_beneath r)));
        sent = sent_rise x n.kept.rank (Some (beneath_of r)) ms up h.sent;
      };
  acks = λ n ms p upto r xs sent joined ahead h. record { me = h.me; rises = h.rises; placed = h.placed; parent = h.parent; sent = h.sent };
  adopts = λ n ms y s r sent tree news h. record { me = h.me; rises = h.rises; placed = h.placed; parent = h.parent; sent = h.sent };
  merges = λ n ms y s upto rate number clients certs c sent among news h. record { me = h.me; rises = h.rises; placed = h.placed; parent = h.parent; sent = h.sent };
  ends = λ n ms y e found own news h. record { me = h.me; rises = h.rises; placed = h.placed; parent = h.parent; sent = h.sent };
  counts = λ n ms clients more h. record { me = h.me; rises = h.rises; placed = h.placed; parent = h.parent; sent = h.sent };
  says = λ n ms p b loose h. and_backed w x n ms p b (loose_backed n.kept.rank b loose) h;
  says_ask = λ n ms p asking h. and_backed w x n ms p (bodies.Ask n.kept.seq n.kept.rank) tt h;
  says_yes = λ n ms y s r sent tree leased h. and_backed w x n ms y (bodies.Yes s (rank_or_last n.kept.rank) n.kept.ancestors) (h.placed tree, inl refl) h;
  says_check_in = λ n ms p rate joined h. and_backed w x n ms p (bodies.CheckIn n.kept.seq _ rate n.kept.number n.kept.clients _) tt h;
  says_check_ack = λ n ms y s upto rate number clients certs sent known h. and_backed w x n ms y (bodies.CheckAck s upto (rank_or_last n.kept.rank) n.kept.ancestors) (inl refl) h;
  drops = λ n ms h. record { me = h.me; rises = h.rises; placed = h.placed; parent = h.parent; sent = tt };
  starts = λ n ms h. record { me = h.me; rises = h.rises; placed = h.placed; parent = h.parent; sent = h.sent };
}

-- the law holds for x before the change
climbing_begins : (old w : World) (x : ℕ) → RanksHold old w → IsClimbing w x (control_of w x) []
climbing_begins old w x holds = record { me = process_in-me w.processes x; rises = rises_itself (own_rank w x); placed = holds.placed x; parent = holds.parents x; sent = tt }

-- the law holds of the world after the change
climbing_ends : (old w v : World) (x : ℕ) (n : Control) (ms : List Message) → RanksHold old w → Becomes w x n ms v → IsClimbing w x n ms → RanksHold old v
climbing_ends old w v x n ms holds becomes h = record {
  placed = at_each w v x n ms becomes (λ y c. in_tree c.kept.mode ≡ true → IsRanked c.kept.rank) h.placed (λ y apart. holds.placed y);
  told = subst (λ (net : List Message). AllByRecursion (λ m. IsBacked v m.from m.body) net) (sym becomes.net)
      (all_append (λ m. IsBacked v m.from m.body) w.net ms
      (all_weaker (λ m. IsBacked w m.from m.body) (λ m. IsBacked v m.from m.body) (λ m k. backed_rises (own_rank w m.from) (own_rank v m.from) (rise m.from) m.body k) w.net holds.told)
      (all_weaker (IsBackedSend x n.kept.rank) (λ m. IsBacked v m.from m.body)
      (λ m k. subst (λ (z : ℕ). IsBacked v z m.body) (sym k.0) (subst (λ (c : Control). IsBackedBy c.kept.rank m.body) (sym becomes.here) k.1)) ms h.sent));
  parents = λ y. above y;
  rise = λ y. rises_then (own_rank old y) (own_rank w y) (own_rank v y) (holds.rise y) (rise y);
} where
  rise : (y : ℕ) → Rises (own_rank w y) (own_rank v y)
  rise = at_each w v x n ms becomes (λ y c. Rises (own_rank w y) c.kept.rank) h.rises (λ y apart. rises_itself (own_rank w y))

  above : (y : ℕ) → HasParentAbove v (control_of v y).kept.mode (control_of v y).kept.rank
  above = at_each w v x n ms becomes (λ y c. HasParentAbove v c.kept.mode c.kept.rank) (λ z e. lifted z n.kept.rank (h.parent z e)) (λ y apart z e. lifted z (own_rank w y) (holds.parents y z e)) where
    lifted : (z : ℕ) (own : Option Rank) → IsRanked (own_rank w z) × Precedes (rank_of w z) (rank_or_last own) → IsRanked (own_rank v z) × Precedes (rank_of v z) (rank_or_last own)
    lifted z own k = (rises_ranked (own_rank w z) (own_rank v z) (rise z) k.0, precedes_by (rank_of v z) (rank_of w z) (rank_or_last own) (rises_read (own_rank w z) (own_rank v z) (rise z)) k.1)

pub ranks_law : (old : World) → IsLaw (RanksHold old) IsClimbing
ranks_law old = record { begins = climbing_begins old; keeps = climbs old; ends = climbing_ends old }

-- the law holds of a world together with itself
ranks_still : (old w : World) → RanksHold old w → RanksHold w w
ranks_still old w holds = record { placed = holds.placed; told = holds.told; parents = holds.parents; rise = λ x. rises_itself (own_rank w x) }

-- in a new world no node is in the tree, and nothing was told
pub ranks_new : (h : Header) → RanksHold (new_world h) (new_world h)
ranks_new h = record {
  placed = λ x e. absurd (cc (new_mode x, e));
  told = tt;
  parents = λ x y e. absurd (cc (new_mode x, e));
  rise = λ x. rises_itself (own_rank (new_world h) x);
} where
  new_mode : (x : ℕ) → mode_of (new_world h) x ≡ modes.Idle
  new_mode x = let new : IsNew x (process (new_world h) x) = process_in-new h (range_with_len 1 h.nodes) x in ap (λ (p : Process). p.node.control.kept.mode) new.1

-- no event worsens a rank, where the law holds together with any earlier world
worsens_none : (old w : World) → AreTables w → RanksHold old w → (e : Event) → NoRankWorsens w e
worsens_none old w tables holds e x =
    rises_no_worse (own_rank w x) (own_rank (next_world w e) x) ((law_event (RanksHold w) IsClimbing (ranks_law w) w e tables (ranks_still old w holds)).rise x)

-- no event worsens a rank in any world on the way
pub no_rank_worsens_throughout : (h : Header) (events : List Event) → Throughout (λ w. (e : Event) → NoRankWorsens w e) (new_world h) events
no_rank_worsens_throughout h events =
    law_throughout (λ w. AreTables w × RanksHold (new_world h) w) (λ w x n ms. HasTable w x n ms × IsClimbing w x n ms)
    (both_laws AreTables (RanksHold (new_world h)) HasTable IsClimbing tables_law (ranks_law (new_world h)))
    (λ w. (e : Event) → NoRankWorsens w e) (λ w holds. worsens_none (new_world h) w holds.0 holds.1) h events (tables_new h, ranks_new h)

-- No cycles

-- along joined nodes the last node's rank precedes the first node's
joined_precede : (w : World) → ParentsPrecede w → (between : List ℕ) (x y : ℕ) → AreJoined w (x ∷ between ++ y ∷ []) → Precedes (rank_of w y) (rank_of w x)
joined_precede w parents [] x y joined = (parents x y joined.0).1
joined_precede w parents (z ∷ zs) x y joined = precedes_transitive (rank_of w y) (rank_of w z) (rank_of w x) (joined_precede w parents zs z y joined.1) (parents x z joined.0).1

-- joined nodes form no cycle
pub no_cycle : (w : World) → ParentsPrecede w → HasNoCycle w
no_cycle w parents y between joined = precedes_irreflexive (rank_of w y) (joined_precede w parents between y y joined)

-- a consequence of the law holds of each world on the way
pub ranks_throughout : (Q : World → Type 0) → ((old w : World) → RanksHold old w → Q w) → (h : Header) (events : List Event) → Throughout Q (new_world h) events
ranks_throughout Q follows h events =
    law_throughout (RanksHold (new_world h)) IsClimbing (ranks_law (new_world h)) Q (follows (new_world h)) h events (ranks_new h)

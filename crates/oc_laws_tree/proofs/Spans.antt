-- The ids of the nodes of a world: they are 1 up to the number of nodes, and each node that a table tells of has one.
use Rattle.std.proofs.Common.{◌≡◌, ℕ, zero, suc, ◌+◌, ◌≤◌, ◌<◌, List, [], ◌∷◌, ◌⊎◌, inl, inr, ap, sym, subst, ◌∙◌, arith}
use Rattle.std.specs.List.{AllByRecursion, range_with_len}
use Rattle.std.proofs.lemmas.Bool.{cases_order}
use Rattle.oc_base.specs.declared.cert.Cert.{Cert}
use Rattle.oc_model.specs.declared.message.Body.{Body}
use Rattle.oc_model.specs.declared.message.Body.TheVariants as bodies
use Rattle.oc_model.specs.declared.message.Message.{Message}
use Rattle.oc_model.specs.declared.mode.Mode.TheVariants as modes
use Rattle.oc_model.specs.Chains.{IsUp}
use Rattle.oc_model.specs.Adoption.{rank_or_last}
use Rattle.oc_model.specs.ChangeLog.{next_certs, place_after}
use Rattle.oc_model.specs.ClaimsTree.{table_of, seq_of}
use Rattle.oc_model.specs.Node.{Header, Control, new_node}
use Rattle.oc_model.specs.Numbers.{IsAmong}
use Rattle.oc_model.specs.World.{World, Process, down, absent, process, process_in, ids, new_world}
use Rattle.oc_model.specs.WorldBounds.{IsOneOf, IsDistinct}
use Rattle.oc_model.proofs.GoesOn.{ids-always}
use Rattle.oc_model.proofs.Places.{process_in-outside}
use Rattle.oc_model.proofs.Processes.{process_in-new, IsNew, up_in}
use Rattle.oc_model.proofs.Lists.{all_append}
use Rattle.oc_laws_world.proofs.Lifts.{control_of, HasSent, IsLaw, at_each}
use Rattle.oc_laws_world.proofs.Listed.{all_among}
use Rattle.oc_laws_world.proofs.Machine.{IsMachine, IsLoose, and_sent}
use Rattle.oc_laws_world.proofs.NumbersKept.{IsAskedFact}
use Rattle.oc_laws_world.proofs.Present.{in_range, new_found}
use Rattle.oc_laws_tree.proofs.Together.{AllHold}
use Rattle.oc_laws_tree.proofs.Points.{law_after, all_after}
use Rattle.oc_laws_tree.proofs.Reached.{Reached, of_reached}

-- Ranges

pub of_range : (b n x : ℕ) → IsOneOf x (range_with_len b n) → (b ≤ x) × (x < b + n)
of_range b zero x one = absurd one
of_range b (suc n) x (inl e) = (omega (arith, e), omega (arith, e))
of_range b (suc n) x (inr later) = let rest = of_range (b + 1) n x later in (omega (arith, rest.0), omega (arith, rest.1))

range_distinct : (b n : ℕ) → IsDistinct (range_with_len b n)
range_distinct b zero = tt
range_distinct b (suc n) = (λ one. let low = of_range (b + 1) n b one in absurd (omega (arith, low.0)), range_distinct (b + 1) n)

-- The ids

-- a node of this world
pub record IsId (h : Header) (x : ℕ) : Type 0 where
  pub least : 1 ≤ x
  pub most : x ≤ h.nodes

pub ids_reached : (h : Header) (w : World) → Reached h w → ids w ≡ range_with_len 1 h.nodes
ids_reached h w reached = ap ids reached.is ∙ ids-always h reached.events

pub ids_distinct : (h : Header) (w : World) → Reached h w → IsDistinct (ids w)
ids_distinct h w reached = subst IsDistinct (sym (ids_reached h w reached)) (range_distinct 1 h.nodes)

pub id_in : (h : Header) (w : World) (x : ℕ) → Reached h w → IsOneOf x (ids w) → IsId h x
id_in h w x reached one =
    let both = of_range 1 h.nodes x (subst (IsOneOf x) (ids_reached h w reached) one) in
    record { least = both.0; most = omega (arith, both.1) }

-- a node that is up has an id
pub up_id : (h : Header) (w : World) (x : ℕ) → Reached h w → IsUp w x → IsId h x
up_id h w x reached up = id_in h w x reached (up_in w.processes x up)

-- a node that has asked has an id
pub asked_id : (h : Header) (w : World) (x : ℕ) → Reached h w → 1 ≤ seq_of w x → IsId h x
asked_id h w x reached asked = by_least (cases_order x 0) where
  outside : ((k : ℕ) → k < h.nodes → 1 + k ≡ x → ⊥) → ⊥
  outside out =
      let none : process_in w.processes x ≡ absent x = process_in-outside 1 h.nodes w.processes x (ids_reached h w reached) out in
      let zero_asks : seq_of w x ≡ 0 = ap (λ (p : Process). p.node.control.kept.seq) none in
      absurd (omega (arith, zero_asks))

  by_most : 1 ≤ x → (x ≡ h.nodes) ⊎ ((x < h.nodes) ⊎ (h.nodes < x)) → IsId h x
  by_most least (inl e) = record { least = least; most = omega (arith, e) }
  by_most least (inr (inl less)) = record { least = least; most = omega (arith, less) }
  by_most least (inr (inr more)) = absurd (outside (λ k within e. omega (arith, within, e, more)))

  by_least : (x ≡ 0) ⊎ ((x < 0) ⊎ (0 < x)) → IsId h x
  by_least (inl e) = absurd (outside (λ k within f. omega (arith, e, f)))
  by_least (inr (inl less)) = absurd (omega (arith, less))
  by_least (inr (inr more)) = by_most more (cases_order x h.nodes)

-- Each node knows the number of nodes and the length of the chain

abbrev IsAmongThem : Header → ℕ → Control → Type 0
IsAmongThem h x n = IsId h x → (n.nodes ≡ h.nodes) × (n.chain ≡ h.chain)

abbrev AreAmongThem : Header → World → Type 0
AreAmongThem h w = (x : ℕ) → IsAmongThem h x (control_of w x)

among_kept : (h : Header) (w : World) (x : ℕ) → IsMachine (HasSent w x) (λ n ms. IsAmongThem h x n)
among_kept h w x = record {
  soft = λ n ms s h. h;
  lists = λ n ms leases rates counts h. h;
  aside = λ n ms ancestors measures h. h;
  falls = λ n ms h. h;
  asks = λ n ms p e1 h. h;
  acts = λ n ms h. h;
  raises = λ n ms e e1 e2 h. h;
  joins = λ n ms p r xs e1 e2 e3 e4 h. h;
  ranks = λ n ms p upto r xs e1 e2 e3 h. h;
  acks = λ n ms p upto r xs e1 e2 e3 h. h;
  adopts = λ n ms x s r e1 e2 e3 h. h;
  merges = λ n ms x s upto rate number clients certs c e1 e2 e3 h. h;
  ends = λ n ms x k e1 e2 e3 h. h;
  counts = λ n ms clients e1 h. h;
  says = λ n ms p b e1 h. h;
  says_ask = λ n ms p e1 h. h;
  says_yes = λ n ms x s r e1 e2 e3 h. h;
  says_check_in = λ n ms p rate e1 h. h;
  says_check_ack = λ n ms x s upto rate number clients certs e1 e2 h. h;
  drops = λ n ms h. h;
  starts = λ n ms h. h;
}

among_law : (h : Header) → IsLaw (AreAmongThem h) (λ w x n ms. IsAmongThem h x n)
among_law h = record {
  begins = λ w x holds. holds x;
  keeps = λ w x holds. among_kept h w x;
  ends = λ w v x n ms holds becomes here. at_each w v x n ms becomes (IsAmongThem h) here (λ y apart. holds y);
}

among_new : (h : Header) → AreAmongThem h (new_world h)
among_new h x is =
    let found : process (new_world h) x ≡ down (new_node h x) = new_found h (range_with_len 1 h.nodes) x (in_range 1 h.nodes x is.least (omega (arith, is.most))) in
    (ap (λ (p : Process). p.node.control.nodes) found, ap (λ (p : Process). p.node.control.chain) found)

-- each node of a world that is reached knows them
pub among_them : (h : Header) (w : World) (x : ℕ) → Reached h w → IsId h x → ((control_of w x).nodes ≡ h.nodes) × ((control_of w x).chain ≡ h.chain)
among_them h w x reached is = subst (λ (v : World). AreAmongThem h v) (sym reached.is) (law_after (AreAmongThem h) (λ w x n ms. IsAmongThem h x n) (among_law h) h reached.events (among_new h)) x is

-- Asks are numbered from 1

abbrev HasNumber : Control → Type 0
HasNumber n = (p : ℕ) → n.kept.mode ≡ modes.Asking p → 1 ≤ n.kept.seq

abbrev IsNumbered : Body → Type 0
IsNumbered (bodies.Ask seq rank) = 1 ≤ seq
IsNumbered body = Unit {0}

record AreNumbered (w : World) : Type 0 where
  nodes : (x : ℕ) → HasNumber (control_of w x)
  net : AllByRecursion (λ m. IsNumbered m.body) w.net

record IsNumberedNode (w : World) (x : ℕ) (n : Control) (ms : List Message) : Type 0 where
  node : HasNumber n
  sends : AllByRecursion (λ m. IsNumbered m.body) ms

-- a message that is no ask
loose_numbered : (b : Body) → IsLoose b → IsNumbered b
loose_numbered (bodies.Ask seq rank) loose = absurd loose
loose_numbered b loose = tt

and_numbered : (w : World) (x : ℕ) (n : Control) (ms : List Message) (p : ℕ) (b : Body) → IsNumbered b → IsNumberedNode w x n ms → IsNumberedNode w x n (and_sent n ms p b)
and_numbered w x n ms p b numbered h = record {
  node = h.node;
  sends = all_append (λ m. IsNumbered m.body) ms (record { from = n.me; to = p; body = b } ∷ []) h.sends (numbered, tt);
}

numbered_kept : (w : World) (x : ℕ) → IsMachine (HasSent w x) (IsNumberedNode w x)
numbered_kept w x = record {
  soft = λ n ms s h. record { node = h.node; sends = h.sends };
  lists = λ n ms leases rates counts h. record { node = h.node; sends = h.sends };
  aside = λ n ms ancestors measures h. record { node = h.node; sends = h.sends };
  falls = λ n ms h. record { node = λ p e. absurd cc; sends = h.sends };
  asks = λ n ms p e1 h. record { node = λ q e. omega arith; sends = h.sends };
  acts = λ n ms h. record { node = λ p e. absurd cc; sends = h.sends };
  raises = λ n ms e e1 e2 h. record { node = h.node; sends = h.sends };
  joins = λ n ms p r xs e1 e2 e3 e4 h. record { node = λ q e. absurd cc; sends = h.sends };
  ranks = λ n ms p upto r xs e1 e2 e3 h. record { node = h.node; sends = h.sends };
  acks = λ n ms p upto r xs e1 e2 e3 h. record { node = h.node; sends = h.sends };
  adopts = λ n ms x s r e1 e2 e3 h. record { node = h.node; sends = h.sends };
  merges = λ n ms x s upto rate number clients certs c e1 e2 e3 h. record { node = h.node; sends = h.sends };
  ends = λ n ms x k e1 e2 e3 h. record { node = h.node; sends = h.sends };
  counts = λ n ms clients e1 h. record { node = h.node; sends = h.sends };
  says = λ n ms p b e1 h. and_numbered w x n ms p b (loose_numbered b e1) h;
  says_ask = λ n ms p e1 h. and_numbered w x n ms p (bodies.Ask n.kept.seq n.kept.rank) (h.node p e1) h;
  says_yes = λ n ms y s r e1 e2 e3 h. and_numbered w x n ms y (bodies.Yes s (rank_or_last n.kept.rank) n.kept.ancestors) tt h;
  says_check_in = λ n ms p rate e1 h. and_numbered w x n ms p (bodies.CheckIn n.kept.seq (place_after n.kept.log) rate n.kept.number n.kept.clients (next_certs n.kept.log)) tt h;
  says_check_ack = λ n ms y s upto rate number clients certs e1 e2 h. and_numbered w x n ms y (bodies.CheckAck s upto (rank_or_last n.kept.rank) n.kept.ancestors) tt h;
  drops = λ n ms h. record { node = h.node; sends = tt };
  starts = λ n ms h. record { node = h.node; sends = h.sends };
}

numbered_law : IsLaw AreNumbered IsNumberedNode
numbered_law = record {
  begins = λ w x holds. record { node = holds.nodes x; sends = tt };
  keeps = λ w x holds. numbered_kept w x;
  ends = λ w v x n ms holds becomes here. record {
    nodes = at_each w v x n ms becomes (λ y c. HasNumber c) here.node (λ y apart. holds.nodes y);
    net = subst (λ net. AllByRecursion (λ (m : Message). IsNumbered m.body) net) (sym becomes.net) (all_append (λ m. IsNumbered m.body) w.net ms holds.net here.sends);
  };
}

numbered_new : (h : Header) → AreNumbered (new_world h)
numbered_new h = record {
  nodes = λ x. let new : IsNew x (process (new_world h) x) = process_in-new h (range_with_len 1 h.nodes) x in
      subst (λ (p : Process). HasNumber p.node.control) (sym new.1) (λ p e. absurd cc);
  net = tt;
}

-- a node that a table tells of has asked, so it is a node of the world
pub told_id : (h : Header) (w : World) (y : ℕ) (f : Cert) → Reached h w → IsAmong f (table_of w y) → IsId h f.subject
told_id h w y f reached among =
    let all : AllHold w = of_reached AllHold all_after h w reached in
    let numbered : AreNumbered w = of_reached AreNumbered (λ g events. law_after AreNumbered IsNumberedNode numbered_law g events (numbered_new g)) h w reached in
    let asked : IsAskedFact w f = all_among (IsAskedFact w) (table_of w y) f (all.asks.table y) among in
    let sent : Message = record { from = f.subject; to = f.parent; body = bodies.Ask f.seq asked.0 } in
    let some : 1 ≤ f.seq = all_among (λ m. IsNumbered m.body) w.net sent numbered.net asked.1 in
    let bound : f.seq ≤ seq_of w f.subject = all.asks.bound f.subject f.seq f.parent asked in
    asked_id h w f.subject reached (omega (arith, some, bound))

-- All laws of the tree hold together, of every world.
use Rattle.std.proofs.Common.{ℕ, List, inl, inr, refl, ⊎_elim}
use Rattle.oc_model.specs.declared.event.Event.{Event}
use Rattle.oc_model.specs.declared.message.Message.{Message}
use Rattle.oc_model.specs.Node.{Header, Control}
use Rattle.oc_model.specs.World.{World, new_world}
use Rattle.oc_laws_world.specs.Throughout.{Throughout}
use Rattle.oc_laws_world.proofs.Laws.{both_laws, Tabled, tabled_throughout}
use Rattle.oc_laws_world.proofs.Lifts.{IsLaw}
use Rattle.oc_laws_world.proofs.NumbersKept.{NumbersHold, IsCounting as IsAsking, numbers_law, numbers_new, one_peer, numbers_below}
use Rattle.oc_laws_tree.specs.Coverage.{ChildrenAreCovered}
use Rattle.oc_laws_tree.specs.Grants.{FactsAreGranted, YesesAreGranted, ParentsAreGranted}
use Rattle.oc_laws_tree.specs.Sessions.{CheckInsTell, AcksAreKnown}
use Rattle.oc_laws_tree.proofs.CountsKept.{CountsHold, IsCounting, counts_law, counts_new, one_count, zero_counts_none, own_numbers_below}
use Rattle.oc_laws_tree.proofs.GrantsCovered.{fact_covered, grants_covered, yeses_covered, parents_covered}
use Rattle.oc_laws_tree.proofs.GrantsKept.{GrantsHold, IsGranting, grants_law, grants_new, facts_granted}
use Rattle.oc_laws_tree.proofs.SessionsHold.{SessionsHold, IsInSession}
use Rattle.oc_laws_tree.proofs.SessionsKept.{sessions_law, sessions_new}
use Rattle.oc_laws_tree.proofs.SessionsCovered.{CoversKnown, check_ins_tell, acks_known, children_covered}
use Rattle.oc_laws_tree.proofs.TreeHolds.{TreeHolds, CountedTree}

-- the laws of ask numbers, own numbers, grants and sessions
pub record AllHold (w : World) : Type 0 where
  pub asks : NumbersHold w
  pub counts : CountsHold w
  pub grants : GrantsHold w
  pub sessions : SessionsHold w

-- the same as products, each law together with those before it
abbrev Told : World → Type 0
Told w = GrantsHold w × SessionsHold w

abbrev Counted : World → Type 0
Counted w = CountsHold w × Told w

abbrev Asked : World → Type 0
Asked w = NumbersHold w × Counted w

abbrev ToldNode : World → ℕ → Control → List Message → Type 0
ToldNode w x n ms = IsGranting w x n ms × IsInSession w x n ms

abbrev CountedNode : World → ℕ → Control → List Message → Type 0
CountedNode w x n ms = IsCounting w x n ms × ToldNode w x n ms

abbrev AskedNode : World → ℕ → Control → List Message → Type 0
AskedNode w x n ms = IsAsking w x n ms × CountedNode w x n ms

asked_law : IsLaw Asked AskedNode
asked_law =
    both_laws NumbersHold Counted IsAsking CountedNode numbers_law
    (both_laws CountsHold Told IsCounting ToldNode counts_law
    (both_laws GrantsHold SessionsHold IsGranting IsInSession grants_law sessions_law))

asked_new : (h : Header) → Asked (new_world h)
asked_new h = (numbers_new h, (counts_new h, (grants_new h, sessions_new h)))

all_of : (w : World) → Tabled Asked w → AllHold w
all_of w holds = record { asks = holds.1.0; counts = holds.1.1.0; grants = holds.1.1.1.0; sessions = holds.1.1.1.1 }

-- a consequence of the laws holds of every world
pub all_throughout : (Q : World → Type 0) → ((w : World) → AllHold w → Q w) → (h : Header) (events : List Event) → Throughout Q (new_world h) events
all_throughout Q follows h events = tabled_throughout Asked AskedNode asked_law Q (λ w holds. follows w (all_of w holds)) h events (asked_new h)

-- Consequences for the tree

-- the laws by which the listings are explained
pub tree_holds : (w : World) → AllHold w → TreeHolds w
tree_holds w holds = record {
  peers = one_peer w holds.asks;
  asks = numbers_below w holds.asks;
  granted = facts_granted w holds.grants;
  told = λ x y f joined among. ⊎_elim (λ known. inl known) (λ waits. inr (f, waits, refl)) (holds.sessions.rows x y f joined among);
}

pub counted_tree : (w : World) → AllHold w → CountedTree w
counted_tree w holds = record { tree = tree_holds w holds; counts = one_count w holds.counts; numbers = own_numbers_below w holds.counts }

-- a known fact that is anywhere is covered
covers : (w : World) → AllHold w → CoversKnown w
covers w holds = fact_covered w (one_peer w holds.asks) (one_count w holds.counts)

-- each law of known facts is one of covered facts
pub all_grants_covered : (w : World) → AllHold w → FactsAreGranted w
all_grants_covered w holds = grants_covered w (one_peer w holds.asks) (one_count w holds.counts) holds.grants

pub all_yeses_covered : (w : World) → AllHold w → YesesAreGranted w
all_yeses_covered w holds = yeses_covered w holds.asks (zero_counts_none w holds.counts) holds.grants

pub all_parents_covered : (w : World) → AllHold w → ParentsAreGranted w
all_parents_covered w holds = parents_covered w (one_peer w holds.asks) (zero_counts_none w holds.counts) holds.grants

pub all_check_ins_tell : (w : World) → AllHold w → CheckInsTell w
all_check_ins_tell w holds = check_ins_tell w (covers w holds) holds.sessions

pub all_acks_known : (w : World) → AllHold w → AcksAreKnown w
all_acks_known w holds = acks_known w (covers w holds) holds.sessions

pub all_children_covered : (w : World) → AllHold w → ChildrenAreCovered w
all_children_covered w holds = children_covered w (covers w holds) holds.sessions

-- How the next line of a node is taken.
use Rattle.std.proofs.Common.{◌≡◌, ℕ, zero, suc, true, Some, None, Result, Ok, Err, List, [], ◌∷◌, ◌++◌, slice_get, inl, inr, refl, ap, sym, subst, OnOk}
use Rattle.oc_model.specs.declared.event.Act.TheVariants.{At}
use Rattle.oc_model.specs.declared.event.Event.{Event}
use Rattle.oc_model.specs.declared.event.Event.TheVariants.{Do}
use Rattle.oc_model.specs.declared.input.Input.{Input}
use Rattle.oc_model.specs.declared.input.Input.TheVariants.{Delivered}
use Rattle.oc_model.specs.declared.message.Message.{Message}
use Rattle.oc_model.specs.Lawful.{IsGiven}
use Rattle.oc_model.specs.NextWorld.{next_world}
use Rattle.oc_model.specs.Numbers.{IsAmong}
use Rattle.oc_model.specs.World.{World, is_up, message_at}
use Rattle.oc_model.specs.Node.{Node}
use Rattle.oc_wire.specs.declared.fault.WireFault.{WireFault}
use Rattle.oc_wire.specs.declared.fault.WireFault.TheVariants as faults
use Rattle.oc_wire.specs.MessageReading.{Gives, decoded}
use Rattle.oc_laws_world.specs.Merges.{AreEventsOf, Takes}
use Rattle.oc_laws_world.proofs.MergeLists.{place_of}
use Rattle.oc_merge.specs.declared.told.Told.{Told}
use Rattle.oc_merge.specs.declared.told.Told.TheVariants.{Came, Took}
use Rattle.oc_merge.specs.declared.told.ToldLine.{ToldLine}
use Rattle.oc_merge.specs.Heads.{IsNumberFor, IsTaken, IsWay}
use Rattle.oc_merge.specs.declared.way.Way.TheVariants as ways
use Rattle.oc_merge.specs.Recorded.{entry_of, message_of, message_or_none, no_message}

-- bytes that are no message
pub strange_bytes : (nodes : ℕ) (bytes : List ℕ) (fault : WireFault) → Gives (Err fault) (decoded nodes bytes) → (fault ≡ faults.Memory → ⊥) → message_of nodes bytes ≡ no_message
strange_bytes nodes bytes faults.Memory gives other = absurd (other refl)
strange_bytes nodes bytes faults.Stranger gives other = ap message_or_none gives
strange_bytes nodes bytes (faults.Kind code) gives other = ap message_or_none gives
strange_bytes nodes bytes faults.Short gives other = ap message_or_none gives
strange_bytes nodes bytes faults.Value gives other = ap message_or_none gives
strange_bytes nodes bytes faults.Trailing gives other = ap message_or_none gives

-- a message that has a place is among all, and the other way round
pub among_at : (net : List Message) (k : ℕ) (m : Message) → slice_get net k ≡ Some m → IsAmong m net
among_at [] k m at = absurd (cc at)
among_at (n ∷ ns) zero m at = inl (cc at)
among_at (n ∷ ns) (suc k) m at = inr (among_at ns k m at)

pub sent_at : (net : List Message) (k : ℕ) (m : Message) → message_at net k ≡ Some m → IsAmong m net
sent_at net zero m at = absurd (cc at)
sent_at net (suc k) m at = among_at net k m at

pub unsent : (net : List Message) (x : ℕ) (m : Message) → IsNumberFor net x m None → m.to ≡ x → IsAmong m net → ⊥
unsent net x m none to among =
    let found = place_of m net among in
    none to (suc found.0) found.1

-- Events of a line

-- an input that is no message
events_of_input : (w : World) (nodes x : ℕ) (i : Input) → IsGiven nodes x i → AreEventsOf w x (Takes i) (Do (At x i) ∷ [])
events_of_input w nodes x (Delivered m) lawful = absurd lawful
events_of_input w nodes x i lawful = refl

pub taken_input : (nodes : ℕ) (w v : World) (l : ToldLine) (i : Input) (before after : List Event) → l.told ≡ Took i → IsGiven nodes l.node i
    → after ≡ before ++ Do (At l.node i) ∷ [] → v ≡ next_world w (Do (At l.node i)) → IsTaken nodes w l v before after
taken_input nodes w v l i before after told lawful behind leads = record {
  events = Do (At l.node i) ∷ [];
  of_line = subst (λ (t : Told). AreEventsOf w l.node (entry_of nodes t) (Do (At l.node i) ∷ [])) (sym told) (events_of_input w nodes l.node i lawful);
  least = (tt, tt);
  behind = behind;
  leads = leads;
}

-- A line that comes

-- the way of a message, by its number
pub came_way : (digest : Node → List ℕ) (nodes x : ℕ) (w : World) (bytes : List ℕ) (k : ℕ) → is_up w x ≡ true → IsNumberFor w.net x (message_of nodes bytes) (Some k) → IsWay digest nodes w x (Came bytes) (Some (ways.Number k))
came_way digest nodes x w bytes k up number = ((up, number.0, sent_at w.net k (message_of nodes bytes) number.1.0), number.1)

pub came_none : (digest : Node → List ℕ) (nodes x : ℕ) (w : World) (bytes : List ℕ) → IsNumberFor w.net x (message_of nodes bytes) None → IsWay digest nodes w x (Came bytes) None
came_none digest nodes x w bytes none = λ can. unsent w.net x (message_of nodes bytes) none can.1 can.2

-- two facts of one answer
pub both_ok : {X E P Q R : Type 0} (r : Result X E) → OnOk r P → OnOk r Q → (P → Q → R) → OnOk r R
both_ok (Ok x) p q f = f p q
both_ok (Err e) p q f = tt

-- an input that a schedule gives is no message
pub given_other : (nodes x : ℕ) (i : Input) → IsGiven nodes x i → (m : Message) → i ≡ Delivered m → ⊥
given_other nodes x i given m same = subst (IsGiven nodes x) same given

pub if_ok : {X E P Q : Type 0} (r : Result X E) → OnOk r P → (P → Q) → OnOk r Q
if_ok (Ok x) p f = f p
if_ok (Err e) p f = tt

-- What one input at one node makes of a world, and messages that still have to arrive.
use Rattle.std.proofs.Common.{◌≡◌, ℕ, zero, suc, ◌≤◌, ◌<◌, Bool, true, false, not, ◌&&◌, if◌then◌else◌, Option, Some, List, [], ◌∷◌, ◌++◌, ◌⊎◌, inl, inr, length, slice_get, refl, ap, sym, subst, ◌∙◌, ⊎_elim, arith, length-append}
use Rattle.std.proofs.lemmas.Bool.{cases_eq}
use Rattle.std.specs.List.{AllByRecursion}
use Rattle.oc_model.specs.declared.event.Act.TheVariants.{At, Deliver}
use Rattle.oc_model.specs.declared.input.Input.{Input}
use Rattle.oc_model.specs.declared.input.Input.TheVariants.{Tick, Unreachable, Delivered}
use Rattle.oc_model.specs.declared.message.Message.{Message}
use Rattle.oc_model.specs.Node.{Node}
use Rattle.oc_model.specs.Step.{step}
use Rattle.oc_model.specs.World.{World, Process, process, process_in, with_process, is_up, message_at, stepped, delivery, acted, after_act}
use Rattle.oc_model.specs.WorldBounds.{IsOneOf}
use Rattle.oc_model.proofs.Lists.{all_get}
use Rattle.oc_model.proofs.Processes.{process_in-with_up, process_in-with_other}
use Rattle.oc_laws_rest.specs.Rounds.{is_dial, arriving, arrived}
use Rattle.oc_laws_rest.proofs.Forms.{Gives}

-- this node, up
abbrev pub up_as : Node → Process
up_as n = record { node = n; up = true }

-- x is up, and is this node
abbrev pub Is : World → ℕ → Node → Type 0
Is w x n = process w x ≡ up_as n

-- x is this node now, and has sent these messages; all others are as they were
pub record Turned (w : World) (x : ℕ) (n : Node) (ms : List Message) (v : World) : Type 0 where
  pub here : Is v x n
  pub others : (y : ℕ) → (x ≡ y → ⊥) → process v y ≡ process w y
  pub net : v.net ≡ w.net ++ ms

pub turned : (w : World) (x : ℕ) (i : Input) (n m : Node) (ms : List Message) → Is w x n → m.control.me ≡ x → Gives n i m ms → Turned w x m ms (acted w (Some (record { at = x; input = i })))
turned w x i n m ms is me gives = subst (Turned w x m ms) (sym goes) record {
  here = ap (λ (k : Node). process_in (with_process w.processes (up_as k)) x) gives.node ∙ found;
  others = λ y apart.
      ap (λ (k : Node). process_in (with_process w.processes (up_as k)) y) gives.node ∙ process_in-with_other w.processes (up_as m) y (λ e. apart (sym me ∙ e));
  net = ap (λ (sent : List Message). w.net ++ sent) gives.sends;
} where
  goes : acted w (Some (record { at = x; input = i })) ≡ stepped w i (step n i)
  goes = ap (λ (p : Process). if p.up then stepped w i (step p.node i) else w) is

  found : process_in (with_process w.processes (up_as m)) x ≡ up_as m
  found =
      subst (λ (y : ℕ). process_in (with_process w.processes (up_as m)) y ≡ up_as m) me
      (process_in-with_up w.processes (up_as m) (subst (λ (y : ℕ). (process_in w.processes y).up ≡ true) (sym me) (ap (λ (p : Process). p.up) is)))

-- a tick
pub ticked : (w : World) (x t : ℕ) (n m : Node) (ms : List Message) → Is w x n → m.control.me ≡ x → Gives n (Tick t) m ms → Turned w x m ms (after_act w (At x (Tick t)))
ticked w x t n m ms is me gives = turned w x (Tick t) n m ms is me gives

-- a message to a node that is up is delivered
pub delivered : (w : World) (k : ℕ) (m : Message) → message_at w.net k ≡ Some m → is_up w m.to ≡ true → arrived w k ≡ acted w (Some (record { at = m.to; input = Delivered m }))
delivered w k m found up =
    let whole : is_dial m.body && not (is_up w m.to) ≡ false = ap (λ (b : Bool). is_dial m.body && not b) up ∙ none (is_dial m.body) in
    let act : arriving w k (message_at w.net k) ≡ Deliver k = ap (arriving w k) found ∙ ap (λ (b : Bool). if b then At m.from (Unreachable m.to) else Deliver k) whole in
    ap (after_act w) act ∙ ap (λ (o : Option Message). acted w (delivery o)) found where
      none : (b : Bool) → b && false ≡ false
      none true = refl
      none false = refl

pub taken : (w : World) (k : ℕ) (m : Message) (n n2 : Node) (ms : List Message) → message_at w.net k ≡ Some m → Is w m.to n → n2.control.me ≡ m.to → Gives n (Delivered m) n2 ms
    → Turned w m.to n2 ms (arrived w k)
taken w k m n n2 ms found is me gives =
    subst (Turned w m.to n2 ms) (sym (delivered w k m found (ap (λ (p : Process). p.up) is))) (turned w m.to (Delivered m) n n2 ms is me gives)

-- a dial to a node that is down fails, and its sender is told so
pub failed : (w : World) (k : ℕ) (m : Message) (n n2 : Node) (ms : List Message) → message_at w.net k ≡ Some m → is_dial m.body ≡ true → is_up w m.to ≡ false → Is w m.from n → n2.control.me ≡ m.from
    → Gives n (Unreachable m.to) n2 ms → Turned w m.from n2 ms (arrived w k)
failed w k m n n2 ms found dials down is me gives =
    let both : is_dial m.body && not (is_up w m.to) ≡ true = ap (λ (b : Bool). b && not (is_up w m.to)) dials ∙ ap (λ (b : Bool). true && not b) down in
    let act : arriving w k (message_at w.net k) ≡ At m.from (Unreachable m.to) = ap (arriving w k) found ∙ ap (λ (b : Bool). if b then At m.from (Unreachable m.to) else Deliver k) both in
    subst (Turned w m.from n2 ms) (sym (ap (after_act w) act)) (turned w m.from (Unreachable m.to) n n2 ms is me gives)

-- Messages by their numbers

-- a message keeps its number
get_more : (net ms : List Message) (k : ℕ) (m : Message) → slice_get net k ≡ Some m → slice_get (net ++ ms) k ≡ Some m
get_more [] ms k m e = absurd cc
get_more (n ∷ ns) ms zero m e = e
get_more (n ∷ ns) ms (suc k) m e = get_more ns ms k m e

pub at_more : (net ms : List Message) (k : ℕ) (m : Message) → message_at net k ≡ Some m → message_at (net ++ ms) k ≡ Some m
at_more net ms zero m e = absurd cc
at_more net ms (suc k) m e = get_more net ms k m e

get_next : (net ms : List Message) (m : Message) → slice_get (net ++ m ∷ ms) (length net) ≡ Some m
get_next [] ms m = refl
get_next (n ∷ ns) ms m = get_next ns ms m

-- the first message that is sent gets the next number
pub at_next : (net ms : List Message) (m : Message) → message_at (net ++ m ∷ ms) (suc (length net)) ≡ Some m
at_next net ms m = get_next net ms m

get_some : (net : List Message) (k : ℕ) → k < length net → (m : Message) × (slice_get net k ≡ Some m)
get_some [] k few = absurd (omega arith)
get_some (n ∷ ns) zero few = (n, refl)
get_some (n ∷ ns) (suc k) few = get_some ns k (omega arith)

pub at_some : (net : List Message) (k : ℕ) → 1 ≤ k → k ≤ length net → (m : Message) × (message_at net k ≡ Some m)
at_some net zero some few = absurd (omega (arith, some))
at_some net (suc k) some few = get_some net k (omega (arith, few))

-- what holds of each later message holds of one with such a number
get_after : (P : Message → Type 0) (front new : List Message) (k : ℕ) (m : Message) → length front ≤ k → slice_get (front ++ new) k ≡ Some m → AllByRecursion P new → P m
get_after P [] new k m low e all = all_get P new k m all e
get_after P (f ∷ fs) new zero m low e all = absurd (omega (arith, low))
get_after P (f ∷ fs) new (suc k) m low e all = get_after P fs new k m (omega (arith, low)) e all

pub at_after : (P : Message → Type 0) (front new : List Message) (k : ℕ) (m : Message) → length front < k → message_at (front ++ new) k ≡ Some m → AllByRecursion P new → P m
at_after P front new zero m low e all = absurd cc
at_after P front new (suc k) m low e all = get_after P front new k m (omega (arith, low)) e all

-- Messages that still have to arrive

-- a message like this, past the first `old`, has not arrived
pub record Waits (w : World) (old : ℕ) (done : List ℕ) (P : Message → Type 0) : Type 0 where
  pub number : ℕ
  pub message : Message
  pub new : old < number
  pub sent : number ≤ length w.net
  pub still : IsOneOf number done → ⊥
  pub at : message_at w.net number ≡ Some message
  pub is : P message

-- it still waits after another one arrived, or it was that one
pub waits_on : (w v : World) (old : ℕ) (done : List ℕ) (P : Message → Type 0) (ms : List Message) (k : ℕ) (m : Message) → v.net ≡ w.net ++ ms → message_at w.net k ≡ Some m
    → Waits w old done P → Waits v old (k ∷ done) P ⊎ P m
waits_on w v old done P ms k m net found waits = ⊎_elim here there (cases_eq waits.number k) where
  here : waits.number ≡ k → Waits v old (k ∷ done) P ⊎ P m
  here same =
      let both : Some waits.message ≡ Some m = sym waits.at ∙ (ap (message_at w.net) same ∙ found) in
      let equal : waits.message ≡ m = cc in
      inr (subst P equal waits.is)

  there : (waits.number ≡ k → ⊥) → Waits v old (k ∷ done) P ⊎ P m
  there apart = inl record {
    number = waits.number;
    message = waits.message;
    new = waits.new;
    sent = omega (arith, waits.sent, ap length net, length-append w.net ms);
    still = λ one. ⊎_elim apart waits.still one;
    at = ap (λ (all : List Message). message_at all waits.number) net ∙ at_more w.net ms waits.number waits.message waits.at;
    is = waits.is;
  }

-- it still waits after some messages were sent
pub waits_more : (w v : World) (old : ℕ) (done : List ℕ) (P : Message → Type 0) (ms : List Message) → v.net ≡ w.net ++ ms → Waits w old done P → Waits v old done P
waits_more w v old done P ms net waits = record {
  number = waits.number;
  message = waits.message;
  new = waits.new;
  sent = omega (arith, waits.sent, ap length net, length-append w.net ms);
  still = waits.still;
  at = ap (λ (all : List Message). message_at all waits.number) net ∙ at_more w.net ms waits.number waits.message waits.at;
  is = waits.is;
}

-- these numbers are of messages that were sent
abbrev pub AreSent : World → List ℕ → Type 0
AreSent w done = (k : ℕ) → IsOneOf k done → k ≤ length w.net

-- the first message that was sent waits
pub waits_new : (w v : World) (old : ℕ) (done : List ℕ) (P : Message → Type 0) (m : Message) (ms : List Message) → v.net ≡ w.net ++ m ∷ ms → old ≤ length w.net → AreSent w done → P m → Waits v old done P
waits_new w v old done P m ms net before sent is = record {
  number = suc (length w.net);
  message = m;
  new = omega (arith, before);
  sent = omega (arith, ap length net, length-append w.net (m ∷ ms));
  still = λ one. let low : suc (length w.net) ≤ length w.net = sent (suc (length w.net)) one in absurd (omega (arith, low));
  at = ap (λ (all : List Message). message_at all (suc (length w.net))) net ∙ at_next w.net ms m;
  is = is;
}

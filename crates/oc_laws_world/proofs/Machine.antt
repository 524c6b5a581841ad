-- The fine machine: the small changes of the tree part of one node, of which every step, start and stop is made.
use Rattle.std.proofs.Common.{◌≡◌, ℕ, ◌+◌, ◌<◌, true, false, ◌==◌, nat_lt, Option, Some, List, [], ◌∷◌, ◌++◌}
use Rattle.std.specs.List.{AllByRecursion}
use Rattle.oc_base.specs.declared.cert.Cert.{Cert}
use Rattle.oc_base.specs.declared.rank.Rank.{Rank}
use Rattle.oc_base.specs.Rank.{beneath_of}
use Rattle.oc_model.specs.declared.message.Body.{Body}
use Rattle.oc_model.specs.declared.message.Body.TheVariants as bodies
use Rattle.oc_model.specs.declared.message.Message.{Message}
use Rattle.oc_model.specs.declared.mode.Mode.TheVariants.{Idle, Asking, Joined, Acting}
use Rattle.oc_model.specs.declared.reading.Reading.{Reading}
use Rattle.oc_model.specs.declared.soft.Soft.{Soft}
use Rattle.oc_model.specs.Adopting.{in_tree, birth, has_lease}
use Rattle.oc_model.specs.Adoption.{rank_or_last, precedes_any, is_better}
use Rattle.oc_base.specs.declared.limits.TheConstants.{MAX_DEPTH}
use Rattle.oc_model.specs.Asking.{next_epoch}
use Rattle.oc_model.specs.ChangeLog.{begun_with, ack, is_ahead, next_certs, place_after}
use Rattle.oc_model.specs.Checking.{life}
use Rattle.oc_model.specs.Node.{Control, Durable, empty_log, started_with}
use Rattle.oc_model.specs.Numbers.{number_end, IsAmong}
use Rattle.oc_model.specs.Plan.{Plan}
use Rattle.oc_model.specs.Records.{entered}
use Rattle.oc_model.specs.Table.{newest, is_news}

-- a node with this durable state
abbrev pub with_kept : Control → Durable → Control
with_kept n d = record n { kept = d }

-- a node after a start, which clears the rest of its state
abbrev pub cleared : Control → Control
cleared n = started_with (record { nodes = n.nodes; chain = n.chain; chunk = n.chunk; areas = n.areas }) n.me n.kept

-- the sent messages, and one more of the node
abbrev pub and_sent : Control → List Message → ℕ → Body → List Message
and_sent n ms p b = ms ++ record { from = n.me; to = p; body = b } ∷ []

-- a message that no law on the tree speaks of
abbrev pub IsLoose : Body → Type 0
IsLoose (bodies.Ask seq rank) = ⊥
IsLoose (bodies.Yes seq rank ancestors) = ⊥
IsLoose (bodies.CheckIn seq upto rate number clients certs) = ⊥
IsLoose (bodies.CheckAck seq upto rank ancestors) = ⊥
IsLoose body = Unit {0}

-- a property P of a node and of its sent messages that each small change keeps; `came p b` says that p sent the node the body
-- b. The receivers of messages and the node that is asked may be any
pub record IsMachine (came : ℕ → Body → Type 0) (P : Control → List Message → Type 0) : Type 0 where
  -- the cleared part of a node, and the durable parts of which no law on the tree speaks
  pub soft : (n : Control) (ms : List Message) (s : Soft) → P n ms → P (record n { soft = s }) ms
  pub lists : (n : Control) (ms : List Message) (leases : List (Option ℕ)) (rates counts : List ℕ) → P n ms → P (record n { leases = leases; rates = rates; counts = counts }) ms
  pub aside : (n : Control) (ms : List Message) (ancestors : List ℕ) (measures : List Reading) → P n ms → P (with_kept n (record n.kept { ancestors = ancestors; measures = measures })) ms
  -- modes and ranks: the parent is lost, a node is asked, the node becomes root, a root's epoch rises, the node joins, a better
  -- rank is taken
  pub falls : (n : Control) (ms : List Message) → P n ms → P (with_kept n (record n.kept { mode = Idle; log = empty_log })) ms
  pub asks : (n : Control) (ms : List Message) (p : ℕ) → (n.kept.seq == number_end) ≡ false → P n ms
      → P (with_kept n (record n.kept { seq = n.kept.seq + 1; mode = Asking p; log = empty_log })) ms
  pub acts : (n : Control) (ms : List Message) → P n ms
      → P (with_kept n (record n.kept { mode = Acting; log = empty_log; ancestors = []; rank = Some (record { epoch = next_epoch (rank_or_last n.kept.rank); depth = 0 }) })) ms
  pub raises : (n : Control) (ms : List Message) (e : ℕ) → n.kept.mode ≡ Acting → (rank_or_last n.kept.rank).epoch < e → P n ms
      → P (with_kept n (record n.kept { rank = Some (record { epoch = e; depth = 0 }) })) ms
  pub joins : (n : Control) (ms : List Message) (p : ℕ) (r : Rank) (xs : List ℕ) → came p (bodies.Yes n.kept.seq r xs) → n.kept.mode ≡ Asking p → nat_lt r.depth MAX_DEPTH ≡ true → precedes_any r n.kept.rank ≡ true
      → P n ms → P (with_kept n (record n.kept { mode = Joined p; rank = Some (beneath_of r); log = begun_with n.kept.table })) ms
  pub ranks : (n : Control) (ms : List Message) (p upto : ℕ) (r : Rank) (xs : List ℕ) → came p (bodies.CheckAck n.kept.seq upto r xs) → n.kept.mode ≡ Joined p → is_better n.kept.rank r ≡ true
      → P n ms → P (with_kept n (record n.kept { rank = Some (beneath_of r) })) ms
  -- the log, the table and the own count: an acknowledgement, the lease of an asker, the certificates of a check-in, the end of
  -- a lease, and the count of clients
  pub acks : (n : Control) (ms : List Message) (p upto : ℕ) (r : Rank) (xs : List ℕ) → came p (bodies.CheckAck n.kept.seq upto r xs) → n.kept.mode ≡ Joined p → is_ahead n.kept.log upto ≡ true
      → P n ms → P (with_kept n (record n.kept { log = ack n.kept.log upto })) ms
  pub adopts : (n : Control) (ms : List Message) (x s : ℕ) (r : Option Rank) → came x (bodies.Ask s r) → in_tree n.kept.mode ≡ true → is_news n.kept.table (birth x s n.me) ≡ true
      → P n ms → P (with_kept n (entered n.kept (birth x s n.me))) ms
  pub merges : (n : Control) (ms : List Message) (x s upto rate number clients : ℕ) (certs : List Cert) (c : Cert) → came x (bodies.CheckIn s upto rate number clients certs)
      → IsAmong c (life x s n.me number clients ∷ certs) → is_news n.kept.table c ≡ true → P n ms → P (with_kept n (entered n.kept c)) ms
  pub ends : (n : Control) (ms : List Message) (x : ℕ) (k : Cert) → newest n.kept.table x ≡ Some k → k.parent ≡ n.me → is_news n.kept.table (record k { dead = true }) ≡ true
      → P n ms → P (with_kept n (entered n.kept (record k { dead = true }))) ms
  pub counts : (n : Control) (ms : List Message) (clients : ℕ) → nat_lt n.kept.number number_end ≡ true → P n ms → P (with_kept n (record n.kept { number = n.kept.number + 1; clients = clients })) ms
  -- sent messages
  pub says : (n : Control) (ms : List Message) (p : ℕ) (b : Body) → IsLoose b → P n ms → P n (and_sent n ms p b)
  pub says_ask : (n : Control) (ms : List Message) (p : ℕ) → n.kept.mode ≡ Asking p → P n ms → P n (and_sent n ms p (bodies.Ask n.kept.seq n.kept.rank))
  pub says_yes : (n : Control) (ms : List Message) (x s : ℕ) (r : Option Rank) → came x (bodies.Ask s r) → in_tree n.kept.mode ≡ true → has_lease n x s ≡ true
      → P n ms → P n (and_sent n ms x (bodies.Yes s (rank_or_last n.kept.rank) n.kept.ancestors))
  pub says_check_in : (n : Control) (ms : List Message) (p rate : ℕ) → n.kept.mode ≡ Joined p
      → P n ms → P n (and_sent n ms p (bodies.CheckIn n.kept.seq (place_after n.kept.log) rate n.kept.number n.kept.clients (next_certs n.kept.log)))
  pub says_check_ack : (n : Control) (ms : List Message) (x s upto rate number clients : ℕ) (certs : List Cert) → came x (bodies.CheckIn s upto rate number clients certs)
      → AllByRecursion (λ c. is_news n.kept.table c ≡ false) (life x s n.me number clients ∷ certs)
      → P n ms → P n (and_sent n ms x (bodies.CheckAck s upto (rank_or_last n.kept.rank) n.kept.ancestors))
  -- stops, where sent messages are lost, and starts
  pub drops : (n : Control) (ms : List Message) → P n ms → P n []
  pub starts : (n : Control) (ms : List Message) → P n ms → P (cleared n) ms

-- the property P of a step under way
abbrev pub Of : (Control → List Message → Type 0) → Plan → Type 0
Of P o = P o.node o.sends

-- two properties that the small changes keep, together
pub both_kept : (came : ℕ → Body → Type 0) (P Q : Control → List Message → Type 0) → IsMachine came P → IsMachine came Q → IsMachine came (λ n ms. P n ms × Q n ms)
both_kept came P Q first second = record {
  soft = λ n ms s h. (first.soft n ms s h.0, second.soft n ms s h.1);
  lists = λ n ms leases rates counts h. (first.lists n ms leases rates counts h.0, second.lists n ms leases rates counts h.1);
  aside = λ n ms ancestors measures h. (first.aside n ms ancestors measures h.0, second.aside n ms ancestors measures h.1);
  falls = λ n ms h. (first.falls n ms h.0, second.falls n ms h.1);
  asks = λ n ms p e1 h. (first.asks n ms p e1 h.0, second.asks n ms p e1 h.1);
  acts = λ n ms h. (first.acts n ms h.0, second.acts n ms h.1);
  raises = λ n ms e e1 e2 h. (first.raises n ms e e1 e2 h.0, second.raises n ms e e1 e2 h.1);
  joins = λ n ms p r xs e1 e2 e3 e4 h. (first.joins n ms p r xs e1 e2 e3 e4 h.0, second.joins n ms p r xs e1 e2 e3 e4 h.1);
  ranks = λ n ms p upto r xs e1 e2 e3 h. (first.ranks n ms p upto r xs e1 e2 e3 h.0, second.ranks n ms p upto r xs e1 e2 e3 h.1);
  acks = λ n ms p upto r xs e1 e2 e3 h. (first.acks n ms p upto r xs e1 e2 e3 h.0, second.acks n ms p upto r xs e1 e2 e3 h.1);
  adopts = λ n ms x s r e1 e2 e3 h. (first.adopts n ms x s r e1 e2 e3 h.0, second.adopts n ms x s r e1 e2 e3 h.1);
  merges = λ n ms x s upto rate number clients certs c e1 e2 e3 h. (first.merges n ms x s upto rate number clients certs c e1 e2 e3 h.0, second.merges n ms x s upto rate number clients certs c e1 e2 e3 h.1);
  ends = λ n ms x k e1 e2 e3 h. (first.ends n ms x k e1 e2 e3 h.0, second.ends n ms x k e1 e2 e3 h.1);
  counts = λ n ms clients e1 h. (first.counts n ms clients e1 h.0, second.counts n ms clients e1 h.1);
  says = λ n ms p b e1 h. (first.says n ms p b e1 h.0, second.says n ms p b e1 h.1);
  says_ask = λ n ms p e1 h. (first.says_ask n ms p e1 h.0, second.says_ask n ms p e1 h.1);
  says_yes = λ n ms x s r e1 e2 e3 h. (first.says_yes n ms x s r e1 e2 e3 h.0, second.says_yes n ms x s r e1 e2 e3 h.1);
  says_check_in = λ n ms p rate e1 h. (first.says_check_in n ms p rate e1 h.0, second.says_check_in n ms p rate e1 h.1);
  says_check_ack = λ n ms x s upto rate number clients certs e1 e2 h. (first.says_check_ack n ms x s upto rate number clients certs e1 e2 h.0, second.says_check_ack n ms x s upto rate number clients certs e1 e2 h.1);
  drops = λ n ms h. (first.drops n ms h.0, second.drops n ms h.1);
  starts = λ n ms h. (first.starts n ms h.0, second.starts n ms h.1);
}

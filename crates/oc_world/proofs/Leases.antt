-- A lease is that of a node, and the last message says whether it acknowledges.
use Rattle.std.proofs.Common.{◌≡◌, ℕ, Bool, true, false, ◌==◌, Some, List, [], ◌∷◌, length, slice_get, refl, subst, eqb-true}
use Rattle.oc_base.specs.declared.cert.Cert.{Cert}
use Rattle.oc_base.specs.Lawful.{AreCerts, IsNode}
use Rattle.oc_calm.specs.Cluster.{is_ack}
use Rattle.oc_model.specs.declared.message.Body.{Body}
use Rattle.oc_model.specs.declared.message.Body.TheVariants as bodies
use Rattle.oc_model.specs.declared.message.Message.{Message}
use Rattle.oc_model.specs.Runs.{body_in}
use Rattle.oc_model.specs.Table.{leased_by}
use Rattle.oc_model.specs.World.{message_at}
use Rattle.oc_world.specs.Net.{ends_with_ack, is_ack_body}

-- a row of which a table has a lease is that of a node
pub leased_node : (nodes : ℕ) (rows : List Cert) (y x seq : ℕ) → AreCerts nodes rows → leased_by rows y x ≡ Some seq → IsNode nodes x
leased_node nodes [] y x seq certs leased = absurd cc
leased_node nodes (k ∷ ks) y x seq certs leased = by_test (leased_node nodes ks y x seq certs.1) (k.subject == x) refl where
  by_test : (leased_by ks y x ≡ Some seq → IsNode nodes x) → (b : Bool) → (k.subject == x) ≡ b → IsNode nodes x
  by_test rest true e = subst (IsNode nodes) (eqb-true k.subject x e) certs.0.subject
  by_test rest false e = rest (rw e at leased)

ack_same : (b : Body) → is_ack_body b ≡ is_ack (Some b)
ack_same bodies.Look = refl
ack_same (bodies.LookIs in_tree parent rate children) = refl
ack_same (bodies.Ask seq rank) = refl
ack_same (bodies.Yes seq rank ancestors) = refl
ack_same (bodies.No seq why) = refl
ack_same (bodies.CheckIn seq upto rate number clients certs) = refl
ack_same (bodies.CheckAck seq upto rank ancestors) = refl
ack_same (bodies.Rejoin seq) = refl
ack_same (bodies.Fetch have) = refl
ack_same (bodies.Chunk group start bytes last) = refl

-- the last of some messages
acks_last : (b : Bool) (m : Message) (ms : List Message) → ends_with_ack b (m ∷ ms) ≡ is_ack (body_in (slice_get (m ∷ ms) (length ms)))
acks_last b m [] = ack_same m.body
acks_last b m (n ∷ ns) = acks_last (is_ack_body m.body) n ns

pub acks_end : (ms : List Message) → ends_with_ack false ms ≡ is_ack (body_in (message_at ms (length ms)))
acks_end [] = refl
acks_end (m ∷ ms) = acks_last false m ms

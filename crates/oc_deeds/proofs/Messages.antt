-- Messages that can be sent.
use Rattle.std.proofs.Common.{◌≡◌, ℕ, zero, suc, nat_le, true, false, Bool, ◌&&◌, Option, Some, None, IfSome, List, [], ◌∷◌, ◌++◌, length, ◌-◌, take, drop, remove, slice_get, slice_set, refl, subst, arith, leb-true, ltb-true, le-leb, lt-ltb}
use Rattle.std.specs.List.{AllByRecursion, list_all}
use Rattle.oc_base.specs.Lawful.{IsNode}
use Rattle.oc_model.specs.Lawful.{IsMessage}
use Rattle.oc_model.specs.declared.message.Body.{Body}
use Rattle.oc_model.specs.declared.message.Body.TheVariants as bodies
use Rattle.oc_model.specs.declared.message.Message.{Message}
use Rattle.oc_routes.specs.Elements.{element_at, without_at}
use Rattle.oc_routes.specs.Replies.{others, reply_index}
use Rattle.oc_deeds.specs.Deeds.{back_to, others_than}
use Rattle.oc_deeds.specs.Outboxes.{older_fetch, put_at, with_message, with_messages}
use Rattle.oc_deeds.specs.declared.outbox.TheConstants.{MAX_OUTBOX}
use Rattle.oc_deeds.specs.Sending.{AreSendable, can_send, has_text}
use Rattle.oc_wire.specs.Spelling.{HasSpelling}

both : (a b : Bool) → a ≡ true → b ≡ true → (a && b) ≡ true
both true b p q = q
both false b p q = p

parts : (a b : Bool) → (a && b) ≡ true → (a ≡ true) × (b ≡ true)
parts true b e = (refl, e)
parts false b e = absurd (cc e)

-- One message

text_is : (body : Body) → HasSpelling body → has_text body ≡ true
text_is bodies.Look has = refl
text_is (bodies.LookIs in_tree parent rate children) has = lt-ltb (length children) 65536 (omega (arith, has))
text_is (bodies.Ask seq rank) has = refl
text_is (bodies.Yes seq rank ancestors) has = lt-ltb (length ancestors) 65536 (omega (arith, has))
text_is (bodies.No seq why) has = refl
text_is (bodies.CheckIn seq upto rate number clients certs) has = lt-ltb (length certs) 256 (omega (arith, has))
text_is (bodies.CheckAck seq upto rank ancestors) has = lt-ltb (length ancestors) 65536 (omega (arith, has))
text_is (bodies.Rejoin seq) has = refl
text_is (bodies.Fetch have) has = lt-ltb (length have) 256 (omega (arith, has))
text_is (bodies.Chunk group start bytes last) has = lt-ltb (length bytes) 4294967296 (omega (arith, has))

has_spelling : (body : Body) → has_text body ≡ true → HasSpelling body
has_spelling bodies.Look has = tt
has_spelling (bodies.LookIs in_tree parent rate children) has = omega (arith, ltb-true (length children) 65536 has)
has_spelling (bodies.Ask seq rank) has = tt
has_spelling (bodies.Yes seq rank ancestors) has = omega (arith, ltb-true (length ancestors) 65536 has)
has_spelling (bodies.No seq why) has = tt
has_spelling (bodies.CheckIn seq upto rate number clients certs) has = omega (arith, ltb-true (length certs) 256 has)
has_spelling (bodies.CheckAck seq upto rank ancestors) has = omega (arith, ltb-true (length ancestors) 65536 has)
has_spelling (bodies.Rejoin seq) has = tt
has_spelling (bodies.Fetch have) has = omega (arith, ltb-true (length have) 256 has)
has_spelling (bodies.Chunk group start bytes last) has = omega (arith, ltb-true (length bytes) 4294967296 has)

-- a message that can be sent has a text
pub text_of_sendable : (nodes : ℕ) (m : Message) → can_send nodes m ≡ true → HasSpelling m.body
text_of_sendable nodes m can = has_spelling m.body (parts (nat_le 1 m.to && nat_le m.to nodes) (has_text m.body) can).1

-- the receiver of a message that can be sent is among the nodes
pub receiver_of_sendable : (nodes : ℕ) (m : Message) → can_send nodes m ≡ true → IsNode nodes m.to
receiver_of_sendable nodes m can =
    let among = parts (nat_le 1 m.to) (nat_le m.to nodes) (parts (nat_le 1 m.to && nat_le m.to nodes) (has_text m.body) can).0 in
    (leb-true 1 m.to among.0, leb-true m.to nodes among.1)

-- a lawful message can be sent
lawful_is : (nodes : ℕ) (m : Message) → IsMessage nodes m → HasSpelling m.body → can_send nodes m ≡ true
lawful_is nodes m lawful has =
    both (nat_le 1 m.to && nat_le m.to nodes) (has_text m.body) (both (nat_le 1 m.to) (nat_le m.to nodes) (le-leb 1 m.to lawful.to.0) (le-leb m.to nodes lawful.to.1)) (text_is m.body has)

-- Lists

pub lawful_are : (nodes : ℕ) (ms : List Message) → ((m : Message) → IsMessage nodes m → HasSpelling m.body) → AllByRecursion (IsMessage nodes) ms → AreSendable nodes ms
lawful_are nodes [] text all = refl
lawful_are nodes (m ∷ ms) text all = both (can_send nodes m) (list_all (can_send nodes) ms) (lawful_is nodes m all.0 (text m all.0)) (lawful_are nodes ms text all.1)

pub first_of : (nodes : ℕ) (m : Message) (ms : List Message) → AreSendable nodes (m ∷ ms) → can_send nodes m ≡ true
first_of nodes m ms are = (parts (can_send nodes m) (list_all (can_send nodes) ms) are).0

pub rest_of : (nodes : ℕ) (m : Message) (ms : List Message) → AreSendable nodes (m ∷ ms) → AreSendable nodes ms
rest_of nodes m ms are = (parts (can_send nodes m) (list_all (can_send nodes) ms) are).1

dropped : (nodes k : ℕ) (ms : List Message) → AreSendable nodes ms → AreSendable nodes (drop k ms)
dropped nodes zero ms are = are
dropped nodes (suc k) [] are = refl
dropped nodes (suc k) (m ∷ ms) are = dropped nodes k ms (rest_of nodes m ms are)

taken : (nodes k : ℕ) (ms : List Message) → AreSendable nodes ms → AreSendable nodes (take k ms)
taken nodes zero ms are = refl
taken nodes (suc k) [] are = refl
taken nodes (suc k) (m ∷ ms) are = both (can_send nodes m) (list_all (can_send nodes) (take k ms)) (first_of nodes m ms are) (taken nodes k ms (rest_of nodes m ms are))

joined : (nodes : ℕ) (ms ns : List Message) → AreSendable nodes ms → AreSendable nodes ns → AreSendable nodes (ms ++ ns)
joined nodes [] ns are all = all
joined nodes (m ∷ ms) ns are all = both (can_send nodes m) (list_all (can_send nodes) (ms ++ ns)) (first_of nodes m ms are) (joined nodes ms ns (rest_of nodes m ms are) all)

-- each message can be sent
pub one_sendable : (nodes : ℕ) (ms : List Message) (k : ℕ) (m : Message) → slice_get ms k ≡ Some m → AreSendable nodes ms → can_send nodes m ≡ true
one_sendable nodes [] k m there are = absurd cc
one_sendable nodes (x ∷ ms) zero m there are = let same : x ≡ m = cc in subst (λ (y : Message). can_send nodes y ≡ true) same (first_of nodes x ms are)
one_sendable nodes (x ∷ ms) (suc k) m there are = one_sendable nodes ms k m there (rest_of nodes x ms are)

-- the messages without that at a place
pub without_place : (nodes k : ℕ) (ms : List Message) → AreSendable nodes ms → AreSendable nodes (remove ms k)
without_place nodes k ms are = joined nodes (take k ms) (drop (suc k) ms) (taken nodes k ms are) (dropped nodes (suc k) ms are)

-- the messages without one of them
without_one : (nodes : ℕ) (ms : List Message) (place : Option ℕ) → AreSendable nodes ms → AreSendable nodes (without_at ms place)
without_one nodes ms None are = are
without_one nodes ms (Some k) are = without_place nodes k ms are

-- the messages without the reply to a sender
others_sendable : (nodes : ℕ) (ms : List Message) (sender : ℕ) → AreSendable nodes ms → AreSendable nodes (others ms sender)
others_sendable nodes ms sender are = without_one nodes ms (reply_index ms sender) are

-- all messages but the reply to a sender
pub kept_sendable : (nodes : ℕ) (ms : List Message) (sender : Option ℕ) → AreSendable nodes ms → AreSendable nodes (others_than sender ms)
kept_sendable nodes ms None are = are
kept_sendable nodes ms (Some sender) are = others_sendable nodes ms sender are

-- the messages with one in the place of another
put_in_place : (nodes k : ℕ) (ms : List Message) (m : Message) → AreSendable nodes ms → can_send nodes m ≡ true → AreSendable nodes (slice_set ms k m)
put_in_place nodes k [] m are can = refl
put_in_place nodes zero (x ∷ ms) m are can = both (can_send nodes m) (list_all (can_send nodes) ms) can (rest_of nodes x ms are)
put_in_place nodes (suc k) (x ∷ ms) m are can = both (can_send nodes x) (list_all (can_send nodes) (slice_set ms k m)) (first_of nodes x ms are) (put_in_place nodes k ms m (rest_of nodes x ms are) can)

-- the messages with another one
with_one : (nodes : ℕ) (ms : List Message) (place : Option ℕ) (m : Message) → AreSendable nodes ms → can_send nodes m ≡ true → AreSendable nodes (put_at ms place m)
with_one nodes ms None m are can = dropped nodes (length (ms ++ m ∷ []) - MAX_OUTBOX) (ms ++ m ∷ []) (joined nodes ms (m ∷ []) are (both (can_send nodes m) true can refl))
with_one nodes ms (Some place) m are can = put_in_place nodes place ms m are can

-- the messages with further ones that can be sent
pub with_sendable : (nodes : ℕ) (ms more : List Message) → AreSendable nodes ms → AreSendable nodes more → AreSendable nodes (with_messages ms more)
with_sendable nodes ms [] are all = are
with_sendable nodes ms (m ∷ more) are all =
    with_sendable nodes (with_message ms m) more (with_one nodes ms (older_fetch ms m) m are (first_of nodes m more all)) (rest_of nodes m more all)

-- Replies to senders

-- the message at a place, if there is one, has a text
text_at : (nodes : ℕ) (ms : List Message) (place : Option ℕ) → AreSendable nodes ms → IfSome (element_at ms place) (λ m. HasSpelling m.body)
text_at nodes ms None are = tt
text_at nodes ms (Some k) are = by_one (slice_get ms k) refl
  where
    by_one : (o : Option Message) → slice_get ms k ≡ o → IfSome o (λ m. HasSpelling m.body)
    by_one None is = tt
    by_one (Some m) is = text_of_sendable nodes m (one_sendable nodes ms k m is are)

-- the message that goes back to a sender has a text
pub back_has_text : (nodes : ℕ) (ms : List Message) (sender : Option ℕ) → AreSendable nodes ms → IfSome (back_to sender ms) (λ m. HasSpelling m.body)
back_has_text nodes ms None are = tt
back_has_text nodes ms (Some sender) are = text_at nodes ms (reply_index ms sender) are

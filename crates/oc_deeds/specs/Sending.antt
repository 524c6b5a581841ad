-- Messages that can be sent.
use Rattle.std.specs.Prelude.{ℕ, Bool, true, ◌&&◌, nat_le, nat_lt, IsTrue, List, length}
use Rattle.std.specs.List.{list_all}
use Rattle.oc_model.specs.declared.message.Body.{Body}
use Rattle.oc_model.specs.declared.message.Body.TheVariants as bodies
use Rattle.oc_model.specs.declared.message.Message.{Message}

-- each count of a body fits the bytes that it has in its spelling
abbrev pub has_text : Body → Bool
has_text (bodies.LookIs in_tree parent rate children) = nat_lt (length children) 65536
has_text (bodies.Yes seq rank ancestors) = nat_lt (length ancestors) 65536
has_text (bodies.CheckIn seq upto rate number clients certs) = nat_lt (length certs) 256
has_text (bodies.CheckAck seq upto rank ancestors) = nat_lt (length ancestors) 65536
has_text (bodies.Fetch have) = nat_lt (length have) 256
has_text (bodies.Chunk group start bytes last) = nat_lt (length bytes) 4294967296
has_text body = true

-- the receiver is one of the nodes, and the body has a text
abbrev pub can_send : ℕ → Message → Bool
can_send nodes m = nat_le 1 m.to && nat_le m.to nodes && has_text m.body

-- each of these messages can be sent
abbrev pub AreSendable : ℕ → List Message → Type 0
AreSendable nodes ms = IsTrue (list_all (can_send nodes) ms)

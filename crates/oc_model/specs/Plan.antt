use Rattle.std.specs.Prelude.{ℕ, Bool, false, nat_le, Option, None, List, [], ◌∷◌, ◌++◌}
use Rattle.oc_model.specs.declared.answer.Answer.{Answer}
use Rattle.oc_model.specs.declared.answer.Answer.TheVariants as words
use Rattle.oc_model.specs.declared.message.Message.{Message}
use Rattle.oc_model.specs.declared.message.Body.{Body}
use Rattle.oc_model.specs.declared.record.Record.{Record}
use Rattle.oc_model.specs.declared.soft.Search.{Search}
use Rattle.oc_model.specs.declared.soft.Soft.{Soft}
use Rattle.oc_model.specs.declared.want.Want.{Want}
use Rattle.oc_model.specs.Measures.{reading_of}
use Rattle.oc_model.specs.Node.{Control}
use Rattle.oc_model.specs.Records.{fold_one}

-- A step under way, from rule to rule.

-- the node after the rules so far, the records of its durable changes, the messages and the answer; the bytes of content for the
-- chunk that it sends; the place in the group at which the input's bytes are kept, if they are; whether the group is closed
pub record Plan : Type 0 where
  pub node : Control
  pub records : List Record
  pub sends : List Message
  pub answer : Answer
  pub wants : Option Want
  pub keeps : Option ℕ
  pub seals : Bool

-- the step before its first rule
abbrev pub begun : Control → Plan
begun n = record { node = n; records = []; sends = []; answer = words.Ok; wants = None; keeps = None; seals = false }

-- makes a durable change: writes its record and applies it
abbrev pub write : Plan → Record → Plan
write o r = record o { node = record o.node { kept = fold_one o.node.kept r }; records = o.records ++ r ∷ [] }

-- sends one more message
abbrev pub send : Plan → ℕ → Body → Plan
send o p b = record o { sends = o.sends ++ record { from = o.node.me; to = p; body = b } ∷ [] }

abbrev pub answers : Plan → Answer → Plan
answers o a = record o { answer = a }

abbrev pub with_soft : Plan → Soft → Plan
with_soft o s = record o { node = record o.node { soft = s } }

abbrev pub with_leases : Plan → List (Option ℕ) → Plan
with_leases o ends = record o { node = record o.node { leases = ends } }

-- sets the node's search, or ends it
abbrev pub searching : Plan → Option Search → Plan
searching o s = with_soft o (record o.node.soft { search = s })

-- the input changes nothing, and is answered as ignored
abbrev pub ignored : Plan → Plan
ignored o = answers o words.Ignored

-- whether a node is a member of the chain
abbrev pub is_member : Control → Bool
is_member n = nat_le n.me n.chain

-- the rate from a node to a peer, in bytes per second; 0 where nothing was measured
abbrev pub rate_to : Control → ℕ → ℕ
rate_to n p = (reading_of n.kept.measures p).rate

use Rattle.std.specs.Prelude.{ℕ, ◌+◌, ◌-◌, Bool, true, false, not, ◌&&◌, nat_lt, nat_le, if◌then◌else◌, Option, Some, None, unwrap_or, List, [], ◌∷◌, length, map}
use Rattle.std.specs.List.{list_all, range_with_len}
use Rattle.oc_model.specs.declared.event.Act.{Act}
use Rattle.oc_model.specs.declared.event.Act.TheVariants.{At, Deliver}
use Rattle.oc_model.specs.declared.input.Input.TheVariants.{Tick, Unreachable}
use Rattle.oc_model.specs.declared.message.Body.{Body}
use Rattle.oc_model.specs.declared.message.Body.TheVariants.{Look, Ask, CheckIn, Fetch}
use Rattle.oc_model.specs.declared.message.Message.{Message}
use Rattle.oc_model.specs.Node.{Control}
use Rattle.oc_model.specs.Numbers.{has}
use Rattle.oc_model.specs.World.{World, node, is_up, up_ids, message_at, after_act}

-- Quiet runs: rounds in which each node that is up ticks once, and then every message arrives or its sender is told of the failure.

-- a tick of this node at this second
pub record Turn : Type 0 where
  pub node : ℕ
  pub time : ℕ

-- the ticks of a round, and the numbers of the messages that arrive after them
pub record Round : Type 0 where
  pub turns : List Turn
  pub arrivals : List ℕ

-- The world after a round

-- the world after these ticks
abbrev pub after_turns : World → List Turn → World
after_turns w [] = w
after_turns w (t ∷ ts) = after_turns (after_act w (At t.node (Tick t.time))) ts

-- whether a message begins a connection, so that its sender notices where it fails; the others are replies
abbrev pub is_dial : Body → Bool
is_dial Look = true
is_dial (Ask seq rank) = true
is_dial (CheckIn seq upto rate number clients certs) = true
is_dial (Fetch have) = true
is_dial body = false

-- the act by which the message of this number arrives: its delivery, or for a dial to a node that is down the news of it at the sender
abbrev pub arriving : World → ℕ → Option Message → Act
arriving w k None = Deliver k
arriving w k (Some m) = if is_dial m.body && not (is_up w m.to) then At m.from (Unreachable m.to) else Deliver k

-- the world after the message of this number arrived
abbrev pub arrived : World → ℕ → World
arrived w k = after_act w (arriving w k (message_at w.net k))

abbrev pub after_arrivals : World → List ℕ → World
after_arrivals w [] = w
after_arrivals w (k ∷ ks) = after_arrivals (arrived w k) ks

abbrev pub after_round : World → Round → World
after_round w r = after_arrivals (after_turns w r.turns) r.arrivals

-- the world after these rounds, one after another
abbrev pub after_rounds : World → List Round → World
after_rounds w [] = w
after_rounds w (r ∷ rs) = after_rounds (after_round w r) rs

-- What a round is

abbrev pub is_distinct : List ℕ → Bool
is_distinct [] = true
is_distinct (x ∷ xs) = not (has xs x) && is_distinct xs

-- whether these are the nodes that are up, each once, in any order
abbrev pub are_the_up : World → List ℕ → Bool
are_the_up w xs = list_all (is_up w) xs && list_all (has xs) (up_ids w) && is_distinct xs

-- whether a node may tick at this second: its check is due then, and less than the time of a lease has passed
abbrev pub is_timely : Control → ℕ → Bool
is_timely n t = nat_le (unwrap_or n.soft.due n.soft.clock) t && nat_le t (n.soft.clock + 29)

-- whether each of these messages was sent before it arrives, and none is among the first `old` messages
abbrev pub are_sent : ℕ → World → List ℕ → Bool
are_sent old w [] = true
are_sent old w (k ∷ ks) = nat_lt old k && nat_le k (length w.net) && are_sent old (arrived w k) ks

-- the numbers of the messages that are in the later world and not in the earlier one
abbrev pub new_messages : World → World → List ℕ
new_messages w v = range_with_len (length w.net + 1) (length v.net - length w.net)

-- whether this is a round: each node that is up ticks once, in time, and every message that is sent in the round arrives, once or more
-- often; of the messages before the round only those past the first `old` may arrive
abbrev pub is_round : ℕ → World → Round → Bool
is_round old w r =
    are_the_up w (map (λ t. t.node) r.turns)
    && list_all (λ t. is_timely (node w t.node).control t.time) r.turns
    && are_sent old (after_turns w r.turns) r.arrivals
    && list_all (has r.arrivals) (new_messages w (after_round w r))

-- whether these are rounds, in each of which only messages of that round arrive
abbrev pub are_later_rounds : World → List Round → Bool
are_later_rounds w [] = true
are_later_rounds w (r ∷ rs) = is_round (length w.net) w r && are_later_rounds (after_round w r) rs

-- whether the network is left alone in these rounds, the first of which may bring any message that was ever sent
abbrev pub is_quiet : World → List Round → Bool
is_quiet w [] = true
is_quiet w (r ∷ rs) = is_round 0 w r && are_later_rounds (after_round w r) rs

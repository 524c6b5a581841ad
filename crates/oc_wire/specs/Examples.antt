-- Messages as bytes, worked out.
use Rattle.std.specs.Prelude.{ℕ, None, List, [], ◌∷◌}
use Rattle.oc_base.specs.declared.refusal.Refusal.TheVariants.{Chain}
use Rattle.oc_model.specs.declared.message.Body.TheVariants.{Ask, No}
use Rattle.oc_model.specs.declared.message.Message.{Message}

-- `000000030000000203000000000000000100`
abbrev pub first_ask : List ℕ
first_ask = 0 ∷ 0 ∷ 0 ∷ 3 ∷ 0 ∷ 0 ∷ 0 ∷ 2 ∷ 3 ∷ 0 ∷ 0 ∷ 0 ∷ 0 ∷ 0 ∷ 0 ∷ 0 ∷ 1 ∷ 0 ∷ []

-- the first ask of node 3, to node 2, without a rank
abbrev pub first_ask_message : Message
first_ask_message = record { from = 3; to = 2; body = Ask 1 None }

-- `00000002000000030500000000000000070500000001`
abbrev pub chain_no : List ℕ
chain_no = 0 ∷ 0 ∷ 0 ∷ 2 ∷ 0 ∷ 0 ∷ 0 ∷ 3 ∷ 5 ∷ 0 ∷ 0 ∷ 0 ∷ 0 ∷ 0 ∷ 0 ∷ 0 ∷ 7 ∷ 5 ∷ 0 ∷ 0 ∷ 0 ∷ 1 ∷ []

-- node 2 refuses the seventh ask of node 3, and names node 1
abbrev pub chain_no_message : Message
chain_no_message = record { from = 2; to = 3; body = No 7 (Chain 1) }

-- a message from a stranger, of a kind that no message has
abbrev pub stranger : List ℕ
stranger = 0 ∷ 0 ∷ 0 ∷ 4 ∷ 0 ∷ 0 ∷ 0 ∷ 2 ∷ 99 ∷ []

-- a message of a node, of that kind
abbrev pub strange_kind : List ℕ
strange_kind = 0 ∷ 0 ∷ 0 ∷ 3 ∷ 0 ∷ 0 ∷ 0 ∷ 2 ∷ 99 ∷ []

-- a look with a byte after it
abbrev pub trailing : List ℕ
trailing = 0 ∷ 0 ∷ 0 ∷ 3 ∷ 0 ∷ 0 ∷ 0 ∷ 2 ∷ 1 ∷ 0 ∷ []

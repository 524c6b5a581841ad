use Rattle.std.specs.Prelude.{ℕ, ◌+◌, ◌-◌, ◌==◌, if◌then◌else◌, Option, Some, None, List}
use Rattle.oc_base.specs.declared.shelf.Shelf.{Shelf}
use Rattle.oc_model.specs.declared.answer.Answer.TheVariants as words
use Rattle.oc_model.specs.declared.record.Record.TheVariants as records
use Rattle.oc_model.specs.Measures.{reading_of, same_reading}
use Rattle.oc_model.specs.Node.{Control}
use Rattle.oc_model.specs.Numbers.{capped, at, put_at}
use Rattle.oc_model.specs.Plan.{Plan, write, answers, with_soft, is_member}
use Rattle.oc_model.specs.Selected.{selected}
use Rattle.oc_base.specs.Shelves.{line_of}

-- Rules 15 (client) and 16 (measured).

-- serves `count` bytes, and counts the client
abbrev pub serves : Plan → ℕ → Plan
serves o count = answers (with_soft o (record o.node.soft { served = capped (o.node.soft.served + 1) })) (words.Serve count)

-- sends the client to node k, or serves it where no node is known
abbrev pub redirects : Option ℕ → Plan → ℕ → Plan
redirects None o count = serves o count
redirects (Some k) o count = answers (record o { node = record o.node { counts = put_at o.node.counts k (capped (at o.node.counts k 0 + 1)) } }) (words.Redirect k)

-- the node to which a chain member sends a client of this area, if there is one
abbrev pub server_for : Control → ℕ → Option ℕ
server_for n area = if is_member n then selected n.kept.table n.me n.chain n.areas n.counts area else None

abbrev pub client_of : Option Shelf → Plan → ℕ → ℕ → Plan
client_of None o area start = answers o words.NoGroup
client_of (Some l) o area start = redirects (server_for o.node area) o (l.held - start)

-- Rule 15, client: chain members are kept free for the tree, so they send clients on
abbrev pub client : Plan → List Shelf → ℕ → ℕ → List ℕ → Plan
client o shelf area start g = client_of (line_of g shelf) o area start

-- lets reviews move the node again
abbrev pub may_move : Plan → Plan
may_move o = with_soft o (record o.node.soft { moves = 0 })

-- Rule 16, measured: keeps a reading; a new one may call for new places, so reviews may move the node again
abbrev pub measured : Plan → ℕ → ℕ → ℕ → Plan
measured o p rate hops =
    if p == o.node.me then answers o words.Own
    else if same_reading (reading_of o.node.kept.measures p) (record { rate = rate; hops = hops }) then o
    else may_move (write o (records.Rate p rate hops))

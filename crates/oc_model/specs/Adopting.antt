use Rattle.std.specs.Prelude.{ℕ, Bool, true, false, not, ◌&&◌, ◌==◌, if◌then◌else◌, Option, Some, None}
use Rattle.oc_base.specs.declared.cert.Cert.{Cert}
use Rattle.oc_base.specs.declared.rank.Rank.{Rank}
use Rattle.oc_base.specs.declared.refusal.Refusal.{Refusal}
use Rattle.oc_model.specs.declared.message.Body.TheVariants as bodies
use Rattle.oc_model.specs.declared.mode.Mode.{Mode}
use Rattle.oc_model.specs.declared.mode.Mode.TheVariants as modes
use Rattle.oc_model.specs.declared.record.Record.TheVariants as records
use Rattle.oc_model.specs.Adoption.{Host, rank_or_last, precedes, chain_child, adoption_refusal}
use Rattle.oc_model.specs.Leases.{renew}
use Rattle.oc_model.specs.Node.{Control}
use Rattle.oc_model.specs.Numbers.{raise}
use Rattle.oc_model.specs.Plan.{Plan, write, send, with_leases}
use Rattle.oc_model.specs.Table.{is_news, leased_by}

-- Rule 7, answer an ask: grants a lease or refuses, so that the ranks stay in order and all other nodes stay below the chain.

abbrev pub in_tree : Mode → Bool
in_tree (modes.Joined p) = true
in_tree modes.Acting = true
in_tree mode = false

abbrev pub is_acting : Mode → Bool
is_acting modes.Acting = true
is_acting mode = false

-- raises the epoch to this one, where one is given
abbrev pub raises : Plan → Option ℕ → Plan
raises o None = o
raises o (Some e) = write o (records.Epoch e)

-- an acting node whose rank does not precede the asker's takes the epoch above the asker's; nothing changes where it asks itself
abbrev pub raises_over : Plan → ℕ → Rank → Plan
raises_over o x r =
    if is_acting o.node.kept.mode && not (precedes (rank_or_last o.node.kept.rank) r) && not (x == o.node.me)
    then raises o (raise r.epoch)
    else o

-- the facts about this node that decide on the asker x
abbrev pub host : Control → ℕ → Host
host n x = record {
  me = n.me;
  in_tree = in_tree n.kept.mode;
  rank = rank_or_last n.kept.rank;
  ancestors = n.kept.ancestors;
  chain = n.chain;
  chain_child = chain_child n.kept.table n.me n.chain x;
}

-- the certificate of a granted lease: ask seq of x went to y, and the lease lives
abbrev pub birth : ℕ → ℕ → ℕ → Cert
birth x seq y = record { subject = x; seq = seq; parent = y; dead = false; number = 0; clients = 0 }

abbrev pub is_number : Option ℕ → ℕ → Bool
is_number None seq = false
is_number (Some s) seq = s == seq

-- whether x has a lease of this node at that ask number
abbrev pub has_lease : Control → ℕ → ℕ → Bool
has_lease n x seq = is_number (leased_by n.kept.table n.me x) seq

-- x becomes a child, and its lease begins anew
abbrev pub grants : Plan → ℕ → ℕ → Plan
grants o x seq =
    send (with_leases o (renew o.node.leases x o.node.soft.clock)) x
    (bodies.Yes seq (rank_or_last o.node.kept.rank) o.node.kept.ancestors)

-- tells x to ask anew, since it has no lease at that ask number
abbrev pub sends_rejoin : Plan → ℕ → ℕ → Plan
sends_rejoin o x seq = send o x (bodies.Rejoin seq)

-- x becomes a child, or is told to ask anew where the table has a later word on it
abbrev pub adopts : Plan → ℕ → ℕ → Plan
adopts o x seq =
    if has_lease o.node x seq then grants o x seq
    else if is_news o.node.kept.table (birth x seq o.node.me) then grants (write o (records.Entry (birth x seq o.node.me))) x seq
    else sends_rejoin o x seq

abbrev pub answers_ask : Option Refusal → Plan → ℕ → ℕ → Plan
answers_ask None o x seq = adopts o x seq
answers_ask (Some why) o x seq = send o x (bodies.No seq why)

-- answers an ask of x, which has this rank
abbrev pub asked_at : Plan → ℕ → ℕ → Option Rank → Plan
asked_at o x seq r = answers_ask (adoption_refusal (host o.node x) x r) o x seq

-- Rule 7, answer an ask: an acting node raises its epoch where it must, and then answers
abbrev pub asked : Plan → ℕ → ℕ → Option Rank → Plan
asked o x seq r = asked_at (raises_over o x (rank_or_last r)) x seq r

use Rattle.std.specs.Prelude.{ℕ, ◌+◌, ◌-◌, ◌%◌, max, Bool, true, false, not, ◌&&◌, ◌==◌, nat_lt, nat_le, if◌then◌else◌, Option, Some, None, List, [], ◌∷◌, filter}
use Rattle.oc_base.specs.declared.cert.Cert.{Cert}
use Rattle.oc_base.specs.declared.rank.Rank.{Rank}
use Rattle.oc_base.specs.declared.shelf.Shelf.{Shelf}
use Rattle.oc_base.specs.Rank.{beneath_of}
use Rattle.oc_model.specs.declared.message.Body.TheVariants as bodies
use Rattle.oc_model.specs.declared.mode.Mode.{Mode}
use Rattle.oc_model.specs.declared.mode.Mode.TheVariants as modes
use Rattle.oc_model.specs.declared.record.Record.TheVariants as records
use Rattle.oc_model.specs.declared.soft.Search.{Search}
use Rattle.oc_model.specs.declared.soft.Search.TheVariants.{Descend, Review}
use Rattle.oc_model.specs.Adopting.{raises, has_lease, sends_rejoin}
use Rattle.oc_model.specs.Adoption.{rank_or_last, is_better}
use Rattle.oc_model.specs.Asking.{send_ask, round, ask_before, ancestors_by}
use Rattle.oc_model.specs.ChangeLog.{is_ahead, next_certs, place_after, waits}
use Rattle.oc_model.specs.Choice.{below}
use Rattle.oc_model.specs.Leases.{renew, start_all, ended}
use Rattle.oc_model.specs.Node.{Control}
use Rattle.oc_model.specs.Numbers.{number_end, raise, capped, put_at}
use Rattle.oc_model.specs.Plan.{Plan, write, send, with_soft, with_leases, searching, ignored, is_member, rate_to}
use Rattle.oc_model.specs.Table.{newest, is_news}

-- How leases are kept up and changes are told: rules 5 (check now), 6 (tick) and 13 (check-ins).

-- Rule 5, check now: the check is due after 20, 19 or 18 seconds, well before a lease of 30 seconds ends.

-- adds the clients that were served to the node's own count, under its next own number where there is one
abbrev pub counts_clients : Plan → Plan
counts_clients o =
    if not (o.node.soft.served == 0) && nat_lt o.node.kept.number number_end
    then with_soft (write o (records.Info (o.node.kept.number + 1) (capped (o.node.kept.clients + o.node.soft.served)))) (record o.node.soft { served = 0 })
    else o

-- sends p a check-in: rate, own number, client count, and the certificates that wait, 64 at most
abbrev pub checks_in : Plan → ℕ → Plan
checks_in o p =
    send o p (bodies.CheckIn o.node.kept.seq (place_after o.node.kept.log) (rate_to o.node p) o.node.kept.number o.node.kept.clients (next_certs o.node.kept.log))

-- notes this second as that of the last check-in
abbrev pub notes_time : Plan → Plan
notes_time o = with_soft o (record o.node.soft { checked = Some o.node.soft.clock })

-- Rule 5, check now, of a joined node: counts its clients, and checks in with its parent p
abbrev pub reports : Plan → ℕ → Plan
reports o p = checks_in (counts_clients (notes_time o)) p

-- Rule 5, check now: acts by mode: a joined node checks in, a root raises its epoch, an idle node begins a round, an asking one asks again
abbrev pub checks_as : Mode → Plan → Plan
checks_as (modes.Joined p) o = reports o p
checks_as modes.Acting o = raises o (raise (rank_or_last o.node.kept.rank).epoch)
checks_as modes.Idle o = round o None
checks_as (modes.Asking p) o = send_ask o p

-- the second of the next check; it depends on the id, so that siblings that started together do not report together for ever
abbrev pub next_check : Control → ℕ
next_check n = n.soft.clock + 20 - n.me % 3

-- sets the second of the next check
abbrev pub sets_due : Plan → Plan
sets_due o = with_soft o (record o.node.soft { due = Some (next_check o.node) })

-- Rule 5, check now: sets the next check, and acts by mode
abbrev pub checks : Plan → Plan
checks o = checks_as o.node.kept.mode (sets_due o)

-- Rule 6, tick.

-- merges a certificate; a record is written only where the table changes
abbrev pub merges : Plan → Cert → Plan
merges o c = if is_news o.node.kept.table c then write o (records.Entry c) else o

abbrev pub merges_all : List Cert → Plan → Plan
merges_all [] o = o
merges_all (c ∷ cs) o = merges_all cs (merges o c)

-- sets the clock to this second; the clock never goes back
abbrev pub at_time : Plan → ℕ → Plan
at_time o t = with_soft o (record o.node.soft { clock = max o.node.soft.clock t })

-- gives each leased child without a lease end one, 30 seconds away
abbrev pub starts_leases : Plan → Plan
starts_leases o = with_leases o (start_all o.node.kept.table o.node.me o.node.leases o.node.soft.clock)

abbrev pub dies : Option Cert → Plan → Plan
dies None o = o
dies (Some k) o = merges o (record k { dead = true })

-- notes each of these children as dead, by its entry in the table
abbrev pub ends_each : List ℕ → Plan → Plan
ends_each [] o = o
ends_each (x ∷ xs) o = ends_each xs (dies (newest o.node.kept.table x) o)

-- Rule 6, tick, part 1: notes each leased child as dead whose lease has ended
abbrev pub ends_leases : Plan → Plan
ends_leases o = ends_each (ended o.node.kept.table o.node.me o.node.leases o.node.soft.clock) o

abbrev pub looks_at_each : List ℕ → Plan → Plan
looks_at_each [] o = o
looks_at_each (x ∷ xs) o = looks_at_each xs (send o x bodies.Look)

-- Rule 6, tick, part 2, after the check: an ordinary joined node reviews its place, unless it was refused; a chain member looks at
-- the earlier members that are nearer than its parent, so that the line of the chain closes up when a member comes back
abbrev pub looks_round : Mode → Plan → Plan
looks_round (modes.Joined p) o =
    if is_member o.node then looks_at_each (filter (λ x. nat_lt p x) (below o.node.me)) o
    else if o.node.soft.refused then o
    else send (searching o (Some Review)) p bodies.Look
looks_round modes.Acting o = if is_member o.node then looks_at_each (below o.node.me) o else o
looks_round mode o = o

abbrev pub is_due : Option ℕ → ℕ → Bool
is_due None now = true
is_due (Some t) now = nat_le t now

-- forgets a refusal at a check that had been set; the first check in a new place does not forget it
abbrev pub forgets_refusal : Option ℕ → Plan → Plan
forgets_refusal None o = o
forgets_refusal (Some t) o = with_soft o (record o.node.soft { refused = false })

-- an idle node on a descent sends its `Look` again: a round would begin the search anew, and never reach the third chain member
abbrev pub goes_on : Option Search → Plan → Plan
goes_on (Some (Descend p)) o = send o p bodies.Look
goes_on search o = round o None

abbrev pub tick_checks_as : Mode → Plan → Plan
tick_checks_as modes.Idle o = goes_on o.node.soft.search o
tick_checks_as mode o = checks_as mode o

-- the check of a tick, after which the next one is set
abbrev pub tick_checks : Plan → Plan
tick_checks o = tick_checks_as o.node.kept.mode (sets_due o)

-- Rule 6, tick, part 2: the check that is due, and the looks after it
abbrev pub checks_in_time : Plan → Plan
checks_in_time o = looks_round o.node.kept.mode (tick_checks (forgets_refusal o.node.soft.due o))

-- whether the last check-in was at least two seconds ago
abbrev pub is_past : Option ℕ → ℕ → Bool
is_past None now = false
is_past (Some t) now = nat_le (t + 2) now

-- whether certificates wait, and the last check-in was at least two seconds ago
abbrev pub has_news : Control → Bool
has_news n = waits n.kept.log.waiting && is_past n.soft.checked n.soft.clock

-- Rule 6, tick, part 3: a joined node with news checks in between two checks, so that news goes up within seconds
abbrev pub reports_news_as : Mode → Plan → Plan
reports_news_as (modes.Joined p) o = if has_news o.node then reports o p else o
reports_news_as mode o = o

abbrev pub reports_news : Plan → Plan
reports_news o = reports_news_as o.node.kept.mode o

abbrev pub checks_if_due : Plan → Plan
checks_if_due o = if is_due o.node.soft.due o.node.soft.clock then checks_in_time o else reports_news o

-- Rule 6, tick, part 4: a joined node asks its parent for more of every group
abbrev pub fetches_as : Mode → Plan → List Shelf → Plan
fetches_as (modes.Joined p) o shelf = send o p (bodies.Fetch shelf)
fetches_as mode o shelf = o

abbrev pub fetches : Plan → List Shelf → Plan
fetches o shelf = fetches_as o.node.kept.mode o shelf

-- Rule 6, tick: leases first, then the check or the news, then a fetch
abbrev pub tick : Plan → List Shelf → ℕ → Plan
tick o shelf t = fetches (checks_if_due (ends_leases (starts_leases (at_time o t)))) shelf

-- Rule 13, check-ins.

-- renews the lease of the child x, keeps its rate, and acknowledges its check-in
abbrev pub acknowledges : Plan → ℕ → ℕ → ℕ → ℕ → Plan
acknowledges o x seq upto rate =
    send (record o { node = record o.node { leases = renew o.node.leases x o.node.soft.clock; rates = put_at o.node.rates x rate } }) x
    (bodies.CheckAck seq upto (rank_or_last o.node.kept.rank) o.node.kept.ancestors)

-- the certificate that x lives under this lease, with this own number and client count
abbrev pub life : ℕ → ℕ → ℕ → ℕ → ℕ → Cert
life x seq y number clients = record { subject = x; seq = seq; parent = y; dead = false; number = number; clients = clients }

-- Rule 13, check-ins: merges the news of a child x with a lease at that ask number, and acknowledges; tells any other to ask anew
abbrev pub checked_in : Plan → ℕ → ℕ → ℕ → ℕ → ℕ → ℕ → List Cert → Plan
checked_in o x seq upto rate number clients certs =
    if has_lease o.node x seq then acknowledges (merges_all (life x seq o.node.me number clients ∷ certs) o) x seq upto rate
    else sends_rejoin o x seq

abbrev pub is_joined_to : Mode → ℕ → Bool
is_joined_to (modes.Joined q) p = q == p
is_joined_to mode p = false

abbrev pub takes_place : Plan → ℕ → Plan
takes_place o upto = if is_ahead o.node.kept.log upto then write o (records.Acked upto) else o

abbrev pub takes_rank : Plan → Rank → Plan
takes_rank o told = if is_better o.node.kept.rank told then write o (records.Ranked (beneath_of told)) else o

-- a node that wishes for another place keeps its rank, so that a sibling's rank precedes its own when it asks there
abbrev pub takes_rank_unless : Option ℕ → Plan → Rank → Plan
takes_rank_unless None o told = takes_rank o told
takes_rank_unless (Some g) o told = o

abbrev pub same_ids : List ℕ → List ℕ → Bool
same_ids [] [] = true
same_ids (x ∷ xs) (y ∷ ys) = x == y && same_ids xs ys
same_ids xs ys = false

abbrev pub takes_ancestors : Plan → List ℕ → Plan
takes_ancestors o xs = if same_ids xs o.node.kept.ancestors then o else write o (records.Ancestors xs)

-- Rule 13, check-ins, at the child: takes an acknowledgement of its parent p
abbrev pub took_ack : Plan → ℕ → ℕ → ℕ → Rank → List ℕ → Plan
took_ack o p seq upto told xs =
    if is_joined_to o.node.kept.mode p && seq == o.node.kept.seq then takes_ancestors (takes_rank_unless o.node.soft.wish (takes_place o upto) told) (ancestors_by p xs)
    else ignored o

-- whether p is the parent, or is asked to be the parent
abbrev pub is_peer : Mode → ℕ → Bool
is_peer (modes.Asking q) p = q == p
is_peer (modes.Joined q) p = q == p
is_peer mode p = false

-- Rule 13, check-ins, at the child: p has no lease at that ask number, so the node asks p anew
abbrev pub took_rejoin : Plan → ℕ → ℕ → Plan
took_rejoin o p seq = if is_peer o.node.kept.mode p && seq == o.node.kept.seq then ask_before o p else ignored o

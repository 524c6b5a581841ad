use Rattle.std.specs.Prelude.{◌≡◌, ℕ, true, false, Some, None, [], ◌∷◌}
use Rattle.oc_model.specs.declared.event.Act.TheVariants.{At, Deliver}
use Rattle.oc_model.specs.declared.event.Event.TheVariants.{Up, Crash, Do}
use Rattle.oc_model.specs.declared.input.Input.TheVariants.{CheckNow, Relocate}
use Rattle.oc_model.specs.declared.mode.Mode.TheVariants.{Idle, Asking, Joined, Acting}
use Rattle.oc_model.specs.ClaimsTree.{table_of, seq_of}
use Rattle.oc_model.specs.ExampleRuns.{header}
use Rattle.oc_model.specs.NextWorld.{next_world, world_after}
use Rattle.oc_model.specs.Numbers.{at}
use Rattle.oc_model.specs.Plan.{is_member, rate_to}
use Rattle.oc_model.specs.Ready.{is_ready, is_settled}
use Rattle.oc_model.specs.Table.{leased_by}
use Rattle.oc_model.specs.World.{World, node, mode_of}
use Rattle.oc_laws_rest.specs.Rounds.{Turn, Round, after_turns, after_rounds, is_quiet}
use Rattle.oc_laws_rest.specs.Rest.{begun}

-- Worked examples of rounds, and of what is none.

abbrev turn : ℕ → ℕ → Turn
turn x t = record { node = x; time = t }

-- A new network of a source and two others comes to rest in one round: they look at the source, and ask it.

abbrev three : World
three = begun (header 3 1 (0 ∷ 0 ∷ 0 ∷ [])) (3 ∷ 1 ∷ 2 ∷ [])

-- the messages in the order in which they were sent
abbrev joining : Round
joining = record { turns = turn 2 0 ∷ turn 1 0 ∷ turn 3 0 ∷ []; arrivals = 1 ∷ 2 ∷ 3 ∷ 4 ∷ 5 ∷ 6 ∷ 7 ∷ 8 ∷ [] }

-- another order, in which some messages arrive twice
abbrev joining_twice : Round
joining_twice = record { turns = turn 3 29 ∷ turn 2 7 ∷ turn 1 0 ∷ []; arrivals = 2 ∷ 2 ∷ 4 ∷ 3 ∷ 5 ∷ 5 ∷ 1 ∷ 6 ∷ 8 ∷ 7 ∷ 9 ∷ 10 ∷ 10 ∷ [] }

-- the round after it: both check in, and the source ticks before its leases end
abbrev checking : Round
checking = record { turns = turn 2 5 ∷ turn 3 7 ∷ turn 1 19 ∷ []; arrivals = 9 ∷ 10 ∷ 11 ∷ 12 ∷ 13 ∷ 14 ∷ 15 ∷ 16 ∷ 17 ∷ 18 ∷ [] }

pub record NewNetworkRests : Type 0 where
  pub before : is_settled three ≡ false
  pub quiet : is_quiet three (joining ∷ checking ∷ []) ≡ true
  pub settled : is_settled (after_rounds three (joining ∷ [])) ≡ true
  pub again : is_settled (after_rounds three (joining ∷ checking ∷ [])) ≡ true
  pub twice : is_quiet three (joining_twice ∷ []) ≡ true
  pub after_twice : is_settled (after_rounds three (joining_twice ∷ [])) ≡ true

-- the source renews the leases of both in that round, at the second 19
pub record LeasesAreRenewed : Type 0 where
  pub quiet : is_quiet three (joining ∷ checking ∷ []) ≡ true
  pub lease : leased_by (table_of (after_rounds three (joining ∷ checking ∷ [])) 1) 1 2 ≡ Some 1
  pub end : at (node (after_rounds three (joining ∷ checking ∷ [])) 1).control.leases 2 None ≡ Some 49
  pub another : at (node (after_rounds three (joining ∷ checking ∷ [])) 1).control.leases 3 None ≡ Some 49

-- a node past the chain that has measured no way is joined to the source before that round and after it
pub record ParentIsKept : Type 0 where
  pub past : is_member (node (after_rounds three (joining ∷ [])) 2).control ≡ false
  pub rate : rate_to (node (after_rounds three (joining ∷ [])) 2).control 1 ≡ 0
  pub joined : mode_of (after_rounds three (joining ∷ [])) 2 ≡ Joined 1
  pub later : mode_of (after_rounds three (joining ∷ checking ∷ [])) 2 ≡ Joined 1
  pub seq : seq_of (after_rounds three (joining ∷ checking ∷ [])) 2 ≡ 1

-- The source is down: the second chain member asks it, and becomes the root where the failure is told.

abbrev alone : World
alone = begun (header 2 2 (0 ∷ 0 ∷ [])) (2 ∷ [])

abbrev told : Round
told = record { turns = turn 2 0 ∷ []; arrivals = 1 ∷ [] }

pub record FailuresAreTold : Type 0 where
  pub quiet : is_quiet alone (told ∷ []) ≡ true
  pub root : mode_of (after_rounds alone (told ∷ [])) 2 ≡ Acting
  pub settled : is_settled (after_rounds alone (told ∷ [])) ≡ true

-- Without that the member asks for ever, so ticks alone are no round.

abbrev untold : ℕ → Round
untold t = record { turns = turn 2 t ∷ []; arrivals = [] }

pub record UntoldFailuresAreNone : Type 0 where
  pub not_quiet : is_quiet alone (untold 0 ∷ []) ≡ false
  pub asks : mode_of (after_rounds alone (untold 0 ∷ untold 20 ∷ untold 40 ∷ [])) 2 ≡ Asking 1
  pub not_settled : is_settled (after_rounds alone (untold 0 ∷ untold 20 ∷ untold 40 ∷ [])) ≡ false

-- The source goes down while the second chain member is joined to it: its check-in fails, so it leaves the source, and acts as root.

abbrev pair : World
pair = begun (header 2 2 (0 ∷ 0 ∷ [])) (1 ∷ 2 ∷ [])

abbrev meeting : Round
meeting = record { turns = turn 1 0 ∷ turn 2 0 ∷ []; arrivals = 1 ∷ 2 ∷ [] }

-- the second member asks the source, and the answer comes in the same round
pub record AskIsAnswered : Type 0 where
  pub quiet : is_quiet pair (meeting ∷ []) ≡ true
  pub asks : mode_of (after_turns pair meeting.turns) 2 ≡ Asking 1
  pub answered : mode_of (after_rounds pair (meeting ∷ [])) 2 ≡ Joined 1

abbrev bereft : World
bereft = next_world (after_rounds pair (meeting ∷ [])) (Crash 1)

abbrev leaving : Round
leaving = record { turns = turn 2 5 ∷ []; arrivals = 3 ∷ 4 ∷ [] }

pub record ParentsAreLeft : Type 0 where
  pub met : is_quiet pair (meeting ∷ []) ≡ true
  pub joined : mode_of bereft 2 ≡ Joined 1
  pub quiet : is_quiet bereft (leaving ∷ []) ≡ true
  pub root : mode_of (after_rounds bereft (leaving ∷ [])) 2 ≡ Acting
  pub settled : is_settled (after_rounds bereft (leaving ∷ [])) ≡ true

-- Turns without a clock: the source ticks 40 seconds later, when each lease has ended, so the others have to ask anew; so it goes in
-- each such round. Such turns are no round.

abbrev late : Round
late = record {
  turns = turn 2 5 ∷ turn 3 7 ∷ turn 1 40 ∷ [];
  arrivals = 9 ∷ 10 ∷ 11 ∷ 12 ∷ 13 ∷ 14 ∷ 15 ∷ 16 ∷ 17 ∷ 18 ∷ 19 ∷ 20 ∷ 21 ∷ 22 ∷ [];
}

pub record TurnsNeedAClock : Type 0 where
  pub not_quiet : is_quiet three (joining ∷ late ∷ []) ≡ false
  pub joined : mode_of (after_rounds three (joining ∷ [])) 2 ≡ Joined 1
  pub seq : seq_of (after_rounds three (joining ∷ [])) 2 ≡ 1
  pub asks_anew : seq_of (after_rounds three (joining ∷ late ∷ [])) 2 ≡ 2

-- A child goes down: two rounds later its lease has ended, and the lease of the other child has not.

abbrev widowed : World
widowed = next_world (after_rounds three (joining ∷ [])) (Crash 2)

abbrev first : Round
first = record { turns = turn 3 7 ∷ turn 1 19 ∷ []; arrivals = 9 ∷ 10 ∷ 11 ∷ 12 ∷ 13 ∷ [] }

abbrev second : Round
second = record { turns = turn 3 27 ∷ turn 1 38 ∷ []; arrivals = 14 ∷ 15 ∷ 16 ∷ 17 ∷ 18 ∷ [] }

pub record DownAreForgotten : Type 0 where
  pub quiet : is_quiet widowed (first ∷ second ∷ []) ≡ true
  pub before : leased_by (table_of widowed 1) 1 2 ≡ Some 1
  pub later : leased_by (table_of (after_rounds widowed (first ∷ [])) 1) 1 2 ≡ Some 1
  pub forgotten : leased_by (table_of (after_rounds widowed (first ∷ second ∷ [])) 1) 1 2 ≡ None
  pub another : leased_by (table_of (after_rounds widowed (first ∷ second ∷ [])) 1) 1 3 ≡ Some 1

-- The source goes down when the second chain member comes up, and a node past the chain, a child of the source, finds the member: in
-- the round, if the member acts when it is asked, and otherwise in the next one.

abbrev orphan : World
orphan =
    next_world (next_world (after_rounds (begun (header 3 2 (0 ∷ 0 ∷ 0 ∷ [])) (1 ∷ 3 ∷ [])) (record { turns = turn 1 0 ∷ turn 3 0 ∷ []; arrivals = 1 ∷ 2 ∷ 3 ∷ 4 ∷ [] } ∷ [])) (Crash 1)) (Up 2)

abbrev soon : Round
soon = record { turns = turn 2 0 ∷ turn 3 5 ∷ []; arrivals = 5 ∷ 6 ∷ 7 ∷ 8 ∷ 9 ∷ 10 ∷ [] }

-- the member learns last that the source is down
abbrev refusing : Round
refusing = record { turns = turn 2 0 ∷ turn 3 5 ∷ []; arrivals = 6 ∷ 7 ∷ 8 ∷ 9 ∷ 10 ∷ 5 ∷ [] }

abbrev again : Round
again = record { turns = turn 2 18 ∷ turn 3 9 ∷ []; arrivals = 11 ∷ 12 ∷ 13 ∷ 14 ∷ [] }

pub record OrphansFindTheRoot : Type 0 where
  pub child : mode_of orphan 3 ≡ Joined 1
  pub before : is_ready orphan ≡ false
  pub quiet : is_quiet orphan (soon ∷ []) ≡ true
  pub found : is_ready (after_rounds orphan (soon ∷ [])) ≡ true
  pub late : is_quiet orphan (refusing ∷ again ∷ []) ≡ true
  pub refused : mode_of (after_rounds orphan (refusing ∷ [])) 3 ≡ Idle
  pub root : mode_of (after_rounds orphan (refusing ∷ [])) 2 ≡ Acting
  pub later : is_ready (after_rounds orphan (refusing ∷ again ∷ [])) ≡ true

-- The third node moves beneath the second and goes down: two rounds later its lease has ended there. Its old lease of the source ended
-- when the source was told that it moved.

abbrev nested : World
nested = world_after (after_rounds three (joining ∷ [])) (
    Do (At 1 CheckNow) ∷ Do (At 2 CheckNow) ∷ Do (Deliver 9) ∷ Do (Deliver 10) ∷ Do (At 3 (Relocate 2)) ∷ Do (Deliver 11) ∷ Do (Deliver 12) ∷ Crash 3 ∷ []
    )

abbrev telling : Round
telling = record { turns = turn 2 18 ∷ turn 1 19 ∷ []; arrivals = 13 ∷ 14 ∷ 15 ∷ 16 ∷ 17 ∷ [] }

abbrev ending : Round
ending = record { turns = turn 2 36 ∷ turn 1 38 ∷ []; arrivals = 18 ∷ 19 ∷ 20 ∷ 21 ∷ 22 ∷ [] }

pub record StaleLeasesEnd : Type 0 where
  pub child : mode_of nested 3 ≡ Joined 2
  pub at_source : leased_by (table_of nested 1) 1 3 ≡ Some 1
  pub at_parent : leased_by (table_of nested 2) 2 3 ≡ Some 2
  pub quiet : is_quiet nested (telling ∷ ending ∷ []) ≡ true
  pub moved : leased_by (table_of (after_rounds nested (telling ∷ [])) 1) 1 3 ≡ None
  pub still : leased_by (table_of (after_rounds nested (telling ∷ [])) 2) 2 3 ≡ Some 2
  pub forgotten : leased_by (table_of (after_rounds nested (telling ∷ ending ∷ [])) 2) 2 3 ≡ None

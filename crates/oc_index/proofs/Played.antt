-- The events that a merge plays lead from world to world, and the world is unchanged if memory runs
-- out.
use Rattle.std.proofs.Common.{◌≡◌, sym, subst}
use Rattle.oc_merge.specs.Records.{IsPlayed}
use Rattle.oc_model.specs.declared.event.Event.{Event}
use Rattle.oc_model.specs.declared.event.Event.TheVariants.{Up, Crash, Stop, Do, Held, Show, Settle, Heal}
use Rattle.oc_model.specs.NextWorld.{next_world}
use Rattle.oc_model.specs.World.{World}
use Rattle.oc_model.proofs.GoesOn.{net-next_world}
use Rattle.oc_replay.specs.Stage.{HasTimeFor}
use Rattle.oc_index.specs.Index.{IsIndex, NumbersView}
use Rattle.oc_index.proofs.Indexed.{grown}
use Rattle.oc_world.specs.Inside.{IsLeftBy}

-- an event that a merge plays asks nothing of the clocks
pub played_time : (w : World) (e : Event) → IsPlayed e → HasTimeFor w e
played_time w (Up x) played = tt
played_time w (Crash x) played = tt
played_time w (Do act) played = tt
played_time w (Stop calls image act) played = absurd played
played_time w (Held x) played = absurd played
played_time w (Show x) played = absurd played
played_time w Settle played = absurd played
played_time w Heal played = absurd played

pub left_same : (e : Event) (old new : World) → IsPlayed e → IsLeftBy e old new → new ≡ old
left_same (Up x) old new played left = left
left_same (Crash x) old new played left = left
left_same (Do act) old new played left = left
left_same (Stop calls image act) old new played left = absurd played
left_same (Held x) old new played left = absurd played
left_same (Show x) old new played left = absurd played
left_same Settle old new played left = absurd played
left_same Heal old new played left = absurd played

-- the index is one of the net after an event
pub index_behind : (old new : World) (e : Event) (n : NumbersView) → new ≡ next_world old e → IsIndex old.net n → IsIndex new.net n
index_behind old new e n is index =
    let (more, grows) = net-next_world old e in
    subst (λ (w : World). IsIndex w.net n) (sym is) (grown old.net more (next_world old e).net n grows index)

-- the index is one of the net where nothing happened
pub index_left : (old new : World) (e : Event) (n : NumbersView) → IsPlayed e → IsLeftBy e old new → IsIndex old.net n → IsIndex new.net n
index_left old new e n played left index = subst (λ (w : World). IsIndex w.net n) (sym (left_same e old new played left)) index

use Rattle.std.proofs.Common.{◌+◌, ◌≤◌, length, arith}
use Rattle.oc_state.specs.DurableView.{brought}
use Rattle.oc_state.proofs.durable.Durable.fold.Goals as goal

pub begin-requires-clause-room : goal.begin-requires-clause-room
begin-requires-clause-room c =
    let room : length c.self.inside.table.entries + brought c.args.change ≤ c.self.inside.room = rw (← c.self.view_is) at c.requires.room.rows in
    omega (arith, c.self.invariant.2)

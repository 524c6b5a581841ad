-- A hash that was indexed leads to the first message with it.
use Rattle.std.proofs.Common.{◌∙◌, sym}
use Rattle.oc_index.proofs.Indexed.{from_some}
use Rattle.oc_index.proofs.indexed_world.IndexedWorld.first_with.Goals as goal

pub returns-in-Some : goal.returns-in-Some
returns-in-Some c =
    from_some c.args.self.now.world.world.net c.args.self.now.numbers c.args.hash c.in-Some.number c.args.self.now.indexed (sym c.in-Some.is ∙ c.least.ensures)

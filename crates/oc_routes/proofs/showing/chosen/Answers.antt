use Rattle.oc_routes.proofs.Sendings.{part_chosen}
use Rattle.oc_routes.proofs.showing.chosen.Goals as goal

pub returns-in-Part : goal.returns-in-Part
returns-in-Part c =
    part_chosen c.part_served.result c.args.client.now c.args.sealed c.args.count c.args.content.now c.in-Part.start c.in-Part.count c.in-Part.is c.part_served.ensures

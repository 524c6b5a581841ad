use Rattle.std.proofs.Common.{rules, ◌≡◌, ℕ, true, Option, Some, None, ap, subst, sym, ◌∙◌}
use Rattle.oc_model.specs.World.{is_up}
use Rattle.oc_merge.specs.declared.told.Told.{Told}
use Rattle.oc_merge.specs.declared.told.Told.TheVariants.{Came}
use Rattle.oc_merge.specs.declared.way.Way.TheVariants.{Number}
use Rattle.oc_merge.specs.Heads.{IsNumberFor, IsWay}
use Rattle.oc_merge.specs.Recorded.{message_of}
use Rattle.oc_merge.proofs.Ways.{came_way, came_none}
use Rattle.oc_merge.proofs.way.way_of.Goals as goal

pub returns-in-Some : goal.returns-in-Some
returns-in-Some g c =
    let w = g.N.Nodes.world c.args.nodes.now in
    let x = c.args.line.now.node in
    let number : IsNumberFor w.net x (message_of c.args.count c.items.result.now) (Some c.in-Some.number) =
    subst (λ (found : Option ℕ). IsNumberFor w.net x (message_of c.args.count c.items.result.now) found) c.in-Some.is c.in_ok-number-in-Came.ensures in
    let up : is_up w x ≡ true = search rules in
    subst (λ (t : Told). IsWay g.N.Nodes.digest c.args.count w x t (Some (Number c.in-Some.number))) (sym (c.in-Came.is ∙ ap Came (sym c.items.ensures)))
    (came_way g.N.Nodes.digest c.args.count x w c.items.result.now c.in-Some.number up number)

pub returns-in-None : goal.returns-in-None
returns-in-None g c =
    let w = g.N.Nodes.world c.args.nodes.now in
    let x = c.args.line.now.node in
    let number : IsNumberFor w.net x (message_of c.args.count c.items.result.now) None =
    subst (λ (found : Option ℕ). IsNumberFor w.net x (message_of c.args.count c.items.result.now) found) c.in-None.is c.in_ok-number-in-Came.ensures in
    subst (λ (t : Told). IsWay g.N.Nodes.digest c.args.count w x t None) (sym (c.in-Came.is ∙ ap Came (sym c.items.ensures)))
    (came_none g.N.Nodes.digest c.args.count x w c.items.result.now number)

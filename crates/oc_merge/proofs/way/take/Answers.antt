use Rattle.std.proofs.Common.{length, ap, subst, sym, ◌∙◌}
use Rattle.oc_model.specs.Lawful.{IsGiven}
use Rattle.oc_model.specs.World.{ids}
use Rattle.oc_merge.specs.declared.told.Told.{Told}
use Rattle.oc_merge.specs.declared.told.Told.TheVariants.{Took}
use Rattle.oc_merge.specs.Records.{IsTold}
use Rattle.oc_merge.proofs.Ways.{both_ok, given_other, taken_input}
use Rattle.oc_merge.proofs.way.take.Goals as goal

pub copied-requires : goal.copied-requires
copied-requires g c =
    let nodes = length (ids (g.N.Nodes.world c.args.nodes.now)) in
    let given : IsTold nodes c.args.line.now.node (Took c.in-Took.input) = subst (λ (t : Told). IsTold nodes c.args.line.now.node t) c.in-Took.is c.requires.line.1 in
    given_other nodes c.args.line.now.node c.in-Took.input given

pub play-requires-in-Took-clause-event : goal.play-requires-in-Took-clause-event
play-requires-in-Took-clause-event g c =
    let nodes = length (ids (g.N.Nodes.world c.args.nodes.now)) in
    let given : IsTold nodes c.args.line.now.node (Took c.in-Took.input) = subst (λ (t : Told). IsTold nodes c.args.line.now.node t) c.in-Took.is c.requires.line.1 in
    (c.requires.line.0, subst (IsGiven nodes c.args.line.now.node) (sym c.in_ok-copied-in-Took.ensures) given)

pub returns-in_ok-copied-in-Took : goal.returns-in_ok-copied-in-Took
returns-in_ok-copied-in-Took g c =
    let w = g.N.Nodes.world c.args.nodes.now in
    let nodes = length (ids w) in
    let given : IsTold nodes c.args.line.now.node (Took c.in-Took.input) = subst (λ (t : Told). IsTold nodes c.args.line.now.node t) c.in-Took.is c.requires.line.1 in
    both_ok c.play-in-Took.result c.play-in-Took.ensures.world c.play-in-Took.ensures.events
    (λ leads behind. taken_input nodes w (g.N.Nodes.world c.play-in-Took.new.nodes) c.args.line.now c.in_ok-copied-in-Took.field-0 c.args.events.now c.play-in-Took.new.events (c.in-Took.is ∙ ap Took (sym c.in_ok-copied-in-Took.ensures)) (subst (IsGiven nodes c.args.line.now.node) (sym c.in_ok-copied-in-Took.ensures) given) behind leads)

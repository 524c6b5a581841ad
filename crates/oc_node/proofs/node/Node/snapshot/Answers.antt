use Rattle.oc_laws_step.proofs.Unfolding.{snapshot_stands}
use Rattle.oc_state.proofs.LawfulSnapshots.{lawful_list}
use Rattle.oc_state.proofs.Snapshotting.{if_ok_then, stands_by}
use Rattle.oc_node.proofs.node.Node.snapshot.Goals as goal

pub returns-clause-stands : goal.returns-clause-stands
returns-clause-stands c =
    rw (← c.self.view_is) (if_ok_then c.snapshot.result _ _ (λ list e. stands_by snapshot_stands c.self.inside.nodes c.args.generation c.self.inside.durable.kept list.items c.self.invariant.1.sound.kept e) c.snapshot.ensures)

pub returns-clause-lawful : goal.returns-clause-lawful
returns-clause-lawful c =
    rw (← c.self.view_is) (if_ok_then c.snapshot.result _ _ (λ list e. lawful_list c.self.inside.nodes c.args.generation c.self.inside.durable.kept list.items c.self.invariant.1.header.some c.self.invariant.1.sound.kept.measures c.self.invariant.1.lawful.kept e) c.snapshot.ensures)

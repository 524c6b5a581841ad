use Rattle.std.proofs.Common.{◌≡◌, ◌<◌, List, length, ap, sym, subst, ◌∙◌}
use Rattle.oc_model.specs.declared.record.Record.{Record}
use Rattle.oc_model.specs.Node.{Control}
use Rattle.oc_model.specs.Records.{folded}
use Rattle.oc_state.specs.DurableView.{DurableView}
use Rattle.oc_state.specs.declared.list_update.ListUpdate.{ListUpdate}
use Rattle.oc_state.specs.ListUpdates.{leases_after, rates_after, counts_after}
use Rattle.oc_state.specs.Volatile.{soft_of}
use Rattle.oc_step.specs.Applying.{HaveRoom}
use Rattle.oc_step.specs.NodeView.{NodeView, IsReached, control_of}
use Rattle.oc_step.specs.Planned.{control_after}
use Rattle.oc_node.proofs.Applying.{control_applied, lists_reserved, soft_applied}
use Rattle.oc_node.proofs.node.Node.apply.Goals as goal

pub update_all-requires-clause-lists : goal.update_all-requires-clause-lists
update_all-requires-clause-lists c =
    let n = c.self.inside in
    let p = c.args.plan in
    let sound = c.self.invariant.1.sound in
    lists_reserved c.deref.result.now p.updates c.table.result.now.nodes n.nodes n.leases n.rates n.counts (c.deref.ensures.value ∙ c.into_changes-records.ensures.updates) (c.table.ensures.nodes ∙ c.self.invariant.0) sound.leases sound.rates sound.counts
    (subst (λ (v : NodeView). 0 < length p.updates → HaveRoom v.control.nodes v.lists) (sym c.self.view_is) c.requires.room.1)

-- the control state at the end
control_at_end : (c : goal.After-drop-updates) → control_of c.self.inside.id c.self.inside.nodes c.self.inside.chain c.self.inside.chunk c.self.inside.areas.items c.fold_all.new.self.kept (soft_of c.into_changes-records.result.volatile c.step.new.self) c.update_all.new.leases.ends c.update_all.new.rates.items c.update_all.new.counts.items ≡ control_after c.args.self.now.control c.args.plan
control_at_end c =
    let n = c.self.inside in
    let p = c.args.plan in
    let changes = c.into_changes-records in
    let updates : c.deref.result.now ≡ p.updates = c.deref.ensures.value ∙ changes.ensures.updates in
    control_applied n.id n.nodes n.chain n.chunk n.areas.items n.durable.kept c.fold_all.new.self.kept (soft_of n.volatile n.tries) (soft_of changes.result.volatile c.step.new.self) n.leases.ends c.update_all.new.leases.ends n.rates.items c.update_all.new.rates.items n.counts.items c.update_all.new.counts.items c.args.self.now.control p
    (ap (λ (v : NodeView). v.control) c.self.view_is)
    (ap (λ (d : DurableView). d.kept) c.fold_all.ensures ∙ ap (λ (rs : List Record). folded n.durable.kept rs) changes.ensures.records)
    (soft_applied (soft_of n.volatile n.tries) p changes.result.volatile changes.result.tries changes.result.taken c.step.new.self changes.ensures.volatile changes.ensures.tries changes.ensures.taken c.step.ensures)
    (c.update_all.ensures.leases ∙ ap (λ ks. leases_after ks n.id n.leases.ends c.deref.result.now) c.table.ensures.entries ∙ ap (λ (ts : List ListUpdate). leases_after n.durable.kept.table n.id n.leases.ends ts) updates)
    (c.update_all.ensures.rates ∙ ap (λ (ts : List ListUpdate). rates_after n.rates.items ts) updates)
    (c.update_all.ensures.counts ∙ ap (λ (ts : List ListUpdate). counts_after n.counts.items ts) updates)

pub invariant_of-self : goal.invariant_of-self
invariant_of-self c = (ap (λ (d : DurableView). d.nodes) c.fold_all.ensures ∙ c.self.invariant.0, subst (λ (n : Control). IsReached n) (sym (control_at_end c)) c.requires.reached)

pub returns-clause-control : goal.returns-clause-control
returns-clause-control c = control_at_end c

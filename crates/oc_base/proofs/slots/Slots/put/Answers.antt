use Rattle.std.proofs.Common.{◌≡◌, ◌<◌, ◌∙◌, ap, set, arith, length}
use Rattle.oc_base.specs.SlotsView.{filled_up}
use Rattle.oc_base.proofs.Filling.{filled_length, put_written}
use Rattle.oc_base.proofs.slots.Slots.put.Goals as goal

pub returns-clause-items : goal.returns-clause-items
returns-clause-items g c =
    let before = c.self.inside in
    let many : length (filled_up before.count before.blank before.written.items) ≡ before.count = filled_length before.count before.blank before.written.items c.self.invariant in
    let all : length (filled_up before.count before.blank before.written.items) ≡ length c.args.self.now.items = ap (λ v. length v.items) c.self.view_is in
    let within : c.args.slot < before.count = omega (arith, c.requires.slot, many, all) in
    ap (λ ws. filled_up before.count before.blank (set ws c.args.slot c.args.value)) c.write_up_to.ensures.items
    ∙ put_written before.count c.args.slot before.blank c.args.value before.written.items c.self.invariant within
    ∙ ap (λ v. set v.items c.args.slot c.args.value) c.self.view_is

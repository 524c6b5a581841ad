use Rattle.std.proofs.Common.{◌≡◌, ◌∙◌, ap, sym, length, replicate}
use Rattle.oc_base.specs.SlotsView.{filled_up}
use Rattle.oc_base.proofs.Filling.{filled_length, none_written}
use Rattle.oc_base.proofs.slots.Slots.fill.Goals as goal

pub returns-clause-items : goal.returns-clause-items
returns-clause-items g c =
    let before = c.self.inside in
    let many : length (filled_up before.count before.blank before.written.items) ≡ before.count = filled_length before.count before.blank before.written.items c.self.invariant in
    let all : length (filled_up before.count before.blank before.written.items) ≡ length c.args.self.now.items = ap (λ v. length v.items) c.self.view_is in
    none_written before.count c.args.value _ (cc)
    ∙ ap (λ n. replicate n c.args.value) (sym many ∙ all)

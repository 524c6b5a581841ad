use Rattle.std.proofs.Common.{rules}
use Rattle.oc_link.specs.contracts.mem_dialler.MemDialler.{the_view}
use Rattle.oc_link.proofs.MemDiallerStory.{dials_to, dial_fails}
use Rattle.oc_link.proofs.mem_dialler.MemDiallerDialler.dial.Goals as goal

pub returns-then-is_err-clause-fails : goal.returns-then-is_err-clause-fails
returns-then-is_err-clause-fails c =
    let l = c.self.inside in
    dial_fails c.args.address.now c.args.bytes.now c.args.self.now
    (the_view (record { dials = c.refuse.new.self; cut = l.cut; calls = c.call_if.new.self }))
    (search rules) (search rules)

pub returns-clause-dials : goal.returns-clause-dials
returns-clause-dials c =
    let l = c.self.inside in
    dials_to c.args.address.now c.args.bytes.now c.args.self.now
    (the_view (record { dials = c.begin.new.self; cut = l.cut; calls = c.call_if.new.self }))
    (search rules)

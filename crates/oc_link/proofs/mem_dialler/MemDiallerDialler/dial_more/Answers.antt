use Rattle.std.proofs.Common.{rules}
use Rattle.oc_link.specs.contracts.mem_dialler.MemDialler.{the_view}
use Rattle.oc_link.proofs.MemDiallerStory.{dial_more_breaks}
use Rattle.oc_link.proofs.mem_dialler.MemDiallerDialler.dial_more.Goals as goal

pub returns-then-is_err-clause-breaks : goal.returns-then-is_err-clause-breaks
returns-then-is_err-clause-breaks c =
    let l = c.self.inside in
    dial_more_breaks c.args.bytes.now c.args.self.now
    (the_view (record { dials = c.fail.new.self; cut = l.cut; calls = c.call_if.new.self }))
    (search rules) (search rules)

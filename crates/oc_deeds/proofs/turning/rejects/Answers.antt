use Rattle.std.proofs.Common.{Option, ap}
use Rattle.oc_routes.specs.declared.tally.MessageFault.{MessageFault}
use Rattle.oc_deeds.specs.Deeds.{Rejects}
use Rattle.oc_deeds.specs.Parts.{one}
use Rattle.oc_deeds.specs.Turns.{rejects}
use Rattle.oc_deeds.proofs.turning.rejects.Goals as goal

pub returns-in-Some : goal.returns-in-Some
returns-in-Some g c =
    let s = c.args.doer.now in
    c.parts_go_on.ensures.as_same (one (Rejects c.in-Some.fault)) (rejects c.args.refused) s c.rejects.new.self (λ honest. ap (λ (o : Option MessageFault). rejects o (g.W.Doer.setting s) (g.W.Doer.running s)) c.in-Some.is) c.rejects.ensures

pub returns-in-None : goal.returns-in-None
returns-in-None g c =
    let s = c.args.doer.now in
    c.parts_go_on.ensures.nothing_done (rejects c.args.refused) s c.requires (λ honest. ap (λ (o : Option MessageFault). rejects o (g.W.Doer.setting s) (g.W.Doer.running s)) c.in-None.is)

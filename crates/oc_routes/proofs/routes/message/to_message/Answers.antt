use Rattle.std.proofs.Common.{Bor, Option, option_map, ap}
use Rattle.oc_model.specs.declared.message.Message.{Message}
use Rattle.oc_routes.proofs.Brought.{brought}
use Rattle.oc_routes.proofs.routes.message.to_message.Goals as goal

pub returns : goal.returns
returns c =
    brought c.whole.result c.in-Some.message.now _ _ c.in_ok-body.body.items c.deref.result.now c.in_ok-mac.mac c.with_mac.result c.args.last
    (ap (λ (o : Option (Bor Message)). option_map (λ m. m.now) o) c.in-Some.is)
    c.in_ok-body.ensures c.deref.ensures.value c.in_ok-mac.ensures c.with_mac.ensures c.whole.ensures

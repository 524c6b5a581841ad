use Rattle.std.proofs.Common.{◌∙◌, sym}
use Rattle.oc_routes.proofs.Sendings.{kept_here, sent_told}
use Rattle.oc_routes.proofs.showing.sent_on.Goals as goal

pub returns-then-is_empty : goal.returns-then-is_empty
returns-then-is_empty c =
    kept_here c.here.result c.args.address.now c.args.client.now c.args.holding (sym c.is_empty.ensures ∙ c.if-is_empty.true) c.here.ensures

pub returns : goal.returns
returns c =
    sent_told c.sent_to.result c.args.address.now c.args.client.now c.args.holding c.deref.result.now c.in_ok-location.location.items
    (sym c.is_empty.ensures ∙ c.if-is_empty.false) (c.deref.ensures.value ∙ c.in_ok-told.ensures) c.in_ok-location.ensures c.sent_to.ensures

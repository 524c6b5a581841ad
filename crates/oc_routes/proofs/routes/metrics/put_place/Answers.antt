use Rattle.std.proofs.Common.{◌≡◌, ◌∙◌, ap, codes}
use Rattle.std.specs.Int.{from_bool}
use Rattle.oc_model.specs.Adopting.{is_acting}
use Rattle.oc_model.specs.Records.{is_joined}
use Rattle.oc_routes.specs.Metrics.{gauge}
use Rattle.oc_routes.proofs.Texts.{last_put, then_put}
use Rattle.oc_routes.proofs.routes.metrics.put_place.Goals as goal

-- one metric after the other
pub returns : goal.returns
returns c =
    let mode = c.args.node.now.control.kept.mode in
    let acting : c.from-acting.result ≡ from_bool (is_acting mode) = c.from-acting.ensures ∙ ap from_bool (c.is_acting.ensures ∙ ap is_acting c.mode.ensures) in
    let joined : c.from-joined.result ≡ from_bool (is_joined mode) = c.from-joined.ensures ∙ ap from_bool (c.is_joined.ensures ∙ ap is_joined c.mode-2.ensures) in
    last_put _ c.args.out.now.items _ _ _ (gauge (codes "overcast_joined") (codes "The node is joined to a parent.") (from_bool (is_joined mode)))
    (then_put c.args.out.now.items _ _ (gauge (codes "overcast_up") (codes "The node answers.") 1) (gauge (codes "overcast_acting") (codes "The node acts as root.") (from_bool (is_acting mode)))
    c.in_ok-put_gauge.ensures (rw acting at c.in_ok-put_gauge-2.ensures)) (rw joined at c.put_gauge-3.ensures)

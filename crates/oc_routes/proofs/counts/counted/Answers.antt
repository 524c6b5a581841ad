use Rattle.std.proofs.Common.{◌≡◌, ◌∙◌, ℕ, ◌-◌, ap, filter, length, refl, sym}
use Rattle.oc_model.specs.Node.{Log}
use Rattle.oc_model.specs.Table.{is_lease_of}
use Rattle.oc_routes.specs.declared.rows.Row.{Row}
use Rattle.oc_routes.proofs.Counting.{counted_is}
use Rattle.oc_routes.proofs.counts.counted.Goals as goal

pub returns : goal.returns
returns c =
    let node = c.args.node.now.control in
    let rows = c.args.rows.now in
    let children : c.children_among.result ≡ length (filter (λ (row : Row). is_lease_of node.me row.cert) rows) =
    c.children_among.ensures ∙ ap (λ (me : ℕ). length (filter (λ (row : Row). is_lease_of me row.cert) rows)) c.id.ensures in
    let all : c.length.result ≡ node.kept.log.length = c.length.ensures.length ∙ ap (λ (log : Log). log.length) c.log.ensures.log in
    let acked : c.acked.result ≡ node.kept.log.acked = c.acked.ensures.acked ∙ ap (λ (log : Log). log.acked) c.log-2.ensures.log in
    let waiting : c.length.result - c.acked.result ≡ node.kept.log.length - node.kept.log.acked = cc in
    sym (counted_is node rows c.listed_among.result (length rows) c.children_among.result c.clients.result (c.length.result - c.acked.result)
    c.requires c.listed_among.ensures refl children c.clients.ensures waiting)

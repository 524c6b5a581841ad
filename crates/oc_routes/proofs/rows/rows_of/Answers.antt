use Rattle.std.proofs.Common.{List, ◌++◌, ◌∙◌, ap, map}
use Rattle.oc_base.specs.declared.cert.Line.{Line}
use Rattle.oc_routes.proofs.Marks.{rows_found}
use Rattle.oc_routes.specs.Rows.{marked}
use Rattle.oc_routes.specs.declared.rows.Row.{Row}
use Rattle.oc_routes.proofs.rows.rows_of.Goals as goal

pub returns : goal.returns
returns c =
    rows_found c.args.table.now.entries c.args.me c.rows.result.now.items (map (λ (line : Line). line.node) c.deref.result.now) _ c.rows.ensures.rows.0 c.rows.ensures.entries
    (ap (λ (ls : List Line). map (λ (line : Line). line.node) ls) c.deref.ensures.value ∙ c.in_ok-lines.ensures.nodes)
    (c.in_ok-push_rows.ensures ∙ ap (λ (rs : List Row). rs ++ marked c.rows.result.now.items (map (λ (line : Line). line.node) c.deref.result.now)) c.new-made.ensures.items)

-- The reports of a node, as they are asked for.
use Rattle.std.specs.Prelude.{ℕ, Bool, None, List, [], ◌++◌, length}
use Rattle.oc_http.specs.Writing.{head_text}
use Rattle.oc_http.specs.declared.content_type.ContentType.{ContentType}
use Rattle.oc_http.specs.declared.content_type.ContentType.TheVariants as types
use Rattle.oc_http.specs.declared.framing.Framing.TheVariants as framings
use Rattle.oc_routes.specs.Connections.{connection_for}
use Rattle.oc_routes.specs.Manners.{body_for}
use Rattle.oc_routes.specs.Metrics.{metrics_text}
use Rattle.oc_routes.specs.Page.{page_text}
use Rattle.oc_routes.specs.Responses.{typed_as}
use Rattle.oc_routes.specs.Sights.{Sight}
use Rattle.oc_routes.specs.Status.{status_text}
use Rattle.oc_routes.specs.declared.manner.Manner.{Manner}
use Rattle.oc_routes.specs.declared.report.Report.{Report}
use Rattle.oc_routes.specs.declared.report.Report.TheVariants as reports
use Rattle.oc_routes.specs.declared.response.Response.{Response}
use Rattle.oc_routes.specs.declared.routes.Operation.{Operation}
use Rattle.oc_routes.specs.declared.routes.Operation.TheVariants as asks

-- the type of a report
abbrev pub content_type_of : Report → ContentType
content_type_of reports.Status = types.Json
content_type_of reports.Metrics = types.Metrics
content_type_of reports.Page = types.Html

-- of a node that is looked at so
abbrev pub report_text : Report → Sight → List ℕ
report_text reports.Status s = status_text s
report_text reports.Metrics s = metrics_text s
report_text reports.Page s = page_text

-- The text of the report that is asked for; without one no text.
abbrev pub report_of : Operation → Sight → List ℕ
report_of (asks.Report report manner) s = report_text report s
report_of other s = []

-- the reply to a request for a report with this text
abbrev pub report_response : Report → Manner → Bool → List ℕ → Response
report_response report manner last text = record {
  text = head_text (typed_as (content_type_of report) []) (framings.Length (length text)) (connection_for last) ++ body_for manner text;
  content = None;
  connection = connection_for last;
}

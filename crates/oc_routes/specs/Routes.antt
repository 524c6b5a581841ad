-- The table of routes: the operation that the head of a request asks of a node, the input that results, and the answer.
use Rattle.std.specs.Prelude.{◌≡◌, ℕ, ◌-◌, Bool, true, false, not, ◌&&◌, ◌||◌, nat_eq, if◌then◌else◌, Option, Some, None, Result, Ok, Err, List, [], ◌∷◌, codes, take}
use Rattle.std.specs.List.{list_any, starts_with}
use Rattle.std.specs.Str.{bytes_eq}
use Rattle.oc_base.specs.Names.{parsed_name}
use Rattle.oc_base.specs.Steps.{◌>>=◌}
use Rattle.oc_base.specs.declared.group_name.NameFault.{NameFault}
use Rattle.oc_http.specs.Paths.{message_path, probe_path}
use Rattle.oc_http.specs.declared.head.Head.{Head}
use Rattle.oc_http.specs.declared.head.Method.{Method}
use Rattle.oc_http.specs.declared.head.Method.TheVariants as methods
use Rattle.oc_model.specs.declared.answer.Answer.{Answer}
use Rattle.oc_model.specs.declared.input.Input.{Input}
use Rattle.oc_model.specs.declared.input.Input.TheVariants as inputs
use Rattle.oc_model.specs.declared.message.Message.{Message}
use Rattle.oc_select.specs.declared.selection.Selection.{Selection}
use Rattle.oc_policy.specs.Rules.{rule_matches, verdict}
use Rattle.oc_policy.specs.declared.deciding.Decision.{Decision}
use Rattle.oc_policy.specs.declared.deciding.Decision.TheVariants.{Allowed, Denied}
use Rattle.oc_policy.specs.declared.rule.Action.{Action}
use Rattle.oc_policy.specs.declared.rule.Action.TheVariants.{Get, Post}
use Rattle.oc_policy.specs.declared.rule.Rule.{Rule}
use Rattle.oc_wire.specs.MessageReading.{decoded}
use Rattle.oc_routes.specs.Group.{group_response}
use Rattle.oc_routes.specs.Manners.{manner_of}
use Rattle.oc_routes.specs.Message.{delivered, message_response}
use Rattle.oc_routes.specs.Probe.{probe_response}
use Rattle.oc_routes.specs.Publish.{publish_response}
use Rattle.oc_routes.specs.Queries.{query_in}
use Rattle.oc_routes.specs.Reports.{report_response}
use Rattle.oc_routes.specs.Responses.{source_in}
use Rattle.oc_routes.specs.Seal.{seal_input, seal_response}
use Rattle.oc_routes.specs.declared.routes.Operation.{Operation}
use Rattle.oc_routes.specs.declared.routes.Operation.TheVariants as operations
use Rattle.oc_routes.specs.declared.routes.Resource.{Resource}
use Rattle.oc_routes.specs.declared.routes.Resource.TheVariants.{Messages, Probe, Report as OwnReport, Group}
use Rattle.oc_routes.specs.declared.routes.metrics.TheConstants.{METRICS_NAME, METRICS_PATH}
use Rattle.oc_routes.specs.declared.routes.page.TheConstants.{PAGE_NAME, PAGE_PATH}
use Rattle.oc_routes.specs.declared.routes.status.TheConstants.{STATUS_NAME, STATUS_PATH}
use Rattle.oc_routes.specs.declared.fault.RouteFault.{RouteFault}
use Rattle.oc_routes.specs.declared.fault.RouteFault.TheVariants as faults
use Rattle.oc_routes.specs.declared.hint.Asked.{Asked}
use Rattle.oc_routes.specs.declared.hint.Hint.{Hint}
use Rattle.oc_routes.specs.declared.holding.Holding.{Holding}
use Rattle.oc_routes.specs.declared.query.Query.{Query}
use Rattle.oc_routes.specs.declared.refused.Refused.{Refused}
use Rattle.oc_routes.specs.declared.refused.Refused.TheVariants as refusals
use Rattle.oc_routes.specs.declared.report.Report.{Report}
use Rattle.oc_routes.specs.declared.report.Report.TheVariants as reports
use Rattle.oc_routes.specs.declared.response.Response.{Response}

-- The resources that paths name

-- the action of a method: GET and HEAD read, POST writes
abbrev pub action_of : Method → Result Action Refused
action_of methods.Get = Ok Get
action_of methods.Head = Ok Get
action_of methods.Post = Ok Post
action_of methods.Other = Err refusals.Method

-- the paths that name no group, with the resources that are read there and posted there: messages are posted, a probe and reports are
-- read, each report by two names
abbrev pub rows : Action → List (List ℕ × Resource)
rows Get =
    (probe_path, Probe)
    ∷ (STATUS_PATH.now, OwnReport reports.Status)
    ∷ (STATUS_NAME.now, OwnReport reports.Status)
    ∷ (METRICS_PATH.now, OwnReport reports.Metrics)
    ∷ (METRICS_NAME.now, OwnReport reports.Metrics)
    ∷ (PAGE_PATH.now, OwnReport reports.Page)
    ∷ (PAGE_NAME.now, OwnReport reports.Page)
    ∷ []
rows Post = (message_path, Messages) ∷ []

-- the resource that the first row of this path names
abbrev pub named_in : List ℕ → List (List ℕ × Resource) → Option Resource
named_in path [] = None
named_in path (row ∷ more) = if bytes_eq path (row.0) then Some (row.1) else named_in path more

abbrev pub resource_at : Action → List ℕ → Option Resource
resource_at action path = named_in path (rows action)

-- the group of a path that is a group name
abbrev pub named_group : Result (List ℕ) NameFault → Result Resource Refused
named_group (Ok group) = Ok (Group group)
named_group (Err fault) = Err refusals.Path

abbrev pub group_in : List ℕ → Result Resource Refused
group_in path = named_group (parsed_name path)

-- a path that is the program's, and no group's: `/-`, and all that begins with `/-/`
abbrev pub is_own : List ℕ → Bool
is_own path = bytes_eq path (codes "/-") || starts_with nat_eq path (codes "/-/")

abbrev pub resource_or : Option Resource → List ℕ → Result Resource Refused
resource_or (Some resource) path = Ok resource
resource_or None path = if is_own path then Err refusals.Path else group_in path

-- the resource that a path names: a row of the table, and any other path that is not the program's is a group
abbrev pub resource_in : Action → List ℕ → Result Resource Refused
resource_in action path = resource_or (resource_at action path) path

-- the resource of the path that was asked for; refused where an escape is broken
abbrev pub resource_named : Action → Option (List ℕ) → Result Resource Refused
resource_named action None = Err refusals.Path
resource_named action (Some path) = resource_in action path

-- The access rules that speak of a resource

-- the name of a report for the rules, which is that of a group with `/-/`; the page is `/-`, which lies within the same prefixes as `/-/`
abbrev pub report_name : Report → List ℕ
report_name reports.Status = codes "/-/status"
report_name reports.Metrics = codes "/-/metrics"
report_name reports.Page = codes "/-"

-- the name by which the rules speak of a resource; all else is permitted to all
abbrev pub name_of : Resource → Option (List ℕ)
name_of (Group group) = Some group
name_of (OwnReport report) = Some (report_name report)
name_of resource = None

-- a rule that allows would match this with its token
abbrev pub would_allow : Action → List ℕ → ℕ → Rule → Bool
would_allow action name area rule = rule.allow && rule_matches (record rule { token = None }) action (Some name) area None

-- one of the rules before the one of this number would allow the action with its token
abbrev pub needs_token : List Rule → Action → List ℕ → ℕ → ℕ → Bool
needs_token rules action name area number = list_any (would_allow action name area) (take (number - 1) rules)

-- the decision of the rules; a client that has shown nothing that could be a token is told whether one would do
abbrev pub permitted_by : List Rule → Action → List ℕ → ℕ → Bool → Decision → Result (Unit {0}) Refused
permitted_by rules action name area bare Allowed = Ok tt
permitted_by rules action name area bare (Denied rule) = Err (refusals.Denied rule (bare && needs_token rules action name area rule))

abbrev pub permitted_as : List Rule → Action → Option (List ℕ) → ℕ → Bool → Option (List ℕ) → Result (Unit {0}) Refused
permitted_as rules action None area bare shown = Ok tt
permitted_as rules action (Some name) area bare shown = permitted_by rules action name area bare (verdict rules action (Some name) area shown)

-- `bare` says that there is no Authorization field, and `shown` is the value of the only one
abbrev pub permitted : List Rule → Action → Resource → ℕ → Bool → Option (List ℕ) → Result (Unit {0}) Refused
permitted rules action resource area bare shown = permitted_as rules action (name_of resource) area bare shown

-- The operation that is asked

-- the operation on a group: a part `seal` counts in a POST alone
abbrev pub asked_of_group : Method → ℕ → Query → List ℕ → Operation
asked_of_group methods.Post minor query group = if query.seal then operations.Seal group query.at else operations.Publish group query.at
asked_of_group method minor query group = operations.Client group query.area query.start (manner_of method minor query.follow)

-- a condition counts in a POST of a group alone
abbrev pub is_conditional : Action → Resource → Bool
is_conditional Post (Group group) = true
is_conditional action resource = false

-- the operation on a resource
abbrev pub asked_at : Method → ℕ → Query → Resource → Operation
asked_at method minor query Messages = operations.Message
asked_at method minor query Probe = operations.Probe (manner_of method minor query.follow)
asked_at method minor query (OwnReport report) = operations.Report report (manner_of method minor query.follow)
asked_at method minor query (Group group) = asked_of_group method minor query group

-- The operation of a head under these access rules, or the first fault: method, path, query, rules.
abbrev pub asked : Head → List Rule → Result Operation Refused
asked head rules = do
  action ← action_of head.method
  resource ← resource_named action head.path
  query ← query_in head.query (is_conditional action resource)
  allowed ← permitted rules action resource query.area (not head.has_authorization) head.authorization
  Ok (asked_at head.method head.minor query resource)

-- The input that results from a request

-- The input of the node `me`, one of `nodes` nodes, that results from an operation and the body; a probe and a report give none.
abbrev pub input_asked : ℕ → ℕ → Operation → List ℕ → Result (Option Input) Refused
input_asked nodes me operations.Message body = delivered me (decoded nodes body)
input_asked nodes me (operations.Publish group at) body = Ok (Some (inputs.Publish group body))
input_asked nodes me (operations.Seal group at) body = seal_input group body
input_asked nodes me (operations.Client group area start manner) body = Ok (Some (inputs.Client area start group))
input_asked nodes me other body = Ok None

-- the result of a call, which is the one that is said, unless memory ran out
abbrev pub Gives : {A : Type 0} → Result A RouteFault → Result A Refused → Type 0
Gives (Ok value) said = said ≡ Ok value
Gives (Err (faults.Refused refused)) said = said ≡ Err refused
Gives (Err faults.Memory) said = Unit {0}

-- The answer to a request

-- the answer to an operation
abbrev pub response_to : Operation → Hint → Selection → Bool → Answer → Option Message → Holding → List (Option (List ℕ)) → Option (List ℕ) → List ℕ → Response
response_to operations.Message hint selection last answer back h addresses key report = message_response key back last
response_to (operations.Publish group at) hint selection last answer back h addresses key report = publish_response answer (source_in addresses) group last
response_to (operations.Seal group at) hint selection last answer back h addresses key report = seal_response answer (source_in addresses) group last
response_to (operations.Client group area start manner) hint selection last answer back h addresses key report =
    group_response (record { group = group; start = start; manner = manner; hint = hint; selection = selection; last = last }) answer h addresses
response_to (operations.Probe manner) hint selection last answer back h addresses key report = probe_response manner last
response_to (operations.Report what manner) hint selection last answer back h addresses key report = report_response what manner last report

-- The answer to a request for this answer of its step, with this message that goes back to the sender of a message, by
-- the node's holding of the group, the addresses and the key of the network, and the report of the node; `last` says
-- that the request is the last of its connection whatever it asks.
abbrev pub response_for : Asked → Bool → Answer → Option Message → Holding → List (Option (List ℕ)) → Option (List ℕ) → List ℕ → Response
response_for asked last answer back h addresses key report =
    response_to asked.operation asked.hint asked.selection last answer back h addresses key report

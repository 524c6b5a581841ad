-- The answer to a refused request, and its line.
use Rattle.std.specs.Prelude.{ℕ, if◌then◌else◌, Option, Some, None, option_map, List, ◌++◌, codes, decimal}
use Rattle.oc_http.specs.declared.fault.HttpFault.{HttpFault}
use Rattle.oc_http.specs.declared.fault.HttpFault.TheVariants as http
use Rattle.oc_http.specs.declared.framing.Persistence.{Persistence}
use Rattle.oc_http.specs.declared.framing.Persistence.TheVariants.{Close, Keep}
use Rattle.oc_http.specs.declared.reply.Reply.{Reply}
use Rattle.oc_routes.specs.Askers.{gets_head_alone}
use Rattle.oc_routes.specs.Reasons.{refused_line, reply_text, telling}
use Rattle.oc_routes.specs.declared.asker.Asker.TheVariants.{Client}
use Rattle.oc_routes.specs.declared.fault.RouteFault.{RouteFault}
use Rattle.oc_routes.specs.declared.fault.RouteFault.TheVariants as faults
use Rattle.oc_routes.specs.declared.refused.Refused.{Refused}
use Rattle.oc_routes.specs.declared.refused.Refused.TheVariants.{Source, Ended, Head, HeadLong, Fields, Host, Coding, Length, BodyLong, Method, Path, Query, Denied, Mac, Message, Body, At}
use Rattle.oc_routes.specs.declared.verdict.Refusal.{Refusal}

-- a fault of a head or a body refuses its request by the same name; only where memory ran out no request is refused
abbrev pub fault_of_http : HttpFault → RouteFault
fault_of_http http.Source = faults.Refused Source
fault_of_http http.Ended = faults.Refused Ended
fault_of_http http.Head = faults.Refused Head
fault_of_http http.HeadLong = faults.Refused HeadLong
fault_of_http http.Fields = faults.Refused Fields
fault_of_http http.Host = faults.Refused Host
fault_of_http (http.Coding both) = faults.Refused (Coding both)
fault_of_http (http.Length missing) = faults.Refused (Length missing)
fault_of_http http.BodyLong = faults.Refused BodyLong
fault_of_http http.Memory = faults.Memory

-- the status of the reply; a connection that failed or ended gets none
abbrev pub status_of : Refused → Option ℕ
status_of Source = None
status_of Ended = None
status_of Head = Some 400
status_of HeadLong = Some 431
status_of Fields = Some 431
status_of Host = Some 400
status_of (Coding both) = Some (if both then 400 else 501)
status_of (Length missing) = Some (if missing then 411 else 400)
status_of BodyLong = Some 413
status_of Method = Some 405
status_of Path = Some 404
status_of Query = Some 400
status_of (Denied rule needs_token) = Some (if needs_token then 401 else 403)
status_of Mac = Some 403
status_of Message = Some 400
status_of Body = Some 400
status_of (At length) = Some 409

-- the rule that the reply names
abbrev pub rule_of : Refused → Option ℕ
rule_of (Denied rule needs_token) = Some rule
rule_of refused = None

-- the length of a group that the reply names
abbrev pub group_length_of : Refused → Option ℕ
group_length_of (At length) = Some length
group_length_of refused = None

-- the reply of this status to a refused request: it names the rule that denies it, or the length of its group
abbrev pub refusal : ℕ → Refused → Reply
refusal status refused = record (telling status (refused_line refused)) { rule = rule_of refused; group_length = group_length_of refused }

-- the fate of the connection after a refusal
abbrev pub fate_of : Option ℕ → Persistence
fate_of None = Close
fate_of (Some count) = Keep

-- the text of that reply; a connection that failed or ended gets none
abbrev pub refusal_text : Refusal → Option (List ℕ)
refusal_text r = option_map (λ status. reply_text (gets_head_alone r.asker) (refusal status r.why) (fate_of r.kept)) (status_of r.why)

-- the refusal of a request that is no HEAD, or whose client is told nothing
abbrev pub refusing : Option ℕ → Refused → Refusal
refusing kept why = record { why = why; asker = Client; kept = kept }

-- the word for the cause of a refusal
abbrev pub why_text : Refused → List ℕ
why_text Source = codes "source"
why_text Ended = codes "ended"
why_text Head = codes "head"
why_text HeadLong = codes "headlong"
why_text Fields = codes "fields"
why_text Host = codes "host"
why_text (Coding both) = codes "coding"
why_text (Length missing) = codes "length"
why_text BodyLong = codes "bodylong"
why_text Method = codes "method"
why_text Path = codes "path"
why_text Query = codes "query"
why_text (Denied rule needs_token) = codes "denied " ++ decimal rule
why_text Mac = codes "mac"
why_text Message = codes "message"
why_text Body = codes "body"
why_text (At length) = codes "at " ++ decimal length

-- `! WHY`
abbrev pub refusal_line : Refused → List ℕ
refusal_line refused = codes "! " ++ why_text refused ++ codes "\n"

-- The counts of a running node, deed by deed.
use Rattle.std.specs.Prelude.{ℕ, Option, None, Some, List}
use Rattle.oc_base.specs.declared.cert.Cert.{Cert}
use Rattle.oc_model.specs.declared.answer.Answer.{Answer}
use Rattle.oc_model.specs.Node.{Control}
use Rattle.oc_routes.specs.Refusals.{refusal_text}
use Rattle.oc_routes.specs.Tallies.{TallyView, with_answer, with_news, with_refused, with_reply, with_sender}
use Rattle.oc_routes.specs.declared.asker.Asker.{Asker}
use Rattle.oc_routes.specs.declared.asker.Asker.TheVariants.{Node}
use Rattle.oc_routes.specs.declared.refused.Refused.{Refused}
use Rattle.oc_routes.specs.declared.refused.Refused.TheVariants as refusals
use Rattle.oc_routes.specs.declared.routes.Operation.{Operation}
use Rattle.oc_routes.specs.declared.routes.Operation.TheVariants as asks
use Rattle.oc_routes.specs.declared.tally.MessageFault.{MessageFault}
use Rattle.oc_routes.specs.declared.tally.MessageFault.TheVariants.{Mac, Message}
use Rattle.oc_routes.specs.declared.verdict.Refusal.{Refusal}

-- Inputs

-- the counts after an input of this sender that had this answer and led to this state, with the table before, where it may have changed
abbrev pub noted : Option ℕ → Option (List Cert) → Answer → Control → TallyView → TallyView
noted sender known answer n t = with_news known n.kept.table n.soft.clock (with_sender sender n.soft.clock (with_answer answer t))

-- Replies

-- the counts after a reply of which this text was given; the reply to a message is none to a client
abbrev pub with_reply_to : Operation → List ℕ → TallyView → TallyView
with_reply_to asks.Message text t = t
with_reply_to asked text t = with_reply text t

-- the counts after the refusal of a client, where it was given a text
abbrev pub with_refusal : Option (List ℕ) → TallyView → TallyView
with_refusal None t = t
with_refusal (Some text) t = with_reply text t

-- the fault of a message that was refused so, where the request brought one
abbrev pub message_fault : Refused → Option MessageFault
message_fault refusals.Mac = Some Mac
message_fault refusals.Message = Some Message
message_fault why = None

-- the counts after the refusal of this sender; the reply to a node is none to a client
abbrev pub with_refusal_to : Asker → Option (List ℕ) → TallyView → TallyView
with_refusal_to Node text t = t
with_refusal_to asker text t = with_refusal text t

abbrev pub with_refused_by : Option MessageFault → Asker → Option (List ℕ) → TallyView → TallyView
with_refused_by (Some fault) asker text t = with_refused fault t
with_refused_by None asker text t = with_refusal_to asker text t

-- the counts after a request that was refused
abbrev pub with_refused_request : Refusal → TallyView → TallyView
with_refused_request refusal t = with_refused_by (message_fault refusal.why) refusal.asker (refusal_text refusal) t

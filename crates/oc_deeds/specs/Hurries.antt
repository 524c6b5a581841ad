-- The causes for which the next tick comes soon.
use Rattle.std.specs.Prelude.{Bool, false, ◌==◌, Option, None, Some}
use Rattle.oc_base.specs.Groups.{shelf}
use Rattle.oc_model.specs.declared.answer.Answer.{Answer}
use Rattle.oc_model.specs.declared.input.Input.{Input}
use Rattle.oc_model.specs.Node.{Node}
use Rattle.oc_routes.specs.Conditions.{unmet}
use Rattle.oc_routes.specs.declared.verdict.Verdict.{Verdict}
use Rattle.oc_routes.specs.declared.verdict.Verdict.TheVariants as verdicts
use Rattle.oc_routes.specs.Publish.{publish_status}
use Rattle.oc_routes.specs.Seal.{seal_status}
use Rattle.oc_routes.specs.declared.verdict.Refusal.{Refusal}
use Rattle.oc_routes.specs.declared.routes.Operation.{Operation}
use Rattle.oc_routes.specs.declared.routes.Operation.TheVariants as asks
use Rattle.oc_routes.specs.declared.verdict.Request.{Request}
use Rattle.oc_deeds.specs.Asks.{answer_now, settled_at}
use Rattle.oc_deeds.specs.declared.came.Came.{Came}
use Rattle.oc_deeds.specs.declared.came.Came.TheVariants as comes

-- a publish or a seal that was answered by 200
abbrev pub hurries : Operation → Answer → Bool
hurries (asks.Publish group at) answer = publish_status answer == 200
hurries (asks.Seal group at) answer = seal_status answer == 200
hurries other answer = false

abbrev pub input_hurries : Operation → Option Input → Node → Bool
input_hurries asked input n = hurries asked (answer_now input n)

-- a request hurries the tick as it is answered, unless it is refused
abbrev pub hurries_unless : Option Refusal → Request → Node → Bool
hurries_unless (Some refusal) request n = false
hurries_unless None request n = input_hurries request.asked.operation (settled_at n.groups request).input n

abbrev pub request_hurries : Request → Node → Bool
request_hurries request n = hurries_unless (unmet request n.control.me (shelf n.groups)) request n

abbrev pub verdict_hurries : Verdict → Node → Bool
verdict_hurries (verdicts.Ask request) n = request_hurries request n
verdict_hurries verdict n = false

-- whether news hurries the tick: a verdict on a request, or the reply of 200 to a message, with its MAC where the network has keys
abbrev pub came_hurries : Came → Node → Bool
came_hurries (comes.Request c count verdict) n = verdict_hurries verdict n
came_hurries (comes.Reply input taken refused) n = taken
came_hurries came n = false

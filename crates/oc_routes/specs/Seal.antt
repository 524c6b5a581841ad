-- A POST of a group with a part `seal` in its query, and without a body: the group is closed.
use Rattle.std.specs.Prelude.{⊤, ℕ, Bool, ◌==◌, if◌then◌else◌, Option, Some, Result, Ok, Err, List, length}
use Rattle.oc_model.specs.declared.answer.Answer.{Answer}
use Rattle.oc_model.specs.declared.answer.Answer.TheVariants as answers
use Rattle.oc_model.specs.declared.input.Input.{Input}
use Rattle.oc_model.specs.declared.input.Input.TheVariants as inputs
use Rattle.oc_routes.specs.Reasons.{seal_line}
use Rattle.oc_routes.specs.Responses.{status_alone, told}
use Rattle.oc_routes.specs.declared.refused.Refused.{Refused}
use Rattle.oc_routes.specs.declared.refused.Refused.TheVariants as refusals
use Rattle.oc_routes.specs.declared.response.Response.{Response}

-- the input of a seal; a body is refused
abbrev pub seal_input : List ℕ → List ℕ → Result (Option Input) Refused
seal_input group body = if length body == 0 then Ok (Some (inputs.Seal group)) else Err refusals.Body

-- the answers of the step of a seal
abbrev pub IsSealAnswer : Answer → Type 0
IsSealAnswer answers.Ok = ⊤
IsSealAnswer answers.Ignored = ⊤
IsSealAnswer answers.NotSource = ⊤
IsSealAnswer answers.NoGroup = ⊤
IsSealAnswer answer = ⊥

-- the status for a seal, which is answered `Ok`, `Ignored`, `NotSource` or `NoGroup`
abbrev pub seal_status : Answer → ℕ
seal_status answers.Ok = 200
seal_status answers.Ignored = 200
seal_status answers.NoGroup = 404
seal_status refusal = 403

-- the reply to a seal of this group, where the source has this address
abbrev pub seal_response : Answer → List ℕ → List ℕ → Bool → Response
seal_response answer source group last =
    if seal_status answer == 200 then status_alone 200 last else told (seal_status answer) (seal_line answer source group) last

-- A POST of a group: its body is added at the end of the group.
use Rattle.std.specs.Prelude.{⊤, ℕ, Bool, ◌==◌, if◌then◌else◌, List}
use Rattle.oc_model.specs.declared.answer.Answer.{Answer}
use Rattle.oc_model.specs.declared.answer.Answer.TheVariants as answers
use Rattle.oc_routes.specs.Reasons.{publish_line}
use Rattle.oc_routes.specs.Responses.{status_alone, told}
use Rattle.oc_routes.specs.declared.response.Response.{Response}

-- the answers of the step of a publish
abbrev pub IsPublishAnswer : Answer → Type 0
IsPublishAnswer answers.Ok = ⊤
IsPublishAnswer answers.NotSource = ⊤
IsPublishAnswer answers.Sealed = ⊤
IsPublishAnswer answers.Groups = ⊤
IsPublishAnswer answers.TooLong = ⊤
IsPublishAnswer answer = ⊥

-- the status for a publish, which is answered `Ok`, `NotSource`, `Sealed`, `Groups` or `TooLong`
abbrev pub publish_status : Answer → ℕ
publish_status answers.Ok = 200
publish_status answers.TooLong = 413
publish_status refusal = 403

-- the reply to a publish of this group, where the source has this address
abbrev pub publish_response : Answer → List ℕ → List ℕ → Bool → Response
publish_response answer source group last =
    if publish_status answer == 200 then status_alone 200 last else told (publish_status answer) (publish_line answer source group) last

-- The replies to a client of whose group nothing can be given.
use Rattle.std.proofs.Common.{◌≡◌, ℕ, Bool, Some, Result, Ok, Err, IfOk, List, ap, ◌∙◌}
use Rattle.oc_http.specs.declared.reply.Reply.{Reply}
use Rattle.oc_select.specs.Texts.{no_range}
use Rattle.oc_routes.specs.Group.{past_reply, range_reply}
use Rattle.oc_routes.specs.Reasons.{past_line, range_line, telling}
use Rattle.oc_routes.specs.Responses.{whole_for}
use Rattle.oc_routes.specs.declared.manner.Manner.{Manner}
use Rattle.oc_routes.specs.declared.response.Response.{Response}

-- the reply 416 with this line and this range
abbrev told_416 : List ℕ → List ℕ → Reply
told_416 line range = record (telling 416 line) { content_range = Some range }

ranged : {M : Type 0} (manner : Manner) (last : Bool) (line wanted range none : List ℕ) (reply : Reply) (r : Result Response M) → reply ≡ told_416 line range → line ≡ wanted → range ≡ none
    → IfOk r (λ (x : Response). x ≡ whole_for manner reply last) → IfOk r (λ (x : Response). x ≡ whole_for manner (told_416 wanted none) last)
ranged manner last line wanted range none reply (Ok x) made told tells is =
    is ∙ ap (λ (y : Reply). whole_for manner y last) (made ∙ ap (λ (l : List ℕ). told_416 l range) told ∙ ap (λ (n : List ℕ). told_416 wanted n) tells)
ranged manner last line wanted range none reply (Err e) made told tells is = tt

pub past_told : {M : Type 0} (manner : Manner) (last : Bool) (length : ℕ) (line range : List ℕ) (reply : Reply) (r : Result Response M) → reply ≡ told_416 line range → line ≡ past_line length → range ≡ no_range length
    → IfOk r (λ (x : Response). x ≡ whole_for manner reply last) → IfOk r (λ (x : Response). x ≡ whole_for manner (past_reply length) last)
past_told manner last length line range reply r made told tells is = ranged manner last line (past_line length) range (no_range length) reply r made told tells is

pub range_told : {M : Type 0} (manner : Manner) (last : Bool) (length : ℕ) (line range : List ℕ) (reply : Reply) (r : Result Response M) → reply ≡ told_416 line range → line ≡ range_line length → range ≡ no_range length
    → IfOk r (λ (x : Response). x ≡ whole_for manner reply last) → IfOk r (λ (x : Response). x ≡ whole_for manner (range_reply length) last)
range_told manner last length line range reply r made told tells is = ranged manner last line (range_line length) range (no_range length) reply r made told tells is

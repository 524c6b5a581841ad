-- The hint in the query of a GET or HEAD of a group, besides start and area.
use Rattle.std.specs.Prelude.{ℕ, Bool, true, false, if◌then◌else◌, Option, Some, None, Result, Ok, Err, List, codes}
use Rattle.oc_base.specs.declared.limits.TheConstants.{MAX_START}
use Rattle.oc_http.specs.Queries.{parts}
use Rattle.oc_http.specs.declared.head.Head.{Head}
use Rattle.oc_http.specs.declared.head.Method.{Method}
use Rattle.oc_http.specs.declared.head.Method.TheVariants as methods
use Rattle.oc_policy.specs.declared.rule.Rule.{Rule}
use Rattle.oc_select.specs.declared.selection.Selection.TheVariants.{Whole}
use Rattle.oc_routes.specs.Queries.{first_value, has_part, number_told}
use Rattle.oc_routes.specs.Routes.{asked}
use Rattle.oc_routes.specs.declared.routes.Operation.{Operation}
use Rattle.oc_routes.specs.declared.routes.Operation.TheVariants as asks
use Rattle.oc_routes.specs.declared.refused.Refused.{Refused}
use Rattle.oc_routes.specs.declared.refused.Refused.TheVariants as refusals
use Rattle.oc_routes.specs.declared.hint.Asked.{Asked}
use Rattle.oc_routes.specs.declared.hint.Hint.{Hint}
use Rattle.oc_routes.specs.declared.hint.Hint.TheVariants.{Plain, Here, Of, Known}

-- the hint of these parts: `here` counts before both others, and `of=` before `known`
abbrev pub hint_of : Bool → Bool → Option ℕ → Hint
hint_of true known of = Here
hint_of false known (Some length) = Of length
hint_of false known None = if known then Known else Plain

-- the hint of a query, with the length in its first `of=`; an `of=` that is no number is refused, with `here` too
abbrev pub hinted : Bool → Bool → Result (Option ℕ) Refused → Result Hint Refused
hinted here known (Ok of) = Ok (hint_of here known of)
hinted here known (Err why) = Err why

abbrev pub hint_in : List ℕ → Result Hint Refused
hint_in query =
    hinted (has_part (codes "here") (parts query)) (has_part (codes "known") (parts query)) (number_told MAX_START (first_value (codes "of=") (parts query)))

-- the hint of a query for a group, which is looked at before the access rules; that of a report is looked at as well, and tells nothing
abbrev pub with_hint : Result Operation Refused → Result Hint Refused → Result Asked Refused
with_hint (Ok (asks.Client group area start manner)) (Ok hint) = Ok (record { operation = asks.Client group area start manner; hint = hint; selection = Whole })
with_hint (Ok (asks.Client group area start manner)) (Err why) = Err why
with_hint (Ok (asks.Report report manner)) (Ok hint) = Ok (record { operation = asks.Report report manner; hint = Plain; selection = Whole })
with_hint (Ok (asks.Report report manner)) (Err why) = Err why
with_hint (Ok other) told = Ok (record { operation = other; hint = Plain; selection = Whole })
with_hint (Err (refusals.Denied rule needs_token)) (Ok hint) = Err (refusals.Denied rule needs_token)
with_hint (Err (refusals.Denied rule needs_token)) (Err why) = Err why
with_hint (Err other) told = Err other

-- the hint of a request, which only a GET or HEAD has
abbrev pub hint_for : Method → List ℕ → Result Hint Refused
hint_for methods.Get query = hint_in query
hint_for methods.Head query = hint_in query
hint_for methods.Post query = Ok Plain
hint_for methods.Other query = Ok Plain

-- The operation and the hint of a head under these access rules, or the first fault: method, path, query, rules.
abbrev pub asked_with_hint : Head → List Rule → Result Asked Refused
asked_with_hint head rules = with_hint (asked head rules) (hint_for head.method head.query)

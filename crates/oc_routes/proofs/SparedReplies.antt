-- A head's operation, with its query's hint, is never refused as a body that is no message, nor as a call that failed.
use Rattle.std.proofs.Common.{ℕ, Bool, Option, Result, Ok, Err, List, codes}
use Rattle.oc_base.specs.declared.limits.TheConstants.{MAX_START}
use Rattle.oc_http.specs.Queries.{parts}
use Rattle.oc_http.specs.declared.head.Head.{Head}
use Rattle.oc_http.specs.declared.head.Method.{Method}
use Rattle.oc_http.specs.declared.head.Method.TheVariants as methods
use Rattle.oc_policy.specs.declared.rule.Rule.{Rule}
use Rattle.oc_routes.proofs.Spared.{IsSpared, spared_asked, spared_told}
use Rattle.oc_routes.specs.Queries.{first_value, has_part, number_told}
use Rattle.oc_routes.specs.Routes.{asked}
use Rattle.oc_routes.specs.declared.refused.Refused.{Refused}
use Rattle.oc_routes.specs.declared.refused.Refused.TheVariants as refusals
use Rattle.oc_routes.specs.declared.routes.Operation.{Operation}
use Rattle.oc_routes.specs.declared.routes.Operation.TheVariants as asks
use Rattle.oc_routes.specs.Hints.{asked_with_hint, hint_for, hint_in, hinted, with_hint}
use Rattle.oc_routes.specs.declared.hint.Hint.{Hint}

spared_hinted : (here known : Bool) (r : Result (Option ℕ) Refused) → IsSpared r → IsSpared (hinted here known r)
spared_hinted here known (Ok of) h = tt
spared_hinted here known (Err why) h = h

spared_hint_in : (query : List ℕ) → IsSpared (hint_in query)
spared_hint_in query =
    spared_hinted (has_part (codes "here") (parts query)) (has_part (codes "known") (parts query)) (number_told MAX_START (first_value (codes "of=") (parts query)))
    (spared_told MAX_START (first_value (codes "of=") (parts query)))

spared_hint : (method : Method) (query : List ℕ) → IsSpared (hint_for method query)
spared_hint methods.Get query = spared_hint_in query
spared_hint methods.Head query = spared_hint_in query
spared_hint methods.Post query = tt
spared_hint methods.Other query = tt

spared_both : (a : Result Operation Refused) (h : Result Hint Refused) → IsSpared a → IsSpared h → IsSpared (with_hint a h)
spared_both (Ok (asks.Client group area start manner)) (Ok hint) s t = tt
spared_both (Ok (asks.Client group area start manner)) (Err why) s t = t
spared_both (Ok (asks.Report report manner)) (Ok hint) s t = tt
spared_both (Ok (asks.Report report manner)) (Err why) s t = t
spared_both (Ok other) h s t = tt
spared_both (Err (refusals.Denied rule needs_token)) (Ok hint) s t = tt
spared_both (Err (refusals.Denied rule needs_token)) (Err why) s t = t
spared_both (Err why) h s t = s

-- the operation of a head is not such a refusal
pub head_spared : (head : Head) (rules : List Rule) → IsSpared (asked_with_hint head rules)
head_spared head rules = spared_both (asked head rules) (hint_for head.method head.query) (spared_asked head rules) (spared_hint head.method head.query)

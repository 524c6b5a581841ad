-- A head's operation is never refused as a body that is no message, nor as a call that failed.
use Rattle.std.proofs.Common.{ℕ, Bool, true, false, Option, Some, None, Result, Ok, Err, List, codes, if◌then◌else◌}
use Rattle.std.specs.Prelude.{not}
use Rattle.oc_base.specs.Names.{parsed_name}
use Rattle.oc_base.specs.Steps.{◌>>=◌, with_fault}
use Rattle.oc_base.specs.Words.{number_in}
use Rattle.oc_base.specs.declared.group_name.NameFault.{NameFault}
use Rattle.oc_base.specs.declared.limits.TheConstants.{MAX_AREA, MAX_GROUP_BYTES, MAX_START}
use Rattle.oc_http.specs.Queries.{parts}
use Rattle.oc_http.specs.declared.head.Head.{Head}
use Rattle.oc_http.specs.declared.head.Method.{Method}
use Rattle.oc_http.specs.declared.head.Method.TheVariants as methods
use Rattle.oc_policy.specs.Rules.{verdict}
use Rattle.oc_policy.specs.declared.deciding.Decision.{Decision}
use Rattle.oc_policy.specs.declared.deciding.Decision.TheVariants.{Allowed, Denied}
use Rattle.oc_policy.specs.declared.rule.Action.{Action}
use Rattle.oc_policy.specs.declared.rule.Rule.{Rule}
use Rattle.oc_routes.specs.Queries.{condition_in, first_value, number_or_nought, number_told, query_in}
use Rattle.oc_routes.specs.Routes.{action_of, asked, group_in, is_conditional, is_own, name_of, named_group, permitted, permitted_as, permitted_by, resource_at, resource_named, resource_or}
use Rattle.oc_routes.specs.declared.refused.Refused.{Refused}
use Rattle.oc_routes.specs.declared.refused.Refused.TheVariants as refusals
use Rattle.oc_routes.specs.declared.routes.Resource.{Resource}

-- another refusal
abbrev pub IsOther : Refused → Type 0
IsOther refusals.Message = ⊥
IsOther refusals.Source = ⊥
IsOther why = Unit {0}

-- a result that is not such a refusal
abbrev pub IsSpared : {A : Type 0} → Result A Refused → Type 0
IsSpared (Ok x) = Unit {0}
IsSpared (Err why) = IsOther why

spared_then : {A B : Type 0} (r : Result A Refused) (f : A → Result B Refused) → IsSpared r → ((x : A) → IsSpared (f x)) → IsSpared (r >>= f)
spared_then (Ok x) f h k = k x
spared_then (Err why) f h k = h

spared_fault : {A E : Type 0} (r : Result A E) → IsSpared (with_fault refusals.Query r)
spared_fault (Ok x) = tt
spared_fault (Err e) = tt

spared_nought : (most : ℕ) (value : Option (List ℕ)) → IsSpared (number_or_nought most value)
spared_nought most None = tt
spared_nought most (Some value) = spared_fault (number_in 0 most value)

pub spared_told : (most : ℕ) (value : Option (List ℕ)) → IsSpared (number_told most value)
spared_told most None = tt
spared_told most (Some value) = spared_then (with_fault refusals.Query (number_in 0 most value)) (λ (n : ℕ). Ok (Some n)) (spared_fault (number_in 0 most value)) (λ n. tt)

spared_condition : (query : List ℕ) (conditional : Bool) → IsSpared (condition_in query conditional)
spared_condition query true = spared_told MAX_GROUP_BYTES (first_value (codes "at=") (parts query))
spared_condition query false = tt

spared_query : (query : List ℕ) (conditional : Bool) → IsSpared (query_in query conditional)
spared_query query conditional =
    spared_then (number_or_nought MAX_START (first_value (codes "start=") (parts query))) _ (spared_nought MAX_START (first_value (codes "start=") (parts query)))
    (λ start. spared_then (number_or_nought MAX_AREA (first_value (codes "area=") (parts query))) _ (spared_nought MAX_AREA (first_value (codes "area=") (parts query)))
    (λ area. spared_then (condition_in query conditional) _ (spared_condition query conditional) (λ at. tt)))

spared_action : (method : Method) → IsSpared (action_of method)
spared_action methods.Get = tt
spared_action methods.Head = tt
spared_action methods.Post = tt
spared_action methods.Other = tt

spared_named : (r : Result (List ℕ) NameFault) → IsSpared (named_group r)
spared_named (Ok group) = tt
spared_named (Err fault) = tt

spared_own : (path : List ℕ) (own : Bool) → IsSpared (if own then Err refusals.Path else group_in path)
spared_own path true = tt
spared_own path false = spared_named (parsed_name path)

spared_or : (row : Option Resource) (path : List ℕ) → IsSpared (resource_or row path)
spared_or (Some resource) path = tt
spared_or None path = spared_own path (is_own path)

-- the resource of a path, whatever rows the table has
spared_resource : (action : Action) (path : Option (List ℕ)) → IsSpared (resource_named action path)
spared_resource action None = tt
spared_resource action (Some path) = spared_or (resource_at action path) path

spared_allowed : (rules : List Rule) (action : Action) (name : List ℕ) (area : ℕ) (bare : Bool) (v : Decision) → IsSpared (permitted_by rules action name area bare v)
spared_allowed rules action name area bare Allowed = tt
spared_allowed rules action name area bare (Denied rule) = tt

spared_permitted : (rules : List Rule) (action : Action) (name : Option (List ℕ)) (area : ℕ) (bare : Bool) (shown : Option (List ℕ)) → IsSpared (permitted_as rules action name area bare shown)
spared_permitted rules action None area bare shown = tt
spared_permitted rules action (Some name) area bare shown = spared_allowed rules action name area bare (verdict rules action (Some name) area shown)

pub spared_asked : (head : Head) (rules : List Rule) → IsSpared (asked head rules)
spared_asked head rules =
    spared_then (action_of head.method) _ (spared_action head.method)
    (λ action. spared_then (resource_named action head.path) _ (spared_resource action head.path)
    (λ resource. spared_then (query_in head.query (is_conditional action resource)) _ (spared_query head.query (is_conditional action resource))
    (λ query. spared_then (permitted rules action resource query.area (not head.has_authorization) head.authorization) _ (spared_permitted rules action (name_of resource) query.area (not head.has_authorization) head.authorization) (λ allowed. tt))))

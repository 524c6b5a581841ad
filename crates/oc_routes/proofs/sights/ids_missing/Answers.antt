use Rattle.std.proofs.Common.{◌+◌, ◌-◌, ◌++◌, ◌∙◌, ℕ, List, filter, sym, ap, arith}
use Rattle.oc_routes.proofs.Ids.{id_taken, id_passed, ids_found}
use Rattle.oc_routes.specs.Sights.{ids_from, ids_with, is_missing, sight_of}
use Rattle.oc_routes.proofs.sights.ids_missing.Goals as goal
use Rattle.oc_routes.proofs.sights.ids_missing.Goals.{then-is_missing+in_ok-push, else-is_missing}

pub loop-before-preserved : goal.loop-before-preserved
loop-before-preserved c =
    let s = sight_of c.args.seen.now in
    let k = c.loop-before.before in
    let nodes = s.ids in
    let out = c.loop-before.ids.items in
    let rest : List ℕ = filter (is_missing s) (ids_from (k + 1 + 1) (nodes - (k + 1))) in
    elim c.if-is_missing.branch [
      | then-is_missing+in_ok-push found ↦
          ap (λ (xs : List ℕ). xs ++ rest) (ap (λ v. v.items) found.ids-is ∙ found.in_ok-push.ensures.items)
          ∙ id_taken (is_missing s) k nodes out (ids_with (is_missing s) s) (omega arith) (sym c.is_missing.ensures ∙ found.if-is_missing.true) c.loop-before.invariant
      | else-is_missing other ↦
          ap (λ (xs : List ℕ). xs ++ rest) (ap (λ v. v.items) other.ids-is)
          ∙ id_passed (is_missing s) k nodes out (ids_with (is_missing s) s) (omega arith) (sym c.is_missing.ensures ∙ other.if-is_missing.false) c.loop-before.invariant
    ]

pub returns : goal.returns
returns c =
    let s = sight_of c.args.seen.now in
    ids_found (is_missing s) c.loop-before.before s.ids c.loop-before.ids.items (ids_with (is_missing s) s) (omega arith) c.loop-before.invariant

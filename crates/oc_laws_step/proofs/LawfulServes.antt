-- Rules 15 (client) and 16 (measured) keep a node lawful.
use Rattle.std.proofs.Common.{ℕ, ◌+◌, ◌-◌, ◌≤◌, ◌==◌, if◌then◌else◌, Option, Some, None, List}
use Rattle.oc_base.specs.declared.shelf.Shelf.{Shelf}
use Rattle.oc_model.specs.declared.answer.Answer.TheVariants as words
use Rattle.oc_model.specs.declared.record.Record.TheVariants as records
use Rattle.oc_base.specs.declared.limits.TheConstants.{MAX_HOPS}
use Rattle.oc_base.specs.Lawful.{IsNode, IsRate}
use Rattle.oc_model.specs.Measures.{reading_of, same_reading}
use Rattle.oc_model.specs.Numbers.{capped, at, put_at}
use Rattle.oc_model.specs.Plan.{Plan, write, answers, with_soft}
use Rattle.oc_model.specs.Serving.{serves, redirects, server_for, client_of, client, may_move, measured}
use Rattle.oc_base.specs.Shelves.{line_of}
use Rattle.oc_laws_step.specs.LawfulNode.{IsLawfulPlan}
use Rattle.oc_laws_step.proofs.Goes.{either}
use Rattle.oc_laws_step.proofs.LawfulFolds.{lawful_write, lawful_answers, lawful_soft, lawful_lists}

module _ (nodes : ℕ) where
  lawful_serves : (o : Plan) (count : ℕ) → IsLawfulPlan nodes o → IsLawfulPlan nodes (serves o count)
  lawful_serves o count ok =
      lawful_answers nodes (with_soft o (record o.node.soft { served = capped (o.node.soft.served + 1) })) (words.Serve count)
      (lawful_soft nodes o (record o.node.soft { served = capped (o.node.soft.served + 1) }) (record { clock = ok.node.soft.clock; tries = ok.node.soft.tries; search = ok.node.soft.search }) ok)

  lawful_redirects : (k : Option ℕ) (o : Plan) (count : ℕ) → IsLawfulPlan nodes o → IsLawfulPlan nodes (redirects k o count)
  lawful_redirects None o count ok = lawful_serves o count ok
  lawful_redirects (Some k) o count ok =
      lawful_answers nodes (record o { node = record o.node { counts = put_at o.node.counts k (capped (at o.node.counts k 0 + 1)) } }) (words.Redirect k)
      (lawful_lists nodes o o.node.leases o.node.rates (put_at o.node.counts k (capped (at o.node.counts k 0 + 1))) ok.node.rates ok)

  lawful_client_of : (l : Option Shelf) (o : Plan) (area start : ℕ) → IsLawfulPlan nodes o → IsLawfulPlan nodes (client_of l o area start)
  lawful_client_of None o area start ok = lawful_answers nodes o words.NoGroup ok
  lawful_client_of (Some l) o area start ok = lawful_redirects (server_for o.node area) o (l.held - start) ok

  pub lawful_client : (o : Plan) (shelf : List Shelf) (area start : ℕ) (g : List ℕ) → IsLawfulPlan nodes o → IsLawfulPlan nodes (client o shelf area start g)
  lawful_client o shelf area start g ok = lawful_client_of (line_of g shelf) o area start ok

  pub lawful_measured : (o : Plan) (p rate hops : ℕ) → IsNode nodes p → IsRate rate → hops ≤ MAX_HOPS → IsLawfulPlan nodes o → IsLawfulPlan nodes (measured o p rate hops)
  lawful_measured o p rate hops to fast near ok =
      let wrote : Plan = write o (records.Rate p rate hops) in
      either (p == o.node.me) (IsLawfulPlan nodes) (answers o words.Own)
      (if same_reading (reading_of o.node.kept.measures p) (record { rate = rate; hops = hops }) then o else may_move wrote)
      (lawful_answers nodes o words.Own ok)
      (either (same_reading (reading_of o.node.kept.measures p) (record { rate = rate; hops = hops })) (IsLawfulPlan nodes) o (may_move wrote)
      ok
      (lawful_soft nodes wrote (record o.node.soft { moves = 0 }) (record { clock = ok.node.soft.clock; tries = ok.node.soft.tries; search = ok.node.soft.search })
      (lawful_write nodes o (records.Rate p rate hops) (to, fast, near) ok)))
